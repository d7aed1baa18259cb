-- What a call of a command under a token has committed.
use Rattle.std.proofs.Common.{◌≡◌, ◌==◌, ◌&&◌, ℕ, Some, inl, inr, sym, subst}
use Rattle.store_core.specs.declared.shards.ShardId.{ShardId}
use Rattle.store_core.specs.declared.calls.Call.{Call}
use Rattle.store_core.specs.declared.replies.Reply.{Reply}
use Rattle.state_core.specs.declared.refusals.Refusal.{Refusal}
use Rattle.state_core.specs.declared.refusals.Refusal.TheVariants as refusals
use Rattle.state_core.specs.declared.transitions.Transition.{Transition}
use Rattle.state_core.proofs.ListLemmas.{bool_cases}
use Rattle.load_core.specs.declared.tries.Tried.{Tried}
use Rattle.load_core.specs.declared.tries.Tried.TheVariants as tries
use Rattle.load_core.specs.declared.tryings.Trying.{Trying}
use Rattle.load_core.specs.Effects.{CommitsNone, IsShown, TriedEffect}
use Rattle.load_core.specs.Trying as trying
use Rattle.load_core.proofs.Effects.{tried_effect}
use Rattle.load_core.proofs.Replied.{stop_shown}
use Rattle.token_machine.specs.declared.storings.Storing.{Storing}
use Rattle.token_machine.specs.Legality.{StoredEffect}
use Rattle.token_machine.specs.Outcomes.{stored, token_outcome}
use Rattle.token_machine.specs.Storings.{IsSound, Moves, call_of}
use Rattle.token_machine.proofs.Ways.{SetWay, Way, call_false, fails, goes, set, set_way, stored_none, try, way}

refused_effect : (shard : ShardId) (step : Transition) (call : Call) (r : Reply) (t : Trying) (token : ℕ) (refusal : Refusal) →
    CommitsNone r × IsShown shard call r → StoredEffect shard step call r (token_outcome t token refusal)
refused_effect shard step call r t token (refusals.TokenOld last) h =
    elim (bool_cases ((last == token) && t.failed)) [ inl e ↦ rw e h | inr e ↦ rw e h ]
refused_effect shard step call r t token other h = h

tried_stored : (t new : Trying) (token : ℕ) (r : Reply) (tried : Tried) → trying.Moves t r new tried → TriedEffect t r new tried →
    StoredEffect t.loader.shard t.step (trying.call_of t) r (stored new token tried)
tried_stored t new token r (tries.Committed version) m h = h.commits
tried_stored t new token r tries.Begun m h = inr h
tried_stored t new token r tries.Again m h = inl h
tried_stored t new token r tries.Goes m h = inl h
tried_stored t new token r tries.Fault m h = h
tried_stored t new token r (tries.Refused refusal) m h =
    refused_effect t.loader.shard t.step (trying.call_of t) r new token refusal
    (h, stop_shown t new r (tries.Refused refusal) tt m)
tried_stored t new token r tries.Spent m h = (h, stop_shown t new r tries.Spent tt m)
tried_stored t new token r (tries.Damaged damage) m h = h

pub storing_effect : (s new : Storing) (token : ℕ) (call : Call) (r : Reply) (tried : Tried) → IsSound s → call_of s ≡ Some call →
    Moves s r new tried → StoredEffect s.trying.loader.shard s.trying.step call r (stored new.trying token tried)
storing_effect s new token call r tried sound call_is moves = by (way s new r tried moves)
  where
    Did : Trying → Tried → Type 0
    Did z k = StoredEffect s.trying.loader.shard s.trying.step call r (stored z token k)

    part : SetWay r tried → Did new.trying tried
    part (goes is at) = subst (Did new.trying) (sym is) (inl (stored_none r at))
    part (fails is at) = subst (Did new.trying) (sym is) at

    by : Way s r new tried → Did new.trying tried
    by (set h m) = part (set_way s new r tried m)
    by (try h (t, m, n)) = subst (λ (z : Storing). Did z.trying tried) (sym n)
        (subst (λ (c : Call). StoredEffect s.trying.loader.shard s.trying.step c r (stored t token tried))
        (sym (call_false s call h call_is)) (tried_stored s.trying t token r tried m
        (tried_effect s.trying t r tried sound.trying m)))
