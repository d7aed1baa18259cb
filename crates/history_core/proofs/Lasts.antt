-- The last version of a shard after a lawful history, of entries that go newest first.
use Rattle.std.proofs.Common.{◌≡◌, ℕ, ◌+◌, ◌≤◌, List, ◌∷◌, inl, inr, refl, arith, subst, sym, ap, ◌∙◌}
use Rattle.update_core.specs.declared.updates.Update.{Update}
use Rattle.store_core.specs.declared.shards.ShardId.{ShardId}
use Rattle.store_core.specs.declared.calls.Call.{Call}
use Rattle.store_core.specs.declared.calls.Call.TheVariants as calls
use Rattle.store_core.specs.declared.outcomes.Outcome.{Outcome}
use Rattle.store_core.specs.declared.outcomes.Outcome.TheVariants.{Took, FailedTook, FailedLost}
use Rattle.store_core.specs.declared.entries.Entry.{Entry}
use Rattle.store_core.specs.Stores.{Stored}
use Rattle.store_core.specs.Histories.{after_outcome}
use Rattle.store_core.specs.Newest.{replay_back, mine_back}
use Rattle.state_core.specs.States.{ShardState}
use Rattle.history_core.specs.Histories.{ever, Shows}
use Rattle.history_core.specs.Discipline.{ShowsState, LawfulBack}
use Rattle.history_core.specs.Stands.{StandsFor, IsLast, StateIn, end_of}
use Rattle.history_core.specs.Laws.{LastIs}
use Rattle.history_core.proofs.Versions.{live, shows_ever}
use Rattle.history_core.proofs.Chains.{version_is}
use Rattle.history_core.proofs.StateFacts.{last_one}
use Rattle.history_core.proofs.Bases.{base_of}
use Rattle.history_core.proofs.StandsAfter.{agree_at, live_ever, stands_after}
use Rattle.history_core.proofs.Shown.{newest_shown}

module _ (start : Stored) (shard : ShardId) (list : List Update) (st : StandsFor start shard list) (es : List Entry) (l : LawfulBack start es) where
  -- what is last in the store is last of all versions that ever were
  pub last_ever : (n : ℕ) (s : ShardState) → LastIs (replay_back start es) shard n s → IsLast (ever start shard es) n × StateIn shard (ever start shard es) n s
  last_ever n s (last, state) =
      let base = base_of start shard list st in
      (last ∙ (agree_at start shard list base es l).next, (state.0, live_ever start shard list base es l n s state.0 state.1))

  -- and the other way round
  pub last_live : (n : ℕ) (s : ShardState) → IsLast (ever start shard es) n → StateIn shard (ever start shard es) n s → LastIs (replay_back start es) shard n s
  last_live n s last state =
      let base = base_of start shard list st in
      elim (stands_after start shard list base es l) [
        | inl e ↦ absurd (
            let a : end_of (live start shard es) ≡ end_of (ever start shard es) = (agree_at start shard list base es l).next in
            let b : end_of (live start shard es) ≡ 0 = ap end_of e.no_version in
            let c : n + 1 ≡ end_of (ever start shard es) = last in
            omega arith)
        | inr c ↦
            let (last2, state2) = last_ever c.number c.last (c.newest, c.state) in
            let (number_is, same) = last_one shard (ever start shard es) c.number n c.last s last2 state2 last state in
            subst (λ (j : ℕ). LastIs (replay_back start es) shard j s) number_is (subst (λ (q : ShardState). LastIs (replay_back start es) shard c.number q) same (c.newest, c.state))
      ]

  -- a state that a client's replies show at the last version is the last version's
  pub shown_last : (client n : ℕ) (s : ShardState) → IsLast ((replay_back start es).logs shard) n → ShowsState (mine_back start es client) shard n s → LastIs (replay_back start es) shard n s
  shown_last client n s last (b, x, shown, reads) =
      let base = base_of start shard list st in
      let there = shows_ever start shard base.begin.first es client n b shown in
      last_live n s (last ∙ (agree_at start shard list base es l).next) (x, version_is shard (ever start shard es) n b s x there reads)

-- a Scan leaves the store as it was
pub scan_keeps : (store : Stored) (shard : ShardId) (from : ℕ) (call : Call) (outcome : Outcome) → call ≡ calls.Scan shard from → after_outcome store call outcome ≡ store
scan_keeps store shard from call outcome c = subst (λ (q : Call). after_outcome store q outcome ≡ store) (sym c) (kept outcome)
  where
    kept : (o : Outcome) → after_outcome store (calls.Scan shard from) o ≡ store
    kept Took = refl
    kept FailedTook = refl
    kept FailedLost = refl

-- a Scan that began at most one past the greatest number shown tells the last version at its place
pub newest_scanned : (start : Stored) (shard : ShardId) (list : List Update) → StandsFor start shard list → (e : Entry) (es : List Entry) → LawfulBack start (e ∷ es) → (from n : ℕ) (s : ShardState) →
    e.call ≡ calls.Scan shard from → e.outcome ≡ Took → from ≤ n + 1 → ShowsState (mine_back start (e ∷ es) e.client) shard n s →
    ((m : ℕ) (b : List ℕ) → Shows (mine_back start (e ∷ es) e.client) shard m b → m ≤ n) → LastIs (replay_back start es) shard n s
newest_scanned start shard list st e es l from n s call took near shown greatest =
    let last = newest_shown start shard (base_of start shard list st).begin.first es e from n shown.0 l call took near shown.2 greatest in
    subst (λ (q : Stored). LastIs q shard n s) (scan_keeps (replay_back start es) shard from e.call e.outcome call) (shown_last start shard list st (e ∷ es) l e.client n s last shown)
