-- What it means that a command that spends a token is in, or isn't. Entries go newest first.
use Rattle.std.specs.Prelude.{⊤, ◌≡◌, ◌⊎◌, ℕ, ◌+◌, ◌<◌, Some, None, IsSome, List, ◌∷◌, ◌++◌}
use Rattle.update_core.specs.declared.updates.Update.{Update}
use Rattle.store_core.specs.declared.shards.ShardId.{ShardId}
use Rattle.store_core.specs.declared.part_keys.PartKey.{PartKey}
use Rattle.store_core.specs.declared.calls.Call.{Call}
use Rattle.store_core.specs.declared.replies.Reply.{Reply}
use Rattle.store_core.specs.declared.replies.Reply.TheVariants as replies
use Rattle.store_core.specs.declared.entries.Entry.{Entry}
use Rattle.store_core.specs.Stores.{Stored}
use Rattle.store_core.specs.Histories.{reply}
use Rattle.store_core.specs.Ports.{Answered, OfOthers}
use Rattle.store_core.specs.Newest.{mine_back, replay_back}
use Rattle.state_core.specs.declared.kinds.Kind.{Kind}
use Rattle.state_core.specs.declared.transitions.Transition.{Transition}
use Rattle.state_core.specs.Lists.{Among}
use Rattle.state_core.specs.States.{ShardState}
use Rattle.state_core.specs.Steps.{AreKeys, Spends}
use Rattle.version_codec.specs.Reading.{version_in}
use Rattle.update_core.specs.Limits.{most}
use Rattle.history_core.specs.Discipline.{LawfulBack, StoredAs}
use Rattle.history_core.specs.Placing.{Commits, OnlyOne, Placed, placed, places}
use Rattle.history_core.specs.Stands.{StandsFor}
use Rattle.load_core.specs.declared.tries.Tried.{Tried}
use Rattle.load_core.specs.Attempts.{standing_refusal}
use Rattle.load_core.specs.Effects.{CommitsFirst, CommitsNone, CommitsStep, IsShown}
use Rattle.load_core.specs.Following.{FollowsTrying}
use Rattle.load_core.specs.Outcomes.{Newest}
use Rattle.load_core.specs.PartsFollowing.{IsStoredSoFar}
use Rattle.load_core.specs.Setting as setting
use Rattle.token_machine.specs.declared.storings.Storing.{Storing}
use Rattle.token_machine.specs.declared.storeds.Stored.{Stored as Came}
use Rattle.token_machine.specs.declared.storeds.Stored.TheVariants as storeds
use Rattle.token_machine.specs.Following.{Draws, FollowsStoring, Lower}
use Rattle.token_machine.specs.Outcomes.{IsTokenOld}
use Rattle.token_machine.specs.Storings.{IsSound, Moves, call_of}

-- An entry of a client in a lawful history commits a version after another by this transition, when it had stored no part that it
-- hasn't stored by now.
pub record StepAt (client : ℕ) (own : List Answered) (start : Stored) (shard : ShardId) (step : Transition)
    (p : Placed) : Type 0 where
  pub commit : Commits start shard p
  pub number : ℕ
  pub expected_is : commit.expected ≡ Some number
  pub to : ShardState
  pub written : version_in shard (number + 1) commit.bytes ≡ Some (to, step)
  pub client_is : p.entry.client ≡ client
  pub lawful : LawfulBack start (p.entry ∷ p.before)
  pub stored : (k : PartKey) (b : List ℕ) → StoredAs (mine_back start p.before client) k b → StoredAs own k b

-- as this version
abbrev pub StepAs : ℕ → List Answered → Stored → ShardId → Transition → ℕ → Placed → Type 0
StepAs client own start shard step version p = (a : StepAt client own start shard step p) × (version ≡ a.number + 1)

-- the command's entries, the one at this place the newest
abbrev pub command_entries : ℕ → Storing → Entry → List Entry → List Placed
command_entries client s e before = placed e before ∷ places client s.trying.calls before

-- all parts are set and were stored, and of the command's entries one alone commits, by the transition, as this version
pub record IsInOnce (client : ℕ) (s : Storing) (start : Stored) (e : Entry) (before : List Entry) (version : ℕ) : Type 0 where
  pub done : setting.IsDone s.setting
  pub stored : IsStoredSoFar (mine_back start before client) s.setting
  pub once : s.trying.calls < most → OnlyOne (Commits start s.trying.loader.shard)
      (StepAs client (mine_back start before client) start s.trying.loader.shard s.trying.step version)
      (command_entries client s e before)

-- none of them commits
abbrev pub IsInNever : ℕ → Storing → Stored → Entry → List Entry → Type 0
IsInNever client s start e before = s.trying.calls < most → ¬ Among (Commits start s.trying.loader.shard)
    (command_entries client s e before)

-- a call of a client that stores parts under a token of its member and then tries a transition that spends it, in a lawful history
pub record StoresAt (kind : Kind) (member token : ℕ) (s : Storing) (client : ℕ) (list : List Update) (start : Stored) (e : Entry)
    (others es : List Entry) : Type 0 where
  pub sound : IsSound s
  pub own : e.client ≡ client
  pub call_is : call_of s ≡ Some e.call
  pub of_others : OfOthers client others
  pub stands : StandsFor start s.trying.loader.shard list
  pub lawful : LawfulBack start (e ∷ (others ++ es))
  pub follows : FollowsTrying s.trying (mine_back start es client)
  pub draws : Draws kind s.trying.loader.shard member token (mine_back start es client)
  pub storing : FollowsStoring client member token s start es
  pub some_token : 0 < token
  pub spends : Spends s.trying.step member token
  pub keys : AreKeys s.trying.loader.shard member token 0 s.setting.keys
  pub seen : IsSome s.trying.loader.cached

-- what the reply at its place comes to
abbrev pub StoringMoves : Storing → Stored → Entry → List Entry → Storing → Tried → Type 0
StoringMoves s start e before new tried = Moves s (reply (replay_back start before) e) new tried

-- What an outcome means. Where the transition is in, all parts are stored and one entry of the command alone has committed, by it;
-- where it is refused, by the last version's state at a Scan just answered in which the token isn't spent, none has. It is never
-- strange, and never damaged.
abbrev pub LegalStored : ℕ → ℕ → ℕ → Storing → Storing → Stored → Entry → List Entry → Came → Type 0
LegalStored client member token s new start e before (storeds.Now version) = IsInOnce client s start e before version
LegalStored client member token s new start e before (storeds.Before version) = IsInOnce client s start e before version
LegalStored client member token s new start e before (storeds.Refused refusal) =
    (n : Newest s.trying new.trying start e before (λ state. standing_refusal state s.trying.step ≡ Some refusal)) ×
    (¬ IsTokenOld refusal) × (Lower member token n.state → IsInNever client s start e before)
LegalStored client member token s new start e before storeds.Spent =
    Newest s.trying new.trying start e before (λ state. (standing_refusal state s.trying.step ≡ None) × (state.number ≡ most))
LegalStored client member token s new start e before storeds.Going = ⊤
LegalStored client member token s new start e before storeds.Fault = ⊤
LegalStored client member token s new start e before storeds.Strange = ⊥
LegalStored client member token s new start e before (storeds.Damaged damage) = ⊥

-- what a call has committed, by what the reply to it comes to
abbrev pub StoredEffect : ShardId → Transition → Call → Reply → Came → Type 0
StoredEffect shard step call r storeds.Going = CommitsNone r ⊎ CommitsFirst shard call r
StoredEffect shard step call r storeds.Fault = r ≡ replies.Failed
StoredEffect shard step call r (storeds.Now version) = CommitsStep shard step call r
StoredEffect shard step call r (storeds.Damaged damage) = CommitsNone r
StoredEffect shard step call r _ = CommitsNone r × IsShown shard call r
