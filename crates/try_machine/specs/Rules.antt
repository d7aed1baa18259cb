-- What is said of a rule for commands that try one transition. Entries go newest first.
use Rattle.std.specs.Prelude.{⊤, ◌≡◌, ℕ, Option, Some, List, ◌∷◌, ◌++◌}
use Rattle.update_core.specs.declared.updates.Update.{Update}
use Rattle.store_core.specs.declared.shards.ShardId.{ShardId}
use Rattle.store_core.specs.declared.entries.Entry.{Entry}
use Rattle.store_core.specs.Stores.{Stored}
use Rattle.store_core.specs.Ports.{Answered}
use Rattle.store_core.specs.Newest.{mine_back, replay_back}
use Rattle.state_core.specs.declared.refusals.Refusal.{Refusal}
use Rattle.state_core.specs.declared.transitions.Transition.{Transition}
use Rattle.state_core.specs.States.{ShardState}
use Rattle.update_core.specs.Limits.{most}
use Rattle.history_core.specs.Discipline.{Holds}
use Rattle.history_core.specs.Legal.{AtLast}
use Rattle.history_core.specs.Placing.{AtLastScan, IsAnsweredScan, Placed, placed}
use Rattle.history_core.specs.Stands.{end_of}
use Rattle.load_core.specs.declared.polls.Poll.{Poll}
use Rattle.load_core.specs.declared.polls.Poll.TheVariants as polls
use Rattle.load_core.specs.declared.tryings.Trying.{Trying}
use Rattle.load_core.specs.Attempts.{standing_refusal}
use Rattle.load_core.specs.Outcomes.{CallsAt, Committing, Newest}

-- The words of a rule R with answers A.
pub record Rules (R A : Type 0) : Type 1 where
  -- what stays as it is while the command goes on
  pub Fixed : Type 0
  pub fixed : R → Fixed
  -- the transition that is tried for it
  pub step : Fixed → Transition
  -- the rule with the memory that an answer to a commit on the newest state takes
  pub looked : R → Option ShardState → R
  -- what is answered where the shard has no version; None where it is to get its first one
  pub empty : R → Option A
  -- what is answered where the transition is in as a version, which is the newest
  pub committed : R → Option ShardState → ℕ → A
  -- what the command comes to where the newest state refuses the transition
  pub refused : R → Option ShardState → Refusal → Poll A
  -- what the client's own entries say of it
  pub Knows : Fixed → ShardId → List Answered → Type 0
  -- an answer is legal at the end of the command's entries
  pub Legal : Fixed → ShardId → Stored → List Placed → A → Type 0

-- two rules ask the same, and answer the same where the shard has no version
abbrev pub AsksSame : {R A : Type 0} → Rules R A → R → R → Type 0
AsksSame Q old new = (Q.fixed new ≡ Q.fixed old) × (Q.empty new ≡ Q.empty old)

-- the command has ended
abbrev pub IsEnd : {A : Type 0} → Poll A → Type 0
IsEnd polls.Spent = ⊤
IsEnd (polls.Damaged damage) = ⊤
IsEnd (polls.Done answer) = ⊤
IsEnd _ = ⊥

-- what the command has ended with is legal
abbrev pub LegalEnd : {R A : Type 0} → (Q : Rules R A) → Q.Fixed → ShardId → Stored → List Placed → Poll A → Type 0
LegalEnd Q f shard start ps (polls.Done answer) = Q.Legal f shard start ps answer
LegalEnd Q f shard start ps polls.Spent = AtLastScan shard (AtLast start shard (λ n s. n ≡ most)) ps
LegalEnd Q f shard start ps _ = ⊥

-- A client tries the transition of a rule at an entry's place.
pub record TriesAt {R A : Type 0} (Q : Rules R A) (f : Q.Fixed) (t : Trying) (client : ℕ) (list : List Update) (start : Stored)
    (e : Entry) (others es : List Entry) : Type 0 where
  pub at : CallsAt t client list start e others es
  pub step_is : t.step ≡ Q.step f
  pub knows : Q.Knows f t.loader.shard (mine_back start es client)

-- What holds of each rule.
pub record IsRule {R A : Type 0} (Q : Rules R A) : Type 0 where
  -- looking changes nothing of what is asked
  pub same : (r : R) (newest : Option ShardState) → AsksSame Q r (Q.looked r newest)
  -- a refusal ends the command
  pub ends : (r : R) (newest : Option ShardState) (refusal : Refusal) → IsEnd (Q.refused r newest refusal)
  -- it asks nothing of parts
  pub holds : (f : Q.Fixed) (own : List Answered) → Holds own (Q.step f)
  -- what is known stays so past each entry of the client
  pub knows_on : (f : Q.Fixed) (shard : ShardId) (o : Answered) (own : List Answered) → Q.Knows f shard own → Q.Knows f shard (o ∷ own)
  -- what a commit is answered is legal
  pub committed : (r : R) (t new : Trying) (client : ℕ) (list : List Update) (start : Stored) (e : Entry) (others es : List Entry)
      (version : ℕ) (ps : List Placed) → TriesAt Q (Q.fixed r) t client list start e others es →
      Committing t new start e (others ++ es) version → Q.Legal (Q.fixed r) t.loader.shard start (placed e (others ++ es) ∷ ps)
      (Q.committed (Q.looked r t.loader.cached) new.loader.cached version)
  -- what a refusal comes to is legal, by the newest state that a Scan has just shown
  pub refused : (r : R) (t new : Trying) (client : ℕ) (list : List Update) (start : Stored) (e : Entry) (others es : List Entry)
      (refusal : Refusal) (ps : List Placed) → TriesAt Q (Q.fixed r) t client list start e others es →
      Newest t new start e (others ++ es) (λ s. standing_refusal s t.step ≡ Some refusal) →
      LegalEnd Q (Q.fixed r) t.loader.shard start (placed e (others ++ es) ∷ ps) (Q.refused r new.loader.cached refusal)
  -- what is answered after a Scan of a shard without versions is legal
  pub empty : (r : R) (shard : ShardId) (start : Stored) (e : Entry) (before : List Entry) (answer : A) (ps : List Placed) →
      Q.empty r ≡ Some answer → IsAnsweredScan shard (placed e before) →
      end_of ((replay_back start before).logs shard) ≡ 0 → Q.Legal (Q.fixed r) shard start (placed e before ∷ ps) answer
