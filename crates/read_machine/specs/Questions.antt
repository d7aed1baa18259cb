-- What is said of a question to a shard. Entries go newest first.
use Rattle.std.specs.Prelude.{◌≡◌, ℕ, ◌+◌, ◌<◌, ◌==◌, Bool, true, false, if◌then◌else◌, filter, Some, List, [], ◌∷◌, ◌++◌}
use Rattle.std.specs.List.{AllByRecursion}
use Rattle.update_core.specs.declared.updates.Update.{Update}
use Rattle.store_core.specs.declared.part_keys.PartKey.{PartKey}
use Rattle.store_core.specs.declared.shards.ShardId.{ShardId}
use Rattle.store_core.specs.declared.entries.Entry.{Entry}
use Rattle.store_core.specs.Stores.{Stored}
use Rattle.store_core.specs.Newest.{mine_back, replay_back}
use Rattle.spine_core.specs.declared.batches.Batch.{Batch}
use Rattle.state_core.specs.declared.kinds.Kind.{Kind}
use Rattle.state_core.specs.declared.members.Member.{Member}
use Rattle.state_core.specs.Refusals.{member_of}
use Rattle.state_core.specs.States.{IsState, ShardState, is_writer, keys_of}
use Rattle.history_core.specs.Discipline.{GotAs, Hold, LawfulBack}
use Rattle.history_core.specs.Laws.{LastIs}
use Rattle.history_core.specs.Legal.{Absent}
use Rattle.history_core.specs.Placing.{IsAnsweredScan, Placed, placed, places}
use Rattle.history_core.specs.Stands.{StandsFor}
use Rattle.read_machine.specs.declared.looks.Look.{Look}
use Rattle.read_machine.specs.declared.looks.Look.TheVariants as looks

-- The words of a question Q with answers A.
pub record Questions (Q A : Type 0) : Type 1 where
  -- the kind of the member that asks, and whether a kind is that one
  pub kind : Kind
  pub takes : Kind → Bool
  -- what a state says to it: the answer, or the parts that are to be read
  pub look : Q → ShardState → Look A
  -- the answer from the rows of those parts
  pub answer : Q → ShardState → List Update → A
  -- the answer where the member doesn't stand in the newest version
  pub expired : Q → ℕ → A
  -- an answer to the question of a member is legal at the end of the command's entries, from a start that stands for the list
  pub Legal : Q → ShardId → ℕ → Stored → List Placed → List Update → A → Type 0

-- how many of the entries are the client's
abbrev pub own_count : ℕ → List Entry → ℕ
own_count client [] = 0
own_count client (e ∷ es) = if e.client == client then own_count client es + 1 else own_count client es

-- no entry of the client is a Scan that was answered
abbrev pub NoScanOf : ℕ → ShardId → List Entry → Type 0
NoScanOf client shard es = AllByRecursion (λ e. e.client ≡ client → ¬ IsAnsweredScan shard (placed e [])) es

-- A client's command, whose last answered Scan showed that s is the last version's state, and that the member stands in it. The
-- entries
-- since then are `later`.
pub record ShownAt (client : ℕ) (shard : ShardId) (member calls : ℕ) (list : List Update) (start : Stored) (later : List Entry)
    (scan : Entry) (before : List Entry) (s : ShardState) : Type 0 where
  pub own : scan.client ≡ client
  pub answered : IsAnsweredScan shard (placed scan before)
  pub last : LastIs (replay_back start before) shard s.number s
  pub stands : StandsFor start shard list
  pub lawful : LawfulBack start (later ++ (scan ∷ before))
  pub quiet : NoScanOf client shard later
  pub few : own_count client later < calls
  pub found : Member
  pub found_is : member_of member s.members ≡ Some found

-- the command's entries
abbrev pub since : ℕ → ℕ → List Entry → Entry → List Entry → List Placed
since client calls later scan before = places client calls (later ++ (scan ∷ before))

-- the rows are those of the bytes under the keys that the client got since that Scan
abbrev pub GotSince : ℕ → Stored → List Entry → Entry → List Entry → List PartKey → List Update → Type 0
GotSince client start later scan before keys rows = Hold (GotAs (mine_back (replay_back start
    (scan ∷ before)) later client)) keys rows

-- the keys are those of some of the state's batches
pub record SomeParts (s : ShardState) (keys : List PartKey) : Type 0 where
  pub test : Batch → Bool
  pub keys_are : keys ≡ keys_of (filter test s.batches)

-- What holds of each question.
pub record IsQuestion {Q A : Type 0} (W : Questions Q A) : Type 0 where
  -- its member has a lease
  pub kind_taken : W.takes W.kind ≡ true
  pub leased : is_writer W.kind ≡ false
  -- the parts that it reads of a state are those of some of its batches
  pub parts : (q : Q) (s : ShardState) (keys : List PartKey) → IsState s → W.look q s ≡ looks.Parts keys → SomeParts s keys
  -- what the last version's state answers is legal
  pub seen : (q : Q) (client : ℕ) (shard : ShardId) (member calls : ℕ) (list : List Update) (start : Stored) (later : List Entry)
      (scan : Entry) (before : List Entry) (s : ShardState) (answer : A) →
      ShownAt client shard member calls list start later scan before s → W.look q s ≡ looks.Answer answer →
      W.Legal q shard member start (since client calls later scan before) list answer
  -- and so is what is answered from the parts that it names, where each was got since then
  pub got : (q : Q) (client : ℕ) (shard : ShardId) (member calls : ℕ) (list : List Update) (start : Stored) (later : List Entry)
      (scan : Entry) (before : List Entry) (s : ShardState) (keys : List PartKey) (rows : List Update) →
      ShownAt client shard member calls list start later scan before s → W.look q s ≡ looks.Parts keys →
      GotSince client start later scan before keys rows →
      W.Legal q shard member start (since client calls later scan before) list (W.answer q s rows)
  -- and what is told where the member doesn't stand in the last version
  pub gone : (q : Q) (shard : ShardId) (member version : ℕ) (start : Stored) (ps : List Placed) (list : List Update) →
      Absent start shard member version ps → W.Legal q shard member start ps list (W.expired q version)
