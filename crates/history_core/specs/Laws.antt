-- Laws of lawful histories.
use Rattle.std.specs.Prelude.{◌≡◌, ℕ, ◌≤◌, false, List, Some}
use Rattle.update_core.specs.declared.updates.Update.{Update}
use Rattle.store_core.specs.declared.shards.ShardId.{ShardId}
use Rattle.store_core.specs.declared.part_keys.PartKey.{PartKey}
use Rattle.store_core.specs.declared.calls.Call.TheVariants as calls
use Rattle.store_core.specs.declared.replies.Reply.TheVariants as replies
use Rattle.store_core.specs.declared.entries.Entry.{Entry}
use Rattle.store_core.specs.Stores.{Stored, reply_of}
use Rattle.store_core.specs.Histories.{History, store_after}
use Rattle.store_core.specs.Ports.{with_entries}
use Rattle.state_core.specs.Lists.{Among}
use Rattle.state_core.specs.States.{ShardState, is_writer, Names, floor}
use Rattle.history_core.specs.Readings.{rows_in}
use Rattle.history_core.specs.Discipline.{Lawful}
use Rattle.history_core.specs.Stands.{StandsFor, IsLast, StateAt, accepted_of}

-- the state of the shard's last version
abbrev pub LastIs : Stored → ShardId → ℕ → ShardState → Type 0
LastIs store shard number last = IsLast (store.logs shard) number × StateAt store shard number last

-- a reader or keeper stands whose hold isn't above version n
abbrev pub IsHeld : ShardState → ℕ → Type 0
IsHeld last n = Among (λ m. (is_writer m.kind ≡ false) × (m.hold ≤ n)) last.members

-- a Get of the key is answered with the bytes of a part
abbrev pub IsAnswered : Stored → PartKey → Type 0
IsAnswered store k =
    (b : List ℕ) × (rows : List Update) × (reply_of store (calls.Get k) ≡ replies.Bytes (Some b)) × (rows_in b ≡ Some rows)

-- from a store that stands for a list, each lawful history leads to a store that stands for the accepted list
abbrev pub LawfulStandsFor : Type 0
LawfulStandsFor =
    (shard : ShardId) (list : List Update) (h : History) → StandsFor h.start shard list → Lawful h →
    StandsFor (store_after h) shard (accepted_of shard list h)

-- while a reader or keeper stands whose hold isn't above a version, that version is there and so is each part that it names
abbrev pub LeasedPresent : Type 0
LeasedPresent =
    (shard : ShardId) (list : List Update) (h : History) → StandsFor h.start shard list → Lawful h →
    (number : ℕ) (last : ShardState) → LastIs (store_after h) shard number last → (n : ℕ) → IsHeld last n → n ≤ number →
    (s : ShardState) × StateAt (store_after h) shard n s × ((k : PartKey) → Names s k → IsAnswered (store_after h) k)

-- and its bytes are those that were there at any place before at which the version named it
abbrev pub LeasedUnchanged : Type 0
LeasedUnchanged =
    (shard : ShardId) (list : List Update) (h : History) (later : List Entry) → StandsFor h.start shard list →
    Lawful (with_entries h later) →
    (n : ℕ) (s : ShardState) (k : PartKey) (b : List ℕ) → StateAt (store_after h) shard n s → Names s k →
    (store_after h).blobs k ≡ Some b →
    (number : ℕ) (last : ShardState) → LastIs (store_after (with_entries h later)) shard number last → IsHeld last n →
    reply_of (store_after (with_entries h later)) (calls.Get k) ≡ replies.Bytes (Some b)

-- a prefix of a lawful history is lawful
abbrev pub LawfulPrefix : Type 0
LawfulPrefix = (h : History) (later : List Entry) → Lawful (with_entries h later) → Lawful h

-- the floor of the last state never falls along a lawful history
abbrev pub FloorNeverFalls : Type 0
FloorNeverFalls =
    (shard : ShardId) (list : List Update) (h : History) (later : List Entry) → StandsFor h.start shard list →
    Lawful (with_entries h later) →
    (m n : ℕ) (s last : ShardState) → LastIs (store_after h) shard m s →
    LastIs (store_after (with_entries h later)) shard n last → floor s ≤ floor last
