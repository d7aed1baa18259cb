-- What lasts along a lawful history, whatever its clients do.
use Rattle.std.specs.Prelude.{◌≡◌, ℕ, ◌≤◌, List, Some, None}
use Rattle.update_core.specs.declared.updates.Update.{Update}
use Rattle.store_core.specs.declared.shards.ShardId.{ShardId}
use Rattle.store_core.specs.declared.part_keys.PartKey.{PartKey}
use Rattle.store_core.specs.declared.entries.Entry.{Entry}
use Rattle.store_core.specs.Histories.{History, store_after}
use Rattle.store_core.specs.Ports.{with_entries}
use Rattle.state_core.specs.States.{ShardState, Names}
use Rattle.version_codec.specs.Reading.{version_in}
use Rattle.history_core.specs.Histories.{Shows}
use Rattle.history_core.specs.Discipline.{ShowsState, Owns, TakesIn, DeletedBy, Lawful}
use Rattle.history_core.specs.Stands.{StandsFor}
use Rattle.history_core.specs.Answers.{own_of}

-- A number never has two versions: what any two clients' entries show at it are the same bytes.
abbrev pub NumberOnce : Type 0
NumberOnce =
    (shard : ShardId) (list : List Update) (h : History) → StandsFor h.start shard list → Lawful h →
    (c d n : ℕ) (a b : List ℕ) → Shows (own_of h c) shard n a → Shows (own_of h d) shard n b → a ≡ b

-- A member has one owner.
abbrev pub OneOwner : Type 0
OneOwner =
    (shard : ShardId) (list : List Update) (h : History) → StandsFor h.start shard list → Lawful h →
    (c d member : ℕ) → Owns (own_of h c) shard member → Owns (own_of h d) shard member → c ≡ d

-- A key that a version took is named by no version from there on.
abbrev pub TakenGone : Type 0
TakenGone =
    (shard : ShardId) (list : List Update) (h : History) → StandsFor h.start shard list → Lawful h →
    (c d m n : ℕ) (b : List ℕ) (s : ShardState) (k : PartKey) → Shows (own_of h c) shard m b → TakesIn (version_in shard m b) k →
    m ≤ n → ShowsState (own_of h d) shard n s → ¬ Names s k

-- The bytes under a key never change: later there are the same, or none.
abbrev pub BytesLast : Type 0
BytesLast =
    (shard : ShardId) (list : List Update) (h : History) (later : List Entry) → StandsFor h.start shard list →
    Lawful (with_entries h later) → (k : PartKey) (a b : List ℕ) → k.shard ≡ shard → (store_after h).blobs k ≡ Some a →
    (store_after (with_entries h later)).blobs k ≡ Some b → a ≡ b

-- What a client's Delete was answered for is absent from then on.
abbrev pub DeletedStays : Type 0
DeletedStays =
    (shard : ShardId) (list : List Update) (h : History) → StandsFor h.start shard list → Lawful h →
    (c : ℕ) (k : PartKey) → k.shard ≡ shard → DeletedBy (own_of h c) k → (store_after h).blobs k ≡ None
