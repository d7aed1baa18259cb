-- What a store stands for: a list of updates under a shard.
use Rattle.std.specs.Prelude.{◌≡◌, ℕ, ◌+◌, ◌<◌, ◌≤◌, ◌⊎◌, true, List, [], ◌∷◌, ◌++◌, length, reverse, Option, Some, None, if◌then◌else◌, ◌&&◌}
use Rattle.std.specs.List.{AllByRecursion}
use Rattle.update_core.specs.declared.updates.Update.{Update}
use Rattle.update_core.specs.Frontiers.{covers}
use Rattle.update_core.specs.Updates.{weight_of}
use Rattle.store_core.specs.declared.shards.ShardId.{ShardId}
use Rattle.store_core.specs.declared.part_keys.PartKey.{PartKey}
use Rattle.store_core.specs.declared.calls.Call.{Call}
use Rattle.store_core.specs.declared.calls.Call.TheVariants as calls
use Rattle.store_core.specs.declared.entries.Entry.{Entry}
use Rattle.store_core.specs.Changes.{commits}
use Rattle.store_core.specs.Stores.{Log, Stored, no_log}
use Rattle.store_core.specs.Histories.{History}
use Rattle.store_core.specs.Newest.{replay_back}
use Rattle.spine_core.specs.declared.batches.Batch.{Batch}
use Rattle.spine_core.specs.Contents.{IsBatchOf}
use Rattle.state_core.specs.declared.transitions.Transition.{Transition}
use Rattle.state_core.specs.declared.transitions.Transition.TheVariants.{Init, Append}
use Rattle.state_core.specs.States.{ShardState, floor, Names, KeyFits}
use Rattle.state_core.specs.Steps.{Applies, Takes, init}
use Rattle.version_codec.specs.Reading.{version_in}
use Rattle.history_core.specs.Readings.{rows_in}
use Rattle.history_core.specs.Histories.{version_at, took_effect, same_shard}
use Rattle.history_core.specs.Discipline.{Hold}

-- the state and transition that version n holds, where it is there
abbrev pub read_version : ShardId → ℕ → Option (List ℕ) → Option (ShardState × Transition)
read_version shard n None = None
read_version shard n (Some b) = version_in shard n b

-- version n of the log is there, with this state and transition
abbrev pub VersionIs : ShardId → Log → ℕ → ShardState → Transition → Type 0
VersionIs shard log n s x = read_version shard n (version_at log n) ≡ Some (s, x)

-- the log has this state at version n
abbrev pub StateIn : ShardId → Log → ℕ → ShardState → Type 0
StateIn shard log n s = (x : Transition) × VersionIs shard log n s x

-- the number of the next version
abbrev pub end_of : Log → ℕ
end_of log = log.first + length log.versions

-- n is the number of the last version
abbrev pub IsLast : Log → ℕ → Type 0
IsLast log n = n + 1 ≡ end_of log

-- version n takes the key
abbrev pub TakenIn : ShardId → Log → ℕ → PartKey → Type 0
TakenIn shard log n k = (s : ShardState) × (x : Transition) × VersionIs shard log n s x × Takes x k

-- Each version is of a state and a transition. Version 0 is Init and the first state. Each applies to the one before it.
pub record IsChain (shard : ShardId) (log : Log) : Type 0 where
  pub each : (n : ℕ) (b : List ℕ) → version_at log n ≡ Some b → (s : ShardState) × (x : Transition) ×
      (version_in shard n b ≡ Some (s, x))
  pub first : (s : ShardState) (x : Transition) → VersionIs shard log 0 s x → (s ≡ init shard) × (x ≡ Init)
  pub step : (n : ℕ) (s s2 : ShardState) (x x2 : Transition) → VersionIs shard log n s x →
      VersionIs shard log (n + 1) s2 x2 → Applies s x2 s2

-- what the keys are that versions name by their states, and take
pub record KeysKept (shard : ShardId) (State_at : ℕ → ShardState → Type 0) (Taken_at : ℕ → PartKey → Type 0)
    (last : ShardState) : Type 0 where
  -- such a key has a member that the last state knows, and where that member stands its token isn't below the key's
  pub named : (n : ℕ) (s : ShardState) (k : PartKey) → State_at n s → Names s k → KeyFits shard last.next_member last.members k
  pub taken : (n : ℕ) (k : PartKey) → Taken_at n k → KeyFits shard last.next_member last.members k
  -- a key that was taken is named no more
  pub gone : (m n : ℕ) (s : ShardState) (k : PartKey) → Taken_at m k → m ≤ n → State_at n s → ¬ Names s k

-- the same of the versions of a log
abbrev pub KeysIn : ShardId → Log → ShardState → Type 0
KeysIn shard log last = KeysKept shard (StateIn shard log) (TakenIn shard log) last

-- the store has this state at version n of the shard
abbrev pub StateAt : Stored → ShardId → ℕ → ShardState → Type 0
StateAt store shard n s = StateIn shard (store.logs shard) n s

-- under the key are the bytes of a part
abbrev pub IsPresent : Stored → PartKey → Type 0
IsPresent store k = (b : List ℕ) × (rows : List Update) × (store.blobs k ≡ Some b) × (rows_in b ≡ Some rows)

-- the rows that the parts under these keys hold, in order
abbrev pub PartRows : Stored → List PartKey → List Update → Type 0
PartRows store keys rows = Hold (λ k b. store.blobs k ≡ Some b) keys rows

-- the parts of a batch hold what the list has in its span, and as many rows as it says
abbrev pub BatchHolds : Stored → List Update → Batch → Type 0
BatchHolds store list b = (rows : List Update) × PartRows store b.parts rows × IsBatchOf list b.desc rows × (length rows ≡ b.rows)

-- the store holds a collection with this list under the shard
pub record Collection (store : Stored) (shard : ShardId) (list : List Update) : Type 0 where
  pub number : ℕ
  pub last : ShardState
  pub newest : IsLast (store.logs shard) number
  pub state : StateAt store shard number last
  -- the live versions are a chain, and those from the floor on are live
  pub chain : IsChain shard (store.logs shard)
  pub live : (n : ℕ) → floor last ≤ n → n ≤ number → (b : List ℕ) × (version_at (store.logs shard) n ≡ Some b)
  -- a key that is there has a member that the last state knows, and so have those that versions name or take
  pub known : (k : PartKey) (b : List ℕ) → k.shard ≡ shard → store.blobs k ≡ Some b → k.member < last.next_member
  pub keys : KeysKept shard (StateAt store shard) (TakenIn shard (store.logs shard)) last
  -- each key that a version from the floor on names is there
  pub present : (n : ℕ) (s : ShardState) (k : PartKey) → floor last ≤ n → StateAt store shard n s → Names s k → IsPresent store k
  -- each batch of a version from the floor on holds its span
  pub content : (n : ℕ) (s : ShardState) → floor last ≤ n → StateAt store shard n s →
      AllByRecursion (BatchHolds store list) s.batches
  -- the last upper covers the list, which is no heavier than the last weight; that is 0 while upper is at 0
  pub before_upper : AllByRecursion (λ u. covers last.upper u.time ≡ true) list
  pub light : weight_of list ≤ last.weight
  pub unweighed : last.upper ≡ Some 0 → last.weight ≡ 0

-- the shard has no version, no update and no key
pub record Empty (store : Stored) (shard : ShardId) (list : List Update) : Type 0 where
  pub no_version : store.logs shard ≡ no_log
  pub no_update : list ≡ []
  pub no_key : (k : PartKey) → k.shard ≡ shard → store.blobs k ≡ None

-- a store stands for a list under the shard
abbrev pub StandsFor : Stored → ShardId → List Update → Type 0
StandsFor store shard list = Empty store shard list ⊎ Collection store shard list

-- the rows of a part, or none where the bytes aren't one
abbrev pub rows_or_none : Option (List Update) → List Update
rows_or_none None = []
rows_or_none (Some rows) = rows

-- the rows under a key
abbrev pub rows_of_blob : Option (List ℕ) → List Update
rows_of_blob None = []
rows_of_blob (Some b) = rows_or_none (rows_in b)

-- the rows under keys, one after the other
abbrev pub rows_under : Stored → List PartKey → List Update
rows_under store [] = []
rows_under store (k ∷ ks) = rows_of_blob (store.blobs k) ++ rows_under store ks

-- the rows that a version's Append adds
abbrev pub appended_by : Stored → Option (ShardState × Transition) → List Update
appended_by store (Some (s, Append member token expected new parts rows weight)) = rows_under store parts
appended_by _ _ = []

-- the rows that an entry appends to the shard's list: those of an Append that commits, as the bytes then under its keys hold them
abbrev pub appended : Stored → ShardId → Entry → Call → List Update
appended store shard e (calls.Cas at_shard (Some n) bytes) =
    if took_effect e.outcome && (same_shard at_shard shard && commits (store.logs shard) (Some n))
    then appended_by store (version_in shard (n + 1) bytes) else []
appended _ _ _ _ = []

-- the list, and then the rows of each Append that committed, of entries newest first
abbrev pub accepted : ShardId → List Update → Stored → List Entry → List Update
accepted shard list start [] = list
accepted shard list start (e ∷ es) = accepted shard list start es ++ appended (replay_back start es) shard e e.call

-- the list, and then the rows of each Append that committed
abbrev pub accepted_of : ShardId → List Update → History → List Update
accepted_of shard list h = accepted shard list h.start (reverse h.trail)
