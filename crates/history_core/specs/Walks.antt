-- What entries tell by themselves, without the store at their start.
use Rattle.std.specs.Prelude.{ℕ, ◌+◌, ◌-◌, ◌^◌, Option, Some, None, List, [], ◌∷◌, ◌++◌, ◌==◌, if◌then◌else◌}
use Rattle.update_core.specs.declared.updates.Update.{Update}
use Rattle.store_core.specs.declared.shards.ShardId.{ShardId}
use Rattle.store_core.specs.declared.part_keys.PartKey.{PartKey}
use Rattle.store_core.specs.declared.calls.Call.{Call}
use Rattle.store_core.specs.declared.calls.Call.TheVariants as calls
use Rattle.store_core.specs.declared.entries.Entry.{Entry}
use Rattle.store_core.specs.Stores.{Stored, no_log, key_cmp, set_at}
use Rattle.version_codec.specs.Reading.{version_in}
use Rattle.history_core.specs.Histories.{took_effect}
use Rattle.history_core.specs.Stands.{appended_by}

-- the number of the last version, once a Cas has committed; the bytes of the keys that were set; a list with the rows appended
pub record Walked : Type 0 where
  pub last : Option ℕ
  pub blobs : PartKey → Option (List ℕ)
  pub rows : List Update

-- a store with these blobs and no version
abbrev pub with_blobs : (PartKey → Option (List ℕ)) → Stored
with_blobs blobs = record { blobs = blobs; logs = λ s. no_log }

-- the number after n, where there is one
abbrev pub number_past : ℕ → Option ℕ
number_past n = if n == 2 ^ 64 - 1 then None else Some (n + 1)

-- The number that a Cas gives its version, by the last one. While none is known it gives one, whatever it expects.
abbrev pub number_given : Option ℕ → Option ℕ → Option ℕ
number_given None None = Some 0
number_given (Some last) None = None
number_given None (Some n) = number_past n
number_given (Some last) (Some n) = if n == last then number_past n else None

-- the rows that version n adds, where a version was expected before it
abbrev pub rows_given : (PartKey → Option (List ℕ)) → ShardId → Option ℕ → ℕ → List ℕ → List Update
rows_given blobs shard None n bytes = []
rows_given blobs shard (Some before) n bytes = appended_by (with_blobs blobs) (version_in shard n bytes)

-- the walk after a Cas that gave its version this number
abbrev pub after_given : Walked → ShardId → Option ℕ → List ℕ → Option ℕ → Walked
after_given w shard expected bytes None = w
after_given w shard expected bytes (Some n) = record {
  last = Some n;
  blobs = w.blobs;
  rows = w.rows ++ rows_given w.blobs shard expected n bytes;
}

-- the walk after a Cas
abbrev pub after_cas : Walked → ShardId → Option ℕ → List ℕ → Walked
after_cas w shard expected bytes = after_given w shard expected bytes (number_given w.last expected)

-- the walk after a key was set, or deleted
abbrev pub after_write : Walked → PartKey → Option (List ℕ) → Walked
after_write w key bytes = record { last = w.last; blobs = set_at key_cmp w.blobs key bytes; rows = w.rows }

-- the walk after a call that takes effect
abbrev pub walk_call : Walked → Call → Walked
walk_call w (calls.Cas shard expected bytes) = after_cas w shard expected bytes
walk_call w (calls.Set key bytes) = after_write w key (Some bytes)
walk_call w (calls.Delete key) = after_write w key None
walk_call w _ = w

-- the walk after an entry
abbrev pub walk_entry : Walked → Entry → Walked
walk_entry w e = if took_effect e.outcome then walk_call w e.call else w

-- the walk after entries of which the newest comes first
abbrev pub walk_back : List Update → List Entry → Walked
walk_back list [] = record { last = None; blobs = λ k. None; rows = list }
walk_back list (e ∷ es) = walk_entry (walk_back list es) e
