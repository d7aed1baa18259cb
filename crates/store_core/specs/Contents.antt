-- What the contents of a store in memory stand for.
use Rattle.std.specs.Prelude.{ℕ, Option, List, unwrap_or}
use Rattle.std.specs.BTreeMap.{BTreeMap, get}
use Rattle.store_core.specs.declared.shards.ShardId.{ShardId}
use Rattle.store_core.specs.declared.part_keys.PartKey.{PartKey}
use Rattle.store_core.specs.declared.contents.Contents.{Contents}
use Rattle.store_core.specs.Stores.{Stored, Log, no_log, key_cmp, shard_cmp}

-- the bytes of each key of a map
abbrev pub blobs_of : BTreeMap PartKey (List ℕ) → PartKey → Option (List ℕ)
blobs_of m k = get key_cmp m k

-- the log of each shard of a map
abbrev pub logs_of : BTreeMap ShardId Log → ShardId → Log
logs_of m s = unwrap_or (get shard_cmp m s) no_log

-- the store that contents stand for
abbrev pub stored_of : Contents → Stored
stored_of c = record { blobs = blobs_of c.blobs; logs = logs_of c.logs }
