-- Which calls change a store.
use Rattle.std.specs.Prelude.{ℕ, Bool, true, false, ◌&&◌, not, Option}
use Rattle.store_core.specs.declared.calls.Call.{Call}
use Rattle.store_core.specs.declared.calls.Call.TheVariants as calls
use Rattle.store_core.specs.Stores.{Stored, Log, same_number, last_number, is_last_number}

-- whether a Cas that expects this number commits
abbrev pub commits : Log → Option ℕ → Bool
commits log expected = same_number expected (last_number log) && not (is_last_number expected)

-- a Cas that commits, and each Truncate, Set and Delete, also one that finds nothing to do
abbrev pub changes : Stored → Call → Bool
changes s (calls.Cas shard expected bytes) = commits (s.logs shard) expected
changes s (calls.Truncate shard below) = true
changes s (calls.Set key bytes) = true
changes s (calls.Delete key) = true
changes s _ = false
