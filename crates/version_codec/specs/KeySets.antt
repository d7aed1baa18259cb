-- Keys that are kept sorted, to be found.
use Rattle.std.specs.Prelude.{◌≡◌, List}
use Rattle.std.specs.List.{list_any}
use Rattle.std.specs.BTreeSet.{BTreeSet, contains}
use Rattle.store_core.specs.declared.part_keys.PartKey.{PartKey}
use Rattle.store_core.specs.Stores.{key_cmp}
use Rattle.state_core.specs.Refusals.{same_key}

-- the set has exactly the keys of the list
abbrev pub Sorts : BTreeSet PartKey → List PartKey → Type 0
Sorts set ks = (k : PartKey) → contains key_cmp set k ≡ list_any (same_key k) ks
