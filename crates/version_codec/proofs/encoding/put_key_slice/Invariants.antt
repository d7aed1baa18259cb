use Rattle.std.proofs.Common.{◌≡◌, ◌++◌, length, take}
use Rattle.std.specs.List.{flat_map, AllByRecursion}
use Rattle.version_codec.specs.Versions.{number_bytes, key_bytes, PartKeyFits}
use Rattle.version_codec.proofs.encoding.put_key_slice.Given as goal

abbrev pub invariant-loop-key : goal.invariant-loop-key
invariant-loop-key l = record {
  written : l.out.items ≡ (l.fn.out.items ++ number_bytes (length l.keys)) ++ flat_map key_bytes (take l.key-index l.keys);
  fit : AllByRecursion PartKeyFits (take l.key-index l.keys);
}
