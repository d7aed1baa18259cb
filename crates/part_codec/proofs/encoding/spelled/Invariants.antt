use Rattle.std.proofs.Common.{◌≡◌, ◌∷◌, ◌++◌, length, take}
use Rattle.std.specs.Int.{w32, to_be_bytes}
use Rattle.std.specs.List.{flat_map, AllByRecursion}
use Rattle.part_codec.specs.Parts.{row_bytes, Fits}
use Rattle.part_codec.proofs.encoding.spelled.Given as goal

abbrev pub invariant-loop-row : goal.invariant-loop-row
invariant-loop-row l = record {
  spelled : l.out.items ≡ 80 ∷ 65 ∷ 82 ∷ 84 ∷ 1 ∷ (to_be_bytes w32 (length l.rows) ++ flat_map row_bytes (take l.row-index l.rows));
  fit : AllByRecursion Fits (take l.row-index l.rows);
}
