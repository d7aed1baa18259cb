use Rattle.std.proofs.Common.{◌≡◌, ◌-◌, ◌++◌}
use Rattle.std.specs.List.{flat_map, range_with_len}
use Rattle.reclock_client.specs.Minting.{rise_of, rises}
use Rattle.reclock_client.proofs.mints.mint_rows.Given as goal

abbrev pub invariant-loop-partition : goal.invariant-loop-partition
invariant-loop-partition l = record {
  left : l.rows ++ flat_map (rise_of l.time l.had l.seen) (range_with_len l.partition (256 - l.partition)) ≡ rises l.time l.had l.seen;
}
