use Rattle.std.proofs.Common.{ap, arith}
use Rattle.update_core.specs.Updates.{weight_of}
use Rattle.remap_core.specs.Reclocking.{weight_of_rows}
use Rattle.remap_core.proofs.ReclockLaws.{weight_of-bound}
use Rattle.remap_core.proofs.reclocking.reclocked.Goals as goal

pub slice_between-requires : goal.slice_between-requires
slice_between-requires c =
    omega (
      arith,
      ap weight_of c.in_ok-bound.ensures,
      weight_of-bound c.as_slice.result.now c.args.bindings.now c.args.since,
      ap weight_of_rows c.as_slice.ensures,
      c.requires,
    )
