use Rattle.std.proofs.Common.{arith}
use Rattle.std.proofs.lemmas.List.Sorted.{sum_by-IsPermutation}
use Rattle.std.specs.Int.RustNames.{unsigned_abs}
use Rattle.update_core.specs.declared.updates.Update.{Update}
use Rattle.update_core.proofs.JoinLaws.{consolidation_of_joined}
use Rattle.update_core.proofs.consolidating.consolidate_in_place.Goals as goal

pub join-requires-clause-room : goal.join-requires-clause-room
join-requires-clause-room c = omega (
  arith,
  c.requires,
  sum_by-IsPermutation (λ
      (u : Update). unsigned_abs u.diff) _ _ c.in_ok-sort.ensures.same,
)

pub returns : goal.returns
returns c = consolidation_of_joined c.args.rows.now.items c.sort.new.rows.items c.join.new.rows.items c.drop_zeros.new.rows.items c.in_ok-sort.ensures.same c.join.ensures.same c.drop_zeros.ensures
