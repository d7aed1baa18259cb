use Rattle.std.proofs.Common.{◌≡◌, sym, ap, arith, ◌∙◌}
use Rattle.std.proofs.lemmas.Result.{IfOk-weaker}
use Rattle.update_core.specs.Updates.{weight_of, slice_of}
use Rattle.remap_core.specs.Reclocking.{bound, reclocked, weight_of_rows}
use Rattle.remap_core.proofs.PublishLaws.{slice_of-whole}
use Rattle.remap_core.proofs.ReclockLaws.{weight_of-bound}
use Rattle.remap_core.proofs.reclocking.published.Goals as goal

pub slice_between-requires : goal.slice_between-requires
slice_between-requires c =
    omega (
      arith,
      ap weight_of c.in_ok-bound.ensures,
      weight_of-bound c.as_slice.result.now c.args.bindings.now 0,
      ap weight_of_rows c.as_slice.ensures,
      c.requires,
    )

pub returns : goal.returns
returns c =
    let from = c.args.from in
    let to = c.args.to in
    let bs = c.args.bindings.now in
    IfOk-weaker c.slice_between.result (λ out. out ≡ slice_of c.in_ok-bound.bound from to)
    (λ out. out ≡ slice_of (reclocked c.args.rows.now bs 0) from to)
    (λ out e. e ∙ ap (λ us. slice_of us from to) (c.in_ok-bound.ensures ∙ ap (λ rs. bound rs bs 0) c.as_slice.ensures)
    ∙ sym (slice_of-whole (bound c.args.rows.now bs 0) from to))
    c.slice_between.ensures.exact
