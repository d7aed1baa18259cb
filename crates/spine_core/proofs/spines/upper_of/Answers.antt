use Rattle.std.proofs.Common.{ap, sym, ◌∙◌, Some}
use Rattle.spine_core.specs.declared.batches.Batch.{Batch}
use Rattle.spine_core.proofs.SpineLaws.{upper_of_last}
use Rattle.spine_core.proofs.spines.upper_of.Goals as goal

pub returns-in-Some : goal.returns-in-Some
returns-in-Some c =
    let item = c.in-Some.ensures.item in
    ap (λ (b : Batch). b.desc.upper) item.1 ∙ sym (upper_of_last (Some 0) c.args.batches.now c.in-Some.last.now item.3.0)
