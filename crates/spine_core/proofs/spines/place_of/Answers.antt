use Rattle.std.proofs.Common.{◌≡◌, sym, ◌∙◌, arith}
use Rattle.spine_core.specs.declared.batches.Batch.{Batch}
use Rattle.spine_core.proofs.Adjacent.{adjacent_step}
use Rattle.spine_core.proofs.SpineLaws.{pair_found, differs}
use Rattle.spine_core.proofs.spines.place_of.Goals as goal
use Rattle.spine_core.proofs.spines.place_of.Goals.{else-is_same-via-then-is_same+else-is_same-2, else-is_same-via-else-is_same}

pub returns-then-is_same-2-clause-some : goal.returns-then-is_same-2-clause-some
returns-then-is_same-2-clause-some c =
    let x = c.index-batches-i.result in
    let y = c.index-batches-i-then-is_same.result in
    pair_found c.args.left.now c.args.right.now c.args.batches.now c.loop-i.i x y (omega arith) c.loop-i-test.true c.loop-i.invariant
    (sym c.index-batches-i.is ∙ c.is_same.ensures.0 c.if-is_same.true) (sym c.index-batches-i-then-is_same.is ∙ c.is_same-then-is_same.ensures.0 c.if-is_same-2.true)

pub loop-i-preserved : goal.loop-i-preserved
loop-i-preserved c =
    let left = c.args.left.now in
    let right = c.args.right.now in
    let x = c.index-batches-i.result in
    elim c.else-is_same.branch [
      | else-is_same-via-then-is_same+else-is_same-2 w ↦
          let y = w.index-batches-i-then-is_same.result in
          adjacent_step (λ (a b : Batch). ¬ ((a ≡ left) × (b ≡ right))) c.args.batches.now c.loop-i.i x y (omega arith) c.loop-i-test.true c.loop-i.invariant
          (λ both. differs w.is_same-then-is_same.result y right w.is_same-then-is_same.ensures.1 w.if-is_same-2.false (w.index-batches-i-then-is_same.is ∙ both.1))
      | else-is_same-via-else-is_same w ↦
          adjacent_step (λ (a b : Batch). ¬ ((a ≡ left) × (b ≡ right))) c.args.batches.now c.loop-i.i x x (omega arith) c.loop-i-test.true c.loop-i.invariant
          (λ both. differs c.is_same.result x left c.is_same.ensures.1 w.if-is_same.false (c.index-batches-i.is ∙ both.0))
    ]
