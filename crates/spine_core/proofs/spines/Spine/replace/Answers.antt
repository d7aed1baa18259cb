use Rattle.std.proofs.Common.{◌≡◌, List, length, subst}
use Rattle.spine_core.specs.declared.batches.Batch.{Batch}
use Rattle.spine_core.specs.Spines.{Pair, Replaced}
use Rattle.spine_core.proofs.SpineLaws.{merged_spine, merged_pair}
use Rattle.spine_core.proofs.spines.Spine.replace.Goals as goal

pub invariant_of-self : goal.invariant_of-self
invariant_of-self c =
    let Found : List Batch → Type 0 = λ bs. (pair : Pair c.args.left.now c.args.right.now bs) × (length pair.front ≡ c.in-Some.place) in
    merged_spine c.args.left.now c.args.right.now c.args.merged c.self.inside.items.items c.merge_at.new.batches.items c.in-Some.place c.requires.lower c.requires.upper c.self.invariant
    (subst Found c.deref.ensures.value c.in-Some.ensures.some) c.merge_at.ensures

pub returns-in-Some-clause-ok : goal.returns-in-Some-clause-ok
returns-in-Some-clause-ok c =
    let Found : List Batch → Type 0 = λ bs. (pair : Pair c.args.left.now c.args.right.now bs) × (length pair.front ≡ c.in-Some.place) in
    subst (λ bs. Replaced c.args.left.now c.args.right.now c.args.merged bs c.merge_at.new.batches.items) c.self.view_is
    (merged_pair c.args.left.now c.args.right.now c.args.merged c.self.inside.items.items c.merge_at.new.batches.items c.in-Some.place (subst Found c.deref.ensures.value c.in-Some.ensures.some) c.merge_at.ensures)
