use Rattle.std.proofs.Common.{rules, ◌∙◌}
use Rattle.std.proofs.lemmas.Slice.Eq.{slice_eq-Decides}
use Rattle.spine_core.proofs.SpineLaws.{moved_test}
use Rattle.spine_core.proofs.key_lists.KeyList.is_same.Goals as goal

pub returns : goal.returns
returns c =
    moved_test c.eq.result c.as_slice.result.now c.as_slice-2.result.now c.args.self.now c.args.other.now (c.as_slice.ensures.value ∙ c.self.view_is) (c.as_slice-2.ensures.value ∙ c.other.view_is)
    (slice_eq-Decides (λ a b. search rules) c.as_slice.result.now c.as_slice-2.result.now c.eq.result c.eq.ensures)
