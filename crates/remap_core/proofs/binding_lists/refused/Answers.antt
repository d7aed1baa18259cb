use Rattle.std.proofs.Common.{Option, Some, None}
use Rattle.std.specs.Prelude.{IfNone}
use Rattle.remap_core.proofs.BoundLaws.{all_before}
use Rattle.remap_core.proofs.binding_lists.refused.Goals as goal

none_weaker : {A P Q : Type 0} (r : Option A) → (P → Q) → IfNone r P → IfNone r Q
none_weaker None f h = f h
none_weaker (Some x) f h = tt

pub returns-in-Some-clause-none : goal.returns-in-Some-clause-none
returns-in-Some-clause-none c =
    none_weaker c.refused_after.result
    (all_before c.args.items.now
    (c.args.time, c.args.frontier.now) c.in-Some.last.now c.requires c.in-Some.ensures.some) c.refused_after.ensures.none
