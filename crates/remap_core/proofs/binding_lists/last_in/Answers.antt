use Rattle.std.proofs.Common.{sym, ap, ◌∙◌, Some}
use Rattle.remap_core.proofs.BoundLaws.{last_is}
use Rattle.remap_core.proofs.binding_lists.last_in.Goals as goal

pub returns-in-Some-clause-some : goal.returns-in-Some-clause-some
returns-in-Some-clause-some c = last_is c.args.items.now c.in-Some.last.now c.in-Some.ensures.item.3.0
    ∙ ap Some (sym c.in-Some.ensures.item.1)
