use Rattle.std.proofs.Common.{ap, ◌∙◌, option_map}
use Rattle.spine_core.specs.Settled.{weights_of, due_place, with_next}
use Rattle.spine_core.proofs.Halving.{due_there, due_settled, due_few}
use Rattle.spine_core.proofs.spines.Spine.due.Goals as goal

pub returns-clause-there : goal.returns-clause-there
returns-clause-there c = due_there c.first_due.result c.args.self.now (c.first_due.ensures ∙ ap (λ bs. option_map with_next (due_place (weights_of bs))) (c.deref.ensures.value ∙ c.self.view_is))

pub returns-clause-settled : goal.returns-clause-settled
returns-clause-settled c = due_settled c.first_due.result c.args.self.now (c.first_due.ensures ∙ ap (λ bs. option_map with_next (due_place (weights_of bs))) (c.deref.ensures.value ∙ c.self.view_is))

pub returns-clause-few : goal.returns-clause-few
returns-clause-few c = due_few c.first_due.result c.args.self.now c.requires (returns-clause-settled c)
