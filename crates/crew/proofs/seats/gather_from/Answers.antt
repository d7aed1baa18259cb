use Rattle.std.proofs.Common.{sym, ◌∙◌}
use Rattle.crew.proofs.CrewEnds.{first_keeps}
use Rattle.crew.proofs.seats.gather_from.Goals as goal

pub gather-requires-clause-keeps : goal.gather-requires-clause-keeps
gather-requires-clause-keeps g c =
    first_keeps c.args.plan.now c.args.turnstile.now c.args.seats.now c.in-Some.rest.now c.in-Some.first.now c.in-Some-take.pass
    c.in-Some.ensures.cases.0 c.requires.worked c.requires.suits (sym c.take.ensures.value ∙ c.in-Some-take.is)
