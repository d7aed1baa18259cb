use Rattle.std.proofs.Common.{Option, ap}
use Rattle.try_machine.specs.declared.tryers.Tryer.{Tryer}
use Rattle.try_machine.proofs.Readying.{prepared_ready, prepared_sound}
use Rattle.try_machine.proofs.tryers.TryerMachine.prepare.Goals as goal

pub returns-clause-prepares : goal.returns-clause-prepares
returns-clause-prepares g c =
    let with_asked : Option g.row.R.Denot → Tryer g.row.R.Denot = λ a. record { trying = c.prepare.new.self; asked = a } in
    (c.prepare.new.self, c.in_ok-prepare.ensures.prepares, ap with_asked c.in_ok-asked.ensures.looks)

pub returns-clause-ready : goal.returns-clause-ready
returns-clause-ready g c = prepared_ready g.row.R.Denot g.row.R-Answer.Denot g.R.Rule.rule c.args.self.now c.prepare.new.self
    c.in_ok-asked.asked c.requires.sound c.in_ok-prepare.ensures.prepares c.prepare.ensures.sound c.in_ok-asked.ensures.looks
    c.in_ok-asked.ensures.same

pub returns-clause-sound : goal.returns-clause-sound
returns-clause-sound g c = prepared_sound g.row.R.Denot g.row.R-Answer.Denot g.R.Rule.rule c.args.self.now c.prepare.new.self
    c.in_ok-asked.asked c.requires.sound c.in_ok-prepare.ensures.prepares c.prepare.ensures.sound c.in_ok-asked.ensures.looks
    c.in_ok-asked.ensures.same
