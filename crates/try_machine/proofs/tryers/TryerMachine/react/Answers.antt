use Rattle.std.proofs.Common.{◌≡◌, Some, None, subst, sym, ◌∙◌}
use Rattle.try_machine.specs.declared.tryers.Tryer.{Tryer}
use Rattle.try_machine.specs.Tryers.{IsSound, empty_answer}
use Rattle.try_machine.proofs.Readying.{moved_sound, none_of}
use Rattle.try_machine.proofs.tryers.TryerMachine.react.Goals as goal

pub returns-in-Some-take-clause-sound : goal.returns-in-Some-take-clause-sound
returns-in-Some-take-clause-sound g c =
    let unanswered = c.in_default.not-Some in
    let is = c.in-Some-take.is in
    let took = c.take.ensures in
    let after = c.after.ensures in
    let asked : c.args.self.now.asked ≡ Some c.in-Some-take.asked = sym took.value ∙ is in
    let none : empty_answer g.R.Rule.rule c.args.self.now c.args.reply ≡ None = sym c.empty_answer.ensures ∙
    none_of c.empty_answer.result unanswered in
    let s = moved_sound g.row.R.Denot g.row.R-Answer.Denot g.R.Rule.rule c.args.self.now c.react.new.self c.in_ok-tried.tried
    c.args.reply c.in-Some-take.asked c.after.result c.requires.ready.sound asked c.in_ok-tried.ensures.moves c.react.ensures.sound
    none in
    subst (λ (t : Tryer g.row.R.Denot). IsSound g.R.Rule.rule t) (sym after.after) s
