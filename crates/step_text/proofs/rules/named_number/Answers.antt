use Rattle.step_text.proofs.Texts.{bad_number, number_uncut}
use Rattle.step_text.proofs.rules.named_number.Goals as goal

pub returns-in_err-name : goal.returns-in_err-name
returns-in_err-name c = rw c.from_residual.ensures (number_uncut c.args.text.now c.in_err-name.ensures)

pub returns-in_err-number : goal.returns-in_err-number
returns-in_err-number c =
    let cut = c.in_ok-name.ensures in
    rw c.from_residual-in_err-number.ensures
    (bad_number c.args.text.now c.in_ok-name.name.now c.in_ok-name.number.now cut.0 cut.1 c.in_err-number.ensures.none)
