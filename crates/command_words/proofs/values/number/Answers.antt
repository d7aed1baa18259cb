use Rattle.command_words.proofs.Readers.{no_number, other_number}
use Rattle.command_words.proofs.values.number.Goals as goal

pub returns-then-ne-clause-none : goal.returns-then-ne-clause-none
returns-then-ne-clause-none c =
    other_number c.format.result.now c.args.text.now c.in-Ok.value c.in-Ok.ensures.value.0 c.format.ensures.text c.if-ne.ensures

pub returns-in-Err-clause-none : goal.returns-in-Err-clause-none
returns-in-Err-clause-none c = no_number c.args.text.now c.in-Err.field-0 c.in-Err.ensures.value.0
