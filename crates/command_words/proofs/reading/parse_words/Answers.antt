use Rattle.std.proofs.Common.{ap, map, Err}
use Rattle.std.specs.String.{string_bytes}
use Rattle.command_words.specs.declared.faults.WordsFault.TheVariants.{NoCommand}
use Rattle.command_words.proofs.Finding.{same_fault}
use Rattle.command_words.proofs.Meaning.{never_found}
use Rattle.command_words.proofs.Readers.{answers_none, answers_ok}
use Rattle.command_words.proofs.reading.parse_words.Goals as goal

pub returns-in-Err-clause-none : goal.returns-in-Err-clause-none
returns-in-Err-clause-none c = λ e. never_found (map string_bytes c.args.words.now)
    (c.in-Err.ensures.none (ap (λ f. Err f) (same_fault c.in-Err.fault NoCommand e)))

pub returns-in-Ok-clause-command : goal.returns-in-Ok-clause-command
returns-in-Ok-clause-command c =
    answers_ok (map string_bytes c.args.words.now) c.in-Ok.matches c.command_in.result c.answer.result c.answer.ensures
    c.in-Ok.ensures.ok c.command_in.ensures.some

pub returns-in-Ok-clause-none : goal.returns-in-Ok-clause-none
returns-in-Ok-clause-none c =
    answers_none (map string_bytes c.args.words.now) c.in-Ok.matches c.command_in.result c.answer.result c.answer.ensures
    c.in-Ok.ensures.all c.command_in.ensures.none
