use Rattle.std.proofs.Common.{refl, sym, ◌∙◌, map}
use Rattle.std.specs.String.{string_bytes}
use Rattle.command_words.specs.declared.faults.WordsFault.TheVariants.{NoCommand}
use Rattle.clap.specs.Simple.{app_of}
use Rattle.command_words.proofs.Finding.{dashes_none, read_all, read_none, read_ok, same_fault}
use Rattle.command_words.proofs.found.command_found.Goals as goal

pub returns-then-has_dashes-clause-none : goal.returns-then-has_dashes-clause-none
returns-then-has_dashes-clause-none c = λ _. dashes_none (map string_bytes c.args.words.now) (c.if-has_dashes.ensures.some refl)

pub returns-in-Ok-clause-ok : goal.returns-in-Ok-clause-ok
returns-in-Ok-clause-ok c =
    read_ok (app_of c.in_ok-program.program) (map string_bytes c.args.words.now) c.in-Ok.matches c.in_ok-program.ensures
    (c.if-has_dashes.ensures.none refl) c.in-Ok.ensures.kinds c.in-Ok.ensures.matches

pub returns-in-Ok-clause-all : goal.returns-in-Ok-clause-all
returns-in-Ok-clause-all c =
    read_all (app_of c.in_ok-program.program)
    (map string_bytes c.args.words.now) c.in-Ok.matches c.in_ok-program.ensures c.in-Ok.ensures.matches

pub returns-in-Err-clause-none : goal.returns-in-Err-clause-none
returns-in-Err-clause-none c = λ e. read_none (app_of c.in_ok-program.program)
    (map string_bytes c.args.words.now) c.in-Err.error c.in_ok-program.ensures c.in-Err.ensures.kinds
    (sym c.refusal.ensures ∙ same_fault c.refusal.result NoCommand e)
