use Rattle.std.proofs.Common.{Err, ap, ◌∙◌, map, string_bytes}
use Rattle.persist_app.proofs.TopWords.{without_crew}
use Rattle.persist_app.proofs.words.crew_of.Goals as goal

pub returns-in-Err-NoCommand-clause-none : goal.returns-in-Err-NoCommand-clause-none
returns-in-Err-NoCommand-clause-none c = λ is.
    without_crew (map string_bytes c.args.words.now) (c.parse_words.ensures.none (c.in-Err-NoCommand.is ∙ ap Err c.in-Err-NoCommand.field-0-is))
