use Rattle.command_words.proofs.Meaning.{reads_none_ok}
use Rattle.command_words.proofs.reading.command_in.Goals as goal

pub returns-in-Some-clause-none : goal.returns-in-Some-clause-none
returns-in-Some-clause-none c =
    reads_none_ok c.args.matches.now c.in-Some.given.now c.in-Some.name.now
    c.command_of.result c.in-Some.ensures.name c.in-Some.ensures.rows c.command_of.ensures.none
