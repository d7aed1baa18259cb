use Rattle.command_words.specs.Found.{value_in}
use Rattle.command_words.proofs.Readers.{as_none, unstopped}
use Rattle.command_words.proofs.crews.crew_of.Goals as goal

pub returns-in-None-clause-none : goal.returns-in-None-clause-none
returns-in-None-clause-none c =
    unstopped (value_in c.args.given.now) c.args.size c.requires.size (as_none _ c.in_ok-stops_of.field-0 c.in-None.is c.in_ok-stops_of.ensures.none)
