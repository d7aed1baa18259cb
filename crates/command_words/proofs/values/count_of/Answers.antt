use Rattle.std.proofs.Common.{◌∙◌}
use Rattle.clap.specs.Matches.{found_of}
use Rattle.clap.proofs.WalkLemmas.{first_value-rows}
use Rattle.command_words.specs.Found.{value_in}
use Rattle.command_words.proofs.Readers.{no_count, other_count, some_count}
use Rattle.command_words.proofs.values.count_of.Goals as goal

pub returns-in-None-clause-none : goal.returns-in-None-clause-none
returns-in-None-clause-none c = no_count c.args.low c.args.high (value_in c.args.given.now c.args.name.now)
    (c.in-None.ensures ∙ first_value-rows (found_of c.args.given.now) c.args.name.now)

pub returns-in-Some-clause-some : goal.returns-in-Some-clause-some
returns-in-Some-clause-some c = some_count c.args.low c.args.high c.in-Some.text.now
    (value_in c.args.given.now c.args.name.now) c.count_named.result
    (c.in-Some.ensures ∙ first_value-rows (found_of c.args.given.now) c.args.name.now) c.count_named.ensures.some

pub returns-in-Some-clause-none : goal.returns-in-Some-clause-none
returns-in-Some-clause-none c = other_count c.args.low c.args.high c.in-Some.text.now
    (value_in c.args.given.now c.args.name.now) c.count_named.result
    (c.in-Some.ensures ∙ first_value-rows (found_of c.args.given.now) c.args.name.now) c.count_named.ensures.none
