use Rattle.std.proofs.Common.{ap, ◌∙◌}
use Rattle.clap.specs.Matches.{found_of}
use Rattle.clap.proofs.WalkLemmas.{first_value-rows}
use Rattle.command_words.specs.Commands.{shard_in}
use Rattle.command_words.proofs.values.shard_of.Goals as goal

pub returns-in-None : goal.returns-in-None
returns-in-None c = ap (shard_in c.args.default) (c.in-None.ensures ∙ first_value-rows (found_of c.args.given.now) c.args.name.now)

pub returns-in-Some : goal.returns-in-Some
returns-in-Some c = c.shard_named.ensures ∙ ap (shard_in c.args.default)
    (c.in-Some.ensures ∙ first_value-rows (found_of c.args.given.now) c.args.name.now)
