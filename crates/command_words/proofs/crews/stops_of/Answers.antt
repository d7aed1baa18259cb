use Rattle.std.proofs.Common.{◌∙◌, ap, subst, Some, codes, Option, List}
use Rattle.std.specs.Prelude.{IfNone, IfOk, IfSome}
use Rattle.clap.specs.Matches.{found_of}
use Rattle.clap.proofs.WalkLemmas.{first_value-rows}
use Rattle.stops_core.specs.declared.stops.Stop.{Stop}
use Rattle.command_words.specs.Commands.{AreStops}
use Rattle.command_words.specs.Found.{value_in}
use Rattle.command_words.proofs.Readers.{left_out, stops_told, stops_untold}
use Rattle.command_words.proofs.crews.stops_of.Goals as goal

pub returns-in-None-clause-some : goal.returns-in-None-clause-some
returns-in-None-clause-some c = left_out c.args.workers (value_in c.args.given.now (codes "stop"))
    (c.in-None.ensures ∙ first_value-rows (found_of c.args.given.now) (codes "stop")) c.new.result c.new.ensures

pub returns-in-Some-clause-some : goal.returns-in-Some-clause-some
returns-in-Some-clause-some c = stops_told c.args.workers c.in-Some.text.now c.as_bytes.result.now (value_in c.args.given.now (codes "stop"))
    c.parse_stops.result (c.in-Some.ensures ∙ first_value-rows (found_of c.args.given.now) (codes "stop")) c.as_bytes.ensures.value
    c.parse_stops.ensures.some

pub returns-in-Some-clause-none : goal.returns-in-Some-clause-none
returns-in-Some-clause-none c = stops_untold c.args.workers c.in-Some.text.now c.as_bytes.result.now (value_in c.args.given.now (codes "stop"))
    c.parse_stops.result (c.in-Some.ensures ∙ first_value-rows (found_of c.args.given.now) (codes "stop")) c.as_bytes.ensures.value
    c.parse_stops.ensures.none
