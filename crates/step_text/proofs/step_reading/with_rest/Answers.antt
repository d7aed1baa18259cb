use Rattle.step_text.specs.declared.verbs.Verb.TheVariants as verbs
use Rattle.step_text.proofs.Lines.{as_verb}
use Rattle.step_text.proofs.step_reading.with_rest.Goals as goal

pub returns-in-Reader : goal.returns-in-Reader
returns-in-Reader c = as_verb c.args.verb verbs.Reader c.args.so_far c.args.rest.now c.reading.result c.in-Reader.is c.reading.ensures

pub returns-in-Compactor : goal.returns-in-Compactor
returns-in-Compactor c = as_verb c.args.verb verbs.Compactor c.args.so_far c.args.rest.now c.compacting.result c.in-Compactor.is c.compacting.ensures

pub returns-in-Moment : goal.returns-in-Moment
returns-in-Moment c = as_verb c.args.verb verbs.Moment c.args.so_far c.args.rest.now c.at_moment.result c.in-Moment.is c.at_moment.ensures

pub returns-in-Begin : goal.returns-in-Begin
returns-in-Begin c = as_verb c.args.verb verbs.Begin c.args.so_far c.args.rest.now c.beginning.result c.in-Begin.is c.beginning.ensures

pub returns-in-Step : goal.returns-in-Step
returns-in-Step c = as_verb c.args.verb verbs.Step c.args.so_far c.args.rest.now c.stepping.result c.in-Step.is c.stepping.ensures

pub returns-in-Stop : goal.returns-in-Stop
returns-in-Stop c = as_verb c.args.verb verbs.Stop c.args.so_far c.args.rest.now c.stopping.result c.in-Stop.is c.stopping.ensures
