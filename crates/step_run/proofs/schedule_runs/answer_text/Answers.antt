use Rattle.std.proofs.Common.{subst}
use Rattle.step_run.specs.declared.step_faults.StepFault.{StepFault}
use Rattle.driving.specs.Goings.{Goes}
use Rattle.step_run.specs.Executing.{ExecutesTo}
use Rattle.step_run.specs.Faults.{FailedBy}
use Rattle.step_run.proofs.Shorts.{spells_short}
use Rattle.step_run.proofs.TextRead.{rests_lawful, stays_lawful}
use Rattle.step_run.proofs.schedule_runs.answer_text.Goals as goal

pub execute-requires : goal.execute-requires
execute-requires g c = record { short = spells_short c.in-Ok.schedule c.args.text.now c.in-Ok.ensures.read }

pub returns-in-Err-Line-clause-lawful : goal.returns-in-Err-Line-clause-lawful
returns-in-Err-Line-clause-lawful g c = rests_lawful c.args.shard (g.S.Store.history c.args.port.now.store)

pub returns-in-Ok-execute-clause-lawful : goal.returns-in-Ok-execute-clause-lawful
returns-in-Ok-execute-clause-lawful g c =
    stays_lawful c.args.shard (g.S.Store.history c.args.port.now.store) (g.S.Store.history c.execute.new.port.store) (ExecutesTo c.args.shard c.in-Ok.schedule
    (g.Si.Sink.taken c.args.out.now) (g.Si.Sink.taken c.execute.new.out) c.execute.result) c.execute.ensures.told

pub returns-in-Err-Sink-clause-lawful : goal.returns-in-Err-Sink-clause-lawful
returns-in-Err-Sink-clause-lawful g c =
    stays_lawful c.args.shard (g.S.Store.history c.args.port.now.store) (g.S.Store.history c.execute.new.port.store) (ExecutesTo c.args.shard c.in-Ok.schedule
    (g.Si.Sink.taken c.args.out.now) (g.Si.Sink.taken c.execute.new.out) c.execute.result) c.execute.ensures.told

pub returns-in-Err-Store-clause-lawful : goal.returns-in-Err-Store-clause-lawful
returns-in-Err-Store-clause-lawful g c =
    stays_lawful c.args.shard (g.S.Store.history c.args.port.now.store) (g.S.Store.history c.execute.new.port.store) (ExecutesTo c.args.shard c.in-Ok.schedule
    (g.Si.Sink.taken c.args.out.now) (g.Si.Sink.taken c.execute.new.out) c.execute.result) c.execute.ensures.told

pub returns-in-Err-Damaged-clause-lawful : goal.returns-in-Err-Damaged-clause-lawful
returns-in-Err-Damaged-clause-lawful g c =
    stays_lawful c.args.shard (g.S.Store.history c.args.port.now.store) (g.S.Store.history c.execute.new.port.store) (ExecutesTo c.args.shard c.in-Ok.schedule
    (g.Si.Sink.taken c.args.out.now) (g.Si.Sink.taken c.execute.new.out) c.execute.result) c.execute.ensures.told

pub returns-in-Err-Spent-clause-lawful : goal.returns-in-Err-Spent-clause-lawful
returns-in-Err-Spent-clause-lawful g c =
    stays_lawful c.args.shard (g.S.Store.history c.args.port.now.store) (g.S.Store.history c.execute.new.port.store) (ExecutesTo c.args.shard c.in-Ok.schedule
    (g.Si.Sink.taken c.args.out.now) (g.Si.Sink.taken c.execute.new.out) c.execute.result) c.execute.ensures.told

pub returns-in-Err-Memory-execute-clause-lawful : goal.returns-in-Err-Memory-execute-clause-lawful
returns-in-Err-Memory-execute-clause-lawful g c =
    stays_lawful c.args.shard (g.S.Store.history c.args.port.now.store) (g.S.Store.history c.execute.new.port.store) (ExecutesTo c.args.shard c.in-Ok.schedule
    (g.Si.Sink.taken c.args.out.now) (g.Si.Sink.taken c.execute.new.out) c.execute.result) c.execute.ensures.told

pub returns-in-Err-Damaged-clause-ends : goal.returns-in-Err-Damaged-clause-ends
returns-in-Err-Damaged-clause-ends g c =
    let a = g.S.Store.history c.args.port.now.store in
    let d = g.S.Store.history c.execute.new.port.store in
    let told = subst (λ (f : StepFault). Goes c.args.shard a d (λ list start es now. FailedBy c.args.shard f start es now)) c.in-Err-Damaged.field-0-is
    c.in-Err-Damaged.ensures.told in
    ((c.in-Ok.schedule, c.in-Ok.ensures.read), told)

pub returns-in-Err-Spent-clause-ends : goal.returns-in-Err-Spent-clause-ends
returns-in-Err-Spent-clause-ends g c =
    let a = g.S.Store.history c.args.port.now.store in
    let d = g.S.Store.history c.execute.new.port.store in
    let told = subst (λ (f : StepFault). Goes c.args.shard a d (λ list start es now. FailedBy c.args.shard f start es now)) c.in-Err-Spent.field-0-is
    c.in-Err-Spent.ensures.told in
    ((c.in-Ok.schedule, c.in-Ok.ensures.read), told)
