use Rattle.std.proofs.Common.{subst}
use Rattle.plain_run.specs.declared.run_faults.RunFault.{RunFault}
use Rattle.plain_run.specs.Answering.{Executes, FailedRun}
use Rattle.driving.specs.Goings.{Goes}
use Rattle.plain_run.proofs.RunLaws.{rests_lawful, stays_lawful}
use Rattle.plain_run.proofs.runs.answer_text.Goals as goal

pub returns-in-Err-Line-clause-lawful : goal.returns-in-Err-Line-clause-lawful
returns-in-Err-Line-clause-lawful g c = rests_lawful c.args.place.shard (g.S.Store.history c.args.port.now.store)

pub returns-in-Ok-execute-clause-lawful : goal.returns-in-Ok-execute-clause-lawful
returns-in-Ok-execute-clause-lawful g c =
    stays_lawful c.args.place.shard (g.S.Store.history c.args.port.now.store) (g.S.Store.history c.execute.new.port.store) (Executes c.args.place.shard c.in-Ok.feed.lines
    (g.Si.Sink.taken c.args.out.now) (g.Si.Sink.taken c.execute.new.out) c.execute.result) c.execute.ensures.told

pub returns-in-Err-Sink-clause-lawful : goal.returns-in-Err-Sink-clause-lawful
returns-in-Err-Sink-clause-lawful g c =
    stays_lawful c.args.place.shard (g.S.Store.history c.args.port.now.store) (g.S.Store.history c.execute.new.port.store) (Executes c.args.place.shard c.in-Ok.feed.lines
    (g.Si.Sink.taken c.args.out.now) (g.Si.Sink.taken c.execute.new.out) c.execute.result) c.execute.ensures.told

pub returns-in-Err-Store-clause-lawful : goal.returns-in-Err-Store-clause-lawful
returns-in-Err-Store-clause-lawful g c =
    stays_lawful c.args.place.shard (g.S.Store.history c.args.port.now.store) (g.S.Store.history c.execute.new.port.store) (Executes c.args.place.shard c.in-Ok.feed.lines
    (g.Si.Sink.taken c.args.out.now) (g.Si.Sink.taken c.execute.new.out) c.execute.result) c.execute.ensures.told

pub returns-in-Err-Damaged-clause-lawful : goal.returns-in-Err-Damaged-clause-lawful
returns-in-Err-Damaged-clause-lawful g c =
    stays_lawful c.args.place.shard (g.S.Store.history c.args.port.now.store) (g.S.Store.history c.execute.new.port.store) (Executes c.args.place.shard c.in-Ok.feed.lines
    (g.Si.Sink.taken c.args.out.now) (g.Si.Sink.taken c.execute.new.out) c.execute.result) c.execute.ensures.told

pub returns-in-Err-MembersFull-clause-lawful : goal.returns-in-Err-MembersFull-clause-lawful
returns-in-Err-MembersFull-clause-lawful g c =
    stays_lawful c.args.place.shard (g.S.Store.history c.args.port.now.store) (g.S.Store.history c.execute.new.port.store) (Executes c.args.place.shard c.in-Ok.feed.lines
    (g.Si.Sink.taken c.args.out.now) (g.Si.Sink.taken c.execute.new.out) c.execute.result) c.execute.ensures.told

pub returns-in-Err-Spent-clause-lawful : goal.returns-in-Err-Spent-clause-lawful
returns-in-Err-Spent-clause-lawful g c =
    stays_lawful c.args.place.shard (g.S.Store.history c.args.port.now.store) (g.S.Store.history c.execute.new.port.store) (Executes c.args.place.shard c.in-Ok.feed.lines
    (g.Si.Sink.taken c.args.out.now) (g.Si.Sink.taken c.execute.new.out) c.execute.result) c.execute.ensures.told

pub returns-in-Err-Memory-execute-clause-lawful : goal.returns-in-Err-Memory-execute-clause-lawful
returns-in-Err-Memory-execute-clause-lawful g c =
    stays_lawful c.args.place.shard (g.S.Store.history c.args.port.now.store) (g.S.Store.history c.execute.new.port.store) (Executes c.args.place.shard c.in-Ok.feed.lines
    (g.Si.Sink.taken c.args.out.now) (g.Si.Sink.taken c.execute.new.out) c.execute.result) c.execute.ensures.told

pub returns-in-Err-Damaged-clause-ends : goal.returns-in-Err-Damaged-clause-ends
returns-in-Err-Damaged-clause-ends g c =
    let a = g.S.Store.history c.args.port.now.store in
    let d = g.S.Store.history c.execute.new.port.store in
    let told = subst (λ (f : RunFault). Goes c.args.place.shard a d
    (λ list start es now. FailedRun c.args.place.shard f start es now)) c.in-Err-Damaged.field-0-is c.in-Err-Damaged.ensures.told in
    ((c.in-Ok.feed.lines, c.in-Ok.ensures.read), told)

pub returns-in-Err-MembersFull-clause-ends : goal.returns-in-Err-MembersFull-clause-ends
returns-in-Err-MembersFull-clause-ends g c =
    let a = g.S.Store.history c.args.port.now.store in
    let d = g.S.Store.history c.execute.new.port.store in
    let told = subst (λ (f : RunFault). Goes c.args.place.shard a d
    (λ list start es now. FailedRun c.args.place.shard f start es now)) c.in-Err-MembersFull.field-0-is c.in-Err-MembersFull.ensures.told in
    ((c.in-Ok.feed.lines, c.in-Ok.ensures.read), told)

pub returns-in-Err-Spent-clause-ends : goal.returns-in-Err-Spent-clause-ends
returns-in-Err-Spent-clause-ends g c =
    let a = g.S.Store.history c.args.port.now.store in
    let d = g.S.Store.history c.execute.new.port.store in
    let told = subst (λ (f : RunFault). Goes c.args.place.shard a d
    (λ list start es now. FailedRun c.args.place.shard f start es now)) c.in-Err-Spent.field-0-is c.in-Err-Spent.ensures.told in
    ((c.in-Ok.feed.lines, c.in-Ok.ensures.read), told)
