use Rattle.std.specs.Option.{ForSome}
use Rattle.store_file.specs.Causes.{IsCauseOf}
use Rattle.store_file.specs.FileStores.{history_of}
use Rattle.store_file.specs.Replays.{Stands}
use Rattle.persist_app.specs.DiskLefts.{BeginsWhereTold}
use Rattle.persist_app.proofs.DiskOpenings.{begins_held, cause_before, if_err_so, if_ok_so}
use Rattle.persist_app.proofs.on_disk.store_on.Goals as goal

pub returns-in-Ok-clause-start : goal.returns-in-Ok-clause-start
returns-in-Ok-clause-start g c =
    let old = g.D.Disk.history c.args.disk in
    let mid = g.D.Disk.history c.len.new.self in
    let length = c.in-Ok.field-0 in
    if_ok_so (λ store. ForSome mid (λ h. Stands (history_of store).start h.now.bytes))
    (λ store. BeginsWhereTold old (history_of store).start) c.open.result
    (λ store stands. begins_held old mid length (history_of store).start c.in-Ok.ensures.length c.in-Ok.field-0-test.1
    c.in-Ok.ensures.ok stands)
    c.open.ensures.start

pub returns-in-Ok-clause-fault : goal.returns-in-Ok-clause-fault
returns-in-Ok-clause-fault g c =
    let old = g.D.Disk.history c.args.disk in
    let mid = g.D.Disk.history c.len.new.self in
    let before = g.D.Disk.faults c.args.disk in
    let then_ = g.D.Disk.faults c.len.new.self in
    let faults = g.D.Disk.faults in
    if_err_so (λ fail. IsCauseOf mid then_ (faults fail.disk) fail.why) (λ fail. IsCauseOf old before (faults fail.disk) fail.why)
    c.open.result (λ fail cause. cause_before old mid before then_ (faults fail.disk) fail.why c.in-Ok.ensures.ok
    c.len.ensures.cause.later cause) c.open.ensures.fault
