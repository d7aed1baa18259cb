use Rattle.store_file.proofs.Keeping.{added_safely, added_keeps}
use Rattle.store_file.proofs.taking.added.Goals as goal

pub returns-in-Ok-clause-kept : goal.returns-in-Ok-clause-kept
returns-in-Ok-clause-kept g c here s keeps change =
    added_keeps s c.args.call.now c.args.change.now c.args.journal.now.end c.requires.spelled change
    (g.D.Disk.history c.args.journal.now.disk) (g.D.Disk.history c.add.new.self.disk) c.add.new.self.end keeps c.add.ensures.any_moment
    c.in-Ok.ensures.there

pub returns-in-Ok-clause-any_moment : goal.returns-in-Ok-clause-any_moment
returns-in-Ok-clause-any_moment g c s keeps change =
    added_safely s c.args.call.now c.args.change.now c.args.journal.now.end c.requires.spelled change
    (g.D.Disk.history c.args.journal.now.disk) (g.D.Disk.history c.add.new.self.disk) keeps c.add.ensures.any_moment

pub returns-in-Err-clause-any_moment : goal.returns-in-Err-clause-any_moment
returns-in-Err-clause-any_moment g c s keeps change =
    added_safely s c.args.call.now c.args.change.now c.args.journal.now.end c.requires.spelled change
    (g.D.Disk.history c.args.journal.now.disk) (g.D.Disk.history c.add.new.self.disk) keeps c.add.ensures.any_moment
