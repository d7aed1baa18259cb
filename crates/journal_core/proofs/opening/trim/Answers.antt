use Rattle.journal_core.proofs.Repairing.{trimmed}
use Rattle.journal_core.proofs.opening.trim.Goals as goal

pub returns-clause-ok : goal.returns-clause-ok
returns-clause-ok g c = trimmed c.args.end c.args.len (g.D.Disk.history c.args.disk.now) (g.D.Disk.history c.cut.new.self)
    c.in_ok-cut.ensures.ok
