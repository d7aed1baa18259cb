use Rattle.journal_core.proofs.Repairing.{repaired}
use Rattle.journal_core.proofs.opening.repair.Goals as goal

pub returns-clause-ok : goal.returns-clause-ok
returns-clause-ok g c =
    repaired c.args.end c.args.gate c.args.len (g.D.Disk.history c.args.disk.now) (g.D.Disk.history c.shut_gate.new.disk)
    (g.D.Disk.history c.trim.new.disk) c.in_ok-shut_gate.ensures.ok c.in_ok-trim.ensures.ok
