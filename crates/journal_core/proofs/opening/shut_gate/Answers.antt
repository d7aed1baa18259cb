use Rattle.journal_core.proofs.Repairing.{gate_shut}
use Rattle.journal_core.proofs.opening.shut_gate.Goals as goal

pub returns-clause-ok : goal.returns-clause-ok
returns-clause-ok g c =
    gate_shut c.args.end c.args.gate (g.D.Disk.history c.args.disk.now) (g.D.Disk.history c.write_at.new.self)
    (g.D.Disk.history c.sync.new.self) c.in_ok-write_at.ensures.ok c.in_ok-sync.ensures.ok
