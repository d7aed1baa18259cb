use Rattle.std.proofs.Common.{refl}
use Rattle.journal_core.proofs.Repairing.{begun}
use Rattle.journal_core.proofs.opening.begin.Goals as goal

pub returns-clause-begun : goal.returns-clause-begun
returns-clause-begun g c =
    begun _ (g.D.Disk.history c.args.disk.now) (g.D.Disk.history c.write_at.new.self) (g.D.Disk.history c.sync.new.self) refl c.requires
    c.in_ok-write_at.ensures.ok c.in_ok-sync.ensures.ok
