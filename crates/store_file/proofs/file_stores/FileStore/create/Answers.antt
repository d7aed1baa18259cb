use Rattle.std.proofs.Common.{sym, subst}
use Rattle.store_core.specs.Stores.{Stored}
use Rattle.store_file.specs.Replays.{KeepsWhereTold}
use Rattle.store_file.proofs.Keeping.{begun_keeps}
use Rattle.store_file.proofs.file_stores.FileStore.create.Goals as goal

pub starting-requires : goal.starting-requires
starting-requires g c =
    let disk = g.D.Disk.history c.begin.new.disk in
    subst (λ (s : Stored). KeepsWhereTold s 8 disk) (sym c.new.ensures.empty)
    (begun_keeps (g.D.Disk.history c.args.disk) disk c.in-Ok.ensures.begun)
