use Rattle.std.proofs.Common.{subst}
use Rattle.store_core.specs.Stores.{Stored}
use Rattle.store_file.specs.Replays.{Keeps}
use Rattle.store_core.specs.Contents.{stored_of}
use Rattle.store_file.specs.FileStores.{store_now, end_of, opened_disk, disk_of}
use Rattle.store_file.proofs.FirstCalls.{leaves_first}
use Rattle.store_file.proofs.Keeping.{keeps_stands, rests_safely}
use Rattle.store_file.proofs.file_stores.FileStore.into_disk.Goals as goal

pub returns-clause-stands : goal.returns-clause-stands
returns-clause-stands g c shut h is =
    let s = c.args.self in
    keeps_stands (store_now s) (end_of s) h
    (subst (λ (t : Stored). Keeps t (end_of s) h) (s.replayed shut) (s.kept h is shut))

pub returns-clause-crash : goal.returns-clause-crash
returns-clause-crash g c shut h is =
    let s = c.args.self in
    rests_safely (store_now s) (end_of s) h
    (subst (λ (t : Stored). Keeps t (end_of s) h) (s.replayed shut) (s.kept h is shut))

pub returns-clause-any_moment : goal.returns-clause-any_moment
returns-clause-any_moment g c =
    let s = c.args.self in
    leaves_first (opened_disk s) (disk_of s) (stored_of s.start.value) s.trail.items s.told s.made s.spelled s.safe
