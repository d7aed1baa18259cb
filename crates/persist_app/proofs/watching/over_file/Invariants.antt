use Rattle.store_file.specs.FileStores.{disk_faults}
use Rattle.persist_app.proofs.watching.over_file.Given as goal

abbrev pub ghosts-watch : goal.ghosts-watch
ghosts-watch g a = record { count = disk_faults a.store }
