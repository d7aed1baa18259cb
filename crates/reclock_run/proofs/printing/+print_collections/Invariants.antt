use Rattle.std.proofs.Common.{length}
use Rattle.reclock_run.proofs.printing.+print_collections.Given as goal

abbrev pub decreases-print_collections : goal.decreases-print_collections
decreases-print_collections l = length l.collections.now
