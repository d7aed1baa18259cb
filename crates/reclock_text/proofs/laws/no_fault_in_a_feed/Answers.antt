use Rattle.std.proofs.Common.{arith}
use Rattle.reclock_text.proofs.OneFeed as found
use Rattle.reclock_text.proofs.laws.no_fault_in_a_feed.Goals as goal

pub returns : goal.returns
returns c = λ operators bound. found.no_fault operators (omega (arith, bound))
