use Rattle.std.proofs.Common.{arith}
use Rattle.reclock_text.proofs.OneFeed as found
use Rattle.reclock_text.proofs.laws.one_fault.Goals as goal

pub returns : goal.returns
returns c = λ operators bound. found.one_fault operators (omega (arith, bound))
