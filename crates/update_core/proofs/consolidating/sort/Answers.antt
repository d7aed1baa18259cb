use Rattle.std.proofs.Common.{rules}
use Rattle.update_core.proofs.JoinLaws.{ascending_from_sort}
use Rattle.update_core.proofs.consolidating.sort.Goals as goal

pub returns-clause-ascending : goal.returns-clause-ascending
returns-clause-ascending c = ascending_from_sort c.sort_by.new.self.items c.in_ok-sort_by.ensures.sorted (λ a r f q. search rules)
