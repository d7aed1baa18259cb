use Rattle.merge_client.proofs.Begun.{closing_where, merging_where, opened_where, renewing_where}
use Rattle.merge_client.proofs.laws.beginnings_follow.Goals as goal

pub returns-clause-opened : goal.returns-clause-opened
returns-clause-opened c = opened_where

pub returns-clause-merges : goal.returns-clause-merges
returns-clause-merges c = merging_where

pub returns-clause-renews : goal.returns-clause-renews
returns-clause-renews c = renewing_where

pub returns-clause-closes : goal.returns-clause-closes
returns-clause-closes c = closing_where
