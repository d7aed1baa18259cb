use Rattle.std.proofs.Common.{rules}
use Rattle.update_core.proofs.JoinLaws.{Joined, joined_all}
use Rattle.update_core.proofs.consolidating.join.Goals as goal

joined : (c : goal.After-dedup_by) → Joined c.args.rows.now.items c.dedup_by.new.self.items
joined c = joined_all _
    (λ s x k b t x' k' r. record { same = search rules; stays = search rules; sum = search rules; apart = search rules })
    c.args.rows.now.items _ c.dedup_by.new.self.items c.requires.ascending c.requires.room c.dedup_by.ensures.filtered.told

pub returns-clause-rising : goal.returns-clause-rising
returns-clause-rising c = (joined c).rising

pub returns-clause-same : goal.returns-clause-same
returns-clause-same c = (joined c).same
