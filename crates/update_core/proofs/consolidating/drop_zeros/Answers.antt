use Rattle.std.proofs.Common.{rules, pos, not}
use Rattle.std.proofs.lemmas.Fn.{filter_same}
use Rattle.std.specs.Ordering.{int_eq}
use Rattle.update_core.proofs.JoinLaws.{zeros_dropped}
use Rattle.update_core.proofs.consolidating.drop_zeros.Goals as goal

pub returns : goal.returns
returns c = zeros_dropped c.args.rows.now.items c.retain.new.self.items c.requires (filter_same _ (λ u. not (int_eq u.diff (pos 0))) _
    (λ x b f' k. search rules) _ _ c.retain.ensures.filtered)
