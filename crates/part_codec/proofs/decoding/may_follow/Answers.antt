use Rattle.std.proofs.Common.{sym, ap, ◌∙◌}
use Rattle.std.specs.Ordering.{is_lt, ordering_then}
use Rattle.part_codec.specs.Reading.{follows}
use Rattle.part_codec.proofs.Loop.{last_is}
use Rattle.part_codec.proofs.decoding.may_follow.Goals as goal

pub returns-in-len1-up : goal.returns-in-len1-up
returns-in-len1-up c =
    let before = c.before-item.result in
    c.is_lt.ensures
    ∙ ap is_lt (c.then-order.ensures ∙ (λ i. ordering_then (c.cmp.ensures i) (c.cmp-in-len1-up.ensures i)))
    ∙ ap (λ b. follows b c.args.row.now) (sym (last_is c.args.rows.now before c.in-len1-up.len_at_least c.before-item.is))
