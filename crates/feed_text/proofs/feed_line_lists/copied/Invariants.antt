use Rattle.std.proofs.Common.{◌≡◌, take}
use Rattle.feed_text.proofs.feed_line_lists.copied.Given as goal

abbrev pub invariant-loop-item : goal.invariant-loop-item
invariant-loop-item l = l.copy.items ≡ take l.item-index l.items
