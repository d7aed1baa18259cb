use Rattle.std.proofs.Common.{◌≡◌, ◌++◌, take}
use Rattle.std.specs.List.{flat_map}
use Rattle.feed_text.specs.Replies.{update_text}
use Rattle.reclock_text.proofs.printing.put_updates.Given as goal

abbrev pub invariant-loop-update : goal.invariant-loop-update
invariant-loop-update l = l.out.items ≡ l.initial.out.items ++ flat_map update_text (take l.update-index l.updates)
