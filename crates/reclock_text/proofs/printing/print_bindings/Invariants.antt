use Rattle.std.proofs.Common.{◌≡◌, ◌++◌, take}
use Rattle.reclock_text.specs.Replies.{bindings_text}
use Rattle.reclock_text.proofs.printing.print_bindings.Given as goal

abbrev pub invariant-loop-place : goal.invariant-loop-place
invariant-loop-place l = l.out.items ≡ l.initial.out.items ++ bindings_text (take l.place l.bindings)
