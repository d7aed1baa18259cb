use Rattle.std.proofs.Common.{take}
use Rattle.reclock_text.specs.Replies.{bindings_text}
use Rattle.reclock_text.proofs.Bindings.{extends_more, on_err}
use Rattle.reclock_text.proofs.printing.print_bindings.Goals as goal

pub returns-in_err-put_binding-clause-err : goal.returns-in_err-put_binding-clause-err
returns-in_err-put_binding-clause-err c =
    on_err c.from_residual.result
    (extends_more c.args.out.now.items c.loop-place.out.items c.put_binding.new.out.items
    (bindings_text (take c.loop-place.place c.args.bindings.now)) c.loop-place.invariant c.in_err-put_binding.ensures.err)
