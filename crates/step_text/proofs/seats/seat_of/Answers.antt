use Rattle.std.proofs.Common.{sym, ap, ◌∙◌}
use Rattle.std.specs.Str.{bytes_eq}
use Rattle.step_text.proofs.Lines.{seat_here}
use Rattle.step_text.proofs.seats.seat_of.Goals as goal

pub returns-then-eq : goal.returns-then-eq
returns-then-eq c =
    let name = c.args.name.now in
    sym (sym c.loop-client.invariant
    ∙ seat_here name c.args.clients.now c.loop-client.client-index c.client-item.result c.loop-client-test.true c.client-item.is
    (ap (λ t. bytes_eq t name) (sym c.bytes.ensures.bytes) ∙ sym c.if-eq.ensures))
