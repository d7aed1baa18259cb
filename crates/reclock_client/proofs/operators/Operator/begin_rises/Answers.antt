use Rattle.std.proofs.Common.{rules, ◌≡◌, ℕ, Option, Some, sym, subst}
use Rattle.write_client.specs.Beginning.{append_fault}
use Rattle.reclock_client.specs.declared.errands.Errand.TheVariants as errands
use Rattle.reclock_client.specs.Starting.{MayAppend}
use Rattle.reclock_client.proofs.Fitting.{rises_fit}
use Rattle.reclock_client.proofs.operators.Operator.begin_rises.Goals as goal

pub append-requires-clause-fits : goal.append-requires-clause-fits
append-requires-clause-fits c =
    let mint : c.args.self.now.course.errand ≡ Some (errands.Mint c.in-Some-Mint.time c.in-Some-Mint.seen) = search rules in
    subst (λ (to : Option ℕ). MayAppend (append_fault c.args.self.now.remap_writer c.in_ok-rows-in-Some-Mint.rows c.args.from to))
    (sym c.after.ensures)
    (rises_fit c.args.self.now c.requires.turn c.requires.busy c.args.from c.in-Some-Mint.time c.in-Some-Mint.seen
    c.in_ok-rows-in-Some-Mint.rows c.reached.result mint c.requires.step c.requires.idle c.in_ok-rows-in-Some-Mint.ensures)
