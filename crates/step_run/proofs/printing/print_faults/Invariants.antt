use Rattle.std.proofs.Common.{◌≡◌, ◌++◌}
use Rattle.step_run.specs.Sayings.{fault_lines}
use Rattle.step_run.proofs.printing.print_faults.Given as goal

abbrev pub invariant-loop : goal.invariant-loop
invariant-loop l = l.out.items ≡ l.initial.out.items ++ fault_lines l.name l.counter
