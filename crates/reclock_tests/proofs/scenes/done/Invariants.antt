use Rattle.reclock_client.specs.Operators.{IsSound}
use Rattle.reclock_client.specs.Asking.{InTurn}
use Rattle.reclock_tests.proofs.scenes.done.Given as goal

abbrev pub invariant-loop : goal.invariant-loop
invariant-loop l = record { sound : IsSound l.operator; turn : InTurn l.operator }
