use Rattle.token_machine.proofs.Costs.{resumed_cost, storing_cost}
use Rattle.token_machine.proofs.laws.storing_costs_are_kept.Goals as goal

pub returns : goal.returns
returns c = record {
  moved = λ kind member token s new client list start e others es at base three prepared kept tried moves lt.
      storing_cost base client s list start e others es three at.sound prepared at.follows at.own at.call_is at.of_others at.stands
      at.lawful kept new tried moves lt;
  resumed = resumed_cost;
}
