use Rattle.std.proofs.Common.{◌≡◌, ◌≤◌}
use Rattle.machine_core.specs.Polling.{FollowsWhere}
use Rattle.step_run.proofs.Turns.{SoFar}
use Rattle.step_run.proofs.stepping.step.Given as goal

abbrev pub invariant-loop : goal.invariant-loop
invariant-loop g l = record {
  so_far : SoFar g.M.Machine.words l.initial.port.client l.initial.machine l.machine l.counter l.faults (g.S.Store.history l.initial.port.store)
      (g.S.Store.history l.port.store);
  sound : g.M.Machine.words.IsSound l.machine;
  follows : FollowsWhere g.M.Machine.words l.initial.port.client (g.S.Store.history l.port.store) l.machine;
  failed : l.faults ≤ l.counter;
  client : l.port.client ≡ l.initial.port.client;
  calls : g.S.Store.faults l.initial.port.store ≤ g.S.Store.faults l.port.store;
}
