use Rattle.std.proofs.Common.{◌≡◌}
use Rattle.machine_core.specs.Polling.{FollowsWhere}
use Rattle.write_client.specs.Machining.{machine}
use Rattle.write_client.specs.Writing.{IsSound}
use Rattle.shared_store_tests.proofs.openings.poll_to_end.Given as goal

abbrev pub invariant-loop : goal.invariant-loop
invariant-loop g l = record {
  sound : IsSound l.writer;
  follows : FollowsWhere machine (g.P.Port.client l.port) (g.P.Port.front l.port) l.writer;
  kept : g.P.Port.kept l.port ≡ g.P.Port.kept l.fn.port;
}
