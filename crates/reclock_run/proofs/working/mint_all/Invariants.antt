use Rattle.std.proofs.Common.{◌≡◌}
use Rattle.reclock_run.specs.Working.{IsReady, Worked}
use Rattle.reclock_run.proofs.working.mint_all.Given as goal

abbrev pub invariant-loop-saw : goal.invariant-loop-saw
invariant-loop-saw g l = record {
  worked : Worked (g.P.Port.client l.initial.port) (g.P.Port.front l.initial.port) (g.P.Port.front l.port) l.initial.operator l.operator;
  ready : IsReady (g.P.Port.client l.port) (g.P.Port.front l.port) l.operator;
  client : g.P.Port.client l.port ≡ g.P.Port.client l.initial.port;
  kept : g.P.Port.kept l.port ≡ g.P.Port.kept l.initial.port;
}
