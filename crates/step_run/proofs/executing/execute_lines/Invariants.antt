use Rattle.std.proofs.Common.{◌≤◌, ◌+◌, ◌*◌, length}
use Rattle.std.specs.List.{AllByRecursion}
use Rattle.feed_text.specs.declared.limits.TheConstants.{MAX_COMMANDS}
use Rattle.step_text.specs.declared.counts.TheConstants.{MAX_POLLS}
use Rattle.step_run.specs.Clients.{Ready}
use Rattle.step_run.specs.Executing.{made_among}
use Rattle.step_run.specs.Lines.{polls_of, sitting}
use Rattle.step_run.proofs.Running.{RunOver}
use Rattle.step_run.proofs.executing.execute_lines.Given as goal

abbrev pub invariant-loop-line : goal.invariant-loop-line
invariant-loop-line g l = record {
  over : RunOver l.shard (g.S.Store.history l.initial.port.store) (g.S.Store.history l.port.store) l.names l.initial.lines.items
      (g.Si.Sink.taken l.initial.out) (g.Si.Sink.taken l.out) l.lines.items (sitting l.scene);
  ready : Ready l.shard (g.S.Store.history l.port.store) l.scene;
  few : l.scene.polls + MAX_POLLS * length l.lines.items ≤ MAX_POLLS * MAX_COMMANDS;
  named : length l.scene.clients.items + made_among l.lines.items ≤ length l.names;
  each : AllByRecursion (λ line. polls_of line ≤ MAX_POLLS) l.lines.items;
  later : g.Si.Sink.faults l.initial.out ≤ g.Si.Sink.faults l.out;
  calls : g.S.Store.faults l.initial.port.store ≤ g.S.Store.faults l.port.store;
}

abbrev pub decreases-loop-line : goal.decreases-loop-line
decreases-loop-line g l = length l.lines.items
