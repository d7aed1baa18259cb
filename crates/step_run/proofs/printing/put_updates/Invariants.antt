use Rattle.std.proofs.Common.{◌≡◌, ◌++◌, take}
use Rattle.std.specs.List.{flat_map}
use Rattle.step_run.specs.Sayings.{named_update}
use Rattle.step_run.proofs.printing.put_updates.Given as goal

abbrev pub invariant-loop-update : goal.invariant-loop-update
invariant-loop-update l = l.out.items ≡ l.initial.out.items ++ flat_map (named_update l.name) (take l.update-index l.updates)
