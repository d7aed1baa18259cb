use Rattle.std.proofs.Common.{take}
use Rattle.std.specs.List.{AllByRecursion}
use Rattle.appends_core.specs.Feeds.{IsWithin}
use Rattle.appends_core.proofs.feed_checks.are_within.Given as goal

abbrev pub invariant-loop-row : goal.invariant-loop-row
invariant-loop-row l = AllByRecursion (IsWithin l.lower l.upper) (take l.row-index l.rows)
