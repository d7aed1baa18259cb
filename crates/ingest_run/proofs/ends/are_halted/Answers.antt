use Rattle.std.proofs.Common.{sym, ◌∙◌}
use Rattle.ingest_run.proofs.EndLaws.{halted_more, halted_not, halted_past}
use Rattle.ingest_run.proofs.ends.are_halted.Goals as goal

pub returns-then-not-is_halted : goal.returns-then-not-is_halted
returns-then-not-is_halted c =
    sym (halted_not c.loop-end.left c.args.ends.now c.loop-end.end-index c.end-item.result c.if-left-eq0.false c.loop-end-test.true c.end-item.is
    (sym c.is_halted.ensures ∙ c.if-not-is_halted.true)) ∙ c.loop-end.invariant

pub loop-end-preserved : goal.loop-end-preserved
loop-end-preserved c =
    halted_more c.loop-end.left c.args.ends.now c.loop-end.end-index c.end-item.result c.if-left-eq0.false c.loop-end-test.true c.end-item.is
    (sym c.is_halted.ensures ∙ c.if-not-is_halted.false) ∙ c.loop-end.invariant

pub returns : goal.returns
returns c = sym (halted_past c.loop-end.left c.args.ends.now c.loop-end.end-index c.loop-end-test.false) ∙ c.loop-end.invariant
