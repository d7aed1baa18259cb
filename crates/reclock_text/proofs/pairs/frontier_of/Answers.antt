use Rattle.std.proofs.Common.{◌∷◌}
use Rattle.reclock_text.proofs.PairWords.{never_last, never_on, same_on, same_start, told_all}
use Rattle.reclock_text.proofs.pairs.frontier_of.Goals as goal

pub loop-word-init : goal.loop-word-init
loop-word-init c = same_start (32 ∷ c.args.text.now) c.nothing-told.result c.nothing-told.ensures

pub returns-in_err-told-clause-none : goal.returns-in_err-told-clause-none
returns-in_err-told-clause-none c =
    let cut = c.in-Some.ensures in
    rw c.from_residual.ensures
    (never_on (32 ∷ c.args.text.now) c.loop-word.left.now c.loop-word.told c.loop-word.invariant c.in-Some.word.now c.in-Some.after.now
    cut.0 cut.1 c.in_err-told.ensures)

pub loop-word-preserved : goal.loop-word-preserved
loop-word-preserved c =
    let cut = c.in-Some.ensures in
    same_on (32 ∷ c.args.text.now) c.loop-word.left.now c.loop-word.told c.loop-word.invariant c.in-Some.word.now c.in-Some.after.now
    c.in_ok-told.told cut.0 cut.1 c.in_ok-told.ensures

pub returns-in-None-clause-none : goal.returns-in-None-clause-none
returns-in-None-clause-none c =
    never_last (32 ∷ c.args.text.now) c.loop-word.left.now c.loop-word.told c.loop-word.invariant c.in_default.ensures c.in-None.ensures

pub returns-in-Some-with_pair-clause-some : goal.returns-in-Some-with_pair-clause-some
returns-in-Some-with_pair-clause-some c =
    told_all (32 ∷ c.args.text.now) c.loop-word.left.now c.loop-word.told c.loop-word.invariant c.in-Some-with_pair.last
    c.in_default.ensures c.in-Some-with_pair.ensures
