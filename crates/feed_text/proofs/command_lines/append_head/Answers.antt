use Rattle.std.proofs.Common.{codes}
use Rattle.feed_text.proofs.LineWords.{other_head, head_rest_uncut, bad_lower, bad_upper, other_word}
use Rattle.feed_text.proofs.command_lines.append_head.Goals as goal

pub returns-then-ne : goal.returns-then-ne
returns-then-ne c =
    let cut = c.in_ok-word.ensures in
    other_head c.args.line.now c.in_ok-word.word.now c.in_ok-word.rest.now cut.0 cut.1
    (other_word c.in_ok-word.word.now c.as_slice.result.now (codes "append") c.ne.result c.ne.ensures c.if-ne.true c.as_slice.ensures)

pub returns-in_err-lower : goal.returns-in_err-lower
returns-in_err-lower c =
    let cut = c.in_ok-word.ensures in
    rw c.from_residual-in_err-lower.ensures (head_rest_uncut c.args.line.now c.in_ok-word.word.now c.in_ok-word.rest.now cut.0 cut.1 c.in_err-lower.ensures)

pub returns-in_err-lower-2 : goal.returns-in_err-lower-2
returns-in_err-lower-2 c =
    let cut = c.in_ok-word.ensures in
    let again = c.in_ok-lower.ensures in
    rw c.from_residual-in_err-lower-2.ensures
    (bad_lower c.args.line.now c.in_ok-word.word.now c.in_ok-word.rest.now c.in_ok-lower.lower.now c.in_ok-lower.upper.now cut.0 cut.1 again.0 again.1 c.in_err-lower-2.ensures.none)

pub returns-in_err-upper : goal.returns-in_err-upper
returns-in_err-upper c =
    let cut = c.in_ok-word.ensures in
    let again = c.in_ok-lower.ensures in
    rw c.from_residual-in_err-upper.ensures
    (bad_upper c.args.line.now c.in_ok-word.word.now c.in_ok-word.rest.now c.in_ok-lower.lower.now c.in_ok-lower.upper.now cut.0 cut.1 again.0 again.1 c.in_err-upper.ensures.none)
