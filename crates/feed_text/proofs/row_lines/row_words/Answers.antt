use Rattle.feed_text.proofs.LineWords.{uncut, bad_time, rest_uncut, bad_difference}
use Rattle.feed_text.proofs.row_lines.row_words.Goals as goal

pub returns-in_err-time : goal.returns-in_err-time
returns-in_err-time c = rw c.from_residual.ensures (uncut c.args.line.now c.in_err-time.ensures)

pub returns-in_err-time-2 : goal.returns-in_err-time-2
returns-in_err-time-2 c =
    let cut = c.in_ok-time.ensures in
    rw c.from_residual-in_err-time-2.ensures (bad_time c.args.line.now c.in_ok-time.time.now c.in_ok-time.rest.now cut.0 cut.1 c.in_err-time-2.ensures.none)

pub returns-in_err-diff : goal.returns-in_err-diff
returns-in_err-diff c =
    let cut = c.in_ok-time.ensures in
    rw c.from_residual-in_err-diff.ensures (rest_uncut c.args.line.now c.in_ok-time.time.now c.in_ok-time.rest.now cut.0 cut.1 c.in_err-diff.ensures)

pub returns-in_err-diff-2 : goal.returns-in_err-diff-2
returns-in_err-diff-2 c =
    let cut = c.in_ok-time.ensures in
    let again = c.in_ok-diff.ensures in
    rw c.from_residual-in_err-diff-2.ensures
    (bad_difference c.args.line.now c.in_ok-time.time.now c.in_ok-time.rest.now c.in_ok-diff.diff.now c.in_ok-diff.datum.now cut.0 cut.1 again.0 again.1 c.in_err-diff-2.ensures.none)
