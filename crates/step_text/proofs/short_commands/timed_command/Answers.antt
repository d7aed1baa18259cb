use Rattle.std.proofs.Common.{codes}
use Rattle.feed_text.proofs.LineWords.{different_word}
use Rattle.step_text.proofs.Texts.{bad_time, other_name}
use Rattle.step_text.proofs.short_commands.timed_command.Goals as goal

pub returns-in_err-time : goal.returns-in_err-time
returns-in_err-time c =
    let cut = c.in_ok-word.ensures in
    rw c.from_residual-in_err-time.ensures (bad_time c.args.text.now c.in_ok-word.word.now c.in_ok-word.time.now cut.0 cut.1 c.in_err-time.ensures.none)

pub returns : goal.returns
returns c =
    let cut = c.in_ok-word.ensures in
    let word = c.in_ok-word.word.now in
    other_name c.args.text.now word c.in_ok-word.time.now cut.0 cut.1
    (different_word word c.as_slice.result.now (codes "snapshot") c.eq.result c.eq.ensures c.if-eq.false c.as_slice.ensures)
    (different_word word c.as_slice-2.result.now (codes "listen") c.eq-2.result c.eq-2.ensures c.if-eq-2.false c.as_slice-2.ensures)
    (different_word word c.as_slice-3.result.now (codes "advance") c.eq-3.result c.eq-3.ensures c.if-eq-3.false c.as_slice-3.ensures)
