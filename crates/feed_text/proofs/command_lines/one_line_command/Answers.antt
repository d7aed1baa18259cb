use Rattle.std.proofs.Common.{codes}
use Rattle.feed_text.specs.Grammar.{compact_line}
use Rattle.feed_text.proofs.LineWords.{bad_command_time, command_uncut, different_word, other_name}
use Rattle.feed_text.proofs.command_lines.one_line_command.Goals as goal

pub returns-in_err-word : goal.returns-in_err-word
returns-in_err-word c =
    let apart = different_word c.args.line.now c.as_slice.result.now compact_line c.eq.result c.eq.ensures c.if-eq.false c.as_slice.ensures in
    rw c.from_residual.ensures (command_uncut c.args.line.now apart c.in_err-word.ensures)

pub returns-in_err-time : goal.returns-in_err-time
returns-in_err-time c =
    let apart = different_word c.args.line.now c.as_slice.result.now compact_line c.eq.result c.eq.ensures c.if-eq.false c.as_slice.ensures in
    let cut = c.in_ok-word.ensures in
    rw c.from_residual-in_err-time.ensures (bad_command_time c.args.line.now c.in_ok-word.word.now c.in_ok-word.time.now apart cut.0 cut.1 c.in_err-time.ensures.none)

pub returns : goal.returns
returns c =
    let apart = different_word c.args.line.now c.as_slice.result.now compact_line c.eq.result c.eq.ensures c.if-eq.false c.as_slice.ensures in
    let cut = c.in_ok-word.ensures in
    let word = c.in_ok-word.word.now in
    other_name c.args.line.now word c.in_ok-word.time.now apart cut.0 cut.1
    (different_word word c.as_slice-2.result.now (codes "snapshot") c.eq-2.result c.eq-2.ensures c.if-eq-2.false c.as_slice-2.ensures)
    (different_word word c.as_slice-3.result.now (codes "listen") c.eq-3.result c.eq-3.ensures c.if-eq-3.false c.as_slice-3.ensures)
    (different_word word c.as_slice-4.result.now (codes "since") c.eq-4.result c.eq-4.ensures c.if-eq-4.false c.as_slice-4.ensures)
