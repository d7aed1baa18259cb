use Rattle.std.proofs.Common.{◌++◌, sym, ap, ◌∙◌}
use Rattle.std.proofs.lemmas.Result.{err_from_is_err_and}
use Rattle.feed_text.specs.Lines.{lines_of}
use Rattle.feed_text.specs.Reading.{taken_lines}
use Rattle.feed_text.proofs.TakenLines.{begins_taken, stops_at}
use Rattle.feed_text.proofs.parsing.read_lines.Goals as goal

pub returns-in_err-reader-clause-fault : goal.returns-in_err-reader-clause-fault
returns-in_err-reader-clause-fault c =
    let reader = c.loop-rest.reader in
    let so_far = c.loop-rest.invariant in
    let lines = taken_lines reader.commands reader.block in
    let cut = c.next_line.result in
    let p = err_from_is_err_and c.from_residual.result c.from_residual.ensures.1 in
    rw (p.1, p.2)
    (stops_at (lines_of c.args.text.now) lines (lines_of cut.1.now) cut.0.now reader.number c.in_err-reader.field-0.0
    (sym so_far.parts ∙ ap (λ ls. lines ++ ls) c.next_line.ensures.lines) so_far.taken.counted (begins_taken reader.commands reader.block reader.number so_far.taken)
    c.in_err-reader.ensures.fault)
