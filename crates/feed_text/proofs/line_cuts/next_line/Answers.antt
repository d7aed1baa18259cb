use Rattle.std.proofs.Common.{◌∷◌, length, sym, ap, ◌∙◌, arith}
use Rattle.std.proofs.lemmas.List.{take_rest, drop_all}
use Rattle.feed_text.specs.Lines.{lines_of}
use Rattle.feed_text.proofs.TextLines.{lines_cut, lines_whole}
use Rattle.feed_text.proofs.line_cuts.next_line.Goals as goal

pub returns-in-Some-clause-lines : goal.returns-in-Some-clause-lines
returns-in-Some-clause-lines c =
    let parts = c.in-Some.ensures in
    ap lines_of parts.0 ∙ lines_cut c.in-Some.line.now c.in-Some.rest.now parts.1

pub returns-in-None-clause-lines : goal.returns-in-None-clause-lines
returns-in-None-clause-lines c =
    let text = c.args.text.now in
    lines_whole text c.in-None.ensures c.requires
    ∙ ap (λ l. text ∷ lines_of l) (sym (take_rest text (length text) ∙ drop_all (length text) text (omega arith)))
