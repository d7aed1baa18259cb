use Rattle.std.proofs.Common.{◌+◌, ◌∷◌, ◌++◌, take, sym, ap, ◌∙◌}
use Rattle.std.proofs.lemmas.List.{take_rest}
use Rattle.feed_text.proofs.Cuts.{cut_here, cut_first, cut_none}
use Rattle.feed_text.proofs.line_cuts.cut_at.Goals as goal

pub returns-in_err-place : goal.returns-in_err-place
returns-in_err-place c = rw c.from_residual.ensures (cut_none c.args.byte c.args.text.now (sym c.place_of.ensures ∙ c.in_err-place.was))

pub returns : goal.returns
returns c =
    let here = sym c.place_of.ensures ∙ c.in_ok-place.was in
    let text = c.args.text.now in
    let rest = ap (λ l. take c.in_ok-place.place text ++ c.args.byte ∷ l) (sym (take_rest text (c.in_ok-place.place + 1))) in
    (cut_here c.args.byte text c.in_ok-place.place here ∙ rest, cut_first c.args.byte text c.in_ok-place.place here)
