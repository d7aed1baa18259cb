use Rattle.std.proofs.Common.{ℕ, List, [], ◌∷◌, ◌++◌, length, sym, ap, ◌∙◌, arith}
use Rattle.std.proofs.lemmas.Result.{on_ok_weaker}
use Rattle.remap_core.specs.Extending.{ends_at}
use Rattle.remap_core.proofs.RaiseLaws.{replaced_at, all_earlier}
use Rattle.remap_core.proofs.binding_lists.put_at.Goals as goal

pub returns-then-ends_at-clause-ok : goal.returns-then-ends_at-clause-ok
returns-then-ends_at-clause-ok c =
    let bs = c.args.items.now.items in
    let new : ℕ × List ℕ = (c.args.time, c.args.frontier) in
    replaced_at bs c.args.time c.len-place.result new c.requires.rising c.requires.up_to
    (ap (λ l. ends_at l c.args.time) (sym c.deref.ensures.value) ∙ sym c.ends_at.ensures ∙ c.if-ends_at.true)
    (omega (arith, c.len-place.ensures, c.deref.ensures.len, ap length c.deref.ensures.value))

pub returns-clause-ok : goal.returns-clause-ok
returns-clause-ok c =
    let bs = c.args.items.now.items in
    let new : ℕ × List ℕ = (c.args.time, c.args.frontier) in
    on_ok_weaker c.put.result
    (λ e. e ∙ ap (λ l. l ++ new ∷ [])
    (sym (all_earlier bs c.args.time c.requires.rising c.requires.up_to (ap (λ l. ends_at l c.args.time) (sym c.deref.ensures.value)
    ∙ sym c.ends_at.ensures ∙ c.if-ends_at.false))))
    c.put.ensures.ok
