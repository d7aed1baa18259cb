use Rattle.std.proofs.Common.{ℕ, List, sym, subst, ap, ◌∙◌}
use Rattle.remap_core.specs.Extending.{last_time, UpToTime}
use Rattle.remap_core.proofs.RaiseLaws.{up_to_last}
use Rattle.remap_core.proofs.binding_lists.Bindings.last_time.Goals as goal

pub returns-clause-up_to : goal.returns-clause-up_to
returns-clause-up_to c =
    let items : List (ℕ × List ℕ) = c.self.inside.items.items in
    let up : UpToTime (last_time items) items = up_to_last items c.self.invariant in
    subst (λ (bs : List (ℕ × List ℕ)). UpToTime c.last_time.result bs) c.self.view_is
    (subst (λ (t : ℕ). UpToTime t items) (sym (c.last_time.ensures ∙ ap last_time c.deref.ensures.value)) up)
