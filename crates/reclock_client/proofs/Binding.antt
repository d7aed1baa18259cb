-- What is left of some rows, as they are bound one by one.
use Rattle.std.proofs.Common.{◌≡◌, ℕ, zero, suc, ◌≤◌, List, [], ◌∷◌, length, drop, refl, sym, ap, subst, ◌∙◌, arith}
use Rattle.update_core.specs.declared.updates.Update.{Update}
use Rattle.remap_core.specs.Extending.{with_rows}
use Rattle.reclock_client.specs.declared.intakes.Intake.TheVariants as intakes
use Rattle.reclock_client.specs.Reading.{AllRaise, Binds}

none_left : (us : List Update) (i : ℕ) → length us ≤ i → drop i us ≡ []
none_left [] zero h = refl
none_left [] (suc i) h = refl
none_left (u ∷ us) zero h = absurd (omega arith)
none_left (u ∷ us) (suc i) h = none_left us i (omega arith)

pub all_bound : (since : ℕ) (old now : List (ℕ × List ℕ)) (total us : List Update) (i : ℕ) → length us ≤ i →
    with_rows now (drop i us) ≡ with_rows old total → Binds since old total now intakes.Nothing
all_bound since old now total us i h same = record { same = ap (with_rows now) (sym (none_left us i h)) ∙ same; raise = tt }

pub still_left : (since : ℕ) (old now new : List (ℕ × List ℕ)) (total us : List Update) (i : ℕ) → new ≡ now →
    with_rows now (drop i us) ≡ with_rows old total → AllRaise now (drop i us) → Binds since old total new (intakes.Changes us i)
still_left since old now new total us i e same raise = record {
  same = ap (λ (bs : List (ℕ × List ℕ)). with_rows bs (drop i us)) e ∙ same;
  raise = subst (λ (bs : List (ℕ × List ℕ)). AllRaise bs (drop i us)) (sym e) raise;
}
