-- What no call of a port changes of its pass.
use Rattle.std.proofs.Common.{◌≡◌, ℕ, ◌+◌, ◌==◌, List, [], ◌∷◌, map, refl, ap, ◌∙◌}
use Rattle.turnstile.specs.declared.views.View.{View}
use Rattle.turnstile.specs.Rule.{once, times}
use Rattle.turnstile.specs.Plays.{credit, gave_back, turned}
use Rattle.store_core.specs.declared.entries.Entry.{Entry}
use Rattle.shared_store.specs.Passes.{kept_view}

numbers_credit : (n : ℕ) (es : List Entry) (ks : List (ℕ × List Entry)) → map (λ k. k.0) (credit n es ks) ≡ map (λ k. k.0) ks
numbers_credit n es [] = refl
numbers_credit n es (k ∷ ks) = ap (λ ns. k.0 ∷ ns) (numbers_credit n es ks)

-- how often a pass answers for a number is told by the numbers
pub times_kept : (n : ℕ) (ks ls : List (ℕ × List Entry)) → map (λ k. k.0) ks ≡ map (λ k. k.0) ls → times n ks ≡ times n ls
times_kept n [] [] e = refl
times_kept n [] (l ∷ ls) e = absurd (cc e)
times_kept n (k ∷ ks) [] e = absurd (cc e)
times_kept n (k ∷ ks) (l ∷ ls) e =
    let first : k.0 ≡ l.0 = cc e in
    let rest : map (λ k. k.0) ks ≡ map (λ k. k.0) ls = cc e in
    λ i. once (first i == n) + times_kept n ks ls rest i

-- a turn in which the pass knew u, and w after it
pub turn_keeps : {S : Type 0} (v u w : View S Entry) (own : List Entry) →
    u ≡ turned v u.gain → w ≡ gave_back u own → kept_view w ≡ kept_view v
turn_keeps v u w own took gave =
    let at_give : kept_view w ≡ kept_view (gave_back (turned v u.gain) own) =
    ap kept_view gave ∙ ap (λ x. kept_view (gave_back x own)) took in
    at_give ∙ (λ i. record (kept_view v) { kin = numbers_credit v.number own v.kin i })
