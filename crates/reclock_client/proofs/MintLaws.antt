-- The rows of a mint raise each partition's sum to the greater of what was reached and what was seen.
use Rattle.std.proofs.Common.{◌≡◌, ℕ, zero, suc, ◌+◌, ◌-◌, ◌<◌, ℤ, pos, ◌+ℤ◌, Bool, true, false}
use Rattle.std.proofs.Common.{◌&&◌, cond, max, List, [], ◌∷◌, ◌++◌, map, refl, sym, ap, ◌∙◌, arith}
use Rattle.std.proofs.Math.IntN.{+ℤ_idl, +ℤ_idr}
use Rattle.std.proofs.lemmas.Int.{ints}
use Rattle.std.proofs.lemmas.Bool.Decides.{nat_tests}
use Rattle.std.specs.List.{range_with_len, flat_map}
use Rattle.std.specs.Prelude.{nat_lt, ◌==◌}
use Rattle.update_core.specs.declared.updates.Update.{Update}
use Rattle.update_core.specs.Totals.{total}
use Rattle.update_core.specs.Updates.{moment_cmp, moment_entry}
use Rattle.update_core.proofs.Consolidated.{total-append}
use Rattle.update_core.proofs.UpdateLaws.{entries-append}
use Rattle.remap_core.specs.Offsets.{offset}
use Rattle.remap_core.specs.RemapShards.{change_at, offset_of, partitions}
use Rattle.remap_core.proofs.RowLaws.{row_of, change_new}
use Rattle.reclock_client.specs.Minting.{rise_of, rises}

-- how much a partition is raised
abbrev amount : List ℕ → List ℕ → ℕ → ℤ
amount had seen p = cond (nat_lt (offset had p) (offset seen p)) (pos (offset seen p - offset had p)) (pos 0)

first_change : (t : ℕ) (had seen : List ℕ) (p q : ℕ) (us : List Update) →
    change_at (rise_of t had seen p ++ us) q t ≡ cond (q == p) (amount had seen p) (pos 0) +ℤ change_at us q t
first_change t had seen p q us = pick (nat_lt (offset had p) (offset seen p))
  where
    itself : (t == t) ≡ true
    itself = grind (arith, nat_tests)

    and_true : (x : Bool) → x && true ≡ x
    and_true true = refl
    and_true false = refl

    no_zero : (b : Bool) → cond b (pos 0) (pos 0) ≡ pos 0
    no_zero true = refl
    no_zero false = refl

    one : (n : ℕ) → total moment_cmp (map moment_entry (row_of p t n ∷ [])) (q ∷ [], t) ≡ cond (q == p) (pos n) (pos 0)
    one n = change_new [] p t n q t ∙ +ℤ_idl _ ∙ ap (λ b. cond ((q == p) && b) (pos n) (pos 0)) itself
        ∙ ap (λ b. cond b (pos n) (pos 0)) (and_true (q == p))

    pick : (b : Bool) → change_at (cond b (row_of p t (offset seen p - offset had p) ∷ []) [] ++ us) q t ≡
        cond (q == p) (cond b (pos (offset seen p - offset had p)) (pos 0)) (pos 0) +ℤ change_at us q t
    pick true =
        ap (λ es. total moment_cmp es (q ∷ [], t)) (entries-append (row_of p t (offset seen p - offset had p) ∷ []) us)
        ∙ total-append moment_cmp (map moment_entry (row_of p t (offset seen p - offset had p) ∷ [])) (map moment_entry us) (q ∷ [], t)
        ∙ ap (λ z. z +ℤ change_at us q t) (one (offset seen p - offset had p))
    pick false = sym (ap (λ z. z +ℤ change_at us q t) (no_zero (q == p)) ∙ +ℤ_idl (change_at us q t))

module _ (t : ℕ) (had seen : List ℕ) where
  not_below : (a k q : ℕ) → q < a → change_at (flat_map (rise_of t had seen) (range_with_len a k)) q t ≡ pos 0
  not_below a zero q h = refl
  not_below a (suc k) q h =
      first_change t had seen a q (flat_map (rise_of t had seen) (range_with_len (a + 1) k))
      ∙ (λ i. cond (differs i) (amount had seen a) (pos 0) +ℤ not_below (a + 1) k q (omega arith) i) ∙ +ℤ_idl (pos 0)
    where
      differs : (q == a) ≡ false
      differs = grind (arith, nat_tests)

  there : (a k i q : ℕ) → i < k → q ≡ a + i → change_at (flat_map (rise_of t had seen) (range_with_len a k)) q t ≡ amount had seen q
  there a zero i q h e = absurd (omega arith)
  there a (suc k) zero q h e =
      first_change t had seen a q (flat_map (rise_of t had seen) (range_with_len (a + 1) k))
      ∙ (λ i. cond (same i) (amount had seen a) (pos 0) +ℤ not_below (a + 1) k q (omega arith) i)
      ∙ +ℤ_idr (amount had seen a) ∙ ap (amount had seen) (sym equal)
    where
      equal : q ≡ a
      equal = omega arith

      same : (q == a) ≡ true
      same = grind (arith, nat_tests)
  there a (suc k) (suc i) q h e =
      first_change t had seen a q (flat_map (rise_of t had seen) (range_with_len (a + 1) k))
      ∙ (λ j. cond (differs j) (amount had seen a) (pos 0) +ℤ there (a + 1) k i q (omega arith) (omega arith) j)
      ∙ +ℤ_idl (amount had seen q)
    where
      differs : (q == a) ≡ false
      differs = grind (arith, nat_tests)

  -- a sum of what was reached, and the change by the mint
  pub mint_raises : (p : ℕ) → p < 256 →
      offset_of (pos (offset had p) +ℤ change_at (rises t had seen) p t) ≡ max (offset had p) (offset seen p)
  unfolding partitions
  mint_raises p h = ap (λ z. offset_of (pos (offset had p) +ℤ z)) (there 0 256 p p h (omega arith))
      ∙ pick (nat_lt (offset had p) (offset seen p)) refl
    where
      same : (z : ℤ) (k : ℕ) → z ≡ pos k → offset_of z ≡ k
      same z k e = ap offset_of e

      more : (a b : ℕ) → nat_lt a b ≡ true → offset_of (pos a +ℤ pos (b - a)) ≡ max a b
      more a b e = same (pos a +ℤ pos (b - a)) (max a b) (sum a b (less e))
        where
          less : nat_lt a b ≡ true → a < b
          less e = grind (arith, nat_tests)

          sum : (a b : ℕ) → a < b → pos a +ℤ pos (b - a) ≡ pos (max a b)
          sum a b h = omega (arith, ints)

      no_more : (a b : ℕ) → nat_lt a b ≡ false → offset_of (pos a +ℤ pos 0) ≡ max a b
      no_more a b e = same (pos a +ℤ pos 0) (max a b) (+ℤ_idr (pos a) ∙ ap pos (greater e))
        where
          greater : nat_lt a b ≡ false → a ≡ max a b
          greater e = grind (arith, nat_tests)

      pick : (b : Bool) → nat_lt (offset had p) (offset seen p) ≡ b →
          offset_of (pos (offset had p) +ℤ cond b (pos (offset seen p - offset had p)) (pos 0)) ≡ max (offset had p) (offset seen p)
      pick true e = more (offset had p) (offset seen p) e
      pick false e = no_more (offset had p) (offset seen p) e
