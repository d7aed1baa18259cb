-- The append of a mint isn't refused for its range or its rows.
use Rattle.std.proofs.Common.{◌≡◌, ℕ, zero, suc, ◌+◌, ◌-◌, ◌≤◌, ◌^◌, Bool, true, false, not, ◌&&◌}
use Rattle.std.proofs.Common.{cond, Some, None, List, [], ◌∷◌, ◌++◌, length, refl, ap, ◌∙◌, arith}
use Rattle.std.proofs.lemmas.Bool.Decides.{nat_tests}
use Rattle.std.proofs.lemmas.Iterator.Adapters.{position_from-zero}
use Rattle.std.specs.List.{AllByRecursion, flat_map, position_from, range_with_len}
use Rattle.std.specs.Prelude.{nat_le, nat_lt, position, pos, ◌==◌}
use Rattle.update_core.specs.declared.updates.Update.{Update}
use Rattle.update_core.specs.Frontiers.{after, covers}
use Rattle.update_core.specs.Limits.{most}
use Rattle.remap_core.specs.Offsets.{offset}
use Rattle.remap_core.specs.RemapShards.{partitions}
use Rattle.load_core.specs.declared.begin_faults.BeginFault.TheVariants as faults
use Rattle.write_client.specs.Beginning.{row_fault}
use Rattle.write_client.specs.Drafting.{is_outside}
use Rattle.reclock_client.specs.Known.{MintFits}
use Rattle.reclock_client.specs.Minting.{rise_of, rises}

-- each row is at the time
abbrev AllAt : ℕ → List Update → Type 0
AllAt t us = AllByRecursion (λ u. u.time ≡ t) us

row_at : ℕ → ℕ → ℕ → Update
row_at t p n = record { datum = p ∷ []; time = t; diff = pos n }

all_at : (t : ℕ) (had seen : List ℕ) (a k : ℕ) → AllAt t (flat_map (rise_of t had seen) (range_with_len a k)) ×
    (length (flat_map (rise_of t had seen) (range_with_len a k)) ≤ k)
all_at t had seen a zero = (tt, omega arith)
all_at t had seen a (suc k) = pick (nat_lt (offset had a) (offset seen a)) (all_at t had seen (a + 1) k)
  where
    rest : List Update
    rest = flat_map (rise_of t had seen) (range_with_len (a + 1) k)

    pick : (b : Bool) → AllAt t rest × (length rest ≤ k) →
        AllAt t (cond b (record { datum = a ∷ []; time = t; diff = pos (offset seen a - offset had a) } ∷ []) [] ++ rest) ×
        (length (cond b (record { datum = a ∷ []; time = t; diff = pos (offset seen a - offset had a) } ∷ []) [] ++ rest) ≤ suc k)
    pick true h = ((refl, h.0), omega (arith, h.1))
    pick false h = (h.0, omega (arith, h.1))

-- the rows of a mint are at its time
pub rises_at : (t : ℕ) (had seen : List ℕ) → AllByRecursion (λ u. u.time ≡ t) (rises t had seen)
unfolding partitions
rises_at t had seen = (all_at t had seen 0 256).0

covers_before : (u t : ℕ) → u ≤ t → covers (after t) u ≡ true
covers_before u t h = pick (nat_lt t (2 ^ 64 - 1)) refl
  where
    below : nat_lt u (t + 1) ≡ true
    below = grind (arith, nat_tests)

    pick : (b : Bool) → nat_lt t (2 ^ 64 - 1) ≡ b → covers (cond b (Some (t + 1)) None) u ≡ true
    pick true e = below
    pick false e = refl

inside : (u t s : ℕ) → u ≤ t → s ≡ t → not (nat_le u s && covers (after t) s) ≡ false
inside u t s h e = both (nat_le u s) (covers (after t) s) from (covers_before s t (omega arith))
  where
    from : nat_le u s ≡ true
    from = grind (arith, nat_tests)

    both : (a b : Bool) → a ≡ true → b ≡ true → not (a && b) ≡ false
    both true true x y = refl
    both true false x y = cc
    both false b x y = cc

none_found : (u t i : ℕ) (us : List Update) → u ≤ t → AllAt t us → position_from (is_outside u (after t)) i us ≡ None
none_found u t i [] h all = refl
none_found u t i (x ∷ us) h all =
    ap (λ (b : Bool). cond b (Some i) (position_from (is_outside u (after t)) (i + 1) us)) (inside u t x.time h all.0)
    ∙ none_found u t (i + 1) us h all.1

pub mint_fits : MintFits
unfolding partitions
mint_fits w t u had seen h token =
    (λ i. cond (unspent i) (Some faults.TokensSpent) (cond (forward i) (Some faults.EmptyRange)
    (cond (few i) (Some (faults.TooMany (length (rises t had seen)))) (row_fault (found i)))))
  where
    at : AllAt t (rises t had seen) × (length (rises t had seen) ≤ 256)
    at = all_at t had seen 0 256

    unspent : (w.token == most) ≡ false
    unspent = grind (arith, nat_tests)

    forward : not (covers (after t) u) ≡ false
    forward = ap not (covers_before u t h)

    few : nat_lt 65536 (length (rises t had seen)) ≡ false
    few = many (length (rises t had seen)) at.1
      where
        many : (n : ℕ) → n ≤ 256 → nat_lt 65536 n ≡ false
        many n h = grind (arith, nat_tests)

    found : position (is_outside u (after t)) (rises t had seen) ≡ None
    found = position_from-zero (is_outside u (after t)) (rises t had seen) ∙ none_found u t 0 (rises t had seen) h at.0
