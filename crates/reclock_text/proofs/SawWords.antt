-- The line of what an operator has seen is cut into its words in one way.
use Rattle.std.proofs.Common.{◌≡◌, ℕ, ◌^◌, ◌<◌, ◌≤◌, List, ◌∷◌, ◌++◌, codes, refl, sym, ap, subst, ◌∙◌, arith}
use Rattle.std.specs.Fmt.{decimal}
use borrow.Author.Tests.{eqb-false}
use Rattle.remap_core.specs.Offsets.{unset}
use Rattle.feed_text.proofs.Cuts.{Lacks}
use Rattle.reclock_text.specs.declared.saws.Saw.{Saw}
use Rattle.reclock_text.specs.Saws.{IsSawLine, Tells}
use Rattle.reclock_text.proofs.PairWords.{tells_one}
use Rattle.reclock_text.proofs.Words.{NoFirstNumber, behind_once, number_once}

pub saw_lacks : Lacks 32 (codes "saw")
saw_lacks = (eqb-false 115 32 refl, (eqb-false 97 32 refl, (eqb-false 119 32 refl, tt)))

-- a line that says of no operator what it has seen
abbrev pub NoSaw : ℕ → List ℕ → Type 0
NoSaw operators line = (s : Saw) → IsSawLine operators line s → ⊥

module _ (operators : ℕ) (line : List ℕ) (bound : operators < 2 ^ 64) where
  pub no_saw : ((rest : List ℕ) → line ≡ codes "saw" ++ 32 ∷ rest → ⊥) → NoSaw operators line
  no_saw none s is = none (decimal s.operator ++ 32 ∷ (decimal s.time ++ 32 ∷ is.pairs)) is.is

  small : (s : Saw) → IsSawLine operators line s → s.operator < 2 ^ 64
  small s is = let lt = is.operator in omega (arith, lt, bound)

  module _ (rest : List ℕ) (cut : line ≡ codes "saw" ++ 32 ∷ rest) where
    behind : (s : Saw) (is : IsSawLine operators line s) → rest ≡ decimal s.operator ++ 32 ∷ (decimal s.time ++ 32 ∷ is.pairs)
    behind s is = behind_once (codes "saw") rest (decimal s.operator ++ 32 ∷ (decimal s.time ++ 32 ∷ is.pairs)) saw_lacks (sym cut ∙ is.is)

    pub no_operator : NoFirstNumber rest → NoSaw operators line
    no_operator none s is = none s.operator (decimal s.time ++ 32 ∷ is.pairs) (small s is) (behind s is)

    module _ (k : ℕ) (more : List ℕ) (fits : k < 2 ^ 64) (cut_again : rest ≡ decimal k ++ 32 ∷ more) where
      told : (s : Saw) (is : IsSawLine operators line s) → (k ≡ s.operator) × (more ≡ decimal s.time ++ 32 ∷ is.pairs)
      told s is = number_once k s.operator more (decimal s.time ++ 32 ∷ is.pairs) fits (small s is) (sym cut_again ∙ behind s is)

      pub big_operator : operators ≤ k → NoSaw operators line
      big_operator big s is = let same = (told s is).0 in let lt = is.operator in omega (arith, same, lt, big)

      pub no_time : NoFirstNumber more → NoSaw operators line
      no_time none s is = none s.time is.pairs is.time (told s is).1

      module _ (t : ℕ) (pairs : List ℕ) (in_time : t < 2 ^ 64) (cut_third : more ≡ decimal t ++ 32 ∷ pairs) where
        pub no_frontier : ((g : List ℕ) → Tells (32 ∷ pairs) 0 unset g → ⊥) → NoSaw operators line
        no_frontier none s is =
            let same = (number_once t s.time pairs is.pairs in_time is.time (sym cut_third ∙ (told s is).1)).1 in
            none s.frontier (subst (λ (l : List ℕ). Tells (32 ∷ l) 0 unset s.frontier) (sym same) is.tells)

        pub saw_here : (g : List ℕ) → k < operators → Tells (32 ∷ pairs) 0 unset g →
            IsSawLine operators line (record { operator = k; time = t; frontier = g })
        saw_here g lt tells = record {
          operator = lt;
          time = in_time;
          pairs = pairs;
          tells = tells;
          is = cut ∙ ap (λ l. codes "saw" ++ 32 ∷ l) (cut_again ∙ ap (λ l. decimal k ++ 32 ∷ l) cut_third);
        }

-- a line tells of one operator what it has seen
pub saw_one : (operators : ℕ) (line : List ℕ) → operators < 2 ^ 64 → (s r : Saw) → IsSawLine operators line s → IsSawLine operators line r → s ≡ r
saw_one operators line bound s r hs hr =
    let behind_s : List ℕ = decimal s.time ++ 32 ∷ hs.pairs in
    let behind_r : List ℕ = decimal r.time ++ 32 ∷ hr.pairs in
    let lt_s = hs.operator in
    let lt_r = hr.operator in
    let rest = behind_once (codes "saw") (decimal s.operator ++ 32 ∷ behind_s) (decimal r.operator ++ 32 ∷ behind_r) saw_lacks (sym hs.is ∙ hr.is) in
    let first = number_once s.operator r.operator behind_s behind_r (omega (arith, lt_s, bound)) (omega (arith, lt_r, bound)) rest in
    let second = number_once s.time r.time hs.pairs hr.pairs hs.time hr.time first.1 in
    let frontier : s.frontier ≡ r.frontier = tells_one 0 unset s.frontier r.frontier (32 ∷ hr.pairs)
    (subst (λ (l : List ℕ). Tells (32 ∷ l) 0 unset s.frontier) second.1 hs.tells) hr.tells in
    λ i. record { operator = first.0 i; time = second.0 i; frontier = frontier i }
