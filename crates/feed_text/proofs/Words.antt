-- The words of a line: which bytes they have, and that each has one value.
use Rattle.std.proofs.Common.{◌≡◌, ◌≢◌, ℕ, suc, ◌^◌, ◌<◌, ℤ, pos, negsuc, w64, FitsSigned, Option, Some, None, IfSome, List, [], ◌∷◌, ◌++◌, length, codes, ap, append-nil, ◌∙◌, sym, arith}
use Rattle.std.specs.Fmt.{decimal, signed_decimal}
use Rattle.std.specs.Int.{IsInRange}
use Rattle.std.specs.List.{AllByRecursion}
use Rattle.std.proofs.lemmas.Fmt.{digits_decimal, decimal_nonempty, decimal_injective, signed_decimal_injective}
use Rattle.std.proofs.lemmas.Str.Parse.{IsDigitsTest, numerals_by_value}
use Rattle.feed_text.specs.Grammar.{frontier_text}

abbrev pub Digits : List ℕ → Type 0
Digits bs = AllByRecursion (λ b. IsInRange 48 57 b) bs

abbrev pub NoSpace : List ℕ → Type 0
NoSpace bs = AllByRecursion (λ b. b ≢ 32) bs

digits_test : IsDigitsTest Digits
digits_test = record { empty = tt; parts = λ c cs h. h; more = λ c cs a h. (a, h) }

pub decimal_digits : (n : ℕ) → n < 2 ^ 64 → Digits (decimal n)
decimal_digits n small = digits_decimal (numerals_by_value Digits digits_test) n small

digits_spaceless : (bs : List ℕ) → Digits bs → NoSpace bs
digits_spaceless [] h = tt
digits_spaceless (b ∷ bs) h = (λ e. absurd (omega (arith, h.0.0)), digits_spaceless bs h.1)

pub decimal_spaceless : (n : ℕ) → n < 2 ^ 64 → NoSpace (decimal n)
decimal_spaceless n small = digits_spaceless (decimal n) (decimal_digits n small)

pub signed_spaceless : (z : ℤ) → FitsSigned w64 z → NoSpace (signed_decimal z)
signed_spaceless (pos n) fits = decimal_spaceless n (omega (arith, fits.sfits))
signed_spaceless (negsuc n) fits = (λ e. absurd (omega (arith, e)), decimal_spaceless (suc n) (omega (arith, fits.sfits)))

-- a number's text has a first digit
pub first_digit : (n : ℕ) (rest : List ℕ) (b : ℕ) (bs : List ℕ) → n < 2 ^ 64 → decimal n ++ rest ≡ b ∷ bs → IsInRange 48 57 b
first_digit n rest b bs small is = first (decimal n) (decimal_digits n small) (decimal_nonempty n small) is
  where
    first : (ds : List ℕ) → Digits ds → 0 < length ds → ds ++ rest ≡ b ∷ bs → IsInRange 48 57 b
    first [] h some e = absurd (omega (arith, some))
    first (d ∷ ds) h some e = (omega (arith, h.0.0, head e), omega (arith, h.0.1, head e))
      where
        head : d ∷ (ds ++ rest) ≡ b ∷ bs → d ≡ b
        head e = cc

pub signed_one : (y z : ℤ) → FitsSigned w64 y → FitsSigned w64 z → signed_decimal y ≡ signed_decimal z → y ≡ z
signed_one y z fy fz e = signed_decimal_injective y z fy.sfits fz.sfits e

not_closed : (n : ℕ) → n < 2 ^ 64 → decimal n ≡ codes "closed" → ⊥
not_closed n small e = omega (arith, (first_digit n [] 99 (codes "losed") small (append-nil (decimal n) ∙ e)).1)

-- a frontier has one text
pub frontier_one : (f g : Option ℕ) → IfSome f (λ t. t < 2 ^ 64) → IfSome g (λ t. t < 2 ^ 64) → frontier_text f ≡ frontier_text g → f ≡ g
frontier_one None None hf hg e = cc
frontier_one None (Some b) hf hg e = absurd (not_closed b hg (sym e))
frontier_one (Some a) None hf hg e = absurd (not_closed a hf e)
frontier_one (Some a) (Some b) hf hg e = ap Some (decimal_injective a b hf hg e)

-- a first space stands in one place
pub cut_once : (a b x y : List ℕ) → NoSpace a → NoSpace b → a ++ 32 ∷ x ≡ b ++ 32 ∷ y → (a ≡ b) × (x ≡ y)
cut_once [] [] x y ha hb e = (cc, cc)
cut_once [] (b ∷ bs) x y ha hb e = absurd (hb.0 cc)
cut_once (a ∷ front) [] x y ha hb e = absurd (ha.0 cc)
cut_once (a ∷ front) (b ∷ bs) x y ha hb e =
    let rest = cut_once front bs x y ha.1 hb.1 cc in
    (cc, rest.1)
