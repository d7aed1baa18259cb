-- Lines are cut into their words in one way.
use Rattle.std.proofs.Common.{◌≡◌, ◌≢◌, ℕ, ◌^◌, ◌<◌, List, [], ◌∷◌, ◌++◌, refl, sym, ◌∙◌, arith}
use Rattle.std.specs.Prelude.{⊤}
use Rattle.std.specs.Fmt.{decimal}
use Rattle.std.proofs.lemmas.Fmt.{decimal_injective}
use Rattle.feed_text.proofs.Cuts.{Lacks, no_cut}
use Rattle.feed_text.proofs.Words.{Digits, cut_once, decimal_digits, decimal_spaceless}
use Rattle.feed_text.proofs.Spelled.{NoNumber}

pub heads : {x y : ℕ} {xs ys : List ℕ} → x ∷ xs ≡ y ∷ ys → x ≡ y
heads e = cc

pub tails : {x y : ℕ} {xs ys : List ℕ} → x ∷ xs ≡ y ∷ ys → xs ≡ ys
tails e = cc

-- a first such byte stands in one place
pub cut_byte : (byte : ℕ) (a b x y : List ℕ) → Lacks byte a → Lacks byte b → a ++ byte ∷ x ≡ b ++ byte ∷ y → (a ≡ b) × (x ≡ y)
cut_byte byte [] [] x y ha hb e = (refl, tails e)
cut_byte byte [] (b ∷ bs) x y ha hb e = absurd (hb.0 (sym (heads e)))
cut_byte byte (a ∷ as_) [] x y ha hb e = absurd (ha.0 (heads e))
cut_byte byte (a ∷ as_) (b ∷ bs) x y ha hb e =
    let rest = cut_byte byte as_ bs x y ha.1 hb.1 (tails e) in
    (λ i. heads e i ∷ rest.0 i, rest.1)

-- nothing, or a text that begins with a space
abbrev pub IsSpaced : List ℕ → Type 0
IsSpaced [] = ⊤
IsSpaced (b ∷ bs) = b ≡ 32

-- a word ends at the first space or the end
pub cut_spaced : (a b x y : List ℕ) → Lacks 32 a → Lacks 32 b → IsSpaced x → IsSpaced y → a ++ x ≡ b ++ y → (a ≡ b) × (x ≡ y)
cut_spaced [] [] x y ha hb hx hy e = (refl, e)
cut_spaced [] (b ∷ bs) [] y ha hb hx hy e = absurd cc
cut_spaced [] (b ∷ bs) (c ∷ x) y ha hb hx hy e = absurd (hb.0 (sym (heads e) ∙ hx))
cut_spaced (a ∷ as_) [] x [] ha hb hx hy e = absurd cc
cut_spaced (a ∷ as_) [] x (c ∷ y) ha hb hx hy e = absurd (ha.0 (heads e ∙ hy))
cut_spaced (a ∷ as_) (b ∷ bs) x y ha hb hx hy e =
    let rest = cut_spaced as_ bs x y ha.1 hb.1 hx hy (tails e) in
    (λ i. heads e i ∷ rest.0 i, rest.1)

pub lacks_both : (byte : ℕ) (a b : List ℕ) → Lacks byte a → Lacks byte b → Lacks byte (a ++ b)
lacks_both byte [] b ha hb = hb
lacks_both byte (x ∷ a) b ha hb = (ha.0, lacks_both byte a b ha.1 hb)

digits_colonless : (bs : List ℕ) → Digits bs → Lacks 58 bs
digits_colonless [] h = tt
digits_colonless (b ∷ bs) h = (λ e. absurd (omega (arith, h.0.1, e)), digits_colonless bs h.1)

pub decimal_colonless : (n : ℕ) → n < 2 ^ 64 → Lacks 58 (decimal n)
decimal_colonless n small = digits_colonless (decimal n) (decimal_digits n small)

-- a number before a space, and what stands behind it
pub number_once : (m n : ℕ) (x y : List ℕ) → m < 2 ^ 64 → n < 2 ^ 64 → decimal m ++ 32 ∷ x ≡ decimal n ++ 32 ∷ y → (m ≡ n) × (x ≡ y)
number_once m n x y p q e =
    let cut = cut_once (decimal m) (decimal n) x y (decimal_spaceless m p) (decimal_spaceless n q) e in
    (decimal_injective m n p q cut.0, cut.1)

-- what stands behind a word
pub behind_once : (word x y : List ℕ) → Lacks 32 word → word ++ 32 ∷ x ≡ word ++ 32 ∷ y → x ≡ y
behind_once word x y lacks e = (cut_once word word x y lacks lacks e).1

-- ---- what isn't there

pub no_word : (line word : List ℕ) → Lacks 32 line → (rest : List ℕ) → line ≡ word ++ 32 ∷ rest → ⊥
no_word line word lacks rest is = no_cut 32 line word rest lacks is

pub other_first : (line word first more : List ℕ) → Lacks 32 word → line ≡ first ++ 32 ∷ more → Lacks 32 first → first ≢ word →
    (rest : List ℕ) → line ≡ word ++ 32 ∷ rest → ⊥
other_first line word first more own cut lacks apart rest is = apart (cut_once first word more rest lacks own (sym cut ∙ is)).0

-- a text that begins with no number and space
abbrev pub NoFirstNumber : List ℕ → Type 0
NoFirstNumber text = (n : ℕ) (rest : List ℕ) → n < 2 ^ 64 → text ≡ decimal n ++ 32 ∷ rest → ⊥

pub number_uncut : (text : List ℕ) → Lacks 32 text → NoFirstNumber text
number_uncut text lacks n rest small is = no_cut 32 text (decimal n) rest lacks is

pub other_number : (text first more : List ℕ) → text ≡ first ++ 32 ∷ more → Lacks 32 first → NoNumber first → NoFirstNumber text
other_number text first more cut lacks bad n rest small is =
    bad n small (cut_once first (decimal n) more rest lacks (decimal_spaceless n small) (sym cut ∙ is)).0
