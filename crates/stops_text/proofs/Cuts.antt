-- A text is cut at its commas and colons in one way.
use Rattle.std.proofs.Common.{◌≡◌, ◌≢◌, ℕ, ◌^◌, ◌<◌, List, [], ◌∷◌, ◌++◌, refl, sym, ◌∙◌, arith}
use Rattle.std.specs.Prelude.{⊤}
use Rattle.std.specs.Int.{IsInRange}
use Rattle.std.specs.Fmt.{decimal}
use Rattle.feed_text.proofs.Cuts.{Lacks}
use Rattle.feed_text.proofs.Words.{Digits, decimal_digits}

heads : {x y : ℕ} {xs ys : List ℕ} → x ∷ xs ≡ y ∷ ys → x ≡ y
heads e = cc

pub tails : {x y : ℕ} {xs ys : List ℕ} → x ∷ xs ≡ y ∷ ys → xs ≡ ys
tails e = cc

-- a first such byte stands in one place
pub cut_byte : (byte : ℕ) (a b x y : List ℕ) → Lacks byte a → Lacks byte b → a ++ byte ∷ x ≡ b ++ byte ∷ y → (a ≡ b) × (x ≡ y)
cut_byte byte [] [] x y ha hb e = (refl, tails e)
cut_byte byte [] (b ∷ bs) x y ha hb e = absurd (hb.0 (sym (heads e)))
cut_byte byte (a ∷ as_) [] x y ha hb e = absurd (ha.0 (heads e))
cut_byte byte (a ∷ as_) (b ∷ bs) x y ha hb e =
    let rest = cut_byte byte as_ bs x y ha.1 hb.1 (tails e) in
    (λ i. heads e i ∷ rest.0 i, rest.1)

-- nothing, or a text that begins with a comma
abbrev pub IsParted : List ℕ → Type 0
IsParted [] = ⊤
IsParted (b ∷ bs) = b ≡ 44

-- an item ends at the first comma or the end
pub cut_item : (a b x y : List ℕ) → Lacks 44 a → Lacks 44 b → IsParted x → IsParted y → a ++ x ≡ b ++ y → (a ≡ b) × (x ≡ y)
cut_item [] [] x y ha hb hx hy e = (refl, e)
cut_item [] (b ∷ bs) [] y ha hb hx hy e = absurd cc
cut_item [] (b ∷ bs) (c ∷ x) y ha hb hx hy e = absurd (hb.0 (sym (heads e) ∙ hx))
cut_item (a ∷ as_) [] x [] ha hb hx hy e = absurd cc
cut_item (a ∷ as_) [] x (c ∷ y) ha hb hx hy e = absurd (ha.0 (heads e ∙ hy))
cut_item (a ∷ as_) (b ∷ bs) x y ha hb hx hy e =
    let rest = cut_item as_ bs x y ha.1 hb.1 hx hy (tails e) in
    (λ i. heads e i ∷ rest.0 i, rest.1)

pub lacks_both : (byte : ℕ) (a b : List ℕ) → Lacks byte a → Lacks byte b → Lacks byte (a ++ b)
lacks_both byte [] b ha hb = hb
lacks_both byte (x ∷ a) b ha hb = (ha.0, lacks_both byte a b ha.1 hb)

digits_lack : (byte : ℕ) → ((b : ℕ) → IsInRange 48 57 b → b ≢ byte) → (bs : List ℕ) → Digits bs → Lacks byte bs
digits_lack byte none [] h = tt
digits_lack byte none (b ∷ bs) h = (none b h.0, digits_lack byte none bs h.1)

pub decimal_colonless : (n : ℕ) → n < 2 ^ 64 → Lacks 58 (decimal n)
decimal_colonless n small = digits_lack 58 (λ b h e. absurd (omega (arith, h.1, e))) (decimal n) (decimal_digits n small)

pub decimal_commaless : (n : ℕ) → n < 2 ^ 64 → Lacks 44 (decimal n)
decimal_commaless n small = digits_lack 44 (λ b h e. absurd (omega (arith, h.0, e))) (decimal n) (decimal_digits n small)
