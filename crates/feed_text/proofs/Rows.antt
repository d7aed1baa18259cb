-- The lines of a feed: each has one value, and no two kinds share a line.
use Rattle.std.proofs.Common.{◌≡◌, ℕ, ◌^◌, ◌<◌, Option, IfSome, List, [], ◌∷◌, ◌++◌, refl, arith}
use Rattle.std.specs.Fmt.{decimal, signed_decimal}
use Rattle.std.specs.Int.{IsInRange}
use Rattle.std.proofs.lemmas.Fmt.{decimal_injective}
use Rattle.update_core.specs.declared.updates.Update.{Update}
use Rattle.feed_text.specs.Grammar.{append_line, snapshot_line, listen_line, since_line, compact_line, row_line, dot_line, frontier_text, IsRow}
use Rattle.feed_text.proofs.Words.{decimal_spaceless, signed_spaceless, first_digit, signed_one, frontier_one, cut_once}

pub row_one : (u v : Update) → IsRow u → IsRow v → row_line u ≡ row_line v → u ≡ v
row_one u v hu hv e =
    let outer = cut_once (decimal u.time) (decimal v.time) (signed_decimal u.diff ++ 32 ∷ u.datum) (signed_decimal v.diff ++ 32 ∷ v.datum)
    (decimal_spaceless u.time hu.time) (decimal_spaceless v.time hv.time) e in
    let inner = cut_once (signed_decimal u.diff) (signed_decimal v.diff) u.datum v.datum
    (signed_spaceless u.diff hu.diff) (signed_spaceless v.diff hv.diff) outer.1 in
    let time = decimal_injective u.time v.time hu.time hv.time outer.0 in
    let diff = signed_one u.diff v.diff hu.diff hv.diff inner.0 in
    λ i. record { datum = inner.1 i; time = time i; diff = diff i }

pub append_one : (l m : ℕ) (u v : Option ℕ) → l < 2 ^ 64 → m < 2 ^ 64 → IfSome u (λ t. t < 2 ^ 64) → IfSome v (λ t. t < 2 ^ 64)
    → append_line l u ≡ append_line m v → (l ≡ m) × (u ≡ v)
append_one l m u v hl hm hu hv e =
    let words = cut_once (decimal l) (decimal m) (frontier_text u) (frontier_text v) (decimal_spaceless l hl) (decimal_spaceless m hm) cc in
    (decimal_injective l m hl hm words.0, frontier_one u v hu hv words.1)

pub snapshot_one : (s t : ℕ) → s < 2 ^ 64 → t < 2 ^ 64 → snapshot_line s ≡ snapshot_line t → s ≡ t
snapshot_one s t hs ht e = decimal_injective s t hs ht cc

pub listen_one : (s t : ℕ) → s < 2 ^ 64 → t < 2 ^ 64 → listen_line s ≡ listen_line t → s ≡ t
listen_one s t hs ht e = decimal_injective s t hs ht cc

pub since_one : (s t : ℕ) → s < 2 ^ 64 → t < 2 ^ 64 → since_line s ≡ since_line t → s ≡ t
since_one s t hs ht e = decimal_injective s t hs ht cc

heads : {b c : ℕ} {bs cs : List ℕ} → b ∷ bs ≡ c ∷ cs → b ≡ c
heads e = cc

tails : {b c : ℕ} {bs cs : List ℕ} → b ∷ bs ≡ c ∷ cs → bs ≡ cs
tails e = cc

pub append_no_snapshot : (l : ℕ) (u : Option ℕ) (t : ℕ) → append_line l u ≡ snapshot_line t → ⊥
append_no_snapshot l u t e =
    apart 97 115 refl refl (heads e)
  where
    apart : (b c : ℕ) → b ≡ 97 → c ≡ 115 → b ≡ c → ⊥
    apart b c p q r = omega arith

pub append_no_listen : (l : ℕ) (u : Option ℕ) (t : ℕ) → append_line l u ≡ listen_line t → ⊥
append_no_listen l u t e =
    apart 97 108 refl refl (heads e)
  where
    apart : (b c : ℕ) → b ≡ 97 → c ≡ 108 → b ≡ c → ⊥
    apart b c p q r = omega arith

pub append_no_since : (l : ℕ) (u : Option ℕ) (t : ℕ) → append_line l u ≡ since_line t → ⊥
append_no_since l u t e =
    apart 97 115 refl refl (heads e)
  where
    apart : (b c : ℕ) → b ≡ 97 → c ≡ 115 → b ≡ c → ⊥
    apart b c p q r = omega arith

pub listen_no_snapshot : (s t : ℕ) → listen_line s ≡ snapshot_line t → ⊥
listen_no_snapshot s t e =
    apart 108 115 refl refl (heads e)
  where
    apart : (b c : ℕ) → b ≡ 108 → c ≡ 115 → b ≡ c → ⊥
    apart b c p q r = omega arith

pub listen_no_since : (s t : ℕ) → listen_line s ≡ since_line t → ⊥
listen_no_since s t e =
    apart 108 115 refl refl (heads e)
  where
    apart : (b c : ℕ) → b ≡ 108 → c ≡ 115 → b ≡ c → ⊥
    apart b c p q r = omega arith

-- they differ in the second letter
pub since_no_snapshot : (s t : ℕ) → since_line s ≡ snapshot_line t → ⊥
since_no_snapshot s t e =
    apart 105 110 refl refl (heads (tails e))
  where
    apart : (b c : ℕ) → b ≡ 105 → c ≡ 110 → b ≡ c → ⊥
    apart b c p q r = omega arith

pub append_no_compact : (l : ℕ) (u : Option ℕ) → append_line l u ≡ compact_line → ⊥
append_no_compact l u e =
    apart 97 99 refl refl (heads e)
  where
    apart : (b c : ℕ) → b ≡ 97 → c ≡ 99 → b ≡ c → ⊥
    apart b c p q r = omega arith

pub listen_no_compact : (t : ℕ) → listen_line t ≡ compact_line → ⊥
listen_no_compact t e =
    apart 108 99 refl refl (heads e)
  where
    apart : (b c : ℕ) → b ≡ 108 → c ≡ 99 → b ≡ c → ⊥
    apart b c p q r = omega arith

pub snapshot_no_compact : (t : ℕ) → snapshot_line t ≡ compact_line → ⊥
snapshot_no_compact t e =
    apart 115 99 refl refl (heads e)
  where
    apart : (b c : ℕ) → b ≡ 115 → c ≡ 99 → b ≡ c → ⊥
    apart b c p q r = omega arith

pub since_no_compact : (t : ℕ) → since_line t ≡ compact_line → ⊥
since_no_compact t e =
    apart 115 99 refl refl (heads e)
  where
    apart : (b c : ℕ) → b ≡ 115 → c ≡ 99 → b ≡ c → ⊥
    apart b c p q r = omega arith

-- a row's line begins with a digit
pub row_starts : (u : Update) (b : ℕ) (bs : List ℕ) → IsRow u → row_line u ≡ b ∷ bs → IsInRange 48 57 b
row_starts u b bs h e = first_digit u.time (32 ∷ (signed_decimal u.diff ++ 32 ∷ u.datum)) b bs h.time e

pub row_no_dot : (u : Update) → IsRow u → row_line u ≡ dot_line → ⊥
row_no_dot u h e = omega (arith, (row_starts u 46 [] h e).0)
