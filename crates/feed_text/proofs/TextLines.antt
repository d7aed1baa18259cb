-- A text as lines: no line has a line feed, and a line feed ends one.
use Rattle.std.proofs.Common.{◌≡◌, ◌≢◌, ℕ, Bool, true, false, ◌<◌, ◌≤◌, ◌+◌, ◌==◌, if◌then◌else◌, List, [], ◌∷◌, ◌++◌, length, take_all, refl, ap, ◌∙◌, arith}
use Rattle.std.specs.List.{AllByRecursion}
use Rattle.std.proofs.lemmas.Bool.{ne_eqb}
use Rattle.feed_text.specs.declared.limits.TheConstants.{MAX_BYTES}
use Rattle.feed_text.specs.Lines.{lines_of, onto_first}
use Rattle.feed_text.specs.Grammar.{lines_read}

abbrev pub OneLine : List ℕ → Type 0
OneLine line = AllByRecursion (λ b. b ≢ 10) line

-- a line before a line feed
pub lines_cut : (line rest : List ℕ) → OneLine line → lines_of (line ++ 10 ∷ rest) ≡ line ∷ lines_of rest
lines_cut [] rest h = refl
lines_cut (b ∷ line) rest h =
    ap (λ (t : Bool). if t then [] ∷ lines_of (line ++ 10 ∷ rest) else onto_first b (lines_of (line ++ 10 ∷ rest))) (ne_eqb b 10 h.0)
    ∙ ap (onto_first b) (lines_cut line rest h.1)

-- a last line without a line feed
pub lines_whole : (line : List ℕ) → OneLine line → 0 < length line → lines_of line ≡ line ∷ []
lines_whole [] h some = absurd (omega arith)
lines_whole (b ∷ []) h some = ap (λ (t : Bool). if t then [] ∷ [] else (b ∷ []) ∷ []) (ne_eqb b 10 h.0)
lines_whole (b ∷ c ∷ line) h some =
    ap (λ (t : Bool). if t then [] ∷ lines_of (c ∷ line) else onto_first b (lines_of (c ∷ line))) (ne_eqb b 10 h.0)
    ∙ ap (onto_first b) (lines_whole (c ∷ line) h.1 (omega arith))

onto_each : (b : ℕ) (lines : List (List ℕ)) → b ≢ 10 → AllByRecursion OneLine lines → AllByRecursion OneLine (onto_first b lines)
onto_each b [] h each = ((h, tt), tt)
onto_each b (line ∷ lines) h each = ((h, each.0), each.1)

-- no line has a line feed
pub lines_each : (text : List ℕ) → AllByRecursion OneLine (lines_of text)
lines_each [] = tt
lines_each (b ∷ text) =
    elim (b == 10) as (λ (t : Bool). (b == 10) ≡ t → AllByRecursion OneLine (if t then [] ∷ lines_of text else onto_first b (lines_of text))) [
      | true ↦ λ is. (tt, lines_each text)
      | false ↦ λ is. onto_each b (lines_of text) (λ e. ne_ten e is) (lines_each text)
    ] refl
  where
    ne_ten : b ≡ 10 → (b == 10) ≡ false → ⊥
    ne_ten e is = grind arith

-- a text has a line exactly where it has a byte
pub lines_some : (text : List ℕ) → 0 < length text → 0 < length (lines_of text)
lines_some [] some = absurd (omega arith)
lines_some (b ∷ text) some =
    elim (b == 10) as (λ (t : Bool). 0 < length (if t then [] ∷ lines_of text else onto_first b (lines_of text))) [
      | true ↦ omega arith
      | false ↦ onto_some (lines_of text)
    ]
  where
    onto_some : (lines : List (List ℕ)) → 0 < length (onto_first b lines)
    onto_some [] = omega arith
    onto_some (line ∷ lines) = omega arith

-- of a text within the limit each line is looked at
pub lines_read_whole : (text : List ℕ) → length text ≤ MAX_BYTES → lines_read text ≡ lines_of text
lines_read_whole text few = ap lines_of (take_all (MAX_BYTES + 1) text (omega arith))
