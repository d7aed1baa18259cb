-- The line of a source's row is cut into its words in one way.
use Rattle.std.proofs.Common.{◌≡◌, ℕ, ◌^◌, ◌<◌, ◌≤◌, Option, Some, None, List, ◌∷◌, ◌++◌, refl, sym, ap, subst, ◌∙◌, arith}
use Rattle.std.specs.Prelude.{codes, MatchOption}
use Rattle.std.specs.Fmt.{decimal}
use Rattle.update_core.specs.declared.updates.Update.{Update}
use Rattle.remap_core.specs.declared.source_rows.SourceRow.{SourceRow}
use Rattle.feed_text.specs.Grammar.{row_line, IsRow}
use Rattle.feed_text.proofs.Cuts.{Lacks, lacks_end}
use Rattle.feed_text.proofs.Rows.{row_one}
use Rattle.reclock_text.specs.Sources.{as_update, IsSourceRow, NoPart, part_line, source_line}
use Rattle.reclock_text.proofs.Words.{NoFirstNumber, behind_once, number_once}
use borrow.Author.Tests.{eqb-false}

pub row_lacks : Lacks 32 (codes "row")
row_lacks = (eqb-false 114 32 refl, (eqb-false 111 32 refl, (eqb-false 119 32 refl, tt)))

small : (p : ℕ) → p < 256 → p < 2 ^ 64
small p h = omega (arith, h)

-- ---- the partition

pub no_row : (line : List ℕ) → ((rest : List ℕ) → line ≡ codes "row" ++ 32 ∷ rest → ⊥) → NoPart line
no_row line none p rest h is = none (decimal p ++ 32 ∷ rest) is

behind : (line rest : List ℕ) (p : ℕ) (tail : List ℕ) → line ≡ codes "row" ++ 32 ∷ rest → line ≡ part_line p tail →
    rest ≡ decimal p ++ 32 ∷ tail
behind line rest p tail cut is = behind_once (codes "row") rest (decimal p ++ 32 ∷ tail) row_lacks (sym cut ∙ is)

pub no_partition : (line rest : List ℕ) → line ≡ codes "row" ++ 32 ∷ rest → NoFirstNumber rest → NoPart line
no_partition line rest cut none p tail h is = none p tail (small p h) (behind line rest p tail cut is)

pub big_partition : (line rest more : List ℕ) (n : ℕ) → line ≡ codes "row" ++ 32 ∷ rest → n < 2 ^ 64 → rest ≡ decimal n ++ 32 ∷ more →
    255 < n → NoPart line
big_partition line rest more n cut fits told big p tail h is =
    let same = (number_once n p more tail fits (small p h) (sym told ∙ behind line rest p tail cut is)).0 in
    omega (arith, same, big, h)

pub part_here : (line rest more : List ℕ) (n : ℕ) → line ≡ codes "row" ++ 32 ∷ rest → rest ≡ decimal n ++ 32 ∷ more →
    line ≡ part_line n more
part_here line rest more n cut told = cut ∙ ap (λ l. codes "row" ++ 32 ∷ l) told

-- ---- the row behind it

rest_is : (line rest tail : List ℕ) (p q : ℕ) → p < 256 → q < 256 → line ≡ part_line p rest → line ≡ part_line q tail →
    (p ≡ q) × (rest ≡ tail)
rest_is line rest tail p q h k is e =
    number_once p q rest tail (small p h) (small q k) (behind_once (codes "row") (decimal p ++ 32 ∷ rest) (decimal q ++ 32 ∷ tail)
    row_lacks (sym is ∙ e))

pub no_source_row : (line : List ℕ) → NoPart line → (r : SourceRow) → IsSourceRow r → line ≡ source_line r → ⊥
no_source_row line none r is e = none r.partition (row_line (as_update r)) is.partition e

pub bad_row : (line rest : List ℕ) (p : ℕ) → p < 256 → line ≡ part_line p rest → ((u : Update) → IsRow u → rest ≡ row_line u → ⊥) →
    (r : SourceRow) → IsSourceRow r → line ≡ source_line r → ⊥
bad_row line rest p h is none r whole e =
    none (as_update r) whole.row (rest_is line rest (row_line (as_update r)) p r.partition h whole.partition is e).1

pub bad_offset : (line rest : List ℕ) (p : ℕ) (u : Update) → p < 256 → line ≡ part_line p rest → IsRow u → rest ≡ row_line u →
    2 ^ 48 < u.time → (r : SourceRow) → IsSourceRow r → line ≡ source_line r → ⊥
bad_offset line rest p u h is row told big r whole e =
    let same = (rest_is line rest (row_line (as_update r)) p r.partition h whole.partition is e).1 in
    let equal : u ≡ as_update r = row_one u (as_update r) row whole.row (sym told ∙ same) in
    let times : u.time ≡ r.offset = ap (λ (v : Update). v.time) equal in
    let within = whole.offset in
    omega (arith, times, big, within)

pub rest_lacks : (line rest : List ℕ) (p : ℕ) → line ≡ part_line p rest → Lacks 10 line → Lacks 10 rest
rest_lacks line rest p is lacks =
    (lacks_end 10 (decimal p) (32 ∷ rest) ((lacks_end 10 (codes "row") (32 ∷ (decimal p ++ 32 ∷ rest)) (subst (λ (l : List ℕ).
    Lacks 10 l) is lacks)).1)).1

-- what is found of the row behind its partition
pub found_row : (line rest : List ℕ) (p : ℕ) (u : Update) (found : Option SourceRow) → p < 256 → line ≡ part_line p rest → IsRow u →
    rest ≡ row_line u →
    MatchOption found (2 ^ 48 < u.time) (λ r. (r ≡ record { partition = p; offset = u.time; datum = u.datum; diff = u.diff }) ×
    (u.time ≤ 2 ^ 48)) →
    MatchOption found ((r : SourceRow) → IsSourceRow r → line ≡ source_line r → ⊥) (λ r. IsSourceRow r × (line ≡ source_line r))
found_row line rest p u None h is row told big = bad_offset line rest p u h is row told big
found_row line rest p u (Some r) h is row told e =
    subst (λ k. IsSourceRow k × (line ≡ source_line k)) (sym e.0) (
      record { partition = h; offset = e.1; row = row },
      is ∙ ap (λ l.
          part_line p l) told,
    )

-- a line is that of one row
pub source_one : (line : List ℕ) (r s : SourceRow) → IsSourceRow r → IsSourceRow s → line ≡ source_line r → line ≡ source_line s → r ≡ s
source_one line r s hr hs er es =
    let parts = rest_is line (row_line (as_update r)) (row_line (as_update s)) r.partition s.partition hr.partition hs.partition er es in
    let equal : as_update r ≡ as_update s = row_one (as_update r) (as_update s) hr.row hs.row parts.1 in
    λ i. record { partition = parts.0 i; offset = (equal i).time; datum = (equal i).datum; diff = (equal i).diff }
