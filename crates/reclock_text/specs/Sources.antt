-- The lines of a source's rows.
use Rattle.std.specs.Prelude.{◌≡◌, ℕ, ◌^◌, ◌<◌, ◌≤◌, List, ◌∷◌, ◌++◌, codes}
use Rattle.std.specs.Fmt.{decimal}
use Rattle.update_core.specs.declared.updates.Update.{Update}
use Rattle.remap_core.specs.declared.source_rows.SourceRow.{SourceRow}
use Rattle.feed_text.specs.Grammar.{row_line, IsRow}

-- a row, with its offset as a time
abbrev pub as_update : SourceRow → Update
as_update r = record { datum = r.datum; time = r.offset; diff = r.diff }

-- `row P`, and what follows it
abbrev pub part_line : ℕ → List ℕ → List ℕ
part_line p rest = codes "row" ++ 32 ∷ (decimal p ++ 32 ∷ rest)

-- a line that doesn't begin so
abbrev pub NoPart : List ℕ → Type 0
NoPart line = (p : ℕ) (rest : List ℕ) → p < 256 → line ≡ part_line p rest → ⊥

-- `row P O DIFF DATUM`
abbrev pub source_line : SourceRow → List ℕ
source_line r = part_line r.partition (row_line (as_update r))

-- a row of a source within the limits
pub record IsSourceRow (r : SourceRow) : Type 0 where
  pub partition : r.partition < 256
  pub offset : r.offset ≤ 2 ^ 48
  pub row : IsRow (as_update r)
