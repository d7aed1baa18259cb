-- What a reader of a feed has taken: whole commands, and an append block that is open, where one is.
use Rattle.std.specs.Prelude.{◌≡◌, ◌⊎◌, ℕ, ◌+◌, ◌≤◌, Option, Some, None, List, [], ◌∷◌, ◌++◌, length, map}
use Rattle.std.specs.List.{AllByRecursion}
use Rattle.update_core.specs.declared.appends.FeedAppend.{FeedAppend}
use Rattle.update_core.specs.declared.updates.Update.{Update}
use Rattle.feed_text.specs.declared.feed_lines.FeedLine.{FeedLine}
use Rattle.feed_text.specs.declared.limits.TheConstants.{MAX_COMMANDS, MAX_ROWS}
use Rattle.feed_text.specs.Grammar.{append_line, row_line, feed_lines, IsRow, IsAppend, IsCommand}

-- the lines of a block so far: its head and its rows
abbrev pub block_lines : ℕ → Option ℕ → List Update → List (List ℕ)
block_lines lower upper rows = append_line lower upper ∷ map row_line rows

-- the lines of the block that is open
abbrev pub opened_lines : Option FeedAppend → List (List ℕ)
opened_lines None = []
opened_lines (Some a) = block_lines a.lower a.upper a.rows

-- the lines of what has been taken
abbrev pub taken_lines : List FeedLine → Option FeedAppend → List (List ℕ)
taken_lines commands block = feed_lines commands ++ opened_lines block

-- an open block is within the limits, and there is room for it
abbrev pub IsOpenWithin : ℕ → Option FeedAppend → Type 0
IsOpenWithin count None = count ≤ MAX_COMMANDS
IsOpenWithin count (Some a) = (count + 1 ≤ MAX_COMMANDS) × IsAppend a

-- what has been taken is within the limits, and so many lines
pub record IsTaken (commands : List FeedLine) (block : Option FeedAppend) (number : ℕ) : Type 0 where
  pub each : AllByRecursion IsCommand commands
  pub within : IsOpenWithin (length commands) block
  pub counted : number ≡ length (taken_lines commands block)

-- a line that is no further row after these
abbrev pub IsNoRow : List Update → List ℕ → Type 0
IsNoRow rows line = (MAX_ROWS ≤ length rows) ⊎ ((u : Update) → IsRow u → line ≡ row_line u → ⊥)
