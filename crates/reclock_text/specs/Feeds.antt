-- The texts that are feeds of `reclock`, line by line, and the line at which another text is refused.
use Rattle.std.specs.Prelude.{⊤, ◌≡◌, ◌⊎◌, ℕ, ◌+◌, ◌<◌, ◌≤◌, List, [], ◌∷◌, ◌++◌, length}
use Rattle.std.specs.List.{AllByRecursion}
use Rattle.feed_text.specs.declared.line_faults.LineFault.{LineFault}
use Rattle.feed_text.specs.declared.line_faults.LineFault.TheVariants as faults
use Rattle.feed_text.specs.declared.limits.TheConstants.{MAX_BYTES, MAX_ROWS}
use Rattle.feed_text.specs.Grammar.{lines_read}
use Rattle.feed_text.specs.Lines.{lines_of}
use Rattle.remap_core.specs.declared.source_rows.SourceRow.{SourceRow}
use Rattle.remap_core.specs.Reclocking.{weight_of_rows}
use Rattle.reclock_text.specs.declared.feeds.ReclockFeed.{ReclockFeed}
use Rattle.reclock_text.specs.declared.limits.TheConstants.{MAX_SAWS, MAX_WEIGHT}
use Rattle.reclock_text.specs.declared.saws.Saw.{Saw}
use Rattle.reclock_text.specs.Saws.{IsSawLine}
use Rattle.reclock_text.specs.Sources.{IsSourceRow, source_line}

-- the line says one more that was seen
pub record TakesSaw (operators : ℕ) (s : ReclockFeed) (line : List ℕ) (t : ReclockFeed) : Type 0 where
  pub saw : Saw
  pub text : IsSawLine operators line saw
  pub few : length s.saws < MAX_SAWS
  pub after : t ≡ record s { saws = s.saws ++ saw ∷ [] }

-- the line says one more row
pub record TakesRow (s : ReclockFeed) (line : List ℕ) (t : ReclockFeed) : Type 0 where
  pub row : SourceRow
  pub within : IsSourceRow row
  pub text : line ≡ source_line row
  pub few : length s.rows < MAX_ROWS
  pub light : weight_of_rows (s.rows ++ row ∷ []) ≤ MAX_WEIGHT
  pub after : t ≡ record s { rows = s.rows ++ row ∷ [] }

-- a line takes what was said so far to more
abbrev pub Takes : ℕ → ReclockFeed → List ℕ → ReclockFeed → Type 0
Takes operators s line t = TakesSaw operators s line t ⊎ TakesRow s line t

-- nothing said
abbrev pub nothing : ReclockFeed
nothing = record { saws = []; rows = [] }

-- these lines take what was said so far to more
abbrev pub Leads : ℕ → ReclockFeed → List (List ℕ) → ReclockFeed → Type 0
Leads operators s [] t = t ≡ s
Leads operators s (line ∷ more) t = (next : ReclockFeed) × Takes operators s line next × Leads operators next more t

-- the lines of the text say the feed, and the text isn't too long
pub record Spells (operators : ℕ) (feed : ReclockFeed) (text : List ℕ) : Type 0 where
  pub leads : Leads operators nothing (lines_of text) feed
  pub few : length text ≤ MAX_BYTES

-- a feed within the limits
pub record IsWithin (operators : ℕ) (feed : ReclockFeed) : Type 0 where
  pub saws : length feed.saws ≤ MAX_SAWS
  pub each : AllByRecursion (λ (s : Saw). s.operator < operators) feed.saws
  pub rows : length feed.rows ≤ MAX_ROWS
  pub light : weight_of_rows feed.rows ≤ MAX_WEIGHT

-- Line n is the first that nothing takes where it stands, counted from 1.
pub record StopsAt (operators : ℕ) (all : List (List ℕ)) (n : ℕ) : Type 0 where
  pub taken : List (List ℕ)
  pub line : List ℕ
  pub rest : List (List ℕ)
  pub parts : all ≡ taken ++ line ∷ rest
  pub counted : n ≡ length taken + 1
  pub before : ReclockFeed
  pub leads : Leads operators nothing taken before
  pub stuck : (t : ReclockFeed) → Takes operators before line t → ⊥

abbrev pub IsStop : ℕ → List (List ℕ) → LineFault → Type 0
IsStop operators all faults.Memory = ⊤
IsStop operators all (faults.Line n) = StopsAt operators all n

-- nothing takes the line here, and it has this number
abbrev pub IsStuck : ℕ → ReclockFeed → List ℕ → ℕ → LineFault → Type 0
IsStuck operators s line number faults.Memory = ⊤
IsStuck operators s line number (faults.Line n) = (n ≡ number) × ((t : ReclockFeed) → Takes operators s line t → ⊥)

-- line n is the last that is looked at, and the text is too long
pub record EndsLong (operators : ℕ) (text : List ℕ) (n : ℕ) : Type 0 where
  pub end : ReclockFeed
  pub leads : Leads operators nothing (lines_read text) end
  pub last : n ≡ length (lines_read text)
  pub long : MAX_BYTES < length text

-- Line n is the first at fault: nothing takes it where it stands, or it is the last that is looked at of a text that is too long.
abbrev pub IsFirstFault : ℕ → List ℕ → ℕ → Type 0
IsFirstFault operators text n = StopsAt operators (lines_read text) n ⊎ EndsLong operators text n

abbrev pub IsFaultOf : ℕ → List ℕ → LineFault → Type 0
IsFaultOf operators text faults.Memory = ⊤
IsFaultOf operators text (faults.Line n) = IsFirstFault operators text n
