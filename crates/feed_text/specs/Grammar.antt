-- The texts that are feeds of `run`, and the line at which another text is refused.
use Rattle.std.specs.Prelude.{⊤, ◌≡◌, ◌≢◌, ◌⊎◌, ℕ, ◌+◌, ◌-◌, ◌^◌, ◌<◌, ◌≤◌, Option, Some, None, IfSome, List, [], ◌∷◌, ◌++◌, length, take, map, codes, FitsSigned}
use Rattle.std.specs.Fmt.{decimal, signed_decimal}
use Rattle.std.specs.Int.{w64}
use Rattle.std.specs.List.{AllByRecursion, flat_map}
use Rattle.update_core.specs.declared.appends.FeedAppend.{FeedAppend}
use Rattle.update_core.specs.declared.updates.Update.{Update}
use Rattle.feed_text.specs.declared.feed_lines.FeedLine.{FeedLine}
use Rattle.feed_text.specs.declared.feed_lines.FeedLine.TheVariants.{Append, Snapshot, Listen, Since, Compact}
use Rattle.feed_text.specs.declared.limits.TheConstants.{MAX_BYTES, MAX_COMMANDS, MAX_ROWS}
use Rattle.feed_text.specs.Lines.{lines_of}

-- a time, or `closed`
abbrev pub frontier_text : Option ℕ → List ℕ
frontier_text None = codes "closed"
frontier_text (Some t) = decimal t

-- `append L U`
abbrev pub append_line : ℕ → Option ℕ → List ℕ
append_line lower upper = codes "append " ++ (decimal lower ++ 32 ∷ frontier_text upper)

-- `TIME DIFF DATUM`
abbrev pub row_line : Update → List ℕ
row_line u = decimal u.time ++ 32 ∷ (signed_decimal u.diff ++ 32 ∷ u.datum)

-- `snapshot T`
abbrev pub snapshot_line : ℕ → List ℕ
snapshot_line t = codes "snapshot " ++ decimal t

-- `listen T`
abbrev pub listen_line : ℕ → List ℕ
listen_line t = codes "listen " ++ decimal t

-- `since S`
abbrev pub since_line : ℕ → List ℕ
since_line to = codes "since " ++ decimal to

-- `compact`
abbrev pub compact_line : List ℕ
compact_line = codes "compact"

-- `.`
abbrev pub dot_line : List ℕ
dot_line = 46 ∷ []

-- the lines of a command: an append has a line, one for each row, and a dot
abbrev pub command_lines : FeedLine → List (List ℕ)
command_lines (Append a) = append_line a.lower a.upper ∷ (map row_line a.rows ++ dot_line ∷ [])
command_lines (Snapshot t) = snapshot_line t ∷ []
command_lines (Listen t) = listen_line t ∷ []
command_lines (Since to) = since_line to ∷ []
command_lines Compact = compact_line ∷ []

abbrev pub feed_lines : List FeedLine → List (List ℕ)
feed_lines commands = flat_map command_lines commands

-- a row within the limits
pub record IsRow (u : Update) : Type 0 where
  pub time : u.time < 2 ^ 64
  pub diff : FitsSigned w64 u.diff
  pub some : 1 ≤ length u.datum
  pub few : length u.datum ≤ 255
  pub one_line : AllByRecursion (λ b. b ≢ 10) u.datum

-- an append within the limits
pub record IsAppend (a : FeedAppend) : Type 0 where
  pub lower : a.lower < 2 ^ 64
  pub upper : IfSome a.upper (λ t. t < 2 ^ 64)
  pub few : length a.rows ≤ MAX_ROWS
  pub rows : AllByRecursion IsRow a.rows

abbrev pub IsCommand : FeedLine → Type 0
IsCommand (Append a) = IsAppend a
IsCommand (Snapshot t) = t < 2 ^ 64
IsCommand (Listen t) = t < 2 ^ 64
IsCommand (Since to) = to < 2 ^ 64
IsCommand Compact = ⊤

-- no command has this as its one line
abbrev pub IsNoCommand : List ℕ → Type 0
IsNoCommand line = (command : FeedLine) → IsCommand command → command_lines command ≡ line ∷ [] → ⊥

-- commands within the limits
pub record IsFeed (commands : List FeedLine) : Type 0 where
  pub few : length commands ≤ MAX_COMMANDS
  pub each : AllByRecursion IsCommand commands

-- the text has the lines of these commands, and isn't too long
pub record Spells (commands : List FeedLine) (text : List ℕ) : Type 0 where
  pub feed : IsFeed commands
  pub lines : lines_of text ≡ feed_lines commands
  pub few : length text ≤ MAX_BYTES

-- some feed begins with these lines
abbrev pub Begins : List (List ℕ) → Type 0
Begins lines = (commands : List FeedLine) × (more : List (List ℕ)) × IsFeed commands × (feed_lines commands ≡ lines ++ more)

-- the lines that are looked at: up to the one with the first byte that is too many
abbrev pub lines_read : List ℕ → List (List ℕ)
lines_read text = lines_of (take (MAX_BYTES + 1) text)

-- Line n, counted from 1, is the first at fault: some feed begins with the lines before it; none begins with those up to it,
-- or it is the last line and the text is no feed.
pub record IsFirstFault (text : List ℕ) (n : ℕ) : Type 0 where
  pub counted : (1 ≤ n) × (n ≤ length (lines_read text))
  pub before : Begins (take (n - 1) (lines_read text))
  pub here : (Begins (take n (lines_read text)) → ⊥) ⊎ ((n ≡ length (lines_read text)) × ((commands : List FeedLine) → Spells commands text → ⊥))
