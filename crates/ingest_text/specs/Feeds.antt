-- The texts that are feeds of `ingest`, line by line, and the line at which another text is refused.
use Rattle.std.specs.Prelude.{⊤, ◌≡◌, ◌⊎◌, ℕ, ◌+◌, ◌^◌, ◌<◌, ◌≤◌, true, Option, Some, None, IfSome, List, [], ◌∷◌, ◌++◌, length}
use Rattle.std.specs.List.{AllByRecursion}
use Rattle.update_core.specs.declared.updates.Update.{Update}
use Rattle.update_core.specs.declared.appends.FeedAppend.{FeedAppend}
use Rattle.update_core.specs.Frontiers.{covers}
use Rattle.update_core.specs.Updates.{weight_of}
use Rattle.appends_core.specs.Feeds.{IsWithin, end_of_feed, weight_of_all}
use Rattle.feed_text.specs.declared.feed_lines.FeedLine.{FeedLine}
use Rattle.feed_text.specs.declared.feed_lines.FeedLine.TheVariants as commands
use Rattle.feed_text.specs.declared.line_faults.LineFault.{LineFault}
use Rattle.feed_text.specs.declared.line_faults.LineFault.TheVariants as faults
use Rattle.feed_text.specs.declared.limits.TheConstants.{MAX_BYTES, MAX_COMMANDS, MAX_ROWS}
use Rattle.feed_text.specs.Grammar.{IsRow, append_line, command_lines, dot_line, lines_read, row_line, since_line}
use Rattle.feed_text.specs.Lines.{lines_of}
use Rattle.ingest_text.specs.declared.feeds.IngestFeed.{IngestFeed}
use Rattle.ingest_text.specs.declared.feeds.Said.{Said}
use Rattle.ingest_text.specs.declared.limits.TheConstants.{MAX_LISTENS, MAX_WEIGHT}

-- a question: a snapshot or a listen
abbrev pub IsQuery : FeedLine → Type 0
IsQuery (commands.Snapshot t) = t < 2 ^ 64
IsQuery (commands.Listen t) = t < 2 ^ 64
IsQuery _ = ⊥

-- how many of some questions are listens
abbrev pub listens_in : List FeedLine → ℕ
listens_in [] = 0
listens_in (commands.Listen t ∷ more) = 1 + listens_in more
listens_in (_ ∷ more) = listens_in more

-- how many commands a feed has: its since is one, each append is one, and each question
abbrev pub since_count : Option ℕ → ℕ
since_count None = 0
since_count (Some to) = 1

abbrev pub commands_in : IngestFeed → ℕ
commands_in f = since_count f.since + length f.appends + length f.queries

-- nothing said
abbrev pub nothing : Said
nothing = record { feed = record { since = None; appends = []; queries = [] }; block = None }

-- an append may begin here: no question was asked, it begins where the appends end, ends later, and there is room
pub record MayOpen (f : IngestFeed) (lower : ℕ) (upper : Option ℕ) : Type 0 where
  pub no_query : f.queries ≡ []
  pub begins : end_of_feed f.appends ≡ Some lower
  pub later : covers upper lower ≡ true
  pub room : commands_in f < MAX_COMMANDS

-- a question may be asked here: there is room, and there are at most 8 listens
pub record MayAsk (f : IngestFeed) (query : FeedLine) : Type 0 where
  pub few : listens_in (f.queries ++ query ∷ []) ≤ MAX_LISTENS
  pub room : commands_in f < MAX_COMMANDS

-- a row may stand in a block: its time is in the block's range, there is room, and all differences don't sum to too much
pub record MayAdd (f : IngestFeed) (block : FeedAppend) (row : Update) : Type 0 where
  pub in_range : IsWithin block.lower block.upper row
  pub few : length block.rows < MAX_ROWS
  pub light : weight_of_all f.appends + weight_of (block.rows ++ row ∷ []) ≤ MAX_WEIGHT

-- what has been said with a since, a block that is open, a question, a row, or a block that has ended
abbrev pub with_since : Said → ℕ → Said
with_since s to = record s { feed = record s.feed { since = Some to } }

abbrev pub with_block : Said → FeedAppend → Said
with_block s block = record s { block = Some block }

abbrev pub with_query : Said → FeedLine → Said
with_query s query = record s { feed = record s.feed { queries = s.feed.queries ++ query ∷ [] } }

abbrev pub with_row : Said → FeedAppend → Update → Said
with_row s block row = record s { block = Some (record block { rows = block.rows ++ row ∷ [] }) }

abbrev pub with_append : Said → FeedAppend → Said
with_append s block = record { feed = record s.feed { appends = s.feed.appends ++ block ∷ [] }; block = None }

-- `since S`, the first line
pub record SinceLine (s : Said) (line : List ℕ) (t : Said) : Type 0 where
  pub to : ℕ
  pub small : to < 2 ^ 64
  pub text : line ≡ since_line to
  pub first : s ≡ nothing
  pub after : t ≡ with_since s to

-- `append L U`
pub record HeadLine (s : Said) (line : List ℕ) (t : Said) : Type 0 where
  pub lower : ℕ
  pub upper : Option ℕ
  pub small : lower < 2 ^ 64
  pub bound : IfSome upper (λ u. u < 2 ^ 64)
  pub text : line ≡ append_line lower upper
  pub may : MayOpen s.feed lower upper
  pub after : t ≡ with_block s (record { lower = lower; upper = upper; rows = [] })

-- `snapshot T` or `listen T`
pub record QueryLine (s : Said) (line : List ℕ) (t : Said) : Type 0 where
  pub query : FeedLine
  pub within : IsQuery query
  pub text : command_lines query ≡ line ∷ []
  pub may : MayAsk s.feed query
  pub after : t ≡ with_query s query

-- a line outside a block
abbrev pub Free : Said → List ℕ → Said → Type 0
Free s line t = SinceLine s line t ⊎ (HeadLine s line t ⊎ QueryLine s line t)

-- a row in a block
pub record RowLine (s : Said) (block : FeedAppend) (line : List ℕ) (t : Said) : Type 0 where
  pub row : Update
  pub row_is : IsRow row
  pub text : line ≡ row_line row
  pub may : MayAdd s.feed block row
  pub after : t ≡ with_row s block row

-- the dot that ends a block
abbrev pub DotLine : Said → FeedAppend → List ℕ → Said → Type 0
DotLine s block line t = (line ≡ dot_line) × (t ≡ with_append s block)

-- a line takes what was said so far to more, by whether a block is open
abbrev pub TakesIn : Option FeedAppend → Said → List ℕ → Said → Type 0
TakesIn None s line t = Free s line t
TakesIn (Some block) s line t = DotLine s block line t ⊎ RowLine s block line t

abbrev pub Takes : Said → List ℕ → Said → Type 0
Takes s line t = TakesIn s.block s line t

-- these lines take what was said so far to more
abbrev pub Leads : Said → List (List ℕ) → Said → Type 0
Leads s [] t = t ≡ s
Leads s (line ∷ more) t = (next : Said) × Takes s line next × Leads next more t

-- the lines of the text say the feed, no block is left open, and the text isn't too long
pub record Spells (feed : IngestFeed) (text : List ℕ) : Type 0 where
  pub end : Said
  pub leads : Leads nothing (lines_of text) end
  pub is : feed ≡ end.feed
  pub closed : end.block ≡ None
  pub few : length text ≤ MAX_BYTES

-- the questions and the counts of a feed are within the limits
pub record IsFewEnough (feed : IngestFeed) : Type 0 where
  pub commands : commands_in feed ≤ MAX_COMMANDS
  pub queries : AllByRecursion IsQuery feed.queries
  pub listens : listens_in feed.queries ≤ MAX_LISTENS

-- Line n is the first that nothing takes where it stands, counted from 1.
pub record StopsAt (all : List (List ℕ)) (n : ℕ) : Type 0 where
  pub taken : List (List ℕ)
  pub line : List ℕ
  pub rest : List (List ℕ)
  pub parts : all ≡ taken ++ line ∷ rest
  pub counted : n ≡ length taken + 1
  pub before : Said
  pub leads : Leads nothing taken before
  pub stuck : (t : Said) → Takes before line t → ⊥

abbrev pub IsStop : List (List ℕ) → LineFault → Type 0
IsStop all faults.Memory = ⊤
IsStop all (faults.Line n) = StopsAt all n

-- nothing takes the line here, and it has this number
abbrev pub IsStuck : Said → List ℕ → ℕ → LineFault → Type 0
IsStuck s line number faults.Memory = ⊤
IsStuck s line number (faults.Line n) = (n ≡ number) × ((t : Said) → Takes s line t → ⊥)

-- line n is the last that is looked at, and the text ends in a block or is too long
pub record EndsOpen (text : List ℕ) (n : ℕ) : Type 0 where
  pub end : Said
  pub leads : Leads nothing (lines_read text) end
  pub last : n ≡ length (lines_read text)
  pub open_or_long : (end.block ≡ None → ⊥) ⊎ (MAX_BYTES < length text)

-- Line n is the first at fault: nothing takes it where it stands, or it is the last and the text doesn't end well.
abbrev pub IsFirstFault : List ℕ → ℕ → Type 0
IsFirstFault text n = StopsAt (lines_read text) n ⊎ EndsOpen text n

abbrev pub IsFaultOf : List ℕ → LineFault → Type 0
IsFaultOf text faults.Memory = ⊤
IsFaultOf text (faults.Line n) = IsFirstFault text n
