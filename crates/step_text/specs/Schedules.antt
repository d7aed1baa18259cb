-- The lines of a schedule: what each says, and where it may stand.
use Rattle.std.specs.Prelude.{⊤, ◌≡◌, ◌⊎◌, ℕ, ◌+◌, ◌^◌, ◌<◌, ◌≤◌, Bool, true, false, Option, Some, None, IfSome, List, [], ◌∷◌, ◌++◌, length, codes, Contains, if◌then◌else◌}
use Rattle.std.specs.Str.{bytes_eq}
use Rattle.std.specs.Fmt.{decimal}
use Rattle.update_core.specs.declared.updates.Update.{Update}
use Rattle.feed_text.specs.declared.line_faults.LineFault.{LineFault}
use Rattle.feed_text.specs.declared.line_faults.LineFault.TheVariants as faults
use Rattle.feed_text.specs.Grammar.{IsRow, append_line, dot_line, lines_read, row_line}
use Rattle.feed_text.specs.Lines.{lines_of}
use Rattle.feed_text.specs.declared.limits.TheConstants.{MAX_BYTES, MAX_COMMANDS, MAX_ROWS}
use Rattle.step_text.specs.declared.makes.Made.{Made}
use Rattle.step_text.specs.declared.makes.Made.TheVariants as makes
use Rattle.step_text.specs.declared.commands.Command.{Command}
use Rattle.step_text.specs.declared.commands.Command.TheVariants as commands
use Rattle.step_text.specs.declared.step_lines.StepLine.{StepLine}
use Rattle.step_text.specs.declared.step_lines.StepLine.TheVariants as lines
use Rattle.step_text.specs.declared.verbs.Verb.{Verb}
use Rattle.step_text.specs.declared.verbs.Verb.TheVariants as verbs
use Rattle.step_text.specs.declared.seats.Seat.{Seat}
use Rattle.step_text.specs.declared.seats.Named.{Named}
use Rattle.step_text.specs.declared.schedules.Block.{Block}
use Rattle.step_text.specs.declared.schedules.SoFar.{SoFar}
use Rattle.step_text.specs.declared.schedules.Schedule.{Schedule}
use Rattle.step_text.specs.declared.rules.TheConstants.{MAX_CLIENTS}
use Rattle.step_text.specs.Words.{IsName, IsPolls}
use Rattle.step_text.specs.Commands.{IsShort, command_text}

-- the first words of lines
abbrev pub verb_word : Verb → List ℕ
verb_word verbs.Writer = codes "writer"
verb_word verbs.Reader = codes "reader"
verb_word verbs.Compactor = codes "compactor"
verb_word verbs.Collector = codes "collector"
verb_word verbs.Expirer = codes "expirer"
verb_word verbs.Moment = codes "moment"
verb_word verbs.Begin = codes "begin"
verb_word verbs.Step = codes "step"
verb_word verbs.Stop = codes "stop"

-- the client with this name
abbrev pub seat_named : List ℕ → List Named → Option Seat
seat_named name [] = None
seat_named name (c ∷ cs) = if bytes_eq c.name name then Some c.seat else seat_named name cs

-- the client with this name was made, and isn't stopped
pub record Stands (s : SoFar) (name : List ℕ) (seat : Seat) : Type 0 where
  pub name_is : IsName name
  pub made : seat_named name s.clients ≡ Some seat
  pub goes : Contains s.stopped seat.number → ⊥

-- the schedule with one more line
abbrev pub said : SoFar → StepLine → SoFar
said s line = record s { lines = s.lines ++ line ∷ [] }

-- one more client, under a name that is new
pub record MadeAs (s : SoFar) (name : List ℕ) (made : Made) (t : SoFar) : Type 0 where
  pub name_is : IsName name
  pub new : seat_named name s.clients ≡ None
  pub few : length s.clients < MAX_CLIENTS
  pub after : t ≡ record s {
    names = s.names ++ name ∷ [];
    clients = s.clients ++ record { name = name; seat = record { number = length s.clients; made = made } } ∷ [];
    lines = s.lines ++ lines.Make made ∷ [];
  }

-- which commands a client of a kind has
abbrev pub has : Made → Command → Bool
has makes.Writer (commands.Append a) = true
has makes.Writer commands.Close = true
has (makes.Reader lease) (commands.Snapshot t) = true
has (makes.Reader lease) (commands.Listen t) = true
has (makes.Reader lease) commands.Next = true
has (makes.Reader lease) (commands.Advance to) = true
has (makes.Reader lease) commands.Renew = true
has (makes.Reader lease) commands.Close = true
has (makes.Compactor lease) commands.Merge = true
has (makes.Compactor lease) commands.Renew = true
has (makes.Compactor lease) commands.Close = true
has makes.Collector commands.Collect = true
has makes.Expirer commands.Expire = true
has made command = false

-- a command that has one line is begun
pub record Short (s : SoFar) (seat : Seat) (what : List ℕ) (t : SoFar) : Type 0 where
  pub command : Command
  pub short : IsShort command
  pub text : what ≡ command_text command
  pub kind : has seat.made command ≡ true
  pub after : t ≡ said s (lines.Begin seat.number command)

-- an append block is opened
pub record Opened (s : SoFar) (seat : Seat) (what : List ℕ) (t : SoFar) : Type 0 where
  pub lower : ℕ
  pub upper : Option ℕ
  pub small : lower < 2 ^ 64
  pub bound : IfSome upper (λ u. u < 2 ^ 64)
  pub text : what ≡ append_line lower upper
  pub kind : seat.made ≡ makes.Writer
  pub after : t ≡ record s { block = Some (record { client = seat.number; append = record { lower = lower; upper = upper; rows = [] } }) }

-- a client with a lease is made
abbrev pub Leased : (ℕ → Made) → SoFar → List ℕ → SoFar → Type 0
Leased kind s rest t =
    (name : List ℕ) × (lease : ℕ) × (lease < 2 ^ 64) × (rest ≡ name ++ 32 ∷ decimal lease) × MadeAs s name (kind lease) t

-- what a line's rest makes of the schedule so far, by its verb
abbrev pub TakesRest : Verb → SoFar → List ℕ → SoFar → Type 0
TakesRest verbs.Writer s rest t = MadeAs s rest makes.Writer t
TakesRest verbs.Collector s rest t = MadeAs s rest makes.Collector t
TakesRest verbs.Expirer s rest t = MadeAs s rest makes.Expirer t
TakesRest verbs.Reader s rest t = Leased (λ lease. makes.Reader lease) s rest t
TakesRest verbs.Compactor s rest t = Leased (λ lease. makes.Compactor lease) s rest t
TakesRest verbs.Moment s rest t =
    (to : ℕ) × (to < 2 ^ 64) × (rest ≡ decimal to) × (s.moment ≤ to) × (t ≡ record (said s (lines.Moment to)) { moment = to })
TakesRest verbs.Begin s rest t =
    (name : List ℕ) × (what : List ℕ) × (rest ≡ name ++ 32 ∷ what) × (seat : Seat) × Stands s name seat × (Short s seat what t ⊎ Opened s seat what t)
TakesRest verbs.Step s rest t =
    (name : List ℕ) × (polls : ℕ) × IsPolls polls × (rest ≡ name ++ 32 ∷ decimal polls) × (seat : Seat) × Stands s name seat
    × (t ≡ said s (lines.Step seat.number polls))
TakesRest verbs.Stop s rest t =
    (seat : Seat) × Stands s rest seat × (t ≡ record (said s (lines.Stop seat.number)) { stopped = s.stopped ++ seat.number ∷ [] })

-- a line of a verb and what stands behind it
pub record Verbed (s : SoFar) (line : List ℕ) (t : SoFar) : Type 0 where
  pub verb : Verb
  pub rest : List ℕ
  pub text : line ≡ verb_word verb ++ 32 ∷ rest
  pub takes : TakesRest verb s rest t

-- a line outside a block
abbrev pub Free : SoFar → List ℕ → SoFar → Type 0
Free s line t = ((line ≡ codes "head") × (t ≡ said s lines.Head)) ⊎ Verbed s line t

-- a row in a block
pub record RowLine (s : SoFar) (block : Block) (line : List ℕ) (t : SoFar) : Type 0 where
  pub row : Update
  pub row_is : IsRow row
  pub text : line ≡ row_line row
  pub few : length block.append.rows < MAX_ROWS
  pub after : t ≡ record s {
    block = Some (record {
      client = block.client;
      append = record { lower = block.append.lower; upper = block.append.upper; rows = block.append.rows ++ row ∷ [] };
    });
  }

-- the dot that ends a block
abbrev pub DotLine : SoFar → Block → List ℕ → SoFar → Type 0
DotLine s block line t = (line ≡ dot_line)
    × (t ≡ record s { lines = s.lines ++ lines.Begin block.client (commands.Append block.append) ∷ []; block = None })

-- a line takes the schedule so far to another, by whether a block is open; a line outside has to have room
abbrev pub TakesIn : Option Block → SoFar → List ℕ → SoFar → Type 0
TakesIn None s line t = (length s.lines < MAX_COMMANDS) × Free s line t
TakesIn (Some block) s line t = DotLine s block line t ⊎ RowLine s block line t

abbrev pub Takes : SoFar → List ℕ → SoFar → Type 0
Takes s line t = TakesIn s.block s line t

-- nothing said
abbrev pub start : SoFar
start = record { names = []; clients = []; stopped = []; lines = []; moment = 0; block = None }

-- these lines take the schedule so far to another
abbrev pub Leads : SoFar → List (List ℕ) → SoFar → Type 0
Leads s [] t = t ≡ s
Leads s (line ∷ more) t = (next : SoFar) × Takes s line next × Leads next more t

-- Line n is the first that nothing has where it stands, counted from 1.
pub record StopsAt (all : List (List ℕ)) (n : ℕ) : Type 0 where
  pub taken : List (List ℕ)
  pub line : List ℕ
  pub rest : List (List ℕ)
  pub parts : all ≡ taken ++ line ∷ rest
  pub counted : n ≡ length taken + 1
  pub before : SoFar
  pub leads : Leads start taken before
  pub stuck : (t : SoFar) → Takes before line t → ⊥

abbrev pub IsStop : List (List ℕ) → LineFault → Type 0
IsStop all faults.Memory = ⊤
IsStop all (faults.Line n) = StopsAt all n

-- nothing has the line here, and it has this number
abbrev pub IsStuck : SoFar → List ℕ → ℕ → LineFault → Type 0
IsStuck s line number faults.Memory = ⊤
IsStuck s line number (faults.Line n) = (n ≡ number) × ((t : SoFar) → Takes s line t → ⊥)

-- the lines of the text say the schedule, no block is left open, and the text isn't too long
pub record Spells (schedule : Schedule) (text : List ℕ) : Type 0 where
  pub end : SoFar
  pub leads : Leads start (lines_of text) end
  pub names : schedule.names ≡ end.names
  pub lines : schedule.lines ≡ end.lines
  pub closed : end.block ≡ None
  pub few : length text ≤ MAX_BYTES

-- line n is the last that is looked at, and the text ends in a block or is too long
pub record EndsOpen (text : List ℕ) (n : ℕ) : Type 0 where
  pub end : SoFar
  pub leads : Leads start (lines_read text) end
  pub last : n ≡ length (lines_read text)
  pub open_or_long : (end.block ≡ None → ⊥) ⊎ (MAX_BYTES < length text)

-- Line n is the first at fault: nothing has it where it stands, or it is the last and the text doesn't end well.
abbrev pub IsFirstFault : List ℕ → ℕ → Type 0
IsFirstFault text n = StopsAt (lines_read text) n ⊎ EndsOpen text n

abbrev pub IsFaultOf : List ℕ → LineFault → Type 0
IsFaultOf text faults.Memory = ⊤
IsFaultOf text (faults.Line n) = IsFirstFault text n
