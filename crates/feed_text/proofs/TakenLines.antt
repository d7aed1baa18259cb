-- What a reader has taken: what follows where it goes on, where it stops, and where the text ends.
use Rattle.std.proofs.Common.{◌≡◌, ◌≢◌, ⊎_elim, ℕ, ◌+◌, ◌^◌, ◌<◌, ◌≤◌, Option, Some, None, IfSome, List, [], ◌∷◌, ◌++◌, length, take, length-append, length-take, append_assoc, append-nil, sym, ap, subst, ◌∙◌, arith}
use Rattle.std.proofs.lemmas.List.Concat.{flat_map-append}
use Rattle.update_core.specs.declared.appends.FeedAppend.{FeedAppend}
use Rattle.update_core.specs.declared.updates.Update.{Update}
use Rattle.feed_text.specs.declared.feed_lines.FeedLine.{FeedLine}
use Rattle.feed_text.specs.declared.feed_lines.FeedLine.TheVariants.{Append}
use Rattle.feed_text.specs.declared.limits.TheConstants.{MAX_BYTES, MAX_COMMANDS, MAX_ROWS}
use Rattle.feed_text.specs.declared.line_faults.LineFault.{LineFault}
use Rattle.feed_text.specs.declared.line_faults.LineFault.TheVariants.{Memory, Line}
use Rattle.feed_text.specs.Faults.{IsFaultOf, IsRefusal, StopsAt}
use Rattle.feed_text.specs.Grammar.{append_line, row_line, dot_line, command_lines, feed_lines, lines_read, IsNoCommand, IsRow, IsFirstFault, Spells, Begins}
use Rattle.feed_text.specs.Reading.{block_lines, taken_lines, IsTaken, IsNoRow}
use Rattle.feed_text.proofs.Faults.{fault_refused, fault_at_end}
use Rattle.feed_text.proofs.Spelling.{no_command, too_many_commands, no_row, too_many_rows, begins_closed, begins_open, open_spells_none}
use Rattle.feed_text.proofs.TextLines.{lines_some, lines_read_whole}

closed_lines : (commands : List FeedLine) → taken_lines commands None ≡ feed_lines commands
closed_lines commands = append-nil (feed_lines commands)

-- some feed begins with what a reader has taken
pub begins_taken : (commands : List FeedLine) (block : Option FeedAppend) (number : ℕ) → IsTaken commands block number → Begins (taken_lines commands block)
begins_taken commands None number taken = subst Begins (sym (closed_lines commands)) (begins_closed commands (record { few = taken.within; each = taken.each }))
begins_taken commands (Some a) number taken =
    begins_open commands a.lower a.upper a.rows taken.within.0 taken.each taken.within.1.lower taken.within.1.upper taken.within.1.few taken.within.1.rows

pub full_refuses : (commands : List FeedLine) (number : ℕ) (line : List ℕ) → IsTaken commands None number → MAX_COMMANDS ≤ length commands → Begins (taken_lines commands None ++ line ∷ []) → ⊥
full_refuses commands number line taken full begins =
    too_many_commands commands line taken.each (omega (arith, taken.within)) (subst (λ (ls : List (List ℕ)). Begins (ls ++ line ∷ [])) (closed_lines commands) begins)

pub other_line_refused : (commands : List FeedLine) (number : ℕ) (line : List ℕ) → IsTaken commands None number
    → ((l : ℕ) (u : Option ℕ) → l < 2 ^ 64 → IfSome u (λ t. t < 2 ^ 64) → line ≡ append_line l u → ⊥) → IsNoCommand line
    → Begins (taken_lines commands None ++ line ∷ []) → ⊥
other_line_refused commands number line taken head none begins =
    no_command commands line taken.each head none (subst (λ (ls : List (List ℕ)). Begins (ls ++ line ∷ [])) (closed_lines commands) begins)

-- the dot makes a command of the block
pub dot_taken : (commands now : List FeedLine) (a : FeedAppend) (line : List ℕ) → line ≡ dot_line → now ≡ commands ++ Append a ∷ []
    → taken_lines now None ≡ taken_lines commands (Some a) ++ line ∷ []
dot_taken commands now a line is after =
    closed_lines now ∙ ap feed_lines after ∙ flat_map-append command_lines commands (Append a ∷ [])
    ∙ ap (λ ls. feed_lines commands ++ ls) (append-nil (command_lines (Append a)))
    ∙ sym (append_assoc (feed_lines commands) (block_lines a.lower a.upper a.rows) (dot_line ∷ []))
    ∙ ap (λ l. taken_lines commands (Some a) ++ l ∷ []) (sym is)

pub no_row_refused : (commands : List FeedLine) (a : FeedAppend) (number : ℕ) (line : List ℕ) → IsTaken commands (Some a) number → line ≢ dot_line → IsNoRow a.rows line
    → Begins (taken_lines commands (Some a) ++ line ∷ []) → ⊥
no_row_refused commands a number line taken apart none begins =
    let is = taken.within.1 in
    ⊎_elim
    (λ (many : MAX_ROWS ≤ length a.rows). too_many_rows commands a.lower a.upper a.rows line taken.each is.lower is.upper is.rows (omega (arith, is.few)) apart begins)
    (λ (other : (u : Update) → IsRow u → line ≡ row_line u → ⊥). no_row commands a.lower a.upper a.rows line taken.each is.lower is.upper is.rows apart other begins)
    none

-- where a reader refuses a line of a text
pub stops_at : (lines taken more : List (List ℕ)) (line : List ℕ) (number : ℕ) (fault : LineFault) → lines ≡ taken ++ line ∷ more → number ≡ length taken → Begins taken
    → IsRefusal (taken ++ line ∷ []) (number + 1) fault → StopsAt lines fault
stops_at lines taken more line number Memory is counted begins none = tt
stops_at lines taken more line number (Line n) is counted begins none =
    record { taken = taken; line = line; rest = more; parts = is; counted = none.0 ∙ ap (λ k. k + 1) counted; before = begins; here = none.1 }

-- the stop is the first line at fault
pub fault_at_stop : (text : List ℕ) (fault : LineFault) → StopsAt (lines_read text) fault → IsFaultOf text fault
fault_at_stop text Memory stop = tt
fault_at_stop text (Line n) stop = fault_refused text stop.taken stop.line stop.rest n stop.parts stop.counted stop.before stop.here

-- a text that is too long
pub fault_too_long : (text : List ℕ) (commands : List FeedLine) (block : Option FeedAppend) (number : ℕ) → IsTaken commands block number → taken_lines commands block ≡ lines_read text
    → MAX_BYTES < length text → IsFirstFault text number
fault_too_long text commands block number taken read long =
    let counted = taken.counted ∙ ap length read in
    let some : 0 < length (lines_read text) = lines_some (take (MAX_BYTES + 1) text) (omega (arith, length-take (MAX_BYTES + 1) text)) in
    fault_at_end text number counted (omega (arith, counted)) (subst Begins read (begins_taken commands block number taken)) (λ feed spells. omega (arith, spells.few))

-- a text that ends in a block
pub fault_in_block : (text : List ℕ) (commands : List FeedLine) (a : FeedAppend) (number : ℕ) → IsTaken commands (Some a) number → taken_lines commands (Some a) ≡ lines_read text
    → length text ≤ MAX_BYTES → IsFirstFault text number
fault_in_block text commands a number taken read short =
    let counted = taken.counted ∙ ap length read in
    let is = taken.within.1 in
    fault_at_end text number counted (omega (arith, taken.counted, length-append (feed_lines commands) (block_lines a.lower a.upper a.rows)))
    (subst Begins read (begins_taken commands (Some a) number taken))
    (open_spells_none commands a.lower a.upper a.rows taken.within.0 taken.each is.lower is.upper is.few is.rows text (sym (lines_read_whole text short) ∙ sym read))

-- a text that is a feed
pub spells_taken : (text : List ℕ) (commands : List FeedLine) (number : ℕ) → IsTaken commands None number → taken_lines commands None ≡ lines_read text
    → length text ≤ MAX_BYTES → Spells commands text
spells_taken text commands number taken read short = record {
  feed = record { few = taken.within; each = taken.each };
  lines = sym (lines_read_whole text short) ∙ sym read ∙ closed_lines commands;
  few = short;
}
