-- A schedule that a text spells is short, and has a name for each client.
use Rattle.std.proofs.Common.{◌≡◌, ℕ, ◌+◌, ◌<◌, ◌≤◌, inl, inr, Option, Some, None, List, [], ◌∷◌, ◌++◌, length, refl, sym, ap, subst, ◌∙◌, arith}
use Rattle.std.specs.Prelude.{IfSome}
use Rattle.std.specs.List.{AllByRecursion}
use Rattle.std.proofs.lemmas.List.{length-append}
use Rattle.state_core.proofs.ListLemmas.{each_append}
use Rattle.feed_text.specs.Lines.{lines_of}
use Rattle.feed_text.specs.declared.limits.TheConstants.{MAX_COMMANDS}
use Rattle.step_text.specs.declared.counts.TheConstants.{MAX_POLLS}
use Rattle.step_text.specs.declared.makes.Made.{Made}
use Rattle.step_text.specs.declared.makes.Made.TheVariants as makes
use Rattle.step_text.specs.declared.commands.Command.TheVariants as commands
use Rattle.step_text.specs.declared.step_lines.StepLine.{StepLine}
use Rattle.step_text.specs.declared.step_lines.StepLine.TheVariants as lines
use Rattle.step_text.specs.declared.verbs.Verb.{Verb}
use Rattle.step_text.specs.declared.verbs.Verb.TheVariants as verbs
use Rattle.step_text.specs.declared.schedules.Block.{Block}
use Rattle.step_text.specs.declared.schedules.SoFar.{SoFar}
use Rattle.step_text.specs.declared.schedules.Schedule.{Schedule}
use Rattle.step_text.specs.Schedules.{Free, Leads, MadeAs, Spells, Takes, TakesIn, TakesRest, start}
use Rattle.step_run.specs.Executing.{IsShort, made_among}
use Rattle.step_run.specs.Lines.{made_of, polls_of}

-- what holds of a schedule so far: a block that is open has room for its line
record Short (s : SoFar) : Type 0 where
  pub named : made_among s.lines ≡ length s.names
  pub few : length s.lines ≤ MAX_COMMANDS
  pub each : AllByRecursion (λ line. polls_of line ≤ MAX_POLLS) s.lines
  pub room : IfSome s.block (λ b. length s.lines < MAX_COMMANDS)

made_more : (ls : List StepLine) (l : StepLine) → made_among (ls ++ l ∷ []) ≡ made_among ls + made_of l
made_more [] l = let zero_too : made_of l + 0 ≡ 0 + made_of l = omega arith in zero_too
made_more (k ∷ ls) l = let rest = made_more ls l in omega (arith, rest)

-- one line more
one_line : (s t : SoFar) (l : StepLine) → Short s → length s.lines < MAX_COMMANDS → polls_of l ≤ MAX_POLLS → t.lines ≡ s.lines ++ l ∷ [] →
    length t.names ≡ length s.names + made_of l → t.block ≡ None → Short t
one_line s t l h room polls lines_are names_are closed = record {
  named = ap made_among lines_are ∙ made_more s.lines l ∙ ap (λ (n : ℕ). n + made_of l) h.named ∙ sym names_are;
  few =
      let count : length t.lines ≡ length s.lines + 1 = ap length lines_are ∙ length-append s.lines (l ∷ []) in
      omega (arith, count, room);
  each = subst (AllByRecursion (λ line. polls_of line ≤ MAX_POLLS)) (sym lines_are)
      (each_append (λ line. polls_of line ≤ MAX_POLLS) s.lines (l ∷ []) h.each (polls, tt));
  room = subst (λ (b : Option Block). IfSome b (λ c. length t.lines < MAX_COMMANDS)) (sym closed) tt;
}

module _ (s t : SoFar) (h : Short s) (room : length s.lines < MAX_COMMANDS) (closed : s.block ≡ None) where
  -- a line that asks for no polls and makes nobody
  quiet : (l : StepLine) → polls_of l ≤ MAX_POLLS → made_of l ≡ 0 → t.lines ≡ s.lines ++ l ∷ [] → t.names ≡ s.names → t.block ≡ s.block → Short t
  quiet l polls none lines_are names_are same =
      let count : length t.names ≡ length s.names + made_of l = ap length names_are ∙ (let e : length s.names ≡ length s.names + made_of l = omega (arith, none) in e) in
      one_line s t l h room polls lines_are count (same ∙ closed)

  makes_one : (name : List ℕ) (made : Made) → MadeAs s name made t → Short t
  makes_one name made m =
      let count : length t.names ≡ length s.names + 1 = ap (λ (x : SoFar). length x.names) m.after ∙ length-append s.names (name ∷ []) in
      one_line s t (lines.Make made) h room (omega arith) (ap (λ (x : SoFar). x.lines) m.after) count (ap (λ (x : SoFar). x.block) m.after ∙ closed)

  rest_short : (verb : Verb) (rest : List ℕ) → TakesRest verb s rest t → Short t
  rest_short verbs.Writer rest m = makes_one rest makes.Writer m
  rest_short verbs.Collector rest m = makes_one rest makes.Collector m
  rest_short verbs.Expirer rest m = makes_one rest makes.Expirer m
  rest_short verbs.Reader rest (name, lease, fits, text, m) = makes_one name (makes.Reader lease) m
  rest_short verbs.Compactor rest (name, lease, fits, text, m) = makes_one name (makes.Compactor lease) m
  rest_short verbs.Moment rest (to, fits, text, later, is) =
      quiet (lines.Moment to) (omega arith) refl (ap (λ (x : SoFar). x.lines) is) (ap (λ (x : SoFar). x.names) is) (ap (λ (x : SoFar). x.block) is)
  rest_short verbs.Begin rest (name, what, text, seat, stands, inl b) =
      quiet (lines.Begin seat.number b.command) (omega arith) refl (ap (λ (x : SoFar). x.lines) b.after) (ap (λ (x : SoFar). x.names) b.after)
      (ap (λ (x : SoFar). x.block) b.after)
  rest_short verbs.Begin rest (name, what, text, seat, stands, inr o) =
      let same : t.lines ≡ s.lines = ap (λ (x : SoFar). x.lines) o.after in
      let low : length t.lines < MAX_COMMANDS = subst (λ (ls : List StepLine). length ls < MAX_COMMANDS) (sym same) room in
      let opened = ap (λ (x : SoFar). x.block) o.after in
      record {
        named = ap made_among same ∙ h.named ∙ sym (ap (λ (x : SoFar). length x.names) o.after);
        few = omega (arith, low);
        each = subst (AllByRecursion (λ line. polls_of line ≤ MAX_POLLS)) (sym same) h.each;
        room = subst (λ (b : Option Block). IfSome b (λ c. length t.lines < MAX_COMMANDS)) (sym opened) low;
      }
  rest_short verbs.Step rest (name, polls, is_polls, text, seat, stands, is) =
      quiet (lines.Step seat.number polls) is_polls.1 refl (ap (λ (x : SoFar). x.lines) is) (ap (λ (x : SoFar). x.names) is)
      (ap (λ (x : SoFar). x.block) is)
  rest_short verbs.Stop rest (seat, stands, is) =
      quiet (lines.Stop seat.number) (omega arith) refl (ap (λ (x : SoFar). x.lines) is) (ap (λ (x : SoFar). x.names) is)
      (ap (λ (x : SoFar). x.block) is)

  free_short : (line : List ℕ) → Free s line t → Short t
  free_short line (inl (text, is)) =
      quiet lines.Head (omega arith) refl (ap (λ (x : SoFar). x.lines) is) (ap (λ (x : SoFar). x.names) is) (ap (λ (x : SoFar). x.block) is)
  free_short line (inr v) = rest_short v.verb v.rest v.takes

-- each line keeps it
takes_short : (s t : SoFar) (line : List ℕ) → Short s → Takes s line t → Short t
takes_short s t line h takes = by s.block refl takes
  where
    by : (b : Option Block) → s.block ≡ b → TakesIn b s line t → Short t
    by None closed (room, free) = free_short s t h room closed line free
    by (Some block) opened (inl (text, is)) =
        let room = subst (λ (b : Option Block). IfSome b (λ c. length s.lines < MAX_COMMANDS)) opened h.room in
        let count : length t.names ≡ length s.names + 0 = ap (λ (x : SoFar). length x.names) is ∙ (let e : length s.names ≡ length s.names + 0 = omega arith in e) in
        one_line s t (lines.Begin block.client (commands.Append block.append)) h room (omega arith) (ap (λ (x : SoFar). x.lines) is)
        count (ap (λ (x : SoFar). x.block) is)
    by (Some block) opened (inr row) =
        let room = subst (λ (b : Option Block). IfSome b (λ c. length s.lines < MAX_COMMANDS)) opened h.room in
        let same : t.lines ≡ s.lines = ap (λ (x : SoFar). x.lines) row.after in
        let low : length t.lines < MAX_COMMANDS = subst (λ (ls : List StepLine). length ls < MAX_COMMANDS) (sym same) room in
        record {
          named = ap made_among same ∙ h.named ∙ sym (ap (λ (x : SoFar). length x.names) row.after);
          few = omega (arith, low);
          each = subst (AllByRecursion (λ l. polls_of l ≤ MAX_POLLS)) (sym same) h.each;
          room = subst (λ (b : Option Block). IfSome b (λ c. length t.lines < MAX_COMMANDS)) (sym (ap (λ (x : SoFar). x.block) row.after)) low;
        }

leads_short : (s t : SoFar) (ls : List (List ℕ)) → Short s → Leads s ls t → Short t
leads_short s t [] h is = subst Short (sym is) h
leads_short s t (line ∷ more) h (next, takes, leads) = leads_short next t more (takes_short s next line h takes) leads

pub spells_short : (schedule : Schedule) (text : List ℕ) → Spells schedule text → IsShort schedule
spells_short schedule text spells =
    let h = leads_short start spells.end (lines_of text) (record { named = refl; few = omega arith; each = tt; room = tt }) spells.leads in
    let names_are : length schedule.names ≡ length spells.end.names = ap length spells.names in
    let made : made_among schedule.lines ≡ length spells.end.names = ap made_among spells.lines ∙ h.named in
    record {
      named = omega (arith, made, names_are);
      few = subst (λ (ls : List StepLine). length ls ≤ MAX_COMMANDS) (sym spells.lines) h.few;
      each = subst (AllByRecursion (λ line. polls_of line ≤ MAX_POLLS)) (sym spells.lines) h.each;
    }
