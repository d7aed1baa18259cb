-- What a line does, said of its kind.
use Rattle.std.proofs.Common.{◌≡◌, ℕ, Option, Result, Ok, Err, List, refl, sym, subst, ◌∙◌}
use Rattle.std.specs.Prelude.{IfOk, OnOk}
use Rattle.update_core.specs.declared.updates.Update.{Update}
use Rattle.store_core.specs.declared.shards.ShardId.{ShardId}
use Rattle.store_core.specs.declared.entries.Entry.{Entry}
use Rattle.store_core.specs.Histories.{History}
use Rattle.store_core.specs.Stores.{Stored}
use Rattle.driving.specs.Goings.{Goes}
use Rattle.driving.proofs.GoingLaws.{going_so, no_going}
use Rattle.step_text.specs.declared.commands.Command.{Command}
use Rattle.step_text.specs.declared.makes.Made.{Made}
use Rattle.step_text.specs.declared.step_lines.StepLine.{StepLine}
use Rattle.step_text.specs.declared.step_lines.StepLine.TheVariants as lines
use Rattle.step_run.specs.declared.heard.Heard.{Heard}
use Rattle.step_run.specs.declared.heard.Heard.TheVariants as hears
use Rattle.step_run.specs.declared.step_faults.StepFault.{StepFault}
use Rattle.step_run.specs.declared.step_faults.StepFault.TheVariants as faults
use Rattle.step_run.specs.Begins.{FailsForMemory}
use Rattle.step_run.specs.Faults.{FailedBy}
use Rattle.step_run.specs.Lines.{BeginsAt, Does, Heads, MakesAt, OrFails, Sitting, StepsAt}

pub on_ok_so : {A P Q : Type 0} → (r : Result A StepFault) → (P → Q) → OnOk r P → OnOk r Q
on_ok_so (Ok a) so p = so p
on_ok_so (Err fault) so p = tt

pub on_ok_any : {A P : Type 0} → (r : Result A StepFault) → P → OnOk r P
on_ok_any (Ok a) p = p
on_ok_any (Err fault) p = tt

-- only memory is wanted
pub never_store : {A : Type 0} → (r : Result A StepFault) → FailsForMemory r → r ≡ Err faults.Store → ⊥
never_store (Ok a) h is = absurd cc
never_store (Err fault) h is = absurd (let e : faults.Memory ≡ faults.Store = sym h ∙ (let f : fault ≡ faults.Store = cc in f) in cc)

pub never_sink : {A : Type 0} → (r : Result A StepFault) → FailsForMemory r → r ≡ Err faults.Sink → ⊥
never_sink (Ok a) h is = absurd cc
never_sink (Err fault) h is = absurd (let e : faults.Memory ≡ faults.Sink = sym h ∙ (let f : fault ≡ faults.Sink = cc in f) in cc)

module _ (shard : ShardId) (heads : ℕ) (a d : Option History) where
  -- one way of a line is another
  line_as : (r : Result Heard StepFault) (how did : Heard → List Update → Stored → List Entry → List Entry → Type 0) →
      ((heard : Heard) (list : List Update) (start : Stored) (es now : List Entry) → how heard list start es now → did heard list start es now) →
      Goes shard a d (OrFails shard how r) → Goes shard a d (OrFails shard did r)
  line_as (Ok heard) how did so went =
      going_so shard a d (OrFails shard how (Ok heard)) (OrFails shard did (Ok heard)) went (λ list start es now bt h. so heard list start es now h)
  line_as (Err fault) how did so went = went

  pub makes_line : (line : StepLine) (made : Made) (s t : Sitting) (r : Result Heard StepFault) → line ≡ lines.Make made → t.moment ≡ s.moment →
      Goes shard a d (OrFails shard (MakesAt shard s.moment made s.clients t.clients) r) → Goes shard a d (OrFails shard (Does shard heads line s t) r)
  makes_line line made s t r is same went =
      subst (λ (l : StepLine). Goes shard a d (OrFails shard (Does shard heads l s t) r)) (sym is)
      (line_as r (MakesAt shard s.moment made s.clients t.clients) (Does shard heads (lines.Make made) s t) (λ heard list start es now h. (h, same)) went)

  pub steps_line : (line : StepLine) (n polls : ℕ) (s t : Sitting) (r : Result Heard StepFault) → line ≡ lines.Step n polls → t.moment ≡ s.moment →
      Goes shard a d (OrFails shard (StepsAt n polls s.clients t.clients) r) → Goes shard a d (OrFails shard (Does shard heads line s t) r)
  steps_line line n polls s t r is same went =
      subst (λ (l : StepLine). Goes shard a d (OrFails shard (Does shard heads l s t) r)) (sym is)
      (line_as r (StepsAt n polls s.clients t.clients) (Does shard heads (lines.Step n polls) s t) (λ heard list start es now h. (h, same)) went)

  pub head_line : (line : StepLine) (s t : Sitting) (r : Result Heard StepFault) → line ≡ lines.Head → t ≡ s →
      Goes shard a d (OrFails shard (λ heard list start es now. Heads shard heads heard start es now) r) →
      Goes shard a d (OrFails shard (Does shard heads line s t) r)
  head_line line s t r is same went =
      subst (λ (l : StepLine). Goes shard a d (OrFails shard (Does shard heads l s t) r)) (sym is)
      (line_as r (λ heard list start es now. Heads shard heads heard start es now) (Does shard heads lines.Head s t) (λ heard list start es now h. (h, same)) went)

module _ (shard : ShardId) (heads : ℕ) (a : Option History) where
  -- a line that calls nothing
  still : (line l : StepLine) (s t : Sitting) (heard : Heard) → line ≡ l →
      ((list : List Update) (start : Stored) (es : List Entry) → Does shard heads l s t heard list start es es) →
      Goes shard a a (OrFails shard (Does shard heads line s t) (Ok heard))
  still line l s t heard is did =
      subst (λ (k : StepLine). Goes shard a a (OrFails shard (Does shard heads k s t) (Ok heard))) (sym is)
      (no_going shard a (OrFails shard (Does shard heads l s t) (Ok heard)) did)

  pub moment_line : (line : StepLine) (to : ℕ) (s t : Sitting) → line ≡ lines.Moment to → t ≡ record { clients = s.clients; moment = to } →
      Goes shard a a (OrFails shard (Does shard heads line s t) (Ok hears.Nothing))
  moment_line line to s t is moved = still line (lines.Moment to) s t hears.Nothing is (λ list start es. (moved, refl, refl))

  pub stop_line : (line : StepLine) (n : ℕ) (s : Sitting) → line ≡ lines.Stop n → Goes shard a a (OrFails shard (Does shard heads line s s) (Ok hears.Nothing))
  stop_line line n s is = still line (lines.Stop n) s s hears.Nothing is (λ list start es. (refl, refl, refl))

  pub begins_line : (line : StepLine) (n : ℕ) (what : Command) (s t : Sitting) (r : Result Heard StepFault) → line ≡ lines.Begin n what →
      t.moment ≡ s.moment → IfOk r (BeginsAt s.moment n what s.clients t.clients) → FailsForMemory r →
      Goes shard a a (OrFails shard (Does shard heads line s t) r)
  begins_line line n what s t (Ok heard) is same begins fails =
      still line (lines.Begin n what) s t heard is (λ list start es. (begins, same, refl))
  begins_line line n what s t (Err fault) is same begins fails =
      subst (λ (f : StepFault). Goes shard a a (λ list start es now. FailedBy shard f start es now)) (sym fails)
      (no_going shard a (λ list start es now. FailedBy shard faults.Memory start es now) (λ list start es. tt))
