-- What a command's words and its ending say together.
use Rattle.std.proofs.Common.{◌≡◌, ℕ, ◌⊎◌, inl, inr, Option, Some, None, List, [], refl, sym, subst}
use Rattle.std.proofs.lemmas.List.{append-nil}
use Rattle.store_core.specs.declared.shards.ShardId.{ShardId}
use Rattle.store_core.specs.declared.entries.Entry.{Entry}
use Rattle.store_core.specs.Stores.{Stored}
use Rattle.store_core.specs.Histories.{History}
use Rattle.update_core.specs.declared.updates.Update.{Update}
use Rattle.feed_text.specs.Replies.{line_fault_text}
use Rattle.feed_text.specs.Streams.{Gains}
use Rattle.driving.specs.Goings.{Goes}
use Rattle.driving.specs.StoreTurns.{Extends}
use Rattle.command_words.specs.declared.commands.CommandWords.{CommandWords}
use Rattle.command_words.specs.declared.commands.CommandWords.TheVariants as commands
use Rattle.command_words.specs.Commands.{IsCommand}
use Rattle.command_words.proofs.OneMeaning.{one_meaning}
use Rattle.plain_run.specs.declared.endings.Ending.{Ending}
use Rattle.plain_run.specs.declared.endings.Ending.TheVariants as endings
use Rattle.causes.specs.Causes.{Rose}
use Rattle.plain_run.specs.Endings.{EndsRun, FoundFull, ReadsFeed, RunsPlainly, Spares as SparesRun}
use Rattle.step_run.specs.declared.endings.Ending.{Ending as StepsEnding}
use Rattle.step_run.specs.declared.endings.Ending.TheVariants as steps
use Rattle.step_run.specs.Endings.{EndsSteps, RunsSteps, Spares as SparesSteps}
use Rattle.persist_app.specs.declared.served.Served.{Served}
use Rattle.persist_app.specs.declared.served.Served.TheVariants as kinds
use Rattle.persist_app.specs.Endings.{Finishes, HasCommand, IsRun, IsServed, IsSteps, NoCommand, Performs, RefusesLine, RefusesStep}
use Rattle.persist_app.specs.Endings.{RunsOn, Says, Serves, Spares, ending_of}

module _ (words : List (List ℕ)) (ending : Option Ending) (told told_now : Option History) (left now : Option (List ℕ)) (reads reads_now : ℕ)
    (taken between : Option (List ℕ)) (puts puts_now : ℕ)
    (performed : Performs words ending told told_now left now reads reads_now taken between puts puts_now) where
  -- what an ending says
  pub performed_as : (e : Option Ending) → ending ≡ e → Performs words e told told_now left now reads reads_now taken between puts puts_now
  performed_as e is =
      subst (λ (x : Option Ending). Performs words x told told_now left now reads reads_now taken between puts puts_now) is performed

  -- all is written, and no last line
  pub completed : (taken_now : Option (List ℕ)) → ending ≡ Some endings.Complete → taken_now ≡ between →
      Serves words (λ shard. RunsPlainly shard told told_now left now taken taken_now)
      (λ shard. RunsSteps shard told told_now left now taken taken_now)
  completed taken_now is same = elim (performed_as (Some endings.Complete) is) [
    | inl done ↦ inl (done.0, done.1, subst (λ (t : Option (List ℕ)). RunsPlainly done.0 told told_now left now taken t) (sym same) done.2)
    | inr done ↦ inr (done.0, done.1, subst (λ (t : Option (List ℕ)). RunsSteps done.0 told told_now left now taken t) (sym same) done.2)
  ]

  -- the line at fault is named
  pub line_refused : (taken_now : Option (List ℕ)) (number : ℕ) → ending ≡ Some (endings.BadLine number) →
      Gains between taken_now (line_fault_text number) →
      Serves words (λ shard. RefusesLine left taken taken_now) (λ shard. RefusesStep left taken taken_now)
  line_refused taken_now number is written = elim (performed_as (Some (endings.BadLine number)) is) [
    | inl stopped ↦ inl (
      stopped.0,
      stopped.1,
      record {
        text = stopped.2.0;
        had = stopped.2.1;
        number = number;
        fault = stopped.2.2;
        written = subst (λ (t : Option (List ℕ)). Gains t taken_now (line_fault_text number)) stopped.2.3 written;
      },
    )
    | inr stopped ↦ inr (
      stopped.0,
      stopped.1,
      record {
        text = stopped.2.0;
        had = stopped.2.1;
        number = number;
        fault = stopped.2.2;
        written = subst (λ (t : Option (List ℕ)). Gains t taken_now (line_fault_text number)) stopped.2.3 written;
      },
    )
  ]

  -- a read failed, and the last line is written
  pub input_failed : (taken_now : Option (List ℕ)) (text : List ℕ) → ending ≡ Some endings.InputFailed → Gains between taken_now text →
      HasCommand words × Rose reads reads_now × Gains taken taken_now text
  input_failed taken_now text is written = elim (performed_as (Some endings.InputFailed) is) [
    | inl stopped ↦ ((stopped.0, inl stopped.1), stopped.2.0, subst (λ (t : Option (List ℕ)). Gains t taken_now text) stopped.2.1 written)
    | inr stopped ↦ ((stopped.0, inr stopped.1), stopped.2.0, subst (λ (t : Option (List ℕ)). Gains t taken_now text) stopped.2.1 written)
  ]

  -- no schedule finds the shard full
  pub found_full : ending ≡ Some endings.MembersFull → RunsOn words (λ shard. ReadsFeed left now × FoundFull shard told told_now)
  found_full is = elim (performed_as (Some endings.MembersFull) is) [
    | inl full ↦ full
    | inr none ↦ absurd none.2
  ]

-- what has become of `run`
pub performs_run : (words : List (List ℕ)) (shard : ShardId) (ending : Ending) (told told_now : Option History)
    (left now : Option (List ℕ)) (reads reads_now : ℕ) (taken taken_now : Option (List ℕ)) (puts puts_now : ℕ) → IsRun words shard →
    EndsRun shard ending told told_now left now reads reads_now taken taken_now puts puts_now →
    Performs words (Some ending) told told_now left now reads reads_now taken taken_now puts puts_now
performs_run words shard endings.Complete told told_now left now reads reads_now taken taken_now puts puts_now is x = inl (shard, is, x)
performs_run words shard (endings.BadLine n) told told_now left now reads reads_now taken taken_now puts puts_now is x = inl (shard, is, x)
performs_run words shard endings.InputFailed told told_now left now reads reads_now taken taken_now puts puts_now is x = inl (shard, is, x)
performs_run words shard endings.OutputFailed told told_now left now reads reads_now taken taken_now puts puts_now is x = inl (shard, is, x)
performs_run words shard endings.StoreFailed told told_now left now reads reads_now taken taken_now puts puts_now is x = inl (shard, is, x)
performs_run words shard endings.Memory told told_now left now reads reads_now taken taken_now puts puts_now is x = tt
performs_run words shard endings.Damaged told told_now left now reads reads_now taken taken_now puts puts_now is x = inl (shard, is, x)
performs_run words shard endings.MembersFull told told_now left now reads reads_now taken taken_now puts puts_now is x = inl (shard, is, x)
performs_run words shard endings.Spent told told_now left now reads reads_now taken taken_now puts puts_now is x = inl (shard, is, x)

-- what has become of `steps`
pub performs_steps : (words : List (List ℕ)) (shard : ShardId) (ending : StepsEnding) (told told_now : Option History)
    (left now : Option (List ℕ)) (reads reads_now : ℕ) (taken taken_now : Option (List ℕ)) (puts puts_now : ℕ) → IsSteps words shard →
    EndsSteps shard ending told told_now left now reads reads_now taken taken_now puts puts_now →
    Performs words (Some (ending_of ending)) told told_now left now reads reads_now taken taken_now puts puts_now
performs_steps words shard steps.Complete told told_now left now reads reads_now taken taken_now puts puts_now is x = inr (shard, is, x)
performs_steps words shard (steps.BadLine n) told told_now left now reads reads_now taken taken_now puts puts_now is x = inr (shard, is, x)
performs_steps words shard steps.InputFailed told told_now left now reads reads_now taken taken_now puts puts_now is x = inr (shard, is, x)
performs_steps words shard steps.OutputFailed told told_now left now reads reads_now taken taken_now puts puts_now is x = inr (shard, is, x)
performs_steps words shard steps.StoreFailed told told_now left now reads reads_now taken taken_now puts puts_now is x = inr (shard, is, x)
performs_steps words shard steps.Memory told told_now left now reads reads_now taken taken_now puts puts_now is x = tt
performs_steps words shard steps.Damaged told told_now left now reads reads_now taken taken_now puts puts_now is x = inr (shard, is, x)
performs_steps words shard steps.Spent told told_now left now reads reads_now taken taken_now puts puts_now is x = inr (shard, is, x)

-- what a schedule's ending spares
pub spares_steps : {S : Type 0} → (ending : StepsEnding) (store now : S) → SparesSteps ending store now → SparesRun (ending_of ending) store now
spares_steps steps.Complete store now x = tt
spares_steps (steps.BadLine n) store now x = x
spares_steps steps.InputFailed store now x = x
spares_steps steps.OutputFailed store now x = tt
spares_steps steps.StoreFailed store now x = tt
spares_steps steps.Memory store now x = tt
spares_steps steps.Damaged store now x = tt
spares_steps steps.Spent store now x = tt

-- a schedule ends for a failed call where the command does
pub fails_steps : (ending : StepsEnding) → Some (ending_of ending) ≡ Some endings.StoreFailed → ending ≡ steps.StoreFailed
fails_steps steps.Complete is = absurd cc
fails_steps (steps.BadLine n) is = absurd cc
fails_steps steps.InputFailed is = absurd cc
fails_steps steps.OutputFailed is = absurd cc
fails_steps steps.StoreFailed is = refl
fails_steps steps.Memory is = absurd cc
fails_steps steps.Damaged is = absurd cc
fails_steps steps.Spent is = absurd cc

-- the shard of a command
abbrev pub shard_of : Served → ShardId
shard_of (kinds.Run shard) = shard
shard_of (kinds.Steps shard) = shard

-- words of a command are of no other shard
pub same_shard : (words : List (List ℕ)) (own : Served) (shard : ShardId) → Says words own → IsServed words shard → shard_of own ≡ shard
same_shard words (kinds.Run a) b x (inl y) =
    let e : commands.Run a.0 ≡ commands.Run b.0 = one_meaning words (commands.Run a.0) (commands.Run b.0) x y in
    let same : a.0 ≡ b.0 = cc in λ i. record { 0 = same i }
same_shard words (kinds.Run a) b x (inr y) =
    let e : commands.Run a.0 ≡ commands.Steps b.0 = one_meaning words (commands.Run a.0) (commands.Steps b.0) x y in absurd cc
same_shard words (kinds.Steps a) b x (inl y) =
    let e : commands.Steps a.0 ≡ commands.Run b.0 = one_meaning words (commands.Steps a.0) (commands.Run b.0) x y in absurd cc
same_shard words (kinds.Steps a) b x (inr y) =
    let e : commands.Steps a.0 ≡ commands.Steps b.0 = one_meaning words (commands.Steps a.0) (commands.Steps b.0) x y in
    let same : a.0 ≡ b.0 = cc in λ i. record { 0 = same i }

-- words of another command are none that is served
pub reclocks_are_none : (words : List (List ℕ)) (remap other operators : ℕ) → IsCommand words (commands.Reclock remap other operators) →
    NoCommand words
reclocks_are_none words remap other operators x shard (inl y) =
    let e : commands.Reclock remap other operators ≡ commands.Run shard.0 =
    one_meaning words (commands.Reclock remap other operators) (commands.Run shard.0) x y in absurd cc
reclocks_are_none words remap other operators x shard (inr y) =
    let e : commands.Reclock remap other operators ≡ commands.Steps shard.0 =
    one_meaning words (commands.Reclock remap other operators) (commands.Steps shard.0) x y in absurd cc

-- words without a meaning are none
pub without_meaning : (words : List (List ℕ)) → ((c : CommandWords) → IsCommand words c → ⊥) → NoCommand words
without_meaning words none shard (inl y) = none (commands.Run shard.0) y
without_meaning words none shard (inr y) = none (commands.Steps shard.0) y

-- nothing was called
pub extends_none : (a : Option History) → Extends a a
extends_none None = refl
extends_none (Some h) = (h, refl, record { start = refl; more = []; trail = sym (append-nil h.trail) })

-- what has become of a store has grown
pub goes_extends : (shard : ShardId) (how : List Update → Stored → List Entry → List Entry → Type 0) (a b : Option History) →
    Goes shard a b how → Extends a b
goes_extends shard how None b went = went
goes_extends shard how (Some h) b went = (went.0, went.1, went.2)

-- where nothing was executed, the store is as it was
pub spared : {S : Type 0} → (ending : Option Ending) (status : ℕ) (taken taken_now : Option (List ℕ)) (faults faults_now : ℕ)
    (store now : S) → Finishes ending status taken taken_now faults faults_now → Spares ending store now →
    (status ≡ 2) ⊎ ((status ≡ 3) ⊎ (status ≡ 4)) → now ≡ store
spared ending status taken taken_now faults faults_now store now f s (inl two) =
    subst (λ (e : Option Ending). Spares e store now) (f.no_command two).0 s
spared ending status taken taken_now faults faults_now store now f s (inr (inl three)) =
    subst (λ (e : Option Ending). Spares e store now) (f.line three).1 s
spared ending status taken taken_now faults faults_now store now f s (inr (inr four)) =
    subst (λ (e : Option Ending). Spares e store now) (f.input four).0 s
