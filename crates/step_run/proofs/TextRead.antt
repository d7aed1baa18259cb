-- What was read of a source's text tells what the whole text is.
use Rattle.std.proofs.Common.{◌≡◌, inl, inr, ℕ, ◌+◌, ◌<◌, ◌≤◌, Option, Some, None, List, [], ◌++◌, length, take, refl, sym, ap, subst, ◌∙◌, arith, ⊎_elim, take-take}
use Rattle.std.specs.Prelude.{⊤}
use Rattle.std.proofs.lemmas.Bool.{cases_lt}
use Rattle.std.proofs.lemmas.List.{append-nil, length-take, take_at}
use Rattle.feed_text.specs.declared.limits.TheConstants.{MAX_BYTES}
use Rattle.feed_text.specs.Grammar.{lines_read}
use Rattle.feed_text.specs.Lines.{lines_of}
use Rattle.feed_text.specs.Streams.{Left, AtEnd, TakesAll}
use Rattle.store_core.specs.declared.shards.ShardId.{ShardId}
use Rattle.store_core.specs.declared.entries.Entry.{Entry}
use Rattle.store_core.specs.Histories.{History}
use Rattle.store_core.specs.Stores.{Stored}
use Rattle.update_core.specs.declared.updates.Update.{Update}
use Rattle.driving.specs.Goings.{Goes}
use Rattle.driving.proofs.GoingLaws.{going_so, no_going}
use Rattle.step_text.specs.declared.schedules.Schedule.{Schedule}
use Rattle.step_text.specs.Schedules.{EndsOpen, IsFirstFault, Leads, Spells, StopsAt, start}
use Rattle.step_run.specs.declared.endings.Ending.{Ending}
use Rattle.step_run.specs.declared.endings.Ending.TheVariants as endings
use Rattle.step_run.specs.Endings.{AnswersText, EndsSteps, ReadsSchedule, StaysLawful}

-- what was read to its end is the whole text
all_had : (bound : ℕ) (left now : Option (List ℕ)) (text : List ℕ) → TakesAll bound left now text → length text < bound → Left left text
all_had bound None now text took short = tt
all_had bound (Some whole) now text took short =
    let rest = took.taken.0 in
    let none : rest ≡ [] = subst AtEnd took.taken.2 (took.end short) in
    took.taken.1 ∙ ap (λ r. text ++ r) none ∙ append-nil text

-- a fault among the bytes that are looked at is one of the whole text
fault_in_front : (text : List ℕ) (n : ℕ) → IsFirstFault (take (MAX_BYTES + 1) text) n → IsFirstFault text n
fault_in_front text n h = ⊎_elim (λ stops. inl (subst (λ ls. StopsAt ls n) same stops)) (λ ends. inr (whole ends)) h
  where
    same : lines_read (take (MAX_BYTES + 1) text) ≡ lines_read text
    same = ap lines_of (take-take (MAX_BYTES + 1) (MAX_BYTES + 1) text (omega arith))

    long : MAX_BYTES < length (take (MAX_BYTES + 1) text) → MAX_BYTES < length text
    long h = let e = length-take (MAX_BYTES + 1) text in omega (arith, e, h)

    whole : EndsOpen (take (MAX_BYTES + 1) text) n → EndsOpen text n
    whole e = record {
      end = e.end;
      leads = subst (λ ls. Leads start ls e.end) same e.leads;
      last = e.last ∙ ap length same;
      open_or_long = ⊎_elim (λ o. inl o) (λ l. inr (long l)) e.open_or_long;
    }

-- a fault in what was read is a fault in the whole text
fault_had : (left now : Option (List ℕ)) (text : List ℕ) (number : ℕ) → TakesAll (MAX_BYTES + 1) left now text → IsFirstFault text number →
    (whole : List ℕ) × Left left whole × IsFirstFault whole number
fault_had None now text number took fault = (text, tt, fault)
fault_had (Some whole) now text number took fault =
    ⊎_elim (λ (short : length text < MAX_BYTES + 1). (text, all_had (MAX_BYTES + 1) (Some whole) now text took short, fault)) (λ
    (long : MAX_BYTES + 1 ≤ length text).
    let few = took.few in
    let full : length text ≡ MAX_BYTES + 1 = omega (arith, few, long) in
    let front : take (MAX_BYTES + 1) whole ≡ text = ap (take (MAX_BYTES + 1)) took.taken.1 ∙ take_at text took.taken.0
    (MAX_BYTES + 1) full in
    (whole, refl, fault_in_front whole number (subst (λ t. IsFirstFault t number) (sym front) fault))) (cases_lt (length text)
    (MAX_BYTES + 1))

-- a text that spells a schedule is short, so it was read to its end
schedule_read : (left now : Option (List ℕ)) (text : List ℕ) (schedule : Schedule) → TakesAll (MAX_BYTES + 1) left now text →
    Spells schedule text → ReadsSchedule left now
schedule_read left now text schedule took spells =
    let few = spells.few in
    let short : length text < MAX_BYTES + 1 = omega (arith, few) in record {
      text = text;
      had = all_had (MAX_BYTES + 1) left now text took short;
      end = took.end short;
      schedule = schedule;
      spells = spells;
    }

-- what a schedule comes to is told by what has become of the text that was read
pub steps_from_text : (shard : ShardId) (ending : Ending) (told told_now : Option History) (left now : Option (List ℕ)) (text : List ℕ)
    (taken taken_now : Option (List ℕ)) (reads reads_now puts puts_now : ℕ) → TakesAll (MAX_BYTES + 1) left now text →
    AnswersText shard ending told told_now text taken taken_now puts puts_now →
    EndsSteps shard ending told told_now left now reads reads_now taken taken_now puts puts_now
unfolding schedule_read
steps_from_text shard endings.Complete told told_now left now text taken taken_now reads reads_now puts puts_now took answered = record {
  read = schedule_read left now text answered.0 took answered.1;
  written = answered.2;
}
steps_from_text shard (endings.BadLine number) told told_now left now text taken taken_now reads reads_now puts puts_now took answered =
    let whole = fault_had left now text number took answered.0 in (whole.0, whole.1, whole.2, answered.1)
steps_from_text shard endings.InputFailed told told_now left now text taken taken_now reads reads_now puts puts_now took answered = absurd answered
steps_from_text shard endings.OutputFailed told told_now left now text taken taken_now reads reads_now puts puts_now took answered = answered
steps_from_text shard endings.StoreFailed told told_now left now text taken taken_now reads reads_now puts puts_now took answered =
    schedule_read left now text answered.0 took answered.1
steps_from_text shard endings.Memory told told_now left now text taken taken_now reads reads_now puts puts_now took answered = tt
steps_from_text shard endings.Damaged told told_now left now text taken taken_now reads reads_now puts puts_now took answered =
    (schedule_read left now text answered.0.0 took answered.0.1, answered.1)
steps_from_text shard endings.Spent told told_now left now text taken taken_now reads reads_now puts puts_now took answered =
    (schedule_read left now text answered.0.0 took answered.0.1, answered.1)

pub stays_lawful : (shard : ShardId) (a b : Option History) (how : List Update → Stored → List Entry → List Entry → Type 0) → Goes shard a b how →
    StaysLawful shard a b
stays_lawful shard a b how went = going_so shard a b how (λ list start es now. ⊤) went (λ list start es now bt h. tt)

pub rests_lawful : (shard : ShardId) (a : Option History) → StaysLawful shard a a
rests_lawful shard a = no_going shard a (λ list start es now. ⊤) (λ list start es. tt)
