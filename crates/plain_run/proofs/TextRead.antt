-- What was read of a source's text tells what the whole text is.
use Rattle.std.proofs.Common.{◌≡◌, ℕ, ◌+◌, ◌<◌, ◌≤◌, Option, Some, None, List, [], ◌++◌, length, take, refl, sym, ap, subst, ◌∙◌, arith}
use Rattle.std.proofs.Common.{⊎_elim}
use Rattle.std.proofs.lemmas.Bool.{cases_lt}
use Rattle.std.proofs.lemmas.List.{append-nil, take_at}
use Rattle.feed_text.specs.declared.limits.TheConstants.{MAX_BYTES}
use Rattle.feed_text.specs.declared.feed_lines.FeedLine.{FeedLine}
use Rattle.feed_text.specs.Grammar.{IsFirstFault, Spells}
use Rattle.feed_text.specs.Streams.{Left, AtEnd, TakesAll}
use Rattle.plain_run.specs.declared.endings.Ending.{Ending}
use Rattle.plain_run.specs.declared.endings.Ending.TheVariants as endings
use Rattle.store_core.specs.declared.shards.ShardId.{ShardId}
use Rattle.store_core.specs.Histories.{History}
use Rattle.plain_run.specs.Endings.{AnswersText, EndsRun, ReadsFeed}
use Rattle.feed_text.proofs.Faults.{fault_in_front}

-- what was read to its end is the whole text
pub all_had : (bound : ℕ) (left now : Option (List ℕ)) (text : List ℕ) → TakesAll bound left now text → length text < bound → Left left text
all_had bound None now text took short = tt
all_had bound (Some whole) now text took short =
    let rest = took.taken.0 in
    let none : rest ≡ [] = subst AtEnd took.taken.2 (took.end short) in
    took.taken.1 ∙ ap (λ r. text ++ r) none ∙ append-nil text

-- a fault in what was read is a fault in the whole text
pub fault_had : (left now : Option (List ℕ)) (text : List ℕ) (number : ℕ) → TakesAll (MAX_BYTES + 1) left now text
    → IsFirstFault text number → (whole : List ℕ) × Left left whole × IsFirstFault whole number
fault_had None now text number took fault = (text, tt, fault)
fault_had (Some whole) now text number took fault =
    ⊎_elim (λ (short : length text < MAX_BYTES + 1). (text, all_had (MAX_BYTES + 1) (Some whole) now text took short, fault)) (λ
    (long : MAX_BYTES + 1 ≤ length text).
    let full : length text ≡ MAX_BYTES + 1 = omega (arith, took.few) in
    let front : take (MAX_BYTES + 1) whole ≡ text = ap (take (MAX_BYTES + 1)) took.taken.1 ∙ take_at text took.taken.0
    (MAX_BYTES + 1) full in
    (whole, refl, fault_in_front whole number (subst (λ t. IsFirstFault t number) (sym front) fault))) (cases_lt (length text)
    (MAX_BYTES + 1))

-- a text that spells a feed is short, so it was read to its end
feed_read : (left now : Option (List ℕ)) (text : List ℕ) (feed : List FeedLine) → TakesAll (MAX_BYTES + 1) left now text
    → Spells feed text → ReadsFeed left now
feed_read left now text feed took spells =
    let short : length text < MAX_BYTES + 1 = omega (arith, spells.few) in
    record { text = text; had = all_had (MAX_BYTES + 1) left now text took short; end = took.end short; feed = feed; spells = spells }

-- what a run comes to is told by what has become of the text that was read
pub run_from_text : (shard : ShardId) (ending : Ending) (told told_now : Option History) (left now : Option (List ℕ)) (text : List ℕ)
    (taken taken_now : Option (List ℕ)) (reads reads_now puts puts_now : ℕ)
    → TakesAll (MAX_BYTES + 1) left now text → AnswersText shard ending told told_now text taken taken_now puts puts_now
    → EndsRun shard ending told told_now left now reads reads_now taken taken_now puts puts_now
run_from_text shard endings.Complete told told_now left now text taken taken_now reads reads_now puts puts_now took answered =
    let short : length text < MAX_BYTES + 1 = omega (arith, answered.1.few) in
    record {
      read = record {
        text = text;
        had = all_had
            (MAX_BYTES + 1) left now text took short;
        end = took.end short;
        feed = answered.0;
        spells = answered.1;
      };
      written = answered.2;
    }
run_from_text shard (endings.BadLine number) told told_now left now text taken taken_now reads reads_now puts puts_now took answered =
    let whole = fault_had left now text number took answered.0 in (whole.0, whole.1, whole.2, answered.1)
run_from_text shard endings.InputFailed told told_now left now text taken taken_now reads reads_now puts puts_now took answered = absurd answered
run_from_text shard endings.OutputFailed told told_now left now text taken taken_now reads reads_now puts puts_now took answered = answered
run_from_text shard endings.StoreFailed told told_now left now text taken taken_now reads reads_now puts puts_now took answered = feed_read left now text answered.0 took answered.1
run_from_text shard endings.Memory told told_now left now text taken taken_now reads reads_now puts puts_now took answered = tt
run_from_text shard endings.Damaged told told_now left now text taken taken_now reads reads_now puts puts_now took answered =
    (feed_read left now text answered.0.0 took answered.0.1, answered.1)
run_from_text shard endings.MembersFull told told_now left now text taken taken_now reads reads_now puts puts_now took answered =
    (feed_read left now text answered.0.0 took answered.0.1, answered.1)
run_from_text shard endings.Spent told told_now left now text taken taken_now reads reads_now puts puts_now took answered =
    (feed_read left now text answered.0.0 took answered.0.1, answered.1)
