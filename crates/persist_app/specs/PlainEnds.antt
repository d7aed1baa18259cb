-- How a plain command ends, in one record: what each status says, and what stays.
use Rattle.std.specs.Prelude.{◌≡◌, ◌⊎◌, ℕ, ◌+◌, Option, List}
use Rattle.causes.specs.Causes.{Rose}
use Rattle.feed_text.specs.declared.limits.TheConstants.{MAX_BYTES}
use Rattle.feed_text.specs.Streams.{Gains, ReadsUpTo}
use Rattle.store_core.specs.Histories.{History}
use Rattle.driving.specs.StoreTurns.{Extends, StoreFailed}
use Rattle.store_core.specs.declared.shards.ShardId.{ShardId}
use Rattle.plain_run.specs.Endings.{ReadsFeed, RunsPlainly, NoCollection, FoundFull, FoundSpent, StaysLawful}
use Rattle.step_run.specs.Endings.{ReadsSchedule, RunsSteps}
use Rattle.persist_app.specs.Endings.{HasCommand, IsServed, IsStatus, NoCommand, RefusesLine, RefusesStep, RunsOn, Serves}
use Rattle.persist_app.specs.Endings.{words_text, input_failed_text}

-- What has become of a store's history and its count of faults, of a source's bytes and its counts of reads and faults, and of a
-- sink's bytes and its count of faults, where a command of these words ended with this status.
pub record EndsPlainly (words : List (List ℕ)) (status : ℕ) (told told_now : Option History) (failed failed_now : ℕ)
    (left left_now : Option (List ℕ)) (reads reads_now faults faults_now : ℕ) (taken taken_now : Option (List ℕ)) (puts puts_now : ℕ)
    : Type 0 where
  pub statuses : IsStatus status
  pub complete : status ≡ 0 → Serves words (λ shard. RunsPlainly shard told told_now left left_now taken taken_now)
      (λ shard. RunsSteps shard told told_now left left_now taken taken_now)
  pub no_command : status ≡ 2 → NoCommand words × Gains taken taken_now words_text
  pub line : status ≡ 3 → Serves words (λ shard. RefusesLine left taken taken_now) (λ shard. RefusesStep left taken taken_now)
  pub input : status ≡ 4 → HasCommand words × Rose faults faults_now × Gains taken taken_now input_failed_text
  pub output : status ≡ 5 → Rose puts puts_now
  pub store_failed : status ≡ 6 →
      Serves words (λ shard. ReadsFeed left left_now) (λ shard. ReadsSchedule left left_now) × StoreFailed told_now failed failed_now
  pub damaged : status ≡ 9 → Serves words (λ shard. ReadsFeed left left_now × NoCollection shard told told_now)
      (λ shard. ReadsSchedule left left_now × NoCollection shard told told_now)
  pub members_full : status ≡ 10 → RunsOn words (λ shard. ReadsFeed left left_now × FoundFull shard told told_now)
  pub spent : status ≡ 11 → Serves words (λ shard. ReadsFeed left left_now × FoundSpent shard told told_now)
      (λ shard. ReadsSchedule left left_now × FoundSpent shard told told_now)
  pub reading : ReadsUpTo (MAX_BYTES + 1) left left_now reads reads_now
  pub store : Extends told told_now
  pub lawful : (shard : ShardId) → IsServed words shard → StaysLawful shard told told_now
  pub idle : NoCommand words → (told_now ≡ told) × (left_now ≡ left)
  pub untouched : (status ≡ 2) ⊎ ((status ≡ 3) ⊎ (status ≡ 4)) → told_now ≡ told
