-- How the command ends by what was written of its replies.
use Rattle.std.proofs.Common.{◌≡◌, ℕ, ◌+◌, Option, Result, Ok, Err, List, sym, subst, ⊎_elim}
use Rattle.store_core.specs.declared.shards.ShardId.{ShardId}
use Rattle.store_core.specs.Histories.{History}
use Rattle.feed_text.specs.declared.limits.TheConstants.{MAX_BYTES}
use Rattle.feed_text.specs.Streams.{Gains, TakesAll}
use Rattle.driving.specs.Goings.{Goes}
use Rattle.driving.proofs.GoingLaws.{going_so}
use Rattle.ingest_text.specs.declared.feeds.IngestFeed.{IngestFeed}
use Rattle.plain_run.specs.declared.endings.Ending.TheVariants as endings
use Rattle.ingest_run.specs.declared.faults.IngestFault.TheVariants as faults
use Rattle.ingest_run.specs.Ends.{Ingests}
use Rattle.ingest_command.specs.declared.endings.IngestEnding.{IngestEnding}
use Rattle.ingest_command.specs.declared.endings.IngestEnding.TheVariants as ends
use Rattle.ingest_command.specs.Endings.{Completes, EndsIngest, EndsShort, FeedGoes, FoundFull, FoundSpent, IsUnfit, Replies, Saying}
use Rattle.ingest_command.specs.Endings.{TakesFirst, TextGoes, Writes}
use Rattle.ingest_command.proofs.TextRead.{fault_had, feed_read}

module _ (shard : ShardId) (compactors : ℕ) (told told_now : Option History) (left now : Option (List ℕ)) (text : List ℕ)
    (took : TakesAll (MAX_BYTES + 1) left now text) (reads reads_now : ℕ) (taken taken_now : Option (List ℕ)) (puts puts_now : ℕ) where
  -- what is so of the text's feed is so of the feed that was read
  feed_goes : (how : Saying) → TextGoes shard text told told_now how → FeedGoes shard told told_now left now how
  feed_goes how (feed, spells, went) = record { read = feed_read left now text feed took spells; goes = went }

  completes : (feed : IngestFeed) (bytes : List ℕ) → Gains taken taken_now bytes → Goes shard told told_now (Ingests shard feed compactors (Ok bytes)) →
      Goes shard told told_now (Completes shard compactors taken taken_now feed)
  completes feed bytes gained went =
      going_so shard told told_now (Ingests shard feed compactors (Ok bytes)) (Completes shard compactors taken taken_now feed) went
      (λ list start es fs bt h view at. let all = h view at in record {
        written = subst (Gains taken taken_now) all.text_is gained;
        takes = all.takes;
        settled = all.settled;
      })

  abbrev Ends : IngestEnding → Type 0
  Ends ending = EndsIngest shard compactors ending told told_now left now reads reads_now taken taken_now puts puts_now

  by_fault : (ending : IngestEnding) → Replies shard compactors text (Err ending) told told_now → taken_now ≡ taken → Ends ending
  by_fault (ends.AsRun endings.Complete) r same = absurd r
  by_fault (ends.AsRun (endings.BadLine number)) r same = (fault_had left now text number took r, same)
  by_fault (ends.AsRun endings.InputFailed) r same = absurd r
  by_fault (ends.AsRun endings.OutputFailed) r same = absurd r
  by_fault (ends.AsRun endings.StoreFailed) (feed, spells, failed) same = ((feed_read left now text feed took spells, failed), same)
  by_fault (ends.AsRun endings.Memory) r same = same
  by_fault (ends.AsRun endings.Damaged) r same = (feed_goes (TakesFirst shard) r, same)
  by_fault (ends.AsRun endings.MembersFull) r same = (feed_goes (FoundFull shard) r, same)
  by_fault (ends.AsRun endings.Spent) r same = (feed_goes (FoundSpent shard) r, same)
  by_fault (ends.Upper upper) r same = (feed_goes (EndsShort shard upper) r, same)
  by_fault (ends.Misfit upper) r same = (feed_goes (IsUnfit shard (faults.Misfit upper)) r, same)
  by_fault (ends.Heavy weight) r same = (feed_goes (IsUnfit shard (faults.Heavy weight)) r, same)

  -- what the command comes to is told by its replies and by what was written of them
  pub ends_from : (reply : Result (List ℕ) IngestEnding) (ending : IngestEnding) → Replies shard compactors text reply told told_now →
      Writes reply ending taken taken_now puts puts_now → Ends ending
  ends_from (Ok bytes) ending (feed, spells, went) wrote = ⊎_elim
      (λ all. subst Ends (sym all.0) (record { read = feed_read left now text feed took spells; goes = completes feed bytes all.1 went }))
      (λ failed. subst Ends (sym failed.0) failed.1) wrote
  ends_from (Err fault) ending r (is, same) = subst Ends (sym is) (by_fault fault r same)
