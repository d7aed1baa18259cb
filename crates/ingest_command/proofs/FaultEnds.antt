-- How the command ends by what has become of an ingest.
use Rattle.std.proofs.Common.{◌≡◌, ℕ, inl, inr, Option, IfSome, Result, Ok, Err, List, refl, sym, ap, subst, ◌∙◌}
use Rattle.update_core.specs.declared.updates.Update.{Update}
use Rattle.store_core.specs.declared.shards.ShardId.{ShardId}
use Rattle.store_core.specs.declared.entries.Entry.{Entry}
use Rattle.store_core.specs.Stores.{Stored}
use Rattle.store_core.specs.Histories.{History}
use Rattle.driving.specs.Goings.{Goes}
use Rattle.driving.specs.StoreTurns.{EndsInFailure}
use Rattle.driving.proofs.GoingLaws.{going_so}
use Rattle.ingest_text.specs.declared.feeds.IngestFeed.{IngestFeed}
use Rattle.ingest_text.specs.Feeds.{Spells}
use Rattle.plain_run.specs.declared.session_faults.SessionFault.TheVariants as sessions
use Rattle.ingest_run.specs.declared.faults.IngestFault.{IngestFault}
use Rattle.ingest_run.specs.declared.faults.IngestFault.TheVariants as faults
use Rattle.ingest_run.specs.declared.sizes.CrewSize.{CrewSize}
use Rattle.ingest_run.specs.Ends.{Ingests, texts}
use Rattle.ingest_run.specs.Halts.{HaltsShort}
use Rattle.ingest_command.specs.declared.endings.IngestEnding.{IngestEnding}
use Rattle.ingest_command.specs.Endings.{FoundFull, FoundSpent, IsTold, IsToldReply, Replies, Writes, Saying, TakesFirst}
use Rattle.ingest_command.specs.Faults.{ending_of}

module _ (shard : ShardId) (compactors : ℕ) (text : List ℕ) (feed : IngestFeed) (spells : Spells feed text) (told now : Option History) where
  -- where it ended by this fault, this holds
  goes_on : (fault : IngestFault) (how : Saying) →
      ((list : List Update) (start : Stored) (es fs : List Entry) → Ingests shard feed compactors (Err fault) list start es fs →
      how feed list start es fs) → Goes shard told now (Ingests shard feed compactors (Err fault)) → Goes shard told now (how feed)
  goes_on fault how so went =
      going_so shard told now (Ingests shard feed compactors (Err fault)) (how feed) went (λ list start es fs bt h. so list start es fs h)

  -- a fault ends the command so
  pub ends_by : (fault : IngestFault) → Goes shard told now (Ingests shard feed compactors (Err fault)) →
      (fault ≡ faults.Outside sessions.Store → IfSome now EndsInFailure) → Replies shard compactors text (Err (ending_of fault)) told now
  ends_by (faults.Outside sessions.Memory) went failed = tt
  ends_by (faults.Outside sessions.Store) went failed = (feed, spells, failed refl)
  ends_by (faults.Outside sessions.Damaged) went failed =
      (feed, spells, goes_on (faults.Outside sessions.Damaged) (TakesFirst shard) (λ list start es fs h. absurd h) went)
  ends_by (faults.Outside sessions.MembersFull) went failed =
      (feed, spells, goes_on (faults.Outside sessions.MembersFull) (FoundFull shard) (λ list start es fs h. inl h) went)
  ends_by (faults.Outside sessions.Spent) went failed =
      (feed, spells, goes_on (faults.Outside sessions.Spent) (FoundSpent shard) (λ list start es fs h. inl h) went)
  ends_by faults.Memory went failed = tt
  ends_by faults.Damaged went failed = (feed, spells, went)
  ends_by faults.Spent went failed = (feed, spells, goes_on faults.Spent (FoundSpent shard) (λ list start es fs h. inr h) went)
  ends_by faults.MembersFull went failed = (feed, spells, goes_on faults.MembersFull (FoundFull shard) (λ list start es fs h. inr h) went)
  ends_by (faults.Upper upper) went failed = (feed, spells, went)
  ends_by (faults.Misfit upper) went failed = (feed, spells, went)
  ends_by (faults.Heavy weight) went failed = (feed, spells, went)

  -- the replies, where there are some
  pub replies_are : {V : Type 0} → (items : V → List ℕ) (reply : Result V IngestFault) (v : V) → reply ≡ Ok v →
      Goes shard told now (Ingests shard feed compactors (texts reply items)) → Replies shard compactors text (Ok (items v)) told now
  replies_are {V} items reply v is went = (
    feed,
    spells,
    subst (λ (r : Result V IngestFault). Goes shard told now (Ingests shard feed compactors (texts r items))) is went,
  )

  -- or how the command ends instead
  pub ending_is : {V : Type 0} → (items : V → List ℕ) (reply : Result V IngestFault) (fault : IngestFault) (ending : IngestEnding) →
      reply ≡ Err fault → ending ≡ ending_of fault → Goes shard told now (Ingests shard feed compactors (texts reply items)) →
      (reply ≡ Err (faults.Outside sessions.Store) → IfSome now EndsInFailure) → Replies shard compactors text (Err ending) told now
  ending_is {V} items reply fault ending is ends went failed =
      subst (λ (e : IngestEnding). Replies shard compactors text (Err e) told now) (sym ends)
      (ends_by fault (subst (λ (r : Result V IngestFault). Goes shard told now (Ingests shard feed compactors (texts r items))) is went)
      (λ same. failed (is ∙ ap (λ (f : IngestFault). Err f) same)))

-- ---- an upper

abbrev the_fault : IngestFault → Result Unit IngestFault
the_fault fault = Err fault

err_of : (e f : IngestFault) → the_fault e ≡ the_fault f → e ≡ f
err_of e f h = cc

module _ (size : CrewSize) (told now : Option History) where
  halted_by : (fault : IngestFault) → HaltsShort size.writers size.stops (the_fault fault) told now → IsTold size (ending_of fault) told now
  halted_by (faults.Outside sessions.Memory) short = tt
  halted_by (faults.Outside sessions.Store) short = tt
  halted_by (faults.Outside sessions.Damaged) short = tt
  halted_by (faults.Outside sessions.MembersFull) short = tt
  halted_by (faults.Outside sessions.Spent) short = tt
  halted_by faults.Memory short = tt
  halted_by faults.Damaged short = tt
  halted_by faults.Spent short = tt
  halted_by faults.MembersFull short = tt
  halted_by (faults.Upper upper) short = short upper refl
  halted_by (faults.Misfit upper) short = tt
  halted_by (faults.Heavy weight) short = tt

  -- is told only where each writer was halted
  pub told_halted : {V : Type 0} → (reply : Result V IngestFault) (fault : IngestFault) (ending : IngestEnding) → reply ≡ Err fault →
      ending ≡ ending_of fault → HaltsShort size.writers size.stops reply told now → IsTold size ending told now
  told_halted {V} reply fault ending is ends short =
      subst (λ (e : IngestEnding). IsTold size e told now) (sym ends)
      (halted_by fault (λ upper same. short upper (is ∙ ap (λ (f : IngestFault). Err f) (err_of fault (faults.Upper upper) same))))

  abbrev Tells : IngestEnding → Type 0
  Tells ending = IsTold size ending told now

  -- and what is written of the replies tells no other
  pub told_in_end : {V : Type 0} → (reply : Result V IngestEnding) (ending : IngestEnding) (bytes : V → List ℕ)
      (taken taken_now : Option (List ℕ)) (puts puts_now : ℕ) → Writes (texts reply bytes) ending taken taken_now puts puts_now →
      IsToldReply size reply told now → Tells ending
  told_in_end (Ok text) ending bytes taken taken_now puts puts_now (inl (is, more)) r = subst Tells (sym is) tt
  told_in_end (Ok text) ending bytes taken taken_now puts puts_now (inr (is, more)) r = subst Tells (sym is) tt
  told_in_end (Err fault) ending bytes taken taken_now puts puts_now (is, more) r = subst Tells (sym is) r
