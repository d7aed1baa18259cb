-- What an operator knows is right, over the accepted updates of its remap shard.
use Rattle.std.specs.Prelude.{◌≡◌, ◌≢◌, ℕ, ◌<◌, ◌≤◌, ◌+ℤ◌, pos, max, true, false, None, Some, Option, List, ◌++◌}
use Rattle.std.specs.List.{AllByRecursion}
use Rattle.std.specs.Ordering.{is_gt}
use Rattle.update_core.specs.declared.rows.Row.{Row}
use Rattle.update_core.specs.declared.updates.Update.{Update}
use Rattle.update_core.specs.Frontiers.{after, covers, frontier_cmp}
use Rattle.update_core.specs.Updates.{OutOf, moved, slice_of, sum_of}
use Rattle.update_core.specs.Limits.{most}
use Rattle.history_core.specs.declared.read_answers.ReadAnswer.TheVariants as reads
use Rattle.remap_core.specs.declared.source_rows.SourceRow.{SourceRow}
use Rattle.remap_core.specs.Offsets.{offset, unset}
use Rattle.remap_core.specs.Extending.{last_time, reached, rows_at, with_rows}
use Rattle.remap_core.specs.Reclocking.{reclocked}
use Rattle.remap_core.specs.RemapShards.{IsBindingsOf, NeverFalls, change_at, offset_of, partition_sum}
use Rattle.write_client.specs.declared.writers.Writer.{Writer}
use Rattle.write_client.specs.Beginning.{range_fault}
use Rattle.reclock_client.specs.declared.courses.Course.{Course}
use Rattle.reclock_client.specs.declared.intakes.Intake.TheVariants as intakes
use Rattle.reclock_client.specs.Commands.{after_listen, after_snapshot}
use Rattle.reclock_client.specs.Minting.{rises}
use Rattle.reclock_client.specs.Reading.{foreign_time, in_time, left}

-- the bindings with the rows that were read and are still to be bound
abbrev pub known : Course → List (ℕ × List ℕ)
known c = with_rows c.bindings (left c.since c.intake)

-- what is known of a remap shard: from which since on, the bindings, and up to which frontier
pub record Knowledge : Type 0 where
  pub since : ℕ
  pub bindings : List (ℕ × List ℕ)
  pub synced : Option ℕ

abbrev pub knowledge : Course → Knowledge
knowledge c = record { since = c.since; bindings = known c; synced = c.synced }

-- these are the bindings of the updates from the reader's since on, up to the synced frontier, which is past it; up to there no
-- partition's sum falls
pub record IsRight (us : List Update) (k : Knowledge) : Type 0 where
  pub bindings : IsBindingsOf us k.since k.synced k.bindings
  pub rises : NeverFalls (moved us k.since) k.synced
  pub past : covers k.synced k.since ≡ true

abbrev pub IsKnown : List Update → Course → Type 0
IsKnown us c = IsRight us (knowledge c)

-- After a content at the reader's since that is the updates', and of which no row is foreign, what is known is right. No change
-- comes between the since and the frontier after it.
abbrev pub ContentIsKnown : Type 0
ContentIsKnown = (us : List Update) (c : Course) (rows : List Row) → rows ≡ sum_of us c.since
    → ((q x : ℕ) → c.since < x → covers (after c.since) x ≡ true → change_at (moved us c.since) q x ≡ pos 0)
    → foreign_time unset (rows_at c.since rows) ≡ None
    → IsKnown us (after_snapshot c (reads.Rows rows)).0

-- After a step whose rows are the updates' from the synced frontier on, in their order, and of which none is foreign, it is so again.
abbrev pub StepIsKnown : Type 0
StepIsKnown = (us : List Update) (c : Course) (from to : Option ℕ) (rows : List Update) → IsKnown us c → c.intake ≡ intakes.Nothing
    → is_gt (frontier_cmp c.synced to) ≡ false → rows ≡ slice_of us c.synced to
    → in_time (last_time c.bindings) rows ≡ true → foreign_time (reached c.bindings) rows ≡ None
    → IsKnown us (after_listen c (reads.Step from to rows)).0

-- where a partition's sum was what was reached, the rows of a mint make it the greater of that and what was seen
abbrev pub MintRaises : Type 0
MintRaises = (t : ℕ) (had seen : List ℕ) (p : ℕ) → p < 256
    → offset_of (pos (offset had p) +ℤ change_at (rises t had seen) p t) ≡ max (offset had p) (offset seen p)

-- where the remap shard's upper is at or below a mint's time, and a token is left, the append of its rows isn't refused
abbrev pub MintFits : Type 0
MintFits = (w : Writer) (t u : ℕ) (had seen : List ℕ) → u ≤ t → w.token ≢ most
    → range_fault w (rises t had seen) u (after t) ≡ None

-- what is known stays right where more is accepted past the synced frontier
abbrev pub KnownStays : Type 0
KnownStays = (us more : List Update) (k : Knowledge) → IsRight us k → OutOf k.synced more → IsRight (us ++ more) k

-- Two operators who know one list of updates: whatever the sinces at which their readers joined, and whatever the frontiers up to which
-- they have read, the collections of equal rows have equal sums at each time from both sinces on that both frontiers cover.
abbrev pub CollectionsAgree : Type 0
CollectionsAgree = (us : List Update) (a b : Knowledge) (rows : List SourceRow) (t : ℕ) → IsRight us a → IsRight us b
    → a.since ≤ t → b.since ≤ t → covers a.synced t ≡ true → covers b.synced t ≡ true
    → sum_of (reclocked rows a.bindings 0) t ≡ sum_of (reclocked rows b.bindings 0) t

-- where all that is accepted comes before the synced upper, the rows of a mint from there on make each partition's sum at the mint's time
-- the greater of the sum before and the offset seen
abbrev pub MintRaisesSums : Type 0
MintRaisesSums = (us : List Update) (c : Course) (u t : ℕ) (seen : List ℕ) (p : ℕ) → p < 256 → IsKnown us c → c.synced ≡ Some u → u ≤ t
    → AllByRecursion (λ x. covers (Some u) x.time ≡ true) us
    → offset_of (partition_sum (us ++ rises t (reached (known c)) seen) p t) ≡ max (offset_of (partition_sum us p t)) (offset seen p)
