-- What is claimed of the bindings of a remap shard, and of the collections that they give.
use Rattle.std.specs.Prelude.{◌≡◌, ℕ, ◌<◌, ◌≤◌, [], ◌++◌, pos, List, Option, Some, true, false}
use Rattle.std.specs.List.{AllByRecursion}
use Rattle.std.specs.Ordering.{is_gt}
use Rattle.update_core.specs.declared.updates.Update.{Update}
use Rattle.update_core.specs.Frontiers.{covers, frontier_cmp}
use Rattle.update_core.specs.Updates.{moved, sum_of, slice_of}
use Rattle.remap_core.specs.declared.source_rows.SourceRow.{SourceRow}
use Rattle.remap_core.specs.Reclocking.{reclocked}
use Rattle.remap_core.specs.RemapShards.{change_at, IsBindings, IsBindingsOf, NeverFalls}
use Rattle.remap_core.specs.Extending.{with_rows, rows_at, Raises}

-- updates have one list of bindings
abbrev pub OneList : Type 0
OneList = (us : List Update) (g : Option ℕ) (bs cs : List (ℕ × List ℕ)) → IsBindings us g bs → IsBindings us g cs → bs ≡ cs

-- two operators, who know a remap shard from s and from r on, and up to g and to h: equal sums where both know
abbrev pub EqualCollections : Type 0
EqualCollections = (us : List Update) (s r : ℕ) (g h : Option ℕ) (bs cs : List (ℕ × List ℕ))
    → IsBindingsOf us s g bs → IsBindingsOf us r h cs → NeverFalls (moved us s) g → NeverFalls (moved us r) h
    → (rows : List SourceRow) (t : ℕ) → s ≤ t → r ≤ t → covers g t ≡ true → covers h t ≡ true
    → sum_of (reclocked rows bs 0) t ≡ sum_of (reclocked rows cs 0) t

-- the rows of a snapshot at s make the bindings up to g, where each raises a partition and after s no change is before g
abbrev pub SnapshotStarts : Type 0
SnapshotStarts = (us : List Update) (s : ℕ) (g : Option ℕ) → covers g s ≡ true
    → ((q x : ℕ) → s < x → covers g x ≡ true → change_at (moved us s) q x ≡ pos 0)
    → AllByRecursion Raises (rows_at s (sum_of us s))
    → IsBindingsOf us s g (with_rows [] (rows_at s (sum_of us s))) × NeverFalls (moved us s) g

-- the bindings up to g with the rows from g to h are those up to h, where each of these rows raises a partition
abbrev pub ListenExtends : Type 0
ListenExtends = (us : List Update) (s : ℕ) (g h : Option ℕ) (bs : List (ℕ × List ℕ)) → IsBindingsOf us s g bs → NeverFalls (moved us s) g
    → covers g s ≡ true → is_gt (frontier_cmp g h) ≡ false → AllByRecursion Raises (slice_of us g h)
    → IsBindingsOf us s h (with_rows bs (slice_of us g h)) × NeverFalls (moved us s) h

-- two operators, who know a remap shard from s on: what the one publishes up to e, and then the other from e to u,
-- is the other's collection up to u
abbrev pub PublishedGoesOn : Type 0
PublishedGoesOn = (us : List Update) (s : ℕ) (g h e u : Option ℕ) (bs cs : List (ℕ × List ℕ)) → IsBindingsOf us s g bs
    → IsBindingsOf us s h cs
    → NeverFalls (moved us s) g → NeverFalls (moved us s) h
    → is_gt (frontier_cmp (Some 0) e) ≡ false → is_gt (frontier_cmp e g) ≡ false
    → is_gt (frontier_cmp e h) ≡ false → is_gt (frontier_cmp e u) ≡ false
    → (rows : List SourceRow)
    → slice_of (reclocked rows bs 0) (Some 0) e ++ slice_of (reclocked rows cs 0) e u ≡ slice_of (reclocked rows cs 0) (Some 0) u
