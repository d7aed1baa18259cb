-- What a batch holds of a collection's updates.
use Rattle.std.specs.Prelude.{◌≡◌, ◌≤◌, ℕ, true, Some, List, [], ◌∷◌, ◌++◌}
use Rattle.std.specs.List.{AllByRecursion}
use Rattle.update_core.specs.Frontiers.{covers}
use Rattle.spine_core.specs.declared.batches.Batch.{Batch}
use Rattle.update_core.specs.declared.updates.Update.{Update}
use Rattle.update_core.specs.Updates.{moved, between, cons, IsCons}
use Rattle.spine_core.specs.declared.descs.Desc.{Desc}

-- the updates from the lower on that the upper covers, moved to the since
abbrev pub span_of : List Update → Desc → List Update
span_of us d = moved (between (Some d.lower) d.upper us) d.since

-- rows are the consolidation of the updates in the span of desc, moved to its since
abbrev pub IsBatchOf : List Update → Desc → List Update → Type 0
IsBatchOf us d rows = IsCons (span_of us d) rows

-- the rows of the batch of a span
abbrev pub batch_of : List Update → Desc → List Update
batch_of us d = cons (span_of us d)

-- what batches hold, one after the other
abbrev pub held : List Update → List Batch → List Update
held us [] = []
held us (b ∷ bs) = batch_of us b.desc ++ held us bs

-- no batch is moved past a time
abbrev pub IsMovedUpTo : ℕ → List Batch → Type 0
IsMovedUpTo t bs = AllByRecursion (λ b. b.desc.since ≤ t) bs

-- merged runs over the times of two descs of which the second is from the upper of the first on
pub record Merges (left right merged : Desc) : Type 0 where
  pub left_some : covers left.upper left.lower ≡ true
  pub right_some : covers right.upper right.lower ≡ true
  pub next : left.upper ≡ Some right.lower
  pub lower : merged.lower ≡ left.lower
  pub upper : merged.upper ≡ right.upper
  pub left_since : left.since ≤ merged.since
  pub right_since : right.since ≤ merged.since
