-- Which batches of a state a question is about.
use Rattle.std.specs.Prelude.{ℕ, nat_le, Option, List, filter}
use Rattle.std.specs.Ordering.{is_lt}
use Rattle.update_core.specs.Frontiers.{frontier_cmp}
use Rattle.spine_core.specs.declared.batches.Batch.{Batch}

-- the batches that begin at a time or before it
abbrev pub begun_by : ℕ → List Batch → List Batch
begun_by t bs = filter (λ b. nat_le b.desc.lower t) bs

-- the batches that end past a frontier
abbrev pub ending_past : Option ℕ → List Batch → List Batch
ending_past f bs = filter (λ b. is_lt (frontier_cmp f b.desc.upper)) bs
