-- What the parts of a version hold, of a store that stands for a list.
use Rattle.std.proofs.Common.{◌≡◌, ℕ, ◌≤◌, ◌<◌, Bool, true, Option, Some, None, List, [], ◌∷◌, filter, ap, ◌∙◌, inl, inr}
use Rattle.std.specs.List.{AllByRecursion}
use Rattle.std.specs.Prelude.{nat_le}
use Rattle.std.specs.Ordering.{is_lt}
use Rattle.update_core.specs.declared.updates.Update.{Update}
use Rattle.update_core.specs.Frontiers.{covers, frontier_cmp}
use Rattle.update_core.specs.Updates.{sum_of, slice_of}
use Rattle.store_core.specs.declared.shards.ShardId.{ShardId}
use Rattle.store_core.specs.Stores.{Stored}
use Rattle.spine_core.specs.Contents.{held}
use Rattle.state_core.specs.States.{ShardState, IsState, floor, keys_of}
use Rattle.state_core.specs.declared.transitions.Transition.{Transition}
use Rattle.state_core.proofs.ListLemmas.{bool_cases}
use Rattle.version_codec.proofs.Facts.{version_in_state}
use Rattle.history_core.specs.Histories.{version_at}
use Rattle.history_core.specs.Stands.{Collection, StateAt, PartRows, BatchHolds, read_version}
use Rattle.history_core.specs.Questions.{begun_by, ending_past}
use Rattle.history_core.proofs.Contents.{rows_held, part_rows_one}
use Rattle.history_core.proofs.StateSums.{state_sum_known, state_slice}

pub all_filter : {A : Type 0} (P : A → Type 0) (p : A → Bool) (xs : List A) → AllByRecursion P xs → AllByRecursion P (filter p xs)
all_filter P p [] h = h
all_filter P p (x ∷ xs) h = elim (bool_cases (p x)) [ inl e ↦ rw e (h.0, all_filter P p xs h.1) | inr e ↦ rw e (all_filter P p xs h.1) ]

is_state : (shard : ShardId) (n : ℕ) (b : Option (List ℕ)) (s : ShardState) (x : Transition)
    → read_version shard n b ≡ Some (s, x) → IsState s
is_state shard n None s x h = absurd (cc)
is_state shard n (Some b) s x h = version_in_state shard n b s x h

-- at a time from a version's since on that its upper covers, its parts that begin there or before have the content of the list
pub content_of_parts : (store : Stored) (shard : ShardId) (list : List Update) (c : Collection store shard list) (n : ℕ) (s : ShardState) → floor c.last ≤ n → StateAt store shard n s
    → (t : ℕ) → s.since ≤ t → covers s.upper t ≡ true → (rows : List Update) → PartRows store (keys_of (begun_by t s.batches)) rows → sum_of rows t ≡ sum_of list t
content_of_parts store shard list c n s live at t low known rows there =
    let all = all_filter (BatchHolds store list) (λ b. nat_le b.desc.lower t) s.batches (c.content n s live at) in
    ap (λ (us : List Update). sum_of us t) (part_rows_one store (keys_of (begun_by t s.batches)) rows (held list (begun_by t s.batches)) there (rows_held store list (begun_by t s.batches) all))
    ∙ state_sum_known list t s (is_state shard n (version_at (store.logs shard) n) s at.0 at.1) low known

-- from a frontier past a version's since on, its parts that end past it have the slice of the list up to its upper
pub slice_of_parts : (store : Stored) (shard : ShardId) (list : List Update) (c : Collection store shard list) (n : ℕ) (s : ShardState) → floor c.last ≤ n → StateAt store shard n s
    → (f : ℕ) → s.since < f → (rows : List Update) → PartRows store (keys_of (ending_past (Some f) s.batches)) rows → slice_of rows (Some f) s.upper ≡ slice_of list (Some f) s.upper
slice_of_parts store shard list c n s live at f past rows there =
    let all = all_filter (BatchHolds store list) (λ b. is_lt (frontier_cmp (Some f) b.desc.upper)) s.batches (c.content n s live at) in
    ap (λ (us : List Update). slice_of us (Some f) s.upper) (part_rows_one store (keys_of (ending_past (Some f) s.batches)) rows (held list (ending_past (Some f) s.batches)) there (rows_held store list (ending_past (Some f) s.batches) all))
    ∙ state_slice list f s (is_state shard n (version_at (store.logs shard) n) s at.0 at.1) past
