-- Each row of a step that the collection gives a listen stands among the updates that were got.
use Rattle.std.proofs.Common.{◌≡◌, ℕ, ◌<◌, ◌≤◌, Bool, List, Option, Some, arith, subst, sym}
use Rattle.std.specs.Ordering.{is_lt}
use Rattle.update_core.specs.declared.updates.Update.{Update}
use Rattle.update_core.specs.Frontiers.{frontier_cmp}
use Rattle.update_core.specs.Updates.{between, slice_of}
use Rattle.store_core.specs.Histories.{store_after}
use Rattle.spine_core.specs.declared.batches.Batch.{Batch}
use Rattle.spine_core.specs.Contents.{held}
use Rattle.state_core.specs.Lists.{Among, Distinct}
use Rattle.state_core.specs.States.{keys_of}
use Rattle.state_core.proofs.ListLemmas.{each_map}
use Rattle.history_core.specs.Discipline.{GotAs, Hold}
use Rattle.history_core.specs.Stands.{BatchHolds, accepted_of}
use Rattle.history_core.specs.Questions.{ending_past}
use Rattle.history_core.specs.Answers.{own_past}
use Rattle.history_core.specs.Legal.{collection_in}
use Rattle.history_core.specs.StretchLaws.{StepRowsStand}
use Rattle.history_core.proofs.Prefixes.{prefix_lawful}
use Rattle.history_core.proofs.StateFacts.{state_rules}
use Rattle.history_core.proofs.Contents.{rows_held, part_rows_one}
use Rattle.history_core.proofs.PartContents.{all_filter}
use Rattle.history_core.proofs.LawfulLaws.{lawful_law}
use Rattle.history_core.proofs.GotLaws.{here_of, later_law, all_named}
use Rattle.history_core.proofs.GotRows.{listen_step, step_law}
use Rattle.history_core.proofs.StepRows.{Same, MovedBefore, slice_among, rows_apart}

pub rows_stand_law : StepRowsStand
rows_stand_law shard list h later st l n s is f to rows answer client updates got u among =
    let us = accepted_of shard list h in
    let found = listen_step (collection_in us s) f to rows answer in
    let past : s.since < found.time = found.past_since in
    let ends : Batch → Bool = λ b. is_lt (frontier_cmp (Some found.time) b.desc.upper) in
    let some = ending_past (Some found.time) s.batches in
    let stands = here_of (store_after h) shard us n s (lawful_law shard list h st (prefix_lawful h later l)) is in
    let rules = state_rules shard ((store_after h).logs shard) n s is.1 in
    let got2 = subst (λ (g : Option ℕ). Hold (GotAs (own_past h later client)) (keys_of (ending_past g s.batches)) updates) found.at got in
    let there = later_law shard list h later st l n s is client (keys_of some) updates (all_named ends s) got2 in
    let same : updates ≡ held us some =
    part_rows_one (store_after h) (keys_of some) updates (held us some) there
    (rows_held (store_after h) us some
    (all_filter (BatchHolds (store_after h) us) ends s.batches (stands.collection.content n s stands.low is.1))) in
    let before : MovedBefore found.time s.batches =
    each_map (λ (b : Batch). b.desc.since ≤ s.since) (λ (b : Batch). b.desc.since < found.time) s.batches (λ b le. omega arith) rules.sinces in
    let apart : Distinct Same (between (Some found.time) to updates) =
    subst (λ (vs : List Update). Distinct Same (between (Some found.time) to vs)) (sym same)
    (rows_apart found.time us to ends (Some 0) s.batches rules.spine before) in
    let slice = step_law shard list h later st l n s is f to rows answer client updates got in
    let among2 : Among (λ v. v ≡ u) (slice_of updates f to) = subst (λ (vs : List Update). Among (λ v. v ≡ u) vs) (sym slice) among in
    slice_among updates (Some found.time) to apart u
    (subst (λ (g : Option ℕ). Among (λ v. v ≡ u) (slice_of updates g to)) found.at among2)
