-- What a merge tries, and the parts that it sets.
use Rattle.std.specs.Prelude.{◌≡◌, ℕ, ◌+◌, ◌≤◌, true, List, ◌∷◌, ◌++◌, length}
use Rattle.std.specs.List.{AllByRecursion}
use Rattle.update_core.specs.declared.updates.Update.{Update}
use Rattle.update_core.specs.Updates.{cons, moved}
use Rattle.byte_core.specs.ByteLists.{IsBytes}
use Rattle.spine_core.specs.declared.batches.Batch.{Batch}
use Rattle.store_core.specs.declared.part_keys.PartKey.{PartKey}
use Rattle.store_core.specs.Ports.{Answered}
use Rattle.state_core.specs.States.{ShardState, IsPartCount, IsState}
use Rattle.state_core.specs.declared.transitions.Transition.TheVariants.{Merge}
use Rattle.state_core.specs.Refusals.{is_shaped}
use Rattle.state_core.specs.Steps.{AreKeys}
use Rattle.history_core.specs.Discipline.{GotAs, StoredAs, Hold, Holds}
use Rattle.load_core.specs.PartRows.{Spell}
use Rattle.load_core.specs.Setting.{IsSound}
use Rattle.merge_core.specs.declared.drafts.Owner.{Owner}
use Rattle.merge_core.specs.declared.drafts.MergeDraft.{MergeDraft}

-- the batch that takes the place of two: it runs over both, moved up to since
abbrev pub merged_batch : Batch → Batch → ℕ → List PartKey → ℕ → Batch
merged_batch left right since parts rows = record {
  desc = record { lower = left.desc.lower; upper = right.desc.upper; since = since };
  parts = parts;
  rows = rows;
}

-- the rows of a merge: those of both batches, moved up to since and consolidated
abbrev pub merged_rows : ℕ → List Update → List Update
merged_rows since rows = cons (moved rows since)

-- Under the keys of a member's token, none of which is set yet, the parts hold the merge's rows, and the transition puts a batch
-- with them in the place of both.
pub record IsDraft (owner : Owner) (left right : Batch) (since : ℕ) (rows : List Update) (d : MergeDraft) : Type 0 where
  pub sound : IsSound d.setting
  pub unset : d.setting.place ≡ 0
  pub spell : Spell d.setting.parts (merged_rows since rows)
  pub bytes : AllByRecursion IsBytes d.setting.parts
  pub keys : AreKeys owner.shard owner.member owner.token 0 d.setting.keys
  pub count : IsPartCount (length (merged_rows since rows)) (length d.setting.keys)
  pub step_is : d.step ≡ Merge owner.member owner.token left right
      (merged_batch left right since d.setting.keys (length (merged_rows since rows)))

-- what was got from both batches, and is stored under the draft's keys, is what a merge's parts must hold
abbrev pub DraftHolds : Type 0
DraftHolds =
    (owner : Owner) (left right : Batch) (since : ℕ) (rows : List Update) (d : MergeDraft) (own : List Answered) →
    IsDraft owner left right since rows d → Hold (GotAs own) (left.parts ++ right.parts) rows →
    Hold (StoredAs own) d.setting.keys (merged_rows since rows) → Holds own d.step

-- no state of the shard, whose since isn't below that of the one that named the pair, refuses the draft for its shape
abbrev pub DraftIsShaped : Type 0
DraftIsShaped =
    (owner : Owner) (before behind : List Batch) (left right : Batch) (rows : List Update) (d : MergeDraft) (s t : ShardState) →
    IsState s → s.batches ≡ before ++ left ∷ right ∷ behind → length rows ≤ left.rows + right.rows →
    IsDraft owner left right s.since rows d → owner.shard ≡ t.shard → s.since ≤ t.since → is_shaped t d.step ≡ true
