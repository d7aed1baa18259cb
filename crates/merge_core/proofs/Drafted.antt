-- What a draft of a merge gives.
use Rattle.std.proofs.Common.{◌≡◌, ℕ, ◌≤◌, true, Option, Some, List, [], ◌∷◌, ◌++◌, length, refl, sym, subst, arith}
use Rattle.std.specs.List.{AllByRecursion}
use Rattle.update_core.specs.Updates.{moved}
use Rattle.update_core.proofs.UpdateLaws.{cons_is}
use Rattle.spine_core.specs.declared.batches.Batch.{Batch}
use Rattle.spine_core.specs.Spines.{Follows}
use Rattle.store_core.specs.declared.shards.ShardId.{ShardId}
use Rattle.state_core.specs.declared.transitions.Transition.{Transition}
use Rattle.state_core.specs.Refusals.{is_shaped}
use Rattle.state_core.specs.Steps.{AreKeys}
use Rattle.state_core.proofs.Refused.{shaped_merge}
use Rattle.history_core.specs.Discipline.{Holds}
use Rattle.merge_core.specs.Drafting.{DraftHolds, DraftIsShaped, merged_batch, merged_rows}
use Rattle.merge_core.proofs.Lengths.{length-cons, length-moved}

pub draft_holds : DraftHolds
draft_holds owner left right since rows d own draft got stored =
    subst (λ (x : Transition). Holds own x) (sym draft.step_is) (record {
      inputs = rows;
      outputs = merged_rows since rows;
      read = got;
      hold = stored;
      cons = cons_is (moved rows since);
      count = refl;
    })

-- the two are neighbours
neighbours : (f : Option ℕ) (before behind : List Batch) (left right : Batch) → Follows f (before ++ left ∷ right ∷ behind)
    → left.desc.upper ≡ Some right.desc.lower
neighbours f [] behind left right follows = follows.2.0
neighbours f (b ∷ before) behind left right follows = neighbours b.desc.upper before behind left right (follows.2)

-- what holds of all holds of the two
of_both : (P : Batch → Type 0) (before behind : List Batch) (left right : Batch) → AllByRecursion P (before ++ left ∷ right ∷ behind)
    → P left × P right
of_both P [] behind left right all = (all.0, all.1.0)
of_both P (b ∷ before) behind left right all = of_both P before behind left right all.1

pub draft_is_shaped : DraftIsShaped
draft_is_shaped owner before behind left right rows d s t is batches as_many draft shard later =
    subst (λ (x : Transition). is_shaped t x ≡ true) (sym draft.step_is)
    (shaped_merge t owner.member owner.token left right merged (record {
      joins = neighbours (Some 0) before behind left right (subst (λ (bs : List Batch). Follows (Some 0) bs) batches is.spine);
      lower = refl;
      upper = refl;
      from_left = sinces.0;
      from_right = sinces.1;
      since = later;
      rows = omega (arith, as_many, length-cons (moved rows s.since), length-moved rows s.since);
      keys = subst (λ (q : ShardId). AreKeys q owner.member owner.token 0 d.setting.keys) shard draft.keys;
      count = draft.count;
    }))
  where
    merged : Batch
    merged = merged_batch left right s.since d.setting.keys (length (merged_rows s.since rows))

    sinces : (left.desc.since ≤ s.since) × (right.desc.since ≤ s.since)
    sinces = of_both (λ b. b.desc.since ≤ s.since) before behind left right
        (subst (λ (bs : List Batch). AllByRecursion (λ b. b.desc.since ≤ s.since) bs) batches is.sinces)
