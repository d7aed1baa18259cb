-- A compactor's, a collector's and an expirer's answers in the worked history are legal, and others aren't.
use Rattle.std.proofs.Common.{◌≡◌, ◌≢◌, ◌∙◌, ◌⊎◌, ℕ, ◌+◌, ◌<◌, true, false, Option, List, [], ◌∷◌, inl, inr, Some, None, refl, sym, subst, arith}
use Rattle.std.specs.List.{list_any}
use Rattle.state_core.specs.Steps.{is_out}
use Rattle.std.specs.Prelude.{reverse}
use Rattle.store_core.specs.declared.part_keys.PartKey.{PartKey}
use Rattle.store_core.specs.declared.versions.Version.{Version}
use Rattle.store_core.specs.declared.replies.Reply.TheVariants as replies
use Rattle.store_core.specs.declared.calls.Call.TheVariants.{Cas}
use Rattle.store_core.specs.declared.outcomes.Outcome.TheVariants.{FailedTook}
use Rattle.store_core.specs.declared.entries.Entry.{Entry}
use Rattle.store_core.specs.Stores.{empty_store}
use Rattle.store_core.specs.Histories.{entry_of, store_after}
use Rattle.store_core.specs.Newest.{replay_back}
use Rattle.spine_core.specs.Settled.{due_place, weights_of}
use Rattle.state_core.specs.States.{ShardState}
use Rattle.history_core.specs.declared.asked.Asked.TheVariants.{Collect}
use Rattle.history_core.specs.declared.merge_answers.MergeAnswer.TheVariants.{Opened, Merged, NothingDue, Renewed, Superseded}
use Rattle.history_core.specs.declared.collect_answers.CollectAnswer.TheVariants.{Collected}
use Rattle.history_core.specs.declared.expire_answers.ExpireAnswer.TheVariants.{NoneDue}
use Rattle.history_core.specs.Costs.{merge_parts}
use Rattle.history_core.specs.Histories.{version_at}
use Rattle.history_core.specs.Laws.{LastIs}
use Rattle.history_core.specs.Placing.{Placed}
use Rattle.history_core.specs.Upkeep.{FloorIs, LegalMerge, LegalCollect, LegalExpire, MergedAs, TriesMerge, HasKeeper}
use Rattle.worked_histories.specs.Worked.{the_shard, key, early_batch, late_batch, merged_batch, version2, version6, version8}
use Rattle.worked_histories.specs.Worked.{state2, state5, state6, state8}
use Rattle.worked_histories.specs.Worked.{step5, step6, step8}
use Rattle.worked_histories.specs.WorkedTrail.{worked, first_calls}
use Rattle.worked_histories.specs.WorkedUpkeep.{the_open, the_merge, the_renewal, the_collection, with_failure, the_failed_merge}
use Rattle.worked_histories.specs.WorkedUpkeep.{empty_scan, scan_at_end, the_expiry, command_by, MergeWithin, CollectWithin}
use Rattle.history_core.proofs.StateFacts.{last_one}
use Rattle.worked_histories.proofs.WorkedBrokenScans.{floor_of_nine, nine, taken_in_nine}
use Rattle.worked_histories.proofs.WorkedCollection.{only_eight}
use Rattle.worked_histories.proofs.WorkedVersions.{reads2, reads5, reads6, reads8}

-- ---- the compactor

pub open_answered : LegalMerge (first_calls 4) the_open (Opened 1 2)
open_answered = inl (
  record { expected = Some 1; bytes = version2; to = state2; call_is = refl; reply_is = refl; carries = reads2 },
  refl,
)

pub renewal_answered : LegalMerge (first_calls 20) the_renewal (Renewed 8)
renewal_answered = inl (record { expected = Some 7; bytes = version8; to = state8; call_is = refl; reply_is = refl; carries = reads8 })

merge_tried : TriesMerge the_shard 1 1 early_batch late_batch (Cas the_shard (Some 5) version6)
merge_tried = record { expected = 5; bytes = version6; to = state6; merged = merged_batch; call_is = refl; carries = reads6 }

pub merge_answered : LegalMerge (first_calls 16) the_merge (Merged 6)
unfolding merge_tried
merge_answered = inl (record {
  left = early_batch;
  right = late_batch;
  tries = merge_tried;
  commits = record { expected = Some 5; bytes = version6; call_is = refl; took = refl; commit = refl };
  version_is = refl;
})

-- a merge that was committed is version 6
as_six : (p : Placed) (version : ℕ) → p.entry.call ≡ Cas the_shard (Some 5) version6 → MergedAs empty_store the_shard 1 1 version p → version ≡ 6
as_six p version is m =
    let same : Cas the_shard (Some 5) version6 ≡ Cas the_shard (Some m.tries.expected) m.tries.bytes = sym is ∙ m.tries.call_is in
    let five : ◌≡◌ {A = ℕ} 5 m.tries.expected = cc in
    let is_next : version ≡ m.tries.expected + 1 = m.version_is in
    omega arith

pub merge_only : (version : ℕ) → LegalMerge (first_calls 16) the_merge (Merged version) → version ≡ 6
merge_only version (inl m) = as_six _ version refl m
merge_only version (inr (inl m)) = absurd (let e = m.tries.call_is in cc)
merge_only version (inr (inr (inl m))) = absurd (let e = m.tries.call_is in cc)
merge_only version (inr (inr (inr (inl m)))) = absurd (let e = m.tries.call_is in cc)
merge_only version (inr (inr (inr (inr (inl m))))) = absurd (let e = m.tries.call_is in cc)
merge_only version (inr (inr (inr (inr (inr none))))) = absurd none

-- where it scanned, the pair is due
at_five : LastIs (replay_back empty_store (reverse (first_calls 11).trail)) the_shard 5 state5
at_five = (refl, (step5, rw reads5 refl))

five_only : (n : ℕ) (s : ShardState) → LastIs (replay_back empty_store (reverse (first_calls 11).trail)) the_shard n s → s ≡ state5
five_only n s last = (last_one the_shard ((replay_back empty_store (reverse (first_calls 11).trail)).logs the_shard) n 5 s state5 last.0 last.1 at_five.0 at_five.1).1

five_due : due_place (weights_of state5.batches) ≡ Some 0
five_due = refl

pub merge_not_nothing : (version : ℕ) → LegalMerge (first_calls 16) the_merge (NothingDue version) → ⊥
merge_not_nothing version (inl (scan, at)) = let e = scan.0.1 in cc
merge_not_nothing version (inr (n1, inl (scan, at))) = let e = scan.0.1 in cc
merge_not_nothing version (inr (n1, inr (n2, inl (scan, at)))) = let e = scan.0.1 in cc
merge_not_nothing version (inr (n1, inr (n2, inr (n3, inl (scan, at))))) = let e = scan.0.1 in cc
merge_not_nothing version (inr (n1, inr (n2, inr (n3, inr (n4, inl (scan, (n, s, last, (is, keeper, none)))))))) =
    let none5 : due_place (weights_of state5.batches) ≡ None = subst (λ (t : ShardState). due_place (weights_of t.batches) ≡ None) (five_only n s last) none in
    let bad : ◌≡◌ {A = Option ℕ} (Some 0) None = sym five_due ∙ none5 in cc
merge_not_nothing version (inr (n1, inr (n2, inr (n3, inr (n4, inr (n5, none)))))) = none

pub merge_cost : MergeWithin (first_calls 16) the_merge (merge_parts early_batch late_batch) 1
merge_cost = omega arith

-- ---- a Cas that failed and took effect

pub failed_answered : LegalMerge with_failure the_failed_merge (Merged 6)
unfolding merge_tried
failed_answered = inr (inl (record {
  left = early_batch;
  right = late_batch;
  tries = merge_tried;
  commits = record { expected = Some 5; bytes = version6; call_is = refl; took = refl; commit = refl };
  version_is = refl;
}))

cas_failed : Entry
cas_failed = entry_of 1 (Cas the_shard (Some 5) version6) FailedTook

at_six : LastIs (replay_back empty_store (cas_failed ∷ reverse (first_calls 15).trail)) the_shard 6 state6
unfolding cas_failed
at_six = (refl, (step6, rw reads6 refl))

six_only : (n : ℕ) (s : ShardState) → LastIs (replay_back empty_store (cas_failed ∷ reverse (first_calls 15).trail)) the_shard n s → s ≡ state6
six_only n s last = (last_one the_shard ((replay_back empty_store (cas_failed ∷ reverse (first_calls 15).trail)).logs the_shard) n 6 s state6 last.0 last.1 at_six.0 at_six.1).1

-- the keeper's token there is the command's
one_token : HasKeeper 1 (λ m. m.token ≢ 1) state6 → ⊥
one_token (inl (number, other)) = let bad : ◌≡◌ {A = ℕ} 0 1 = number in omega arith
one_token (inr (inl (number, (kind, other)))) = other refl
one_token (inr (inr (inl (number, other)))) = let bad : ◌≡◌ {A = ℕ} 2 1 = number in omega arith
one_token (inr (inr (inr none))) = none

pub failed_not_superseded : (version : ℕ) → LegalMerge with_failure the_failed_merge (Superseded version) → ⊥
unfolding cas_failed
failed_not_superseded version (left, right, tried, inl (scan, (n, s, last, (is, keeper, gone)))) =
    one_token (subst (HasKeeper 1 (λ m. m.token ≢ 1)) (six_only n s last) keeper)
failed_not_superseded version (left, right, tried, inr (other, at)) = other ((6, refl), refl)

pub failed_cost : MergeWithin with_failure the_failed_merge (merge_parts early_batch late_batch) 1
failed_cost = omega arith

-- ---- the collection

-- what the worked versions take is gone in the end
taken_gone : (k : PartKey) → (key 0 1 ≡ k) ⊎ ((key 0 2 ≡ k) ⊎ ⊥) → (store_after worked).blobs k ≡ None
taken_gone k (inl e) = subst (λ (q : PartKey). (store_after worked).blobs q ≡ None) e refl
taken_gone k (inr (inl e)) = subst (λ (q : PartKey). (store_after worked).blobs q ≡ None) e refl
taken_gone k (inr (inr none)) = absurd none

below_gone : (n : ℕ) → n < 8 → version_at ((store_after worked).logs the_shard) n ≡ None
below_gone n lt = by (version_at ((store_after worked).logs the_shard) n) refl
  where
    by : (o : Option (List ℕ)) → version_at ((store_after worked).logs the_shard) n ≡ o → o ≡ None
    by None e = refl
    by (Some b) e = absurd (let eight : n ≡ 8 = (only_eight n b e).0 in omega arith)

pub collection_answered : LegalCollect worked the_collection (Collected 8 2)
collection_answered = (
  inr (
    (λ h. let e = h.0.1 in cc),
    inr (
      (λ h. let e = h.0.1 in cc),
      inr (
        (λ h. let e = h.0.1 in cc),
        inl (
          ((0, refl), refl),
          (
            refl,
            (
              _,
              refl,
              (state8, (step8, reads8), refl),
              record {
                keys = λ k h. taken_gone k (taken_in_nine 8 k h).1;
                versions = below_gone;
              },
            ),
          ),
        ),
      ),
    ),
  ),
  refl,
)

-- the floor is that of the last version
scanned_eight : (at : ℕ) (vs : List Version) → nine ≡ vs → FloorIs the_shard vs at → at ≡ 8
scanned_eight at vs same h =
    let (s, newest, is) = subst (λ (us : List Version). FloorIs the_shard us at) (sym same) h in
    is ∙ floor_of_nine s newest

pub collection_only : (at deleted : ℕ) → LegalCollect worked the_collection (Collected at deleted) → (at ≡ 8) × (deleted ≡ 2)
collection_only at deleted (inl (scan, h), count) = absurd (let e = scan.0.1 in cc)
collection_only at deleted (inr (n1, inl (scan, h)), count) = absurd (let e = scan.0.1 in cc)
collection_only at deleted (inr (n1, inr (n2, inl (scan, h))), count) = absurd (let e = scan.0.1 in cc)
collection_only at deleted (inr (n1, inr (n2, inr (n3, inl (scan, (call, (vs, answer, floor_is, cleared)))))), count) =
    let same : replies.Versions nine ≡ replies.Versions vs = answer in
    (scanned_eight at vs (let is : nine ≡ vs = cc in is) floor_is, count)
collection_only at deleted (inr (n1, inr (n2, inr (n3, inr (n4, none)))), count) = absurd none

pub collection_cost : CollectWithin worked the_collection 2
collection_cost = omega arith

pub empty_answered : LegalCollect empty_scan (command_by 3 None 0 Collect 1) (Collected 0 0)
empty_answered = (inl (((0, refl), refl), (refl, ([], refl, refl, record { keys = λ k h. absurd h; versions = λ n lt. absurd (let bad : ⊥ = omega arith in bad) }))), refl)

-- ---- the expiry

at_eight : LastIs (replay_back empty_store (reverse worked.trail)) the_shard 8 state8
at_eight = (refl, (step8, rw reads8 refl))

eight_only : (n : ℕ) (s : ShardState) → LastIs (replay_back empty_store (reverse worked.trail)) the_shard n s → s ≡ state8
eight_only n s last = (last_one the_shard ((replay_back empty_store (reverse worked.trail)).logs the_shard) n 8 s state8 last.0 last.1 at_eight.0 at_eight.1).1

pub none_answered : LegalExpire scan_at_end (the_expiry 149) (NoneDue 8)
none_answered = inl (((0, refl), refl), inr (8, state8, at_eight, (refl, refl)))

pub due_not_none : LegalExpire scan_at_end (the_expiry 150) (NoneDue 8) → ⊥
due_not_none (inl (scan, inl (zero_is, none))) = let bad : ◌≡◌ {A = ℕ} 8 0 = zero_is in omega arith
due_not_none (inl (scan, inr (n, s, last, (is, none)))) =
    let out : true ≡ false = subst (λ (t : ShardState). list_any (is_out 150) t.members ≡ false) (eight_only n s last) none in cc
due_not_none (inr (other, none)) = none

pub empty_none : LegalExpire empty_scan (the_expiry 0) (NoneDue 0)
empty_none = inl (((0, refl), refl), inl (refl, refl))
