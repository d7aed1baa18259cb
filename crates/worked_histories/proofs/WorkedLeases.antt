-- What the reader and the collectors are answered in the two histories, and what the store stands for.
use Rattle.std.proofs.Common.{◌≡◌, ◌⊎◌, ℕ, zero, suc, ◌<◌, List, [], ◌∷◌, ◌++◌, inl, inr, Some, None, refl, ap, subst, arith}
use Rattle.std.specs.Prelude.{reverse, take}
use Rattle.update_core.specs.declared.updates.Update.{Update}
use Rattle.update_core.specs.Collections.{content}
use Rattle.store_core.specs.declared.part_keys.PartKey.{PartKey}
use Rattle.store_core.specs.declared.calls.Call.TheVariants.{Scan, Get, Delete, Truncate}
use Rattle.store_core.specs.declared.replies.Reply.TheVariants.{Bytes}
use Rattle.store_core.specs.declared.versions.Version.{Version}
use Rattle.store_core.specs.declared.entries.Entry.{Entry}
use Rattle.store_core.specs.Stores.{empty_store}
use Rattle.store_core.specs.Histories.{reply, store_after}
use Rattle.store_core.specs.Newest.{replay_back}
use Rattle.state_core.specs.declared.transitions.Transition.TheVariants.{Init}
use Rattle.state_core.specs.Steps.{Takes}
use Rattle.history_core.specs.declared.collect_answers.CollectAnswer.TheVariants.{Collected}
use Rattle.history_core.specs.declared.read_answers.ReadAnswer.TheVariants.{Rows, Expired}
use Rattle.history_core.specs.Discipline.{Lawful, TakenUpTo}
use Rattle.history_core.specs.Histories.{version_at}
use Rattle.history_core.specs.Laws.{LastIs}
use Rattle.history_core.specs.Legal.{HasMember, LegalRead}
use Rattle.history_core.specs.Placing.{placed, IsAnsweredScan}
use Rattle.history_core.specs.Stands.{StandsFor, accepted_of}
use Rattle.history_core.specs.Upkeep.{LegalCollect}
use Rattle.history_core.proofs.LawfulLaws.{lawful_law}
use Rattle.history_core.proofs.OneAnswer.{read_law}
use Rattle.history_core.proofs.Prefixes.{prefix_lawful}
use Rattle.worked_histories.specs.Worked.{the_shard, key, early_row, late_row, merged_part, state0, state1, state2, state3, state4}
use Rattle.worked_histories.specs.Worked.{state5, state6, step1, step2, step3, step4, step5, step6, version0, version1, version2}
use Rattle.worked_histories.specs.Worked.{version3, version4, version5, version6}
use Rattle.worked_histories.specs.WorkedTrail.{did, trail, first_calls}
use Rattle.worked_histories.specs.WorkedAnswers.{row_of}
use Rattle.worked_histories.specs.WorkedLeases.{merging, renewed_state, renewing, renewed_version, expired_state, expiring}
use Rattle.worked_histories.specs.WorkedLeases.{of_entries, read_late, halfway, collected_after, read_again, expired, told_expired}
use Rattle.worked_histories.specs.WorkedLeases.{snapshot_by, the_other_collection}
use Rattle.worked_histories.proofs.WorkedVersions.{reads0, reads1, reads2, reads3, reads4, reads5, reads6}
use Rattle.worked_histories.proofs.WorkedParts.{reads_early, reads_late}
use Rattle.worked_histories.proofs.WorkedFacts.{takes_of}
use Rattle.worked_histories.proofs.WorkedAccepted.{accepted_late}
use Rattle.worked_histories.proofs.WorkedAnswers.{rows_then}
use Rattle.worked_histories.proofs.WorkedStands.{starts}
use Rattle.worked_histories.proofs.WorkedLeaseStates.{reads_renewed, reads_kept, reads_expired}
use Rattle.worked_histories.proofs.WorkedLeaseLaws.{reads_on_lawful, told_lawful}

no_scan : (k : PartKey) (es : List Entry) → IsAnsweredScan the_shard (placed (did 2 (Get k)) es) → ⊥
no_scan k es h = let e = h.0.1 in cc

-- ---- the reader reads on

last_five : LastIs (replay_back empty_store (reverse (first_calls 11).trail)) the_shard 5 state5
last_five = (refl, (step5, rw reads5 refl))

pub reader_read : LegalRead [] (of_entries read_late) (snapshot_by 3) (Rows (row_of 97 ∷ row_of 98 ∷ []))
reader_read = inr (
  no_scan (key 0 2) (reverse (take 11 trail ++ merging ++ did 2 (Get (key 0 1)) ∷ [])),
  inr (
    no_scan (key 0 1) (reverse (take 11 trail ++ merging)),
    inl (((3, refl), refl), (5, state5, last_five, (inr (inr (inl (refl, tt))), rw accepted_late (ap content rows_then)))),
  ),
)

halfway_lawful : Lawful (of_entries halfway)
halfway_lawful = prefix_lawful (of_entries halfway) (
    did 4 (Scan the_shard 0)
    ∷ did 4 (Delete (key 0 1))
    ∷ did 4 (Delete (key 0 2))
    ∷ did 4 (Truncate the_shard 6)
    ∷ did 2 (Scan the_shard 7)
    ∷ did 2 (Get (key 1 1))
    ∷ []
    ) reads_on_lawful

halfway_accepts : accepted_of the_shard [] (of_entries halfway) ≡ early_row ∷ late_row ∷ []
halfway_accepts = simp (reads1, reads2, reads3, reads4, reads5, reads6, reads_renewed, reads_early, reads_late)

pub halfway_stands : StandsFor (store_after (of_entries halfway)) the_shard (early_row ∷ late_row ∷ [])
halfway_stands = subst (λ (us : List Update). StandsFor (store_after (of_entries halfway)) the_shard us) halfway_accepts
    (lawful_law the_shard [] (of_entries halfway) starts halfway_lawful)

-- the versions that the other collector's Scan shows, with the key that they take
eight : List Version
eight = record { number = 0; bytes = version0 } ∷ record { number = 1; bytes = version1 } ∷ record { number = 2; bytes = version2 } ∷
    record { number = 3; bytes = version3 } ∷ record { number = 4; bytes = version4 } ∷ record { number = 5; bytes = version5 } ∷
    record { number = 6; bytes = version6 } ∷ record { number = 7; bytes = renewed_version } ∷ []

taken_in_eight : (k : PartKey) → TakenUpTo the_shard 6 eight k → Takes step6 k
unfolding eight
taken_in_eight k (inl a) = absurd (takes_of _ state0 Init k reads0 a.1)
taken_in_eight k (inr (inl a)) = absurd (takes_of _ state1 step1 k reads1 a.1)
taken_in_eight k (inr (inr (inl a))) = absurd (takes_of _ state2 step2 k reads2 a.1)
taken_in_eight k (inr (inr (inr (inl a)))) = absurd (takes_of _ state3 step3 k reads3 a.1)
taken_in_eight k (inr (inr (inr (inr (inl a))))) = absurd (takes_of _ state4 step4 k reads4 a.1)
taken_in_eight k (inr (inr (inr (inr (inr (inl a)))))) = absurd (takes_of _ state5 step5 k reads5 a.1)
taken_in_eight k (inr (inr (inr (inr (inr (inr (inl a))))))) = takes_of _ state6 step6 k reads6 a.1
taken_in_eight k (inr (inr (inr (inr (inr (inr (inr (inl a)))))))) = absurd (takes_of _ renewed_state renewing k reads_renewed a.1)
taken_in_eight k (inr (inr (inr (inr (inr (inr (inr (inr none)))))))) = absurd none

taken_gone : (k : PartKey) → (key 0 1 ≡ k) ⊎ ((key 0 2 ≡ k) ⊎ ⊥) → (store_after (of_entries collected_after)).blobs k ≡ None
taken_gone k (inl e) = subst (λ (q : PartKey). (store_after (of_entries collected_after)).blobs q ≡ None) e refl
taken_gone k (inr (inl e)) = subst (λ (q : PartKey). (store_after (of_entries collected_after)).blobs q ≡ None) e refl
taken_gone k (inr (inr none)) = absurd none

below_gone : (n : ℕ) → n < 6 → version_at ((store_after (of_entries collected_after)).logs the_shard) n ≡ None
below_gone zero lt = refl
below_gone (suc zero) lt = refl
below_gone (suc (suc zero)) lt = refl
below_gone (suc (suc (suc zero))) lt = refl
below_gone (suc (suc (suc (suc zero)))) lt = refl
below_gone (suc (suc (suc (suc (suc zero))))) lt = refl
below_gone (suc (suc (suc (suc (suc (suc n)))))) lt = absurd (let bad : ⊥ = omega (arith, lt) in bad)

pub collected : LegalCollect (of_entries collected_after) the_other_collection (Collected 6 2)
unfolding eight
collected = (
  inr (
    (λ h. let e = h.0.1 in cc),
    inr (
      (λ h. let e = h.0.1 in cc),
      inr (
        (λ h. let e = h.0.1 in cc),
        inl (
          ((0, refl), refl),
          (
            refl,
            (
              eight,
              refl,
              (renewed_state, (renewing, reads_renewed), refl),
              record { keys = λ k h. taken_gone k (taken_in_eight k h); versions = below_gone },
            ),
          ),
        ),
      ),
    ),
  ),
  refl,
)

pub late_gone : (store_after (of_entries collected_after)).blobs (key 0 2) ≡ None
late_gone = refl

pub merged_there : reply (store_after (of_entries collected_after)) (did 2 (Get (key 1 1))) ≡ Bytes (Some merged_part)
merged_there = refl

accepted_still : accepted_of the_shard [] (of_entries collected_after) ≡ early_row ∷ late_row ∷ []
accepted_still = simp (reads1, reads2, reads3, reads4, reads5, reads6, reads_renewed, reads_early, reads_late)

last_renewed : LastIs (replay_back empty_store (reverse collected_after)) the_shard 7 renewed_state
last_renewed = (refl, (renewing, rw reads_renewed refl))

pub reads_again : LegalRead [] (of_entries read_again) (snapshot_by 2) (Rows (row_of 97 ∷ row_of 98 ∷ []))
reads_again = inr (
  no_scan (key 1 1) (reverse (collected_after ++ did 2 (Scan the_shard 7) ∷ [])),
  inl (((7, refl), refl), (7, renewed_state, last_renewed, (inr (inr (inl (refl, tt))), rw accepted_still (ap content rows_then)))),
)

-- ---- the reader is told

expired_accepts : accepted_of the_shard [] (of_entries expired) ≡ early_row ∷ late_row ∷ []
expired_accepts = simp (reads1, reads2, reads3, reads4, reads5, reads6, reads_kept, reads_expired, reads_early, reads_late)

pub expired_stands : StandsFor (store_after (of_entries expired)) the_shard (early_row ∷ late_row ∷ [])
expired_stands = subst (λ (us : List Update). StandsFor (store_after (of_entries expired)) the_shard us) expired_accepts
    (lawful_law the_shard [] (of_entries expired) starts (prefix_lawful (of_entries expired) (did 2 (Get (key 0 1)) ∷ did 2 (Scan the_shard 6) ∷ []) told_lawful))

pub part_missing : reply (store_after (of_entries expired)) (did 2 (Get (key 0 1))) ≡ Bytes None
part_missing = refl

last_expired : LastIs (replay_back empty_store (reverse (expired ++ did 2 (Get (key 0 1)) ∷ []))) the_shard 8 expired_state
last_expired = (refl, (expiring, rw reads_expired refl))

reader_gone : HasMember 2 expired_state → ⊥
reader_gone (inl (number, stands)) = let bad : ◌≡◌ {A = ℕ} 0 2 = number in omega arith
reader_gone (inr (inl (number, stands))) = let bad : ◌≡◌ {A = ℕ} 1 2 = number in omega arith
reader_gone (inr (inr none)) = none

pub is_told : LegalRead [] (of_entries told_expired) (snapshot_by 3) (Expired 8)
is_told = inl (((6, refl), refl), (8, expired_state, last_expired, (refl, reader_gone)))

pub no_rows : LegalRead [] (of_entries told_expired) (snapshot_by 3) (Rows (row_of 97 ∷ row_of 98 ∷ [])) → ⊥
no_rows h =
    let e : Rows (row_of 97 ∷ row_of 98 ∷ []) ≡ Expired 8 =
    read_law [] (of_entries told_expired) (snapshot_by 3) tt (Rows (row_of 97 ∷ row_of 98 ∷ [])) (Expired 8) h is_told in cc
