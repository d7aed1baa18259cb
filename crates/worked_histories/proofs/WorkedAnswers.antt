-- The answers in the worked history are legal, and each is the only one.
use Rattle.std.proofs.Common.{◌≡◌, ℕ, List, [], ◌∷◌, inl, inr, Some, refl, sym, ap, subst, arith}
use Rattle.std.specs.Prelude.{reverse}
use Rattle.std.specs.List.{AllByRecursion}
use Rattle.update_core.specs.Totals.{consolidated}
use Rattle.update_core.specs.Updates.{cons, sum_of, slice_of}
use Rattle.update_core.specs.Collections.{content, step}
use Rattle.store_core.specs.declared.calls.Call.TheVariants.{Cas, Get}
use Rattle.store_core.specs.declared.entries.Entry.{Entry}
use Rattle.store_core.specs.Stores.{Stored, empty_store}
use Rattle.store_core.specs.Newest.{replay_back}
use Rattle.state_core.specs.States.{ShardState}
use Rattle.history_core.specs.declared.asked.Asked.TheVariants.{Snapshot}
use Rattle.history_core.specs.declared.read_answers.ReadAnswer.{ReadAnswer}
use Rattle.history_core.specs.declared.read_answers.ReadAnswer.TheVariants.{Rows, Late, Step}
use Rattle.history_core.specs.declared.write_answers.WriteAnswer.{WriteAnswer}
use Rattle.history_core.specs.declared.write_answers.WriteAnswer.TheVariants.{Ok, Mismatch}
use Rattle.history_core.specs.Laws.{LastIs}
use Rattle.history_core.specs.Placing.{Placed, placed, Commits, IsAnsweredScan, GotSinceScan}
use Rattle.history_core.specs.Legal.{entries_of, snapshot_keys, step_keys, AcceptedAt, LegalRead, LegalWrite}
use Rattle.history_core.specs.Costs.{snapshot_parts, step_parts}
use Rattle.worked_histories.specs.Worked.{the_shard, key, early_row, late_row, merged_part, version5, state5, state8, step8}
use Rattle.worked_histories.specs.WorkedTrail.{did, worked, first_calls}
use Rattle.worked_histories.specs.WorkedAnswers.{second_append, with_scan, with_read, asked_by, snapshot_at_9, snapshot_at_10}
use Rattle.worked_histories.specs.WorkedAnswers.{listen_after_4, row_of, GotBy, AppendWithin, ReadWithin}
use Rattle.history_core.proofs.Appends.{accepted_law}
use Rattle.history_core.proofs.OneAnswer.{append_law, read_law}
use Rattle.history_core.proofs.StateFacts.{last_one}
use Rattle.worked_histories.proofs.WorkedVersions.{reads5, reads8}
use Rattle.worked_histories.proofs.WorkedParts.{reads_late}
use Rattle.worked_histories.proofs.WorkedLaw.{prefixes_lawful}
use Rattle.worked_histories.proofs.WorkedAccepted.{accepted_all}
use Rattle.worked_histories.proofs.WorkedStands.{starts}

pub rows_then : sum_of (early_row ∷ late_row ∷ []) 9 ≡ row_of 97 ∷ row_of 98 ∷ []
unfolding consolidated
rows_then = refl

step_then : slice_of (early_row ∷ late_row ∷ []) (Some 5) (Some 10) ≡ late_row ∷ []
unfolding consolidated
step_then = refl

one_row : cons (late_row ∷ []) ≡ late_row ∷ []
unfolding consolidated
one_row = refl

-- ---- the append

the_cas : Entry
the_cas = did 0 (Cas the_shard (Some 4) version5)

commits_then : Commits empty_store the_shard (placed the_cas (reverse (first_calls 10).trail))
unfolding the_cas
commits_then = record { expected = Some 4; bytes = version5; call_is = refl; took = refl; commit = refl }

accepted_then : AcceptedAt [] empty_store the_shard (late_row ∷ []) 5 (Some 10)
    (placed the_cas (reverse (first_calls 10).trail))
unfolding the_cas commits_then
accepted_then = accepted_law the_shard [] (first_calls 10) the_cas starts (prefixes_lawful 11) commits_then 4 refl state5 0 2 5
    (Some 10) (key 0 2 ∷ []) 1 (late_row ∷ []) reads5 (rw reads_late (sym one_row))

pub append_ok : LegalWrite [] (first_calls 11) second_append Ok
unfolding the_cas
append_ok = inl (commits_then, accepted_then, λ h. elim h [ inl k ↦ (let e = k.call_is in cc) | inr none ↦ none ])

pub append_only : (a : WriteAnswer) → LegalWrite [] (first_calls 11) second_append a → a ≡ Ok
append_only a h = append_law [] (first_calls 11) second_append (late_row ∷ []) 5 (Some 10) refl a Ok h append_ok

pub append_no_mismatch : LegalWrite [] (first_calls 11) second_append (Mismatch (Some 10)) → ⊥
append_no_mismatch h = let e : Mismatch (Some 10) ≡ Ok = append_only (Mismatch (Some 10)) h in cc

pub append_cost : AppendWithin (first_calls 11) second_append 1
append_cost = omega arith

-- ---- the reads

last_then : LastIs (replay_back empty_store (reverse worked.trail)) the_shard 8 state8
last_then = (refl, (step8, rw reads8 refl))

not_scan : (es : List Entry) → IsAnsweredScan the_shard (placed (did 3 (Get (key 1 1))) es) → ⊥
not_scan es h = let e = h.0.1 in cc

pub snapshot_rows : LegalRead [] with_read snapshot_at_9 (Rows (row_of 97 ∷ row_of 98 ∷ []))
snapshot_rows = inr (
  not_scan (reverse with_scan.trail),
  inl (
    ((8, refl), refl),
    (
      8,
      state8,
      last_then,
      (
        inl (refl, tt),
        rw accepted_all (ap content rows_then),
      ),
    ),
  ),
)

pub snapshot_only : (a : ReadAnswer) → LegalRead [] with_read snapshot_at_9 a → a ≡ Rows (row_of 97 ∷ row_of 98 ∷ [])
snapshot_only a h = read_law [] with_read snapshot_at_9 tt a (Rows (row_of 97 ∷ row_of 98 ∷ [])) h snapshot_rows

pub snapshot_no_less : LegalRead [] with_read snapshot_at_9 (Rows (row_of 97 ∷ [])) → ⊥
snapshot_no_less h =
    let e : Rows (row_of 97 ∷ []) ≡ Rows (row_of 97 ∷ row_of 98 ∷ []) = snapshot_only (Rows (row_of 97 ∷ [])) h in cc

pub snapshot_got : GotBy with_read snapshot_at_9 (snapshot_keys 9)
snapshot_got = inr (
  not_scan (reverse with_scan.trail),
  inl (
    ((8, refl), refl),
    (
      8,
      state8,
      last_then,
      (
        (not_scan (reverse with_scan.trail), inl (merged_part, (refl, refl))),
        tt,
      ),
    ),
  ),
)

pub snapshot_cost : ReadWithin with_read snapshot_at_9 (snapshot_parts 9 state8)
snapshot_cost = omega arith

pub late_legal : LegalRead [] with_scan snapshot_at_10 (Late (Some 10))
late_legal = inl (((8, refl), refl), (8, state8, last_then, (inl (refl, tt), refl)))

pub late_only : (a : ReadAnswer) → LegalRead [] with_scan snapshot_at_10 a → a ≡ Late (Some 10)
late_only a h = read_law [] with_scan snapshot_at_10 tt a (Late (Some 10)) h late_legal

pub late_no_rows : LegalRead [] with_scan snapshot_at_10 (Rows (row_of 97 ∷ row_of 98 ∷ [])) → ⊥
late_no_rows h =
    let e : Rows (row_of 97 ∷ row_of 98 ∷ []) ≡ Late (Some 10) = late_only (Rows (row_of 97 ∷ row_of 98 ∷ [])) h in cc

pub late_cost : ReadWithin with_scan snapshot_at_10 0
late_cost = omega arith

pub listen_step : LegalRead [] with_read listen_after_4 (Step (Some 5) (Some 10) (late_row ∷ []))
listen_step = (
  refl,
  inr (
    not_scan (reverse with_scan.trail),
    inl (
      ((8, refl), refl),
      (
        8,
        state8,
        last_then,
        (
          inl (refl, tt),
          rw accepted_all (ap (λ us. step us (Some 10)) step_then),
        ),
      ),
    ),
  ),
)

pub listen_only : (a : ReadAnswer) → LegalRead [] with_read listen_after_4 a → a ≡ Step (Some 5) (Some 10) (late_row ∷ [])
listen_only a h = read_law [] with_read listen_after_4 tt a (Step (Some 5) (Some 10) (late_row ∷ [])) h listen_step

pub listen_no_less : LegalRead [] with_read listen_after_4 (Step (Some 5) (Some 10) []) → ⊥
listen_no_less h =
    let e : Step (Some 5) (Some 10) [] ≡ Step (Some 5) (Some 10) (late_row ∷ []) =
    listen_only (Step (Some 5) (Some 10) []) h in cc

pub listen_got : GotBy with_read listen_after_4 (step_keys (Some 5))
listen_got = inr (
  not_scan (reverse with_scan.trail),
  inl (
    ((8, refl), refl),
    (
      8,
      state8,
      last_then,
      (
        (not_scan (reverse with_scan.trail), inl (merged_part, (refl, refl))),
        tt,
      ),
    ),
  ),
)

pub listen_cost : ReadWithin with_read listen_after_4 (step_parts (Some 5) state8)
listen_cost = omega arith

-- ---- a Scan alone gets no part

the_end : Stored
the_end = replay_back empty_store (reverse worked.trail)

one_state : (n : ℕ) (s : ShardState) → LastIs the_end the_shard n s → s ≡ state8
unfolding the_end
one_state n s last = (last_one the_shard (the_end.logs the_shard) n 8 s state8 last.0 last.1 last_then.0 last_then.1).1

the_scan : List Placed
the_scan = entries_of (asked_by 1 (Snapshot 9)) (reverse with_scan.trail)

pub scan_not_got : GotBy with_scan (asked_by 1 (Snapshot 9)) (snapshot_keys 9) → ⊥
unfolding the_end the_scan
scan_not_got (inl (scan, (n, s, last, all))) =
    let got : AllByRecursion (λ k. GotSinceScan empty_store the_shard k the_scan) (snapshot_keys 9 state8) =
    subst (λ (t : ShardState). AllByRecursion (λ k. GotSinceScan empty_store the_shard k the_scan) (snapshot_keys 9 t))
    (one_state n s last) all in
    got.0.0 scan
scan_not_got (inr (other, none)) = none
