-- Appends of broken histories that aren't allowed.
use Rattle.std.proofs.Common.{◌≡◌, ◌∙◌, ℕ, ◌≤◌, List, [], ◌∷◌, length, Option, Some, None, inl, inr, sym, ap, subst, arith}
use Rattle.update_core.specs.declared.updates.Update.{Update}
use Rattle.update_core.specs.Updates.{between, weight_of}
use Rattle.store_core.specs.declared.calls.Call.TheVariants.{Cas}
use Rattle.history_core.specs.Readings.{rows_in}
use Rattle.history_core.specs.Discipline.{StoredAs, CasAllowed, AppendHolds, Holds, Lawful}
use Rattle.worked_histories.specs.Worked.{the_shard, key, early_row, late_row, early_part, merged_part, state4, step4, version4}
use Rattle.worked_histories.specs.WorkedTrail.{did, first_calls}
use Rattle.worked_histories.specs.WorkedBroken.{append_unstored, append_out_of_range, append_falling, append_too_many}
use Rattle.worked_histories.specs.WorkedBroken.{append_too_heavy, with_part, one_row_to, one_row_state, short_version, few_version}
use Rattle.worked_histories.specs.WorkedBroken.{two_rows, two_rows_state, two_rows_version, falling_part, heavy_row, heavy_part}
use Rattle.history_core.specs.Answers.{own_of}
use Rattle.history_core.proofs.OneMore.{last_allowed}
use Rattle.worked_histories.proofs.WorkedParted.{one_part, step_is}
use Rattle.worked_histories.proofs.WorkedVersions.{reads4}
use Rattle.worked_histories.proofs.WorkedParts.{reads_early, reads_merged}
use Rattle.worked_histories.proofs.WorkedBrokenReadings.{reads_short, reads_few, reads_two_rows, reads_falling, reads_heavy}

-- the writer stored nothing but this under its first key
stored_only : (part b : List ℕ) → StoredAs (own_of (with_part part) 0) (key 0 1) b → b ≡ part
stored_only part b h = elim h [
  | inl a ↦ sym a.1
  | inr c ↦ elim c [
    | inl a ↦ absurd a
    | inr d ↦ elim d [
      | inl a ↦ absurd a
      | inr f ↦ elim f [ inl a ↦ absurd a | inr g ↦ absurd g ]
    ]
  ]
]

nothing_stored : (b : List ℕ) → StoredAs (own_of (first_calls 7) 0) (key 0 1) b → ⊥
nothing_stored b h = elim h [ inl a ↦ a | inr c ↦ elim c [ inl a ↦ a | inr d ↦ elim d [ inl a ↦ a | inr f ↦ f ] ] ]

pub appends_stored : Lawful append_unstored → ⊥
appends_stored l =
    let a : CasAllowed (own_of (first_calls 7) 0) the_shard 3 version4 =
    last_allowed (first_calls 7) (did 0 (Cas the_shard (Some 3) version4)) l in
    let h : AppendHolds (own_of (first_calls 7) 0) 0 (Some 5) (key 0 1 ∷ []) 1 1 =
    subst (Holds (own_of (first_calls 7) 0)) (sym (step_is state4 step4 reads4 a)) a.holds in
    nothing_stored h.hold.0 h.hold.3

one_row_less : ◌≡◌ {A = List Update} [] (early_row ∷ []) → ⊥
one_row_less e = cc

pub appends_in_range : Lawful append_out_of_range → ⊥
appends_in_range l =
    let a : CasAllowed (own_of (with_part early_part) 0) the_shard 3 short_version =
    last_allowed (first_calls 8) (did 0 (Cas the_shard (Some 3) short_version)) l in
    let h : AppendHolds (own_of (with_part early_part) 0) 0 (Some 1) (key 0 1 ∷ []) 1 1 =
    subst (Holds (own_of (with_part early_part) 0)) (sym (step_is (one_row_state 1 1) (one_row_to 1 1) reads_short a)) a.holds in
    let us : h.updates ≡ early_row ∷ [] =
    one_part (StoredAs (own_of (with_part early_part) 0)) (key 0 1) early_part (early_row ∷ [])
    h.updates (stored_only early_part) reads_early h.hold in
    one_row_less (subst (λ (rows : List Update). between (Some 0) (Some 1) rows ≡ rows) us h.in_range)

not_some : (rows : List Update) → ◌≡◌ {A = Option (List Update)} None (Some rows) → ⊥
not_some rows e = cc

pub appends_rising : Lawful append_falling → ⊥
appends_rising l =
    let a : CasAllowed (own_of (with_part falling_part) 0) the_shard 3 two_rows_version =
    last_allowed (with_part falling_part) (did 0 (Cas the_shard (Some 3) two_rows_version)) l in
    let h : AppendHolds (own_of (with_part falling_part) 0) 0 (Some 10) (key 0 1 ∷ []) 2 2 =
    subst (Holds (own_of (with_part falling_part) 0)) (sym (step_is two_rows_state two_rows reads_two_rows a)) a.holds in
    not_some h.hold.1 (sym reads_falling ∙ ap rows_in (sym (stored_only falling_part h.hold.0 h.hold.3)) ∙ h.hold.4)

two_not_one : ◌≡◌ {A = ℕ} 2 1 → ⊥
two_not_one e = omega arith

pub appends_counted : Lawful append_too_many → ⊥
appends_counted l =
    let a : CasAllowed (own_of (with_part merged_part) 0) the_shard 3 few_version =
    last_allowed (with_part merged_part) (did 0 (Cas the_shard (Some 3) few_version)) l in
    let h : AppendHolds (own_of (with_part merged_part) 0) 0 (Some 10) (key 0 1 ∷ []) 1 2 =
    subst (Holds (own_of (with_part merged_part) 0)) (sym (step_is (one_row_state 10 2) (one_row_to 10 2) reads_few a)) a.holds in
    let us : h.updates ≡ early_row ∷ late_row ∷ [] =
    one_part (StoredAs (own_of (with_part merged_part) 0)) (key 0 1) merged_part (early_row ∷ late_row ∷ [])
    h.updates (stored_only merged_part) reads_merged h.hold in
    two_not_one (subst (λ (rows : List Update). length rows ≡ 1) us h.count)

two_above_one : 2 ≤ 1 → ⊥
two_above_one h = omega arith

pub appends_weighed : Lawful append_too_heavy → ⊥
appends_weighed l =
    let a : CasAllowed (own_of (with_part heavy_part) 0) the_shard 3 version4 =
    last_allowed (with_part heavy_part) (did 0 (Cas the_shard (Some 3) version4)) l in
    let h : AppendHolds (own_of (with_part heavy_part) 0) 0 (Some 5) (key 0 1 ∷ []) 1 1 =
    subst (Holds (own_of (with_part heavy_part) 0)) (sym (step_is state4 step4 reads4 a)) a.holds in
    let us : h.updates ≡ heavy_row ∷ [] =
    one_part (StoredAs (own_of (with_part heavy_part) 0)) (key 0 1) heavy_part (heavy_row ∷ [])
    h.updates (stored_only heavy_part) reads_heavy h.hold in
    two_above_one (subst (λ (rows : List Update). weight_of rows ≤ 1) us h.light)
