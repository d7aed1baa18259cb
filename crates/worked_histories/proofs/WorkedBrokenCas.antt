-- Commits of broken histories that aren't allowed: at a version unseen, for another's member, with a state that isn't made, and
-- a merge that loses a row.
use Rattle.std.proofs.Common.{◌≡◌, ◌∙◌, ℕ, List, [], ◌∷◌, length, pos, Option, Some, inl, inr, sym, ap, subst}
use Rattle.std.proofs.Common.{arith}
use Rattle.update_core.specs.declared.updates.Update.{Update}
use Rattle.update_core.specs.Updates.{IsCons, moved}
use Rattle.store_core.specs.declared.calls.Call.TheVariants.{Cas}
use Rattle.state_core.specs.declared.transitions.Transition.{Transition}
use Rattle.state_core.specs.States.{ShardState}
use Rattle.state_core.specs.Steps.{Applies, acts_for}
use Rattle.version_codec.specs.Reading.{version_in}
use Rattle.history_core.specs.Discipline.{JoinsAs, GotAs, StoredAs, CasAllowed, MergeHolds, OwnsSome, Holds, Lawful, ShowsState}
use Rattle.worked_histories.specs.Worked.{the_shard, key, early_batch, late_batch, early_row, late_row, early_part, late_part}
use Rattle.worked_histories.specs.Worked.{state2, state3, state6, state7, step2, step3, step4, step6, step7, version2, version3}
use Rattle.worked_histories.specs.Worked.{version7}
use Rattle.worked_histories.specs.WorkedTrail.{did, first_calls}
use Rattle.worked_histories.specs.WorkedBroken.{cas_unseen, cas_for_another, cas_misapplied, merge_dropping, with_dropped}
use Rattle.worked_histories.specs.WorkedBroken.{forgetful_state, forgetful_version, dropping_batch, dropping, dropping_state}
use Rattle.worked_histories.specs.WorkedBroken.{dropping_version}
use Rattle.history_core.specs.Answers.{own_of}
use Rattle.history_core.proofs.OneMore.{last_allowed}
use Rattle.worked_histories.proofs.WorkedParted.{one_value, one_part, two_parts, step_is, state_is}
use Rattle.worked_histories.proofs.WorkedVersions.{reads2, reads3, reads6, reads7}
use Rattle.worked_histories.proofs.WorkedParts.{reads_early, reads_late}
use Rattle.worked_histories.proofs.WorkedFacts.{early_not_late}
use Rattle.worked_histories.proofs.WorkedBrokenReadings.{reads_forgetful, reads_dropping}

pub cas_seen : Lawful cas_unseen → ⊥
cas_seen l = (last_allowed (first_calls 2) (did 1 (Cas the_shard (Some 1) version2)) l).shown.2

two_not_three : ◌≡◌ {A = ℕ} 2 3 → ⊥
two_not_three e = omega arith

joins_not : (o : Option (ShardState × Transition)) (s : ShardState) (x : Transition) (m : ℕ) → o ≡ Some (s, x) → JoinsAs o m →
    JoinsAs (Some (s, x)) m
joins_not o s x m e h = subst (λ (p : Option (ShardState × Transition)). JoinsAs p m) e h

keeper_is_not_reader : OwnsSome (own_of (first_calls 17) 1) the_shard (Some 2) → ⊥
keeper_is_not_reader h = elim h [
  | inl a ↦ joins_not _ state6 step6 2 reads6 a.1
  | inr b ↦ elim b [
    | inl a ↦ a
    | inr c ↦ elim c [
      | inl a ↦ a
      | inr d ↦ elim d [
        | inl a ↦ a
        | inr f ↦ elim f [
          | inl a ↦ a
          | inr g ↦ elim g [
            | inl a ↦ two_not_three (joins_not _ state2 step2 2 reads2 a.1)
            | inr k ↦ elim k [ inl a ↦ a | inr n ↦ n ]
          ]
        ]
      ]
    ]
  ]
]

pub cas_own : Lawful cas_for_another → ⊥
cas_own l =
    let a : CasAllowed (own_of (first_calls 17) 1) the_shard 6 version7 =
    last_allowed (first_calls 17) (did 1 (Cas the_shard (Some 6) version7)) l in
    keeper_is_not_reader (subst (λ (x : Transition). OwnsSome (own_of (first_calls 17) 1) the_shard (acts_for x))
    (sym (step_is state7 step7 reads7 a)) a.owned)

one_not_three : ◌≡◌ {A = ℕ} 1 3 → ⊥
one_not_three e = omega arith

zero_not_three : ◌≡◌ {A = ℕ} 0 3 → ⊥
zero_not_three e = omega arith

-- what the writer was shown at version 3 is state 3
shown_three : (s : ShardState) → ShowsState (own_of (first_calls 8) 0) the_shard 3 s → s ≡ state3
shown_three s (b, x, shown, reads) =
    let is : b ≡ version3 = elim shown [
      | inl a ↦ absurd a
      | inr c ↦ elim c [
        | inl a ↦ elim a.1 [ inl d ↦ absurd (two_not_three d.0) | inr f ↦ elim f [ inl g ↦ sym g.1 | inr k ↦ absurd k ] ]
        | inr d ↦ elim d [
          | inl a ↦ absurd (one_not_three a.1)
          | inr f ↦ elim f [
            | inl a ↦ absurd (zero_not_three a.1)
            | inr k ↦ absurd k
          ]
        ]
      ]
    ] in
    ap (λ (p : ShardState × Transition). p.0) (one_value (version_in the_shard 3 b) (s, x) (
      state3,
      step3,
    ) reads (ap (version_in the_shard 3) is ∙ reads3))

not_made : Applies state3 step4 forgetful_state → ⊥
not_made a = two_not_three (ap (λ (s : ShardState). length s.members) a.makes.effect)

pub cas_applies : Lawful cas_misapplied → ⊥
cas_applies l =
    let a : CasAllowed (own_of (first_calls 8) 0) the_shard 3 forgetful_version =
    last_allowed (first_calls 8) (did 0 (Cas the_shard (Some 3) forgetful_version)) l in
    let from : Applies state3 a.step a.to =
    subst (λ (s : ShardState). Applies s a.step a.to) (shown_three a.from a.shown) a.applies in
    let by : Applies state3 step4 a.to =
    subst (λ (x : Transition). Applies state3 x a.to) (sym (step_is forgetful_state step4 reads_forgetful a)) from in
    not_made (subst (λ (s : ShardState). Applies state3 step4 s) (sym (state_is forgetful_state step4 reads_forgetful a)) by)

stored_only : (b : List ℕ) → StoredAs (own_of with_dropped 1) (key 1 1) b → b ≡ early_part
stored_only b h = elim h [
  | inl a ↦ sym a.1
  | inr c ↦ elim c [
    | inl a ↦ absurd a
    | inr d ↦ elim d [
      | inl a ↦ absurd a
      | inr f ↦ elim f [
        | inl a ↦ absurd a
        | inr g ↦ elim g [
          | inl a ↦ absurd a
          | inr k ↦ elim k [
            | inl a ↦ absurd a
            | inr n ↦ absurd n
          ]
        ]
      ]
    ]
  ]
]

got_early : (b : List ℕ) → GotAs (own_of with_dropped 1) (key 0 1) b → b ≡ early_part
got_early b h = elim h [
  | inl a ↦ absurd a
  | inr c ↦ elim c [
    | inl a ↦ absurd (early_not_late (sym a.0))
    | inr d ↦ elim d [
      | inl a ↦ sym a.1
      | inr f ↦ elim f [
        | inl a ↦ absurd a
        | inr g ↦ elim g [
          | inl a ↦ absurd a
          | inr k ↦ elim k [ inl a ↦ absurd a | inr n ↦ absurd n ]
        ]
      ]
    ]
  ]
]

got_late : (b : List ℕ) → GotAs (own_of with_dropped 1) (key 0 2) b → b ≡ late_part
got_late b h = elim h [
  | inl a ↦ absurd a
  | inr c ↦ elim c [
    | inl a ↦ sym a.1
    | inr d ↦ elim d [
      | inl a ↦ absurd (early_not_late a.0)
      | inr f ↦ elim f [
        | inl a ↦ absurd a
        | inr g ↦ elim g [ inl a ↦ absurd a | inr k ↦ elim k [ inl a ↦ absurd a | inr n ↦ absurd n ] ]
      ]
    ]
  ]
]

row_lost : IsCons (moved (early_row ∷ late_row ∷ []) 0) (early_row ∷ []) → ⊥
row_lost h = let e : pos 0 ≡ pos 1 = h.same (98 ∷ [], 6) in cc

pub merge_keeps : Lawful merge_dropping → ⊥
merge_keeps l =
    let a : CasAllowed (own_of with_dropped 1) the_shard 5 dropping_version =
    last_allowed with_dropped (did 1 (Cas the_shard (Some 5) dropping_version)) l in
    let h : MergeHolds (own_of with_dropped 1) early_batch late_batch dropping_batch =
    subst (Holds (own_of with_dropped 1)) (sym (step_is dropping_state dropping reads_dropping a)) a.holds in
    let ins : h.inputs ≡ early_row ∷ late_row ∷ [] =
    two_parts (GotAs (own_of with_dropped 1)) (key 0 1) (key 0 2) early_part late_part (early_row ∷ []) (late_row ∷ [])
    h.inputs got_early reads_early got_late reads_late h.read in
    let outs : h.outputs ≡ early_row ∷ [] =
    one_part (StoredAs (own_of with_dropped 1)) (key 1 1) early_part (early_row ∷ []) h.outputs stored_only reads_early h.hold in
    row_lost (subst (λ (us : List Update). IsCons (moved (early_row ∷ late_row ∷ []) 0) us) outs
    (subst (λ (us : List Update). IsCons (moved us 0) h.outputs) ins h.cons))
