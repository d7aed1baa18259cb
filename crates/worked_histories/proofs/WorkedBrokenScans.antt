-- Deletes and Truncates of broken histories that aren't allowed.
use Rattle.std.proofs.Common.{◌≡◌, ℕ, ◌≤◌, ◌<◌, List, [], ◌∷◌, Option, Some, inl, inr, ap, arith}
use Rattle.store_core.specs.declared.part_keys.PartKey.{PartKey}
use Rattle.store_core.specs.declared.versions.Version.{Version}
use Rattle.store_core.specs.declared.calls.Call.TheVariants.{Delete, Truncate}
use Rattle.store_core.specs.Stores.{numbered}
use Rattle.state_core.specs.declared.transitions.Transition.{Transition}
use Rattle.state_core.specs.declared.transitions.Transition.TheVariants.{Init}
use Rattle.state_core.specs.States.{ShardState, floor}
use Rattle.state_core.specs.Steps.{Takes}
use Rattle.history_core.specs.Discipline.{TakenUpTo, NewestIs, AllDeleted, Lawful}
use Rattle.worked_histories.specs.Worked.{the_shard, key, state0, state1, state2, state3, state4, state5, state6, state7, state8}
use Rattle.worked_histories.specs.Worked.{step1, step2, step3, step4, step5, step6, step7, step8, version0, version1, version2}
use Rattle.worked_histories.specs.Worked.{version3, version4, version5, version6, version7, version8}
use Rattle.worked_histories.specs.WorkedTrail.{did, first_calls}
use Rattle.worked_histories.specs.WorkedBroken.{delete_above_floor, delete_untaken, truncate_before_deletes, truncate_past_floor}
use Rattle.history_core.specs.Answers.{own_of}
use Rattle.history_core.proofs.OneMore.{last_allowed}
use Rattle.worked_histories.proofs.WorkedParted.{one_value}
use Rattle.worked_histories.proofs.WorkedFacts.{takes_of, takes_late, early_not_late}
use Rattle.worked_histories.proofs.WorkedVersions.{reads0, reads1, reads2, reads3, reads4, reads5, reads6, reads7, reads8}

-- the versions that the three Scans of client 2 show
abbrev three : List Version
three = numbered 0 (version0 ∷ version1 ∷ version2 ∷ [])

abbrev seven : List Version
seven = numbered 0 (version0 ∷ version1 ∷ version2 ∷ version3 ∷ version4 ∷ version5 ∷ version6 ∷ [])

abbrev pub nine : List Version
nine = numbered 0 (version0 ∷ version1 ∷ version2 ∷ version3 ∷ version4 ∷ version5 ∷ version6 ∷ version7 ∷ version8 ∷ [])

taken_in_three : (top : ℕ) (k : PartKey) → TakenUpTo the_shard top three k → ⊥
taken_in_three top k h = elim h [
  | inl a ↦ absurd (takes_of _ state0 Init k reads0 a.1)
  | inr rest0 ↦ elim rest0 [
    | inl a ↦ absurd (takes_of _ state1 step1 k reads1 a.1)
    | inr rest1 ↦ elim rest1 [
      | inl a ↦ absurd (takes_of _ state2 step2 k reads2 a.1)
      | inr rest2 ↦ absurd rest2
    ]
  ]
]

taken_in_seven : (top : ℕ) (k : PartKey) → TakenUpTo the_shard top seven k → (6 ≤ top) × Takes step6 k
taken_in_seven top k h = elim h [
  | inl a ↦ absurd (takes_of _ state0 Init k reads0 a.1)
  | inr rest0 ↦ elim rest0 [
    | inl a ↦ absurd (takes_of _ state1 step1 k reads1 a.1)
    | inr rest1 ↦ elim rest1 [
      | inl a ↦ absurd (takes_of _ state2 step2 k reads2 a.1)
      | inr rest2 ↦ elim rest2 [
        | inl a ↦ absurd (takes_of _ state3 step3 k reads3 a.1)
        | inr rest3 ↦ elim rest3 [
          | inl a ↦ absurd (takes_of _ state4 step4 k reads4 a.1)
          | inr rest4 ↦ elim rest4 [
            | inl a ↦ absurd (takes_of _ state5 step5 k reads5 a.1)
            | inr rest5 ↦ elim rest5 [
              | inl a ↦ (a.0, takes_of _ state6 step6 k reads6 a.1)
              | inr rest6 ↦ absurd rest6
            ]
          ]
        ]
      ]
    ]
  ]
]

pub taken_in_nine : (top : ℕ) (k : PartKey) → TakenUpTo the_shard top nine k → (6 ≤ top) × Takes step6 k
taken_in_nine top k h = elim h [
  | inl a ↦ absurd (takes_of _ state0 Init k reads0 a.1)
  | inr rest0 ↦ elim rest0 [
    | inl a ↦ absurd (takes_of _ state1 step1 k reads1 a.1)
    | inr rest1 ↦ elim rest1 [
      | inl a ↦ absurd (takes_of _ state2 step2 k reads2 a.1)
      | inr rest2 ↦ elim rest2 [
        | inl a ↦ absurd (takes_of _ state3 step3 k reads3 a.1)
        | inr rest3 ↦ elim rest3 [
          | inl a ↦ absurd (takes_of _ state4 step4 k reads4 a.1)
          | inr rest4 ↦ elim rest4 [
            | inl a ↦ absurd (takes_of _ state5 step5 k reads5 a.1)
            | inr rest5 ↦ elim rest5 [
              | inl a ↦ (a.0, takes_of _ state6 step6 k reads6 a.1)
              | inr rest6 ↦ elim rest6 [
                | inl a ↦ absurd (takes_of _ state7 step7 k reads7 a.1)
                | inr rest7 ↦ elim rest7 [
                  | inl a ↦ absurd (takes_of _ state8 step8 k reads8 a.1)
                  | inr rest8 ↦ absurd rest8
                ]
              ]
            ]
          ]
        ]
      ]
    ]
  ]
]

last_is : (o : Option (ShardState × Transition)) (s last : ShardState) (x y : Transition) → o ≡ Some (last, y) → o ≡ Some (
  s,
  x,
) → s ≡ last
last_is o s last x y e f = ap (λ (p : ShardState × Transition). p.0) (one_value o (s, x) (last, y) f e)

-- the floors of the states that those Scans end with
floor_of_three : (s : ShardState) → NewestIs the_shard three s → floor s ≡ 2
floor_of_three s h = ap floor (last_is _ s state2 h.0 step2 reads2 h.1)

floor_of_seven : (s : ShardState) → NewestIs the_shard seven s → floor s ≡ 3
floor_of_seven s h = ap floor (last_is _ s state6 h.0 step6 reads6 h.1)

pub floor_of_nine : (s : ShardState) → NewestIs the_shard nine s → floor s ≡ 8
floor_of_nine s h = ap floor (last_is _ s state8 h.0 step8 reads8 h.1)

above : (s : ShardState) (n m : ℕ) → floor s ≡ n → n < m → m ≤ floor s → ⊥
above s n m e lt h = omega arith

merged_untaken : Takes step6 (key 1 1) → ⊥
merged_untaken h = elim h [
  | inl e ↦ zero_not_one (ap (λ (k : PartKey). k.member) e)
  | inr f ↦ elim f [ inl e ↦ zero_not_one (ap (λ (k : PartKey). k.member) e) | inr g ↦ g ]
]
  where
    zero_not_one : ◌≡◌ {A = ℕ} 0 1 → ⊥
    zero_not_one e = omega arith

pub deletes_below_floor : Lawful delete_above_floor → ⊥
deletes_below_floor l = elim (last_allowed (first_calls 17) (did 2 (Delete (key 0 1))) l) [
  | inl a ↦ above a.1.0 3 6 (floor_of_seven a.1.0 a.1.1) (omega arith) (taken_in_seven (floor a.1.0) (key 0 1) a.1.2).0
  | inr b ↦ elim b [ inl a ↦ a | inr c ↦ elim c [ inl a ↦ taken_in_three (floor a.1.0) (key 0 1) a.1.2 | inr d ↦ d ] ]
]

pub deletes_taken : Lawful delete_untaken → ⊥
deletes_taken l = elim (last_allowed (first_calls 21) (did 2 (Delete (key 1 1))) l) [
  | inl a ↦ merged_untaken (taken_in_nine (floor a.1.0) (key 1 1) a.1.2).1
  | inr b ↦ elim b [
    | inl a ↦ a
    | inr c ↦ elim c [
      | inl a ↦ merged_untaken (taken_in_seven (floor a.1.0) (key 1 1) a.1.2).1
      | inr d ↦ elim d [ inl a ↦ a | inr f ↦ elim f [ inl a ↦ taken_in_three (floor a.1.0) (key 1 1) a.1.2 | inr g ↦ g ] ]
    ]
  ]
]

pub truncates_to_floor : Lawful truncate_past_floor → ⊥
truncates_to_floor l = elim (last_allowed (first_calls 23) (did 2 (Truncate the_shard 9)) l) [
  | inl a ↦ a
  | inr b ↦ elim b [
    | inl a ↦ a
    | inr c ↦ elim c [
      | inl a ↦ above a.2.0 8 9 (floor_of_nine a.2.0 a.2.1) (omega arith) a.2.2
      | inr d ↦ elim d [
        | inl a ↦ a
        | inr f ↦ elim f [
          | inl a ↦ above a.2.0 3 9 (floor_of_seven a.2.0 a.2.1) (omega arith) a.2.2
          | inr g ↦ elim g [
            | inl a ↦ a
            | inr k ↦ elim k [
              | inl a ↦
                  above a.2.0 2 9 (floor_of_three a.2.0 a.2.1) (omega arith) a.2.2
              | inr n ↦ n
            ]
          ]
        ]
      ]
    ]
  ]
]

late_undeleted : AllDeleted (own_of (first_calls 22) 2) the_shard 8 nine → ⊥
late_undeleted h = elim (h.1.1.1.1.1.1.0 (omega arith) (key 0 2) takes_late) [
  | inl e ↦ early_not_late e
  | inr b ↦ elim b [
    | inl a ↦ a
    | inr c ↦ elim c [
      | inl a ↦ a
      | inr d ↦ elim d [
        | inl a ↦ a
        | inr f ↦ elim f [
          | inl a ↦ a
          | inr g ↦ elim g [ inl a ↦ a | inr k ↦ k ]
        ]
      ]
    ]
  ]
]

pub truncates_after_deletes : Lawful truncate_before_deletes → ⊥
truncates_after_deletes l = elim (last_allowed (first_calls 22) (did 2 (Truncate the_shard 8)) l) [
  | inl a ↦ a
  | inr c ↦ elim c [
    | inl a ↦ late_undeleted a.2.3
    | inr d ↦ elim d [
      | inl a ↦ a
      | inr f ↦ elim f [
        | inl a ↦ above a.2.0 3 8 (floor_of_seven a.2.0 a.2.1) (omega arith) a.2.2
        | inr g ↦ elim g [
          | inl a ↦ a
          | inr k ↦ elim k [
            | inl a ↦
                above a.2.0 2 8 (floor_of_three a.2.0 a.2.1) (omega arith) a.2.2
            | inr n ↦ n
          ]
        ]
      ]
    ]
  ]
]
