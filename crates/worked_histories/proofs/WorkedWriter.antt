-- Each call of the worked history's writer is allowed by those before it.
use Rattle.std.proofs.Common.{ℕ, List, [], ◌∷◌, inl, inr, refl, arith}
use Rattle.std.specs.List.Sorted.{IsStrictlySortedBy}
use Rattle.part_codec.specs.Parts.{Rising}
use Rattle.history_core.specs.Discipline.{SetAllowed, OwnLawful}
use Rattle.worked_histories.specs.Worked.{key, early_row, late_row, early_part, late_part, state0, state1, state3, state4, state5}
use Rattle.worked_histories.specs.Worked.{step1, step3, step4, step5, version0, version3, version4}
use Rattle.worked_histories.specs.WorkedTrail.{worked, first_calls}
use Rattle.state_core.specs.declared.transitions.Transition.TheVariants.{Init}
use Rattle.history_core.specs.Answers.{own_of}
use Rattle.worked_histories.proofs.WorkedVersions.{reads0, reads1, reads3, reads4, reads5}
use Rattle.worked_histories.proofs.WorkedParts.{reads_early, reads_late}
use Rattle.worked_histories.proofs.WorkedStates.{applies1, applies4, applies5}
use Rattle.worked_histories.proofs.WorkedFacts.{spends_not, joins0, one_not_two, early_not_late}

pub early_rises : Rising (early_row ∷ [])
unfolding IsStrictlySortedBy
early_rises = (tt, tt)

late_rises : Rising (late_row ∷ [])
unfolding IsStrictlySortedBy
late_rises = (tt, tt)

-- the writer may set its first key to any bytes, once it has joined
pub may_set_early : (b : List ℕ) → SetAllowed (own_of (first_calls 7) 0) (key 0 1) b
may_set_early b = record {
  owned = inr (inl (refl, joins0));
  fresh = λ h. elim h [
    | inl a ↦ a
    | inr b ↦ elim b [
      | inl a ↦ spends_not _ state1 step1 0 1 reads1 (λ p. p) a.1
      | inr d ↦ elim d [ inl a ↦ a | inr k ↦ k ]
    ]
  ];
  same = (tt, (tt, (tt, tt)));
}

pub writer_lawful : OwnLawful (own_of worked 0)
writer_lawful = (
  record {
    from = state4;
    to = state5;
    step = step5;
    shown = (version4, step4, inr (inl (refl, refl, refl)), reads4);
    written = reads5;
    applies = applies5;
    owned = inr (inr (inr (inr (inl (refl, joins0)))));
    holds = record {
      updates = late_row ∷ [];
      hold = (late_part, late_row ∷ [], [], inl (refl, refl), reads_late, refl, refl);
      rising = late_rises;
      in_range = refl;
      count = refl;
      light = omega arith;
    };
  },
  (
    record {
      owned = inr (inr (inr (inl (refl, joins0))));
      fresh = λ h. elim h [
        | inl a ↦ spends_not _ state4 step4 0 2 reads4 (λ p. one_not_two p.1) a.1
        | inr b ↦ elim b [
          | inl a ↦ a
          | inr d ↦ elim d [
            | inl a ↦ a
            | inr f ↦ elim f [
              | inl a ↦
                  spends_not _ state1 step1 0 2 reads1 (λ p. p) a.1
              | inr g ↦ elim g [ inl a ↦ a | inr k ↦ k ]
            ]
          ]
        ]
      ];
      same = (tt, ((λ e. absurd (early_not_late e)), (tt, (tt, (tt, tt)))));
    },
    (
      record {
        from = state3;
        to = state4;
        step = step4;
        shown = (version3, step3, inr (inl (refl, inr (inl (refl, refl)))), reads3);
        written = reads4;
        applies = applies4;
        owned = inr (inr (inl (refl, joins0)));
        holds = record {
          updates = early_row ∷ [];
          hold = (
            early_part,
            early_row ∷ [],
            [],
            inl (refl, refl),
            reads_early,
            refl,
            refl,
          );
          rising = early_rises;
          in_range = refl;
          count = refl;
          light = omega arith;
        };
      },
      (
        may_set_early early_part,
        (
          tt,
          (
            record {
              from = state0;
              to = state1;
              step = step1;
              shown = (version0, Init, inl (refl, refl, refl), reads0);
              written = reads1;
              applies = applies1;
              owned = tt;
              holds = tt;
            },
            (reads0, tt),
          ),
        ),
      ),
    ),
  ),
)
