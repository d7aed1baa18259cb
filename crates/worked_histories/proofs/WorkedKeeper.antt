-- Each call of the worked history's keeper is allowed by those before it.
use Rattle.std.proofs.Common.{ℕ, List, [], ◌∷◌, inl, inr, refl}
use Rattle.std.specs.List.Sorted.{IsStrictlySortedBy}
use Rattle.update_core.specs.Updates.{IsCons, moved}
use Rattle.history_core.specs.Discipline.{SetAllowed, OwnLawful}
use Rattle.worked_histories.specs.Worked.{key, early_row, late_row, early_part, late_part, merged_part, state1, state2, state5}
use Rattle.worked_histories.specs.Worked.{state6, state7, state8, step1, step2, step5, step6, step7, step8, version1, version5}
use Rattle.worked_histories.specs.Worked.{version7}
use Rattle.worked_histories.specs.WorkedTrail.{worked, first_calls}
use Rattle.history_core.specs.Answers.{own_of}
use Rattle.worked_histories.proofs.WorkedVersions.{reads1, reads2, reads5, reads6, reads7, reads8}
use Rattle.worked_histories.proofs.WorkedParts.{reads_early, reads_late, reads_merged}
use Rattle.worked_histories.proofs.WorkedStates.{applies2, applies6, applies8}
use Rattle.worked_histories.proofs.WorkedFacts.{spends_not, joins1}

pub merged_is : IsCons (moved (early_row ∷ late_row ∷ []) 0) (early_row ∷ late_row ∷ [])
unfolding IsStrictlySortedBy
merged_is = record { rising = ((refl, tt), (tt, tt)); nonzero = ((λ e. cc), ((λ e. cc), tt)); same = λ k. refl }

-- the keeper may set its key to any bytes, once it has read what it merges
pub may_set_merged : (b : List ℕ) → SetAllowed (own_of (first_calls 14) 1) (key 1 1) b
may_set_merged b = record {
  owned = inr (inr (inr (inl (refl, joins1))));
  fresh = λ h. elim h [
    | inl a ↦ a
    | inr b ↦ elim b [
      | inl a ↦ a
      | inr d ↦ elim d [
        | inl a ↦ a
        | inr f ↦ elim f [
          | inl a ↦ spends_not _ state2 step2 1 1 reads2 (λ p. p) a.1
          | inr g ↦ elim g [
            | inl a ↦ a
            | inr k ↦ k
          ]
        ]
      ]
    ]
  ];
  same = (tt, (tt, (tt, (tt, (tt, tt)))));
}

pub keeper_lawful : OwnLawful (own_of worked 1)
keeper_lawful = (
  record {
    from = state7;
    to = state8;
    step = step8;
    shown = (version7, step7, inl (refl, inl (refl, refl)), reads7);
    written = reads8;
    applies = applies8;
    owned = inr (inr (inr (inr (inr (inr (inl (refl, joins1)))))));
    holds = tt;
  },
  (
    tt,
    (
      record {
        from = state5;
        to = state6;
        step = step6;
        shown = (version5, step5, inr (inr (inr (inl (refl, inr (inr (inl (refl, refl))))))), reads5);
        written = reads6;
        applies = applies6;
        owned = inr (inr (inr (inr (inl (refl, joins1)))));
        holds = record {
          inputs = early_row ∷ late_row ∷ [];
          outputs = early_row ∷ late_row ∷ [];
          read = (
            early_part,
            early_row ∷ [],
            late_row ∷ [],
            inr (inr (inl (refl, refl))),
            reads_early,
            refl,
            (
              late_part,
              late_row ∷ [],
              [],
              inr (inl (refl, refl)),
              reads_late,
              refl,
              refl,
            ),
          );
          hold = (merged_part, early_row ∷ late_row ∷ [], [], inl (refl, refl), reads_merged, refl, refl);
          cons = merged_is;
          count = refl;
        };
      },
      (
        may_set_merged merged_part,
        (
          tt,
          (
            tt,
            (
              tt,
              (
                record {
                  from = state1;
                  to = state2;
                  step = step2;
                  shown = (
                    version1,
                    step1,
                    inl (
                      refl,
                      inr (inl (
                        refl,
                        refl,
                      )),
                    ),
                    reads1,
                  );
                  written = reads2;
                  applies = applies2;
                  owned = tt;
                  holds = tt;
                },
                (tt, tt),
              ),
            ),
          ),
        ),
      ),
    ),
  ),
)
