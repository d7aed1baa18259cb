-- The history whose merge comes to nothing is lawful.
use Rattle.std.proofs.Common.{◌≡◌, List, Some, [], ◌∷◌, inl, inr, refl, subst, arith}
use Rattle.std.specs.List.Sorted.{IsStrictlySortedBy}
use Rattle.update_core.specs.declared.updates.Update.{Update}
use Rattle.update_core.specs.Totals.{consolidated}
use Rattle.update_core.specs.Updates.{IsCons, cons, moved}
use Rattle.update_core.proofs.UpdateLaws.{cons_is}
use Rattle.part_codec.specs.Parts.{Rising}
use Rattle.state_core.specs.States.{IsState}
use Rattle.state_core.specs.Steps.{Applies}
use Rattle.version_codec.specs.Reading.{version_in}
use Rattle.state_core.specs.declared.transitions.Transition.TheVariants.{Init}
use Rattle.history_core.specs.Readings.{rows_in}
use Rattle.history_core.specs.Discipline.{OwnLawful, Lawful}
use Rattle.history_core.specs.Stands.{accepted_of}
use Rattle.worked_histories.specs.Worked.{the_shard, early_row, early_part, state0, state1, state2, state3, state4, state5}
use Rattle.worked_histories.specs.Worked.{step1, step2, step3, step4, step5, version0, version1, version2, version3, version4, version5}
use Rattle.worked_histories.specs.WorkedCompacted.{undone_row, undone_part, advancing, advanced_state, advanced_version}
use Rattle.worked_histories.specs.WorkedCompacted.{compacting, compacted_state, compacted_version, compacted}
use Rattle.worked_histories.proofs.Opened.{opened_versions, opened_parts}
use Rattle.history_core.specs.Answers.{own_of}
use Rattle.worked_histories.proofs.WorkedVersions.{reads0, reads1, reads2, reads3, reads4, reads5}
use Rattle.worked_histories.proofs.WorkedParts.{reads_early}
use Rattle.worked_histories.proofs.WorkedStates.{applies1, applies2, applies3, applies4, applies5, two_keys}
use Rattle.worked_histories.proofs.WorkedFacts.{spends_not, joins0, joins1, joins2, one_not_two, early_not_late}
use Rattle.worked_histories.proofs.WorkedWriter.{early_rises}
use Rattle.worked_histories.proofs.WorkedLaw.{three_clients}

pub reads_advanced : version_in the_shard 6 advanced_version ≡ Some (advanced_state, advancing)
unfolding advanced_version opened_versions
reads_advanced = refl

pub reads_compacted : version_in the_shard 7 compacted_version ≡ Some (compacted_state, compacting)
unfolding compacted_version opened_versions
reads_compacted = refl

pub reads_undone : rows_in undone_part ≡ Some (undone_row ∷ [])
unfolding undone_part opened_parts
reads_undone = refl

rules_advanced : IsState advanced_state
rules_advanced = record {
  few = omega arith;
  rising = (omega arith, (omega arith, tt));
  known = (omega arith, (omega arith, (omega arith, tt)));
  joined = omega arith;
  holds = (omega arith, (omega arith, (omega arith, tt)));
  kinds = ((refl, refl, refl, refl), (refl, (refl, tt)));
  since = refl;
  spine = (refl, refl, (refl, refl, tt));
  upper_is = refl;
  sinces = (omega arith, (omega arith, tt));
  rows = omega arith;
  light = omega arith;
  parts = ((omega arith, omega arith), ((omega arith, omega arith), tt));
  keys = (
    record { of_shard = refl; below = omega arith; spent = ((λ e. omega arith), ((λ e. omega arith), ((λ e. omega arith), tt))) },
    (
      record {
        of_shard = refl;
        below = omega arith;
        spent = (
          (λ e. omega arith),
          (
            (λ e. omega arith),
            (
              (λ e. omega arith),
              tt,
            ),
          ),
        );
      },
      tt,
    ),
  );
  distinct = ((λ h. elim h [ inl e ↦ two_keys e | inr f ↦ f ]), ((λ h. h), tt));
}

rules_compacted : IsState compacted_state
rules_compacted = record {
  few = omega arith;
  rising = (omega arith, (omega arith, tt));
  known = (omega arith, (omega arith, (omega arith, tt)));
  joined = omega arith;
  holds = (omega arith, (omega arith, (omega arith, tt)));
  kinds = ((refl, refl, refl, refl), (refl, (refl, tt)));
  since = refl;
  spine = (refl, refl, tt);
  upper_is = refl;
  sinces = (omega arith, tt);
  rows = omega arith;
  light = omega arith;
  parts = ((omega arith, omega arith), tt);
  keys = tt;
  distinct = tt;
}

applies_advanced : Applies state5 advancing advanced_state
applies_advanced = record {
  room = omega arith;
  makes = record { stands = inr (inr (inl (refl, (refl, omega arith)))); effect = refl };
  rules = rules_advanced;
}

applies_compacted : Applies advanced_state compacting compacted_state
applies_compacted = record {
  room = omega arith;
  makes = record {
    shape = record {
      joins = refl;
      lower = refl;
      upper = refl;
      from_left = omega arith;
      from_right = omega arith;
      since = omega arith;
      rows = omega arith;
      keys = tt;
      count = (omega arith, omega arith);
    };
    stands = inr (inl (refl, (refl, omega arith)));
    before = [];
    behind = [];
    present = refl;
    effect = refl;
  };
  rules = rules_compacted;
}

nothing_left : cons (moved (early_row ∷ undone_row ∷ []) 8) ≡ []
unfolding consolidated
nothing_left = refl

cancels : IsCons (moved (early_row ∷ undone_row ∷ []) 8) []
cancels = subst (λ (cs : List Update). IsCons (moved (early_row ∷ undone_row ∷ []) 8) cs) nothing_left
    (cons_is (moved (early_row ∷ undone_row ∷ []) 8))

undone_rises : Rising (undone_row ∷ [])
unfolding IsStrictlySortedBy
undone_rises = (tt, tt)

own_lawful : OwnLawful (own_of compacted 0)
own_lawful = (
  record {
    from = advanced_state;
    to = compacted_state;
    step = compacting;
    shown = (advanced_version, advancing, inr (inr (inl (refl, refl, refl))), reads_advanced);
    written = reads_compacted;
    applies = applies_compacted;
    owned = inr (inr (inr (inr (inr (inr (inr (inr (inl (refl, joins1)))))))));
    holds = record {
      inputs = early_row ∷ undone_row ∷ [];
      outputs = [];
      read = (
        early_part,
        early_row ∷ [],
        undone_row ∷ [],
        inr (inl (refl, refl)),
        reads_early,
        refl,
        (undone_part, undone_row ∷ [], [], inl (refl, refl), reads_undone, refl, refl),
      );
      hold = refl;
      cons = cancels;
      count = refl;
    };
  },
  (
    tt,
    (
      tt,
      (
        record {
          from = state5;
          to = advanced_state;
          step = advancing;
          shown = (version5, step5, inl (refl, refl, refl), reads5);
          written = reads_advanced;
          applies = applies_advanced;
          owned = inr (inr (inr (inr (inl (refl, joins2)))));
          holds = tt;
        },
        (
          record {
            from = state4;
            to = state5;
            step = step5;
            shown = (version4, step4, inr (inl (refl, refl, refl)), reads4);
            written = reads5;
            applies = applies5;
            owned = inr (inr (inr (inr (inr (inl (refl, joins0))))));
            holds = record {
              updates = undone_row ∷ [];
              hold = (
                undone_part,
                undone_row ∷ [],
                [],
                inl (refl, refl),
                reads_undone,
                refl,
                refl,
              );
              rising = undone_rises;
              in_range = refl;
              count = refl;
              light = omega arith;
            };
          },
          (
            record {
              owned = inr (inr (inr (inr (inl (refl, joins0)))));
              fresh = λ h. elim h [
                | inl a ↦ spends_not _ state4 step4 0 2 reads4 (λ p. one_not_two p.1) a.1
                | inr b ↦ elim b [
                  | inl a ↦ a
                  | inr c ↦ elim c [
                    | inl a ↦ spends_not _ state3 step3 0 2 reads3 (λ p. p) a.1
                    | inr d ↦ elim d [
                      | inl a ↦ spends_not _ state2 step2 0 2 reads2 (λ p. p) a.1
                      | inr f ↦ elim f [
                        | inl a ↦ spends_not _ state1 step1 0 2 reads1 (λ p. p) a.1
                        | inr g ↦ elim g [
                          | inl a ↦ a
                          | inr k ↦ k
                        ]
                      ]
                    ]
                  ]
                ]
              ];
              same = (tt, ((λ e. absurd (early_not_late e)), (tt, (tt, (tt, (tt, tt))))));
            },
            (
              record {
                from = state3;
                to = state4;
                step = step4;
                shown = (version3, step3, inr (inl (refl, refl, refl)), reads3);
                written = reads4;
                applies = applies4;
                owned = inr (inr (inr (inl (refl, joins0))));
                holds = record {
                  updates = early_row ∷ [];
                  hold = (early_part, early_row ∷ [], [], inl (refl, refl), reads_early, refl, refl);
                  rising = early_rises;
                  in_range = refl;
                  count = refl;
                  light = omega arith;
                };
              },
              (
                record {
                  owned = inr (inr (inl (refl, joins0)));
                  fresh = λ h. elim h [
                    | inl a ↦ spends_not _ state3 step3 0 1 reads3 (λ p. p) a.1
                    | inr d ↦ elim d [
                      | inl a ↦ spends_not _ state2 step2 0 1 reads2 (λ p. p) a.1
                      | inr f ↦ elim f [ inl a ↦ spends_not _ state1 step1 0 1 reads1 (λ p. p) a.1 | inr g ↦ elim g [ inl a ↦ a | inr k ↦ k ] ]
                    ]
                  ];
                  same = (tt, (tt, (tt, (tt, tt))));
                },
                (
                  record {
                    from = state2;
                    to = state3;
                    step = step3;
                    shown = (version2, step2, inl (refl, refl, refl), reads2);
                    written = reads3;
                    applies = applies3;
                    owned = tt;
                    holds = tt;
                  },
                  (
                    record {
                      from = state1;
                      to = state2;
                      step = step2;
                      shown = (version1, step1, inl (refl, refl, refl), reads1);
                      written = reads2;
                      applies = applies2;
                      owned = tt;
                      holds = tt;
                    },
                    (
                      record {
                        from = state0;
                        to = state1;
                        step = step1;
                        shown = (version0, Init, inl (refl, refl, refl), reads0);
                        written = reads1;
                        applies = applies1;
                        owned = tt;
                        holds = tt;
                      },
                      (reads0, tt),
                    ),
                  ),
                ),
              ),
            ),
          ),
        ),
      ),
    ),
  ),
)

pub compacted_lawful : Lawful compacted
compacted_lawful = three_clients compacted own_lawful tt tt (search arith)

pub compacted_accepts : accepted_of the_shard [] compacted ≡ early_row ∷ undone_row ∷ []
compacted_accepts = simp (reads1, reads2, reads3, reads4, reads5, reads_advanced, reads_compacted, reads_early, reads_undone)
