-- Each call of the worked history's reader, which collects in the end, is allowed by those before it.
use Rattle.std.proofs.Common.{inl, inr, refl, arith}
use Rattle.history_core.specs.Discipline.{OwnLawful}
use Rattle.worked_histories.specs.Worked.{state0, state1, state2, state3, state4, state5, state6, state7, state8, step1, step2}
use Rattle.worked_histories.specs.Worked.{step3, step4, step5, step6, step7, step8, version2, version6}
use Rattle.worked_histories.specs.WorkedTrail.{worked}
use Rattle.state_core.specs.declared.transitions.Transition.TheVariants.{Init}
use Rattle.history_core.specs.Answers.{own_of}
use Rattle.worked_histories.proofs.WorkedVersions.{reads0, reads1, reads2, reads3, reads4, reads5, reads6, reads7, reads8}
use Rattle.worked_histories.proofs.WorkedStates.{applies3, applies7}
use Rattle.worked_histories.proofs.WorkedFacts.{takes_of, joins2, takes_early, takes_late}

pub reader_lawful : OwnLawful (own_of worked 2)
reader_lawful = (
  inr (inr (inl (
    refl,
    refl,
    (
      state8,
      (step8, reads8),
      omega arith,
      (
        (λ lt k h. absurd (takes_of _ state0 Init k reads0 h)),
        (
          (λ lt k h. absurd (takes_of _ state1 step1 k reads1 h)),
          (
            (λ lt k h. absurd (takes_of _ state2 step2 k reads2 h)),
            (
              (λ lt k h. absurd (takes_of _ state3 step3 k reads3 h)),
              (
                (λ lt k h. absurd (takes_of _ state4 step4 k reads4 h)),
                (
                  (λ lt k h. absurd (takes_of _ state5 step5 k reads5 h)),
                  (
                    (λ lt k h. elim (takes_of _ state6 step6 k reads6 h) [
                      | inl e ↦ inr (inl e)
                      | inr f ↦ elim f [ inl e ↦ inl e | inr g ↦ absurd g ]
                    ]),
                    (
                      (λ lt k h. absurd (takes_of _ state7 step7 k reads7 h)),
                      ((λ lt k h. absurd (takes_of _ state8 step8 k reads8 h)), tt),
                    ),
                  ),
                ),
              ),
            ),
          ),
        ),
      ),
    ),
  ))),
  (
    inr (inl (refl, (state8, (step8, reads8), inr (inr (inr (inr (inr (inr (inl (omega arith, takes_late)))))))))),
    (
      inl (refl, (state8, (step8, reads8), inr (inr (inr (inr (inr (inr (inl (omega arith, takes_early))))))))),
      (
        tt,
        (
          record {
            from = state6;
            to = state7;
            step = step7;
            shown = (
              version6,
              step6,
              inl (
                refl,
                inr (inr (inr (inr (inr (inr (inl (refl, refl))))))),
              ),
              reads6,
            );
            written = reads7;
            applies = applies7;
            owned =
                inr (inl (refl, joins2));
            holds = tt;
          },
          (
            tt,
            (
              record {
                from = state2;
                to = state3;
                step = step3;
                shown = (
                  version2,
                  step2,
                  inl (
                    refl,
                    inr (inr (inl (
                      refl,
                      refl,
                    ))),
                  ),
                  reads2,
                );
                written = reads3;
                applies = applies3;
                owned = tt;
                holds = tt;
              },
              (tt, tt),
            ),
          ),
        ),
      ),
    ),
  ),
)
