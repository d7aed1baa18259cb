-- Each call of the two histories is allowed by those before it.
use Rattle.std.proofs.Common.{◌≡◌, ℕ, zero, suc, ◌+◌, ◌<◌, List, [], ◌∷◌, inl, inr, refl, sym, subst, arith}
use Rattle.std.specs.Prelude.{reverse}
use Rattle.std.specs.List.{AllByRecursion}
use Rattle.store_core.specs.declared.entries.Entry.{Entry}
use Rattle.store_core.specs.Histories.{History}
use Rattle.store_core.specs.Ports.{Answered, mine, OfOthers}
use Rattle.store_core.proofs.PortLaws.{mine_from-others}
use Rattle.state_core.specs.declared.transitions.Transition.TheVariants.{Init}
use Rattle.history_core.specs.Answers.{own_of}
use Rattle.history_core.specs.Discipline.{OwnLawful, Lawful}
use Rattle.worked_histories.specs.Worked.{state0, state1, state2, state3, state4, state5, state6, step1, step2, step3, step4, step5}
use Rattle.worked_histories.specs.Worked.{step6, version2, version6}
use Rattle.worked_histories.specs.WorkedLeases.{renewed_state, renewing, kept_state, keeping, kept_version, expired_state, expiring}
use Rattle.worked_histories.specs.WorkedLeases.{of_entries, read_again, told_expired}
use Rattle.worked_histories.proofs.WorkedVersions.{reads0, reads1, reads2, reads3, reads4, reads5, reads6}
use Rattle.worked_histories.proofs.WorkedStates.{applies3}
use Rattle.worked_histories.proofs.WorkedFacts.{takes_of, joins1, joins2, takes_early, takes_late}
use Rattle.worked_histories.proofs.WorkedWriter.{writer_lawful}
use Rattle.worked_histories.proofs.WorkedKeeper.{keeper_lawful}
use Rattle.worked_histories.proofs.WorkedLeaseStates.{reads_renewed, reads_kept, reads_expired, applies_renewed, applies_kept}
use Rattle.worked_histories.proofs.WorkedLeaseStates.{applies_expired}

others : (es : List Entry) (c : ℕ) → AllByRecursion (λ e. e.client < 5) es → OfOthers (c + 5) es
others [] c h = tt
others (e ∷ es) c h = (λ is. omega (arith, h.0, is), others es c h.1)

-- where clients 0 to 4 alone made calls, each allowed by those before it, the history is lawful
five_clients : (h : History) → OwnLawful (own_of h 0) → OwnLawful (own_of h 1) → OwnLawful (own_of h 2) → OwnLawful (own_of h 3) →
    OwnLawful (own_of h 4) → AllByRecursion (λ e. e.client < 5) h.trail → Lawful h
five_clients h a b d f g all zero = a
five_clients h a b d f g all (suc zero) = b
five_clients h a b d f g all (suc (suc zero)) = d
five_clients h a b d f g all (suc (suc (suc zero))) = f
five_clients h a b d f g all (suc (suc (suc (suc zero)))) = g
five_clients h a b d f g all (suc (suc (suc (suc (suc c))))) =
    let none : mine h (c + 5) ≡ [] = mine_from-others h.start h.trail (c + 5) (others h.trail c all) in
    let l : OwnLawful (reverse (mine h (c + 5))) = subst (λ (own : List Answered). OwnLawful (reverse own)) (sym none) tt in
    let e : c + 5 ≡ suc (suc (suc (suc (suc c)))) = omega arith in
    subst (λ (n : ℕ). OwnLawful (reverse (mine h n))) e l

-- ---- the reader reads on

reader_reads : OwnLawful (own_of (of_entries read_again) 2)
reader_reads = (
  tt,
  (
    tt,
    (
      record {
        from = state6;
        to = renewed_state;
        step = renewing;
        shown = (version6, step6, inl (refl, inl (refl, refl)), reads6);
        written = reads_renewed;
        applies = applies_renewed;
        owned = inr (inr (inr (inr (inl (refl, joins2)))));
        holds = tt;
      },
      (
        tt,
        (
          tt,
          (
            tt,
            (
              tt,
              (
                record {
                  from = state2;
                  to = state3;
                  step = step3;
                  shown = (version2, step2, inl (refl, inr (inr (inl (refl, refl)))), reads2);
                  written = reads3;
                  applies = applies3;
                  owned = tt;
                  holds = tt;
                },
                (tt, tt),
              ),
            ),
          ),
        ),
      ),
    ),
  ),
)

first_collects : OwnLawful (own_of (of_entries read_again) 3)
first_collects = (
  inl (refl, (renewed_state, (renewing, reads_renewed), inr (inr (inr (inr (inr (inr (inl (omega arith, takes_early))))))))),
  (tt, tt),
)

second_collects : OwnLawful (own_of (of_entries read_again) 4)
second_collects = (
  inr (inr (inl (
    refl,
    refl,
    (
      renewed_state,
      (renewing, reads_renewed),
      omega arith,
      (
        (λ lt k h. absurd (takes_of _ state0 Init k reads0 h)),
        (
          (λ lt k h. absurd (takes_of _ state1 step1 k reads1 h)),
          (
            (λ lt k h. absurd (takes_of _ state2 step2 k reads2 h)),
            (
              (λ lt k h. absurd (takes_of _ state3 step3 k reads3 h)),
              (
                (λ lt k h. absurd (takes_of _ state4 step4 k reads4 h)),
                (
                  (λ lt k h. absurd (takes_of _ state5 step5 k reads5 h)),
                  (
                    (λ lt k h. absurd (let bad : ⊥ = omega (arith, lt) in bad)),
                    ((λ lt k h. absurd (let bad : ⊥ = omega (arith, lt) in bad)), tt),
                  ),
                ),
              ),
            ),
          ),
        ),
      ),
    ),
  ))),
  (
    inr (inl (
      refl,
      (renewed_state, (renewing, reads_renewed), inr (inr (inr (inr (inr (inr (inl (omega arith, takes_late)))))))),
    )),
    (
      inl (refl, (renewed_state, (renewing, reads_renewed), inr (inr (inr (inr (inr (inr (inl (omega arith, takes_early))))))))),
      (tt, tt),
    ),
  ),
)

pub reads_on_lawful : Lawful (of_entries read_again)
reads_on_lawful = five_clients (of_entries read_again) writer_lawful keeper_lawful.1.1 reader_reads first_collects second_collects
    (search arith)

-- ---- the reader is told

keeper_keeps : OwnLawful (own_of (of_entries told_expired) 1)
keeper_keeps = (
  record {
    from = state6;
    to = kept_state;
    step = keeping;
    shown = (version6, step6, inl (refl, refl, refl), reads6);
    written = reads_kept;
    applies = applies_kept;
    owned = inr (inr (inr (inr (inr (inl (refl, joins1))))));
    holds = tt;
  },
  keeper_lawful.1.1,
)

reader_asks : OwnLawful (own_of (of_entries told_expired) 2)
reader_asks = (
  tt,
  (
    tt,
    (
      tt,
      (
        record {
          from = state2;
          to = state3;
          step = step3;
          shown = (version2, step2, inl (refl, inr (inr (inl (refl, refl)))), reads2);
          written = reads3;
          applies = applies3;
          owned = tt;
          holds = tt;
        },
        (tt, tt),
      ),
    ),
  ),
)

expirer_collects : OwnLawful (own_of (of_entries told_expired) 3)
expirer_collects = (
  inr (inr (inl (
    refl,
    refl,
    (
      expired_state,
      (expiring, reads_expired),
      omega arith,
      (
        (λ lt k h. absurd (takes_of _ state0 Init k reads0 h)),
        (
          (λ lt k h. absurd (takes_of _ state1 step1 k reads1 h)),
          (
            (λ lt k h. absurd (takes_of _ state2 step2 k reads2 h)),
            (
              (λ lt k h. absurd (takes_of _ state3 step3 k reads3 h)),
              (
                (λ lt k h. absurd (takes_of _ state4 step4 k reads4 h)),
                (
                  (λ lt k h. absurd (takes_of _ state5 step5 k reads5 h)),
                  (
                    (λ lt k h. elim (takes_of _ state6 step6 k reads6 h) [
                      | inl e ↦ inr (inl e)
                      | inr f ↦ elim f [ inl e ↦ inl e | inr g ↦ absurd g ]
                    ]),
                    (
                      (λ lt k h. absurd (let bad : ⊥ = omega (arith, lt) in bad)),
                      ((λ lt k h. absurd (let bad : ⊥ = omega (arith, lt) in bad)), tt),
                    ),
                  ),
                ),
              ),
            ),
          ),
        ),
      ),
    ),
  ))),
  (
    inr (inl (
      refl,
      (expired_state, (expiring, reads_expired), inr (inr (inr (inr (inr (inr (inl (omega arith, takes_late)))))))),
    )),
    (
      inl (refl, (expired_state, (expiring, reads_expired), inr (inr (inr (inr (inr (inr (inl (omega arith, takes_early))))))))),
      (
        tt,
        (
          record {
            from = kept_state;
            to = expired_state;
            step = expiring;
            shown = (
              kept_version,
              keeping,
              inl (refl, inr (inr (inr (inr (inr (inr (inr (inl (refl, refl))))))))),
              reads_kept,
            );
            written = reads_expired;
            applies = applies_expired;
            owned = tt;
            holds = tt;
          },
          (tt, tt),
        ),
      ),
    ),
  ),
)

pub told_lawful : Lawful (of_entries told_expired)
told_lawful = five_clients (of_entries told_expired) writer_lawful keeper_keeps reader_asks expirer_collects tt (search arith)
