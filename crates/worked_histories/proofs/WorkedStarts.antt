-- Broken histories are lawful before their last call.
use Rattle.std.proofs.Common.{ℕ, List, inl, inr, refl}
use Rattle.store_core.specs.declared.calls.Call.TheVariants.{Set}
use Rattle.history_core.specs.Discipline.{Lawful}
use Rattle.worked_histories.specs.Worked.{key, early_part, state1, step1}
use Rattle.worked_histories.specs.WorkedTrail.{did, first_calls, first_calls_and}
use Rattle.worked_histories.specs.WorkedBroken.{with_part, with_dropped}
use Rattle.worked_histories.proofs.WorkedVersions.{reads1}
use Rattle.worked_histories.proofs.WorkedFacts.{spends_not, joins0}
use Rattle.history_core.proofs.OneMore.{one_more}
use Rattle.worked_histories.proofs.WorkedLaw.{prefixes_lawful}
use Rattle.worked_histories.proofs.WorkedWriter.{may_set_early}
use Rattle.worked_histories.proofs.WorkedKeeper.{may_set_merged}

pub with_part_lawful : (part : List ℕ) → Lawful (with_part part)
with_part_lawful part = one_more (first_calls 7) (did 0 (Set (key 0 1) part)) (prefixes_lawful 7) (may_set_early part)

pub with_dropped_lawful : Lawful with_dropped
with_dropped_lawful = one_more (first_calls 14) (did 1 (Set (key 1 1) early_part)) (prefixes_lawful 14) (may_set_merged early_part)

-- to set a key to the bytes that it has is allowed
pub same_again_lawful : Lawful (first_calls_and 8 0 (Set (key 0 1) early_part))
same_again_lawful = one_more (first_calls 8) (did 0 (Set (key 0 1) early_part)) (prefixes_lawful 8) (record {
  owned = inr (inr (inl (refl, joins0)));
  fresh = λ h. elim h [
    | inl a ↦ a
    | inr b ↦ elim b [
      | inl a ↦ a
      | inr c ↦ elim c [
        | inl a ↦ spends_not _ state1 step1 0 1 reads1 (λ p. p) a.1
        | inr d ↦ elim d [
          | inl a ↦ a
          | inr f ↦ f
        ]
      ]
    ]
  ];
  same = ((λ e. refl), (tt, (tt, (tt, tt))));
})
