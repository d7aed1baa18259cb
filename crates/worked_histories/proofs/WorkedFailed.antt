-- What the worked history comes to where its first append fails, or a Cas comes too late.
use Rattle.std.proofs.Common.{◌≡◌, Some, [], ◌∷◌, inl, inr, refl, arith}
use Rattle.store_core.specs.declared.calls.Call.TheVariants.{Cas, Set}
use Rattle.store_core.specs.declared.replies.Reply.TheVariants.{Committed, Mismatch}
use Rattle.store_core.specs.declared.outcomes.Outcome.{Outcome}
use Rattle.store_core.specs.declared.outcomes.Outcome.TheVariants.{FailedTook, FailedLost}
use Rattle.store_core.specs.Histories.{entry_of, reply, store_after}
use Rattle.history_core.specs.Discipline.{Allows, Lawful}
use Rattle.history_core.specs.Stands.{accepted_of}
use Rattle.worked_histories.specs.Worked.{the_shard, key, early_row, early_part, state2, state3, state4, step2, step3, step4}
use Rattle.worked_histories.specs.Worked.{version2, version3}
use Rattle.worked_histories.specs.WorkedTrail.{did, first_calls}
use Rattle.worked_histories.specs.WorkedFailures.{first_append, append_with, append_again, set_after_failure, too_late}
use Rattle.history_core.specs.Answers.{own_of}
use Rattle.history_core.proofs.OneMore.{one_more, last_allowed}
use Rattle.worked_histories.proofs.WorkedVersions.{reads1, reads2, reads3, reads4}
use Rattle.worked_histories.proofs.WorkedParts.{reads_early}
use Rattle.worked_histories.proofs.WorkedStates.{applies3, applies4}
use Rattle.worked_histories.proofs.WorkedFacts.{joins0}
use Rattle.worked_histories.proofs.WorkedWriter.{early_rises}
use Rattle.worked_histories.proofs.WorkedLaw.{prefixes_lawful}
use Rattle.worked_histories.proofs.WorkedBrokenSets.{spent}

pub with_lawful : (outcome : Outcome) → Lawful (append_with outcome)
with_lawful outcome = one_more (first_calls 8) (entry_of 0 first_append outcome) (prefixes_lawful 8)
    (last_allowed (first_calls 8) (did 0 first_append) (prefixes_lawful 9))

may_again : (outcome : Outcome) → Allows (own_of (append_with outcome) 0) first_append
may_again outcome = record {
  from = state3;
  to = state4;
  step = step4;
  shown = (version3, step3, inr (inr (inl (refl, inr (inl (refl, refl))))), reads3);
  written = reads4;
  applies = applies4;
  owned = inr (inr (inr (inl (refl, joins0))));
  holds = record {
    updates = early_row ∷ [];
    hold = (
      early_part,
      early_row ∷ [],
      [],
      inr (inl (refl, refl)),
      reads_early,
      refl,
      refl,
    );
    rising = early_rises;
    in_range = refl;
    count = refl;
    light = omega arith;
  };
}

pub again_lawful : (outcome : Outcome) → Lawful (append_again outcome)
again_lawful outcome = one_more (append_with outcome) (did 0 first_append) (with_lawful outcome) (may_again outcome)

pub took_accepts : accepted_of the_shard [] (append_with FailedTook) ≡ early_row ∷ []
took_accepts = simp (reads1, reads2, reads3, reads4, reads_early)

pub lost_accepts : accepted_of the_shard [] (append_with FailedLost) ≡ []
lost_accepts = simp (reads1, reads2, reads3, reads4)

pub took_again_accepts : accepted_of the_shard [] (append_again FailedTook) ≡ early_row ∷ []
took_again_accepts = simp (reads1, reads2, reads3, reads4, reads_early)

pub lost_again_accepts : accepted_of the_shard [] (append_again FailedLost) ≡ early_row ∷ []
lost_again_accepts = simp (reads1, reads2, reads3, reads4, reads_early)

pub took_again_reply : reply (store_after (append_with FailedTook)) (did 0 first_append) ≡ Mismatch
took_again_reply = refl

pub lost_again_reply : reply (store_after (append_with FailedLost)) (did 0 first_append) ≡ Committed 4
lost_again_reply = refl

pub sets_before_failure : Lawful set_after_failure → ⊥
sets_before_failure l = (last_allowed (append_with FailedLost) (did 0 (Set (key 0 1) early_part)) l).fresh (inl (refl, spent))

pub late_lawful : Lawful too_late
late_lawful = one_more (first_calls 9) (did 1 (Cas the_shard (Some 2) version3)) (prefixes_lawful 9)
    (record {
      from = state2;
      to = state3;
      step = step3;
      shown = (version2, step2, inl (refl, refl, refl), reads2);
      written = reads3;
      applies = applies3;
      owned = tt;
      holds = tt;
    })

pub late_reply : reply (store_after (first_calls 9)) (did 1 (Cas the_shard (Some 2) version3)) ≡ Mismatch
late_reply = refl

pub late_accepts : accepted_of the_shard [] too_late ≡ early_row ∷ []
late_accepts = simp (reads1, reads2, reads3, reads4, reads_early)
