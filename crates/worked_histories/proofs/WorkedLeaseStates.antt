-- The further versions hold their states, which keep the rules, and each transition applies to the state before.
use Rattle.std.proofs.Common.{◌≡◌, Some, inl, inr, refl, arith}
use Rattle.state_core.specs.States.{IsState}
use Rattle.state_core.specs.Steps.{Applies}
use Rattle.version_codec.specs.Reading.{version_in}
use Rattle.worked_histories.specs.Worked.{the_shard, state6}
use Rattle.worked_histories.specs.WorkedLeases.{renewed_state, renewing, renewed_version, kept_state, keeping, kept_version}
use Rattle.worked_histories.specs.WorkedLeases.{expired_state, expiring, expired_version}
use Rattle.worked_histories.proofs.Opened.{opened_versions}

pub reads_renewed : version_in the_shard 7 renewed_version ≡ Some (renewed_state, renewing)
unfolding renewed_version opened_versions
reads_renewed = refl

pub reads_kept : version_in the_shard 7 kept_version ≡ Some (kept_state, keeping)
unfolding kept_version opened_versions
reads_kept = refl

pub reads_expired : version_in the_shard 8 expired_version ≡ Some (expired_state, expiring)
unfolding expired_version opened_versions
reads_expired = refl

rules_renewed : IsState renewed_state
rules_renewed = record {
  few = omega arith;
  rising = (omega arith, (omega arith, tt));
  known = (omega arith, (omega arith, (omega arith, tt)));
  joined = omega arith;
  holds = (omega arith, (omega arith, (omega arith, tt)));
  kinds = ((refl, refl, refl, refl), (refl, (refl, tt)));
  since = refl;
  spine = (refl, refl, tt);
  upper_is = refl;
  sinces = (omega arith, tt);
  rows = omega arith;
  light = omega arith;
  parts = ((omega arith, omega arith), tt);
  keys = (
    record { of_shard = refl; below = omega arith; spent = ((λ e. omega arith), ((λ e. omega arith), ((λ e. omega arith), tt))) },
    tt,
  );
  distinct = ((λ h. h), tt);
}

rules_kept : IsState kept_state
rules_kept = record {
  few = omega arith;
  rising = (omega arith, (omega arith, tt));
  known = (omega arith, (omega arith, (omega arith, tt)));
  joined = omega arith;
  holds = (omega arith, (omega arith, (omega arith, tt)));
  kinds = ((refl, refl, refl, refl), (refl, (refl, tt)));
  since = refl;
  spine = (refl, refl, tt);
  upper_is = refl;
  sinces = (omega arith, tt);
  rows = omega arith;
  light = omega arith;
  parts = ((omega arith, omega arith), tt);
  keys = (
    record { of_shard = refl; below = omega arith; spent = ((λ e. omega arith), ((λ e. omega arith), ((λ e. omega arith), tt))) },
    tt,
  );
  distinct = ((λ h. h), tt);
}

rules_expired : IsState expired_state
rules_expired = record {
  few = omega arith;
  rising = (omega arith, tt);
  known = (omega arith, (omega arith, tt));
  joined = omega arith;
  holds = (omega arith, (omega arith, tt));
  kinds = ((refl, refl, refl, refl), (refl, tt));
  since = tt;
  spine = (refl, refl, tt);
  upper_is = refl;
  sinces = (omega arith, tt);
  rows = omega arith;
  light = omega arith;
  parts = ((omega arith, omega arith), tt);
  keys = (record { of_shard = refl; below = omega arith; spent = ((λ e. omega arith), ((λ e. omega arith), tt)) }, tt);
  distinct = ((λ h. h), tt);
}

pub applies_renewed : Applies state6 renewing renewed_state
applies_renewed = record {
  room = omega arith;
  makes = record { stands = inr (inr (inl (refl, refl))); effect = refl };
  rules = rules_renewed;
}

pub applies_kept : Applies state6 keeping kept_state
applies_kept = record { room = omega arith; makes = record { stands = inr (inl (refl, refl)); effect = refl }; rules = rules_kept }

pub applies_expired : Applies kept_state expiring expired_state
applies_expired = record { room = omega arith; makes = record { due = inr (inr (inl refl)); effect = refl }; rules = rules_expired }
