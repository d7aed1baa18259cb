-- An expiry is a rule. Entries go newest first.
use Rattle.std.proofs.Common.{◌≡◌, ℕ, true, false, Option, Some, None, ◌∷◌, ◌++◌, refl, sym, ap, subst, inl, inr}
use Rattle.std.specs.Prelude.{IsSome}
use Rattle.std.specs.List.{list_any}
use Rattle.state_core.specs.declared.refusals.Refusal.{Refusal}
use Rattle.state_core.specs.declared.transitions.Transition.{Transition}
use Rattle.state_core.specs.declared.transitions.Transition.TheVariants.{Expire}
use Rattle.state_core.specs.States.{ShardState}
use Rattle.state_core.specs.Steps.{is_out}
use Rattle.state_core.proofs.ListLemmas.{bool_cases}
use Rattle.history_core.specs.Placing.{CommittedAs, placed}
use Rattle.history_core.specs.Upkeep.{LegalExpiry}
use Rattle.load_core.specs.Attempts.{standing_refusal}
use Rattle.machine_core.specs.Machines.{Ending, Keeps}
use Rattle.try_machine.specs.Rules.{IsRule}
use Rattle.try_machine.proofs.Keeping as tryers
use Rattle.history_core.specs.declared.expire_answers.ExpireAnswer.{ExpireAnswer}
use Rattle.history_core.specs.declared.expire_answers.ExpireAnswer.TheVariants as answers
use Rattle.maint_client.specs.declared.expiries.Expiry.{Expiry}
use Rattle.maint_client.specs.Expiring.{expiring, machine, moment_of, number_of, out_of}

-- an expiry is refused only where no lease has run out
none_due : (now : ℕ) (s : ShardState) (refusal : Refusal) → standing_refusal s (Expire now) ≡ Some refusal →
    list_any (is_out now) s.members ≡ false
none_due now s refusal h = elim (bool_cases (list_any (is_out now) s.members)) [
  | inl e ↦ absurd (let bad : None ≡ Some refusal = rw e at h in cc)
  | inr e ↦ e
]

pub not_open : (o : Option Expiry) → o ≡ None → ¬ IsSome o
not_open o e is = let bad : false ≡ true = subst (λ (a : Option Expiry). IsSome a) e is in cc

-- Removed: the commit follows the state whose members were looked at. None due: no other refusal has an expiry, and a Scan shows the
-- refusing state.
pub rule : IsRule expiring
rule = record {
  same = λ r newest. (refl, refl);
  ends = λ r newest refusal. tt;
  holds = λ now own. tt;
  knows_on = λ now shard o own k. tt;
  committed = λ r t new client list start e others es version ps at k. inl (
    (version, subst (λ (x : Transition). CommittedAs start t.loader.shard x version (placed e (others ++ es))) at.step_is k.carries),
    (k.from.number, k.from, k.last, ap (out_of (moment_of r.asked)) k.from_is),
  );
  refused = λ r t new client list start e others es refusal ps at k. inl (
    k.scan,
    inr (
      k.state.number,
      k.state,
      k.last,
      (
        ap number_of (sym k.cached),
        none_due (moment_of r.asked) k.state refusal
            (subst (λ (x : Transition). standing_refusal k.state x ≡ Some refusal) at.step_is k.so),
      ),
    ),
  );
  empty = λ r shard start e before answer ps is scan nothing. subst
      (λ (a : ExpireAnswer). LegalExpiry (moment_of r.asked) shard start (placed e before ∷ ps) a) (let same : answers.NoneDue 0 ≡ answer = cc in same) (inl (scan, inl (refl, nothing)));
}

pub keeps : Keeps machine
keeps = tryers.keeps Expiry ExpireAnswer expiring rule

pub ending : Ending machine
ending = tryers.ending Expiry ExpireAnswer expiring rule
