-- A look at a shard's upper is a rule. Entries go newest first.
use Rattle.std.proofs.Common.{◌≡◌, ℕ, Option, Some, ◌∷◌, refl, sym, ap, subst, inl, inr}
use Rattle.state_core.specs.declared.transitions.Transition.{Transition}
use Rattle.state_core.specs.declared.transitions.Transition.TheVariants.{Init}
use Rattle.state_core.specs.States.{ShardState}
use Rattle.state_core.specs.Steps.{Applies}
use Rattle.history_core.specs.Placing.{AtLastScan, placed}
use Rattle.machine_core.specs.Machines.{Ending, Keeps}
use Rattle.try_machine.specs.Rules.{IsRule}
use Rattle.try_machine.proofs.Keeping as tryers
use Rattle.reclock_client.specs.declared.looks.Look.{Look}
use Rattle.reclock_client.specs.Looking.{UpperAt, looking, machine, upper_of}

-- no state takes the first version
none_applies : (s next : ShardState) → Applies s Init next → ⊥
none_applies s next a = a.makes

-- A refusal: a Scan shows the refusing state, whose upper is the answer. A shard without versions: its Scan shows that.
pub rule : IsRule looking
rule = record {
  same = λ r newest. (refl, refl);
  ends = λ r newest refusal. tt;
  holds = λ f own. tt;
  knows_on = λ f shard o own k. tt;
  committed = λ r t new client list start e others es version ps at k.
      absurd (none_applies k.from k.carries.to (subst (λ (x : Transition). Applies k.from x k.carries.to) at.step_is k.applies));
  refused = λ r t new client list start e others es refusal ps at k. inl (
    k.scan,
    inr (k.state.number, k.state, k.last, ap upper_of (sym k.cached)),
  );
  empty = λ r shard start e before answer ps is scan nothing. subst
      (λ (u : Option ℕ). AtLastScan shard (UpperAt start shard u) (placed e before ∷ ps))
      (let same : Some 0 ≡ answer = cc in same) (inl (scan, inl (refl, nothing)));
}

pub keeps : Keeps machine
keeps = tryers.keeps Look (Option ℕ) looking rule

pub ending : Ending machine
ending = tryers.ending Look (Option ℕ) looking rule
