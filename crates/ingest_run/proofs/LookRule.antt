-- A look at a shard is a rule. Entries go newest first.
use Rattle.std.proofs.Common.{◌≡◌, Some, ◌∷◌, refl, ap, subst, inl, inr}
use Rattle.state_core.specs.declared.transitions.Transition.{Transition}
use Rattle.state_core.specs.declared.transitions.Transition.TheVariants.{Init}
use Rattle.state_core.specs.States.{ShardState}
use Rattle.state_core.specs.Steps.{Applies}
use Rattle.history_core.specs.Placing.{AtLastScan, placed}
use Rattle.machine_core.specs.Machines.{Ending, Keeps}
use Rattle.try_machine.specs.Rules.{IsRule}
use Rattle.try_machine.specs.declared.tryers.Tryer.{Tryer}
use Rattle.try_machine.proofs.Beginning.{asking, idle}
use Rattle.try_machine.proofs.Keeping as tryers
use Rattle.load_core.specs.Trying as trying
use Rattle.store_core.specs.declared.shards.ShardId.{ShardId}
use Rattle.ingest_run.specs.declared.extents.Extent.{Extent}
use Rattle.ingest_run.specs.declared.looks.Look.{Look}
use Rattle.ingest_run.specs.Looking.{ExtentAt, extent_of, looking, machine}

-- no state takes the first version
pub none_applies : (s next : ShardState) → Applies s Init next → ⊥
none_applies s next a = a.makes

some_is : (a b : Extent) → Some a ≡ Some b → a ≡ b
some_is a b e = cc

-- A refusal: a Scan shows the refusing state, and how far that has come is the answer. A shard without versions: its Scan shows that.
rule : IsRule looking
rule = record {
  same = λ r newest. (refl, refl);
  ends = λ r newest refusal. tt;
  holds = λ f own. tt;
  knows_on = λ f shard o own k. tt;
  committed = λ r t new client list start e others es version ps at k.
      absurd (none_applies k.from k.carries.to (subst (λ (x : Transition). Applies k.from x k.carries.to) at.step_is k.applies));
  refused = λ r t new client list start e others es refusal ps at k. inl (
    k.scan,
    inr (k.state.number, k.state, k.last, ap extent_of k.cached),
  );
  empty = λ r shard start e before answer ps is scan nothing. subst
      (λ (x : Extent). AtLastScan shard (ExtentAt start shard x) (placed e before ∷ ps))
      (some_is _ _ is) (inl (scan, inl (refl, nothing)));
}

pub keeps : Keeps machine
keeps = tryers.keeps Look Extent looking rule

pub ending : Ending machine
ending = tryers.ending Look Extent looking rule

-- a machine that has begun to look
pub look_made : (shard : ShardId) (old new : Tryer Look) (r : Look) → old ≡ idle shard →
    new ≡ record { trying = trying.begun old.trying.loader Init; asked = Some r } → new ≡ asking looking (idle shard) r
look_made shard old new r old_is is =
    subst (λ (t : Tryer Look). new ≡ record { trying = trying.begun t.trying.loader Init; asked = Some r }) old_is is
