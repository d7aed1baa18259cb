-- A command that begins leaves an operator sound.
use Rattle.std.proofs.Common.{◌≡◌, ℕ, Bool, true, false, Option, Some, None, refl}
use Rattle.store_core.specs.declared.shards.ShardId.{ShardId}
use Rattle.load_core.specs.declared.begin_faults.BeginFault.TheVariants as faults
use Rattle.reclock_client.specs.declared.errands.Errand.{Errand}
use Rattle.reclock_client.specs.declared.operators.Operator.{Operator}
use Rattle.reclock_client.specs.declared.steps.Part.{Part}
use Rattle.reclock_client.specs.declared.steps.Part.TheVariants as parts
use Rattle.reclock_client.specs.declared.steps.Step.{Step}
use Rattle.reclock_client.specs.Beginning.{begun, fault, fault_by}
use Rattle.reclock_client.specs.Operators.{IdleBy, IsLight, IsSound, OthersRest, opened, part_of}
use Rattle.reclock_client.specs.Turns.{Clients, HasAll, Heard, AtStep, IsFew, Takes, TurnBy, Waits, clients, heard}

pub others : (o : Operator) (p : Part) → IdleBy o None true → OthersRest o p
others o parts.RemapWriter (w, r, d, l) = (r, d, l)
others o parts.Reader (w, r, d, l) = (w, d, l)
others o parts.DataWriter (w, r, d, l) = (w, r, l)
others o parts.Looker (w, r, d, l) = (w, r, d)

pub free : (o : Operator) (errand : Option Errand) (joined : Bool) → fault_by errand joined ≡ None → IdleBy o errand joined →
    IdleBy o None true
free o None true e idle = idle
free o None false e idle = absurd (let bad : Some faults.Gone ≡ None = e in cc)
free o (Some errand) joined e idle = absurd (let bad : Some faults.Open ≡ None = e in cc)

pub begun_sound : (o : Operator) (errand : Errand) (step : Step) → IsSound o → fault o ≡ None → IsLight (Some errand) →
    IsSound (begun o errand step)
begun_sound o errand step s e light = record {
  machines = s.machines;
  course = record { raise = s.course.raise; light = light };
  rest = others (begun o errand step) (part_of step) (free o o.course.errand o.course.joined e s.idle);
  idle = tt;
  leaves = s.leaves;
}

waits_of : (k : Clients) (h : Heard) (step : Step) (errand : Option Errand) (joined : Bool) → fault_by errand joined ≡ None →
    TurnBy k h errand step joined → Waits k h
waits_of k h step None true e waits = waits
waits_of k h step None false e waits = absurd (let bad : Some faults.Gone ≡ None = e in cc)
waits_of k h step (Some errand) joined e serves = absurd (let bad : Some faults.Open ≡ None = e in cc)

-- and in turn
pub begun_turn : (o : Operator) (errand : Errand) (step : Step) → AtStep o → fault o ≡ None →
    (HasAll (clients o) → Takes (clients o) (heard o.course) errand step) → IsFew errand → AtStep (begun o errand step)
begun_turn o errand step turn e takes few =
    let w = waits_of (clients o) (heard o.course) o.course.step o.course.errand o.course.joined e turn in
    record { takes = takes w.all; listens = w.listens; few = few }

-- an operator whose open has begun is in turn
pub opened_turn : (remap data_shard : ShardId) (now lease : ℕ) → AtStep (opened remap data_shard now lease)
opened_turn remap data_shard now lease = record { takes = refl; listens = λ on. absurd (let bad : false ≡ true = on in cc); few = tt }
