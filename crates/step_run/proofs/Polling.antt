-- A client polled, where a command is open and where none is.
use Rattle.std.proofs.Common.{◌≡◌, ℕ, ◌+◌, ◌<◌, ◌≤◌, inl, inr, Option, None, Ok, Err, refl, sym, subst, ◌∙◌, arith}
use Rattle.store_core.specs.declared.shards.ShardId.{ShardId}
use Rattle.store_core.specs.Histories.{History}
use Rattle.update_core.specs.Limits.{most}
use Rattle.machine_core.specs.Machines.{Words, shard_of}
use Rattle.machine_core.specs.Polling.{FollowsWhere}
use Rattle.driving.specs.Goings.{Goes}
use Rattle.driving.proofs.GoingLaws.{going_so, no_going}
use Rattle.step_run.specs.declared.sayings.Saying.{Saying}
use Rattle.step_run.specs.declared.step_faults.StepFault.{StepFault}
use Rattle.step_run.specs.declared.stepping.Stepped.{Stepped}
use Rattle.step_run.specs.Clients.{Fits}
use Rattle.step_run.specs.Faults.{FailedBy}
use Rattle.step_run.specs.Polls.{PollsTo, said_of}
use Rattle.step_run.specs.Stepping.{Steps, StepsTo, WithinWhere}

module _ {M A : Type 0} (W : Words M A) (says : A → Option Saying) (shard : ShardId) (client polls : ℕ) (m : M) where
  pub idles : (a : Option History) (s : Stepped Saying) → (W.IsOpen m → ⊥) → s.faults ≡ 0 → s.answer ≡ None →
      Goes shard a a (PollsTo W says shard client polls m m (Ok s))
  idles a s closed faultless silent = no_going shard a (PollsTo W says shard client polls m m (Ok s))
      (λ list start es. inr (record { closed = closed; same = refl; none = refl; faultless = faultless; silent = silent }))

  pub polls_to : (new : M) (a b : Option History) (r : Stepped A) (s : Stepped Saying) → shard_of W m ≡ shard → W.IsOpen m →
      s.faults ≡ r.faults → s.answer ≡ said_of says r.answer → Goes (shard_of W m) a b (StepsTo W client polls m new (Ok r)) →
      Goes shard a b (PollsTo W says shard client polls m new (Ok s))
  polls_to new a b r s own is_open faults said went =
      going_so shard a b (StepsTo W client polls m new (Ok r)) (PollsTo W says shard client polls m new (Ok s))
      (subst (λ (d : ShardId). Goes d a b (StepsTo W client polls m new (Ok r))) own went)
      (λ list start es now bt x. inl (record {
        is_open = is_open;
        answer = r.answer;
        steps = subst (λ (f : ℕ). Steps W client polls m new r.answer f list start es now) (sym faults) x;
        said = said;
      }))

  pub polls_fail : (new : M) (a b : Option History) (fault e : StepFault) → e ≡ fault → shard_of W m ≡ shard →
      Goes (shard_of W m) a b (StepsTo W client polls m new (Err fault)) → Goes shard a b (λ list start es now. FailedBy shard e start es now)
  polls_fail new a b fault e is own went =
      subst (λ (f : StepFault). Goes shard a b (λ list start es now. FailedBy shard f start es now)) (sym is)
      (subst (λ (d : ShardId). Goes d a b (λ list start es now. FailedBy d fault start es now)) own went)

  pub fits_idle : (asked : ℕ) (a : Option History) → Fits W shard client asked a m → Fits W shard client (asked + polls) a m
  fits_idle asked a f = record {
    cost = f.cost;
    shard_is = f.shard_is;
    sound = f.sound;
    follows = f.follows;
    few = λ is. let below = f.few is in omega (arith, below);
  }

  pub fits_polled : (asked : ℕ) (a b : Option History) (new : M) → Fits W shard client asked a m → W.IsOpen m → shard_of W new ≡ shard_of W m →
      W.IsSound new → FollowsWhere W client b new → (W.IsOpen new → WithinWhere W client b new) → W.calls_of new ≤ W.calls_of m + polls → Fits W shard client (asked + polls) b new
  fits_polled asked a b new f is_open same sound follows cost calls = record {
    cost = cost;
    shard_is = same ∙ f.shard_is;
    sound = sound;
    follows = follows;
    few = λ is. let below = f.few is_open in omega (arith, below, calls);
  }

  pub few_calls : (asked : ℕ) (a : Option History) → Fits W shard client asked a m → W.IsOpen m → asked + polls < most → W.calls_of m + polls < most
  few_calls asked a f is_open few = let below = f.few is_open in omega (arith, below, few)
