-- What holds of such a machine when it is new, and when a command begins. Entries go newest first.
use Rattle.std.proofs.Common.{◌≡◌, ℕ, ◌≤◌, Option, Some, None, List, refl, subst, sym}
use Rattle.store_core.specs.declared.entries.Entry.{Entry}
use Rattle.store_core.specs.declared.shards.ShardId.{ShardId}
use Rattle.store_core.specs.Stores.{Stored}
use Rattle.store_core.specs.Histories.{History}
use Rattle.store_core.specs.Newest.{mine_back}
use Rattle.state_core.specs.declared.transitions.Transition.TheVariants.{Init}
use Rattle.state_core.specs.Steps.{acts_for}
use Rattle.history_core.specs.Discipline.{OwnsSome}
use Rattle.load_core.specs.Fronts.{Backwards, WhereLawful}
use Rattle.load_core.specs.Trying as trying
use Rattle.load_core.proofs.Remaining.{begun_cost}
use Rattle.machine_core.specs.Polling.{FollowsWhere}
use Rattle.machine_core.proofs.Fronts.{everywhere, there_too}
use Rattle.try_machine.specs.declared.tryers.Tryer.{Tryer}
use Rattle.try_machine.specs.Rules.{Rules}
use Rattle.try_machine.specs.Tryers.{Follows, IsSound, words}

-- a machine that is new
abbrev pub idle : {R : Type 0} → ShardId → Tryer R
idle shard = record { trying = trying.begun (record { shard = shard; cached = None }) Init; asked = None }

-- one with a command begun
abbrev pub asking : {R A : Type 0} → Rules R A → Tryer R → R → Tryer R
asking Q old r = record { trying = trying.begun old.trying.loader (Q.step (Q.fixed r)); asked = Some r }

module _ (R A : Type 0) (Q : Rules R A) where
  pub idle_sound : (shard : ShardId) → IsSound Q (idle shard)
  idle_sound shard = record { trying = tt; asked = tt }

  pub idle_where : (shard : ShardId) (client : ℕ) (front : Option History) → FollowsWhere (words Q) client front (idle shard)
  idle_where shard client front = everywhere shard front (λ start es list. Follows Q client (idle shard) start es)
      (λ start es list. record { trying = record { shown = tt; owned = tt }; asked = tt })

  pub asking_sound : (old : Tryer R) (r : R) → IsSound Q (asking Q old r)
  asking_sound old r = record { trying = tt; asked = record { step_is = refl; unready = λ some none. tt } }

  -- a command that acts for no member and knows nothing more
  pub asking_where : (old : Tryer R) (r : R) (client : ℕ) (front : Option History) → acts_for (Q.step (Q.fixed r)) ≡ None →
      ((start : Stored) (es : List Entry) → Q.Knows (Q.fixed r) old.trying.loader.shard (mine_back start es client)) →
      FollowsWhere (words Q) client front old → FollowsWhere (words Q) client front (asking Q old r)
  asking_where old r client front nobody knows f =
      there_too old.trying.loader.shard front (λ start es list. Follows Q client old start es) (λ start es list. Follows Q client
      (asking Q old r) start es) (λ start es list h. record {
        trying = record {
          shown = h.trying.shown;
          owned = subst (OwnsSome (mine_back start es client) old.trying.loader.shard)
              (sym nobody) tt;
        };
        asked = knows start es;
      }) f

  pub asking_cost : (old : Tryer R) (r : R) (base client : ℕ) (front : Option History) → 3 ≤ base →
      WhereLawful old.trying.loader.shard front (Backwards ((words Q).CostAt base client (asking Q old r)))
  asking_cost old r base client front three = everywhere old.trying.loader.shard front ((words Q).CostAt base client (asking Q old r))
      (λ start es list lt. begun_cost base client old.trying.loader (Q.step (Q.fixed r)) start es three)
