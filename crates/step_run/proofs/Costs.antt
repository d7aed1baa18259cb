-- The bounds that the clients' commands keep to.
use Rattle.std.proofs.Common.{◌≡◌, ℕ, ◌+◌, Option, Some, None, List, refl, sym, subst, arith}
use Rattle.std.specs.Prelude.{IfSome}
use Rattle.store_core.specs.declared.shards.ShardId.{ShardId}
use Rattle.store_core.specs.declared.entries.Entry.{Entry}
use Rattle.store_core.specs.Histories.{History}
use Rattle.store_core.specs.Stores.{Stored}
use Rattle.state_core.specs.declared.kinds.Kind.TheVariants.{Keeper}
use Rattle.state_core.specs.declared.transitions.Transition.{Transition}
use Rattle.state_core.specs.declared.transitions.Transition.TheVariants.{Init, Join}
use Rattle.history_core.specs.declared.asked.Asked.{Asked}
use Rattle.history_core.specs.declared.asked.Asked.TheVariants as asks
use Rattle.load_core.specs.Costing.{CostKept}
use Rattle.load_core.specs.Fronts.{Backwards, WhereLawful}
use Rattle.load_core.proofs.Remaining.{begun_cost}
use Rattle.machine_core.proofs.Fronts.{everywhere}
use Rattle.read_machine.specs.Courses as courses
use Rattle.token_machine.specs.Storings.{begun, no_parts}
use Rattle.merge_client.specs.declared.compactors.Compactor.{Compactor}
use Rattle.merge_client.specs.declared.dues.Due.{Due}
use Rattle.merge_client.specs.declared.pairs.Pair.{Pair}
use Rattle.merge_client.specs.Beginning.{Changing, Merging}
use Rattle.merge_client.specs.Merging as merging
use Rattle.merge_client.specs.Polling.{CostAt, CostBy, base_of}

-- a compactor whose open has begun
pub opened_cost : (client : ℕ) (front : Option History) (shard : ShardId) (now lease : ℕ) →
    WhereLawful shard front (Backwards (CostAt 3 client (merging.opened shard now lease)))
opened_cost client front shard now lease = everywhere shard front (CostAt 3 client (merging.opened shard now lease))
    (λ start es list lt. begun_cost 3 client (merging.unknown shard) (Join Keeper now lease) start es (omega arith))

-- one whose merge has begun
abbrev merging_for : Compactor → ℕ → Compactor
merging_for old member = record old {
  asked = Some asks.Merge;
  token = old.token + 1;
  storing = begun (merging.unknown (merging.shard_of old)) Init no_parts;
  reading = record {
    course = courses.begun old.reading.course.getting old.storing.trying.loader member;
    asked = Some (record {});
  };
}

pub merging_cost : (client : ℕ) (front : Option History) (old new : Compactor) → Merging old new →
    WhereLawful (merging.shard_of new) front (Backwards (CostAt 3 client new))
merging_cost client front old new (n, has, is) =
    subst (λ (c : Compactor). WhereLawful (merging.shard_of c) front (Backwards (CostAt 3 client c))) (sym is)
    (everywhere (merging.shard_of old) front (CostAt 3 client (merging_for old n)) (λ start es list lt. omega arith))

-- one that has begun to change its member
pub changing_cost : (client : ℕ) (front : Option History) (old new : Compactor) (asked : Asked) (step : ℕ → Transition) →
    ((n : ℕ) → base_of 3 (step n) ≡ 3) → old.asked ≡ None → merging.IsSound old → Changing old asked step new →
    WhereLawful (merging.shard_of new) front (Backwards (CostAt 3 client new))
changing_cost client front old new asked step base free sound (n, has, is) =
    subst (λ (c : Compactor). WhereLawful (merging.shard_of c) front (Backwards (CostAt 3 client c))) (sym is)
    (everywhere (merging.shard_of old) front (CostAt 3 client changing) (λ start es list lt. at start es))
  where
    changing : Compactor
    changing = record old { asked = Some asked; storing = begun old.storing.trying.loader (step n) no_parts }

    none_read : (o : Option Due) → IfSome o (λ q. merging.IsLent old) → o ≡ None
    none_read None h = refl
    none_read (Some q) h = absurd (let a : old.asked ≡ Some asks.Merge = h.asked in cc)

    none_got : (o : Option Pair) → IfSome o (merging.IsGot old) → o ≡ None
    none_got None h = refl
    none_got (Some p) h = absurd (let a : old.asked ≡ Some asks.Merge = h.asked in cc)

    at : (start : Stored) (es : List Entry) → CostBy old.reading.asked old.pair 3 client changing start es
    at start es =
        subst (λ (o : Option Due). CostBy o old.pair 3 client changing start es) (sym (none_read old.reading.asked sound.lent))
        (subst (λ (o : Option Pair). CostBy None o 3 client changing start es) (sym (none_got old.pair sound.got))
        (subst (λ (k : ℕ). CostKept (k + 0) client changing.storing.trying start es) (sym (base n))
        (begun_cost 3 client old.storing.trying.loader (step n) start es (omega arith))))
