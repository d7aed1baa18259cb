-- What the worked versions tell of members, tokens and keys.
use Rattle.std.proofs.Common.{◌≡◌, ℕ, Option, Some, inl, inr, refl, sym, subst, ap, arith}
use Rattle.store_core.specs.declared.part_keys.PartKey.{PartKey}
use Rattle.state_core.specs.declared.transitions.Transition.{Transition}
use Rattle.state_core.specs.States.{ShardState}
use Rattle.state_core.specs.Steps.{Spends, Takes}
use Rattle.version_codec.specs.Reading.{version_in}
use Rattle.history_core.specs.Discipline.{JoinsAs, SpendsIn, TakesIn}
use Rattle.worked_histories.specs.Worked.{the_shard, key, version1, version2, version3, version6}
use Rattle.worked_histories.proofs.WorkedVersions.{reads1, reads2, reads3, reads6}

pub spends_not : (o : Option (ShardState × Transition)) (s : ShardState) (x : Transition) (m t : ℕ) → o ≡ Some (s, x) →
    (Spends x m t → ⊥) → SpendsIn o m t → ⊥
spends_not o s x m t e f h = f (subst (λ (p : Option (ShardState × Transition)). SpendsIn p m t) e h)

pub takes_of : (o : Option (ShardState × Transition)) (s : ShardState) (x : Transition) (k : PartKey) → o ≡ Some (s, x) →
    TakesIn o k → Takes x k
takes_of o s x k e h = subst (λ (p : Option (ShardState × Transition)). TakesIn p k) e h

pub joins0 : JoinsAs (version_in the_shard 1 version1) 0
joins0 = subst (λ (o : Option (ShardState × Transition)). JoinsAs o 0) (sym reads1) refl

pub joins1 : JoinsAs (version_in the_shard 2 version2) 1
joins1 = subst (λ (o : Option (ShardState × Transition)). JoinsAs o 1) (sym reads2) refl

pub joins2 : JoinsAs (version_in the_shard 3 version3) 2
joins2 = subst (λ (o : Option (ShardState × Transition)). JoinsAs o 2) (sym reads3) refl

pub takes_early : TakesIn (version_in the_shard 6 version6) (key 0 1)
takes_early = subst (λ (o : Option (ShardState × Transition)). TakesIn o (key 0 1)) (sym reads6) (inl refl)

pub takes_late : TakesIn (version_in the_shard 6 version6) (key 0 2)
takes_late = subst (λ (o : Option (ShardState × Transition)). TakesIn o (key 0 2)) (sym reads6) (inr (inl refl))

pub one_not_two : ◌≡◌ {A = ℕ} 1 2 → ⊥
one_not_two e = omega arith

pub early_not_late : key 0 1 ≡ key 0 2 → ⊥
early_not_late e = one_not_two (ap (λ (k : PartKey). k.token) e)
