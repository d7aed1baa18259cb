-- What a worker's step leaves of a state: since, upper and weight.
use Rattle.std.proofs.Common.{◌≡◌, ℕ, true, false, cond, Option, Some, None, List, [], ◌∷◌, inl, inr, refl, ap, subst, ◌∙◌, arith}
use Rattle.std.specs.Prelude.{◌==◌, max}
use Rattle.std.specs.List.{AllByRecursion}
use Rattle.std.proofs.lemmas.Bool.Decides.{nat_tests}
use Rattle.spine_core.specs.declared.batches.Batch.{Batch}
use Rattle.state_core.specs.declared.kinds.Kind.{Kind}
use Rattle.state_core.specs.declared.members.Member.{Member}
use Rattle.state_core.specs.declared.transitions.Transition.{Transition}
use Rattle.state_core.specs.declared.transitions.Transition.TheVariants.{Join, Leave, Merge, Renew}
use Rattle.state_core.specs.States.{ShardState, SinceIs, greater_of, is_reader, least_since, or_least}
use Rattle.state_core.specs.Steps.{Applies, without}
use Rattle.state_core.proofs.ListLemmas.{bool_cases}

-- ---- since stays where one leaves that is no reader

least_without : (kind : Kind) → is_reader kind ≡ false → (n : ℕ) (ms : List Member) →
    AllByRecursion (λ m. m.number ≡ n → m.kind ≡ kind) ms → least_since (without n ms) ≡ least_since ms
least_without kind reads n [] all = refl
least_without kind reads n (m ∷ ms) all = elim (bool_cases (m.number == n)) [
  | inl t ↦
      let kind_is : m.kind ≡ kind = all.0 (same m.number n t) in
      let no : is_reader m.kind ≡ false = ap is_reader kind_is ∙ reads in
      rw (t, no) (least_without kind reads n ms all.1)
  | inr t ↦ rw t (ap (λ (o : Option ℕ). cond (is_reader m.kind) (or_least o m.since) o) (least_without kind reads n ms all.1))
]
  where
    same : (a b : ℕ) → (a == b) ≡ true → a ≡ b
    same a b h = grind (arith, nat_tests)

since_same : (o : Option ℕ) (since : ℕ) → SinceIs o since → greater_of since o ≡ since
since_same None since h = refl
since_same (Some n) since h = let e : since ≡ n = h in rw e (itself n)
  where
    itself : (a : ℕ) → max a a ≡ a
    itself a = omega arith

-- what a step leaves
pub record Leaves (s : ShardState) (x : Transition) (t : ShardState) : Type 0 where
  pub since : t.since ≡ s.since
  pub upper : t.upper ≡ s.upper
  pub weight : t.weight ≡ s.weight

pub join_leaves : (s : ShardState) (x : Transition) (t : ShardState) (kind : Kind) (now lease : ℕ) → x ≡ Join kind now lease →
    Applies s x t → Leaves s x t
join_leaves s x t kind now lease is a = let b = subst (λ (y : Transition). Applies s y t) is a in record {
  since = ap (λ (u : ShardState). u.since) b.makes.effect;
  upper = ap (λ (u : ShardState). u.upper) b.makes.effect;
  weight = ap (λ (u : ShardState). u.weight) b.makes.effect;
}

pub merge_leaves : (s : ShardState) (x : Transition) (t : ShardState) (member token : ℕ) (left right merged : Batch) →
    x ≡ Merge member token left right merged → Applies s x t → Leaves s x t
merge_leaves s x t member token left right merged is a = let b = subst (λ (y : Transition). Applies s y t) is a in record {
  since = ap (λ (u : ShardState). u.since) b.makes.effect;
  upper = ap (λ (u : ShardState). u.upper) b.makes.effect;
  weight = ap (λ (u : ShardState). u.weight) b.makes.effect;
}

pub renew_leaves : (s : ShardState) (x : Transition) (t : ShardState) (member now : ℕ) → x ≡ Renew member now → Applies s x t → Leaves s x t
renew_leaves s x t member now is a = let b = subst (λ (y : Transition). Applies s y t) is a in record {
  since = ap (λ (u : ShardState). u.since) b.makes.effect;
  upper = ap (λ (u : ShardState). u.upper) b.makes.effect;
  weight = ap (λ (u : ShardState). u.weight) b.makes.effect;
}

pub leave_leaves : (kind : Kind) → is_reader kind ≡ false → (s : ShardState) (x : Transition) (t : ShardState) (member : ℕ) →
    x ≡ Leave member → SinceIs (least_since s.members) s.since →
    AllByRecursion (λ m. m.number ≡ member → m.kind ≡ kind) s.members → Applies s x t → Leaves s x t
leave_leaves kind reads s x t member is since kinds a =
    let b = subst (λ (y : Transition). Applies s y t) is a in
    let least = least_without kind reads member s.members kinds in
    record {
      since = ap (λ (u : ShardState). u.since) b.makes.effect ∙ ap (greater_of s.since) least
          ∙ since_same (least_since s.members) s.since since;
      upper = ap (λ (u : ShardState). u.upper) b.makes.effect;
      weight = ap (λ (u : ShardState). u.weight) b.makes.effect;
    }

-- a member leaves, and the readers that are left hold the same since
pub leave_holds : (s : ShardState) (x : Transition) (t : ShardState) (member : ℕ) → x ≡ Leave member →
    SinceIs (least_since (without member s.members)) s.since → Applies s x t → Leaves s x t
leave_holds s x t member is since a =
    let b = subst (λ (y : Transition). Applies s y t) is a in
    record {
      since = ap (λ (u : ShardState). u.since) b.makes.effect ∙ since_same (least_since (without member s.members)) s.since since;
      upper = ap (λ (u : ShardState). u.upper) b.makes.effect;
      weight = ap (λ (u : ShardState). u.weight) b.makes.effect;
    }
