-- The store that the worked history leaves stands for the rows appended, by the definition alone.
use Rattle.std.proofs.Common.{◌≡◌, ◌∙◌, ◌++◌, pos, ◌==◌, ℕ, ◌+◌, ◌<◌, ◌≤◌, Bool, true, false, cond, List, [], ◌∷◌, Option, Some}
use Rattle.std.proofs.Common.{None, inl, inr, refl, sym, ap, subst, arith}
use Rattle.std.proofs.lemmas.Bool.Decides.{nat_tests}
use Rattle.std.proofs.lemmas.Map.Lookups.{exact_unsigned}
use Rattle.std.specs.List.{AllByRecursion}
use Rattle.std.specs.declared.cmp.Ordering.{Ordering}
use Rattle.std.specs.declared.cmp.Ordering.TheVariants.{Less, Equal, Greater}
use Rattle.std.specs.Ordering.{is_eq, nat_cmp, ordering_then}
use Rattle.update_core.specs.declared.updates.Update.{Update}
use Rattle.store_core.specs.declared.part_keys.PartKey.{PartKey}
use Rattle.store_core.specs.Stores.{Log, shard_cmp, key_cmp}
use Rattle.store_core.specs.Histories.{store_after}
use Rattle.state_core.specs.declared.transitions.Transition.{Transition}
use Rattle.state_core.specs.States.{ShardState, floor, Names, KeyFits}
use Rattle.state_core.specs.Steps.{Takes}
use Rattle.version_codec.specs.Reading.{version_in}
use Rattle.spine_core.specs.Contents.{IsBatchOf}
use Rattle.std.proofs.lemmas.List.{append-nil}
use Rattle.history_core.specs.Readings.{rows_in}
use Rattle.history_core.specs.Stands.{StandsFor, Collection, PartRows, BatchHolds, StateAt, VersionIs, TakenIn, IsPresent}
use Rattle.history_core.specs.Stands.{read_version}
use Rattle.history_core.specs.Histories.{version_at}
use Rattle.worked_histories.specs.Worked.{the_shard, key, merged_batch, early_row, late_row, merged_part, state8, step8, version8}
use Rattle.worked_histories.specs.WorkedTrail.{worked}
use Rattle.worked_histories.proofs.WorkedVersions.{reads8}
use Rattle.worked_histories.proofs.WorkedParts.{reads_merged}
use Rattle.worked_histories.proofs.WorkedParted.{one_value}
use Rattle.worked_histories.proofs.WorkedKeeper.{merged_is}

eight : (n : ℕ) → (n == 8) ≡ true → n ≡ 8
eight n h = grind (arith, nat_tests)

there : (n : ℕ) (c : Bool) (b : List ℕ) → (c ≡ true → n ≡ 8) → cond c (Some version8) None ≡ Some b → (n ≡ 8) × (b ≡ version8)
there n true b f e = (f refl, cc)
there n false b f e = absurd (let g : None ≡ Some b = e in cc)

-- version 8 alone is there
pub only_eight : (n : ℕ) (b : List ℕ) → version_at ((store_after worked).logs the_shard) n ≡ Some b → (n ≡ 8) × (b ≡ version8)
only_eight n b e = there n (n == 8) b (eight n) e

was : (n : ℕ) (c : Bool) (s : ShardState) (x : Transition) → (c ≡ true → n ≡ 8) →
    read_version the_shard n (cond c (Some version8) None) ≡ Some (s, x) → (n ≡ 8) × (◌≡◌ {A = ShardState × Transition} (
      s,
      x,
    ) (state8, step8))
was n true s x f e = (
  f refl,
  one_value (version_in the_shard n version8) (s, x) (
    state8,
    step8,
  ) e (ap (λ (m : ℕ). version_in the_shard m version8) (f refl) ∙ reads8),
)
was n false s x f e = absurd (let g : None ≡ Some (s, x) = e in cc)

-- and is state 8
only_state : (n : ℕ) (s : ShardState) (x : Transition) → VersionIs the_shard ((store_after worked).logs the_shard) n s x →
    (n ≡ 8) × (◌≡◌ {A = ShardState × Transition} (s, x) (state8, step8))
only_state n s x e = was n (n == 8) s x (eight n) e

state_eight : (n : ℕ) (s : ShardState) → StateAt (store_after worked) the_shard n s → s ≡ state8
state_eight n s (x, e) = ap (λ (p : ShardState × Transition). p.0) (only_state n s x e).1

nothing_taken : (n : ℕ) (k : PartKey) → TakenIn the_shard ((store_after worked).logs the_shard) n k → ⊥
nothing_taken n k (s, x, e, t) = subst (λ (p : ShardState × Transition). Takes p.1 k) (only_state n s x e).1 t

named_eight : (n : ℕ) (s : ShardState) (k : PartKey) → StateAt (store_after worked) the_shard n s → Names s k → key 1 1 ≡ k
named_eight n s k at names = elim (subst (λ (t : ShardState). Names t k) (state_eight n s at) names) [
  | inl e ↦ e
  | inr f ↦ absurd f
]

then_tied : (r q : Ordering) → is_eq (ordering_then r q) ≡ true → is_eq q ≡ true
then_tied Less q h = absurd (cc)
then_tied Equal q h = h
then_tied Greater q h = absurd (cc)

first_tied : (r q : Ordering) → is_eq (ordering_then r q) ≡ true → r ≡ Equal
first_tied Less q h = absurd (cc)
first_tied Equal q h = refl
first_tied Greater q h = absurd (cc)

same_member : (a b : PartKey) → is_eq (key_cmp a b) ≡ true → a.member ≡ b.member
same_member a b h = exact_unsigned a.member b.member (first_tied (nat_cmp a.member b.member) _ (then_tied (shard_cmp a.shard b.shard) _ h))

known_or : (c : Bool) (v rest : Option (List ℕ)) (m n : ℕ) (b : List ℕ) → (c ≡ true → m ≡ n) → m < 3 → (rest ≡ Some b →
    n < 3) → cond c v rest ≡ Some b → n < 3
known_or true v rest m n b f lt g e = subst (λ (i : ℕ). i < 3) (f refl) lt
known_or false v rest m n b f lt g e = g e

-- each key that is there has one of the three members
known : (k : PartKey) (b : List ℕ) → (store_after worked).blobs k ≡ Some b → k.member < 3
known k b e =
    known_or (is_eq (key_cmp (key 0 2) k)) None _ 0 k.member b (same_member (key 0 2) k) (omega arith)
    (known_or (is_eq (key_cmp (key 0 1) k)) None _ 0 k.member b (same_member (key 0 1) k) (omega arith)
    (known_or (is_eq (key_cmp (key 1 1) k)) _ _ 1 k.member b (same_member (key 1 1) k) (omega arith)
    (known_or (is_eq (key_cmp (key 0 2) k)) _ _ 0 k.member b (same_member (key 0 2) k) (omega arith)
    (known_or (is_eq (key_cmp (key 0 1) k)) _ None 0 k.member b (same_member (key 0 1) k) (omega arith) (λ h. absurd (cc)))))) e

merged_fits : KeyFits the_shard 3 state8.members (key 1 1)
merged_fits = record { of_shard = refl; below = omega arith; spent = ((λ e. omega arith), ((λ e. omega arith), tt)) }

merged_present : IsPresent (store_after worked) (key 1 1)
merged_present = (merged_part, early_row ∷ late_row ∷ [], refl, reads_merged)

not_start : ◌≡◌ {A = Option ℕ} (Some 10) (Some 0) → ⊥
not_start e = let n : ◌≡◌ {A = ℕ} 10 0 = cc in omega arith

collected : Collection (store_after worked) the_shard (early_row ∷ late_row ∷ [])
collected = record {
  number = 8;
  last = state8;
  newest = refl;
  state = (step8, reads8);
  chain = record {
    each = λ n b e. let (is, bytes) = only_eight n b e in (
      state8,
      step8,
      subst (λ (m : ℕ). version_in the_shard m b ≡ Some (state8, step8)) (sym is) (ap (version_in the_shard 8) bytes ∙ reads8),
    );
    first = λ s x e. absurd (let is : ◌≡◌ {A = ℕ} 0 8 = (only_state 0 s x e).0 in omega arith);
    step = λ n s s2 x x2 e e2. absurd (let is : n ≡ 8 = (only_state n s x e).0 in let is2 : n + 1 ≡ 8 =
        (only_state (n + 1) s2 x2 e2).0 in omega arith);
  };
  live = λ n from to. let is : n ≡ 8 = omega arith in (version8, ap (version_at ((store_after worked).logs the_shard)) is);
  known = λ k b of e. known k b e;
  keys = record {
    named = λ n s k at names. subst (KeyFits the_shard 3 state8.members) (named_eight n s k at names) merged_fits;
    taken = λ n k t. absurd (nothing_taken n k t);
    gone = λ m n s k t le at. absurd (nothing_taken m k t);
  };
  present = λ n s k from at names. subst (IsPresent (store_after worked)) (named_eight n s k at names) merged_present;
  content = λ n s from at. subst (λ (t : ShardState). AllByRecursion (BatchHolds (store_after worked) (early_row ∷ late_row ∷ [])) t.batches)
      (sym (state_eight n s at)) (
        (
          early_row ∷ late_row ∷ [],
          (merged_part, early_row ∷ late_row ∷ [], [], refl, reads_merged, refl, refl),
          merged_is,
          refl,
        ),
        tt,
      );
  before_upper = (refl, (refl, tt));
  light = omega arith;
  unweighed = λ e. absurd (not_start e);
}

pub worked_stands_for : StandsFor (store_after worked) the_shard (early_row ∷ late_row ∷ [])
worked_stands_for = inr collected

-- ---- and for no list without the second row

merged_rows : (us : List Update) → PartRows (store_after worked) (key 1 1 ∷ []) us → us ≡ early_row ∷ late_row ∷ []
merged_rows us (b, first, rest, e, r, joined, nil) =
    let bytes : merged_part ≡ b = cc in
    let f : first ≡ early_row ∷ late_row ∷ [] =
    one_value (rows_in b) first (early_row ∷ late_row ∷ []) r (ap rows_in (sym bytes) ∙ reads_merged) in
    joined ∙ ap (λ (l : List Update). first ++ l) nil ∙ append-nil first ∙ f

row_missing : IsBatchOf (early_row ∷ []) merged_batch.desc (early_row ∷ late_row ∷ []) → ⊥
row_missing h = let e : pos 1 ≡ pos 0 = h.same (98 ∷ [], 6) in cc

batch_missing : BatchHolds (store_after worked) (early_row ∷ []) merged_batch → ⊥
batch_missing (rows, parts, is, count) =
    row_missing (subst (IsBatchOf (early_row ∷ []) merged_batch.desc) (merged_rows rows parts) is)

no_collection : Collection (store_after worked) the_shard (early_row ∷ []) → ⊥
no_collection c =
    let at : c.number ≡ 8 = (only_state c.number c.last c.state.0 c.state.1).0 in
    let is : c.last ≡ state8 = state_eight c.number c.last c.state in
    let from : floor c.last ≤ c.number = let e : floor c.last ≡ 8 = ap floor is in omega arith in
    let all : AllByRecursion (BatchHolds (store_after worked) (early_row ∷ [])) c.last.batches =
    c.content c.number c.last from c.state in
    batch_missing (subst (λ (t : ShardState). AllByRecursion (BatchHolds (store_after worked) (early_row ∷ [])) t.batches) is all).0

pub stands_for_no_less : StandsFor (store_after worked) the_shard (early_row ∷ []) → ⊥
stands_for_no_less (inl e) = let n : ◌≡◌ {A = ℕ} 8 0 = ap (λ (l : Log). l.first) e.no_version in omega arith
stands_for_no_less (inr c) = no_collection c
