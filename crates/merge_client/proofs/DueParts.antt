-- The parts of the pair that is due are those of some of a state's batches.
use Rattle.std.proofs.Common.{◌≡◌, ◌+◌, ◌<◌, ◌≤◌, ◌++◌, ℕ, zero, suc, Bool, true, false, cond, Option, Some, None, List, [], ◌∷◌, ◌&&◌, refl, sym, ap, subst, ◌∙◌, arith}
use Rattle.std.specs.Prelude.{nat_le, nat_lt, filter}
use Rattle.std.specs.List.{slice_get}
use Rattle.std.specs.Option.{option_map}
use Rattle.std.proofs.lemmas.Bool.Decides.{nat_tests}
use Rattle.std.proofs.lemmas.List.{append-nil}
use Rattle.update_core.specs.Frontiers.{covers}
use Rattle.spine_core.specs.declared.batches.Batch.{Batch}
use Rattle.spine_core.specs.Settled.{due_place, weights_of, with_next}
use Rattle.spine_core.specs.Spines.{Follows}
use Rattle.store_core.specs.declared.part_keys.PartKey.{PartKey}
use Rattle.state_core.specs.States.{IsState, ShardState, keys_of}
use Rattle.read_machine.specs.declared.looks.Look.TheVariants as looks
use Rattle.read_machine.specs.Questions.{SomeParts}
use Rattle.merge_client.specs.declared.founds.Found.TheVariants as founds
use Rattle.merge_client.specs.Finding.{look_at, look_by, places_in}

-- the batch's lower lies between these
abbrev pub is_between : ℕ → ℕ → Batch → Bool
is_between a c b = nat_le a b.desc.lower && nat_le b.desc.lower c

between_true : (a c n : ℕ) → a ≤ n → n ≤ c → (nat_le a n && nat_le n c) ≡ true
between_true a c n h k = grind (arith, nat_tests)

under_false : (a c n : ℕ) → n < a → (nat_le a n && nat_le n c) ≡ false
under_false a c n h = grind (arith, nat_tests)

over_false : (a c n : ℕ) → c < n → (nat_le a n && nat_le n c) ≡ false
over_false a c n h = grind (arith, nat_tests)

covered : (u n : ℕ) → nat_lt n u ≡ true → n < u
covered u n h = grind (arith, nat_tests)

some_same : (a b : ℕ) → Some a ≡ Some b → a ≡ b
some_same a b h = cc

-- a batch of those that run from a time on isn't before it
from_time : (u : ℕ) (bs : List Batch) (i : ℕ) (l : Batch) → Follows (Some u) bs → slice_get bs i ≡ Some l → u ≤ l.desc.lower
from_time u [] i l f h = absurd (let bad : None ≡ Some l = h in cc)
from_time u (b ∷ bs) zero l f h =
    let is : b ≡ l = (let e : Some b ≡ Some l = h in cc) in
    let at : u ≡ b.desc.lower = some_same u b.desc.lower f.0 in
    subst (λ (z : Batch). u ≤ z.desc.lower) is (omega (arith, at))
from_time u (b ∷ bs) (suc i) l f h = on b.desc.upper (λ v g. from_time v bs i l g h) f.1 f.2
  where
    at : u ≡ b.desc.lower
    at = some_same u b.desc.lower f.0

    on : (o : Option ℕ) → ((v : ℕ) → Follows (Some v) bs → v ≤ l.desc.lower) → covers o b.desc.lower ≡ true →
        Follows o bs → u ≤ l.desc.lower
    on None ih c g = none bs g h
      where
        none : (cs : List Batch) → Follows None cs → slice_get cs i ≡ Some l → u ≤ l.desc.lower
        none [] g k = absurd (let bad : None ≡ Some l = k in cc)
        none (d ∷ ds) g k = absurd (let bad : None ≡ Some d.desc.lower = g.0 in cc)
    on (Some v) ih c g = let far = ih v g in let past = covered v b.desc.lower c in omega (arith, far, past, at)

-- those past a time are none of those up to it
none_past : (a c : ℕ) (o : Option ℕ) (bs : List Batch) → ((v : ℕ) → o ≡ Some v → c < v) → Follows o bs →
    filter (is_between a c) bs ≡ []
none_past a c o [] past f = refl
none_past a c o (b ∷ bs) past f =
    let here = past b.desc.lower f.0 in
    let rest = none_past a c b.desc.upper bs (λ v e. let cov : covers (Some v) b.desc.lower ≡ true = subst (λ (z : Option
    ℕ). covers z b.desc.lower ≡ true) e f.1 in
    let far = covered v b.desc.lower cov in omega (arith, here, far)) f.2 in
    ap (λ (t : Bool). cond t (b ∷ filter (is_between a c) bs) (filter (is_between a c) bs)) (over_false a c b.desc.lower
    here) ∙ rest

module _ (l r : Batch) where
  abbrev test : Batch → Bool
  test = is_between l.desc.lower r.desc.lower

  -- the first two
  at_front : (u : ℕ) (b : Batch) (bs : List Batch) → Follows (Some u) (b ∷ bs) → b ≡ l → slice_get bs 0 ≡ Some r →
      filter test (b ∷ bs) ≡ l ∷ r ∷ []
  at_front u b [] f is h = absurd (let bad : None ≡ Some r = h in cc)
  at_front u b (d ∷ ds) f is h =
      let next : d ≡ r = (let e : Some d ≡ Some r = h in cc) in
      let upper : b.desc.upper ≡ Some d.desc.lower = f.2.0 in
      let cov : covers (Some d.desc.lower) b.desc.lower ≡ true = subst (λ (z : Option ℕ). covers z b.desc.lower ≡ true)
      upper f.1 in
      let less = covered d.desc.lower b.desc.lower cov in
      let l_is : b.desc.lower ≡ l.desc.lower = ap (λ (z : Batch). z.desc.lower) is in
      let r_is : d.desc.lower ≡ r.desc.lower = ap (λ (z : Batch). z.desc.lower) next in
      let rest = none_past l.desc.lower r.desc.lower d.desc.upper ds (λ v e.
      let c : covers (Some v) d.desc.lower ≡ true = subst (λ (z : Option ℕ). covers z d.desc.lower ≡ true) e f.2.1 in
      let far = covered v d.desc.lower c in omega (arith, far, r_is)) f.2.2 in
      ap (λ (t : Bool). cond t (b ∷ filter test (d ∷ ds)) (filter test (d ∷ ds)))
      (between_true l.desc.lower r.desc.lower b.desc.lower (omega (arith, l_is)) (omega (arith, less, r_is))) ∙
      ap (λ (t : Bool). b ∷ cond t (d ∷ filter test ds) (filter test ds))
      (between_true l.desc.lower r.desc.lower d.desc.lower (omega (arith, less, l_is)) (omega (arith, r_is))) ∙
      ap (λ (cs : List Batch). b ∷ d ∷ cs) rest ∙ ap (λ (z : Batch). z ∷ d ∷ []) is ∙ ap (λ (z : Batch). l ∷ z ∷ []) next

  -- two neighbours are those whose lowers lie between theirs
  pair_filtered : (u : ℕ) (bs : List Batch) (i : ℕ) → Follows (Some u) bs → slice_get bs i ≡ Some l →
      slice_get bs (suc i) ≡ Some r →
      filter test bs ≡ l ∷ r ∷ []
  pair_filtered u [] i f h k = absurd (let bad : None ≡ Some l = h in cc)
  pair_filtered u (b ∷ bs) zero f h k = at_front u b bs f (let e : Some b ≡ Some l = h in cc) k
  pair_filtered u (b ∷ bs) (suc i) f h k = on b.desc.upper (λ v g. pair_filtered v bs i g h k) f.1 f.2
    where
      on : (o : Option ℕ) → ((v : ℕ) → Follows (Some v) bs → filter test bs ≡ l ∷ r ∷ []) →
          covers o b.desc.lower ≡ true → Follows o bs → filter test (b ∷ bs) ≡ l ∷ r ∷ []
      on None ih c g = none bs g h
        where
          none : (cs : List Batch) → Follows None cs → slice_get cs i ≡ Some l → filter test (b ∷ bs) ≡ l ∷ r ∷ []
          none [] g k = absurd (let bad : None ≡ Some l = k in cc)
          none (d ∷ ds) g k = absurd (let bad : None ≡ Some d.desc.lower = g.0 in cc)
      on (Some v) ih c g =
          let past = covered v b.desc.lower c in
          let far = from_time v bs i l g h in
          ap (λ (t : Bool). cond t (b ∷ filter test bs) (filter test bs)) (under_false l.desc.lower r.desc.lower
          b.desc.lower (omega (arith, past, far))) ∙
          ih v g

-- what is read for the pair that is due
pub due_parts : (s : ShardState) (keys : List PartKey) → IsState s → look_by s (places_in s) ≡ looks.Parts keys → SomeParts s keys
due_parts s keys is_state e = go (due_place (weights_of s.batches)) refl
  where
    both : (i : ℕ) (l r : Option Batch) → slice_get s.batches i ≡ l → slice_get s.batches (i + 1) ≡ r →
        look_at s l r ≡ looks.Parts keys →
        SomeParts s keys
    both i None r h k m = absurd (let bad : looks.Answer (founds.Nothing s.number) ≡ looks.Parts keys = m in cc)
    both i (Some l) None h k m = absurd (let bad : looks.Answer (founds.Nothing s.number) ≡ looks.Parts keys = m in cc)
    both i (Some l) (Some r) h k m =
        let same : l.parts ++ r.parts ≡ keys = (let f : looks.Parts (l.parts ++ r.parts) ≡ looks.Parts keys = m in cc) in
        let next : i + 1 ≡ suc i = omega arith in
        let two = pair_filtered l r 0 s.batches i is_state.spine h (subst (λ (n : ℕ). slice_get s.batches n ≡ Some r) next k) in
        record {
          test = is_between l.desc.lower r.desc.lower;
          keys_are = sym same ∙ ap (λ (ks : List PartKey). l.parts ++ ks) (sym (append-nil r.parts)) ∙ ap keys_of (sym two);
        }

    go : (o : Option ℕ) → due_place (weights_of s.batches) ≡ o → SomeParts s keys
    go None is =
        let none : places_in s ≡ None = ap (option_map with_next) is in
        absurd (let bad : looks.Answer (founds.Nothing s.number) ≡ looks.Parts keys = sym (ap (look_by s) none) ∙ e in cc)
    go (Some i) is =
        let at_both : places_in s ≡ Some (i, i + 1) = ap (option_map with_next) is in
        both i (slice_get s.batches i) (slice_get s.batches (i + 1)) refl refl (sym (ap (look_by s) at_both) ∙ e)
