-- Keys of a version's batches: those that are read keep the rules, and those that keep them are read.
use Rattle.std.proofs.Common.{◌≡◌, ℕ, zero, suc, ◌^◌, ◌<◌, ◌≤◌, true, false, eqb, List, [], ◌∷◌, ◌++◌, length, Result, Ok, refl, sym, ap, subst, ◌∙◌, append_assoc, arith, inl, inr}
use Rattle.std.specs.Bool.{⊤}
use Rattle.std.specs.List.{flat_map, AllByRecursion, list_any}
use Rattle.std.proofs.lemmas.Bool.{eq-eqb, eqb-true, eqb-false}
use Rattle.std.proofs.lemmas.List.{append-nil}
use Rattle.std.proofs.lemmas.List.Concat.{flat_map-cons}
use Rattle.store_core.specs.declared.shards.ShardId.{ShardId}
use Rattle.store_core.specs.declared.part_keys.PartKey.{PartKey}
use Rattle.state_core.specs.declared.members.Member.{Member}
use Rattle.version_codec.specs.declared.version_faults.VersionFault.{VersionFault}
use Rattle.state_core.specs.Lists.{Among, Distinct}
use Rattle.state_core.specs.Refusals.{same_key, member_of}
use Rattle.state_core.specs.States.{ShardState, KeyFits, keys_of}
use Rattle.version_codec.specs.Reading.{number_at, limited_at, below_at, most_spent, index_at, key_at, keys_at}
use Rattle.version_codec.specs.Versions.{number_bytes, key_bytes, NumberFits, PartKeyFits}
use Rattle.state_core.proofs.ListLemmas.{bool_cases, each_map, among_split, apart}
use Rattle.state_core.proofs.Rules.{Rise}
use Rattle.version_codec.proofs.FieldLaws.{bind_then, guard_ok, ok_is, Took, took_then, number_took, number_again, limited_took, limited_again, below_took, below_again}
use Rattle.version_codec.proofs.Members.{and_true}

-- ---- keys as they are compared

make_key : ShardId → ℕ → ℕ → ℕ → PartKey
make_key shard member token index = record { shard = shard; member = member; token = token; index = index }

made_key : (s s2 : ShardId) (m m2 t t2 i i2 : ℕ) → s ≡ s2 → m ≡ m2 → t ≡ t2 → i ≡ i2 → make_key s m t i ≡ make_key s2 m2 t2 i2
made_key s s2 m m2 t t2 i i2 a b c d = cc

same_fields : (a b : PartKey) → a.shard ≡ b.shard → a.member ≡ b.member → a.token ≡ b.token → a.index ≡ b.index → a ≡ b
unfolding make_key
same_fields a b s m t i = made_key a.shard b.shard a.member b.member a.token b.token a.index b.index s m t i

shard_eq : (a b : ShardId) → eqb a.0 b.0 ≡ true → a ≡ b
shard_eq a b h = let f : ℕ → ShardId = λ n. record { 0 = n } in ap f (eqb-true a.0 b.0 h)

pub key_eq : (a b : PartKey) → same_key a b ≡ true → a ≡ b
key_eq a b h =
    let (p, q) = and_true (eqb a.shard.0 b.shard.0) _ h in
    let (q1, q2) = and_true (eqb a.member b.member) _ q in
    let (q3, q4) = and_true (eqb a.token b.token) _ q2 in
    same_fields a b (shard_eq a.shard b.shard p) (eqb-true _ _ q1) (eqb-true _ _ q3) (eqb-true _ _ q4)

pub key_same : (k : PartKey) → same_key k k ≡ true
key_same k = rw (eq-eqb k.shard.0 k.shard.0 refl, eq-eqb k.member k.member refl, eq-eqb k.token k.token refl, eq-eqb k.index k.index refl) refl

-- a key that no test finds isn't there
pub fresh_apart : (k : PartKey) (ks : List PartKey) → list_any (same_key k) ks ≡ false → Among (λ q. q ≡ k) ks → ⊥
fresh_apart k [] h a = absurd a
fresh_apart k (q ∷ ks) h a = elim (bool_cases (same_key k q)) [
  | inl e ↦ (let h2 : true ≡ false = rw e at h in cc)
  | inr e ↦ (let h2 : list_any (same_key k) ks ≡ false = rw e at h in elim a [
    | inl p ↦ (let s : same_key k k ≡ false = subst (λ (w : PartKey). same_key k w ≡ false) p e in let t : true ≡ false = sym (key_same k) ∙ s in cc)
    | inr p ↦ fresh_apart k ks h2 p
  ])
]

-- a key that isn't there is found by no test
pub apart_fresh : (k : PartKey) (ks : List PartKey) → (Among (λ q. q ≡ k) ks → ⊥) → list_any (same_key k) ks ≡ false
apart_fresh k [] h = refl
apart_fresh k (q ∷ ks) h = elim (bool_cases (same_key k q)) [
  | inl e ↦ absurd (h (inl (sym (key_eq k q e))))
  | inr e ↦ rw e (apart_fresh k ks (λ a. h (inr a)))
]

abbrev pub Unlike : PartKey → PartKey → Type 0
Unlike a b = a ≡ b

push_distinct : (xs : List PartKey) (k : PartKey) → Distinct Unlike xs → (Among (λ q. q ≡ k) xs → ⊥) → Distinct Unlike (xs ++ k ∷ [])
push_distinct [] k d f = ((λ h. h), tt)
push_distinct (x ∷ xs) k d f = (
  (λ h. elim (among_split (λ (b : PartKey). x ≡ b) xs (k ∷ []) h) [
    | inl a ↦ d.0 a
    | inr a ↦ elim a [ inl p ↦ f (inl p) | inr p ↦ absurd p ]
  ]),
  push_distinct xs k d.1 (λ h. f (inr h)),
)

-- ---- what the member of a key allows

pub spent_of : (n token : ℕ) (ms : List Member) → Rise ms → token ≤ most_spent (member_of n ms) → AllByRecursion (λ m. m.number ≡ n → token ≤ m.token) ms
spent_of n token [] r h = tt
spent_of n token (m ∷ ms) r h = elim (bool_cases (eqb m.number n)) [
  | inl e ↦
      let h2 : token ≤ m.token = rw e at h in
      let is : m.number ≡ n = eqb-true _ _ e in
      ((λ q. h2), each_map (λ (x : Member). m.number < x.number) (λ (x : Member). x.number ≡ n → token ≤ x.token) ms (λ x g q. absurd (let g2 : m.number < x.number = g in omega arith)) r.0)
  | inr e ↦
      let h2 : token ≤ most_spent (member_of n ms) = rw e at h in
      let isnt : m.number ≡ n → ⊥ = eqb-false _ _ e in
      ((λ q. absurd (isnt q)), spent_of n token ms r.1 h2)
]

pub of_spent : (n token : ℕ) (ms : List Member) → NumberFits token → AllByRecursion (λ m. m.number ≡ n → token ≤ m.token) ms → token ≤ most_spent (member_of n ms)
of_spent n token [] f h = let g : token < 2 ^ 64 = f in omega arith
of_spent n token (m ∷ ms) f h = elim (bool_cases (eqb m.number n)) [
  | inl e ↦ rw e (h.0 (eqb-true _ _ e))
  | inr e ↦ rw e (of_spent n token ms f h.1)
]

-- ---- reading keys

-- what a key keeps that is read after others
pub record KeyMay (s : ShardState) (before : List PartKey) (k : PartKey) : Type 0 where
  pub fits : KeyFits s.shard s.next_member s.members k
  pub fresh : list_any (same_key k) before ≡ false

-- what keys keep that are read one after the other
abbrev pub KeysMay : ShardState → List PartKey → List PartKey → Type 0
KeysMay s before [] = ⊤
KeysMay s before (k ∷ ks) = KeyMay s before k × KeysMay s (before ++ k ∷ []) ks

pub may_fit : (s : ShardState) (before ks : List PartKey) → KeysMay s before ks → AllByRecursion (KeyFits s.shard s.next_member s.members) ks
may_fit s before [] h = tt
may_fit s before (k ∷ ks) h = (h.0.fits, may_fit s (before ++ k ∷ []) ks h.1)

pub may_distinct : (s : ShardState) (before ks : List PartKey) → Distinct Unlike before → KeysMay s before ks → Distinct Unlike (before ++ ks)
may_distinct s before [] d h = subst (λ (us : List PartKey). Distinct Unlike us) (sym (append-nil before)) d
may_distinct s before (k ∷ ks) d h =
    subst (λ (us : List PartKey). Distinct Unlike us) (append_assoc before (k ∷ []) ks) (may_distinct s (before ++ k ∷ []) ks (push_distinct before k d (fresh_apart k before h.0.fresh)) h.1)

pub distinct_may : (s : ShardState) (before ks : List PartKey) → Distinct Unlike (before ++ ks) → AllByRecursion (KeyFits s.shard s.next_member s.members) ks → KeysMay s before ks
distinct_may s before [] d f = tt
distinct_may s before (k ∷ ks) d f =
    let fresh : list_any (same_key k) before ≡ false = apart_fresh k before (λ a. apart before (k ∷ ks) k d a (inl refl)) in
    let d2 : Distinct Unlike ((before ++ k ∷ []) ++ ks) = subst (λ (us : List PartKey). Distinct Unlike us) (sym (append_assoc before (k ∷ []) ks)) d in
    (record { fits = f.0; fresh = fresh }, distinct_may s (before ++ k ∷ []) ks d2 f.1)

module _ (total : ℕ) where
  abbrev pub TookKey : ShardState → List PartKey → List ℕ → PartKey × List ℕ → Type 0
  TookKey s before bytes y = Took bytes (key_bytes y.0) y.1 (PartKeyFits y.0) × KeyMay s before y.0

  key_made : (s : ShardState) (before : List PartKey) (bytes : List ℕ) (member token index : ℕ × List ℕ) → Rise s.members
      → Took bytes (number_bytes member.0) member.1 (NumberFits member.0) × (member.0 < s.next_member)
      → Took member.1 (number_bytes token.0) token.1 (NumberFits token.0) × (token.0 ≤ most_spent (member_of member.0 s.members))
      → Took token.1 (number_bytes index.0) index.1 (NumberFits index.0)
      → list_any (same_key (record { shard = s.shard; member = member.0; token = token.0; index = index.0 })) before ≡ false
      → TookKey s before bytes (record { shard = s.shard; member = member.0; token = token.0; index = index.0 }, index.1)
  key_made s before bytes member token index r t0 t1 t2 fresh =
      let e1 = took_then member.1 (number_bytes token.0) token.1 (number_bytes index.0) index.1 t1.0 t2 in
      let e0 = took_then bytes (number_bytes member.0) member.1 (number_bytes token.0 ++ number_bytes index.0) index.1 t0.0 e1 in (
        record { parts = e0.parts; rest_is = e0.rest_is; fits = λ h. let f = e0.fits h in record { member = f.0; token = f.1.0; index = f.1.1 } },
        record { fits = record { of_shard = refl; below = t0.1; spent = spent_of member.0 token.0 s.members r t1.1 }; fresh = fresh },
      )

  pub key_took : (s : ShardState) (before : List PartKey) (bytes : List ℕ) (x : PartKey × List ℕ) → Rise s.members → key_at total s before bytes ≡ Ok x → TookKey s before bytes x
  unfolding key_at index_at
  key_took s before bytes x r e =
      bind_then (below_at total s.next_member bytes) _ x e (λ member h0 k0.
      bind_then (limited_at total (most_spent (member_of member.0 s.members)) member.1) _ x k0 (λ token h1 k1.
      bind_then (number_at total token.1) _ x k1 (λ index h2 k2.
      let k : PartKey = record { shard = s.shard; member = member.0; token = token.0; index = index.0 } in
      let (fresh, is) = guard_ok (list_any (same_key k) before) _ (k, index.1) x k2 in
      subst (λ (y : PartKey × List ℕ). TookKey s before bytes y) is
      (key_made s before bytes member token index r (below_took total s.next_member bytes member h0) (limited_took total (most_spent (member_of member.0 s.members)) member.1 token h1) (number_took total token.1 index h2) fresh))))

  again_of : (s : ShardState) (before : List PartKey) (k : PartKey) (shard : ShardId) (rest : List ℕ) → shard ≡ k.shard → list_any (same_key k) before ≡ false → NumberFits k.index
      → index_at total shard k.member k.token before (number_bytes k.index ++ rest) ≡ Ok (k, rest)
  unfolding index_at
  again_of s before k shard rest is fresh f =
      ap (λ (t : ShardId). index_at total t k.member k.token before (number_bytes k.index ++ rest)) is ∙ rw (number_again total k.index rest f, fresh) refl

  pub key_again : (s : ShardState) (before : List PartKey) (k : PartKey) (rest : List ℕ) → PartKeyFits k → KeyMay s before k → key_at total s before (key_bytes k ++ rest) ≡ Ok (k, rest)
  unfolding key_at
  key_again s before k rest f may =
      let r2 = number_bytes k.index ++ rest in
      let r1 = number_bytes k.token ++ r2 in
      let regrouped : key_bytes k ++ rest ≡ number_bytes k.member ++ r1 = simp append_assoc in
      ap (key_at total s before) regrouped
      ∙ rw (
        below_again total s.next_member k.member r1 f.member may.fits.below,
        limited_again total (most_spent (member_of k.member s.members)) k.token r2 f.token (of_spent k.member k.token s.members f.token may.fits.spent),
      )
      (again_of s before k s.shard rest (sym may.fits.of_shard) may.fresh f.index)

  pub record ReadKeys (s : ShardState) (ks : List PartKey) (n : ℕ) (bytes : List ℕ) (y : List PartKey × List ℕ) : Type 0 where
    pub keys : List PartKey
    pub is : y.0 ≡ ks ++ keys
    pub count : length keys ≡ n
    pub took : Took bytes (flat_map key_bytes keys) y.1 (AllByRecursion PartKeyFits keys)
    pub may : KeysMay s (keys_of s.batches ++ ks) keys

  no_key : (s : ShardState) (ks : List PartKey) (bytes : List ℕ) → ReadKeys s ks 0 bytes (ks, bytes)
  no_key s ks bytes = record { keys = []; is = sym (append-nil ks); count = refl; took = record { parts = λ h. refl; rest_is = λ h. h; fits = λ h. tt }; may = tt }

  one_key : (s : ShardState) (ks : List PartKey) (n : ℕ) (bytes : List ℕ) (k : PartKey × List ℕ) (x : List PartKey × List ℕ) → TookKey s (keys_of s.batches ++ ks) bytes k
      → ReadKeys s (ks ++ k.0 ∷ []) n k.1 x → ReadKeys s ks (suc n) bytes x
  one_key s ks n bytes k x t r =
      let both = took_then bytes (key_bytes k.0) k.1 (flat_map key_bytes r.keys) x.1 t.0 r.took in
      record {
        keys = k.0 ∷ r.keys;
        is = r.is ∙ append_assoc ks (k.0 ∷ []) r.keys;
        count = ap suc r.count;
        took = record { parts = λ h. both.parts h ∙ ap (λ (text : List ℕ). text ++ x.1) (sym (flat_map-cons key_bytes k.0 r.keys)); rest_is = both.rest_is; fits = both.fits };
        may = (t.1, subst (λ (us : List PartKey). KeysMay s us r.keys) (sym (append_assoc (keys_of s.batches) ks (k.0 ∷ []))) r.may);
      }

  pub keys_took : (n : ℕ) (s : ShardState) (ks : List PartKey) (bytes : List ℕ) (x : List PartKey × List ℕ) → Rise s.members → keys_at total s ks n bytes ≡ Ok x → ReadKeys s ks n bytes x
  unfolding keys_at
  keys_took zero s ks bytes x r e = subst (λ (y : List PartKey × List ℕ). ReadKeys s ks 0 bytes y) (ok_is (ks, bytes) x e) (no_key s ks bytes)
  keys_took (suc n) s ks bytes x r e =
      bind_then (key_at total s (keys_of s.batches ++ ks) bytes) _ x e (λ k h e2.
      one_key s ks n bytes k x (key_took s (keys_of s.batches ++ ks) bytes k r h) (keys_took n s (ks ++ k.0 ∷ []) k.1 x r e2))

  pub keys_again : (new : List PartKey) (s : ShardState) (ks : List PartKey) (rest : List ℕ) → AllByRecursion PartKeyFits new → KeysMay s (keys_of s.batches ++ ks) new
      → keys_at total s ks (length new) (flat_map key_bytes new ++ rest) ≡ Ok (ks ++ new, rest)
  unfolding keys_at
  keys_again [] s ks rest f may = ap (λ (us : List PartKey). let t : Result (List PartKey × List ℕ) VersionFault = Ok (us, rest) in t) (sym (append-nil ks))
  keys_again (k ∷ new) s ks rest f may =
      let regrouped : flat_map key_bytes (k ∷ new) ++ rest ≡ key_bytes k ++ (flat_map key_bytes new ++ rest) =
      ap (λ (x : List ℕ). x ++ rest) (flat_map-cons key_bytes k new) ∙ append_assoc (key_bytes k) (flat_map key_bytes new) rest in
      let later : KeysMay s (keys_of s.batches ++ (ks ++ k ∷ [])) new = subst (λ (us : List PartKey). KeysMay s us new) (append_assoc (keys_of s.batches) ks (k ∷ [])) may.1 in
      ap (keys_at total s ks (suc (length new))) regrouped
      ∙ rw (key_again s (keys_of s.batches ++ ks) k (flat_map key_bytes new ++ rest) f.0 may.0) (keys_again new s (ks ++ k ∷ []) rest f.1 later)
      ∙ ap (λ (us : List PartKey). let t : Result (List PartKey × List ℕ) VersionFault = Ok (us, rest) in t) (append_assoc ks (k ∷ []) new)
