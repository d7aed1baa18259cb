-- What a collection's Scan shows: the keys that its versions take, and the floor.
use Rattle.std.proofs.Common.{◌≡◌, ℕ, ◌≤◌, ◌⊎◌, true, false, Option, Some, None, Result, Ok, Err, List, [], ◌∷◌, ◌++◌, inl, inr, refl, sym, ap, subst, ◌∙◌, arith}
use Rattle.std.specs.Prelude.{nat_le}
use Rattle.std.specs.List.{AllByRecursion}
use Rattle.std.specs.Ordering.{is_eq}
use Rattle.std.proofs.lemmas.Bool.Decides.{nat_tests}
use Rattle.store_core.specs.declared.shards.ShardId.{ShardId}
use Rattle.store_core.specs.declared.part_keys.PartKey.{PartKey}
use Rattle.store_core.specs.declared.versions.Version.{Version}
use Rattle.store_core.specs.Stores.{key_cmp}
use Rattle.state_core.specs.declared.transitions.Transition.{Transition}
use Rattle.version_codec.specs.declared.version_faults.VersionFault.{VersionFault}
use Rattle.state_core.specs.Lists.{Among}
use Rattle.state_core.specs.States.{ShardState, floor}
use Rattle.state_core.specs.Steps.{taken_by}
use Rattle.version_codec.specs.Reading.{read_version, version_in, whole}
use Rattle.state_core.proofs.ListLemmas.{among_back, among_front, among_split, bool_cases}
use Rattle.history_core.specs.Discipline.{NewestIs, TakenUpTo, TakesIn}
use Rattle.history_core.specs.Upkeep.{FloorIs}
use Rattle.history_core.proofs.Entries.{key_eq}
use Rattle.load_core.specs.declared.damages.Damage.{Damage}
use Rattle.load_core.specs.declared.damages.Damage.TheVariants as damages
use Rattle.load_core.specs.Loading.{IsRead, LastReads, newest_after, with_state}
use Rattle.load_core.proofs.Causes.{newest_none, newest_some}
use Rattle.maint_client.specs.declared.sweeps.Sweep.{Sweep}
use Rattle.maint_client.specs.Sweeping.{begins_below, has_key, sweep_from, sweep_of, sweep_under, taken_after, with_key, with_keys, with_step}

pub with_keys_append : (keys ks more : List PartKey) → with_keys (with_keys keys ks) more ≡ with_keys keys (ks ++ more)
with_keys_append keys [] more = refl
with_keys_append keys (k ∷ ks) more = with_keys_append (with_key keys k) ks more

-- the key is among these
abbrev pub Has : List PartKey → PartKey → Type 0
Has keys k = Among (λ q. q ≡ k) keys

-- ---- keys

has_among : (keys : List PartKey) (k : PartKey) → has_key keys k ≡ true → Has keys k
has_among [] k h = absurd (let bad : false ≡ true = h in cc)
has_among (q ∷ keys) k h = elim (bool_cases (is_eq (key_cmp q k))) [
  | inl e ↦ inl (key_eq q k e)
  | inr e ↦ inr (has_among keys k (rw e at h))
]

key_stays : (keys : List PartKey) (j k : PartKey) → Has keys k → Has (with_key keys j) k
key_stays keys j k h = elim (bool_cases (has_key keys j)) [ inl e ↦ rw e h | inr e ↦ rw e (among_front (λ (q : PartKey). q ≡ k) keys (j ∷ []) h) ]

key_comes : (keys : List PartKey) (k : PartKey) → Has (with_key keys k) k
key_comes keys k = elim (bool_cases (has_key keys k)) [
  | inl e ↦ rw e (has_among keys k e)
  | inr e ↦ rw e (among_back (λ (q : PartKey). q ≡ k) keys (k ∷ []) (inl refl))
]

key_either : (keys : List PartKey) (j k : PartKey) → Has (with_key keys j) k → Has keys k ⊎ (j ≡ k)
key_either keys j k h = elim (bool_cases (has_key keys j)) [
  | inl e ↦ inl (rw e at h)
  | inr e ↦ elim (among_split (λ (q : PartKey). q ≡ k) keys (j ∷ []) (rw e at h)) [
    | inl old ↦ inl old
    | inr new ↦ elim new [ inl is ↦ inr is | inr none ↦ absurd none ]
  ]
]

keys_stay : (keys ks : List PartKey) (k : PartKey) → Has keys k → Has (with_keys keys ks) k
keys_stay keys [] k h = h
keys_stay keys (j ∷ ks) k h = keys_stay (with_key keys j) ks k (key_stays keys j k h)

keys_come : (keys ks : List PartKey) (k : PartKey) → Has ks k → Has (with_keys keys ks) k
keys_come keys [] k h = absurd h
keys_come keys (j ∷ ks) k (inl is) = keys_stay (with_key keys j) ks k (subst (λ (q : PartKey). Has (with_key keys j) q) is (key_comes keys j))
keys_come keys (j ∷ ks) k (inr h) = keys_come (with_key keys j) ks k h

keys_either : (keys ks : List PartKey) (k : PartKey) → Has (with_keys keys ks) k → Has keys k ⊎ Has ks k
keys_either keys [] k h = inl h
keys_either keys (j ∷ ks) k h = elim (keys_either (with_key keys j) ks k h) [
  | inl old ↦ elim (key_either keys j k old) [ inl before ↦ inl before | inr is ↦ inr (inl is) ]
  | inr more ↦ inr (inr more)
]

-- ---- versions

reads_in : (shard : ShardId) (n : ℕ) (b : List ℕ) (s : ShardState) (x : Transition) → read_version shard n b ≡ Ok (s, x) → version_in shard n b ≡ Some (s, x)
unfolding version_in
reads_in shard n b s x e = ap whole e

takes_read : (shard : ShardId) (v : Version) (read : ShardState × Transition) (k : PartKey) → read_version shard v.number v.bytes ≡ Ok read →
    TakesIn (version_in shard v.number v.bytes) k → Has (taken_by read.1) k
takes_read shard v read k e h =
    subst (λ (o : Option (ShardState × Transition)). TakesIn o k) (reads_in shard v.number v.bytes read.0 read.1 e) h

read_takes : (shard : ShardId) (v : Version) (read : ShardState × Transition) (k : PartKey) → read_version shard v.number v.bytes ≡ Ok read →
    Has (taken_by read.1) k → TakesIn (version_in shard v.number v.bytes) k
read_takes shard v read k e h =
    subst (λ (o : Option (ShardState × Transition)). TakesIn o k) (sym (reads_in shard v.number v.bytes read.0 read.1 e)) h

above : (n top : ℕ) → nat_le n top ≡ false → ¬ (n ≤ top)
above n top h = grind (arith, nat_tests)

under : (n top : ℕ) → nat_le n top ≡ true → n ≤ top
under n top h = grind (arith, nat_tests)

module _ (shard : ShardId) (top : ℕ) (keys : List PartKey) (k : PartKey) where
  -- each key that was found, or that a version up to the number takes, is found
  pub taken_has : (found : List PartKey) (vs : List Version) → taken_after shard top found vs ≡ Ok keys → Has found k ⊎ TakenUpTo shard top vs k → Has keys k
  taken_has found [] e (inl h) = let same : found ≡ keys = cc in subst (λ (ks : List PartKey). Has ks k) same h
  taken_has found [] e (inr none) = absurd none
  taken_has found (v ∷ vs) e h = elim (bool_cases (nat_le v.number top)) [
    | inl le ↦ by (λ x. taken_has (with_keys found (taken_by x)) vs) (read_version shard v.number v.bytes) refl (rw le at e) h
    | inr le ↦ taken_has found vs (rw le at e) (past (above v.number top le) h)
  ]
    where
      past : (¬ (v.number ≤ top)) → Has found k ⊎ TakenUpTo shard top (v ∷ vs) k → Has found k ⊎ TakenUpTo shard top vs k
      past apart (inl h) = inl h
      past apart (inr (inl t)) = absurd (apart t.0)
      past apart (inr (inr t)) = inr t

      by : ((x : Transition) → taken_after shard top (with_keys found (taken_by x)) vs ≡ Ok keys →
          Has (with_keys found (taken_by x)) k ⊎ TakenUpTo shard top vs k → Has keys k) →
          (r : Result (ShardState × Transition) VersionFault) → read_version shard v.number v.bytes ≡ r →
          with_step v.number r (λ x. taken_after shard top (with_keys found (taken_by x)) vs) ≡ Ok keys →
          Has found k ⊎ TakenUpTo shard top (v ∷ vs) k → Has keys k
      by on (Ok read) is f (inl h) = on read.1 f (inl (keys_stay found (taken_by read.1) k h))
      by on (Ok read) is f (inr (inl t)) = on read.1 f (inl (keys_come found (taken_by read.1) k (takes_read shard v read k is t.1)))
      by on (Ok read) is f (inr (inr t)) = on read.1 f (inr t)
      by on (Err fault) is f h = absurd (let bad : Err (damages.Version v.number fault) ≡ Ok keys = f in cc)

  -- and no other is
  pub taken_only : (found : List PartKey) (vs : List Version) → taken_after shard top found vs ≡ Ok keys → Has keys k → Has found k ⊎ TakenUpTo shard top vs k
  taken_only found [] e h = inl (let same : found ≡ keys = cc in subst (λ (ks : List PartKey). Has ks k) (sym same) h)
  taken_only found (v ∷ vs) e h = elim (bool_cases (nat_le v.number top)) [
    | inl le ↦ by (under v.number top le) (λ x f. taken_only (with_keys found (taken_by x)) vs f h) (read_version shard v.number v.bytes) refl (rw le at e)
    | inr le ↦ elim (taken_only found vs (rw le at e) h) [ inl old ↦ inl old | inr t ↦ inr (inr t) ]
  ]
    where
      by : v.number ≤ top → ((x : Transition) → taken_after shard top (with_keys found (taken_by x)) vs ≡ Ok keys →
          Has (with_keys found (taken_by x)) k ⊎ TakenUpTo shard top vs k) →
          (r : Result (ShardState × Transition) VersionFault) → read_version shard v.number v.bytes ≡ r →
          with_step v.number r (λ x. taken_after shard top (with_keys found (taken_by x)) vs) ≡ Ok keys →
          Has found k ⊎ TakenUpTo shard top (v ∷ vs) k
      by le on (Ok read) is f = elim (on read.1 f) [
        | inl here ↦ elim (keys_either found (taken_by read.1) k here) [
          | inl old ↦ inl old
          | inr new ↦ inr (inl (le, read_takes shard v read k is new))
        ]
        | inr t ↦ inr (inr t)
      ]
      by le on (Err fault) is f = absurd (let bad : Err (damages.Version v.number fault) ≡ Ok keys = f in cc)

-- ---- damage

-- where there is a newest state, or no version, each version can be read
newest_reads : (shard : ShardId) (before o : Option ShardState) (vs : List Version) → newest_after shard before vs ≡ Ok o → AllByRecursion (IsRead shard) vs
newest_reads shard before o [] e = tt
newest_reads shard before o (v ∷ vs) e = by (λ s. newest_reads shard (Some s) o vs) (read_version shard v.number v.bytes) refl e
  where
    by : ((s : ShardState) → newest_after shard (Some s) vs ≡ Ok o → AllByRecursion (IsRead shard) vs) →
        (r : Result (ShardState × Transition) VersionFault) → read_version shard v.number v.bytes ≡ r →
        with_state v.number r (λ s. newest_after shard (Some s) vs) ≡ Ok o → AllByRecursion (IsRead shard) (v ∷ vs)
    by on (Ok read) is f = ((read.0, read.1, is), on read.0 f)
    by on (Err fault) is f = absurd (let bad : Err (damages.Version v.number fault) ≡ Ok o = f in cc)

taken_reads : (shard : ShardId) (top : ℕ) (found : List PartKey) (damage : Damage) (vs : List Version) → AllByRecursion (IsRead shard) vs →
    taken_after shard top found vs ≡ Err damage → ⊥
taken_reads shard top found damage [] all e = let bad : Ok found ≡ Err damage = e in cc
taken_reads shard top found damage (v ∷ vs) all e = elim (bool_cases (nat_le v.number top)) [
  | inl le ↦
      let (s, x, is) = all.0 in
      let f : with_step v.number (read_version shard v.number v.bytes) (λ x. taken_after shard top (with_keys found (taken_by x)) vs) ≡ Err damage = rw le at e in
      taken_reads shard top (with_keys found (taken_by x)) damage vs all.1 (rw is at f)
  | inr le ↦ taken_reads shard top found damage vs all.1 (rw le at e)
]

-- a collection is damaged only where a newest state is
pub sweep_damaged : (shard : ShardId) (vs : List Version) (damage : Damage) → sweep_of shard vs ≡ Err damage → newest_after shard None vs ≡ Err damage
sweep_damaged shard vs damage e = by (newest_after shard None vs) refl e
  where
    keys : (s : ShardState) (r : Result (List PartKey) Damage) → newest_after shard None vs ≡ Ok (Some s) → taken_after shard (floor s) [] vs ≡ r →
        sweep_from (floor s) vs r ≡ Err damage → newest_after shard None vs ≡ Err damage
    keys s (Ok ks) is f g = absurd (let bad : Ok (record { floor = floor s; keys = ks; place = 0; cut = begins_below (floor s) vs }) ≡ Err damage = g in cc)
    keys s (Err d) is f g = absurd (taken_reads shard (floor s) [] d vs (newest_reads shard None (Some s) vs is) f)

    by : (r : Result (Option ShardState) Damage) → newest_after shard None vs ≡ r → sweep_under shard vs r ≡ Err damage → newest_after shard None vs ≡ Err damage
    by (Ok None) is f = absurd (let bad : Ok (record { floor = 0; keys = []; place = 0; cut = false }) ≡ Err damage = f in cc)
    by (Ok (Some s)) is f = keys s (taken_after shard (floor s) [] vs) is refl f
    by (Err d) is f = is ∙ (let same : d ≡ damage = cc in ap (λ (x : Damage). Err x) same)

-- ---- what a Scan asks for

last_newest : (shard : ShardId) (vs : List Version) (s : ShardState) → LastReads shard vs s → NewestIs shard vs s
last_newest shard [] s (v, x, last, reads) = absurd (let bad : None ≡ Some v = last in cc)
last_newest shard (w ∷ []) s (v, x, last, reads) =
    let same : w ≡ v = cc in
    (x, subst (λ (u : Version). version_in shard u.number u.bytes ≡ Some (s, x)) (sym same) reads)
last_newest shard (w ∷ u ∷ vs) s (v, x, last, reads) = last_newest shard (u ∷ vs) s (v, x, last, reads)

pub record Asks (shard : ShardId) (vs : List Version) (w : Sweep) : Type 0 where
  pub floor_is : FloorIs shard vs w.floor
  pub has : (k : PartKey) → TakenUpTo shard w.floor vs k → Has w.keys k
  pub only : (k : PartKey) → Has w.keys k → TakenUpTo shard w.floor vs k
  pub none_yet : w.place ≡ 0
  pub cut : w.cut ≡ begins_below w.floor vs
  -- no version, or the newest state
  pub newest : ((vs ≡ []) × (newest_after shard None vs ≡ Ok None)) ⊎ ((s : ShardState) × (newest_after shard None vs ≡ Ok (Some s)) × (w.floor ≡ floor s) × NewestIs shard vs s)

floor_of : (shard : ShardId) (vs : List Version) (s : ShardState) → NewestIs shard vs s → FloorIs shard vs (floor s)
floor_of shard [] s h = absurd h
floor_of shard (v ∷ vs) s h = (s, h, refl)

-- what the collection is that a Scan asks for
pub sweep_asks : (shard : ShardId) (vs : List Version) (w : Sweep) → sweep_of shard vs ≡ Ok w → Asks shard vs w
sweep_asks shard vs w e = by (newest_after shard None vs) refl e
  where
    keys : (s : ShardState) → newest_after shard None vs ≡ Ok (Some s) → (r : Result (List PartKey) Damage) → taken_after shard (floor s) [] vs ≡ r →
        sweep_from (floor s) vs r ≡ Ok w → Asks shard vs w
    keys s is (Err d) f g = absurd (let bad : Err d ≡ Ok w = g in cc)
    keys s is (Ok ks) f g =
        let first : Sweep = record { floor = floor s; keys = ks; place = 0; cut = begins_below (floor s) vs } in
        let same : first ≡ w = cc in
        let newest : NewestIs shard vs s = elim (newest_some shard None vs s is) [
          | inl none ↦ absurd (let bad : None ≡ Some s = none.1 in cc)
          | inr last ↦ last_newest shard vs s last
        ] in
        subst (Asks shard vs) same (record {
          floor_is = floor_of shard vs s newest;
          has = λ k h. taken_has shard (floor s) ks k [] vs f (inr h);
          only = λ k h. elim (taken_only shard (floor s) ks k [] vs f h) [ inl none ↦ absurd none | inr t ↦ t ];
          none_yet = refl;
          cut = refl;
          newest = inr (s, is, refl, newest);
        })

    by : (r : Result (Option ShardState) Damage) → newest_after shard None vs ≡ r → sweep_under shard vs r ≡ Ok w → Asks shard vs w
    by (Ok None) is f =
        let none : vs ≡ [] = (newest_none shard None vs is).0 in
        let first : Sweep = record { floor = 0; keys = []; place = 0; cut = false } in
        let same : first ≡ w = cc in
        subst (Asks shard vs) same (subst (λ (us : List Version). Asks shard us first) (sym none) (record {
          floor_is = refl;
          has = λ k h. absurd h;
          only = λ k h. absurd h;
          none_yet = refl;
          cut = refl;
          newest = inl (refl, refl);
        }))
    by (Ok (Some s)) is f = keys s is (taken_after shard (floor s) [] vs) refl f
    by (Err d) is f = absurd (let bad : Err d ≡ Ok w = f in cc)
