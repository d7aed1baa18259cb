-- Batches that keep the rules one by one keep those of a state, and the other way round.
use Rattle.std.proofs.Common.{◌≡◌, ℕ, suc, ◌+◌, ◌-◌, ◌≤◌, true, false, eqb, List, [], ◌∷◌, ◌++◌, length, Option, Some, None, refl, sym, ap, subst, ◌∙◌, append_assoc, arith}
use Rattle.std.specs.Bool.{⊤}
use Rattle.std.specs.List.{AllByRecursion}
use Rattle.std.proofs.lemmas.Bool.{eq-eqb, eqb-true, ne_eqb, le-leb, leb-true, ltb-true}
use Rattle.std.proofs.lemmas.List.{append-nil}
use Rattle.std.proofs.lemmas.List.Sums.{sum_by-append, sum_by-cons}
use Rattle.update_core.specs.Frontiers.{covers, is_at, frontier_eq}
use Rattle.store_core.specs.declared.part_keys.PartKey.{PartKey}
use Rattle.spine_core.specs.Spines.{Follows, upper_from, spine_upper, rows_of}
use Rattle.spine_core.specs.declared.batches.Batch.{Batch}
use Rattle.state_core.specs.Lists.{Distinct}
use Rattle.state_core.specs.Refusals.{is_part_count}
use Rattle.state_core.specs.States.{ShardState, KeyFits, keys_of, IsPartCount}
use Rattle.version_codec.specs.Reading.{may_end, with_batch}
use Rattle.state_core.proofs.Keys.{keys-append}
use Rattle.state_core.proofs.ListLemmas.{each_append, each_front, each_back, among_front}
use Rattle.state_core.proofs.Refused.{frontier_is}
use Rattle.version_codec.proofs.Members.{and_true}
use Rattle.version_codec.proofs.Keys.{Unlike, KeysMay, may_fit, may_distinct, distinct_may}
use Rattle.version_codec.proofs.Batches.{BatchMay}

-- what batches keep that are read one after the other, the last of all at the end
abbrev pub BatchesMay : ShardState → List Batch → Type 0
BatchesMay s [] = ⊤
BatchesMay s (b ∷ bs) = BatchMay s (eqb (length bs) 0) b × BatchesMay (with_batch s b) bs

-- ---- numbers and frontiers

rows_of-nil : rows_of [] ≡ 0
rows_of-nil = refl

pub rows_of-append : (us bs : List Batch) → rows_of (us ++ bs) ≡ rows_of us + rows_of bs
rows_of-append us bs = sum_by-append (λ (b : Batch). b.rows) us bs

pub rows_of-cons : (b : Batch) (bs : List Batch) → rows_of (b ∷ bs) ≡ b.rows + rows_of bs
rows_of-cons b bs = sum_by-cons (λ (w : Batch). w.rows) b bs

-- the rows with one batch more
pub rows_of-push : (us : List Batch) (b : Batch) → rows_of (us ++ b ∷ []) ≡ rows_of us + b.rows
rows_of-push us b = let e = rows_of-append us (b ∷ []) in let f = rows_of-cons b [] in let g = rows_of-nil in omega arith

at_is : (f : Option ℕ) (t : ℕ) → is_at f t ≡ true → f ≡ Some t
at_is None t h = cc
at_is (Some n) t h = ap Some (eqb-true n t h)

is_there : (f : Option ℕ) (t : ℕ) → f ≡ Some t → is_at f t ≡ true
is_there f t e = subst (λ (g : Option ℕ). is_at g t ≡ true) (sym e) (eq-eqb t t refl)

frontier_self : (f g : Option ℕ) → f ≡ g → frontier_eq f g ≡ true
frontier_self f g e = subst (λ (h : Option ℕ). frontier_eq f h ≡ true) e (same f)
  where
    same : (o : Option ℕ) → frontier_eq o o ≡ true
    same None = refl
    same (Some n) = eq-eqb n n refl

pub upper_from-push : (f : Option ℕ) (bs : List Batch) (b : Batch) → upper_from f (bs ++ b ∷ []) ≡ b.desc.upper
upper_from-push f [] b = refl
upper_from-push f (c ∷ bs) b = upper_from-push c.desc.upper bs b

pub keys_of-push : (us : List Batch) (b : Batch) → keys_of (us ++ b ∷ []) ≡ keys_of us ++ b.parts
keys_of-push us b = keys-append us (b ∷ []) ∙ ap (λ (ks : List PartKey). keys_of us ++ ks) (append-nil b.parts)

-- ---- from batches that are read to the rules

may_follow : (bs : List Batch) (s : ShardState) → BatchesMay s bs → Follows (spine_upper s.batches) bs
may_follow [] s h = tt
may_follow (b ∷ bs) s h =
    let (covered, rest) = and_true (covers b.desc.upper b.desc.lower) _ h.0.ends in
    (at_is (spine_upper s.batches) b.desc.lower h.0.lower, covered, subst (λ (f : Option ℕ). Follows f bs) (upper_from-push (Some 0) s.batches b) (may_follow bs (with_batch s b) h.1))

last_ends : (s : ShardState) (b : Batch) → BatchMay s true b → s.upper ≡ b.desc.upper
last_ends s b h = let (covered, ends) = and_true (covers b.desc.upper b.desc.lower) _ h.ends in frontier_is s.upper b.desc.upper ends

pub may_reach : (bs : List Batch) (b : Batch) (s : ShardState) → BatchesMay s (b ∷ bs) → s.upper ≡ upper_from b.desc.upper bs
may_reach [] b s h = last_ends s b h.0
may_reach (c ∷ bs) b s h = may_reach bs c (with_batch s b) h.1

may_since : (bs : List Batch) (s : ShardState) → BatchesMay s bs → AllByRecursion (λ b. b.desc.since ≤ s.since) bs
may_since [] s h = tt
may_since (b ∷ bs) s h = (h.0.since, may_since bs (with_batch s b) h.1)

part_count_is : (rows parts : ℕ) → is_part_count rows parts ≡ true → IsPartCount rows parts
part_count_is rows parts h = let (p, q) = and_true _ _ h in (leb-true _ _ p, ltb-true _ _ q)

may_count : (bs : List Batch) (s : ShardState) → BatchesMay s bs → AllByRecursion (λ b. IsPartCount b.rows (length b.parts)) bs
may_count [] s h = tt
may_count (b ∷ bs) s h = (part_count_is b.rows (length b.parts) h.0.count, may_count bs (with_batch s b) h.1)

may_rows : (bs : List Batch) (s : ShardState) → rows_of s.batches ≤ s.weight → BatchesMay s bs → rows_of s.batches + rows_of bs ≤ s.weight
may_rows [] s le h = let e = rows_of-nil in omega arith
may_rows (b ∷ bs) s le h =
    let own : b.rows ≤ s.weight - rows_of s.batches = h.0.rows in
    let e = rows_of-push s.batches b in
    let f = rows_of-cons b bs in
    let more : rows_of (s.batches ++ b ∷ []) ≤ s.weight = omega arith in
    let all : rows_of (s.batches ++ b ∷ []) + rows_of bs ≤ s.weight = may_rows bs (with_batch s b) more h.1 in
    omega arith

may_keys : (bs : List Batch) (s : ShardState) → BatchesMay s bs → AllByRecursion (KeyFits s.shard s.next_member s.members) (keys_of bs)
may_keys [] s h = tt
may_keys (b ∷ bs) s h = each_append (KeyFits s.shard s.next_member s.members) b.parts (keys_of bs) (may_fit s (keys_of s.batches ++ []) b.parts h.0.keys) (may_keys bs (with_batch s b) h.1)

may_differ : (bs : List Batch) (s : ShardState) → Distinct Unlike (keys_of s.batches) → BatchesMay s bs → Distinct Unlike (keys_of s.batches ++ keys_of bs)
may_differ [] s d h = subst (λ (us : List PartKey). Distinct Unlike us) (sym (append-nil (keys_of s.batches))) d
may_differ (b ∷ bs) s d h =
    let nil = append-nil (keys_of s.batches) in
    let own : Distinct Unlike (keys_of s.batches ++ b.parts) = may_distinct s (keys_of s.batches) b.parts d (subst (λ (us : List PartKey). KeysMay s us b.parts) nil h.0.keys) in
    let push = keys_of-push s.batches b in
    let more : Distinct Unlike (keys_of (s.batches ++ b ∷ [])) = subst (λ (us : List PartKey). Distinct Unlike us) (sym push) own in
    subst (λ (us : List PartKey). Distinct Unlike us) (ap (λ (us : List PartKey). us ++ keys_of bs) push ∙ append_assoc (keys_of s.batches) b.parts (keys_of bs)) (may_differ bs (with_batch s b) more h.1)

-- the rules that batches keep after those of a state
pub record BatchRules (s : ShardState) (bs : List Batch) : Type 0 where
  pub follows : Follows (spine_upper s.batches) bs
  pub sinces : AllByRecursion (λ b. b.desc.since ≤ s.since) bs
  pub rows : rows_of s.batches + rows_of bs ≤ s.weight
  pub parts : AllByRecursion (λ b. IsPartCount b.rows (length b.parts)) bs
  pub keys : AllByRecursion (KeyFits s.shard s.next_member s.members) (keys_of bs)
  pub distinct : Distinct Unlike (keys_of s.batches ++ keys_of bs)

pub may_rules : (bs : List Batch) (s : ShardState) → rows_of s.batches ≤ s.weight → Distinct Unlike (keys_of s.batches) → BatchesMay s bs → BatchRules s bs
may_rules bs s le d h = record { follows = may_follow bs s h; sinces = may_since bs s h; rows = may_rows bs s le h; parts = may_count bs s h; keys = may_keys bs s h; distinct = may_differ bs s d h }

-- ---- and back

count_is : (rows parts : ℕ) → IsPartCount rows parts → is_part_count rows parts ≡ true
count_is rows parts h = let p = le-leb _ _ h.0 in let q = le-leb _ _ h.1 in rw (p, q) refl

may_last : (s : ShardState) (b : Batch) (bs : List Batch) → covers b.desc.upper b.desc.lower ≡ true → s.upper ≡ upper_from b.desc.upper bs → may_end s (eqb (length bs) 0) b.desc.lower b.desc.upper ≡ true
may_last s b [] covered ends = let e = frontier_self s.upper b.desc.upper ends in rw (covered, e) refl
may_last s b (c ∷ bs) covered ends = let e : eqb (suc (length bs)) 0 ≡ false = ne_eqb (suc (length bs)) 0 (λ q. omega arith) in rw (covered, e) refl

pub rules_may : (bs : List Batch) (s : ShardState) → BatchRules s bs → s.upper ≡ upper_from (spine_upper s.batches) bs → BatchesMay s bs
rules_may [] s r e = tt
rules_may (b ∷ bs) s r e =
    let f = rows_of-push s.batches b in
    let g = rows_of-cons b bs in
    let all : rows_of s.batches + rows_of (b ∷ bs) ≤ s.weight = r.rows in
    let push = keys_of-push s.batches b in
    let up = upper_from-push (Some 0) s.batches b in
    let nil = append-nil (keys_of s.batches) in
    let front : Distinct Unlike ((keys_of s.batches ++ b.parts) ++ keys_of bs) = subst (λ (us : List PartKey). Distinct Unlike us) (sym (append_assoc (keys_of s.batches) b.parts (keys_of bs))) r.distinct in
    let keys : KeysMay s (keys_of s.batches) b.parts = distinct_may s (keys_of s.batches) b.parts (distinct_front (keys_of s.batches ++ b.parts) (keys_of bs) front) (each_front (KeyFits s.shard s.next_member s.members) b.parts (keys_of bs) r.keys) in (
      record {
        lower = is_there (spine_upper s.batches) b.desc.lower r.follows.0;
        ends = may_last s b bs r.follows.1 e;
        since = r.sinces.0;
        rows = omega arith;
        count = count_is b.rows (length b.parts) r.parts.0;
        keys = subst (λ (us : List PartKey). KeysMay s us b.parts) (sym nil) keys;
      },
      rules_may bs (with_batch s b) (record {
        follows = subst (λ (o : Option ℕ). Follows o bs) (sym up) r.follows.2;
        sinces = r.sinces.1;
        rows = (let le : rows_of (s.batches ++ b ∷ []) + rows_of bs ≤ s.weight = omega arith in le);
        parts = r.parts.1;
        keys = each_back (KeyFits s.shard s.next_member s.members) b.parts (keys_of bs) r.keys;
        distinct = subst (λ (us : List PartKey). Distinct Unlike (us ++ keys_of bs)) (sym push) front;
      }) (e ∙ ap (λ (o : Option ℕ). upper_from o bs) (sym up)),
    )
  where
    distinct_front : (xs ys : List PartKey) → Distinct Unlike (xs ++ ys) → Distinct Unlike xs
    distinct_front [] ys d = tt
    distinct_front (x ∷ xs) ys d = ((λ h. d.0 (among_front (λ (k : PartKey). x ≡ k) xs ys h)), distinct_front xs ys d.1)
