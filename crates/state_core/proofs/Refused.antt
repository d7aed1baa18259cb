use Rattle.std.proofs.Common.{◌∙◌, is_some, option_map, ◌≡◌, ◌&&◌, not, ℕ, suc, ◌+◌, ◌*◌, ◌<◌, ◌≤◌, ◌^◌, Bool, true, false, cond, List, [], ◌∷◌, ◌++◌, inl, inr, refl, arith, subst, sym, ap, eqb, leb, ltb, Some, None, Option, length}
use Rattle.std.specs.Bool.{⊤}
use Rattle.std.specs.List.{list_any}
use Rattle.std.proofs.lemmas.Bool.{eqb-true, eqb-false, eq-eqb, ne_eqb, ltb-true, le-leb, leb-true}
use Rattle.std.proofs.lemmas.Bool.Decides.{leb_tells}
use Rattle.state_core.specs.Lists.{Among}
use Rattle.update_core.specs.Frontiers.{covers, frontier_eq}
use Rattle.state_core.proofs.ListLemmas.{bool_cases, among_map, each_among}
use Rattle.store_core.specs.declared.shards.ShardId.{ShardId}
use Rattle.store_core.specs.declared.part_keys.PartKey.{PartKey}
use Rattle.spine_core.specs.Places.{adjacent_place}
use Rattle.state_core.specs.declared.kinds.Kind.{Kind}
use Rattle.state_core.specs.declared.kinds.Kind.TheVariants.{Writer, Reader, Keeper}
use Rattle.spine_core.specs.declared.batches.Batch.{Batch}
use Rattle.state_core.specs.declared.members.Member.{Member}
use Rattle.state_core.specs.declared.transitions.Transition.{Transition}
use Rattle.state_core.specs.declared.transitions.Transition.TheVariants.{Init, Join, Leave, Renew, Advance, Expire, Append, Merge}
use Rattle.state_core.specs.declared.refusals.Refusal.{Refusal}
use Rattle.state_core.specs.declared.refusals.Refusal.TheVariants.{Shape, Spent, NoMember, TokenOld, UpperIs, Heavy, Back, NotPresent, NotDue}
use Rattle.state_core.specs.States.{ShardState, IsState, IsPartCount, is_writer, is_reader}
use Rattle.state_core.specs.Steps.{Applies, Makes, AreKeys, JoinShape, AppendShape, MergeShape, Stands, is_out}
use Rattle.state_core.specs.Refusals.{refusal_of, refusal_by_kind, of_member, member_of, follows, is_shaped, is_key, same_key, same_keys, same_batch, are_keys, is_part_count, is_keeper, any_kind}
use Rattle.state_core.proofs.Rules.{applies_of, Rise, rise_of}

and_true : (a b : Bool) → (a && b) ≡ true → (a ≡ true) × (b ≡ true)
and_true true b h = (refl, h)
and_true false b h = cc

shard_eq : (a b : ShardId) → eqb a.0 b.0 ≡ true → a ≡ b
shard_eq a b h = let f : ℕ → ShardId = λ n. record { 0 = n } in ap f (eqb-true a.0 b.0 h)

make_key : ShardId → ℕ → ℕ → ℕ → PartKey
make_key shard member token index = record { shard = shard; member = member; token = token; index = index }

made_key : (s s2 : ShardId) (m m2 t t2 i i2 : ℕ) → s ≡ s2 → m ≡ m2 → t ≡ t2 → i ≡ i2 → make_key s m t i ≡ make_key s2 m2 t2 i2
made_key s s2 m m2 t t2 i i2 a b c d = cc

same_fields : (a b : PartKey) → a.shard ≡ b.shard → a.member ≡ b.member → a.token ≡ b.token → a.index ≡ b.index → a ≡ b
unfolding make_key
same_fields a b s m t i = made_key a.shard b.shard a.member b.member a.token b.token a.index b.index s m t i

key_eq : (a b : PartKey) → same_key a b ≡ true → a ≡ b
key_eq a b h =
    let (p, q) = and_true (eqb a.shard.0 b.shard.0) _ h in
    let (q1, q2) = and_true (eqb a.member b.member) _ q in
    let (q3, q4) = and_true (eqb a.token b.token) _ q2 in
    same_fields a b (shard_eq a.shard b.shard p) (eqb-true _ _ q1) (eqb-true _ _ q3) (eqb-true _ _ q4)

pub frontier_is : (f g : Option ℕ) → frontier_eq f g ≡ true → f ≡ g
frontier_is None None h = refl
frontier_is (Some a) (Some b) h = ap Some (eqb-true a b h)
frontier_is None (Some b) h = cc
frontier_is (Some a) None h = cc

keys_eq : (us bs : List PartKey) → same_keys us bs ≡ true → us ≡ bs
keys_eq [] [] h = refl
keys_eq (a ∷ us) (b ∷ bs) h = let (p, q) = and_true (same_key a b) _ h in let e = key_eq a b p in let f = keys_eq us bs q in cc
keys_eq [] (b ∷ bs) h = cc
keys_eq (a ∷ us) [] h = cc

make_batch : ℕ → Option ℕ → ℕ → List PartKey → ℕ → Batch
make_batch lower upper since parts rows = record { desc = record { lower = lower; upper = upper; since = since }; parts = parts; rows = rows }

made_batch : (l l2 : ℕ) (u u2 : Option ℕ) (s s2 : ℕ) (p p2 : List PartKey) (r r2 : ℕ) → l ≡ l2 → u ≡ u2 → s ≡ s2 → p ≡ p2 → r ≡ r2 → make_batch l u s p r ≡ make_batch l2 u2 s2 p2 r2
made_batch l l2 u u2 s s2 p p2 r r2 a b c d e = cc

batch_fields : (a b : Batch) → a.desc.lower ≡ b.desc.lower → a.desc.upper ≡ b.desc.upper → a.desc.since ≡ b.desc.since → a.parts ≡ b.parts → a.rows ≡ b.rows → a ≡ b
unfolding make_batch
batch_fields a b l u s p r = made_batch a.desc.lower b.desc.lower a.desc.upper b.desc.upper a.desc.since b.desc.since a.parts b.parts a.rows b.rows l u s p r

pub batch_eq : (a b : Batch) → same_batch a b ≡ true → a ≡ b
batch_eq a b h =
    let (p1, q1) = and_true (eqb a.desc.lower b.desc.lower) _ h in
    let (p2, q2) = and_true (frontier_eq a.desc.upper b.desc.upper) _ q1 in
    let (p3, q3) = and_true (eqb a.desc.since b.desc.since) _ q2 in
    let (p4, q4) = and_true (same_keys a.parts b.parts) _ q3 in
    batch_fields a b (eqb-true _ _ p1) (frontier_is _ _ p2) (eqb-true _ _ p3) (keys_eq _ _ p4) (eqb-true _ _ q4)

are_keys_is : (shard : ShardId) (member token i : ℕ) (ks : List PartKey) → are_keys shard member token i ks ≡ true → AreKeys shard member token i ks
unfolding make_key
are_keys_is shard member token i [] h = tt
are_keys_is shard member token i (k ∷ ks) h =
    let (p, q) = and_true (is_key shard member token i k) _ h in
    (key_eq k (make_key shard member token i) p, are_keys_is shard member token (suc i) ks q)

part_count_is : (rows parts : ℕ) → is_part_count rows parts ≡ true → IsPartCount rows parts
part_count_is rows parts h = let (p, q) = and_true (leb rows (4096 * parts)) _ h in (leb-true _ _ p, ltb-true _ _ q)

-- a test that passes where a refusal would come else
none_then : (b : Bool) (r : Refusal) (o : Option Refusal) → cond b (Some r) o ≡ None → (b ≡ false) × (o ≡ None)
none_then true r o h = cc
none_then false r o h = (refl, h)

not_false : (b : Bool) → not b ≡ false → b ≡ true
not_false true h = refl
not_false false h = cc

not_true : (b : Bool) → not b ≡ true → b ≡ false
not_true false h = refl
not_true true h = cc

-- the member that is found
record Found (n : ℕ) (ms : List Member) (fits : Kind → Bool) (next : Member → Option Refusal) : Type 0 where
  pub member : Member
  pub stands : Among (λ w. (w.number ≡ n) × (w ≡ member)) ms
  pub kind : fits member.kind ≡ true
  pub rest : next member ≡ None

found : (n : ℕ) (ms : List Member) (fits : Kind → Bool) (next : Member → Option Refusal) → of_member (member_of n ms) fits next ≡ None → Found n ms fits next
found n [] fits next h = cc
found n (m ∷ ms) fits next h = elim (bool_cases (eqb m.number n)) [
  | inl e ↦
      let h2 : cond (fits m.kind) (next m) (Some NoMember) ≡ None = rw e at h in
      elim (bool_cases (fits m.kind)) [
        | inl k ↦ record { member = m; stands = inl (eqb-true m.number n e, refl); kind = k; rest = rw k at h2 }
        | inr k ↦ absurd (let h3 : Some NoMember ≡ None = rw k at h2 in cc)
      ]
  | inr e ↦
      let g = found n ms fits next (rw e at h) in
      record { member = g.member; stands = inr g.stands; kind = g.kind; rest = g.rest }
]

stands_with : (n : ℕ) (ms : List Member) (m : Member) (P : Member → Type 0) → P m → Among (λ w. (w.number ≡ n) × (w ≡ m)) ms → Stands n P ms
stands_with n ms m P p h = among_map (λ (w : Member). (w.number ≡ n) × (w ≡ m)) (λ (w : Member). (w.number ≡ n) × P w) ms (λ w q. (q.0, subst P (sym q.1) p)) h

keeper_is : (k : Kind) → is_keeper k ≡ true → k ≡ Keeper
keeper_is Writer h = cc
keeper_is Reader h = cc
keeper_is Keeper h = refl

any_among : (now : ℕ) (ms : List Member) → list_any (is_out now) ms ≡ true → Among (λ m. is_out now m ≡ true) ms
any_among now [] h = cc
any_among now (m ∷ ms) h = elim (bool_cases (is_out now m)) [ inl e ↦ inl e | inr e ↦ inr (any_among now ms (rw e at h)) ]

pub mapped_some : (f : ℕ → ℕ) (o : Option ℕ) → is_some (option_map f o) ≡ is_some o
mapped_some f None = refl
mapped_some f (Some n) = refl

follows_next : (left right a b : Batch) (bs : List Batch) → (same_batch a left && same_batch b right) ≡ false → follows left right (a ∷ b ∷ bs) ≡ follows left right (b ∷ bs)
follows_next left right a b bs e = rw e (mapped_some (λ n. n + 1) (adjacent_place (λ x y. same_batch x left && same_batch y right) (b ∷ bs)))

split_at : (left right : Batch) (bs : List Batch) → follows left right bs ≡ true → (before : List Batch) × (behind : List Batch) × (bs ≡ before ++ left ∷ right ∷ behind)
split_at left right [] h = cc
split_at left right (a ∷ []) h = cc
split_at left right (a ∷ b ∷ bs) h = elim (bool_cases (same_batch a left && same_batch b right)) [
  | inl e ↦
      let (p, q) = and_true (same_batch a left) _ e in
      let e1 = batch_eq a left p in let e2 = batch_eq b right q in
      ([], bs, cc)
  | inr e ↦
      let (before, behind, eq) = split_at left right (b ∷ bs) (sym (follows_next left right a b bs e) ∙ h) in
      (a ∷ before, behind, ap (λ us. a ∷ us) eq)
]

pub join_shape : (s : ShardState) (kind : Kind) (now lease : ℕ) → is_shaped s (Join kind now lease) ≡ true → JoinShape kind now lease
join_shape s Writer now lease h = let (p, q) = and_true (eqb now 0) _ h in (eqb-true now 0 p, eqb-true lease 0 q)
join_shape s Reader now lease h = tt
join_shape s Keeper now lease h = tt

pub append_shape : (s : ShardState) (member token expected : ℕ) (new : Option ℕ) (parts : List PartKey) (rows weight : ℕ) → is_shaped s (Append member token expected new parts rows weight) ≡ true → AppendShape s.shard member token expected new parts rows weight
append_shape s member token expected new parts rows weight h =
    let (p1, q1) = and_true (covers new expected) _ h in
    let (p2, q2) = and_true (leb rows 65536) _ q1 in
    let (p3, q3) = and_true (leb rows weight) _ q2 in
    let (p4, q4) = and_true (leb weight (2 ^ 62 + 1)) _ q3 in
    let (p5, q5) = and_true (are_keys s.shard member token 0 parts) _ q4 in
    record { forward = p1; few = leb-true _ _ p2; dense = leb-true _ _ p3; light = leb-true _ _ p4; keys = are_keys_is s.shard member token 0 parts p5; count = part_count_is rows (length parts) q5 }

pub merge_shape : (s : ShardState) (member token : ℕ) (left right merged : Batch) → is_shaped s (Merge member token left right merged) ≡ true → MergeShape s member token left right merged
merge_shape s member token left right merged h =
    let (p1, q1) = and_true (frontier_eq left.desc.upper (Some right.desc.lower)) _ h in
    let (p2, q2) = and_true (eqb merged.desc.lower left.desc.lower) _ q1 in
    let (p3, q3) = and_true (frontier_eq merged.desc.upper right.desc.upper) _ q2 in
    let (p4, q4) = and_true (leb left.desc.since merged.desc.since) _ q3 in
    let (p5, q5) = and_true (leb right.desc.since merged.desc.since) _ q4 in
    let (p6, q6) = and_true (leb merged.desc.since s.since) _ q5 in
    let (p7, q7) = and_true (leb merged.rows (left.rows + right.rows)) _ q6 in
    let (p8, q8) = and_true (are_keys s.shard member token 0 merged.parts) _ q7 in
    record {
      joins = frontier_is _ _ p1;
      lower = eqb-true _ _ p2;
      upper = frontier_is _ _ p3;
      from_left = leb-true _ _ p4;
      from_right = leb-true _ _ p5;
      since = leb-true _ _ p6;
      rows = leb-true _ _ p7;
      keys = are_keys_is s.shard member token 0 merged.parts p8;
      count = part_count_is merged.rows (length merged.parts) q8;
    }

not_leb : (a b : ℕ) → leb a b ≡ false → b < a
not_leb a b h = elim (leb_tells a b) [ inl p ↦ absurd (let q = p.0 in cc) | inr p ↦ p.1 ]

-- where no refusal meets a transition it makes a state
makes_by : (s : ShardState) (x : Transition) → is_shaped s x ≡ true → refusal_by_kind s x ≡ None → (s2 : ShardState) × Makes s x s2
makes_by s Init sh h = cc
makes_by s (Join kind now lease) sh h =
    let (full, n) = none_then (leb 256 (length s.members)) _ None h in
    (_, record { shape = join_shape s kind now lease sh; room = not_leb 256 (length s.members) full; effect = refl })
makes_by s (Leave member) sh h = let f = found member s.members any_kind (λ m. None) h in
    (_, record { stands = stands_with member s.members f.member (λ m. ⊤) tt f.stands; effect = refl })
makes_by s (Renew member now) sh h = let f = found member s.members (λ k. not (is_writer k)) (λ m. None) h in
    (_, record { stands = stands_with member s.members f.member (λ m. is_writer m.kind ≡ false) (not_true _ f.kind) f.stands; effect = refl })
makes_by s (Advance member to) sh h =
    let f = found member s.members is_reader (λ m. cond (ltb to m.since) (Some (Back m.since)) None) h in
    let (back, n) = none_then (ltb to f.member.since) _ None f.rest in
    let le : f.member.since < suc to = not_leb (suc to) f.member.since back in
    (_, record { stands = stands_with member s.members f.member (λ m. (is_reader m.kind ≡ true) × (m.since ≤ to)) (f.kind, omega arith) f.stands; effect = refl })
makes_by s (Expire now) sh h = elim (bool_cases (list_any (is_out now) s.members)) [
  | inl e ↦ (_, record { due = any_among now s.members e; effect = refl })
  | inr e ↦ absurd (let h2 : Some NotDue ≡ None = rw e at h in cc)
]
makes_by s (Append member token expected new parts rows weight) sh h =
    let next : Member → Option Refusal = λ m. cond (leb token m.token) (Some (TokenOld m.token)) (cond (not (frontier_eq s.upper (Some expected))) (Some (UpperIs s.upper)) (cond (ltb (2 ^ 62) (s.weight + weight)) (Some (Heavy s.weight)) None)) in
    let f = found member s.members is_writer next h in
    let (old, n1) = none_then (leb token f.member.token) _ _ f.rest in
    let (up, n2) = none_then (not (frontier_eq s.upper (Some expected))) _ _ n1 in
    let (heavy, n3) = none_then (ltb (2 ^ 62) (s.weight + weight)) _ _ n2 in
    let le : s.weight + weight < suc (2 ^ 62) = not_leb (suc (2 ^ 62)) (s.weight + weight) heavy in (
      _,
      record {
        shape = append_shape s member token expected new parts rows weight sh;
        stands = stands_with member s.members f.member (λ m. (is_writer m.kind ≡ true) × (m.token < token)) (f.kind, not_leb token f.member.token old) f.stands;
        fits = frontier_is s.upper (Some expected) (not_false _ up);
        light = omega arith;
        effect = refl;
      },
    )
makes_by s (Merge member token left right merged) sh h =
    let next : Member → Option Refusal = λ m. cond (leb token m.token) (Some (TokenOld m.token)) (cond (follows left right s.batches) None (Some NotPresent)) in
    let f = found member s.members is_keeper next h in
    let (old, n1) = none_then (leb token f.member.token) _ _ f.rest in
    let there : follows left right s.batches ≡ true = elim (bool_cases (follows left right s.batches)) [ inl e ↦ e | inr e ↦ absurd (let n2 : Some NotPresent ≡ None = rw e at n1 in cc) ] in
    let (before, behind, eq) = split_at left right s.batches there in (
      _,
      record {
        shape = merge_shape s member token left right merged sh;
        stands = stands_with member s.members f.member (λ m. (m.kind ≡ Keeper) × (m.token < token)) (keeper_is f.member.kind f.kind, not_leb token f.member.token old) f.stands;
        before = before;
        behind = behind;
        present = eq;
        effect = refl;
      },
    )

-- where none of the ten refusals comes the transition applies
pub applies_unrefused : (s : ShardState) (x : Transition) → IsState s → s.number < 2 ^ 64 → refusal_of s x ≡ None → (s2 : ShardState) × Applies s x s2
applies_unrefused s x r small h =
    let (shaped, h2) = none_then (not (is_shaped s x)) Shape _ h in
    let (spent, h3) = none_then (eqb s.number 0xffff_ffff_ffff_ffff) Spent _ h2 in
    let ne : s.number ≡ 0xffff_ffff_ffff_ffff → ⊥ = eqb-false s.number 0xffff_ffff_ffff_ffff spent in
    let (s2, makes) = makes_by s x (not_false _ shaped) h3 in
    (s2, applies_of s s2 x r (omega arith) makes)

key_same : (k : PartKey) → same_key k k ≡ true
key_same k = rw (eq-eqb k.shard.0 k.shard.0 refl, eq-eqb k.member k.member refl, eq-eqb k.token k.token refl, eq-eqb k.index k.index refl) refl

frontier_same : (o : Option ℕ) → frontier_eq o o ≡ true
frontier_same None = refl
frontier_same (Some n) = eq-eqb n n refl

frontier_self : (f g : Option ℕ) → f ≡ g → frontier_eq f g ≡ true
frontier_self f g e = subst (λ (h : Option ℕ). frontier_eq f h ≡ true) e (frontier_same f)

keys_same : (ks : List PartKey) → same_keys ks ks ≡ true
keys_same [] = refl
keys_same (k ∷ ks) = rw (key_same k, keys_same ks) refl

pub batch_same : (b : Batch) → same_batch b b ≡ true
batch_same b = rw (eq-eqb b.desc.lower b.desc.lower refl, frontier_same b.desc.upper, eq-eqb b.desc.since b.desc.since refl, keys_same b.parts, eq-eqb b.rows b.rows refl) refl

keys_are : (shard : ShardId) (member token i : ℕ) (ks : List PartKey) → AreKeys shard member token i ks → are_keys shard member token i ks ≡ true
keys_are shard member token i [] h = refl
keys_are shard member token i (k ∷ ks) h =
    let e : is_key shard member token i k ≡ true = subst (λ (q : PartKey). same_key k q ≡ true) h.0 (key_same k) in
    rw (e, keys_are shard member token (suc i) ks h.1) refl

both_true : (a b : Bool) → a ≡ true → b ≡ true → (a && b) ≡ true
both_true a b p q = rw (p, q) refl

count_is : (rows parts : ℕ) → IsPartCount rows parts → is_part_count rows parts ≡ true
count_is rows parts h = both_true _ _ (le-leb _ _ h.0) (le-leb _ _ h.1)

leb_not : (a b : ℕ) → b < a → leb a b ≡ false
leb_not a b h = elim (leb_tells a b) [ inl p ↦ absurd (let le : a ≤ b = p.1 in omega arith) | inr p ↦ p.0 ]

-- a member that stands is the one that is found
finds : (n : ℕ) (P : Member → Type 0) (ms : List Member) → Rise ms → Stands n P ms → (w : Member) × (member_of n ms ≡ Some w) × P w
finds n P [] r h = absurd h
finds n P (m ∷ ms) r (inl h) = (m, rw (eq-eqb m.number n h.0) refl, h.1)
finds n P (m ∷ ms) r (inr h) =
    let (w, e, p) = finds n P ms r.1 h in
    let (x, above, is) = each_among (λ x. m.number < x.number) (λ x. (x.number ≡ n) × P x) ms r.0 h in
    let ne : m.number ≡ n → ⊥ = λ q. (let a : m.number < x.number = above in let b : x.number ≡ n = is.0 in omega arith) in
    (w, rw (ne_eqb m.number n ne) e, p)

found_none : (n : ℕ) (ms : List Member) (fits : Kind → Bool) (next : Member → Option Refusal) (P : Member → Type 0) → Rise ms → Stands n P ms → ((w : Member) → P w → (fits w.kind ≡ true) × (next w ≡ None)) → of_member (member_of n ms) fits next ≡ None
found_none n ms fits next P r h f =
    let (w, e, p) = finds n P ms r h in
    let (a, b) = f w p in
    rw (e, a) b

among_any : (now : ℕ) (ms : List Member) → Among (λ m. is_out now m ≡ true) ms → list_any (is_out now) ms ≡ true
among_any now [] h = absurd h
among_any now (m ∷ ms) (inl h) = rw h refl
among_any now (m ∷ ms) (inr h) = elim (bool_cases (is_out now m)) [ inl e ↦ rw e refl | inr e ↦ rw e (among_any now ms h) ]

follows_is : (left right : Batch) (before behind : List Batch) → follows left right (before ++ left ∷ right ∷ behind) ≡ true
follows_is left right [] behind = rw (batch_same left, batch_same right) refl
follows_is left right (a ∷ []) behind = elim (bool_cases (same_batch a left && same_batch left right)) [ inl e ↦ rw e refl | inr e ↦ follows_next left right a left (right ∷ behind) e ∙ follows_is left right [] behind ]
follows_is left right (a ∷ b ∷ before) behind = elim (bool_cases (same_batch a left && same_batch b right)) [ inl e ↦ rw e refl | inr e ↦ follows_next left right a b (before ++ left ∷ right ∷ behind) e ∙ follows_is left right (b ∷ before) behind ]

pub shaped_append : (s : ShardState) (member token expected : ℕ) (new : Option ℕ) (parts : List PartKey) (rows weight : ℕ) → AppendShape s.shard member token expected new parts rows weight → is_shaped s (Append member token expected new parts rows weight) ≡ true
shaped_append s member token expected new parts rows weight h =
    both_true _ _ h.forward (both_true _ _ (le-leb _ _ h.few) (both_true _ _ (le-leb _ _ h.dense) (both_true _ _ (le-leb _ _ h.light) (both_true _ _ (keys_are s.shard member token 0 parts h.keys) (count_is rows (length parts) h.count)))))

pub shaped_merge : (s : ShardState) (member token : ℕ) (left right merged : Batch) → MergeShape s member token left right merged → is_shaped s (Merge member token left right merged) ≡ true
shaped_merge s member token left right merged h =
    both_true _ _ (frontier_self _ _ h.joins) (both_true _ _ (eq-eqb _ _ h.lower) (both_true _ _ (frontier_self _ _ h.upper) (both_true _ _ (le-leb _ _ h.from_left) (both_true _ _ (le-leb _ _ h.from_right)
    (both_true _ _ (le-leb _ _ h.since) (both_true _ _ (le-leb _ _ h.rows) (both_true _ _ (keys_are s.shard member token 0 merged.parts h.keys) (count_is merged.rows (length merged.parts) h.count))))))))

pub shaped_join : (s : ShardState) (kind : Kind) (now lease : ℕ) → JoinShape kind now lease → is_shaped s (Join kind now lease) ≡ true
shaped_join s Writer now lease h = both_true _ _ (eq-eqb now 0 h.0) (eq-eqb lease 0 h.1)
shaped_join s Reader now lease h = refl
shaped_join s Keeper now lease h = refl

shaped : (s s2 : ShardState) (x : Transition) → Makes s x s2 → is_shaped s x ≡ true
shaped s s2 Init m = absurd m
shaped s s2 (Join kind now lease) m = shaped_join s kind now lease m.shape
shaped s s2 (Leave member) m = refl
shaped s s2 (Renew member now) m = refl
shaped s s2 (Advance member to) m = refl
shaped s s2 (Expire now) m = refl
shaped s s2 (Append member token expected new parts rows weight) m = shaped_append s member token expected new parts rows weight m.shape
shaped s s2 (Merge member token left right merged) m = shaped_merge s member token left right merged m.shape

is_keeper-Keeper : (k : Kind) → k ≡ Keeper → is_keeper k ≡ true
is_keeper-Keeper k e = subst (λ (q : Kind). is_keeper q ≡ true) (sym e) refl

by_kind : (s s2 : ShardState) (x : Transition) → Rise s.members → Makes s x s2 → refusal_by_kind s x ≡ None
by_kind s s2 Init r m = absurd m
by_kind s s2 (Join kind now lease) r m = rw (leb_not 256 (length s.members) m.room) refl
by_kind s s2 (Leave member) r m = found_none member s.members any_kind (λ w. None) (λ w. ⊤) r m.stands (λ w p. (refl, refl))
by_kind s s2 (Renew member now) r m = found_none member s.members (λ k. not (is_writer k)) (λ w. None) (λ w. is_writer w.kind ≡ false) r m.stands (λ w p. (rw p refl, refl))
by_kind s s2 (Advance member to) r m = found_none member s.members is_reader (λ w. cond (ltb to w.since) (Some (Back w.since)) None) (λ w. (is_reader w.kind ≡ true) × (w.since ≤ to)) r m.stands
    (λ w p. (p.0, let le : w.since ≤ to = p.1 in rw (leb_not (suc to) w.since (omega arith)) refl))
by_kind s s2 (Expire now) r m = rw (among_any now s.members m.due) refl
by_kind s s2 (Append member token expected new parts rows weight) r m =
    found_none member s.members is_writer (λ w. cond (leb token w.token) (Some (TokenOld w.token)) (cond (not (frontier_eq s.upper (Some expected))) (Some (UpperIs s.upper)) (cond (ltb (2 ^ 62) (s.weight + weight)) (Some (Heavy s.weight)) None)))
    (λ w. (is_writer w.kind ≡ true) × (w.token < token)) r m.stands
    (λ w p. (p.0, let light = m.light in rw (leb_not token w.token p.1, frontier_self s.upper (Some expected) m.fits, leb_not (suc (2 ^ 62)) (s.weight + weight) (omega arith)) refl))
by_kind s s2 (Merge member token left right merged) r m =
    found_none member s.members is_keeper (λ w. cond (leb token w.token) (Some (TokenOld w.token)) (cond (follows left right s.batches) None (Some NotPresent)))
    (λ w. (w.kind ≡ Keeper) × (w.token < token)) r m.stands
    (λ w p. (is_keeper-Keeper w.kind p.0, rw (leb_not token w.token p.1, subst (λ (bs : List Batch). follows left right bs ≡ true) (sym m.present) (follows_is left right m.before m.behind)) refl))

-- a transition that applies meets none of the ten refusals
pub unrefused : (s s2 : ShardState) (x : Transition) → IsState s → Applies s x s2 → refusal_of s x ≡ None
unrefused s s2 x r a =
    let room = a.room in
    let ne : s.number ≡ 0xffff_ffff_ffff_ffff → ⊥ = λ e. omega arith in
    rw (shaped s s2 x a.makes, ne_eqb s.number 0xffff_ffff_ffff_ffff ne) (by_kind s s2 x (rise_of s.members r.rising) a.makes)
