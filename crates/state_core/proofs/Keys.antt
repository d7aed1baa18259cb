use Rattle.std.proofs.Common.{◌≡◌, ℕ, suc, ◌<◌, ◌≤◌, List, [], ◌∷◌, ◌++◌, ◌⊎◌, inl, inr, refl, arith, subst, sym, ap, ◌∙◌, eqb, append_assoc, Some}
use Rattle.std.proofs.lemmas.Bool.{eqb-true}
use Rattle.state_core.specs.Lists.{Among, Distinct}
use Rattle.std.specs.List.{AllByRecursion}
use Rattle.state_core.proofs.ListLemmas.{each_append, each_among, among_front, among_back, among_split, apart, distinct_back, bool_cases}
use Rattle.store_core.specs.declared.shards.ShardId.{ShardId}
use Rattle.store_core.specs.declared.part_keys.PartKey.{PartKey}
use Rattle.spine_core.specs.declared.batches.Batch.{Batch}
use Rattle.state_core.specs.declared.members.Member.{Member}
use Rattle.state_core.specs.declared.transitions.Transition.{Transition}
use Rattle.state_core.specs.declared.transitions.Transition.TheVariants.{Init, Join, Leave, Renew, Advance, Expire, Append, Merge}
use Rattle.state_core.specs.States.{ShardState, IsState, KeyFits, keys_of, Names}
use Rattle.state_core.specs.Steps.{Applies, Makes, without, unexpired, changed, is_out, AreKeys, Takes, Adds, Spends, acts_for, Stands}

pub keys-append : (us bs : List Batch) → keys_of (us ++ bs) ≡ keys_of us ++ keys_of bs
keys-append [] bs = refl
keys-append (a ∷ us) bs = ap (λ ks. a.parts ++ ks) (keys-append us bs) ∙ sym (append_assoc a.parts (keys_of us) (keys_of bs))

-- a key among numbered keys has their shard, member and token
pub record IsOf (shard : ShardId) (member token : ℕ) (k : PartKey) : Type 0 where
  pub shard_is : k.shard ≡ shard
  pub member_is : k.member ≡ member
  pub token_is : k.token ≡ token

pub is_of : (shard : ShardId) (member token i : ℕ) (ks : List PartKey) (k : PartKey) → AreKeys shard member token i ks → Among (λ q. q ≡ k) ks → IsOf shard member token k
is_of shard member token i [] k a h = absurd h
is_of shard member token i (q ∷ ks) k a (inl e) = record {
  shard_is = ap (λ (x : PartKey). x.shard) (sym e ∙ a.0);
  member_is = ap (λ (x : PartKey). x.member) (sym e ∙ a.0);
  token_is = ap (λ (x : PartKey). x.token) (sym e ∙ a.0);
}
is_of shard member token i (q ∷ ks) k a (inr h) = is_of shard member token (suc i) ks k a.1 h

-- the member whose token is spent stands below it, so a key under that token doesn't fit
pub spent_fresh : (shard : ShardId) (next member token : ℕ) (P : Member → Type 0) (ms : List Member) (k : PartKey) → IsOf shard member token k →
    Stands member (λ m. P m × (m.token < token)) ms → KeyFits shard next ms k → ⊥
spent_fresh shard next member token P ms k o st fits =
    let (m, spent, stands) = each_among (λ m. m.number ≡ k.member → k.token ≤ m.token) (λ m. (m.number ≡ member) × (P m × (m.token < token))) ms fits.spent st in
    let le : k.token ≤ m.token = spent (stands.0 ∙ sym o.member_is) in
    let te : k.token ≡ token = o.token_is in
    let lt : m.token < token = stands.1.1 in
    omega arith

pub added_of : (s s2 : ShardState) (x : Transition) (k : PartKey) → Applies s x s2 → Adds x k → (member : ℕ) × (token : ℕ) × IsOf s.shard member token k × Spends x member token × (acts_for x ≡ Some member)
added_of s s2 (Append member token expected new parts rows weight) k a h = (member, token, is_of s.shard member token 0 parts k a.makes.shape.keys h, (refl, refl), refl)
added_of s s2 (Merge member token left right merged) k a h = (member, token, is_of s.shard member token 0 merged.parts k a.makes.shape.keys h, (refl, refl), refl)
added_of s s2 Init k a h = absurd h
added_of s s2 (Join kind now lease) k a h = absurd h
added_of s s2 (Leave member) k a h = absurd h
added_of s s2 (Renew member now) k a h = absurd h
added_of s s2 (Advance member to) k a h = absurd h
added_of s s2 (Expire now) k a h = absurd h

-- a key that is added didn't fit the state before: it was neither named nor taken
pub fresh_makes : (s s2 : ShardState) (x : Transition) (k : PartKey) → Makes s x s2 → Adds x k → KeyFits s.shard s.next_member s.members k → ⊥
fresh_makes s s2 (Append member token expected new parts rows weight) k a h fits =
    spent_fresh s.shard s.next_member member token _ s.members k (is_of s.shard member token 0 parts k a.shape.keys h) a.stands fits
fresh_makes s s2 (Merge member token left right merged) k a h fits =
    spent_fresh s.shard s.next_member member token _ s.members k (is_of s.shard member token 0 merged.parts k a.shape.keys h) a.stands fits
fresh_makes s s2 Init k a h fits = absurd h
fresh_makes s s2 (Join kind now lease) k a h fits = absurd h
fresh_makes s s2 (Leave member) k a h fits = absurd h
fresh_makes s s2 (Renew member now) k a h fits = absurd h
fresh_makes s s2 (Advance member to) k a h fits = absurd h
fresh_makes s s2 (Expire now) k a h fits = absurd h

pub added_fresh : (s s2 : ShardState) (x : Transition) (k : PartKey) → Applies s x s2 → Adds x k → KeyFits s.shard s.next_member s.members k → ⊥
added_fresh s s2 x k a h fits = fresh_makes s s2 x k a.makes h fits

pub each_without : (P : Member → Type 0) (member : ℕ) (ms : List Member) → AllByRecursion P ms → AllByRecursion P (without member ms)
each_without P member [] h = h
each_without P member (m ∷ ms) h =
    let rest : AllByRecursion P (without member ms) = each_without P member ms h.1 in
    elim (bool_cases (eqb m.number member)) [ inl e ↦ rw e rest | inr e ↦ rw e (h.0, rest) ]

pub each_unexpired : (P : Member → Type 0) (now : ℕ) (ms : List Member) → AllByRecursion P ms → AllByRecursion P (unexpired now ms)
each_unexpired P now [] h = h
each_unexpired P now (m ∷ ms) h =
    let rest : AllByRecursion P (unexpired now ms) = each_unexpired P now ms h.1 in
    elim (bool_cases (is_out now m)) [ inl e ↦ rw e rest | inr e ↦ rw e (h.0, rest) ]

pub each_changed : (P : Member → Type 0) (member : ℕ) (f : Member → Member) (ms : List Member) → ((m : Member) → m.number ≡ member → P m → P (f m)) → AllByRecursion P ms → AllByRecursion P (changed member f ms)
each_changed P member f [] g h = h
each_changed P member f (m ∷ ms) g h =
    let rest : AllByRecursion P (changed member f ms) = each_changed P member f ms g h.1 in
    elim (bool_cases (eqb m.number member)) [ inl e ↦ rw e (g m (eqb-true m.number member e) h.0, rest) | inr e ↦ rw e (h.0, rest) ]

-- the member's token isn't below the key's
abbrev pub Spent : PartKey → Member → Type 0
Spent k m = m.number ≡ k.member → k.token ≤ m.token

-- a spent token is above that of each key that fits
spent_above : (shard : ShardId) (next member token : ℕ) (P : Member → Type 0) (ms : List Member) (k : PartKey) → KeyFits shard next ms k →
    Stands member (λ m. P m × (m.token < token)) ms → member ≡ k.member → k.token ≤ token
spent_above shard next member token P ms k fits st e =
    let (m, spent, stands) = each_among (Spent k) (λ m. (m.number ≡ member) × (P m × (m.token < token))) ms fits.spent st in
    let le : k.token ≤ m.token = spent (stands.0 ∙ e) in
    let lt : m.token < token = stands.1.1 in
    omega arith

-- a key that fits goes on fitting
pub fits_makes : (s s2 : ShardState) (x : Transition) (k : PartKey) → Makes s x s2 → KeyFits s.shard s.next_member s.members k → KeyFits s2.shard s2.next_member s2.members k
fits_makes s s2 Init k a fits = absurd a
fits_makes s s2 (Join kind now lease) k a fits =
    let below : k.member < s.next_member = fits.below in
    rw a.effect (record { of_shard = fits.of_shard; below = omega arith; spent = each_append (Spent k) s.members _ fits.spent ((λ e. absurd (omega arith)), tt) })
fits_makes s s2 (Leave member) k a fits =
    rw a.effect (record { of_shard = fits.of_shard; below = fits.below; spent = each_without (Spent k) member s.members fits.spent })
fits_makes s s2 (Expire now) k a fits =
    rw a.effect (record { of_shard = fits.of_shard; below = fits.below; spent = each_unexpired (Spent k) now s.members fits.spent })
fits_makes s s2 (Renew member now) k a fits =
    rw a.effect (record { of_shard = fits.of_shard; below = fits.below; spent = each_changed (Spent k) member _ s.members (λ m e h. h) fits.spent })
fits_makes s s2 (Advance member to) k a fits =
    rw a.effect (record { of_shard = fits.of_shard; below = fits.below; spent = each_changed (Spent k) member _ s.members (λ m e h. h) fits.spent })
fits_makes s s2 (Append member token expected new parts rows weight) k a fits =
    rw a.effect (record {
      of_shard = fits.of_shard;
      below = fits.below;
      spent = each_changed (Spent k) member _ s.members
          (λ m e h g. spent_above s.shard s.next_member member token _ s.members k fits a.stands (sym e ∙ g)) fits.spent;
    })
fits_makes s s2 (Merge member token left right merged) k a fits =
    rw a.effect (record {
      of_shard = fits.of_shard;
      below = fits.below;
      spent = each_changed (Spent k) member _ s.members
          (λ m e h g. spent_above s.shard s.next_member member token _ s.members k fits a.stands (sym e ∙ g)) fits.spent;
    })

pub fits_on : (s s2 : ShardState) (x : Transition) (k : PartKey) → Applies s x s2 → KeyFits s.shard s.next_member s.members k → KeyFits s2.shard s2.next_member s2.members k
fits_on s s2 x k a fits = fits_makes s s2 x k a.makes fits

abbrev pub Is : PartKey → PartKey → Type 0
Is k q = q ≡ k

-- a key that is named after a transition was named before, or is added
pub named_after : (s s2 : ShardState) (x : Transition) (k : PartKey) → Applies s x s2 → Names s2 k → Names s k ⊎ Adds x k
named_after s s2 Init k a h = absurd a.makes
named_after s s2 (Join kind now lease) k a h = inl (subst (λ (t : ShardState). Names t k) a.makes.effect h)
named_after s s2 (Leave member) k a h = inl (subst (λ (t : ShardState). Names t k) a.makes.effect h)
named_after s s2 (Renew member now) k a h = inl (subst (λ (t : ShardState). Names t k) a.makes.effect h)
named_after s s2 (Advance member to) k a h = inl (subst (λ (t : ShardState). Names t k) a.makes.effect h)
named_after s s2 (Expire now) k a h = inl (subst (λ (t : ShardState). Names t k) a.makes.effect h)
named_after s s2 (Append member token expected new parts rows weight) k a h =
    let h2 = subst (λ (t : ShardState). Names t k) a.makes.effect h in
    let h3 = rw keys-append at h2 in
    elim (among_split (Is k) (keys_of s.batches) _ h3) [
      | inl g ↦ inl g
      | inr g ↦ elim (among_split (Is k) parts [] g) [ inl f ↦ inr f | inr f ↦ absurd f ]
    ]
named_after s s2 (Merge member token left right merged) k a h =
    let h2 = subst (λ (t : ShardState). Names t k) a.makes.effect h in
    let h3 = rw keys-append at h2 in
    elim (among_split (Is k) (keys_of a.makes.before) _ h3) [
      | inl g ↦ inl (rw (a.makes.present, keys-append) (among_front (Is k) (keys_of a.makes.before) _ g))
      | inr g ↦ elim (among_split (Is k) merged.parts (keys_of a.makes.behind) g) [
        | inl f ↦ inr f
        | inr f ↦ inl (rw (a.makes.present, keys-append) (among_back (Is k) (keys_of a.makes.before) _ (among_back (Is k) left.parts _ (among_back (Is k) right.parts _ f))))
      ]
    ]

-- a key that is taken was named
pub taken_named : (s s2 : ShardState) (x : Transition) (k : PartKey) → Applies s x s2 → Takes x k → Names s k
taken_named s s2 (Merge member token left right merged) k a h =
    rw (a.makes.present, keys-append) (among_back (Is k) (keys_of a.makes.before) _
    (elim (among_split (Is k) left.parts right.parts h) [
      | inl f ↦ among_front (Is k) left.parts _ f
      | inr f ↦ among_back (Is k) left.parts _ (among_front (Is k) right.parts _ f)
    ]))
taken_named s s2 Init k a h = absurd h
taken_named s s2 (Join kind now lease) k a h = absurd h
taken_named s s2 (Leave member) k a h = absurd h
taken_named s s2 (Renew member now) k a h = absurd h
taken_named s s2 (Advance member to) k a h = absurd h
taken_named s s2 (Expire now) k a h = absurd h
taken_named s s2 (Append member token expected new parts rows weight) k a h = absurd h

-- a key that a state names fits it
pub names_fit : (s : ShardState) (k : PartKey) → IsState s → Names s k → KeyFits s.shard s.next_member s.members k
names_fit s k r h =
    let (q, fits, e) = each_among (KeyFits s.shard s.next_member s.members) (Is k) (keys_of s.batches) r.keys h in
    subst (KeyFits s.shard s.next_member s.members) e fits

abbrev pub Unlike : PartKey → PartKey → Type 0
Unlike a b = a ≡ b

-- a key that is taken is named no more in the next state
pub taken_unnamed : (s s2 : ShardState) (x : Transition) (k : PartKey) → IsState s → Applies s x s2 → Takes x k → Names s2 k → ⊥
taken_unnamed s s2 (Merge member token left right merged) k r a t h =
    let d : Distinct Unlike (keys_of s.batches) = r.distinct in
    let d2 : Distinct Unlike (keys_of a.makes.before ++ (left.parts ++ (right.parts ++ keys_of a.makes.behind))) = rw (a.makes.present, keys-append) at d in
    let rest = distinct_back (keys_of a.makes.before) _ d2 in
    let h2 = subst (λ (t : ShardState). Names t k) a.makes.effect h in
    let h3 = rw keys-append at h2 in
    let fits = names_fit s k r (taken_named s s2 (Merge member token left right merged) k a t) in
    elim (among_split (Is k) (keys_of a.makes.before) _ h3) [
      | inl g ↦ apart (keys_of a.makes.before) _ k d2 g
          (elim (among_split (Is k) left.parts right.parts t) [
            | inl f ↦ among_front (Is k) left.parts _ f
            | inr f ↦ among_back (Is k) left.parts _ (among_front (Is k) right.parts _ f)
          ])
      | inr g ↦ elim (among_split (Is k) merged.parts (keys_of a.makes.behind) g) [
        | inl f ↦ added_fresh s s2 (Merge member token left right merged) k a f fits
        | inr f ↦ elim (among_split (Is k) left.parts right.parts t) [
          | inl l ↦ apart left.parts _ k rest l (among_back (Is k) right.parts _ f)
          | inr l ↦ apart right.parts _ k (distinct_back left.parts _ rest) l f
        ]
      ]
    ]
taken_unnamed s s2 Init k r a t h = absurd t
taken_unnamed s s2 (Join kind now lease) k r a t h = absurd t
taken_unnamed s s2 (Leave member) k r a t h = absurd t
taken_unnamed s s2 (Renew member now) k r a t h = absurd t
taken_unnamed s s2 (Advance member to) k r a t h = absurd t
taken_unnamed s s2 (Expire now) k r a t h = absurd t
taken_unnamed s s2 (Append member token expected new parts rows weight) k r a t h = absurd t

-- no member's number is given anew
pub next_rises : (s s2 : ShardState) (x : Transition) → Applies s x s2 → s.next_member ≤ s2.next_member
next_rises s s2 Init a = absurd a.makes
next_rises s s2 (Join kind now lease) a = rw a.makes.effect (omega arith)
next_rises s s2 (Leave member) a = rw a.makes.effect (omega arith)
next_rises s s2 (Renew member now) a = rw a.makes.effect (omega arith)
next_rises s s2 (Advance member to) a = rw a.makes.effect (omega arith)
next_rises s s2 (Expire now) a = rw a.makes.effect (omega arith)
next_rises s s2 (Append member token expected new parts rows weight) a = rw a.makes.effect (omega arith)
next_rises s s2 (Merge member token left right merged) a = rw a.makes.effect (omega arith)
