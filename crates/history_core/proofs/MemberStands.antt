-- What a transition does to a member's kind, and to a writer that doesn't leave.
use Rattle.std.proofs.Common.{◌≡◌, ℕ, ◌+◌, ◌<◌, true, false, List, [], ◌∷◌, inl, inr, refl, arith, subst, sym, ap, ◌∙◌, eqb, Some, None, Option}
use Rattle.std.proofs.lemmas.Bool.{eqb-true}
use Rattle.std.specs.List.{AllByRecursion}
use Rattle.store_core.specs.declared.shards.ShardId.{ShardId}
use Rattle.store_core.specs.declared.calls.Call.{Call}
use Rattle.store_core.specs.declared.calls.Call.TheVariants as calls
use Rattle.store_core.specs.declared.replies.Reply.{Reply}
use Rattle.store_core.specs.declared.replies.Reply.TheVariants as replies
use Rattle.state_core.specs.Lists.{Among}
use Rattle.state_core.specs.declared.kinds.Kind.{Kind}
use Rattle.state_core.specs.declared.kinds.Kind.TheVariants.{Writer}
use Rattle.state_core.specs.declared.members.Member.{Member}
use Rattle.state_core.specs.declared.transitions.Transition.{Transition}
use Rattle.state_core.specs.declared.transitions.Transition.TheVariants.{Init, Join, Leave, Renew, Advance, Expire, Append, Merge}
use Rattle.state_core.specs.States.{ShardState, IsState, is_writer}
use Rattle.state_core.specs.Steps.{Applies, Stands, without, unexpired, changed, is_out, acts_for}
use Rattle.state_core.proofs.ListLemmas.{bool_cases, among_front, among_back, each_append, each_map}
use Rattle.state_core.proofs.Keys.{each_without, each_unexpired, each_changed}
use Rattle.history_core.specs.Discipline.{JoinsAs, IsJoin}
use Rattle.history_core.specs.Members.{KindJoins, IsKindJoin, LeavesIn}

-- if it is this member, it has this kind
abbrev pub KindOf : Kind → ℕ → Member → Type 0
KindOf kind member m = m.number ≡ member → m.kind ≡ kind

-- the member has this kind, where it stands
abbrev pub HasKind : Kind → ℕ → ShardState → Type 0
HasKind kind member s = AllByRecursion (KindOf kind member) s.members

-- it is this member, a writer
abbrev pub IsWriter : ℕ → Member → Type 0
IsWriter member m = (m.number ≡ member) × (is_writer m.kind ≡ true)

-- the member stands, as a writer
abbrev pub Writes : ℕ → ShardState → Type 0
Writes member s = Stands member (λ m. is_writer m.kind ≡ true) s.members

-- a kind stays
pub kind_on : (kind : Kind) (member : ℕ) (s s2 : ShardState) (x : Transition) → Applies s x s2 → member < s.next_member →
    HasKind kind member s → HasKind kind member s2
kind_on kind member s s2 Init a lt h = absurd a.makes
kind_on kind member s s2 (Join k now lease) a lt h =
    subst (HasKind kind member) (sym a.makes.effect) (each_append (KindOf kind member) s.members _ h ((λ e. absurd (omega arith)), tt))
kind_on kind member s s2 (Leave m) a lt h = subst (HasKind kind member) (sym a.makes.effect) (each_without (KindOf kind member) m s.members h)
kind_on kind member s s2 (Renew m now) a lt h =
    subst (HasKind kind member) (sym a.makes.effect) (each_changed (KindOf kind member) m _ s.members (λ w e p. p) h)
kind_on kind member s s2 (Advance m to) a lt h =
    subst (HasKind kind member) (sym a.makes.effect) (each_changed (KindOf kind member) m _ s.members (λ w e p. p) h)
kind_on kind member s s2 (Expire now) a lt h = subst (HasKind kind member) (sym a.makes.effect) (each_unexpired (KindOf kind member) now s.members h)
kind_on kind member s s2 (Append m t expected new parts rows weight) a lt h =
    subst (HasKind kind member) (sym a.makes.effect) (each_changed (KindOf kind member) m _ s.members (λ w e p. p) h)
kind_on kind member s s2 (Merge m t left right merged) a lt h =
    subst (HasKind kind member) (sym a.makes.effect) (each_changed (KindOf kind member) m _ s.members (λ w e p. p) h)

keep_without : (member m : ℕ) (ms : List Member) → ¬ (m ≡ member) → Among (IsWriter member) ms → Among (IsWriter member) (without m ms)
keep_without member m [] ne h = h
keep_without member m (q ∷ ms) ne h = elim (bool_cases (eqb q.number m)) [
  | inl e ↦ rw e (elim h [ inl p ↦ absurd (ne (sym (eqb-true q.number m e) ∙ p.0)) | inr p ↦ keep_without member m ms ne p ])
  | inr e ↦ rw e (elim h [ inl p ↦ inl p | inr p ↦ inr (keep_without member m ms ne p) ])
]

keep_unexpired : (member now : ℕ) (ms : List Member) → Among (IsWriter member) ms → Among (IsWriter member) (unexpired now ms)
keep_unexpired member now [] h = h
keep_unexpired member now (q ∷ ms) h = elim (bool_cases (is_out now q)) [
  | inl e ↦ rw e (elim h [
    | inl p ↦ absurd (let f : is_out now q ≡ false = rw p.1 refl in cc)
    | inr p ↦ keep_unexpired member now ms p
  ])
  | inr e ↦ rw e (elim h [ inl p ↦ inl p | inr p ↦ inr (keep_unexpired member now ms p) ])
]

keep_changed : (member m : ℕ) (f : Member → Member) → ((q : Member) → IsWriter member q → IsWriter member (f q)) → (ms : List Member) →
    Among (IsWriter member) ms → Among (IsWriter member) (changed m f ms)
keep_changed member m f g [] h = h
keep_changed member m f g (q ∷ ms) h = elim (bool_cases (eqb q.number m)) [
  | inl e ↦ rw e (elim h [ inl p ↦ inl (g q p) | inr p ↦ inr (keep_changed member m f g ms p) ])
  | inr e ↦ rw e (elim h [ inl p ↦ inl p | inr p ↦ inr (keep_changed member m f g ms p) ])
]

-- a writer stands on, unless it leaves
pub writes_on : (member : ℕ) (s s2 : ShardState) (x : Transition) → Applies s x s2 → ¬ LeavesIn (Some (s2, x)) member →
    Writes member s → Writes member s2
writes_on member s s2 Init a n h = absurd a.makes
writes_on member s s2 (Join k now lease) a n h = subst (Writes member) (sym a.makes.effect) (among_front (IsWriter member) s.members _ h)
writes_on member s s2 (Leave m) a n h = subst (Writes member) (sym a.makes.effect) (keep_without member m s.members n h)
writes_on member s s2 (Renew m now) a n h = subst (Writes member) (sym a.makes.effect) (keep_changed member m _ (λ q p. p) s.members h)
writes_on member s s2 (Advance m to) a n h = subst (Writes member) (sym a.makes.effect) (keep_changed member m _ (λ q p. p) s.members h)
writes_on member s s2 (Expire now) a n h = subst (Writes member) (sym a.makes.effect) (keep_unexpired member now s.members h)
writes_on member s s2 (Append m t expected new parts rows weight) a n h =
    subst (Writes member) (sym a.makes.effect) (keep_changed member m _ (λ q p. p) s.members h)
writes_on member s s2 (Merge m t left right merged) a n h =
    subst (Writes member) (sym a.makes.effect) (keep_changed member m _ (λ q p. p) s.members h)

-- who leaves acts for itself
pub leaver_acts : (s : ShardState) (x : Transition) (member : ℕ) → LeavesIn (Some (s, x)) member → acts_for x ≡ Some member
leaver_acts s (Leave m) member h = ap Some h
leaver_acts s Init member h = absurd h
leaver_acts s (Join a b c) member h = absurd h
leaver_acts s (Renew a b) member h = absurd h
leaver_acts s (Advance a b) member h = absurd h
leaver_acts s (Expire a) member h = absurd h
leaver_acts s (Append a b c d e f g) member h = absurd h
leaver_acts s (Merge a b c d e) member h = absurd h

-- who joins has its kind, and a writer stands
pub record NewMember (kind : Kind) (member : ℕ) (s : ShardState) : Type 0 where
  pub kinds : HasKind kind member s
  pub writes : kind ≡ Writer → Writes member s

pub new_member : (kind : Kind) (member : ℕ) (s s2 : ShardState) (x : Transition) → IsState s → Applies s x s2 →
    KindJoins (Some (s2, x)) kind member → NewMember kind member s2
new_member kind member s s2 (Join k now lease) r a h =
    let up : s2.next_member ≡ s.next_member + 1 = ap (λ (t : ShardState). t.next_member) a.makes.effect in
    let up2 : s2.next_member ≡ member + 1 = h.1 in
    let next : s.next_member ≡ member = omega arith in
    let none : HasKind kind member s =
    each_map (λ m. m.number < s.next_member) (KindOf kind member) s.members (λ m lt e. absurd (omega arith)) r.known in
    record {
      kinds = subst (HasKind kind member) (sym a.makes.effect) (each_append (KindOf kind member) s.members _ none ((λ e. h.0), tt));
      writes = λ w. subst (Writes member) (sym a.makes.effect) (among_back (IsWriter member) s.members _ (inl (next, ap is_writer (h.0 ∙ w))));
    }
new_member kind member s s2 Init r a h = absurd h
new_member kind member s s2 (Leave m) r a h = absurd h
new_member kind member s s2 (Renew m now) r a h = absurd h
new_member kind member s s2 (Advance m to) r a h = absurd h
new_member kind member s s2 (Expire now) r a h = absurd h
new_member kind member s s2 (Append b c d e f g i) r a h = absurd h
new_member kind member s s2 (Merge b c d e f) r a h = absurd h

joins_as : (o : Option (ShardState × Transition)) (kind : Kind) (member : ℕ) → KindJoins o kind member → JoinsAs o member
joins_as (Some (s, Join k now lease)) kind member h = h.1
joins_as (Some (s, Init)) kind member h = absurd h
joins_as (Some (s, Leave a)) kind member h = absurd h
joins_as (Some (s, Renew a b)) kind member h = absurd h
joins_as (Some (s, Advance a b)) kind member h = absurd h
joins_as (Some (s, Expire a)) kind member h = absurd h
joins_as (Some (s, Append a b c d e f g)) kind member h = absurd h
joins_as (Some (s, Merge a b c d e)) kind member h = absurd h
joins_as None kind member h = absurd h

-- a Join with a kind is a Join
pub is_join : (kind : Kind) (shard : ShardId) (member : ℕ) (call : Call) (r : Reply) → IsKindJoin kind shard member call r →
    IsJoin shard member call r
is_join kind shard member (calls.Cas s expected bytes) (replies.Committed n) h = (h.0, joins_as _ kind member h.1)
is_join kind shard member (calls.Cas s expected bytes) (replies.Version v) h = absurd h
is_join kind shard member (calls.Cas s expected bytes) (replies.Versions v) h = absurd h
is_join kind shard member (calls.Cas s expected bytes) replies.Mismatch h = absurd h
is_join kind shard member (calls.Cas s expected bytes) replies.Spent h = absurd h
is_join kind shard member (calls.Cas s expected bytes) replies.Truncated h = absurd h
is_join kind shard member (calls.Cas s expected bytes) (replies.Bytes v) h = absurd h
is_join kind shard member (calls.Cas s expected bytes) replies.Stored h = absurd h
is_join kind shard member (calls.Cas s expected bytes) replies.Deleted h = absurd h
is_join kind shard member (calls.Cas s expected bytes) replies.Failed h = absurd h
is_join kind shard member (calls.Head s) r h = absurd h
is_join kind shard member (calls.Scan s from) r h = absurd h
is_join kind shard member (calls.Truncate s below) r h = absurd h
is_join kind shard member (calls.Get k) r h = absurd h
is_join kind shard member (calls.Set k b) r h = absurd h
is_join kind shard member (calls.Delete k) r h = absurd h
