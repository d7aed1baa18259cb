-- The pair that is due, in the state that named it and in later ones. Entries go newest first.
use Rattle.std.proofs.Common.{◌≡◌, ℕ, zero, suc, ◌+◌, ◌<◌, ◌≤◌, true, false, cond, ◌&&◌, Option, Some, None, List, [], ◌∷◌, ◌++◌}
use Rattle.std.proofs.Common.{length, inl, inr, refl, sym, ap, subst, ◌∙◌, arith}
use Rattle.std.specs.Prelude.{nat_le}
use Rattle.std.specs.List.{AllByRecursion, slice_get}
use Rattle.std.specs.Option.{option_map}
use Rattle.std.proofs.lemmas.Bool.{leb-true}
use Rattle.std.proofs.lemmas.Bool.Decides.{nat_tests}
use Rattle.std.proofs.lemmas.List.{length-append}
use Rattle.update_core.specs.declared.updates.Update.{Update}
use Rattle.spine_core.specs.declared.batches.Batch.{Batch}
use Rattle.spine_core.specs.Places.{adjacent_place}
use Rattle.spine_core.specs.Settled.{due_place, weights_of, with_next}
use Rattle.store_core.specs.declared.shards.ShardId.{ShardId}
use Rattle.store_core.specs.declared.entries.Entry.{Entry}
use Rattle.store_core.specs.Stores.{Stored}
use Rattle.store_core.specs.Newest.{mine_back, replay_back}
use Rattle.state_core.specs.declared.members.Member.{Member}
use Rattle.state_core.specs.declared.refusals.Refusal.{Refusal}
use Rattle.state_core.specs.declared.refusals.Refusal.TheVariants as refusals
use Rattle.state_core.specs.declared.transitions.Transition.{Transition}
use Rattle.state_core.specs.declared.transitions.Transition.TheVariants.{Merge}
use Rattle.state_core.specs.Refusals.{follows, is_keeper, is_shaped, member_of, of_member, same_batch}
use Rattle.state_core.specs.States.{ShardState}
use Rattle.state_core.proofs.ListLemmas.{bool_cases}
use Rattle.state_core.proofs.Refused.{batch_same, mapped_some}
use Rattle.state_core.proofs.Rising.{since_rises}
use Rattle.history_core.specs.Discipline.{LawfulBack, ShowsState}
use Rattle.history_core.specs.Histories.{ever}
use Rattle.history_core.specs.Laws.{LastIs}
use Rattle.history_core.specs.Stands.{BatchHolds, PartRows, StandsFor, StateIn}
use Rattle.history_core.proofs.Bases.{base_of}
use Rattle.history_core.proofs.Chains.{chain_rises, version_below, version_is}
use Rattle.history_core.proofs.Contents.{part_rows_append, part_rows_one}
use Rattle.history_core.proofs.Lasts.{last_ever}
use Rattle.history_core.proofs.Presence.{kept_at}
use Rattle.history_core.proofs.Versions.{shows_ever}
use Rattle.load_core.specs.Attempts.{standing_refusal}
use Rattle.read_machine.specs.declared.looks.Look.TheVariants as looks
use Rattle.merge_client.specs.declared.founds.Found.TheVariants as founds
use Rattle.merge_client.specs.declared.pairs.Pair.{Pair}
use Rattle.merge_client.specs.Finding.{found_at, found_by, look_at, look_by, places_in}

-- ---- the two batches

-- the two stand one after the other in a state, and the pair has its since
pub record Stands (p : Pair) (s : ShardState) : Type 0 where
  pub before : List Batch
  pub behind : List Batch
  pub batches : s.batches ≡ before ++ p.left ∷ p.right ∷ behind
  pub since : p.since ≡ s.since
  pub keys : look_by s (places_in s) ≡ looks.Parts (p.left.parts ++ p.right.parts)

some_same : {A : Type 0} (a b : A) → Some a ≡ Some b → a ≡ b
some_same a b h = cc

-- two at neighbouring places
pub two_there : (l r : Batch) (bs : List Batch) (i : ℕ) → slice_get bs i ≡ Some l → slice_get bs (suc i) ≡ Some r →
    (before : List Batch) × (behind : List Batch) × (bs ≡ before ++ l ∷ r ∷ behind)
two_there l r [] i h k = absurd (let bad : None ≡ Some l = h in cc)
two_there l r (b ∷ []) zero h k = absurd (let bad : None ≡ Some r = k in cc)
two_there l r (b ∷ c ∷ bs) zero h k =
    let one : b ≡ l = some_same b l h in
    let two : c ≡ r = some_same c r k in
    ([], bs, ap (λ (x : Batch). x ∷ c ∷ bs) one ∙ ap (λ (x : Batch). l ∷ x ∷ bs) two)
two_there l r (b ∷ bs) (suc i) h k =
    let (before, behind, is) = two_there l r bs i h k in
    (b ∷ before, behind, ap (λ (xs : List Batch). b ∷ xs) is)

-- a pair that was found in a state, with these rows
pub record Found_so (p : Pair) (s : ShardState) (rows : List Update) : Type 0 where
  pub stands : Stands p s
  pub rows_are : p.rows ≡ rows

due_same : (p q : Pair) → founds.Due p ≡ founds.Due q → p ≡ q
due_same p q h = cc

pub found_so : (p : Pair) (s : ShardState) (rows : List Update) → found_by s rows (places_in s) ≡ founds.Due p → Found_so p s rows
found_so p s rows e = go (due_place (weights_of s.batches)) refl
  where
    both : (i : ℕ) → places_in s ≡ Some (i, i + 1) → (l r : Option Batch) → slice_get s.batches i ≡ l →
        slice_get s.batches (i + 1) ≡ r → found_at s rows l r ≡ founds.Due p → Found_so p s rows
    both i at None r h k m = absurd (let bad : founds.Nothing s.number ≡ founds.Due p = m in cc)
    both i at (Some l) None h k m = absurd (let bad : founds.Nothing s.number ≡ founds.Due p = m in cc)
    both i at (Some l) (Some r) h k m =
        let found : Pair = record { left = l; right = r; since = s.since; rows = rows } in
        let next : i + 1 ≡ suc i = omega arith in
        let (before, behind, is) = two_there l r s.batches i h (subst (λ (n : ℕ). slice_get s.batches n ≡ Some r) next k) in
        let read : look_by s (places_in s) ≡ looks.Parts (l.parts ++ r.parts) =
        ap (look_by s) at ∙ ap (λ (o : Option Batch). look_at s o (slice_get s.batches (i + 1))) h ∙ ap (look_at s (Some l)) k in
        subst (λ (q : Pair). Found_so q s rows) (due_same found p m) (record {
          stands = record { before = before; behind = behind; batches = is; since = refl; keys = read };
          rows_are = refl;
        })

    go : (o : Option ℕ) → due_place (weights_of s.batches) ≡ o → Found_so p s rows
    go None is =
        let none : places_in s ≡ None = ap (option_map with_next) is in
        absurd (let bad : founds.Nothing s.number ≡ founds.Due p = sym (ap (found_by s rows) none) ∙ e in cc)
    go (Some i) is =
        let at : places_in s ≡ Some (i, i + 1) = ap (option_map with_next) is in
        both i at (slice_get s.batches i) (slice_get s.batches (i + 1)) refl refl (sym (ap (found_by s rows) at) ∙ e)

-- one is followed by the other
follows_next : (l r a b : Batch) (bs : List Batch) → (same_batch a l && same_batch b r) ≡ false →
    follows l r (a ∷ b ∷ bs) ≡ follows l r (b ∷ bs)
follows_next l r a b bs e = rw e (mapped_some (λ n. n + 1) (adjacent_place (λ x y. same_batch x l && same_batch y r) (b ∷ bs)))

pub follows_there : (l r : Batch) (before behind : List Batch) → follows l r (before ++ l ∷ r ∷ behind) ≡ true
follows_there l r [] behind = rw (batch_same l, batch_same r) refl
follows_there l r (a ∷ []) behind = elim (bool_cases (same_batch a l && same_batch l r)) [
  | inl e ↦ rw e refl
  | inr e ↦ follows_next l r a l (r ∷ behind) e ∙ follows_there l r [] behind
]
follows_there l r (a ∷ b ∷ before) behind = elim (bool_cases (same_batch a l && same_batch b r)) [
  | inl e ↦ rw e refl
  | inr e ↦ follows_next l r a b (before ++ l ∷ r ∷ behind) e ∙ follows_there l r (b ∷ before) behind
]

-- what holds of all batches holds of both
pub of_two : (P : Batch → Type 0) (before behind : List Batch) (l r : Batch) →
    AllByRecursion P (before ++ l ∷ r ∷ behind) → P l × P r
of_two P [] behind l r all = (all.0, all.1.0)
of_two P (b ∷ before) behind l r all = of_two P before behind l r all.1

-- the rows of both are as many as the batches say
pub rows_of_two : (store : Stored) (list : List Update) (p : Pair) (s : ShardState) (rows : List Update) → Stands p s →
    AllByRecursion (BatchHolds store list) s.batches → PartRows store (p.left.parts ++ p.right.parts) rows →
    length rows ≤ p.left.rows + p.right.rows
rows_of_two store list p s rows w all held =
    let (l, r) = of_two (BatchHolds store list) w.before w.behind p.left p.right
    (subst (λ (bs : List Batch). AllByRecursion (BatchHolds store list) bs) w.batches all) in
    let both = part_rows_append store p.left.parts p.right.parts l.0 r.0 l.1 r.1 in
    let same = part_rows_one store (p.left.parts ++ p.right.parts) rows (l.0 ++ r.0) held both in
    let many : length rows ≡ length (l.0 ++ r.0) = ap length same in
    omega (arith, many, length-append l.0 r.0, l.3, r.3)

-- ---- later states

-- a state that a client was shown has no later since than the last one
pub since_back : (start : Stored) (shard : ShardId) (list : List Update) → StandsFor start shard list → (es : List Entry) →
    LawfulBack start es → (client : ℕ) (s t : ShardState) → ShowsState (mine_back start es client) shard s.number s →
    LastIs (replay_back start es) shard t.number t → s.since ≤ t.since
since_back start shard list st es l client s t (b, x, shown, reads) last =
    let base = base_of start shard list st in
    let there = shows_ever start shard base.begin.first es client s.number b shown in
    let then : StateIn shard (ever start shard es) s.number s = (x, version_is shard (ever start shard es) s.number b s x there reads) in
    let (newest, now) = last_ever start shard list st es l t.number t last in
    let kept = kept_at start shard base.start_member base.begin es l t.number t now in
    let (low, high) = version_below shard (ever start shard es) s.number s then.0 then.1 in
    chain_rises shard (ever start shard es) kept.chain (λ (z : ShardState). z.since) since_rises s.number t.number
    (omega (arith, high, newest)) s t then now

-- ---- why a merge is refused

-- the first reason against a merge in a state
pub data Why (s : ShardState) (member token : ℕ) (l r : Batch) (x : Transition) (f : Refusal) : Type 0 where
  shape : is_shaped s x ≡ false → Why s member token l r x f
  absent : f ≡ refusals.NoMember → member_of member s.members ≡ None → Why s member token l r x f
  unfit : (m : Member) → member_of member s.members ≡ Some m → is_keeper m.kind ≡ false → Why s member token l r x f
  old : (m : Member) → member_of member s.members ≡ Some m → token ≤ m.token → f ≡ refusals.TokenOld m.token → Why s member token l r x f
  apart : (m : Member) → member_of member s.members ≡ Some m → m.token < token → f ≡ refusals.NotPresent →
      follows l r s.batches ≡ false → Why s member token l r x f

low : (a d : ℕ) → nat_le a d ≡ false → d < a
low a d e = grind (arith, nat_tests)

pub why : (s : ShardState) (member token : ℕ) (l r merged : Batch) (f : Refusal) →
    standing_refusal s (Merge member token l r merged) ≡ Some f → Why s member token l r (Merge member token l r merged) f
why s member token l r merged f h = elim (bool_cases (is_shaped s (Merge member token l r merged))) [
  | inl e ↦ go (member_of member s.members) refl (rw e at h)
  | inr e ↦ shape e
]
  where
    found : (m : Member) → member_of member s.members ≡ Some m →
        cond (nat_le token m.token) (Some (refusals.TokenOld m.token)) (cond (follows l r s.batches) None
        (Some refusals.NotPresent)) ≡ Some f → Why s member token l r (Merge member token l r merged) f
    found m at g = elim (bool_cases (nat_le token m.token)) [
      | inl e ↦ old m at (leb-true token m.token e) (let same : Some (refusals.TokenOld m.token) ≡ Some f = rw e at g in sym (some_same _ _ same))
      | inr e ↦ elim (bool_cases (follows l r s.batches)) [
        | inl u ↦ absurd (let bad : None ≡ Some f = rw (e, u) at g in cc)
        | inr u ↦ apart m at (low token m.token e)
            (let same : Some refusals.NotPresent ≡ Some f = rw (e, u) at g in sym (some_same _ _ same)) u
      ]
    ]

    go : (o : Option Member) → member_of member s.members ≡ o →
        of_member o is_keeper (λ m. cond (nat_le token m.token) (Some (refusals.TokenOld m.token))
        (cond (follows l r s.batches) None (Some refusals.NotPresent))) ≡ Some f →
        Why s member token l r (Merge member token l r merged) f
    go None at g = absent (let same : Some refusals.NoMember ≡ Some f = g in sym (some_same _ _ same)) at
    go (Some m) at g = elim (bool_cases (is_keeper m.kind)) [
      | inl e ↦ found m at (rw e at g)
      | inr e ↦ unfit m at e
    ]

-- none is against it where it keeps its shape, its member stands as a keeper with a lower token, and both batches stand
pub no_refusal : (s : ShardState) (member token : ℕ) (l r merged : Batch) (m : Member) →
    is_shaped s (Merge member token l r merged) ≡ true → member_of member s.members ≡ Some m → is_keeper m.kind ≡ true →
    m.token < token → follows l r s.batches ≡ true → standing_refusal s (Merge member token l r merged) ≡ None
no_refusal s member token l r merged m shaped at keeps lower there = by (standing_refusal s (Merge member token l r merged)) refl
  where
    by : (o : Option Refusal) → standing_refusal s (Merge member token l r merged) ≡ o →
        standing_refusal s (Merge member token l r merged) ≡ None
    by None is = is
    by (Some f) is = absurd (never (why s member token l r merged f is))
      where
        same_member : (a : Member) → member_of member s.members ≡ Some a → m ≡ a
        same_member a h = some_same m a (sym at ∙ h)

        never : Why s member token l r (Merge member token l r merged) f → ⊥
        never (shape e) = let bad : true ≡ false = sym shaped ∙ e in cc
        never (absent is2 none) = let bad : Some m ≡ None = sym at ∙ none in cc
        never (unfit a h e) = let bad : true ≡ false = sym keeps ∙ ap (λ (x : Member). is_keeper x.kind) (same_member a h) ∙ e in cc
        never (old a h high e) = let is2 = ap (λ (x : Member). x.token) (same_member a h) in omega (arith, is2, high, lower)
        never (apart a h low2 e none) = let bad : true ≡ false = sym there ∙ none in cc
