-- Since stays where a follower's reader leaves: a reader that stood before the crew holds it, or all readers hold the same. Entries go
-- newest first.
use Rattle.std.proofs.Common.{◌≡◌, ◌≢◌, ◌⊎◌, ℕ, ◌+◌, ◌≤◌, ◌<◌, min, true, false, Option, Some, None, List, [], ◌∷◌, ◌++◌, inl, inr}
use Rattle.std.proofs.Common.{refl, sym, ap, length, subst, ◌∙◌, arith}
use Rattle.std.specs.Prelude.{◌==◌, IfSome, nat_le}
use Rattle.std.proofs.lemmas.Bool.Decides.{nat_tests}
use Rattle.std.specs.List.{AllByRecursion}
use Rattle.update_core.specs.declared.updates.Update.{Update}
use Rattle.update_core.specs.Collections.{Collection as PlainCollection}
use Rattle.store_core.specs.declared.shards.ShardId.{ShardId}
use Rattle.store_core.specs.declared.calls.Call.TheVariants as calls
use Rattle.store_core.specs.declared.entries.Entry.{Entry}
use Rattle.store_core.specs.Stores.{Stored, no_log}
use Rattle.store_core.specs.Ports.{Answered}
use Rattle.store_core.specs.Newest.{mine_back, replay_back}
use Rattle.state_core.specs.Lists.{Among}
use Rattle.state_core.specs.declared.kinds.Kind.{Kind}
use Rattle.state_core.specs.declared.kinds.Kind.TheVariants.{Reader, Writer, Keeper}
use Rattle.state_core.specs.declared.members.Member.{Member}
use Rattle.state_core.specs.declared.transitions.Transition.{Transition}
use Rattle.state_core.specs.declared.transitions.Transition.TheVariants.{Join, Leave}
use Rattle.state_core.specs.States.{ShardState, SinceIs, is_reader, least_since, or_least}
use Rattle.state_core.specs.Steps.{Applies, changed, init, joining, without}
use Rattle.version_codec.specs.Reading.{version_in}
use Rattle.state_core.proofs.ListLemmas.{bool_cases}
use Rattle.history_core.specs.Costs.{commits_on}
use Rattle.history_core.specs.Discipline.{LawfulBack}
use Rattle.history_core.specs.Laws.{LastIs}
use Rattle.history_core.specs.Members.{JoinedAs}
use Rattle.history_core.specs.Stands.{StandsFor}
use Rattle.history_core.proofs.Bases.{none_there}
use Rattle.history_core.proofs.Endings.{last_law}
use Rattle.history_core.proofs.Quiet.{Quiet, last_stays, quiet_back}
use Rattle.history_core.proofs.StateFacts.{state_rules}
use Rattle.crew_core.specs.Competing.{HasCollection, HasReader}
use Rattle.crew_core.specs.Working.{CarriesWorkers, IsWorkersEntry, IsWorkersStep, Role, as_collector, as_compactor, as_follower, as_pin}
use Rattle.crew_core.specs.Working.{as_writer, past_first}
use Rattle.crew_core.proofs.Commits.{Stepped, commits_there, what_commits}
use Rattle.crew_core.proofs.Competing.{same_version}
use Rattle.crew_core.proofs.Joining.{CountsFrom, IsSpared, spared_first, spared_on}
use Rattle.crew_core.proofs.Readers.{IsReader, keep_other, reads_on}

-- ---- the least since of some members

module _ (since : ℕ) where
  abbrev AllSince : List Member → Type 0
  AllSince ms = AllByRecursion (λ m. is_reader m.kind ≡ true → m.since ≡ since) ms

  abbrev NoneBelow : List Member → Type 0
  NoneBelow ms = AllByRecursion (λ m. is_reader m.kind ≡ true → since ≤ m.since) ms

  abbrev IsHolder : Member → Type 0
  IsHolder m = (is_reader m.kind ≡ true) × (m.since ≡ since)

  least_all : (ms : List Member) → AllSince ms → SinceIs (least_since ms) since
  least_all [] all = tt
  least_all (m ∷ ms) all = elim (bool_cases (is_reader m.kind)) [
    | inl r ↦ rw r (one (least_since ms) m.since (all.0 r) (least_all ms all.1))
    | inr r ↦ rw r (least_all ms all.1)
  ]
    where
      one : (o : Option ℕ) (n : ℕ) → n ≡ since → SinceIs o since → SinceIs (or_least o n) since
      one None n is h = sym is
      one (Some k) n is h = let same : since ≡ k = h in omega arith

  bound : (ms : List Member) → IfSome (least_since ms) (λ n. since ≤ n) → NoneBelow ms
  bound [] h = tt
  bound (m ∷ ms) h = elim (bool_cases (is_reader m.kind)) [
    | inl r ↦ let k = one (least_since ms) m.since (rw r at h) in (λ _. k.0, bound ms k.1)
    | inr r ↦ (λ t. absurd (let bad : false ≡ true = sym r ∙ t in cc), bound ms (rw r at h))
  ]
    where
      one : (o : Option ℕ) (n : ℕ) → IfSome (or_least o n) (λ n. since ≤ n) → (since ≤ n) × IfSome o (λ n. since ≤ n)
      one None n h = (h, tt)
      one (Some k) n h = let less : since ≤ min k n = h in (omega arith, omega arith)

  bound_back : (ms : List Member) → NoneBelow ms → IfSome (least_since ms) (λ n. since ≤ n)
  bound_back [] h = tt
  bound_back (m ∷ ms) h = elim (bool_cases (is_reader m.kind)) [
    | inl r ↦ rw r (one (least_since ms) m.since (h.0 r) (bound_back ms h.1))
    | inr r ↦ rw r (bound_back ms h.1)
  ]
    where
      one : (o : Option ℕ) (n : ℕ) → since ≤ n → IfSome o (λ n. since ≤ n) → IfSome (or_least o n) (λ n. since ≤ n)
      one None n less h = less
      one (Some k) n less h = let also : since ≤ k = h in omega arith

  abbrev AtMost : Option ℕ → Type 0
  AtMost o = (n : ℕ) × (o ≡ Some n) × (n ≤ since)

  upper : (ms : List Member) → Among IsHolder ms → AtMost (least_since ms)
  upper [] h = absurd h
  upper (m ∷ ms) h = elim h [
    | inl p ↦ rw p.0 (first (least_since ms) m.since p.1)
    | inr p ↦ elim (bool_cases (is_reader m.kind)) [
      | inl r ↦ rw r (more (least_since ms) m.since (upper ms p))
      | inr r ↦ rw r (upper ms p)
    ]
  ]
    where
      first : (o : Option ℕ) (n : ℕ) → n ≡ since → AtMost (or_least o n)
      first None n is = (n, refl, omega arith)
      first (Some k) n is = (min k n, refl, omega arith)

      more : (o : Option ℕ) (n : ℕ) → AtMost o → AtMost (or_least o n)
      more o n (k, is, less) = (min k n, ap (λ (p : Option ℕ). or_least p n) is, omega arith)

  least_from : (ms : List Member) → NoneBelow ms → Among IsHolder ms → SinceIs (least_since ms) since
  least_from ms none some = by (least_since ms) (bound_back ms none) (upper ms some)
    where
      by : (o : Option ℕ) → IfSome o (λ n. since ≤ n) → AtMost o → SinceIs o since
      by None h (n, is, less) = tt
      by (Some k) h (n, is, less) = let a : since ≤ k = h in let e : k ≡ n = cc in omega arith

  above : (o : Option ℕ) → SinceIs o since → IfSome o (λ n. since ≤ n)
  above None h = tt
  above (Some n) h = let same : since ≡ n = h in omega arith

  none_readers : (ms : List Member) → least_since ms ≡ None → AllSince ms
  none_readers [] e = tt
  none_readers (m ∷ ms) e = elim (bool_cases (is_reader m.kind)) [
    | inl r ↦ absurd (some (least_since ms) m.since (rw r at e))
    | inr r ↦ (λ t. absurd (let bad : false ≡ true = sym r ∙ t in cc), none_readers ms (rw r at e))
  ]
    where
      some : (o : Option ℕ) (n : ℕ) → or_least o n ≡ None → ⊥
      some None n e = cc
      some (Some k) n e = cc

  attained : (ms : List Member) → least_since ms ≡ Some since → Among IsHolder ms
  attained [] e = absurd (let bad : None ≡ Some since = e in cc)
  attained (m ∷ ms) e = elim (bool_cases (is_reader m.kind)) [
    | inl r ↦ elim (one (least_since ms) m.since (rw r at e)) [ inl is ↦ inl (r, is) | inr is ↦ inr (attained ms is) ]
    | inr r ↦ inr (attained ms (rw r at e))
  ]
    where
      below : (a b : ℕ) → nat_le a b ≡ true → a ≤ b
      below a b t = grind (arith, nat_tests)

      beyond : (a b : ℕ) → nat_le a b ≡ false → b < a
      beyond a b t = grind (arith, nat_tests)

      lower : (k n : ℕ) → min k n ≡ since → nat_le n k ≡ true → n ≡ since
      lower k n e t = let less : n ≤ k = below n k t in omega arith

      upper_of : (k n : ℕ) → min k n ≡ since → nat_le n k ≡ false → k ≡ since
      upper_of k n e t = let less : k < n = beyond n k t in omega arith

      which : (k n : ℕ) → min k n ≡ since → (n ≡ since) ⊎ (k ≡ since)
      which k n e = elim (bool_cases (nat_le n k)) [
        | inl t ↦ inl (lower k n e t)
        | inr t ↦ inr (upper_of k n e t)
      ]

      some_is : (a b : ℕ) → Some a ≡ Some b → a ≡ b
      some_is a b e = cc

      one : (o : Option ℕ) (n : ℕ) → or_least o n ≡ Some since → (n ≡ since) ⊎ (o ≡ Some since)
      one None n e = inl (some_is n since e)
      one (Some k) n e = elim (which k n (some_is (min k n) since e)) [ inl is ↦ inl is | inr is ↦ inr (ap Some is) ]

all_without : (P : Member → Type 0) (left : ℕ) (ms : List Member) → AllByRecursion P ms → AllByRecursion P (without left ms)
all_without P left [] h = tt
all_without P left (m ∷ ms) h = elim (bool_cases (m.number == left)) [
  | inl t ↦ rw t (all_without P left ms h.1)
  | inr t ↦ rw t (h.0, all_without P left ms h.1)
]

all_changed : (P : Member → Type 0) (one : ℕ) (f : Member → Member) → ((m : Member) → P m → P (f m)) → (ms : List Member) →
    AllByRecursion P ms → AllByRecursion P (changed one f ms)
all_changed P one f g [] h = tt
all_changed P one f g (m ∷ ms) h = elim (bool_cases (m.number == one)) [
  | inl t ↦ rw t (g m h.0, all_changed P one f g ms h.1)
  | inr t ↦ rw t (h.0, all_changed P one f g ms h.1)
]

all_on : (P : Member → Type 0) (ms : List Member) (m : Member) → AllByRecursion P ms → P m → AllByRecursion P (ms ++ m ∷ [])
all_on P [] m h p = (p, tt)
all_on P (x ∷ ms) m h p = (h.0, all_on P ms m h.1 p)

holders : (since member : ℕ) (ms : List Member) → Among (IsReader member since) ms → Among (IsHolder since) ms
holders since member [] h = h
holders since member (m ∷ ms) h = elim h [
  | inl p ↦ inl (ap is_reader p.1.0, p.1.1)
  | inr p ↦ inr (holders since member ms p)
]

named : (since : ℕ) (ms : List Member) → Among (IsHolder since) ms → (member : ℕ) × Among (IsReader member since) ms
named since [] h = absurd h
named since (m ∷ ms) h = elim h [
  | inl p ↦ (m.number, inl (refl, (reader m.kind p.0, p.1)))
  | inr p ↦ let (member, k) = named since ms p in (member, inr k)
]
  where
    reader : (k : Kind) → is_reader k ≡ true → k ≡ Reader
    reader Writer e = absurd (let bad : false ≡ true = e in cc)
    reader Reader e = refl
    reader Keeper e = absurd (let bad : false ≡ true = e in cc)

-- ---- what holds it

module _ (counts : ℕ → ℕ) (shard : ShardId) (since : ℕ) where
  -- all readers hold this since; or one does that no client has joined past its first entries
  abbrev pub Anchored : Option ℕ → Stored → List Entry → Type 0
  Anchored None start es = ((replay_back start es).logs shard ≡ no_log) ⊎
      ((n : ℕ) × (s : ShardState) × LastIs (replay_back start es) shard n s × AllSince since s.members)
  Anchored (Some member) start es = HasReader shard member since start es × IsSpared counts shard member start es

  module _ (list : List Update) (start : Stored) (es : List Entry) (e : Entry) (st : StandsFor start shard list)
      (l : LawfulBack start (e ∷ es)) where
    abbrev own : List Answered
    own = mine_back start es e.client

    -- where one of these clients' readers leaves, the others hold it
    pub holds_since : (anchor : Option ℕ) → Anchored anchor start es → (s : Stepped shard list start e es) → s.from.since ≡ since →
        (count : ℕ) → count ≡ counts e.client → (left : ℕ) → JoinedAs Reader (past_first count own) shard left →
        SinceIs (least_since (without left s.from.members)) s.from.since
    holds_since None (inl none) s same count from left joined =
        absurd (none_there shard ((replay_back start es).logs shard) s.number s.from none s.last.1)
    holds_since None (inr (n, t, last, all)) s same count from left joined =
        let is : t ≡ s.from = (last_law (replay_back start es) shard n s.number t s.from last s.last).1 in
        subst (SinceIs (least_since (without left s.from.members))) (sym same)
        (least_all since (without left s.from.members)
        (all_without (λ m. is_reader m.kind ≡ true → m.since ≡ since) left s.from.members
        (subst (λ (u : ShardState). AllSince since u.members) is all)))
    holds_since (Some member) ((n, t, last, there), spared) s same count from left joined =
        let is : t ≡ s.from = (last_law (replay_back start es) shard n s.number t s.from last s.last).1 in
        let rules = (state_rules shard ((replay_back start es).logs shard) s.number s.from s.last.1).since in
        let other : left ≢ member = spared.spared e.client left
        (subst (λ (k : ℕ). JoinedAs Reader (past_first k own) shard left) from joined) in
        subst (SinceIs (least_since (without left s.from.members))) (sym same)
        (least_from since (without left s.from.members)
        (all_without (λ m. is_reader m.kind ≡ true → since ≤ m.since) left s.from.members
        (bound since s.from.members (above since (least_since s.from.members)
        (subst (SinceIs (least_since s.from.members)) same rules))))
        (holders since member (without left s.from.members)
        (keep_other member since left other s.from.members
        (subst (λ (u : ShardState). Among (IsReader member since) u.members) is there))))

    -- ---- it goes on

    joins_on : (s : Stepped shard list start e es) → s.from.since ≡ since → (kind : Kind) (now lease : ℕ) →
        s.step ≡ Join kind now lease → AllSince since s.from.members → AllSince since s.to.members
    joins_on s same kind now lease is all =
        let b = subst (λ (y : Transition). Applies s.from y s.to) is s.applies in
        subst (λ (u : ShardState). AllSince since u.members) (sym b.makes.effect)
        (all_on (λ m. is_reader m.kind ≡ true → m.since ≡ since) s.from.members (joining s.from kind now lease) all (by kind))
      where
        by : (k : Kind) → is_reader k ≡ true → (joining s.from k now lease).since ≡ since
        by Writer e = absurd (let bad : false ≡ true = e in cc)
        by Reader e = same
        by Keeper e = absurd (let bad : false ≡ true = e in cc)

    leaves_on : (s : Stepped shard list start e es) (left : ℕ) → s.step ≡ Leave left → AllSince since s.from.members →
        AllSince since s.to.members
    leaves_on s left is all =
        let b = subst (λ (y : Transition). Applies s.from y s.to) is s.applies in
        subst (λ (u : ShardState). AllSince since u.members) (sym b.makes.effect)
        (all_without (λ m. is_reader m.kind ≡ true → m.since ≡ since) left s.from.members all)

    steps : (s : Stepped shard list start e es) → s.from.since ≡ since → (role : Role) → IsWorkersStep role shard own s.step →
        AllSince since s.from.members → AllSince since s.to.members
    steps s same (as_writer mine) (inl j) all = joins_on s same Writer 0 0 j all
    steps s same (as_writer mine) (inr (inl (left, is, joined))) all = leaves_on s left is all
    steps s same (as_writer mine) (inr (inr o)) all =
        let b = subst (λ (y : Transition). Applies s.from y s.to) o.step_is s.applies in
        subst (λ (u : ShardState). AllSince since u.members) (sym b.makes.effect)
        (all_changed (λ m. is_reader m.kind ≡ true → m.since ≡ since) o.member _ (λ m p. p) s.from.members all)
    steps s same as_compactor (inl (now, lease, j)) all = joins_on s same Keeper now lease j all
    steps s same as_compactor (inr (inl (left, is, joined))) all = leaves_on s left is all
    steps s same as_compactor (inr (inr m)) all =
        let b = subst (λ (y : Transition). Applies s.from y s.to) m.step_is s.applies in
        subst (λ (u : ShardState). AllSince since u.members) (sym b.makes.effect)
        (all_changed (λ m. is_reader m.kind ≡ true → m.since ≡ since) m.member _ (λ m p. p) s.from.members all)
    steps s same as_collector bad all = absurd bad
    steps s same as_pin (renewed, now, is, joined) all =
        let b = subst (λ (y : Transition). Applies s.from y s.to) is s.applies in
        subst (λ (u : ShardState). AllSince since u.members) (sym b.makes.effect)
        (all_changed (λ m. is_reader m.kind ≡ true → m.since ≡ since) renewed _ (λ m p. p) s.from.members all)
    steps s same (as_follower count) (inl (now, lease, j)) all = joins_on s same Reader now lease j all
    steps s same (as_follower count) (inr (left, is, joined)) all = leaves_on s left is all

    all_from : (s : Stepped shard list start e es) → Anchored None start es → AllSince since s.from.members
    all_from s (inl none) = absurd (none_there shard ((replay_back start es).logs shard) s.number s.from none s.last.1)
    all_from s (inr (n, t, last, all)) = subst (λ (u : ShardState). AllSince since u.members)
        (last_law (replay_back start es) shard n s.number t s.from last s.last).1 all

    pub anchored_on : (anchor : Option ℕ) (role : Role) → CountsFrom counts e.client role → IsWorkersEntry role shard start es e →
        ((s : Stepped shard list start e es) → s.from.since ≡ since) → Anchored anchor start es → Anchored anchor start (e ∷ es)
    anchored_on (Some member) role from p same (reads, spared) = (
      reads_on member since counts shard list start es e st l spared role from p reads,
      spared_on counts shard list start es e st l member since reads spared,
    )
    anchored_on None role from p same k = elim (bool_cases (commits_on shard (replay_back start es) e.call e.outcome)) [
      | inr f ↦ elim k [
        | inl none ↦ inl ((idle f).keeps.none none)
        | inr (n, t, last, all) ↦
            inr (n, t, last_stays shard (replay_back start es) (replay_back start (e ∷ es)) (idle f).keeps n t last, all)
      ]
      | inl c ↦ elim (what_commits shard list start st e es l (commits_there start shard e es c)) [
        | inl b ↦ inr (0, init shard, b.now, tt)
        | inr s ↦ inr (
          s.number + 1,
          s.to,
          s.now,
          by_call s
              (subst (λ (o : Option ℕ). CarriesWorkers role shard own (calls.Cas shard o s.commit.bytes)) s.expected
              (subst (CarriesWorkers role shard own) s.commit.call_is p.carries)) (all_from s k),
        )
      ]
    ]
      where
        idle : commits_on shard (replay_back start es) e.call e.outcome ≡ false → Quiet start shard list (e ∷ []) es
        idle f = quiet_back start shard list (e ∷ []) es (rw f refl)

        by_call : (s : Stepped shard list start e es) → CarriesWorkers role shard own (calls.Cas shard (Some s.number) s.commit.bytes) →
            AllSince since s.from.members → AllSince since s.to.members
        by_call s (here, (to, x, written, step)) all =
            let one = same_version (version_in shard (s.number + 1) s.commit.bytes) to s.to x s.step written s.written in
            steps s (same s) role (subst (IsWorkersStep role shard own) one.1 step) all

-- how many entries each client had made
abbrev pub made_by : Stored → List Entry → ℕ → ℕ
made_by start es c = length (mine_back start es c)

-- what holds it when the crew begins
pub first_anchor : (shard : ShardId) (list : List Update) (start : Stored) (es : List Entry) (first : PlainCollection) →
    HasCollection list start shard es first → (anchor : Option ℕ) × Anchored (made_by start es) shard first.since anchor start es
first_anchor shard list start es first (inl k) = (None, inl k.0)
first_anchor shard list start es first (inr (n, s, last, is)) =
    by (least_since s.members) refl (state_rules shard ((replay_back start es).logs shard) n s last.1).since
  where
    since_is : first.since ≡ s.since
    since_is = ap (λ (c : PlainCollection). c.since) is

    by : (o : Option ℕ) → least_since s.members ≡ o → SinceIs o s.since →
        (anchor : Option ℕ) × Anchored (made_by start es) shard first.since anchor start es
    by None e h = (None, inr (n, s, last, none_readers first.since s.members e))
    by (Some k) e h =
        let least : least_since s.members ≡ Some first.since = e ∙ ap Some (sym (since_is ∙ h)) in
        let (member, there) = named first.since s.members (attained first.since s.members least) in
        (Some member, ((n, s, last, there), spared_first shard member start es))
