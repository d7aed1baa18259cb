-- A reader that stands goes on standing, with its since, past what workers commit. Entries go newest first.
use Rattle.std.proofs.Common.{◌≡◌, ◌≢◌, ℕ, ◌+◌, false, Option, Some, List, [], ◌∷◌, inl, inr, refl, sym, subst, ◌∙◌, eqb}
use Rattle.std.proofs.lemmas.Bool.{eqb-true}
use Rattle.std.specs.List.{AllByRecursion}
use Rattle.update_core.specs.declared.updates.Update.{Update}
use Rattle.update_core.specs.declared.appends.FeedAppend.{FeedAppend}
use Rattle.store_core.specs.declared.shards.ShardId.{ShardId}
use Rattle.store_core.specs.declared.calls.Call.TheVariants as calls
use Rattle.store_core.specs.declared.entries.Entry.{Entry}
use Rattle.store_core.specs.Stores.{Stored}
use Rattle.store_core.specs.Ports.{Answered}
use Rattle.store_core.specs.Newest.{replay_back, mine_back}
use Rattle.state_core.specs.Lists.{Among}
use Rattle.state_core.specs.declared.kinds.Kind.{Kind}
use Rattle.state_core.specs.declared.kinds.Kind.TheVariants.{Writer, Reader, Keeper}
use Rattle.state_core.specs.declared.members.Member.{Member}
use Rattle.state_core.specs.declared.transitions.Transition.{Transition}
use Rattle.state_core.specs.declared.transitions.Transition.TheVariants.{Join, Leave}
use Rattle.state_core.specs.States.{ShardState}
use Rattle.state_core.specs.Steps.{Applies, changed, without}
use Rattle.version_codec.specs.Reading.{version_in}
use Rattle.state_core.proofs.ListLemmas.{among_front, bool_cases}
use Rattle.history_core.specs.Costs.{commits_on}
use Rattle.history_core.specs.Discipline.{LawfulBack}
use Rattle.history_core.specs.Members.{JoinedAs}
use Rattle.history_core.specs.Stands.{StandsFor}
use Rattle.history_core.proofs.Endings.{last_law}
use Rattle.history_core.proofs.Entries.{lawful_older}
use Rattle.history_core.proofs.Quiet.{Quiet, last_stays, quiet_back}
use Rattle.crew_core.specs.Competing.{HasReader}
use Rattle.crew_core.specs.Working.{CarriesWorkers, IsOneOf, IsOwnLeave, IsOwnMerge, IsOwnRenewal, IsWorkersEntry, IsWorkersStep, Role}
use Rattle.crew_core.specs.Working.{as_collector, as_compactor, as_follower, as_pin, as_writer, past_first}
use Rattle.crew_core.proofs.Commits.{Stepped, commits_there, what_commits}
use Rattle.crew_core.proofs.Competing.{own_kind, same_version}
use Rattle.crew_core.proofs.Joining.{CountsFrom, IsSpared}

module _ (member since : ℕ) where
  -- it is this member, a reader with this since
  abbrev pub IsReader : Member → Type 0
  IsReader m = (m.number ≡ member) × ((m.kind ≡ Reader) × (m.since ≡ since))

  abbrev Reads : ShardState → Type 0
  Reads s = Among IsReader s.members

  keep_without : (kind : Kind) → (kind ≡ Reader → ⊥) → (left : ℕ) (ms : List Member) →
      AllByRecursion (λ m. m.number ≡ left → m.kind ≡ kind) ms → Among IsReader ms → Among IsReader (without left ms)
  keep_without kind other left [] kinds h = h
  keep_without kind other left (q ∷ ms) kinds h = elim (bool_cases (eqb q.number left)) [
    | inl e ↦ rw e (elim h [
      | inl p ↦ absurd (other (sym (kinds.0 (eqb-true q.number left e)) ∙ p.1.0))
      | inr p ↦ keep_without kind other left ms kinds.1 p
    ])
    | inr e ↦ rw e (elim h [ inl p ↦ inl p | inr p ↦ inr (keep_without kind other left ms kinds.1 p) ])
  ]

  keep_changed : (one : ℕ) (f : Member → Member) → ((q : Member) → IsReader q → IsReader (f q)) → (ms : List Member) →
      Among IsReader ms → Among IsReader (changed one f ms)
  keep_changed one f g [] h = h
  keep_changed one f g (q ∷ ms) h = elim (bool_cases (eqb q.number one)) [
    | inl e ↦ rw e (elim h [ inl p ↦ inl (g q p) | inr p ↦ inr (keep_changed one f g ms p) ])
    | inr e ↦ rw e (elim h [ inl p ↦ inl p | inr p ↦ inr (keep_changed one f g ms p) ])
  ]

  pub keep_other : (left : ℕ) → left ≢ member → (ms : List Member) → Among IsReader ms → Among IsReader (without left ms)
  keep_other left other [] h = h
  keep_other left other (q ∷ ms) h = elim (bool_cases (eqb q.number left)) [
    | inl e ↦ rw e (elim h [
      | inl p ↦ absurd (other (sym (eqb-true q.number left e) ∙ p.0))
      | inr p ↦ keep_other left other ms p
    ])
    | inr e ↦ rw e (elim h [ inl p ↦ inl p | inr p ↦ inr (keep_other left other ms p) ])
  ]

  join_keeps : (s : ShardState) (x : Transition) (t : ShardState) (kind : Kind) (now lease : ℕ) → x ≡ Join kind now lease →
      Applies s x t → Reads s → Reads t
  join_keeps s x t kind now lease is a h =
      let b = subst (λ (y : Transition). Applies s y t) is a in
      subst Reads (sym b.makes.effect) (among_front IsReader s.members _ h)

  leave_keeps : (kind : Kind) → (kind ≡ Reader → ⊥) → (s : ShardState) (x : Transition) (t : ShardState) (left : ℕ) → x ≡ Leave left →
      AllByRecursion (λ m. m.number ≡ left → m.kind ≡ kind) s.members → Applies s x t → Reads s → Reads t
  leave_keeps kind other s x t left is kinds a h =
      let b = subst (λ (y : Transition). Applies s y t) is a in
      subst Reads (sym b.makes.effect) (keep_without kind other left s.members kinds h)

  append_keeps : (appends : List FeedAppend) (own : List Answered) (s : ShardState) (x : Transition) (t : ShardState) →
      IsOneOf appends own x → Applies s x t → Reads s → Reads t
  append_keeps appends own s x t o a h =
      let b = subst (λ (y : Transition). Applies s y t) o.step_is a in
      subst Reads (sym b.makes.effect) (keep_changed o.member _ (λ q p. p) s.members h)

  merge_keeps : (shard : ShardId) (own : List Answered) (s : ShardState) (x : Transition) (t : ShardState) →
      IsOwnMerge shard own x → Applies s x t → Reads s → Reads t
  merge_keeps shard own s x t m a h =
      let b = subst (λ (y : Transition). Applies s y t) m.step_is a in
      subst Reads (sym b.makes.effect) (keep_changed m.member _ (λ q p. p) s.members h)

  renewal_keeps : (shard : ShardId) (own : List Answered) (s : ShardState) (x : Transition) (t : ShardState) →
      IsOwnRenewal shard own x → Applies s x t → Reads s → Reads t
  renewal_keeps shard own s x t (renewed, now, is, joined) a h =
      let b = subst (λ (y : Transition). Applies s y t) is a in
      subst Reads (sym b.makes.effect) (keep_changed renewed _ (λ q p. p) s.members h)

  no_writer : Writer ≡ Reader → ⊥
  no_writer e = cc

  no_keeper : Keeper ≡ Reader → ⊥
  no_keeper e = cc

  leave_other : (s : ShardState) (x : Transition) (t : ShardState) (left : ℕ) → x ≡ Leave left → left ≢ member → Applies s x t →
      Reads s → Reads t
  leave_other s x t left is other a h =
      let b = subst (λ (y : Transition). Applies s y t) is a in
      subst Reads (sym b.makes.effect) (keep_other left other s.members h)

  module _ (counts : ℕ → ℕ) (shard : ShardId) (list : List Update) (start : Stored) (es : List Entry) (e : Entry)
      (st : StandsFor start shard list) (l : LawfulBack start (e ∷ es)) (spared : IsSpared counts shard member start es) where
    abbrev own : List Answered
    own = mine_back start es e.client

    -- where a worker leaves
    leaves_on : (kind : Kind) → (kind ≡ Reader → ⊥) → (s : Stepped shard list start e es) → IsOwnLeave kind shard own s.step →
        Reads s.from → Reads s.to
    leaves_on kind other s (left, is, joined) h = leave_keeps kind other s.from s.step s.to left is
        (own_kind kind start shard list es st (lawful_older start e es l) e.client left joined s.number s.from s.last) s.applies h

    -- by what a worker's step is
    steps : (s : Stepped shard list start e es) (role : Role) → CountsFrom counts e.client role → IsWorkersStep role shard own s.step →
        Reads s.from → Reads s.to
    steps s (as_writer mine) from (inl j) h = join_keeps s.from s.step s.to Writer 0 0 j s.applies h
    steps s (as_writer mine) from (inr (inl leave)) h = leaves_on Writer no_writer s leave h
    steps s (as_writer mine) from (inr (inr o)) h = append_keeps mine own s.from s.step s.to o s.applies h
    steps s as_compactor from (inl (now, lease, j)) h = join_keeps s.from s.step s.to Keeper now lease j s.applies h
    steps s as_compactor from (inr (inl leave)) h = leaves_on Keeper no_keeper s leave h
    steps s as_compactor from (inr (inr m)) h = merge_keeps shard own s.from s.step s.to m s.applies h
    steps s as_collector from bad h = absurd bad
    steps s as_pin from r h = renewal_keeps shard own s.from s.step s.to r s.applies h
    steps s (as_follower count) from (inl (now, lease, j)) h = join_keeps s.from s.step s.to Reader now lease j s.applies h
    steps s (as_follower count) from (inr (left, is, joined)) h = leave_other s.from s.step s.to left is
        (spared.spared e.client left (subst (λ (n : ℕ). JoinedAs Reader (past_first n own) shard left) from joined)) s.applies h

    pub reads_on : (role : Role) → CountsFrom counts e.client role → IsWorkersEntry role shard start es e →
        HasReader shard member since start es → HasReader shard member since start (e ∷ es)
    reads_on role from p (n, t, last, there) = elim (bool_cases (commits_on shard (replay_back start es) e.call e.outcome)) [
      | inr f ↦ (n, t, last_stays shard (replay_back start es) (replay_back start (e ∷ es)) (idle f).keeps n t last, there)
      | inl c ↦ elim (what_commits shard list start st e es l (commits_there start shard e es c)) [
        | inl b ↦ absurd (b.none n t last)
        | inr s ↦ (
          s.number + 1,
          s.to,
          s.now,
          by_call s
              (subst (λ (o : Option ℕ). CarriesWorkers role shard own (calls.Cas shard o s.commit.bytes)) s.expected
              (subst (CarriesWorkers role shard own) s.commit.call_is p.carries))
              (subst Reads (last_law (replay_back start es) shard n s.number t s.from last s.last).1 there),
        )
      ]
    ]
      where
        idle : commits_on shard (replay_back start es) e.call e.outcome ≡ false → Quiet start shard list (e ∷ []) es
        idle f = quiet_back start shard list (e ∷ []) es (rw f refl)

        by_call : (s : Stepped shard list start e es) → CarriesWorkers role shard own (calls.Cas shard (Some s.number) s.commit.bytes) →
            Reads s.from → Reads s.to
        by_call s (here, (to, x, written, step)) h =
            let one = same_version (version_in shard (s.number + 1) s.commit.bytes) to s.to x s.step written s.written in
            steps s role from (subst (IsWorkersStep role shard own) one.1 step) h
