-- Each entry of a worker leaves the collection, or appends to it the next of the feed's appends. Entries go newest first.
use Rattle.std.proofs.Common.{◌≡◌, ℕ, ◌+◌, false, Option, Some, List, [], ◌∷◌, ◌++◌, inl, inr, refl, sym, ap, subst}
use Rattle.std.proofs.Common.{◌∙◌, arith, append_assoc, append-nil}
use Rattle.std.specs.Prelude.{⊤, reverse}
use Rattle.std.specs.List.{AllByRecursion}
use Rattle.std.proofs.lemmas.List.{reverse-reverse}
use Rattle.update_core.specs.declared.updates.Update.{Update}
use Rattle.update_core.specs.declared.appends.FeedAppend.{FeedAppend}
use Rattle.update_core.specs.Updates.{cons, weight_of}
use Rattle.update_core.specs.Collections.{Collection as PlainCollection, extended}
use Rattle.store_core.specs.declared.shards.ShardId.{ShardId}
use Rattle.store_core.specs.declared.calls.Call.TheVariants as calls
use Rattle.store_core.specs.declared.entries.Entry.{Entry}
use Rattle.store_core.specs.Stores.{Stored}
use Rattle.store_core.specs.Histories.{History}
use Rattle.store_core.specs.Ports.{Answered}
use Rattle.store_core.specs.Newest.{replay_back, mine_back}
use Rattle.store_core.proofs.NewestLaws.{replay-newest, mine-newest}
use Rattle.spine_core.specs.declared.batches.Batch.{Batch}
use Rattle.state_core.specs.declared.kinds.Kind.{Kind}
use Rattle.state_core.specs.declared.kinds.Kind.TheVariants.{Writer, Reader, Keeper}
use Rattle.state_core.specs.declared.transitions.Transition.{Transition}
use Rattle.state_core.specs.declared.transitions.Transition.TheVariants.{Join, Leave, Merge}
use Rattle.state_core.specs.States.{ShardState, SinceIs, is_reader, least_since}
use Rattle.state_core.specs.Steps.{Applies, init, without}
use Rattle.version_codec.specs.Reading.{version_in}
use Rattle.state_core.proofs.ListLemmas.{bool_cases}
use Rattle.history_core.specs.Costs.{commits_on}
use Rattle.history_core.specs.Discipline.{LawfulBack}
use Rattle.history_core.specs.Laws.{LastIs}
use Rattle.history_core.specs.Legal.{AcceptedAt, collection_in}
use Rattle.history_core.specs.Members.{JoinedAs}
use Rattle.history_core.specs.Placing.{Commits, placed}
use Rattle.history_core.specs.Stands.{StandsFor, accepted, appended_by}
use Rattle.history_core.proofs.Bases.{none_there}
use Rattle.history_core.proofs.Endings.{last_law}
use Rattle.history_core.proofs.Entries.{lawful_older}
use Rattle.history_core.proofs.OwnMembers.{kind_law}
use Rattle.history_core.proofs.Quiet.{Quiet, last_stays, quiet_back}
use Rattle.history_core.proofs.StateFacts.{state_rules}
use Rattle.load_core.proofs.Gaining.{lawful_forth}
use Rattle.crew_core.specs.Competing.{HasAppended, HasCollection}
use Rattle.appends_core.specs.Feeds.{FollowOn, from_upper, rows_of, weight_of_all}
use Rattle.crew_core.specs.Working.{CarriesWorkers, IsOneOf, IsOwnLeave, IsOwnMerge, IsOwnRenewal, IsWorkersEntry, IsWorkersStep, Role}
use Rattle.crew_core.specs.Working.{as_collector, as_compactor, as_follower, as_pin, as_writer, past_first}
use Rattle.crew_core.proofs.Accepting.{storers_law}
use Rattle.crew_core.proofs.Commits.{Begun, Stepped, commits_there, what_commits}
use Rattle.crew_core.proofs.Leaving.{Leaves, join_leaves, leave_holds, leave_leaves, merge_leaves, renew_leaves}
use Rattle.appends_core.proofs.FeedSteps.{end_on, rows_on, weight_on}
use Rattle.crew_core.proofs.FeedLaws.{found_at, rest_from}

-- ---- the collection

abbrev make : List Update → ℕ → Option ℕ → ℕ → PlainCollection
make us since upper weight = record { updates = us; since = since; upper = upper; weight = weight }

alike : (us us2 : List Update) (s t : ShardState) → us ≡ us2 → t.since ≡ s.since → t.upper ≡ s.upper → t.weight ≡ s.weight →
    collection_in us s ≡ collection_in us2 t
alike us us2 s t a b c d = go us us2 s.since t.since s.upper t.upper s.weight t.weight a (sym b) (sym c) (sym d)
  where
    go : (us us2 : List Update) (a b : ℕ) (c d : Option ℕ) (e f : ℕ) → us ≡ us2 → a ≡ b → c ≡ d → e ≡ f → make us a c e ≡ make us2 b d f
    go us us2 a b c d e f p q r s = cc

pub same_version : (o : Option (ShardState × Transition)) (s t : ShardState) (x y : Transition) → o ≡ Some (s, x) → o ≡ Some (t, y) →
    (s ≡ t) × (x ≡ y)
same_version o s t x y h g = let e : (s, x) ≡ (t, y) = cc in
    (ap (λ (p : ShardState × Transition). p.0) e, ap (λ (p : ShardState × Transition). p.1) e)

-- a history of entries that go newest first
abbrev turned : Stored → List Entry → History
turned start es = record { start = start; trail = reverse es }

-- a member that a client joined as a kind is of it where it stands
pub own_kind : (kind : Kind) (start : Stored) (shard : ShardId) (list : List Update) (es : List Entry) → StandsFor start shard list →
    LawfulBack start es → (c member : ℕ) →
    JoinedAs kind (mine_back start es c) shard member → (n : ℕ) (s : ShardState) → LastIs (replay_back start es) shard n s →
    AllByRecursion (λ m. m.number ≡ member → m.kind ≡ kind) s.members
own_kind kind start shard list es st l c member joined n s last =
    let h = turned start es in
    let back : reverse h.trail ≡ es = reverse-reverse es in
    kind_law shard list h st (lawful_forth h (subst (LawfulBack start) (sym back) l)) kind c member
    (subst (λ (own : List Answered). JoinedAs kind own shard member)
    (sym (mine-newest h c ∙ ap (λ (fs : List Entry). mine_back start fs c) back)) joined) n s
    (subst (λ (q : Stored). LastIs q shard n s) (sym (replay-newest start h.trail ∙ ap (replay_back start) back)) last)

-- the collection of the entries before a step
pub before_step : (shard : ShardId) (list : List Update) (start : Stored) (es : List Entry) (n : ℕ) (s : ShardState) →
    LastIs (replay_back start es) shard n s → (now : PlainCollection) → HasCollection list start shard es now →
    now ≡ collection_in (accepted shard list start es) s
before_step shard list start es n s last now (inl k) = absurd (none_there shard ((replay_back start es).logs shard) n s k.0 last.1)
before_step shard list start es n s last now (inr (m, t, other, is)) =
    is ∙ ap (collection_in (accepted shard list start es)) (last_law (replay_back start es) shard m n t s other last).1

-- a step that appends nothing leaves the accepted updates
same_accepted : (shard : ShardId) (list : List Update) (start : Stored) (e : Entry) (es : List Entry)
    (s : Stepped shard list start e es) → appended_by (replay_back start es) (Some (s.to, s.step)) ≡ [] →
    accepted shard list start (e ∷ es) ≡ accepted shard list start es
same_accepted shard list start e es s none = s.grows ∙ ap (λ (us : List Update). accepted shard list start es ++ us) none
    ∙ append-nil (accepted shard list start es)

-- and where it leaves since, upper and weight too, the collection
same_collection : (shard : ShardId) (list : List Update) (start : Stored) (e : Entry) (es : List Entry)
    (s : Stepped shard list start e es) → Leaves s.from s.step s.to →
    appended_by (replay_back start es) (Some (s.to, s.step)) ≡ [] → (c : PlainCollection) →
    HasCollection list start shard es c → HasCollection list start shard (e ∷ es) c
same_collection shard list start e es s k none c has = inr (
  s.number + 1,
  s.to,
  s.now,
  before_step shard list start es s.number s.from s.last c has
      ∙ alike (accepted shard list start es) (accepted shard list start (e ∷ es)) s.from s.to
      (sym (same_accepted shard list start e es s none)) k.since k.upper k.weight,
)

-- a merge
module _ (shard : ShardId) (list : List Update) (start : Stored) (e : Entry) (es : List Entry) (member token : ℕ)
    (left right merged : Batch) where
  merge_adds_none : (s : Stepped shard list start e es) → s.step ≡ Merge member token left right merged →
      appended_by (replay_back start es) (Some (s.to, s.step)) ≡ []
  merge_adds_none s is = subst (λ (y : Transition). appended_by (replay_back start es) (Some (s.to, y)) ≡ []) (sym is) refl

  merge_stays : (s : Stepped shard list start e es) → s.step ≡ Merge member token left right merged →
      (accepted shard list start (e ∷ es) ≡ accepted shard list start es) ×
      ((c : PlainCollection) → HasCollection list start shard es c → HasCollection list start shard (e ∷ es) c)
  merge_stays s is = (
    same_accepted shard list start e es s (merge_adds_none s is),
    same_collection shard list start e es s
        (merge_leaves s.from s.step s.to member token left right merged is s.applies) (merge_adds_none s is),
  )

same_number : (a b : Option ℕ) (n m : ℕ) → a ≡ Some n → b ≡ Some m → a ≡ b → n ≡ m
same_number a b n m p q e = let k : Some n ≡ Some m = cc in cc

pub merges_stay : (shard : ShardId) (list : List Update) (start : Stored) (e : Entry) (es : List Entry) → StandsFor start shard list →
    LawfulBack start (e ∷ es) → (k : Commits start shard (placed e es)) (n : ℕ) (to : ShardState) (member token : ℕ)
    (left right merged : Batch) → k.expected ≡ Some n →
    version_in shard (n + 1) k.bytes ≡ Some (to, Merge member token left right merged) →
    (accepted shard list start (e ∷ es) ≡ accepted shard list start es) ×
    ((c : PlainCollection) → HasCollection list start shard es c → HasCollection list start shard (e ∷ es) c)
merges_stay shard list start e es st l k n to member token left right merged expected written =
    elim (what_commits shard list start st e es l k) [
      | inl b ↦ absurd (not_first b)
      | inr s ↦ merge_stays shard list start e es member token left right merged s (step_is s)
    ]
  where
    cas_of : (s : Stepped shard list start e es) → calls.Cas shard s.commit.expected s.commit.bytes ≡ calls.Cas shard k.expected k.bytes
    cas_of s = sym s.commit.call_is ∙ k.call_is

    expected_same : (a b : Option ℕ) (x y : List ℕ) → calls.Cas shard a x ≡ calls.Cas shard b y → a ≡ b
    expected_same a b x y h = cc

    bytes_same : (a b : Option ℕ) (x y : List ℕ) → calls.Cas shard a x ≡ calls.Cas shard b y → x ≡ y
    bytes_same a b x y h = cc

    step_is : (s : Stepped shard list start e es) → s.step ≡ Merge member token left right merged
    step_is s =
        let number : s.number ≡ n = same_number s.commit.expected k.expected s.number n s.expected expected
        (expected_same s.commit.expected k.expected s.commit.bytes k.bytes (cas_of s)) in
        let bytes : s.commit.bytes ≡ k.bytes = bytes_same s.commit.expected k.expected s.commit.bytes k.bytes (cas_of s) in
        (same_version (version_in shard (n + 1) k.bytes) s.to to s.step (Merge member token left right merged)
        (subst (λ (bs : List ℕ). version_in shard (n + 1) bs ≡ Some (s.to, s.step)) bytes
        (subst (λ (m : ℕ). version_in shard (m + 1) s.commit.bytes ≡ Some (s.to, s.step)) number s.written)) written).1

    not_first : Begun shard list start e es → ⊥
    not_first b = b.after k n expected

-- a writer's appends are the feed's
abbrev pub IsFeeds : List FeedAppend → Role → Type 0
IsFeeds appends (as_writer mine) = mine ≡ appends
IsFeeds appends _ = ⊤

-- since stays where a follower's reader leaves
abbrev pub Spares : (shard : ShardId) (list : List Update) (start : Stored) (e : Entry) (es : List Entry) → Stepped shard list start e es →
    Role → Type 0
Spares shard list start e es s (as_follower count) =
    (left : ℕ) → JoinedAs Reader (past_first count (mine_back start es e.client)) shard left →
    SinceIs (least_since (without left s.from.members)) s.from.since
Spares shard list start e es s _ = ⊤

module _ (appends : List FeedAppend) (follow : FollowOn (Some 0) appends) (shard : ShardId) (list : List Update)
    (first : PlainCollection) where
  -- what the collection has come to
  pub record Come (start : Stored) (es : List Entry) : Type 0 where
    pub now : PlainCollection
    pub has : HasCollection list start shard es now
    pub appended : HasAppended appends first now

  -- nothing has come
  pub come_none : (start : Stored) (es : List Entry) → HasCollection list start shard es first → Come start es
  come_none start es has = record {
    now = first;
    has = has;
    appended = record {
      done = [];
      rest = from_upper first.upper appends;
      split = refl;
      updates = sym (append-nil first.updates);
      upper = refl;
      weight = omega arith;
      since = refl;
    };
  }

  module _ (start : Stored) (es : List Entry) (e : Entry) (st : StandsFor start shard list) (l : LawfulBack start (e ∷ es)) where
    abbrev own : List Answered
    own = mine_back start es e.client

    -- the entry commits nothing
    idle : commits_on shard (replay_back start es) e.call e.outcome ≡ false → Come start es → Come start (e ∷ es)
    idle h c = record { now = c.now; has = on c.has; appended = c.appended }
      where
        q : Quiet start shard list (e ∷ []) es
        q = quiet_back start shard list (e ∷ []) es (rw h refl)

        on : HasCollection list start shard es c.now → HasCollection list start shard (e ∷ es) c.now
        on (inl k) = inl (q.keeps.none k.0, q.accepts ∙ k.1, k.2)
        on (inr (n, s, last, is)) =
            inr (
              n,
              s,
              last_stays shard (replay_back start es) (replay_back start (e ∷ es)) q.keeps n s last,
              is ∙ ap (λ (us : List Update). collection_in us s) (sym q.accepts),
            )

    -- it commits the first version
    begun : Begun shard list start e es → Come start es → Come start (e ∷ es)
    begun b c = record { now = c.now; has = on c.has; appended = c.appended }
      where
        on : HasCollection list start shard es c.now → HasCollection list start shard (e ∷ es) c.now
        on (inl k) = inr (0, init shard, b.now, k.2 ∙ ap (λ (us : List Update). collection_in us (init shard)) (sym (b.same ∙ k.1)))
        on (inr (n, s, last, is)) = absurd (b.none n s last)

    -- it commits a step that leaves the collection
    leaves : (s : Stepped shard list start e es) → Leaves s.from s.step s.to →
        appended_by (replay_back start es) (Some (s.to, s.step)) ≡ [] → Come start es → Come start (e ∷ es)
    leaves s k none c = record {
      now = c.now;
      has = same_collection shard list start e es s k none c.now c.has;
      appended = c.appended;
    }

    -- it commits one of the appends
    appends_one : (s : Stepped shard list start e es) → IsOneOf appends own s.step → Come start es → Come start (e ∷ es)
    appends_one s o c = record { now = a.after; has = inr a.after_is; appended = on }
      where
        a : AcceptedAt list start shard o.append.rows o.append.lower o.append.upper (placed e es)
        a = storers_law appends shard list start e es st l s.commit s.number s.to s.step s.expected s.written o

        at : s.from.upper ≡ Some o.append.lower
        at = (subst (λ (y : Transition). Applies s.from y s.to) o.step_is s.applies).makes.fits

        now_is : c.now ≡ collection_in (accepted shard list start es) s.from
        now_is = before_step shard list start es s.number s.from s.last c.now c.has

        same : a.before ≡ c.now
        same = before_step shard list start es s.number s.from s.last a.before (inr a.before_is) ∙ sym now_is

        upper_at : c.now.upper ≡ Some o.append.lower
        upper_at = ap (λ (d : PlainCollection). d.upper) now_is ∙ at

        effect : a.after ≡ extended c.now o.append.rows o.append.upper (weight_of o.append.rows)
        effect = a.effect ∙ ap (λ (d : PlainCollection). extended d o.append.rows o.append.upper (weight_of o.append.rows)) same

        on : HasAppended appends first a.after
        on =
            let h = c.appended in
            let found = found_at (Some 0) o.append appends follow o.among in
            let rest_is : h.rest ≡ o.append ∷ found.0 =
            sym (rest_from (Some 0) first.upper h.done h.rest appends follow h.split)
            ∙ ap (λ (u : Option ℕ). from_upper u appends) (sym h.upper ∙ upper_at) ∙ found.1 in
            let weights : c.now.weight ≡ first.weight + weight_of_all h.done = h.weight in
            let more = weight_on h.done o.append in
            let heavier : a.after.weight ≡ c.now.weight + weight_of o.append.rows = ap (λ (d : PlainCollection). d.weight) effect in
            record {
              done = h.done ++ o.append ∷ [];
              rest = found.0;
              split = h.split ∙ ap (λ (xs : List FeedAppend). h.done ++ xs) rest_is ∙ sym (append_assoc h.done (o.append ∷ []) found.0);
              updates = ap (λ (d : PlainCollection). d.updates) effect ∙ ap (λ (us : List Update). us ++ cons o.append.rows) h.updates
                  ∙ append_assoc first.updates (rows_of h.done) (cons o.append.rows)
                  ∙ ap (λ (us : List Update). first.updates ++ us) (sym (rows_on h.done o.append));
              upper = ap (λ (d : PlainCollection). d.upper) effect ∙ sym (end_on first.upper h.done o.append);
              weight = omega arith;
              since = ap (λ (d : PlainCollection). d.since) effect ∙ h.since;
            }

    -- it commits the leave of a member that is no reader
    leaves_one : (kind : Kind) → is_reader kind ≡ false → (s : Stepped shard list start e es) → IsOwnLeave kind shard own s.step →
        Come start es → Come start (e ∷ es)
    leaves_one kind reads s (member, is, joined) c = leaves s
        (leave_leaves kind reads s.from s.step s.to member is
        (state_rules shard ((replay_back start es).logs shard) s.number s.from s.last.1).since
        (own_kind kind start shard list es st (lawful_older start e es l) e.client member joined s.number s.from s.last) s.applies)
        (subst (λ (y : Transition). appended_by (replay_back start es) (Some (s.to, y)) ≡ []) (sym is) refl) c

    joins_one : (kind : Kind) (now lease : ℕ) (s : Stepped shard list start e es) → s.step ≡ Join kind now lease → Come start es →
        Come start (e ∷ es)
    joins_one kind now lease s j c = leaves s (join_leaves s.from s.step s.to kind now lease j s.applies)
        (subst (λ (y : Transition). appended_by (replay_back start es) (Some (s.to, y)) ≡ []) (sym j) refl) c

    merges_one : (s : Stepped shard list start e es) → IsOwnMerge shard own s.step → Come start es → Come start (e ∷ es)
    merges_one s m c = leaves s
        (merge_leaves s.from s.step s.to m.member m.token m.left m.right m.merged m.step_is s.applies)
        (merge_adds_none shard list start e es m.member m.token m.left m.right m.merged s m.step_is) c

    renews_one : (s : Stepped shard list start e es) → IsOwnRenewal shard own s.step → Come start es → Come start (e ∷ es)
    renews_one s (member, now, is, joined) c = leaves s (renew_leaves s.from s.step s.to member now is s.applies)
        (subst (λ (y : Transition). appended_by (replay_back start es) (Some (s.to, y)) ≡ []) (sym is) refl) c

    -- it commits the leave of a reader that no other holds since for
    reader_leaves : (s : Stepped shard list start e es) (left : ℕ) → s.step ≡ Leave left →
        SinceIs (least_since (without left s.from.members)) s.from.since → Come start es → Come start (e ∷ es)
    reader_leaves s left is since c = leaves s (leave_holds s.from s.step s.to left is since s.applies)
        (subst (λ (y : Transition). appended_by (replay_back start es) (Some (s.to, y)) ≡ []) (sym is) refl) c

    -- by what a worker's step is
    steps : (s : Stepped shard list start e es) (role : Role) → IsFeeds appends role → Spares shard list start e es s role →
        IsWorkersStep role shard own s.step → Come start es → Come start (e ∷ es)
    steps s (as_writer mine) feeds spares (inl j) c = joins_one Writer 0 0 s j c
    steps s (as_writer mine) feeds spares (inr (inl leave)) c = leaves_one Writer refl s leave c
    steps s (as_writer mine) feeds spares (inr (inr o)) c =
        appends_one s (subst (λ (fs : List FeedAppend). IsOneOf fs own s.step) feeds o) c
    steps s as_compactor feeds spares (inl (now, lease, j)) c = joins_one Keeper now lease s j c
    steps s as_compactor feeds spares (inr (inl leave)) c = leaves_one Keeper refl s leave c
    steps s as_compactor feeds spares (inr (inr m)) c = merges_one s m c
    steps s as_collector feeds spares bad c = absurd bad
    steps s as_pin feeds spares r c = renews_one s r c
    steps s (as_follower count) feeds spares (inl (now, lease, j)) c = joins_one Reader now lease s j c
    steps s (as_follower count) feeds spares (inr (left, is, joined)) c = reader_leaves s left is (spares left joined) c

    pub come_on : (role : Role) → IsFeeds appends role → ((s : Stepped shard list start e es) → Spares shard list start e es s role) →
        IsWorkersEntry role shard start es e → Come start es → Come start (e ∷ es)
    come_on role feeds spares p c = elim (bool_cases (commits_on shard (replay_back start es) e.call e.outcome)) [
      | inr f ↦ idle f c
      | inl t ↦ elim (what_commits shard list start st e es l (commits_there start shard e es t)) [
        | inl b ↦ begun b c
        | inr s ↦ by_call s
            (subst (λ (o : Option ℕ). CarriesWorkers role shard own (calls.Cas shard o s.commit.bytes)) s.expected
            (subst (CarriesWorkers role shard own) s.commit.call_is p.carries)) c
      ]
    ]
      where
        by_call : (s : Stepped shard list start e es) → CarriesWorkers role shard own (calls.Cas shard (Some s.number) s.commit.bytes) →
            Come start es → Come start (e ∷ es)
        by_call s (here, (to, x, written, step)) k =
            let one = same_version (version_in shard (s.number + 1) s.commit.bytes) to s.to x s.step written s.written in
            steps s role feeds (spares s) (subst (IsWorkersStep role shard own) one.1 step) k
