-- What each version that is committed makes of a run's view. Entries go newest first.
use Rattle.std.specs.Prelude.{nat_le}
use Rattle.std.proofs.Common.{◌≡◌, ◌≢◌, ℕ, ◌+◌, ◌<◌, ◌≤◌, min, true, false, Option, Some, None, List, [], ◌∷◌, ◌++◌, ◌⊎◌, inl, inr, refl, arith, subst, sym, ap, ◌∙◌, eqb}
use Rattle.std.specs.List.{AllByRecursion}
use Rattle.std.proofs.lemmas.Bool.{eq-eqb, eqb-true, ne_eqb}
use Rattle.std.proofs.lemmas.Bool.Decides.{nat_tests}
use Rattle.update_core.specs.declared.updates.Update.{Update}
use Rattle.update_core.specs.Updates.{weight_of}
use Rattle.update_core.specs.Collections.{Collection, append_answer, accepted as append_accepted, extended}
use Rattle.store_core.specs.declared.shards.ShardId.{ShardId}
use Rattle.store_core.specs.declared.part_keys.PartKey.{PartKey}
use Rattle.store_core.specs.declared.entries.Entry.{Entry}
use Rattle.store_core.specs.Stores.{Stored}
use Rattle.store_core.specs.Histories.{reply}
use Rattle.store_core.specs.Newest.{replay_back}
use Rattle.state_core.specs.declared.kinds.Kind.TheVariants.{Writer, Reader}
use Rattle.state_core.specs.declared.members.Member.{Member}
use Rattle.state_core.specs.declared.transitions.Transition.TheVariants.{Join, Leave, Append, Advance}
use Rattle.state_core.specs.States.{ShardState, SinceIs, is_reader, least_since, or_least}
use Rattle.state_core.specs.Steps.{Stands, changed, init, joining}
use Rattle.state_core.proofs.ListLemmas.{among_back, bool_cases, each_among, each_map}
use Rattle.state_core.proofs.Rules.{Rise, rise_of, one_stands}
use Rattle.history_core.specs.Discipline.{LawfulBack}
use Rattle.history_core.specs.Stands.{StandsFor, accepted}
use Rattle.history_core.specs.Laws.{LastIs}
use Rattle.history_core.specs.Legal.{collection_in, AcceptedAt}
use Rattle.history_core.specs.Placing.{placed, places, Commits, OnlyOne}
use Rattle.history_core.proofs.Bases.{base_of}
use Rattle.history_core.proofs.StandsAfter.{stands_after}
use Rattle.history_core.proofs.StateFacts.{last_one, state_none, state_rules}
use Rattle.load_core.specs.Effects.{CommitsStep, CommitsFirst, CommitsNone}
use Rattle.plain_run.specs.PlainRuns.{View, empty_view, least_of, view_since, with_own}
use Rattle.plain_run.specs.Sessions.{StartsAt, ViewAt, QuietSince, joining_view, other_sinces, reader_sinces}
use Rattle.plain_run.proofs.Quietly.{none_keeps, none_starts, only_newest, quiet_view}
use Rattle.plain_run.proofs.Stepped.{step_commits, step_keeps, first_never, first_last, first_keeps, leaves}

-- ---- the last version's state

-- the last version's state is one
pub one_last : (shard : ShardId) (store : Stored) (n m : ℕ) (s t : ShardState) → LastIs store shard n s → LastIs store shard m t → s ≡ t
one_last shard store n m s t a b = (last_one shard (store.logs shard) n m s t a.0 a.1 b.0 b.1).1

-- its members rise
pub last_rises : (shard : ShardId) (store : Stored) (n : ℕ) (s : ShardState) → LastIs store shard n s → Rise s.members
last_rises shard store n s last = rise_of s.members (state_rules shard (store.logs shard) n s last.1).rising

-- the collection of a view is that of the last version's state
pub view_collection : (shard : ShardId) (list : List Update) (start : Stored) (es : List Entry) (reader : ℕ) (view : View) (n : ℕ) (s : ShardState) →
    ViewAt shard list start es reader view →
    LastIs (replay_back start es) shard n s → view.collection ≡ collection_in (accepted shard list start es) s
view_collection shard list start es reader view n s v last =
    v.collection ∙ ap (collection_in (accepted shard list start es)) (one_last shard (replay_back start es) v.number n v.state s v.last last)

-- what holds of both, where two facts tell of one member
both_stand : (n : ℕ) (P Q : Member → Type 0) (ms : List Member) → Rise ms → Stands n P ms → Stands n Q ms → (m : Member) × (m.number ≡ n) × P m × Q m
both_stand n P Q ms rise p q =
    let (m, first, second) = each_among (λ (m : Member). m.number ≡ n → P m) (λ (m : Member). (m.number ≡ n) × Q m) ms (one_stands n P ms rise p) q in
    (m, second.0, first second.0, second.1)

-- the member is a reader with this since
abbrev pub ReadsFrom : ℕ → Member → Type 0
ReadsFrom since m = (m.kind ≡ Reader) × (m.since ≡ since)

-- a reader that stands with this since has that of the view
pub view_own : (shard : ShardId) (list : List Update) (start : Stored) (es : List Entry) (reader : ℕ) (view : View) (n : ℕ) (s : ShardState)
    (P : Member → Type 0) → ViewAt shard list start es reader view →
    LastIs (replay_back start es) shard n s → Stands reader P s.members → (m : Member) × (m.number ≡ reader) × (m.since ≡ view.own) × P m
view_own shard list start es reader view n s P v last stands =
    let own = subst (λ (t : ShardState). Stands reader (ReadsFrom view.own) t.members) (one_last shard (replay_back start es) v.number n v.state s v.last last) v.own in
    let (m, number, is, so) = both_stand reader (ReadsFrom view.own) P s.members (last_rises shard (replay_back start es) n s last) own stands in
    (m, number, is.1, so)

-- ---- members that are changed

-- the member keeps its number and kind
pub record Alike (f : Member → Member) : Type 0 where
  pub number : (m : Member) → (f m).number ≡ m.number
  pub kind : (m : Member) → (f m).kind ≡ m.kind

pub stands_changed : (n reader : ℕ) (f : Member → Member) (P Q : Member → Type 0) (ms : List Member) → Alike f → ((m : Member) → P m → Q m) →
    ((m : Member) → m.number ≡ n → P m → Q (f m)) →
    Stands reader P ms → Stands reader Q (changed n f ms)
stands_changed n reader f P Q [] a keep move h = h
stands_changed n reader f P Q (m ∷ ms) a keep move (inl h) = elim (bool_cases (eqb m.number n)) [
  | inl e ↦ rw e (inl (a.number m ∙ h.0, move m (eqb-true m.number n e) h.1))
  | inr e ↦ rw e (inl (h.0, keep m h.1))
]
stands_changed n reader f P Q (m ∷ ms) a keep move (inr h) = inr (stands_changed n reader f P Q ms a keep move h)

-- the sinces of the readers stay where those that are changed keep theirs
pub others_same : (n reader : ℕ) (f : Member → Member) → Alike f → ((m : Member) → (f m).since ≡ m.since) → (ms : List Member) →
    other_sinces reader (changed n f ms) ≡ other_sinces reader ms
others_same n reader f a since [] = refl
others_same n reader f a since (m ∷ ms) = elim (bool_cases (eqb m.number n)) [
  | inl e ↦ rw (e, a.number m, a.kind m, since m, others_same n reader f a since ms) refl
  | inr e ↦ rw (e, others_same n reader f a since ms) refl
]

-- and where it is the reader itself that is changed
others_but : (reader : ℕ) (f : Member → Member) → Alike f → (ms : List Member) → other_sinces reader (changed reader f ms) ≡ other_sinces reader ms
others_but reader f a [] = refl
others_but reader f a (m ∷ ms) = elim (bool_cases (eqb m.number reader)) [
  | inl e ↦ elim (bool_cases (is_reader m.kind)) [
    | inl r ↦ rw (e, a.number m, e, a.kind m, r, others_but reader f a ms) refl
    | inr r ↦ rw (e, a.number m, e, a.kind m, r, others_but reader f a ms) refl
  ]
  | inr e ↦ rw e (rw (e, others_but reader f a ms) refl)
]

-- ---- the least since of readers

-- the least of a list
least_listed : List ℕ → Option ℕ
least_listed [] = None
least_listed (n ∷ ns) = or_least (least_listed ns) n

least_with : (ns : List ℕ) (to : ℕ) → or_least (least_listed ns) to ≡ Some (least_of to ns)
unfolding least_listed
least_with [] to = refl
least_with (n ∷ ns) to = go (least_listed ns) (least_with ns to)
  where
    go : (o : Option ℕ) → or_least o to ≡ Some (least_of to ns) → or_least (or_least o n) to ≡ Some (min n (least_of to ns))
    go None h =
        let is : to ≡ least_of to ns = cc in
        ap Some (let a : min n to ≡ min n (least_of to ns) = ap (min n) is in a)
    go (Some j) h =
        let is : min j to ≡ least_of to ns = cc in
        ap Some (let a : min (min j n) to ≡ min n (least_of to ns) = omega arith in a)

-- without the member, the least since is that of the others
least_unlike : (own : ℕ) (ms : List Member) → AllByRecursion (λ m. m.number ≢ own) ms → least_since ms ≡ least_listed (other_sinces own ms)
unfolding least_listed
least_unlike own [] h = refl
least_unlike own (m ∷ ms) h = elim (bool_cases (is_reader m.kind)) [
  | inl r ↦ rw (r, ne_eqb m.number own h.0) (ap (λ (o : Option ℕ). or_least o m.since) (least_unlike own ms h.1))
  | inr r ↦ rw r (least_unlike own ms h.1)
]

-- with it, it is the least of its since and those of the others
least_with_own : (own to : ℕ) (ms : List Member) → Rise ms → Stands own (ReadsFrom to) ms → least_since ms ≡ Some (least_of to (other_sinces own ms))
least_with_own own to [] rise h = absurd h
least_with_own own to (m ∷ ms) rise (inl h) =
    let apart : AllByRecursion (λ x. x.number ≢ own) ms =
    each_map (λ (x : Member). m.number < x.number) (λ (x : Member). x.number ≢ own) ms
    (λ x lt e. let a : m.number < x.number = lt in let b : m.number ≡ own = h.0 in let c : x.number ≡ own = e in omega arith) rise.0 in
    let reads : is_reader m.kind ≡ true = ap is_reader h.1.0 in
    rw (reads, eq-eqb m.number own h.0, h.1.1) (ap (λ (o : Option ℕ). or_least o to) (least_unlike own ms apart) ∙ least_with (other_sinces own ms) to)
least_with_own own to (m ∷ ms) rise (inr h) =
    let (x, lt, is) = each_among (λ (x : Member). m.number < x.number) (λ (x : Member). (x.number ≡ own) × ((x.kind ≡ Reader) × (x.since ≡ to))) ms rise.0 h in
    let apart : m.number ≢ own = λ e. (let a : m.number < x.number = lt in let b : x.number ≡ own = is.0 in omega arith) in
    let rest = least_with_own own to ms rise.1 h in
    elim (bool_cases (is_reader m.kind)) [
      | inl r ↦ rw (r, ne_eqb m.number own apart) (ap (λ (o : Option ℕ). or_least o m.since) rest ∙ ap Some (turned (least_of to (other_sinces own ms)) m.since))
      | inr r ↦ rw r rest
    ]
  where
    turned : (a b : ℕ) → min a b ≡ min b a
    turned a b = omega arith

-- ---- a member that joins

-- one that doesn't read leaves the sinces
sinces_same : (ms : List Member) (m : Member) → is_reader m.kind ≡ false → reader_sinces (ms ++ m ∷ []) ≡ reader_sinces ms
sinces_same [] m r = rw r refl
sinces_same (x ∷ ms) m r = rw (sinces_same ms m r) refl

-- the others of a reader that joined are those that stood
others_of_new : (reader : ℕ) (ms : List Member) (m : Member) → m.number ≡ reader → AllByRecursion (λ x. x.number < reader) ms →
    other_sinces reader (ms ++ m ∷ []) ≡ reader_sinces ms
others_of_new reader [] m is h = elim (bool_cases (is_reader m.kind)) [
  | inl r ↦ rw (r, eq-eqb m.number reader is) refl
  | inr r ↦ rw r refl
]
others_of_new reader (x ∷ ms) m is h =
    let apart : x.number ≢ reader = λ e. (let lt : x.number < reader = h.0 in omega arith) in
    elim (bool_cases (is_reader x.kind)) [
      | inl r ↦ rw (r, ne_eqb x.number reader apart, others_of_new reader ms m is h.1) refl
      | inr r ↦ rw (r, others_of_new reader ms m is h.1) refl
    ]

-- ---- views that stand

-- what is accepted is what the view has
pub view_accepted : (shard : ShardId) (list : List Update) (start : Stored) (es : List Entry) (reader : ℕ) (view : View) →
    ViewAt shard list start es reader view → accepted shard list start es ≡ view.collection.updates
view_accepted shard list start es reader view v = sym (ap (λ (c : Collection). c.updates) v.collection)

-- after a lawful history the store stands for what is accepted, under whatever name
pub accepted_stands : (shard : ShardId) (list updates : List Update) (start : Stored) (es : List Entry) → StandsFor start shard list → LawfulBack start es →
    accepted shard list start es ≡ updates → StandsFor (replay_back start es) shard updates
accepted_stands shard list updates start es st l same =
    subst (λ (us : List Update). StandsFor (replay_back start es) shard us) same (stands_after start shard list (base_of start shard list st) es l)

-- and so does it for the updates of a view
pub view_stands : (shard : ShardId) (list : List Update) (start : Stored) (es : List Entry) (reader : ℕ) (view : View) →
    ViewAt shard list start es reader view → StandsFor start shard list → LawfulBack start es →
    StandsFor (replay_back start es) shard view.collection.updates
view_stands shard list start es reader view v st l =
    accepted_stands shard list view.collection.updates start es st l (view_accepted shard list start es reader view v)

-- a run starts from some view
pub starts_somehow : (shard : ShardId) (list : List Update) (start : Stored) (es : List Entry) → StandsFor start shard list → LawfulBack start es →
    (view : View) × StartsAt shard list start es view
starts_somehow shard list start es st l = elim (stands_after start shard list (base_of start shard list st) es l) [
  | inl e ↦ (empty_view, inl (e.no_version, e.no_update, refl))
  | inr c ↦ (joining_view (accepted shard list start es) c.last, inr (c.number, c.last, (c.newest, c.state), refl))
]

-- ---- collections

make : List Update → ℕ → Option ℕ → ℕ → Collection
make us since upper weight = record { updates = us; since = since; upper = upper; weight = weight }

made_alike : (us us2 : List Update) (since since2 : ℕ) (upper upper2 : Option ℕ) (weight weight2 : ℕ) → us ≡ us2 → since ≡ since2 → upper ≡ upper2 →
    weight ≡ weight2 → make us since upper weight ≡ make us2 since2 upper2 weight2
made_alike us us2 since since2 upper upper2 weight weight2 a b c d = cc

-- a collection with another since
with_since : (w : Collection) (us : List Update) (s : ShardState) (since : ℕ) → w.updates ≡ us → since ≡ s.since → w.upper ≡ s.upper →
    w.weight ≡ s.weight → record w { since = since } ≡ collection_in us s
unfolding make
with_since w us s since a b c d = made_alike w.updates us since s.since w.upper s.upper w.weight s.weight a b c d

-- ---- versions that are committed

module _ (shard : ShardId) (list : List Update) (start : Stored) (st : StandsFor start shard list) (e : Entry) (es : List Entry)
    (l : LawfulBack start (e ∷ es)) where
  -- the view of a run's start, where there is a version, is that of the last version's state
  starts_last : (view : View) (n : ℕ) (s : ShardState) → StartsAt shard list start es view → LastIs (replay_back start es) shard n s →
      view ≡ joining_view (accepted shard list start es) s
  starts_last view n s (inl h) last = absurd (state_none shard ((replay_back start es).logs shard) n s h.0 last.1)
  starts_last view n s (inr h) last = h.3 ∙ ap (joining_view (accepted shard list start es)) (one_last shard (replay_back start es) h.0 n h.1 s h.2 last)

  -- the first version leaves the empty view
  pub first_starts : (view : View) → StartsAt shard list start es view → CommitsFirst shard e.call (reply (replay_back start es) e) →
      StartsAt shard list start (e ∷ es) view
  first_starts view (inl h) c =
      let none : accepted shard list start (e ∷ es) ≡ [] = first_keeps shard list start st e es l c ∙ h.1 in
      inr (0, init shard, first_last shard list start st e es l c, h.2 ∙ ap (λ (us : List Update). joining_view us (init shard)) (sym none))
  first_starts view (inr h) c = absurd (first_never shard list start st e es l h.0 h.1 h.2 c)

  -- a writer that joins leaves the view
  pub writer_joins : (view : View) → StartsAt shard list start es view → CommitsStep shard (Join Writer 0 0) e.call (reply (replay_back start es) e) →
      StartsAt shard list start (e ∷ es) view
  writer_joins view starts c =
      let s = step_commits shard list start st e es l (Join Writer 0 0) c in
      let kept = step_keeps shard list start st e es l (Join Writer 0 0) tt c in
      let same : joining_view (accepted shard list start es) s.from ≡ joining_view (accepted shard list start es) c.to =
      subst (λ (t : ShardState). joining_view (accepted shard list start es) s.from ≡ joining_view (accepted shard list start es) t) (sym s.applies.makes.effect)
      (ap (λ (readers : List ℕ). with_readers (joining_view (accepted shard list start es) s.from) readers)
      (sym (sinces_same s.from.members (joining s.from Writer 0 0) refl))) in
      inr (c.number + 1, c.to, s.now, starts_last view c.number s.from starts s.last ∙ same ∙ ap (λ (us : List Update). joining_view us c.to) (sym kept))
    where
      with_readers : View → List ℕ → View
      with_readers v readers = record { collection = v.collection; own = v.own; readers = readers }

  -- a reader that joins has it for its own
  pub reader_joins : (view : View) (now lease member : ℕ) → StartsAt shard list start es view →
      (c : CommitsStep shard (Join Reader now lease) e.call (reply (replay_back start es) e)) → c.to.next_member ≡ member + 1 →
      ViewAt shard list start (e ∷ es) member view
  reader_joins view now lease member starts c next =
      let s = step_commits shard list start st e es l (Join Reader now lease) c in
      let kept = step_keeps shard list start st e es l (Join Reader now lease) tt c in
      let effect = s.applies.makes.effect in
      let is = starts_last view c.number s.from starts s.last in
      let number : s.from.next_member + 1 ≡ c.to.next_member = ap (λ (t : ShardState). t.next_member) (sym effect) in
      let same : s.from.next_member ≡ member = omega arith in
      let new = joining s.from Reader now lease in
      let known = (state_rules shard ((replay_back start es).logs shard) c.number s.from s.last.1).known in
      record {
        number = c.number + 1;
        state = c.to;
        last = s.now;
        collection = ap (λ (v : View). v.collection) is
            ∙ subst (λ (t : ShardState). collection_in (accepted shard list start es) s.from ≡ collection_in (accepted shard list start es) t) (sym effect) refl
            ∙ ap (λ (us : List Update). collection_in us c.to) (sym kept);
        own = subst (λ (t : ShardState). Stands member (ReadsFrom view.own) t.members) (sym effect)
            (among_back (λ m. (m.number ≡ member) × ReadsFrom view.own m) s.from.members (new ∷ []) (inl (same, (refl, ap (λ (v : View). v.own) (sym is)))));
        others = ap (λ (t : ShardState). other_sinces member t.members) effect
            ∙ others_of_new member s.from.members new same (subst (λ (j : ℕ). AllByRecursion (λ m. m.number < j) s.from.members) same known)
            ∙ ap (λ (v : View). v.readers) (sym is);
      }

  -- an append that is accepted at its place extends the view's collection
  pub append_extends : (reader : ℕ) (view : View) (member token lower : ℕ) (upper : Option ℕ) (parts : List PartKey) (count weight : ℕ) (rows : List Update)
      (expected : ℕ) (new : Option ℕ) → ViewAt shard list start es reader view →
      CommitsStep shard (Append member token lower upper parts count weight) e.call (reply (replay_back start es) e) →
      AcceptedAt list start shard rows expected new (placed e es) →
      (append_answer view.collection expected (weight_of rows) ≡ append_accepted) ×
      ViewAt shard list start (e ∷ es) reader (record view { collection = extended view.collection rows new (weight_of rows) })
  append_extends reader view member token lower upper parts count weight rows expected new v c a =
      let s = step_commits shard list start st e es l (Append member token lower upper parts count weight) c in
      let effect = s.applies.makes.effect in
      let alike : Alike (λ (m : Member). record m { token = token }) = record { number = λ m. refl; kind = λ m. refl } in
      let (n, t, last, before_is) = a.before_is in
      let (n2, t2, last2, after_is) = a.after_is in
      let before : a.before ≡ view.collection = before_is ∙ sym (view_collection shard list start es reader view n t v last) in
      let from : v.state ≡ s.from = one_last shard (replay_back start es) v.number c.number v.state s.from v.last s.last in
      let to : t2 ≡ c.to = one_last shard (replay_back start (e ∷ es)) n2 (c.number + 1) t2 c.to last2 s.now in
      let own = subst (λ (w : ShardState). Stands reader (ReadsFrom view.own) w.members) from v.own in (
        ap (λ (w : Collection). append_answer w expected (weight_of rows)) (sym before) ∙ a.answer,
        record {
          number = c.number + 1;
          state = c.to;
          last = s.now;
          collection = ap (λ (w : Collection). extended w rows new (weight_of rows)) (sym before) ∙ sym a.effect ∙ after_is
              ∙ ap (collection_in (accepted shard list start (e ∷ es))) to;
          own = subst (λ (w : ShardState). Stands reader (ReadsFrom view.own) w.members) (sym effect)
              (stands_changed member reader (λ m. record m { token = token }) (ReadsFrom view.own) (ReadsFrom view.own) s.from.members alike
              (λ m p. p) (λ m is p. p) own);
          others = ap (λ (w : ShardState). other_sinces reader w.members) effect
              ∙ others_same member reader (λ m. record m { token = token }) alike (λ m. refl) s.from.members
              ∙ ap (λ (w : ShardState). other_sinces reader w.members) (sym from) ∙ v.others;
        },
      )

  -- a reader's advance isn't behind its since, and gives the view the new one
  pub advances : (reader to : ℕ) (view : View) → ViewAt shard list start es reader view →
      CommitsStep shard (Advance reader to) e.call (reply (replay_back start es) e) →
      (view.own ≤ to) × ViewAt shard list start (e ∷ es) reader (with_own view to)
  advances reader to view v c =
      let s = step_commits shard list start st e es l (Advance reader to) c in
      let kept = step_keeps shard list start st e es l (Advance reader to) tt c in
      let effect = s.applies.makes.effect in
      let f : Member → Member = λ m. record m { since = to } in
      let alike : Alike f = record { number = λ m. refl; kind = λ m. refl } in
      let (m, number, own_is, reads) =
      view_own shard list start es reader view c.number s.from (λ m. (is_reader m.kind ≡ true) × (m.since ≤ to)) v s.last s.applies.makes.stands in
      let from : v.state ≡ s.from = one_last shard (replay_back start es) v.number c.number v.state s.from v.last s.last in
      let own = subst (λ (w : ShardState). Stands reader (ReadsFrom view.own) w.members) from v.own in
      let standing : Stands reader (ReadsFrom to) c.to.members =
      subst (λ (w : ShardState). Stands reader (ReadsFrom to) w.members) (sym effect)
      (advanced reader to s.from.members own) in
      let others : other_sinces reader c.to.members ≡ view.readers =
      ap (λ (w : ShardState). other_sinces reader w.members) effect ∙ others_but reader f alike s.from.members
      ∙ ap (λ (w : ShardState). other_sinces reader w.members) (sym from) ∙ v.others in
      let least = least_with_own reader to c.to.members (rise_of c.to.members s.applies.rules.rising) standing in
      let since : c.to.since ≡ least_of to (other_sinces reader c.to.members) = subst (λ (o : Option ℕ). SinceIs o c.to.since) least s.applies.rules.since in
      let behind : view.own ≤ to = (let le : m.since ≤ to = reads.1 in let same : m.since ≡ view.own = own_is in omega arith) in (
        behind,
        record {
          number = c.number + 1;
          state = c.to;
          last = s.now;
          collection = with_since view.collection (accepted shard list start (e ∷ es)) c.to (least_of to view.readers)
              (ap (λ (w : Collection). w.updates) v.collection ∙ sym kept)
              (sym (since ∙ ap (least_of to) others))
              (ap (λ (w : Collection). w.upper) v.collection ∙ ap (λ (w : ShardState). w.upper) from ∙ ap (λ (w : ShardState). w.upper) (sym effect))
              (ap (λ (w : Collection). w.weight) v.collection ∙ ap (λ (w : ShardState). w.weight) from ∙ ap (λ (w : ShardState). w.weight) (sym effect));
          own = standing;
          others = others;
        },
      )
    where
      advanced : (reader to : ℕ) (ms : List Member) → Stands reader (ReadsFrom view.own) ms →
          Stands reader (ReadsFrom to) (changed reader (λ m. record m { since = to }) ms)
      advanced reader to [] h = h
      advanced reader to (m ∷ ms) (inl h) = rw (eq-eqb m.number reader h.0) (inl (h.0, (h.1.0, refl)))
      advanced reader to (m ∷ ms) (inr h) = inr (advanced reader to ms h)

  -- and so the view after a command of a new since
  pub advances_since : (reader to : ℕ) (view : View) → ViewAt shard list start es reader view →
      CommitsStep shard (Advance reader to) e.call (reply (replay_back start es) e) →
      (view.own ≤ to) × ViewAt shard list start (e ∷ es) reader (view_since view to)
  advances_since reader to view v c =
      let (behind, now) = advances reader to view v c in
      (behind, subst (λ (w : View). ViewAt shard list start (e ∷ es) reader w) (sym (taken behind)) now)
    where
      taken : view.own ≤ to → view_since view to ≡ with_own view to
      taken le = let test : nat_le view.own to ≡ true = grind (arith, nat_tests) in rw test refl

  -- ---- while a command goes on, where at most a first version is committed

  -- the view that a run starts from stays
  pub more_starts : (view : View) → StartsAt shard list start es view →
      CommitsNone (reply (replay_back start es) e) ⊎ CommitsFirst shard e.call (reply (replay_back start es) e) → StartsAt shard list start (e ∷ es) view
  more_starts view at (inl c) = none_starts shard list start es view e at c
  more_starts view at (inr c) = first_starts view at c

  -- where a reader stands nothing is committed
  pub more_quiet : (reader : ℕ) (view : View) → ViewAt shard list start es reader view →
      CommitsNone (reply (replay_back start es) e) ⊎ CommitsFirst shard e.call (reply (replay_back start es) e) → CommitsNone (reply (replay_back start es) e)
  more_quiet reader view v (inl c) = c
  more_quiet reader view v (inr c) = absurd (first_never shard list start st e es l v.number v.state v.last c)

  -- what is accepted stays
  pub more_keeps : CommitsNone (reply (replay_back start es) e) ⊎ CommitsFirst shard e.call (reply (replay_back start es) e) →
      accepted shard list start (e ∷ es) ≡ accepted shard list start es
  more_keeps (inl c) = none_keeps shard list start es e c
  more_keeps (inr c) = first_keeps shard list start st e es l c

  -- and so it does where a member left, or had gone before
  pub left_keeps : (member : ℕ) → CommitsStep shard (Leave member) e.call (reply (replay_back start es) e) ⊎ CommitsNone (reply (replay_back start es) e) →
      accepted shard list start (e ∷ es) ≡ accepted shard list start es
  left_keeps member (inl c) = leaves shard list start st e es l member c
  left_keeps member (inr c) = none_keeps shard list start es e c

-- an append that is the only one to commit, where the entries before it are quiet, is accepted at the newest entry; and its reply says that it committed
pub ok_at_head : (shard : ShardId) (list : List Update) (start : Stored) (client : ℕ) (since es : List Entry) (calls : ℕ) (e : Entry) (rows : List Update)
    (expected : ℕ) (new : Option ℕ) → QuietSince shard client start since es calls →
    e.client ≡ client → OnlyOne (Commits start shard) (AcceptedAt list start shard rows expected new) (places client (calls + 1) (e ∷ es)) →
    AcceptedAt list start shard rows expected new (placed e es) × (CommitsNone (reply (replay_back start es) e) → ⊥)
ok_at_head shard list start client since es calls e rows expected new q mine h =
    only_newest shard client start since es calls e (AcceptedAt list start shard rows expected new) q mine h

-- So an append that is answered Ok is one that the view's collection accepts, and extends it.
pub append_ok : (shard : ShardId) (list : List Update) (start : Stored) (client : ℕ) (since es : List Entry) (calls : ℕ) (e : Entry) →
    StandsFor start shard list → LawfulBack start (e ∷ es) →
    (reader : ℕ) (view : View) (member token lower : ℕ) (upper : Option ℕ) (parts : List PartKey) (count weight : ℕ) (rows : List Update) (expected : ℕ) (new : Option ℕ) →
    QuietSince shard client start since es calls → ViewAt shard list start since reader view → e.client ≡ client →
    CommitsStep shard (Append member token lower upper parts count weight) e.call (reply (replay_back start es) e) ⊎ CommitsNone (reply (replay_back start es) e) →
    OnlyOne (Commits start shard) (AcceptedAt list start shard rows expected new) (places client (calls + 1) (e ∷ es)) →
    (append_answer view.collection expected (weight_of rows) ≡ append_accepted) ×
    ViewAt shard list start (e ∷ es) reader (record view { collection = extended view.collection rows new (weight_of rows) })
append_ok shard list start client since es calls e st l reader view member token lower upper parts count weight rows expected new q v mine (inl c) only =
    append_extends shard list start st e es l reader view member token lower upper parts count weight rows expected new
    (quiet_view shard list start client since es calls reader view q v) c
    (ok_at_head shard list start client since es calls e rows expected new q mine only).0
append_ok shard list start client since es calls e st l reader view member token lower upper parts count weight rows expected new q v mine (inr c) only =
    absurd ((ok_at_head shard list start client since es calls e rows expected new q mine only).1 c)
