-- What a run sees of a state while keepers come, merge and go, and while a lease is renewed: nothing of it changes. Entries go
-- newest first.
use Rattle.std.specs.Prelude.{⊤}
use Rattle.std.proofs.Common.{◌≡◌, ◌≢◌, ℕ, ◌+◌, ◌<◌, ◌≤◌, max, true, false, Option, Some, None, List, [], ◌∷◌, ◌++◌, inl, inr, refl, arith, subst, sym, ap, ◌∙◌, eqb}
use Rattle.std.specs.List.{AllByRecursion}
use Rattle.std.proofs.lemmas.Bool.{eqb-true}
use Rattle.update_core.specs.declared.updates.Update.{Update}
use Rattle.spine_core.specs.declared.batches.Batch.{Batch}
use Rattle.store_core.specs.declared.shards.ShardId.{ShardId}
use Rattle.store_core.specs.declared.entries.Entry.{Entry}
use Rattle.store_core.specs.Stores.{Stored}
use Rattle.store_core.specs.Histories.{reply}
use Rattle.store_core.specs.Newest.{replay_back}
use Rattle.state_core.specs.declared.kinds.Kind.TheVariants.{Keeper, Reader}
use Rattle.state_core.specs.declared.members.Member.{Member}
use Rattle.state_core.specs.declared.transitions.Transition.{Transition}
use Rattle.state_core.specs.declared.transitions.Transition.TheVariants.{Join, Leave, Merge, Renew}
use Rattle.state_core.specs.States.{ShardState, SinceIs, greater_of, is_reader, least_since, or_least, raised}
use Rattle.state_core.specs.Steps.{Applies, Stands, changed, joining, without}
use Rattle.state_core.proofs.ListLemmas.{among_front, bool_cases}
use Rattle.state_core.proofs.Rules.{Rise, one_stands, rise_of}
use Rattle.history_core.specs.Discipline.{LawfulBack}
use Rattle.history_core.specs.Stands.{StandsFor, accepted}
use Rattle.history_core.specs.Laws.{LastIs}
use Rattle.history_core.specs.Legal.{collection_in}
use Rattle.history_core.proofs.StateFacts.{state_rules}
use Rattle.load_core.specs.Effects.{CommitsStep}
use Rattle.plain_run.specs.PlainRuns.{View}
use Rattle.plain_run.specs.Sessions.{ViewAt, other_sinces}
use Rattle.plain_run.proofs.Stepped.{AppendsNone, step_commits, step_keeps}
use Rattle.plain_run.proofs.Views.{Alike, ReadsFrom, one_last, others_same, stands_changed, view_collection}

-- ---- states

-- a state in which the run of a reader sees the same as in another
pub record SeesSame (reader : ℕ) (s t : ShardState) : Type 0 where
  pub since : t.since ≡ s.since
  pub upper : t.upper ≡ s.upper
  pub weight : t.weight ≡ s.weight
  pub own : (from : ℕ) → Stands reader (ReadsFrom from) s.members → Stands reader (ReadsFrom from) t.members
  pub others : other_sinces reader t.members ≡ other_sinces reader s.members

-- members that are changed but for their number, kind and since
change_same : (n reader : ℕ) (f : Member → Member) (s : ShardState) (t : ShardState) → Alike f → ((m : Member) → (f m).since ≡ m.since) →
    t.since ≡ s.since → t.upper ≡ s.upper → t.weight ≡ s.weight → t.members ≡ changed n f s.members → SeesSame reader s t
change_same n reader f s t a since since_is upper weight members = record {
  since = since_is;
  upper = upper;
  weight = weight;
  own = λ from h. subst (λ (ms : List Member). Stands reader (ReadsFrom from) ms) (sym members)
      (stands_changed n reader f (ReadsFrom from) (ReadsFrom from) s.members a (λ m p. p)
      (λ m is p. (a.kind m ∙ p.0, since m ∙ p.1)) h);
  others = ap (other_sinces reader) members ∙ others_same n reader f a since s.members;
}

-- a lease that begins again
pub renew_same : (reader member now : ℕ) (s t : ShardState) → Applies s (Renew member now) t → SeesSame reader s t
renew_same reader member now s t a =
    let effect = a.makes.effect in
    change_same member reader (λ m. record m { beat = max m.beat now; hold = s.number + 1 }) s t
    (record { number = λ m. refl; kind = λ m. refl }) (λ m. refl)
    (ap (λ (w : ShardState). w.since) effect) (ap (λ (w : ShardState). w.upper) effect) (ap (λ (w : ShardState). w.weight) effect)
    (ap (λ (w : ShardState). w.members) effect)

-- a merge
pub merge_same : (reader member token : ℕ) (left right merged : Batch) (s t : ShardState) →
    Applies s (Merge member token left right merged) t → SeesSame reader s t
merge_same reader member token left right merged s t a =
    let effect = a.makes.effect in
    change_same member reader (λ m. record m { token = token; hold = s.number + 1 }) s t
    (record { number = λ m. refl; kind = λ m. refl }) (λ m. refl)
    (ap (λ (w : ShardState). w.since) effect) (ap (λ (w : ShardState). w.upper) effect) (ap (λ (w : ShardState). w.weight) effect)
    (ap (λ (w : ShardState). w.members) effect)

-- one more member that doesn't read
others_with : (reader : ℕ) (ms : List Member) (m : Member) → is_reader m.kind ≡ false →
    other_sinces reader (ms ++ m ∷ []) ≡ other_sinces reader ms
others_with reader [] m r = rw r refl
others_with reader (x ∷ ms) m r = rw (others_with reader ms m r) refl

-- a keeper that joins
pub join_same : (reader now lease : ℕ) (s t : ShardState) → Applies s (Join Keeper now lease) t → SeesSame reader s t
join_same reader now lease s t a =
    let effect = a.makes.effect in
    let members : t.members ≡ s.members ++ joining s Keeper now lease ∷ [] = ap (λ (w : ShardState). w.members) effect in
    record {
      since = ap (λ (w : ShardState). w.since) effect;
      upper = ap (λ (w : ShardState). w.upper) effect;
      weight = ap (λ (w : ShardState). w.weight) effect;
      own = λ from h. subst (λ (ms : List Member). Stands reader (ReadsFrom from) ms) (sym members)
          (among_front (λ m. (m.number ≡ reader) × ReadsFrom from m) s.members (joining s Keeper now lease ∷ []) h);
      others = ap (other_sinces reader) members ∙ others_with reader s.members (joining s Keeper now lease) refl;
    }

-- ---- a keeper that leaves

-- each member of this number keeps
abbrev AreKeepers : ℕ → List Member → Type 0
AreKeepers n ms = AllByRecursion (λ m. m.number ≡ n → m.kind ≡ Keeper) ms

keeper_reads : (m : Member) → m.kind ≡ Keeper → is_reader m.kind ≡ false
keeper_reads m is = ap is_reader is

own_without : (n reader from : ℕ) (ms : List Member) → AreKeepers n ms → Stands reader (ReadsFrom from) ms →
    Stands reader (ReadsFrom from) (without n ms)
own_without n reader from [] k h = h
own_without n reader from (m ∷ ms) k (inl h) = elim (bool_cases (eqb m.number n)) [
  | inl e ↦ absurd (let bad : is_reader m.kind ≡ false = keeper_reads m (k.0 (eqb-true m.number n e)) in
      let good : is_reader m.kind ≡ true = ap is_reader h.1.0 in cc)
  | inr e ↦ rw e (inl h)
]
own_without n reader from (m ∷ ms) k (inr h) = elim (bool_cases (eqb m.number n)) [
  | inl e ↦ rw e (own_without n reader from ms k.1 h)
  | inr e ↦ rw e (inr (own_without n reader from ms k.1 h))
]

others_without : (n reader : ℕ) (ms : List Member) → AreKeepers n ms → other_sinces reader (without n ms) ≡ other_sinces reader ms
others_without n reader [] k = refl
others_without n reader (m ∷ ms) k = elim (bool_cases (eqb m.number n)) [
  | inl e ↦ rw (e, keeper_reads m (k.0 (eqb-true m.number n e))) (others_without n reader ms k.1)
  | inr e ↦ rw (e, others_without n reader ms k.1) refl
]

least_without : (n : ℕ) (ms : List Member) → AreKeepers n ms → least_since (without n ms) ≡ least_since ms
least_without n [] k = refl
least_without n (m ∷ ms) k = elim (bool_cases (eqb m.number n)) [
  | inl e ↦ rw (e, keeper_reads m (k.0 (eqb-true m.number n e))) (least_without n ms k.1)
  | inr e ↦ rw (e, least_without n ms k.1) refl
]

raised_same : (o : Option ℕ) (since : ℕ) → SinceIs o since → greater_of since o ≡ since
raised_same None since is = refl
raised_same (Some n) since is = let same : since ≡ n = is in (let a : max since n ≡ since = omega arith in a)

pub leave_same : (reader member : ℕ) (s t : ShardState) → Rise s.members → SinceIs (least_since s.members) s.since →
    Stands member (λ m. m.kind ≡ Keeper) s.members → Applies s (Leave member) t → SeesSame reader s t
leave_same reader member s t rise since keeper a =
    let effect = a.makes.effect in
    let keepers : AreKeepers member s.members = one_stands member (λ m. m.kind ≡ Keeper) s.members rise keeper in
    let members : t.members ≡ without member s.members = ap (λ (w : ShardState). w.members) effect in
    let least : least_since (without member s.members) ≡ least_since s.members = least_without member s.members keepers in
    record {
      since = ap (λ (w : ShardState). w.since) effect ∙ ap (greater_of s.since) least
          ∙ raised_same (least_since s.members) s.since since;
      upper = ap (λ (w : ShardState). w.upper) effect;
      weight = ap (λ (w : ShardState). w.weight) effect;
      own = λ from h. subst (λ (ms : List Member). Stands reader (ReadsFrom from) ms) (sym members)
          (own_without member reader from s.members keepers h);
      others = ap (other_sinces reader) members ∙ others_without member reader s.members keepers;
    }

-- ---- views

same_collection : (us us2 : List Update) (s t : ShardState) → us2 ≡ us → t.since ≡ s.since → t.upper ≡ s.upper → t.weight ≡ s.weight →
    collection_in us s ≡ collection_in us2 t
same_collection us us2 s t a b c d = λ i. record { updates = sym a i; since = sym b i; upper = sym c i; weight = sym d i }

module _ (shard : ShardId) (list : List Update) (start : Stored) (st : StandsFor start shard list) (e : Entry) (es : List Entry)
    (l : LawfulBack start (e ∷ es)) where
  -- a version in which the run sees the same leaves its view
  pub steps_see : (reader : ℕ) (view : View) (step : Transition) → AppendsNone step → ViewAt shard list start es reader view →
      (c : CommitsStep shard step e.call (reply (replay_back start es) e)) →
      ((number : ℕ) (from : ShardState) → LastIs (replay_back start es) shard number from → Applies from step c.to → SeesSame reader from c.to) →
      ViewAt shard list start (e ∷ es) reader view
  steps_see reader view step none v c same =
      let s = step_commits shard list start st e es l step c in
      let kept = step_keeps shard list start st e es l step none c in
      let k = same c.number s.from s.last s.applies in
      let from : v.state ≡ s.from = one_last shard (replay_back start es) v.number c.number v.state s.from v.last s.last in
      record {
        number = c.number + 1;
        state = c.to;
        last = s.now;
        collection = view_collection shard list start es reader view c.number s.from v s.last
            ∙ same_collection (accepted shard list start es) (accepted shard list start (e ∷ es)) s.from c.to kept k.since k.upper k.weight;
        own = k.own view.own (subst (λ (w : ShardState). Stands reader (ReadsFrom view.own) w.members) from v.own);
        others = k.others ∙ ap (λ (w : ShardState). other_sinces reader w.members) (sym from) ∙ v.others;
      }

  pub renewed_view : (reader member now : ℕ) (view : View) → ViewAt shard list start es reader view →
      CommitsStep shard (Renew member now) e.call (reply (replay_back start es) e) → ViewAt shard list start (e ∷ es) reader view
  renewed_view reader member now view v c =
      steps_see reader view (Renew member now) tt v c (λ n from last a. renew_same reader member now from c.to a)

  pub joined_view : (reader now lease : ℕ) (view : View) → ViewAt shard list start es reader view →
      CommitsStep shard (Join Keeper now lease) e.call (reply (replay_back start es) e) → ViewAt shard list start (e ∷ es) reader view
  joined_view reader now lease view v c =
      steps_see reader view (Join Keeper now lease) tt v c (λ n from last a. join_same reader now lease from c.to a)

  pub merged_view : (reader member token : ℕ) (left right merged : Batch) (view : View) → ViewAt shard list start es reader view →
      CommitsStep shard (Merge member token left right merged) e.call (reply (replay_back start es) e) →
      ViewAt shard list start (e ∷ es) reader view
  merged_view reader member token left right merged view v c =
      steps_see reader view (Merge member token left right merged) tt v c
      (λ n from last a. merge_same reader member token left right merged from c.to a)

  -- the leave of a keeper that stands
  pub left_view : (reader member : ℕ) (view : View) → ViewAt shard list start es reader view →
      ((number : ℕ) (from : ShardState) → LastIs (replay_back start es) shard number from →
      Stands member (λ m. m.kind ≡ Keeper) from.members) →
      CommitsStep shard (Leave member) e.call (reply (replay_back start es) e) → ViewAt shard list start (e ∷ es) reader view
  left_view reader member view v keeper c =
      steps_see reader view (Leave member) tt v c
      (λ n from last a.
      let rules = state_rules shard ((replay_back start es).logs shard) n from last.1 in
      leave_same reader member from c.to (rise_of from.members rules.rising) rules.since (keeper n from last) a)
