-- What the next call of a worker's compactor carries. Entries go newest first.
use Rattle.std.proofs.Common.{◌≡◌, ℕ, ◌+◌, true, false, Option, Some, None, List, inl, inr, refl, sym, ap, subst, ◌∙◌}
use Rattle.std.specs.Prelude.{IfSome, IsSome}
use Rattle.store_core.specs.declared.shards.ShardId.{ShardId}
use Rattle.store_core.specs.declared.calls.Call.{Call}
use Rattle.store_core.specs.declared.calls.Call.TheVariants as calls
use Rattle.store_core.specs.declared.entries.Entry.{Entry}
use Rattle.store_core.specs.Stores.{Stored}
use Rattle.store_core.specs.Ports.{Answered}
use Rattle.store_core.specs.Newest.{mine_back}
use Rattle.state_core.specs.declared.kinds.Kind.TheVariants.{Keeper}
use Rattle.state_core.specs.declared.transitions.Transition.{Transition}
use Rattle.state_core.specs.States.{ShardState}
use Rattle.version_codec.specs.Reading.{version_in}
use Rattle.state_core.proofs.ListLemmas.{bool_cases}
use Rattle.history_core.specs.declared.asked.Asked.{Asked}
use Rattle.history_core.specs.Members.{JoinedAs}
use Rattle.load_core.specs.declared.attempts.Attempt.TheVariants as attempts
use Rattle.load_core.specs.declared.nexts.Next.{Next}
use Rattle.load_core.specs.declared.nexts.Next.TheVariants as nexts
use Rattle.load_core.specs.declared.readies.Ready.{Ready}
use Rattle.load_core.specs.declared.tryings.Trying.{Trying}
use Rattle.load_core.specs.Attempts.{IsReady}
use Rattle.load_core.specs.Following.{FollowsTrying}
use Rattle.load_core.specs.Runs.{OnlyCarries}
use Rattle.load_core.specs.Trying as trying
use Rattle.load_core.proofs.Following.{shown_as, shown_shard}
use Rattle.load_core.proofs.SettingFollows.{next_is}
use Rattle.load_core.proofs.TryFacts.{tried_carries}
use Rattle.read_machine.proofs.Replied.{of_reads, reads_of}
use Rattle.token_machine.specs.declared.storings.Storing.{Storing}
use Rattle.token_machine.specs.Following.{Draws}
use Rattle.token_machine.specs.Storings as storings
use Rattle.token_machine.specs.Storings.{resumed, sets}
use Rattle.token_machine.proofs.Ways.{call_false, call_true}
use Rattle.merge_client.specs.declared.compactors.Compactor.{Compactor}
use Rattle.merge_client.specs.declared.dues.Due.{Due}
use Rattle.merge_client.specs.Finding.{finding}
use Rattle.merge_client.specs.Following.{Follows, FollowsAll}
use Rattle.merge_client.specs.Machining.{Kept, kept}
use Rattle.merge_client.specs.Merging.{IsOpen, IsSound, Prepares, call_by, call_of, shard_of}
use Rattle.merge_client.proofs.Going.{Asks, asks_of, closes, merges, opens, renews, step_of}
use Rattle.merge_client.proofs.Machining.{keeps}
use Rattle.merge_client.proofs.Preparing.{How, drafts, how, reads, tries}
use Rattle.crew_core.specs.Working.{CarriesWorkers, IsWorkersStep, as_compactor}
use Rattle.crew.specs.Ends.{AsksToMerge}

-- ---- a call that was prepared carries what is tried

try_carries : (t new : Trying) (own : List Answered) → trying.IsSound t → FollowsTrying new own → trying.Prepares t new →
    OnlyCarries new.loader.shard new.step (trying.call_of new)
try_carries t new own sound f p = by t.next refl p
  where
    Carries : Trying → Type 0
    Carries z = OnlyCarries z.loader.shard z.step (trying.call_of z)

    ready_carries : (r : Ready) (s : ShardState) → new.loader.cached ≡ Some s → IsReady s new.step r →
        OnlyCarries new.loader.shard new.step (calls.Cas new.loader.shard r.expected r.bytes)
    ready_carries r s cached ready =
        let shown = shown_as own new.loader.shard new.loader.cached s cached f.shown in
        let written = subst (λ (d : ShardId). version_in d (s.number + 1) r.bytes ≡ Some (r.after, new.step))
        (shown_shard own new.loader.shard s shown) ready.written in
        subst (λ (n : Option ℕ). OnlyCarries new.loader.shard new.step (calls.Cas new.loader.shard n r.bytes)) (sym ready.expected_is)
        (refl, (r.after, written))

    on : (o : Option ShardState) → t.loader.cached ≡ o → trying.PreparesOn o t new → Carries new
    on None is e = subst Carries (sym e) tt
    on (Some s) is (attempts.Refused refusal, a, e) = subst Carries (sym e) tt
    on (Some s) is (attempts.Spent, a, e) = subst Carries (sym e) tt
    on (Some s) is (attempts.Ready r, a, e) =
        let cached : new.loader.cached ≡ Some s = ap (λ (z : Trying). z.loader.cached) e ∙ is in
        let step : new.step ≡ t.step = ap (λ (z : Trying). z.step) e in
        let next : new.next ≡ nexts.Cas r = ap (λ (z : Trying). z.next) e in
        subst (OnlyCarries new.loader.shard new.step) (sym (ap (trying.call_by new.loader) next))
        (ready_carries r s cached (subst (λ (x : Transition). IsReady s x r) (sym step) a))

    still : new ≡ t → Carries new
    still e = subst Carries (sym e) (tried_carries t sound)

    by : (n : Next) → t.next ≡ n → trying.PreparesBy n t new → Carries new
    by nexts.Attempt is e = on t.loader.cached refl e
    by nexts.Scan is e = still e
    by (nexts.Cas r) is e = still e

storing_carries : (s new : Storing) (own : List Answered) (call : Call) → trying.IsSound s.trying → FollowsTrying new.trying own →
    storings.Prepares s new → storings.call_of new ≡ Some call → OnlyCarries new.trying.loader.shard new.trying.step call
storing_carries s new own call sound f (t, p, now) e = elim (bool_cases (sets new)) [
  | inl h ↦ let n = next_is new.setting call (call_true new call h e) in subst (OnlyCarries new.trying.loader.shard new.trying.step)
      (sym n.call_is) tt
  | inr h ↦ subst (OnlyCarries new.trying.loader.shard new.trying.step) (sym (call_false new call h e))
      (try_carries s.trying new.trying own sound f
      (subst (trying.Prepares s.trying) (sym (ap (λ (z : Storing). z.trying) now)) p))
]

-- ---- a compactor of a crew

-- a call that carries what a worker may commit
carried : (own : List Answered) (d : ShardId) (x : Transition) (call : Call) → OnlyCarries d x call →
    IsWorkersStep as_compactor d own x → CarriesWorkers as_compactor d own call
carried own d x (calls.Cas at_shard (Some n) bytes) c step = (c.0, (c.1.0, x, c.1.1, step))
carried own d x (calls.Cas at_shard None bytes) c step = tt
carried own d x (calls.Head shard) c step = tt
carried own d x (calls.Scan shard from) c step = tt
carried own d x (calls.Truncate shard below) c step = tt
carried own d x (calls.Get key) c step = tt
carried own d x (calls.Set key bytes) c step = tt
carried own d x (calls.Delete key) c step = tt

module _ (client : ℕ) (c ready : Compactor) (sound : IsSound c) (opened : IsOpen c) (asked : IfSome c.asked AsksToMerge)
    (prepares : Prepares c ready) (call : Call) (call_is : call_of ready ≡ Some call) (start : Stored) (es : List Entry)
    (f : FollowsAll client c start es) where
  abbrev own : List Answered
  own = mine_back start es client

  f_all : FollowsAll client ready start es
  f_all = keeps.prepared_follows client c ready start es prepares f

  f2 : Follows client ready start es
  f2 = f_all.follows

  same : kept ready ≡ kept c
  same = keeps.prepared_kept c ready prepares

  asked_same : ready.asked ≡ c.asked
  asked_same = ap (λ (k : Kept). k.asked) same

  joined : (m : ℕ) → ready.member ≡ Some m → JoinedAs Keeper own (shard_of ready) m
  joined m named =
      let draws : Draws Keeper (shard_of ready) m ready.token own =
      subst (λ (o : Option ℕ). IfSome o (λ n. Draws Keeper (shard_of ready) n ready.token own)) named f2.member in draws.joined

  by_asks : (a : Asked) → AsksToMerge a → Asks client ready start es a →
      IsWorkersStep as_compactor (shard_of ready) own ready.storing.trying.step
  by_asks a may (opens shard at lease q here t) = inl (at, lease, t.step)
  by_asks a may (renews at m q named t) = absurd (subst AsksToMerge q may)
  by_asks a may (closes m q named t) = inr (inl (m, t.step, joined m named))
  by_asks a may (merges m q named pos h) =
      let step = step_of client ready start es m named h in
      inr (inr (record {
        member = m;
        token = ready.token;
        left = h.of_pair.left;
        right = h.of_pair.right;
        merged = step.0;
        step_is = step.1;
        joined = joined m named;
      }))

  -- what is tried
  tried : (from s : Storing) → trying.IsSound from.trying → storings.Prepares from s → ready ≡ record c { storing = s; pair = None } →
      c.reading.asked ≡ None → CarriesWorkers as_compactor (shard_of ready) own call
  tried from s from_sound prepared now none = by c.asked refl opened asked
    where
      idle : ready.reading.asked ≡ None
      idle = ap (λ (z : Compactor). z.reading.asked) now ∙ none

      called : storings.call_of ready.storing ≡ Some call
      called = subst (λ (o : Option Due). call_by ready o ≡ Some call) idle call_is

      only : OnlyCarries (shard_of ready) ready.storing.trying.step call
      only = storing_carries from ready.storing own call from_sound f2.trying
          (subst (storings.Prepares from) (sym (ap (λ (z : Compactor). z.storing) now)) prepared) called

      by : (o : Option Asked) → c.asked ≡ o → IsSome o → IfSome o AsksToMerge → CarriesWorkers as_compactor (shard_of ready) own call
      by None is o m = absurd (let bad : false ≡ true = o in cc)
      by (Some a) is o m = carried own (shard_of ready) ready.storing.trying.step call only
          (by_asks a m (asks_of client ready start es a (asked_same ∙ is) idle (ap (λ (z : Compactor). z.pair) now) f2))

  -- what reads
  read : (q : Due) → c.reading.asked ≡ Some q → ready ≡ c → CarriesWorkers as_compactor (shard_of ready) own call
  read q some now =
      let busy : ready.reading.asked ≡ Some q = ap (λ (z : Compactor). z.reading.asked) now ∙ some in
      of_reads (CarriesWorkers as_compactor (shard_of ready) own) ready.reading.course.loader.shard call (λ from. tt) (λ key. tt)
      (reads_of finding ready.reading.course call (subst (λ (o : Option Due). call_by ready o ≡ Some call) busy call_is))

  pub carries_of : CarriesWorkers as_compactor (shard_of c) own call
  carries_of = subst (λ (d : ShardId). CarriesWorkers as_compactor d own call) (ap (λ (k : Kept). k.shard) same) (by (how c ready prepares))
    where
      by : How c ready → CarriesWorkers as_compactor (shard_of ready) own call
      by (reads q some now) = read q some now
      by (tries s none undrafted p now) = tried c.storing s sound.storing.trying p now none
      by (drafts p d s none got draft q now) = tried (resumed c.storing d.step d.setting) s tt q now none
