-- What a poll of a worker's writer adds to its front.
use Rattle.std.proofs.Common.{◌≡◌, ℕ, ◌+◌, ◌<◌, ◌≤◌, ◌^◌, min, false, Option, Some, None, List, [], ◌∷◌}
use Rattle.std.proofs.Common.{length, inl, inr, refl, sym, ap}
use Rattle.std.proofs.Common.{subst, ◌∙◌, arith}
use Rattle.std.specs.Prelude.{IfSome}
use Rattle.update_core.specs.declared.updates.Update.{Update}
use Rattle.update_core.specs.declared.appends.FeedAppend.{FeedAppend}
use Rattle.update_core.specs.Updates.{cons, weight_of}
use Rattle.store_core.specs.declared.shards.ShardId.{ShardId}
use Rattle.store_core.specs.declared.part_keys.PartKey.{PartKey}
use Rattle.store_core.specs.declared.calls.Call.{Call}
use Rattle.store_core.specs.declared.calls.Call.TheVariants as calls
use Rattle.store_core.specs.declared.replies.Reply.{Reply}
use Rattle.store_core.specs.declared.entries.Entry.{Entry}
use Rattle.store_core.specs.Histories.{History}
use Rattle.store_core.specs.Stores.{Stored}
use Rattle.store_core.specs.Ports.{Answered}
use Rattle.store_core.specs.Newest.{mine_back}
use Rattle.state_core.proofs.ListLemmas.{bool_cases}
use Rattle.state_core.specs.declared.kinds.Kind.TheVariants.{Writer as AsWriter}
use Rattle.state_core.specs.declared.transitions.Transition.TheVariants.{Append}
use Rattle.state_core.specs.Lists.{Among}
use Rattle.history_core.specs.declared.asked.Asked.{Asked}
use Rattle.history_core.specs.declared.asked.Asked.TheVariants as asks
use Rattle.history_core.specs.declared.write_answers.WriteAnswer.{WriteAnswer}
use Rattle.history_core.specs.Discipline.{Hold, StoredAs}
use Rattle.history_core.specs.Members.{JoinedAs}
use Rattle.load_core.specs.declared.nexts.Next.{Next}
use Rattle.load_core.specs.declared.nexts.Next.TheVariants as nexts
use Rattle.load_core.specs.declared.polls.Poll.{Poll}
use Rattle.load_core.specs.declared.polls.Poll.TheVariants as polls
use Rattle.load_core.specs.Loading.{scan_from}
use Rattle.load_core.specs.Runs.{OnlyCarries}
use Rattle.load_core.specs.Setting as setting
use Rattle.load_core.specs.Trying as trying
use Rattle.load_core.proofs.SettingFollows.{all_hold, next_is}
use Rattle.machine_core.specs.Polling.{FollowsWhere, LegalWhere, Polled, Unpolled}
use Rattle.update_core.specs.Limits.{most}
use Rattle.token_machine.specs.declared.storings.Storing.{Storing}
use Rattle.token_machine.specs.Storings.{sets, sets_before}
use Rattle.token_machine.proofs.Ways.{call_false, call_true, sets_done}
use Rattle.write_client.specs.declared.writers.Writer.{Writer}
use Rattle.write_client.specs.Drafting.{HasUpdates, counted_weight}
use Rattle.write_client.specs.Following.{Follows, FollowsMember}
use Rattle.write_client.specs.Machining.{kept, machine}
use Rattle.write_client.specs.Writing.{IsAppend, IsOpen, IsSound, Prepares, call_of, shard_of}
use Rattle.write_client.proofs.Asking.{Asks, append_facts, appends as append_asked, closes, open_asks, opens}
use Rattle.appends_core.specs.Feeds.{IsFeed, weight_of_all}
use Rattle.crew_core.specs.KeepingOn.{KeepsOn}
use Rattle.crew_core.specs.Working.{CarriesWorkers, IsOneOf, IsWorkersEntry, IsWorkersStep, as_writer}
use Rattle.crew.specs.declared.ends.WorkerTurn.{WorkerTurn}
use Rattle.crew.specs.declared.ends.WorkerTurn.TheVariants as turns
use Rattle.crew.specs.declared.ends.WorkerEnd.TheVariants as ends
use Rattle.crew.specs.declared.writing.WriterWorker.{WriterWorker}
use Rattle.crew.specs.Ends.{AsksAt, WriterMeans}
use Rattle.crew.specs.Turns.{IsFaulted, IsMarked, ReadyAgain, TurnMeans, Turned}
use Rattle.crew.specs.Writing.{Comes, IsReady, IsTold}
use Rattle.crew.proofs.Endings.{told_of, with_writer}
use Rattle.crew.proofs.Among.{among_at}
use Rattle.crew.proofs.RoleKeeping as roles

-- ---- an append of a feed is no heavier than a shard can be

weight_among : (a : FeedAppend) (xs : List FeedAppend) → Among (λ x. x ≡ a) xs → weight_of a.rows ≤ weight_of_all xs
weight_among a [] h = absurd h
weight_among a (x ∷ xs) (inl h) =
    let e : weight_of x.rows ≡ weight_of a.rows = ap (λ (y : FeedAppend). weight_of y.rows) h in omega arith
weight_among a (x ∷ xs) (inr h) = let k = weight_among a xs h in omega arith

counted : (n : ℕ) → n ≤ 2 ^ 62 → min n (2 ^ 62 + 1) ≡ n
counted n h = omega arith

updates_are : (rows updates : List Update) → weight_of rows ≤ 2 ^ 62 → HasUpdates rows updates → updates ≡ cons rows
updates_are rows updates light (inl h) = h.1
updates_are rows updates light (inr h) = absurd (let k = h.0 in omega arith)

-- ---- what the next call carries

module _ (appends : List FeedAppend) (place : ℕ) (feed : IsFeed appends) (client : ℕ) (w : Writer) (sound : IsSound w)
    (opened : IsOpen w) (asked : IfSome w.asked (AsksAt appends place)) (start : Stored) (es : List Entry)
    (f : Follows client w start es) where
  abbrev own : List Answered
  own = mine_back start es client

  -- an append whose parts are all set
  append_step : (rows : List Update) (expected : ℕ) (new : Option ℕ) → w.asked ≡ Some (asks.Append rows expected new) →
      setting.IsDone w.storing.setting → IsAppend w rows expected new → AsksAt appends place (asks.Append rows expected new) →
      IsOneOf appends own w.storing.trying.step
  append_step rows expected new e done a (b, at, rows_are, expected_is, new_is) =
      let d = a.draft in
      let among : Among (λ x. x ≡ b) appends = among_at appends place b at.within at.there in
      let heavy : weight_of rows ≡ weight_of b.rows = ap weight_of rows_are in
      let bound = weight_among b appends among in
      let all = feed.light in
      let light : weight_of rows ≤ 2 ^ 62 = omega arith in
      let stored = (append_facts client w start es rows expected new a.member e a.member_is f).stored in
      let held = all_hold own w.storing.setting d.updates stored sound.storing.setting done d.bytes d.spell in
      let keys = w.storing.setting.keys in
      let step_is : w.storing.trying.step ≡ Append a.member w.token b.lower b.upper keys (length d.updates) (weight_of b.rows) =
      d.step_is
      ∙ ap (λ (n : ℕ). Append a.member w.token n new keys (length d.updates) (counted_weight rows)) expected_is
      ∙ ap (λ (n : Option ℕ). Append a.member w.token b.lower n keys (length d.updates) (counted_weight rows)) new_is
      ∙ ap (λ (n : ℕ). Append a.member w.token b.lower b.upper keys (length d.updates) n) (counted (weight_of rows) light ∙ heavy) in
      record {
        append = b;
        among = among;
        member = a.member;
        token = w.token;
        parts = keys;
        count = length d.updates;
        step_is = step_is;
        holds = subst (Hold (StoredAs own) keys) (updates_are rows d.updates light d.updates_are ∙ ap cons rows_are) held;
      }

  joined : (m : ℕ) → w.member ≡ Some m → JoinedAs AsWriter own (shard_of w) m
  joined m named =
      let member : FollowsMember w own m = subst (λ (q : Option ℕ). IfSome q (FollowsMember w own)) named f.member in member.draws.joined

  -- what a Cas carries, once all parts are set
  step_is_workers : setting.IsDone w.storing.setting → IsWorkersStep (as_writer appends) (shard_of w) own w.storing.trying.step
  step_is_workers done =
      let (a, is, k) = open_asks w sound opened in
      by a is k (subst (λ (o : Option Asked). IfSome o (AsksAt appends place)) is asked)
    where
      by : (a : Asked) → w.asked ≡ Some a → Asks w a → AsksAt appends place a →
          IsWorkersStep (as_writer appends) (shard_of w) own w.storing.trying.step
      by a is (opens shard q of step none) at = inl step
      by a is (append_asked rows expected new q k) at =
          inr (inr (append_step rows expected new (is ∙ ap (λ (z : Asked). Some z) q) done k (subst (AsksAt appends place) q at)))
      by a is (closes m q named step none) at = inr (inl (m, step, joined m named))

  no_scan : (d : ShardId) (from : ℕ) (c : Call) (at_shard : ShardId) (n : Option ℕ) (bytes : List ℕ) → c ≡ calls.Scan d from →
      c ≡ calls.Cas at_shard n bytes → ⊥
  no_scan d from c at_shard n bytes e g = cc

  no_set : (c : Call) (at_shard : ShardId) (n : Option ℕ) (bytes : List ℕ) → c ≡ calls.Cas at_shard n bytes →
      (k : PartKey) (b : List ℕ) → c ≡ calls.Set k b → ⊥
  no_set c at_shard n bytes g k b e = cc

  -- before a Cas all parts are set
  all_set : (ready : Writer) → ready.storing.setting ≡ w.storing.setting → (at_shard : ShardId) (n : Option ℕ) (bytes : List ℕ) →
      call_of ready ≡ Some (calls.Cas at_shard n bytes) → setting.IsDone w.storing.setting
  all_set ready same at_shard n bytes e = elim (bool_cases (sets ready.storing)) [
    | inl h ↦
        let k = next_is ready.storing.setting call (call_true ready.storing call h e) in
        absurd (no_set call at_shard n bytes refl k.key k.bytes k.call_is)
    | inr h ↦ subst setting.IsDone same (go ready.storing.trying.next refl (call_false ready.storing call h e) h)
  ]
    where
      call : Call
      call = calls.Cas at_shard n bytes

      go : (next : Next) → ready.storing.trying.next ≡ next → call ≡ trying.call_of ready.storing.trying →
          sets ready.storing ≡ false → setting.IsDone ready.storing.setting
      go nexts.Attempt at is h =
          let l = ready.storing.trying.loader in
          let scan : trying.call_of ready.storing.trying ≡ calls.Scan l.shard (scan_from l.cached) = ap (trying.call_by l) at in
          absurd (no_scan l.shard (scan_from l.cached) call at_shard n bytes (is ∙ scan) refl)
      go nexts.Scan at is h =
          let l = ready.storing.trying.loader in
          let scan : trying.call_of ready.storing.trying ≡ calls.Scan l.shard (scan_from l.cached) = ap (trying.call_by l) at in
          absurd (no_scan l.shard (scan_from l.cached) call at_shard n bytes (is ∙ scan) refl)
      go (nexts.Cas r) at is h =
          sets_done r ready.storing.setting (subst (λ (q : Next). sets_before q ready.storing.setting ≡ false) at h)
          (subst setting.IsSound (sym same) sound.storing.setting)

  carries_of : (ready : Writer) → ready.storing.setting ≡ w.storing.setting → (call : Call) → call_of ready ≡ Some call →
      OnlyCarries (shard_of w) w.storing.trying.step call → CarriesWorkers (as_writer appends) (shard_of w) own call
  carries_of ready same (calls.Cas at_shard (Some n) bytes) e c =
      (c.0, (c.1.0, w.storing.trying.step, c.1.1, step_is_workers (all_set ready same at_shard (Some n) bytes e)))
  carries_of ready same (calls.Cas at_shard None bytes) e c = tt
  carries_of ready same (calls.Head d) e c = tt
  carries_of ready same (calls.Scan d from) e c = tt
  carries_of ready same (calls.Truncate d below) e c = tt
  carries_of ready same (calls.Get key) e c = tt
  carries_of ready same (calls.Set key bytes) e c = tt
  carries_of ready same (calls.Delete key) e c = tt

-- ---- a poll

prepared_setting : (w ready : Writer) → Prepares w ready → ready.storing.setting ≡ w.storing.setting
prepared_setting w ready (s, (t, p, q), e) =
    ap (λ (v : Writer). v.storing.setting) e ∙ ap (λ (z : Storing). z.setting) q

-- what a poll of the worker's writer calls
pub carry : (appends : List FeedAppend) (place : ℕ) (shard : ShardId) (feed : IsFeed appends) (client : ℕ) (w : Writer)
    (of_shard : shard_of w ≡ shard) (sound : IsSound w) (opened : IsOpen w) (asked : IfSome w.asked (AsksAt appends place)) →
    (ready : Writer) → Prepares w ready → (call : Call) → call_of ready ≡ Some call → (reply : Reply) (poll : Poll WriteAnswer) →
    machine.Effect (kept w) call reply poll → (start : Stored) (es : List Entry) → Follows client w start es →
    CarriesWorkers (as_writer appends) shard (mine_back start es client) call
carry appends place shard feed client w of_shard sound opened asked ready prepares call is reply poll did start es f =
    subst (λ (d : ShardId). CarriesWorkers (as_writer appends) d (mine_back start es client) call) of_shard
    (carries_of appends place feed client w sound opened asked start es f ready (prepared_setting w ready prepares) call is did.carries)

-- ---- a turn

-- what a turn comes to says what its end means
pub comes_means : (appends : List FeedAppend) (shard : ShardId) (client : ℕ) (front : Option History) (w : WriterWorker)
    (turn : WorkerTurn) → w.appends.now ≡ appends → w.shard ≡ shard → Comes client front w turn → TurnMeans (as_writer appends) shard client front turn
comes_means appends d client front w turns.Again same_appends same_shard k = tt
comes_means appends d client front w (turns.End end) same_appends same_shard k =
    subst (λ (s : ShardId). WriterMeans appends s client front end) same_shard
    (subst (λ (xs : List FeedAppend). WriterMeans xs w.shard client front end) same_appends k)

pub comes_ready : (client : ℕ) (front : Option History) (w : WriterWorker) (turn : WorkerTurn) → Comes client front w turn →
    ReadyAgain (IsReady client front w) turn
comes_ready client front w turns.Again k = k
comes_ready client front w (turns.End end) k = tt

module _ (client : ℕ) (front now : Option History) (w : WriterWorker) (feed : IsFeed w.appends.now) (ready : IsReady client front w)
    (misses misses_now : ℕ) where
  abbrev Carry : Type 0
  Carry = (r : Writer) → Prepares w.writer r → (call : Call) → call_of r ≡ Some call → (reply : Reply) (poll : Poll WriteAnswer) →
      machine.Effect (kept w.writer) call reply poll → (start : Stored) (es : List Entry) → Follows client w.writer start es →
      CarriesWorkers (as_writer w.appends.now) w.shard (mine_back start es client) call

  carries : Carry
  carries = carry w.appends.now w.place w.shard feed client w.writer ready.of_shard ready.sound ready.opened ready.asked

  pub worker_keeps : (new : Writer) (poll : Poll WriteAnswer) → Polled machine client front now w.writer new poll →
      KeepsOn (IsWorkersEntry (as_writer w.appends.now) w.shard) w.shard client front now
  worker_keeps new poll k = roles.polled_keeps machine (as_writer w.appends.now) w.shard client front now w.writer ready.of_shard
      ready.follows carries new poll k

  -- it ends for want of memory
  pub unpolled_turned : (new : Writer) → Unpolled machine client front now w.writer new →
      Turned (as_writer w.appends.now) w.shard client front now misses misses_now (turns.End ends.Memory)
  unpolled_turned new u =
      roles.unpolled_turned machine (as_writer w.appends.now) w.shard client front now w.writer new u misses misses_now tt

  -- or since it has made as many calls as can be counted
  pub counted_turned : (new : Writer) (poll : Poll WriteAnswer) → Polled machine client front now w.writer new poll →
      Turned (as_writer w.appends.now) w.shard client front now misses misses_now (turns.End ends.Memory)
  counted_turned new poll k = roles.counted_turned machine (as_writer w.appends.now) w.shard client front now w.writer ready.of_shard
      ready.follows carries new poll misses misses_now k tt

  pub polled_turned : (new : Writer) (poll : Poll WriteAnswer) (v : WriterWorker) (turn : WorkerTurn) →
      Polled machine client front now w.writer new poll → (poll ≡ polls.Busy → misses < misses_now) →
      (IsMarked turn → (poll ≡ polls.Fault) × IsFaulted turn) → v.appends.now ≡ w.appends.now → v.shard ≡ w.shard →
      Comes client now v turn → Turned (as_writer w.appends.now) w.shard client front now misses misses_now turn
  polled_turned new poll v turn k busy fault same_appends same_shard comes =
      roles.polled_turned machine (as_writer w.appends.now) w.shard client front now w.writer ready.of_shard ready.follows carries
      new poll turn misses misses_now k busy fault
      (comes_means w.appends.now w.shard client now v turn same_appends same_shard comes)

-- what a worker comes to after a poll that could still be counted
pub went : (w : WriterWorker) (client : ℕ) (front now : Option History) (feed : IsFeed w.appends.now) (ready : IsReady client front w)
    (new : Writer) (poll : Poll WriteAnswer) (v : WriterWorker) (turn : WorkerTurn) (calls : ℕ) → calls ≡ new.storing.trying.calls →
    calls < most → Polled machine client front now w.writer new poll → LegalWhere machine client now w.writer new poll →
    FollowsWhere machine client now new →
    ((client2 : ℕ) (front2 : Option History) → FollowsWhere machine client2 front2 new → IsTold client2 front2 (with_writer w new) poll →
    Comes client2 front2 v turn) →
    Comes client now v turn
went w client front now feed ready new poll v turn calls counted few polled legal follows comes =
    comes client now follows
    (told_of w client front now new poll ready.of_shard ready.asked ready.opened ready.reached
    (subst (λ (n : ℕ). n < most) counted few) polled legal (worker_keeps client front now w feed ready 0 0 new poll polled))
