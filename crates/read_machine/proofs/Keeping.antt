-- What holds of a machine whose commands each ask a shard a question. Entries go newest first.
use Rattle.std.proofs.Common.{◌≡◌, ◌≢◌, ◌+◌, ◌<◌, ◌≤◌, ◌^◌, ℕ, Option, Some, None, List, ◌∷◌, ◌++◌, length, inl}
use Rattle.std.proofs.Common.{sym, ap, subst, ◌∙◌, arith}
use Rattle.std.specs.Prelude.{⊤, IfSome, IsSome, IsSomeAnd, filter}
use Rattle.update_core.specs.declared.updates.Update.{Update}
use Rattle.store_core.specs.declared.calls.Call.{Call}
use Rattle.store_core.specs.declared.calls.Call.TheVariants as calls
use Rattle.store_core.specs.declared.versions.Version.{Version}
use Rattle.store_core.specs.declared.entries.Entry.{Entry}
use Rattle.store_core.specs.declared.replies.Reply.{Reply}
use Rattle.store_core.specs.declared.replies.Reply.TheVariants as replies
use Rattle.store_core.specs.Newest.{mine_back}
use Rattle.store_core.specs.Ports.{Answered}
use Rattle.store_core.specs.Stores.{Stored}
use Rattle.state_core.specs.States.{ShardState, keys_of}
use Rattle.update_core.specs.Limits.{most}
use Rattle.version_codec.proofs.Facts.{version_in_state}
use Rattle.history_core.specs.Costs.{failed_calls}
use Rattle.history_core.specs.Discipline.{Allows, ShowsState}
use Rattle.history_core.specs.Placing.{places}
use Rattle.load_core.specs.declared.polls.Poll.{Poll}
use Rattle.load_core.specs.declared.polls.Poll.TheVariants as polls
use Rattle.load_core.specs.Effects.{CommitsNone, IsShown}
use Rattle.load_core.specs.Loading.{scan_from}
use Rattle.load_core.specs.Following.{FollowsLoading}
use Rattle.load_core.specs.Getting as getting
use Rattle.load_core.specs.Trying.{more}
use Rattle.machine_core.specs.Machines.{Asking, Called, CostPoll, Ending, IsReading, Keeps, LegalPoll, reply_there}
use Rattle.read_machine.specs.declared.courses.Course.{Course}
use Rattle.read_machine.specs.declared.readings.Reading.{Reading}
use Rattle.read_machine.specs.declared.stages.Stage.{Stage}
use Rattle.read_machine.specs.declared.stages.Stage.TheVariants as stages
use Rattle.read_machine.specs.Courses.{counted, read_call}
use Rattle.read_machine.specs.Following.{FollowsAsked, ReadCost}
use Rattle.read_machine.specs.Questions.{IsQuestion, Questions}
use Rattle.read_machine.specs.Readings.{Did, DidBy, Follows, IsGetting, IsReading as IsReadingAt, IsSound, Moves}
use Rattle.read_machine.specs.Readings.{ReadKept, asked_after, kept, words}
use Rattle.read_machine.proofs.Costs.{CostAfter, read_cost}
use Rattle.read_machine.proofs.FollowsOn.{counted_on, read_on, shown_still}
use Rattle.read_machine.proofs.HowRead.{IsScanStage}
use Rattle.read_machine.proofs.Legality.{LegalAfter, read_legal}
use Rattle.read_machine.proofs.Parts.{Asks, asks_call, few_keys, gets, scans, some_parts}
use Rattle.read_machine.proofs.Sound.{Ends, at_stage}
use Rattle.read_machine.proofs.Ways.{did}
use Rattle.read_machine.proofs.Replied.{more_kept, of_reads, open_asked, others_on, read_so, read_stays, reads_of, same_call, sound_by, spared_on}

module _ {Q A : Type 0} (W : Questions Q A) where
  -- ---- at its place

  module _ (L : IsQuestion W) (client : ℕ) (m : Reading Q) (call : Call) (list : List Update) (start : Stored) (e : Entry)
      (others es : List Entry) (a : Asking (words W) client m call start es)
      (c : Called client m.course.loader.shard call list start e others es) where
    abbrev now : List Entry
    now = e ∷ (others ++ es)

    call_is : read_call m.course m.course.stage ≡ Some e.call
    call_is = a.call_is ∙ ap (λ (x : Call). Some x) (sym c.call_is)

    asked_by : (q : Q) → m.asked ≡ Some q → FollowsAsked W.kind client m.course start es
    asked_by q is = let h = a.follows.asked in
        subst (λ (o : Option Q). IfSome o (λ x. FollowsAsked W.kind client m.course start es)) is h

    pub moved_follows : (new : Reading Q) (poll : Poll A) → Moves W m (reply_there start e others es) new poll →
        Follows W client new start now
    moved_follows new poll moves =
        let x = read_so W m new (reply_there start e others es) poll moves in
        let on = read_on W L start list client m.course x.q e others es
        (sound_by W m x.q x.asked a.ready) call_is c.own c.of_others c.stands
        c.lawful a.follows.shown (asked_by x.q x.asked) x.course poll x.how in
        subst (λ (z : Reading Q). Follows W client z start now) (sym x.now)
        (record { shown = on.0; asked = go poll x.course x.q on.1 })
      where
        go : (p : Poll A) (k : Course) (q : Q) → (¬ Ends p → FollowsAsked W.kind client k start now) →
            IfSome (asked_after (Some q) p) (λ y. FollowsAsked W.kind client k start now)
        go polls.Busy k q h = h (λ z. z)
        go polls.More k q h = h (λ z. z)
        go polls.Fault k q h = h (λ z. z)
        go polls.Spent k q h = tt
        go (polls.Damaged damage) k q h = tt
        go (polls.Done answer) k q h = tt

    pub wanted_follows : (new : Reading Q) → new ≡ record m { course = counted m.course } → Follows W client new start now
    wanted_follows new is =
        let (q, asked) = open_asked W m a.is_open in
        let s = sound_by W m q asked a.ready in
        subst (λ (z : Reading Q). Follows W client z start now) (sym is) (record {
          shown = shown_still W L start list client m.course q e others es s call_is c.own c.of_others c.stands c.lawful
              a.follows.shown
              (asked_by q asked);
          asked = subst (λ (o : Option Q). IfSome o (λ x. FollowsAsked W.kind client (counted m.course) start now)) (sym asked)
              (counted_on W L start list client m.course q e others es s call_is c.own c.of_others c.stands c.lawful
              a.follows.shown
              (asked_by q asked));
        })

    pub moved_legal : (new : Reading Q) (poll : Poll A) → Moves W m (reply_there start e others es) new poll →
        LegalPoll (words W) client (kept m) new.course.calls poll start now list
    moved_legal new poll moves =
        let x = read_so W m new (reply_there start e others es) poll moves in
        go poll x.q x.asked (read_stays W m new (reply_there start e others es) poll moves).calls
        (read_legal W L start list client m.course x.q e others es
        (sound_by W m x.q x.asked a.ready) call_is c.own c.of_others c.stands c.lawful
        a.follows.shown (asked_by x.q x.asked) x.course poll x.how)
      where
        go : (p : Poll A) (q : Q) → m.asked ≡ Some q → new.course.calls ≡ more m.course.calls →
            LegalAfter W client m.course q start list now p → LegalPoll (words W) client
            (kept m) new.course.calls p start now list
        go polls.Busy q is calls h = tt
        go polls.More q is calls h = tt
        go polls.Fault q is calls h = tt
        go polls.Spent q is calls h = absurd h
        go (polls.Damaged damage) q is calls h = absurd h
        go (polls.Done answer) q is calls h = λ less.
            subst (λ (n : ℕ). IfSome m.asked (λ y. W.Legal y m.course.loader.shard m.course.member start
            (places client n now) list answer))
            (sym calls) (subst (λ (o : Option Q). IfSome o (λ y. W.Legal y m.course.loader.shard m.course.member start
            (places client (more m.course.calls) now) list answer)) (sym is) (h (subst (λ (n : ℕ). n < most) calls less)))

    pub moved_cost : (base : ℕ) (old new : Reading Q) (poll : Poll A) → m ≡ old →
        Moves W m (reply_there start e others es) new poll →
        (m.course.calls < most → ReadCost client m.course m.course.stage es) →
        CostPoll (words W) base client old new poll start now list
    moved_cost base old new poll same moves at =
        let x = read_so W m new (reply_there start e others es) poll moves in
        let cost = read_cost W client m.course x.q start e others es call_is c.own c.of_others
        (left x.q x.asked) at x.course poll x.how in
        let now_is : new.course ≡ x.course = ap (λ (z : Reading Q). z.course) x.now in
        subst (λ (z : Reading Q). CostPoll (words W) base client z new poll start now list) same
        (go poll (subst (λ (k : Course). CostAfter client m.course now k poll) (sym now_is) cost))
      where
        left : (q : Q) → m.asked ≡ Some q → m.course.stage ≡ stages.Get → getting.IsOpen m.course.getting
        left q is stage = go m.course.loader.cached (at_stage W m.course q (sound_by W m q is a.ready) stages.Get stage)
          where
            go : (o : Option ShardState) → IsSomeAnd o (IsGetting W m.course q) → getting.IsOpen m.course.getting
            go None h = absurd h
            go (Some k) h = h.left

        go : (p : Poll A) → CostAfter client m.course now new.course p → CostPoll (words W) base client m new p start now list
        go polls.Busy h = h
        go polls.More h = h
        go polls.Fault h = h
        go polls.Spent h = h
        go (polls.Damaged damage) h = h
        go (polls.Done answer) h = h

  -- ---- together

  module _ (L : IsQuestion W) where
    -- no more parts are got than a shard can have rows
    pub few_read : (c : Course) (q : Q) (own : List Answered) → FollowsLoading c.loader own →
        IsSomeAnd c.loader.cached (IsGetting W c q) →
        length c.getting.keys ≤ 2 ^ 62
    few_read c q own f h = go c.loader.cached f h
      where
        go : (o : Option ShardState) → IfSome o (λ s. ShowsState own c.loader.shard s.number s) → IsSomeAnd o (IsGetting W c q) →
            length c.getting.keys ≤ 2 ^ 62
        go None shown k = absurd k
        go (Some s) (b, x, shows, reads) k =
            let rules = version_in_state c.loader.shard s.number b s x reads in
            let some = some_parts W L c q s rules k in
            let many : length c.getting.keys ≡ length (keys_of (filter some.test s.batches)) = ap length some.keys_are in
            omega (arith, many, few_keys some.test s.batches rules.parts, rules.rows, rules.light)

    -- where no call failed it has made few while it goes on
    pub few_calls : (client : ℕ) (m : Reading Q) (start : Stored) (es : List Entry) → IsSome m.asked → IsSound W m →
        Follows W client m start es →
        ReadCost client m.course m.course.stage es → failed_calls client m.course.calls es ≡ 0 → m.course.calls ≤ 2 ^ 62 + 3
    few_calls client m start es is sound follows cost failed =
        let (q, asked) = open_asked W m is in
        by_stage q m.course.stage (sound_by W m q asked sound).reading cost
      where
        by_stage : (q : Q) (stage : Stage) → IsReadingAt W m.course stage q → ReadCost client m.course stage es →
            m.course.calls ≤ 2 ^ 62 + 3
        by_stage q stages.Scan h k = omega (arith, k, failed)
        by_stage q stages.Get h k = omega (
          arith,
          k,
          failed,
          sound.getting.within,
          few_read m.course q
              (mine_back start es client) follows.shown h,
        )
        by_stage q (stages.Check key) h k = omega (
          arith,
          k,
          failed,
          few_read m.course q
              (mine_back start es client) follows.shown h.0,
        )

    -- what its call has done, where a Scan that is answered shows this
    read_did : (m new : Reading Q) (r : Reply) (poll : Poll A) (Shown : Type 0) →
        ((vs : List Version) → IsScanStage m.course.stage → r ≡ replies.Versions vs → Shown) → IsSound W m →
        Moves W m r new poll →
        IsSomeAnd m.asked (λ q. DidBy W q Shown r poll)
    read_did m new r poll Shown shown sound moves =
        let x = read_so W m new r poll moves in
        subst (λ (o : Option Q). IsSomeAnd o (λ q. DidBy W q Shown r poll)) (sym x.asked)
        (did W (counted m.course) x.q r x.course poll Shown shown (sound_by W m x.q x.asked sound).known x.how)

    did_so : (m new : Reading Q) (r : Reply) (poll : Poll A) (P : Type 0) → ((q : Q) → DidBy W q ⊤ r poll → P) → IsSound W m →
        Moves W m r new poll → P
    did_so m new r poll P h sound moves = go m.asked (read_did m new r poll ⊤ (λ vs st is. tt) sound moves)
      where
        go : (o : Option Q) → IsSomeAnd o (λ q. DidBy W q ⊤ r poll) → P
        go None d = absurd d
        go (Some q) d = h q d

    did_of : (m new : Reading Q) (call : Call) (r : Reply) (poll : Poll A) → IsSound W m →
        read_call m.course m.course.stage ≡ Some call →
        Moves W m r new poll → Did W (kept m) call r poll
    did_of m new call r poll sound is moves = record {
      reads = reads_of W m.course call is;
      did = read_did m new r poll (IsShown m.course.loader.shard call r) (λ vs st e. (
        scan_shown
            (asks_call m.course call is) st,
        (vs, e),
      )) sound
          moves;
    }
      where
        scan_shown : Asks m.course call → IsScanStage m.course.stage → (from : ℕ) × (call ≡ calls.Scan m.course.loader.shard from)
        scan_shown (scans st2 e) st = (scan_from m.course.loader.cached, e)
        scan_shown (gets key st2 at e) st = absurd (subst IsScanStage st2 st)

    pub keeps : Keeps (words W)
    keeps = record {
      prepared_kept = λ old new p. ap kept p;
      prepared_calls = λ old new p. ap (λ (z : Reading Q). z.course.calls) p;
      prepared_open = λ old new p is. subst (λ (z : Reading Q). IsSome z.asked) (sym p) is;
      prepared_follows = λ client old new start es p f. subst (λ (z : Reading Q). Follows W client z start es) (sym p) f;
      prepared_cost = λ base client old new start es list p at. subst (λ (z : Reading Q). z.course.calls < most →
          ReadCost client z.course z.course.stage es) (sym p) at;
      others_follow = others_on W;
      spared_follows = λ client m start e others es closed spares. spared_on W client m start e others es closed;
      moved_kept = λ m new r poll ready. more_kept W m new r poll;
      moved_open = λ m new r poll ready is moves on. subst (λ (k : ReadKept Q). IsSome k.asked) (sym
          (more_kept W m new r poll moves on)) is;
      moved_shard = λ m new r poll moves. (read_stays W m new r poll moves).shard;
      ended = λ m new r answer moves. record {
        asked = ap (λ (z : Reading Q). z.asked) (read_so W m new r (polls.Done answer) moves).now;
        shard = (read_stays W m new r (polls.Done answer) moves).shard;
      };
      never_busy = λ m new r. did_so m new r polls.Busy ⊥ (λ q d. d);
      fault_failed = λ m new r. did_so m new r polls.Fault (r ≡ replies.Failed) (λ q d. d);
      more_answered = λ m new r. did_so m new r polls.More (r ≢ replies.Failed) (λ q d. d.answered);
      counted = λ m new r poll moves. (read_stays W m new r poll moves).calls;
      effect = λ m new call r poll ready is call_is moves. did_of m new call r poll ready call_is moves;
      allowed = λ client m call start es a. of_reads (Allows (mine_back start es client)) m.course.loader.shard call
          (λ from. tt) (λ key. tt)
          (reads_of W m.course call a.call_is);
      follows = λ client m new call poll list start e others es a c moves. moved_follows L client m call list start e others es a
          c new poll
          moves;
      legal = λ client m new call poll list start e others es a c moves. moved_legal L client m call list start e others es a c
          new poll moves;
      cost = λ base client old ready new call poll list start e others es least p a c moves at. moved_cost L client ready call
          list start e
          others es a c base old new poll p moves at;
      wanted_kept = λ m new h. ap kept h;
      wanted_counted = λ m new h. ap (λ (z : Reading Q). z.course.calls) h;
      wanted_open = λ m new h is. subst (λ (z : Reading Q). IsSome z.asked) (sym h) is;
      wanted_reads = λ m new call ready h is. (
        of_reads IsReading m.course.loader.shard call (λ from. tt) (λ key. tt) (reads_of W m.course call is),
        ap (λ (z : Reading Q). read_call z.course z.course.stage) h ∙ same_call W m.course m.course.stage ∙ is,
      );
      wanted_follows = λ client m new call list start e others es a c h. wanted_follows L client m call list start e others es a
          c new h;
    }

    pub ending : Ending (words W)
    ending = record {
      more_begins = λ k call r d. inl (none_more k.asked (IsShown k.shard call r) r d.did);
      spent_shown = λ k call r d. absurd (never_spent k.asked (IsShown k.shard call r) r d.did);
      few = λ client m start es list is sound follows low at failed foreign. let n =
          few_calls client m start es is sound follows (at low) failed in omega arith;
    }
      where
        none_more : (o : Option Q) (Shown : Type 0) (r : Reply) → IsSomeAnd o (λ q. DidBy W q Shown r polls.More) → CommitsNone r
        none_more None Shown r h = absurd h
        none_more (Some q) Shown r h = h

        never_spent : (o : Option Q) (Shown : Type 0) (r : Reply) → IsSomeAnd o (λ q. DidBy W q Shown r polls.Spent) → ⊥
        never_spent None Shown r h = h
        never_spent (Some q) Shown r h = h
