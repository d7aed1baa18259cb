-- Each poll of a compactor is legal at the end of a lawful history. Entries go newest first.
use Rattle.std.proofs.Common.{◌≡◌, ℕ, ◌+◌, ◌<◌, Option, Some, None, List, ◌∷◌, ◌++◌, inl, inr, refl}
use Rattle.std.proofs.Common.{sym, ap, subst, ◌∙◌}
use Rattle.std.specs.Prelude.{IfSome, IsSomeAnd, unwrap_or}
use Rattle.update_core.specs.declared.updates.Update.{Update}
use Rattle.store_core.specs.declared.shards.ShardId.{ShardId}
use Rattle.store_core.specs.declared.replies.Reply.{Reply}
use Rattle.store_core.specs.declared.entries.Entry.{Entry}
use Rattle.store_core.specs.Histories.{reply}
use Rattle.store_core.specs.Stores.{Stored}
use Rattle.store_core.specs.Ports.{OfOthers}
use Rattle.store_core.specs.Newest.{mine_back, replay_back}
use Rattle.state_core.specs.declared.kinds.Kind.TheVariants.{Keeper}
use Rattle.state_core.specs.declared.transitions.Transition.{Transition}
use Rattle.state_core.specs.declared.transitions.Transition.TheVariants.{Join, Leave, Renew}
use Rattle.state_core.specs.Lists.{Among}
use Rattle.update_core.specs.Limits.{most}
use Rattle.state_core.proofs.ListLemmas.{among_map}
use Rattle.history_core.specs.declared.asked.Asked.{Asked}
use Rattle.history_core.specs.declared.asked.Asked.TheVariants as asks
use Rattle.history_core.specs.declared.merge_answers.MergeAnswer.{MergeAnswer}
use Rattle.history_core.specs.declared.merge_answers.MergeAnswer.TheVariants as answers
use Rattle.history_core.specs.Discipline.{LawfulBack}
use Rattle.history_core.specs.Legal.{Absent, AtLast, Full}
use Rattle.history_core.specs.Members.{JoinedAs}
use Rattle.history_core.specs.Placing.{AtLastScan, CommittedAs, Placed, places}
use Rattle.history_core.specs.Stands.{StandsFor}
use Rattle.history_core.specs.Upkeep.{KeeperJoined, LegalMergeAt, LegalOfCompactor, NoneIsDue}
use Rattle.load_core.specs.declared.polls.Poll.{Poll}
use Rattle.load_core.specs.declared.polls.Poll.TheVariants as polls
use Rattle.load_core.specs.declared.tries.Tried.{Tried}
use Rattle.load_core.specs.declared.tryings.Trying.{Trying}
use Rattle.load_core.specs.Trying as trying
use Rattle.change_core.specs.declared.outcomes.Outcome.{Outcome}
use Rattle.change_core.specs.declared.outcomes.Outcome.TheVariants as outcomes
use Rattle.change_core.specs.Changes.{IsAnswerTo, IsChange, IsOfMember, outcome}
use Rattle.change_core.specs.Legality.{ChangesAt, JoinedIn, LegalChange}
use Rattle.change_core.proofs.Coming.{change_answered, change_legal}
use Rattle.machine_core.specs.Machines as machines
use Rattle.read_machine.specs.declared.readings.Reading.{Reading}
use Rattle.read_machine.specs.Readings as readings
use Rattle.token_machine.specs.declared.storings.Storing.{Storing}
use Rattle.token_machine.specs.Following.{Draws}
use Rattle.token_machine.specs.Storings as storing
use Rattle.token_machine.specs.Storings.{sets}
use Rattle.token_machine.proofs.Ways.{SetWay, Way, call_false, fails, goes, same, set, set_way, try, way}
use Rattle.merge_client.specs.declared.compactors.Compactor.{Compactor}
use Rattle.merge_client.specs.declared.dues.Due.{Due}
use Rattle.merge_client.specs.declared.founds.Found.{Found}
use Rattle.merge_client.specs.declared.founds.Found.TheVariants as founds
use Rattle.merge_client.specs.Finding.{finding}
use Rattle.merge_client.specs.Following.{Counts, Follows}
use Rattle.merge_client.specs.Machining.{command_in, kept, machine}
use Rattle.merge_client.specs.Merging.{IsReady, Moves, MovesBy, call_of, change_poll}
use Rattle.merge_client.specs.Merging.{own_member, read_poll, shard_of, verdict}
use Rattle.merge_client.proofs.Asking.{read_keeps}
use Rattle.merge_client.proofs.ReadLegality.{nothing_legal}
use Rattle.merge_client.proofs.Reading.{lent, member_of_it, read_asking, read_called}
use Rattle.merge_client.proofs.Going.{Asks, asks_of, closes, merges, opens, renews}
use Rattle.merge_client.proofs.Trying.{call}
use Rattle.merge_client.proofs.LegalPolls as polled
use Rattle.merge_client.proofs.Fits.{fit_reads}
use Rattle.merge_client.proofs.MergeLegality.{merge_legal}

module _ (client : ℕ) (c new : Compactor) (start : Stored) (list : List Update) (e : Entry) (others es : List Entry)
    (ready : IsReady c) (own : e.client ≡ client) (call_is : call_of c ≡ Some e.call) (of : OfOthers client others)
    (st : StandsFor start (shard_of c) list) (lawful : LawfulBack start (e ∷ (others ++ es))) (f : Follows client c start es)
    (more_is : new.storing.trying.calls ≡ trying.more c.storing.trying.calls) where
  abbrev here : Reply
  here = reply (replay_back start (others ++ es)) e

  abbrev now : List Entry
  now = e ∷ (others ++ es)

  abbrev Here : List Placed
  Here = places client new.storing.trying.calls now

  abbrev Past : List Placed
  Past = places client c.storing.trying.calls (others ++ es)

  abbrev Legal : Poll MergeAnswer → Type 0
  Legal poll = machines.LegalPoll machine client (kept c) new.storing.trying.calls poll start now list

  answered : (asked : Asked) → c.asked ≡ Some asked → (answer : MergeAnswer) →
      (new.storing.trying.calls < most → LegalMergeAt start (command_in client (kept c) asked new.storing.trying.calls) Here asked answer) →
      Legal (polls.Done answer)
  answered = polled.answered client c new start list e others es ready own call_is of st lawful f more_is

  of_member : (m : ℕ) → c.member ≡ Some m → (asked : Asked) → c.asked ≡ Some asked → (answer : MergeAnswer) →
      ((k : ℕ) → LegalMergeAt start (command_in client (kept c) asked k) Here asked answer ≡
      IsSomeAnd c.member (λ n. LegalOfCompactor start (shard_of c) n c.token Here asked answer)) →
      (new.storing.trying.calls < most → LegalOfCompactor start (shard_of c) m c.token Here asked answer) → Legal (polls.Done answer)
  of_member = polled.of_member client c new start list e others es ready own call_is of st lawful f more_is

  -- ---- an open, a renewal and a close

  abbrev Means : Outcome → Type 0
  Means o = new.storing.trying.calls < most → LegalChange start (shard_of c) (own_member c) c.storing.trying.step o Here

  open_means : (shard : ShardId) (begin lease : ℕ) → c.asked ≡ Some (asks.OpenCompactor shard begin lease) → shard ≡ shard_of c →
      c.storing.trying.step ≡ Join Keeper begin lease → (v : Compactor) (o : Outcome) → IsAnswerTo (Join Keeper begin lease) o →
      Means o → Legal (change_poll v (asks.OpenCompactor shard begin lease) o)
  open_means shard begin lease is here_is step v outcomes.Going fit h = tt
  open_means shard begin lease is here_is step v outcomes.Fault fit h = tt
  open_means shard begin lease is here_is step v outcomes.Spent fit h = h
  open_means shard begin lease is here_is step v (outcomes.Damaged damage) fit h = absurd fit
  open_means shard begin lease is here_is step v (outcomes.Joined member version since) fit h =
      answered (asks.OpenCompactor shard begin lease) is (answers.Opened member version)
      (λ lt. subst (λ (d : ShardId). KeeperJoined start d begin lease member version Here) (sym here_is)
      (among_map (JoinedIn start (shard_of c) (Join Keeper begin lease) member version since)
      (λ p. (k : CommittedAs start (shard_of c) (Join Keeper begin lease) version p) × (k.to.next_member ≡ member + 1)) Here
      (λ p j. (j.0, j.1))
      (subst (λ (x : Transition). Among (JoinedIn start (shard_of c) x member version since) Here) step (h lt))))
  open_means shard begin lease is here_is step v (outcomes.Full version) fit h =
      answered (asks.OpenCompactor shard begin lease) is (answers.MembersFull version)
      (λ lt. subst (λ (d : ShardId). Full start d version Here) (sym here_is) (h lt))
  open_means shard begin lease is here_is step v (outcomes.Committed version) fit h = absurd fit
  open_means shard begin lease is here_is step v (outcomes.Gone version) fit h = absurd fit
  open_means shard begin lease is here_is step v (outcomes.Back since) fit h = absurd fit
  open_means shard begin lease is here_is step v (outcomes.Strange version) fit h = absurd fit

  named_as : (m : ℕ) → c.member ≡ Some m → own_member c ≡ m
  named_as m is = ap (λ (o : Option ℕ). unwrap_or o 0) is

  renew_means : (at m : ℕ) → c.asked ≡ Some (asks.RenewCompactor at) → c.member ≡ Some m → c.storing.trying.step ≡ Renew m at →
      (v : Compactor) (o : Outcome) → IsAnswerTo (Renew m at) o → Means o → Legal (change_poll v (asks.RenewCompactor at) o)
  renew_means at m is named step v outcomes.Going fit h = tt
  renew_means at m is named step v outcomes.Fault fit h = tt
  renew_means at m is named step v outcomes.Spent fit h = h
  renew_means at m is named step v (outcomes.Damaged damage) fit h = absurd fit
  renew_means at m is named step v (outcomes.Joined member version since) fit h = absurd fit
  renew_means at m is named step v (outcomes.Full version) fit h = absurd fit
  renew_means at m is named step v (outcomes.Committed version) fit h =
      of_member m named (asks.RenewCompactor at) is (answers.Renewed version) (λ k. refl)
      (λ lt. subst (λ (x : Transition). Among (CommittedAs start (shard_of c) x version) Here) step (h lt))
  renew_means at m is named step v (outcomes.Gone version) fit h =
      of_member m named (asks.RenewCompactor at) is (answers.Expired version) (λ k. refl)
      (λ lt. subst (λ (n : ℕ). Absent start (shard_of c) n version Here) (named_as m named) (h lt))
  renew_means at m is named step v (outcomes.Back since) fit h = absurd fit
  renew_means at m is named step v (outcomes.Strange version) fit h = absurd fit

  close_means : (m : ℕ) → c.asked ≡ Some asks.CloseCompactor → c.member ≡ Some m → c.storing.trying.step ≡ Leave m →
      (v : Compactor) (o : Outcome) → IsAnswerTo (Leave m) o → Means o → Legal (change_poll v asks.CloseCompactor o)
  close_means m is named step v outcomes.Going fit h = tt
  close_means m is named step v outcomes.Fault fit h = tt
  close_means m is named step v outcomes.Spent fit h = h
  close_means m is named step v (outcomes.Damaged damage) fit h = absurd fit
  close_means m is named step v (outcomes.Joined member version since) fit h = absurd fit
  close_means m is named step v (outcomes.Full version) fit h = absurd fit
  close_means m is named step v (outcomes.Committed version) fit h =
      of_member m named asks.CloseCompactor is (answers.Closed version) (λ k. refl)
      (λ lt. inl (subst (λ (x : Transition). Among (CommittedAs start (shard_of c) x version) Here) step (h lt)))
  close_means m is named step v (outcomes.Gone version) fit h =
      of_member m named asks.CloseCompactor is (answers.Closed version) (λ k. refl)
      (λ lt. inr (subst (λ (n : ℕ). Absent start (shard_of c) n version Here) (named_as m named) (h lt)))
  close_means m is named step v (outcomes.Back since) fit h = absurd fit
  close_means m is named step v (outcomes.Strange version) fit h = absurd fit

  module _ (none : c.reading.asked ≡ None) (s : Storing) (tried : Tried) (moves : storing.Moves c.storing here s tried)
      (calls_are : new.storing.trying.calls ≡ s.trying.calls) where
    abbrev w : Compactor
    w = record c { storing = s }

    abbrev Outcome_of : Outcome
    Outcome_of = outcome s.trying (own_member c) tried

    made : storing.call_of c.storing ≡ Some e.call
    made = call client c start list e others es ready own call_is of st lawful f none

    by_way : (P : Outcome → Type 0) → P outcomes.Going → P outcomes.Fault →
        ((t : Trying) → e.call ≡ trying.call_of c.storing.trying → trying.Moves c.storing.trying here t tried → t ≡ s.trying →
        P (outcome t (own_member c) tried)) → P Outcome_of
    by_way P going fault on = by (way c.storing s here tried moves)
      where
        set_by : SetWay here tried → P Outcome_of
        set_by (goes is stored_is) = subst (λ (k : Tried). P (outcome s.trying (own_member c) k)) (sym is) going
        set_by (fails is failed) = subst (λ (k : Tried). P (outcome s.trying (own_member c) k)) (sym is) fault

        by : Way c.storing here s tried → P Outcome_of
        by (set q m) = set_by (set_way c.storing s here tried m)
        by (try q (t, m, n)) =
            let same_try : t ≡ s.trying = sym (ap (λ (z : Storing). z.trying) n) in
            subst (λ (z : Trying). P (outcome z (own_member c) tried)) same_try (on t (call_false c.storing e.call q made) m same_try)

    module _ (step : Transition) (step_is : c.storing.trying.step ≡ step) (change : IsChange Keeper (own_member c) step)
        (joined : IsOfMember step → JoinedAs Keeper (mine_back start es client) (shard_of c) (own_member c)) where
      changes : e.call ≡ trying.call_of c.storing.trying → ChangesAt Keeper (own_member c) c.storing.trying client list start e others es
      changes call_now = record {
        at = record {
          sound = ready.sound.storing.trying;
          own = own;
          call_is = call_now;
          of_others = of;
          stands = st;
          lawful = lawful;
          follows = f.trying;
        };
        change = subst (IsChange Keeper (own_member c)) (sym step_is) change;
        joined = λ x. joined (subst IsOfMember step_is x);
      }

      fits : IsAnswerTo step Outcome_of
      fits = subst (λ (x : Transition). IsAnswerTo x Outcome_of) step_is (by_way (IsAnswerTo c.storing.trying.step) tt tt
          (λ t call_now m same_try. change_answered Keeper (own_member c) c.storing.trying t client list start e others es
          (changes call_now) tried m))

      means : Means Outcome_of
      means lt = by_way (λ o. LegalChange start (shard_of c) (own_member c) c.storing.trying.step o Here) tt tt
          (λ t call_now m same_try.
          let count : t.calls ≡ new.storing.trying.calls = ap (λ (z : Trying). z.calls) same_try ∙ sym calls_are in
          subst (λ (n : ℕ). LegalChange start (shard_of c) (own_member c) c.storing.trying.step (outcome t (own_member c) tried)
          (places client n now)) count
          (change_legal Keeper (own_member c) c.storing.trying t client list start e others es (changes call_now) tried m
          (subst (λ (n : ℕ). n < most) (sym count) lt)))

    own_joined : (m : ℕ) → c.member ≡ Some m → JoinedAs Keeper (mine_back start es client) (shard_of c) (own_member c)
    own_joined m named = subst (λ (n : ℕ). JoinedAs Keeper (mine_back start es client) (shard_of c) n) (sym (named_as m named))
        (let d = f.member in subst (λ (o : Option ℕ). IfSome o (λ n. Draws Keeper (shard_of c) n c.token (mine_back start es client)))
        named d).joined

    pub try_legal : (asked : Asked) → c.asked ≡ Some asked → Asks client c start es asked → Legal (verdict w asked tried)
    try_legal asked is (opens shard begin lease q here_is t) = subst (λ (a : Asked). Legal (verdict w a tried)) (sym q)
        (open_means shard begin lease (is ∙ ap Some q) here_is t.step w Outcome_of
        (fits (Join Keeper begin lease) t.step (record { changes = refl; shaped = λ z. refl }) (λ x. absurd x))
        (means (Join Keeper begin lease) t.step (record { changes = refl; shaped = λ z. refl }) (λ x. absurd x)))
    try_legal asked is (renews at m q named t) =
        let change : IsChange Keeper (own_member c) (Renew m at) = record { changes = (sym (named_as m named), refl); shaped = λ z. refl } in
        subst (λ (a : Asked). Legal (verdict w a tried)) (sym q)
        (renew_means at m (is ∙ ap Some q) named t.step w Outcome_of (fits (Renew m at) t.step change (λ x. own_joined m named))
        (means (Renew m at) t.step change (λ x. own_joined m named)))
    try_legal asked is (closes m q named t) =
        let change : IsChange Keeper (own_member c) (Leave m) = record { changes = sym (named_as m named); shaped = λ z. refl } in
        subst (λ (a : Asked). Legal (verdict w a tried)) (sym q)
        (close_means m (is ∙ ap Some q) named t.step w Outcome_of (fits (Leave m) t.step change (λ x. own_joined m named))
        (means (Leave m) t.step change (λ x. own_joined m named)))
    try_legal asked is (merges m q named pos h) = subst (λ (a : Asked). Legal (verdict w a tried)) (sym q)
        (merge_legal client c new start list e others es ready own call_is of st lawful f more_is none s tried moves (is ∙ ap Some q) m named pos h)

  -- ---- a reading

  module _ (q : Due) (some : c.reading.asked ≡ Some q) where
    abbrev m : ℕ
    m = (member_of_it client c start list e others es ready own call_is of st lawful f q some).member

    named : c.member ≡ Some m
    named = (member_of_it client c start list e others es ready own call_is of st lawful f q some).is

    busy : c.asked ≡ Some asks.Merge
    busy = (lent client c start list e others es ready own call_is of st lawful f q some).asked

    shard_is : c.reading.course.loader.shard ≡ shard_of c
    shard_is = (lent client c start list e others es ready own call_is of st lawful f q some).shard

    member_is : c.reading.course.member ≡ m
    member_is = (member_of_it client c start list e others es ready own call_is of st lawful f q some).follows.member_is

    calls_same : c.reading.course.calls ≡ c.storing.trying.calls
    calls_same = (member_of_it client c start list e others es ready own call_is of st lawful f q some).follows.calls

    pub read_legal : (r : Reading Due) (p : Poll Found) → readings.Moves finding c.reading here r p → Legal (read_poll p)
    read_legal r p moves = by p refl (read_keeps.legal client c.reading r e.call p list start e others es
        (read_asking client c start list e others es ready own call_is of st lawful f q some)
        (read_called client c start list e others es ready own call_is of st lawful f q some) moves)
      where
        counted : r.course.calls ≡ new.storing.trying.calls
        counted = read_keeps.counted c.reading r here p moves ∙ ap trying.more calls_same ∙ sym more_is

        by : (x : Poll Found) → p ≡ x → machines.LegalPoll (readings.words finding) client (readings.kept c.reading) r.course.calls x start
            now list → Legal (read_poll x)
        by polls.Busy is h = tt
        by polls.More is h = tt
        by polls.Fault is h = tt
        by polls.Spent is h = λ lt. subst (λ (n : ℕ). AtLastScan (shard_of c) (AtLast start (shard_of c) (λ k z. k ≡ most))
            (places client n now)) counted (subst (λ (d : ShardId). AtLastScan d (AtLast start d (λ k z. k ≡ most))
            (places client r.course.calls now)) shard_is (h (subst (λ (n : ℕ). n < most) (sym counted) lt)))
        by (polls.Damaged damage) is h = absurd h
        by (polls.Done (founds.Due pair)) is h = tt
        by (polls.Done (founds.Gone version)) is h = of_member m named asks.Merge busy (answers.Expired version) (λ k. refl)
            (λ lt. subst (λ (n : ℕ). Absent start (shard_of c) m version (places client n now)) counted
            (subst (λ (n : ℕ). Absent start (shard_of c) n version (places client r.course.calls now)) member_is
            (subst (λ (d : ShardId). Absent start d c.reading.course.member version (places client r.course.calls now)) shard_is
            (let g = h (subst (λ (n : ℕ). n < most) (sym counted) lt) in
            subst (λ (o : Option Due). IfSome o (λ y. Absent start c.reading.course.loader.shard c.reading.course.member version
            (places client r.course.calls now))) some g))))
        by (polls.Done (founds.Nothing version)) is h = of_member m named asks.Merge busy (answers.NothingDue version) (λ k. refl)
            (λ lt.
            let more_same : trying.more c.reading.course.calls ≡ new.storing.trying.calls = ap trying.more calls_same ∙ sym more_is in
            subst (λ (n : ℕ). NoneIsDue start (shard_of c) m version (places client n now)) more_same
            (subst (λ (n : ℕ). NoneIsDue start (shard_of c) n version (places client (trying.more c.reading.course.calls) now)) member_is
            (subst (λ (d : ShardId). NoneIsDue start d c.reading.course.member version
            (places client (trying.more c.reading.course.calls) now)) shard_is
            (nothing_legal client c start list e others es ready own call_is of st lawful f q some version r
            (subst (λ (z : Poll Found). readings.Moves finding c.reading here r z) is moves)
            (subst (λ (n : ℕ). n < most) (sym more_same) lt)))))

  -- ---- any reply

  pub legal_step : Counts (mine_back start es client) c → (poll : Poll MergeAnswer) → Moves c here new poll → Legal poll
  legal_step counts poll moves = go c.reading.asked refl moves
    where
      go : (o : Option Due) → c.reading.asked ≡ o → MovesBy o c here new poll → Legal poll
      go None none (s, tried, asked, k, busy, poll_is, new_is) = subst Legal (sym poll_is)
          (try_legal none s tried k (more_is ∙ sym (same c.storing s here tried k).calls) asked busy
          (asks_of client c start es asked busy none ready.drafted f))
      go (Some q) some (r, p, k, h) =
          let fit = fit_reads client c start list e others es ready own call_is of st lawful f counts q some r p k new poll h in
          subst Legal (sym fit.0) (read_legal q some r p k)
