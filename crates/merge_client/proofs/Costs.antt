-- A poll of a compactor keeps its cost. Entries go newest first.
use Rattle.std.proofs.Common.{◌≡◌, ℕ, ◌+◌, ◌<◌, ◌≤◌, Option, Some, None, List, ◌∷◌, ◌++◌, length, inl, inr, refl}
use Rattle.std.proofs.Common.{sym, ap, subst, ◌∙◌, arith}
use Rattle.update_core.specs.declared.updates.Update.{Update}
use Rattle.store_core.specs.declared.part_keys.PartKey.{PartKey}
use Rattle.store_core.specs.declared.replies.Reply.{Reply}
use Rattle.store_core.specs.declared.entries.Entry.{Entry}
use Rattle.store_core.specs.Histories.{reply}
use Rattle.store_core.specs.Stores.{Log, Stored}
use Rattle.store_core.specs.Ports.{OfOthers}
use Rattle.store_core.specs.Newest.{replay_back}
use Rattle.state_core.specs.declared.transitions.Transition.{Transition}
use Rattle.state_core.specs.declared.transitions.Transition.TheVariants.{Init}
use Rattle.state_core.specs.States.{ShardState}
use Rattle.update_core.specs.Limits.{most}
use Rattle.state_core.proofs.ListLemmas.{bool_cases}
use Rattle.history_core.specs.declared.asked.Asked.{Asked}
use Rattle.history_core.specs.declared.asked.Asked.TheVariants as asks
use Rattle.history_core.specs.declared.merge_answers.MergeAnswer.{MergeAnswer}
use Rattle.history_core.specs.Costs.{failed_calls, foreign_commits, merge_base, merge_parts, Within}
use Rattle.history_core.specs.Discipline.{LawfulBack}
use Rattle.history_core.specs.Stands.{StandsFor}
use Rattle.load_core.specs.declared.polls.Poll.{Poll}
use Rattle.load_core.specs.declared.polls.Poll.TheVariants as polls
use Rattle.load_core.specs.declared.tries.Tried.{Tried}
use Rattle.load_core.specs.declared.tries.Tried.TheVariants as tries
use Rattle.load_core.specs.Costing.{CostAfter, CostEnded, CostKept, IsPrepared, calls_from_attempt, calls_from_cas, is_behind}
use Rattle.load_core.specs.Trying as trying
use Rattle.load_core.proofs.TryFacts.{prepared_next}
use Rattle.machine_core.specs.Machines.{GoesOn}
use Rattle.machine_core.specs.Machines as machines
use Rattle.read_machine.specs.declared.readings.Reading.{Reading}
use Rattle.read_machine.specs.declared.stages.Stage.{Stage}
use Rattle.read_machine.specs.declared.stages.Stage.TheVariants as stages
use Rattle.read_machine.specs.Following.{OverStage, ReadCost}
use Rattle.read_machine.specs.Readings as readings
use Rattle.read_machine.proofs.Answers.{FromParts, behind_foreign}
use Rattle.token_machine.specs.declared.storings.Storing.{Storing}
use Rattle.token_machine.specs.Storings as storing
use Rattle.token_machine.proofs.Costs.{all_parts, storing_cost}
use Rattle.token_machine.proofs.Ways.{same, still_within}
use Rattle.merge_client.specs.declared.compactors.Compactor.{Compactor}
use Rattle.merge_client.specs.declared.dues.Due.{Due}
use Rattle.merge_client.specs.declared.founds.Found.{Found}
use Rattle.merge_client.specs.declared.founds.Found.TheVariants as founds
use Rattle.merge_client.specs.declared.pairs.Pair.{Pair}
use Rattle.merge_client.specs.Finding.{finding}
use Rattle.merge_client.specs.Following.{Follows, FollowsAll}
use Rattle.merge_client.specs.Machining.{machine}
use Rattle.merge_client.specs.Merging.{IsReady, Moves, MovesBy, Prepares, after_poll, call_of, given_back}
use Rattle.merge_client.specs.Merging.{noted, read_poll, reading_on, shard_of, taken_back, verdict}
use Rattle.merge_client.specs.Polling.{CostAt, CostBy, CostOver, OverBy, base_of}
use Rattle.merge_client.proofs.Asking.{read_keeps}
use Rattle.merge_client.proofs.DuePairs.{found_so}
use Rattle.merge_client.proofs.Preparing.{How, drafts, how, reads, tries as tries_on}
use Rattle.merge_client.proofs.ReadOn.{due_from}
use Rattle.merge_client.proofs.Fits.{fit_moves}
use Rattle.merge_client.proofs.Noted.{MovesFit, noted_follows, noted_ready}
use Rattle.merge_client.proofs.Reading.{Paid, member_of_it, parts_same, read_asking, read_called}
use Rattle.merge_client.proofs.Going.{Asks, IsGoing, asks_of, closes, going, merges, opens, renews}
use Rattle.merge_client.proofs.Trying.{call}

-- the bound on the calls after a poll
abbrev pub CostPoll : ℕ → ℕ → Compactor → Compactor → Poll MergeAnswer → Stored → List Entry → List Update → Type 0
CostPoll base client old new poll start es list = machines.CostPoll machine base client old new poll start es list

-- what goes on is a poll that does
goes_so : (c : Compactor) (asked : Asked) (tried : Tried) → IsGoing tried → GoesOn (verdict c asked tried)
goes_so c asks.Merge tries.Begun g = tt
goes_so c asks.Merge tries.Again g = tt
goes_so c asks.Merge tries.Goes g = tt
goes_so c asks.Merge tries.Fault g = tt
goes_so c other tries.Begun g = tt
goes_so c other tries.Again g = tt
goes_so c other tries.Goes g = tt
goes_so c other tries.Fault g = tt
goes_so c asked (tries.Committed version) g = absurd g
goes_so c asked (tries.Refused refusal) g = absurd g
goes_so c asked tries.Spent g = absurd g
goes_so c asked (tries.Damaged damage) g = absurd g

-- what is prepared has no attempt before its next call
pub next_prepared : (old ready : Compactor) → Prepares old ready → ready.reading.asked ≡ None → IsPrepared ready.storing.trying.next
next_prepared old ready p none = by (how old ready p)
  where
    of : (from s : Storing) → storing.Prepares from s → IsPrepared s.trying.next
    of from s (t, q, e) = subst (λ (z : Storing). IsPrepared z.trying.next) (sym e) (prepared_next from.trying t q)

    by : How old ready → IsPrepared ready.storing.trying.next
    by (reads q is e) = absurd (let bad : Some q ≡ None = sym is ∙ sym (ap (λ (c : Compactor). c.reading.asked) e) ∙ none in cc)
    by (tries_on s is pair q e) = subst (λ (c : Compactor). IsPrepared c.storing.trying.next) (sym e) (of old.storing s q)
    by (drafts pr d s is pair draft q e) = subst (λ (c : Compactor). IsPrepared c.storing.trying.next) (sym e)
        (of (storing.resumed old.storing d.step d.setting) s q)

less : (a : ℕ) → trying.more a < most → a < most
less a lt = omega arith

module _ (base client : ℕ) (c : Compactor) (list : List Update) (start : Stored) (e : Entry) (others es : List Entry)
    (three : 3 ≤ base) (ready : IsReady c) (own : e.client ≡ client) (call_is : call_of c ≡ Some e.call) (of : OfOthers client others)
    (st : StandsFor start (shard_of c) list) (lawful : LawfulBack start (e ∷ (others ++ es))) (f : Follows client c start es)
    (at : CostAt base client c start es list) where
  abbrev now : List Entry
  now = e ∷ (others ++ es)

  abbrev here : Reply
  here = reply (replay_back start (others ++ es)) e

  abbrev Poll_of : Compactor → Poll MergeAnswer → Type 0
  Poll_of new poll = CostPoll base client c new poll start now list

  -- ---- a transition

  module _ (none : c.reading.asked ≡ None) (prepared : IsPrepared c.storing.trying.next) (s : Storing) (tried : Tried) (asked : Asked)
      (moves : storing.Moves c.storing here s tried) (busy : c.asked ≡ Some asked) where
    abbrev v : Compactor
    v = record c { storing = s }

    step : s.trying.step ≡ c.storing.trying.step
    step = (same c.storing s here tried moves).step

    was : c.storing.trying.calls < most → CostKept (base_of base c.storing.trying.step + c.storing.setting.place) client c.storing.trying
        start es
    was lt = subst (λ (o : Option Pair). CostBy None o base client c start es) ready.drafted
        (subst (λ (o : Option Due). CostBy o c.pair base client c start es) none (at lt))

    enough : c.storing.trying.calls ≡ 0 → 3 ≤ base_of base c.storing.trying.step
    enough zero = by (asks_of client c start es asked busy none ready.drafted f)
      where
        by : Asks client c start es asked → 3 ≤ base_of base c.storing.trying.step
        by (opens shard begin lease is here_is t) = subst (λ (x : Transition). 3 ≤ base_of base x) (sym t.step) three
        by (renews moment m is named t) = subst (λ (x : Transition). 3 ≤ base_of base x) (sym t.step) three
        by (closes m is named t) = subst (λ (x : Transition). 3 ≤ base_of base x) (sym t.step) three
        by (merges m is named pos h) = absurd (let some = h.called in omega (arith, some, zero))

    after : s.trying.calls < most → CostAfter tried (base_of base c.storing.trying.step + s.setting.place) client s.trying start now
    after = storing_cost (base_of base c.storing.trying.step) client c.storing list start e others es enough ready.sound.storing prepared
        f.trying own (call client c start list e others es ready own call_is of st lawful f none) of st lawful was s tried moves

    goes : GoesOn (verdict v asked tried) → CostAt base client v start now list
    goes g lt = subst (λ (o : Option Due). CostBy o c.pair base client v start now) (sym none)
        (subst (λ (o : Option Pair). CostBy None o base client v start now) (sym ready.drafted)
        (subst (λ (x : Transition). CostKept (base_of base x + s.setting.place) client s.trying start now) (sym step)
        (by tried (going v asked tried g) (after lt))))
      where
        by : (k : Tried) → IsGoing k → CostAfter k (base_of base c.storing.trying.step + s.setting.place) client s.trying start now →
            CostKept (base_of base c.storing.trying.step + s.setting.place) client s.trying start now
        by tries.Begun g h = h
        by tries.Again g h = h
        by tries.Goes g h = h
        by tries.Fault g h = h
        by other g h = absurd g

    over : (GoesOn (verdict v asked tried) → ⊥) → (z : Compactor) → z.storing ≡ s → CostOver base client c z start now list
    over ends z is = subst (λ (w : Storing). w.trying.calls < most → OverBy c.reading.asked base client c.reading.course.stage
        (record z { storing = w }) start now) (sym is)
        (λ lt. subst (λ (o : Option Due). OverBy o base client c.reading.course.stage (record z { storing = s }) start now) (sym none)
        (subst (λ (x : Transition). CostEnded (base_of base x + length s.setting.keys) client s.trying start now) (sym step)
        (all_parts (base_of base c.storing.trying.step) client s start now
        (still_within c.storing s here tried ready.sound.storing moves) (by tried (λ g. ends (goes_so v asked tried g)) (after lt)))))
      where
        by : (k : Tried) → ¬ IsGoing k → CostAfter k (base_of base c.storing.trying.step + s.setting.place) client s.trying start now →
            CostEnded (base_of base c.storing.trying.step + s.setting.place) client s.trying start now
        by tries.Begun g h = absurd (g tt)
        by tries.Again g h = absurd (g tt)
        by tries.Goes g h = absurd (g tt)
        by tries.Fault g h = absurd (g tt)
        by (tries.Committed version) g h = h
        by (tries.Refused refusal) g h = h
        by tries.Spent g h = h
        by (tries.Damaged damage) g h = h

    pub verdict_cost : (p : Poll MergeAnswer) → verdict v asked tried ≡ p → Poll_of (after_poll v p) p
    verdict_cost polls.Busy is = goes (subst GoesOn (sym is) tt)
    verdict_cost polls.More is = goes (subst GoesOn (sym is) tt)
    verdict_cost polls.Fault is = goes (subst GoesOn (sym is) tt)
    verdict_cost polls.Spent is = over (λ g. subst GoesOn is g) (after_poll v polls.Spent) refl
    verdict_cost (polls.Damaged damage) is = over (λ g. subst GoesOn is g) (after_poll v (polls.Damaged damage)) refl
    verdict_cost (polls.Done answer) is = over (λ g. subst GoesOn is g) (after_poll v (polls.Done answer)) refl

  -- ---- a reading

  module _ (q : Due) (some : c.reading.asked ≡ Some q) where
    calls_same : c.reading.course.calls ≡ c.storing.trying.calls
    calls_same = (member_of_it client c start list e others es ready own call_is of st lawful f q some).follows.calls

    read_was : c.reading.course.calls < most → ReadCost client c.reading.course c.reading.course.stage es
    read_was lt = subst (λ (o : Option Due). CostBy o c.pair base client c start es) some
        (at (subst (λ (n : ℕ). n < most) calls_same lt))

    pub read_cost : (new : Compactor) (poll : Poll MergeAnswer) → MovesFit c here new poll → Poll_of new poll
    read_cost new poll (r, p, moves, (poll_is, new_is)) =
        subst (λ (z : Compactor). Poll_of z poll) (sym new_is)
        (subst (λ (x : Poll MergeAnswer). Poll_of (after_poll (taken_back (reading_on c r) p) x) x) (sym poll_is)
        (by p refl (read_keeps.cost base client c.reading c.reading r e.call p list start e others es (omega arith) refl
        (read_asking client c start list e others es ready own call_is of st lawful f q some)
        (read_called client c start list e others es ready own call_is of st lawful f q some) moves read_was)))
      where
        counted_is : r.course.calls ≡ trying.more c.storing.trying.calls
        counted_is = read_keeps.counted c.reading r here p moves ∙ ap trying.more calls_same

        low : trying.more c.storing.trying.calls < most → r.course.calls < most
        low lt = subst (λ (n : ℕ). n < most) (sym counted_is) lt

        goes : GoesOn p → (r.course.calls < most → ReadCost client r.course r.course.stage now) →
            CostAt base client (reading_on c r) start now list
        goes on h lt = subst (λ (o : Option Due). CostBy o c.pair base client (reading_on c r) start now) (sym
            (ap (λ (k : readings.ReadKept Due). k.asked) (read_keeps.moved_kept c.reading r here p ready.sound.reading moves on) ∙ some))
            (h (low lt))

        over : (z : Compactor) → z.storing.trying.calls ≡ trying.more c.storing.trying.calls →
            z.reading ≡ (given_back (reading_on c r)).reading →
            (r.course.calls < most → OverStage client r.course c.reading.course.stage now) → CostOver base client c z start now list
        over z calls_is reading_is h lt = subst (λ (o : Option Due). OverBy o base client c.reading.course.stage z start now) (sym some)
            (subst (λ (x : Reading Due). OverStage client x.course c.reading.course.stage now) (sym reading_is)
            (same_stage c.reading.course.stage (h (low (subst (λ (n : ℕ). n < most) calls_is lt)))))
          where
            same_stage : (stage : Stage) → OverStage client r.course stage now →
                OverStage client (given_back (reading_on c r)).reading.course stage now
            same_stage stages.Scan k = k
            same_stage stages.Get k = k
            same_stage (stages.Check key) k = k

        due : (pair : Pair) → p ≡ polls.Done (founds.Due pair) →
            CostAt base client (record (given_back (reading_on c r)) { pair = Some pair }) start now list
        due pair is lt = subst (λ (o : Option Due). CostBy o (Some pair) base client (record (given_back (reading_on c r)) {
          pair = Some pair;
        }) start now) (sym ended) (subst (λ (n : ℕ). Within n (calls_from_attempt log Init r.course.loader.cached)
            (merge_base (merge_parts pair.left pair.right) 0) (foreign_commits start r.course.loader.shard client n now)
            (failed_calls client n now)) counted_is
            (subst (λ (o : Option ShardState). Within r.course.calls (calls_from_attempt log Init o)
            (merge_base (merge_parts pair.left pair.right) 0) (foreign_commits start r.course.loader.shard client r.course.calls now)
            (failed_calls client r.course.calls now)) (sym from.known) within))
          where
            log : Log
            log = (replay_back start now).logs r.course.loader.shard

            ended : r.asked ≡ None
            ended = (read_keeps.ended c.reading r here (founds.Due pair) (subst (λ (z : Poll Found). readings.Moves finding c.reading here
                r z) is moves)).asked

            from : FromParts finding client r.course q start now (Paid client c start list e others es ready own call_is of st lawful f q
                some) (founds.Due pair)
            from = due_from client c start list e others es ready own call_is of st lawful f q some r p moves pair is

            few : r.course.calls ≤ 1 + length from.keys + failed_calls client r.course.calls now
            few = from.few read_was (low lt)

            many : length from.keys ≡ merge_parts pair.left pair.right
            many = ap (λ (ks : List PartKey). length ks) (parts_same from.keys (pair.left.parts ++ pair.right.parts)
                (sym from.look ∙ (found_so pair from.state from.rows (sym from.answer_is)).stands.keys))

            within : Within r.course.calls (calls_from_cas log (Some from.state)) (merge_base (merge_parts pair.left pair.right) 0)
                (foreign_commits start r.course.loader.shard client r.course.calls now) (failed_calls client r.course.calls now)
            within = elim (bool_cases (is_behind log from.state)) [
              | inl behind ↦
                  let others_came = behind_foreign finding client r.course q start now (Paid client c start list e others es ready own
                  call_is of st lawful f q some) (founds.Due pair) from (low lt) behind in
                  rw behind (omega (arith, few, many, others_came))
              | inr last ↦ rw last (omega (arith, few, many))
            ]

        by : (x : Poll Found) → p ≡ x → machines.CostPoll (readings.words finding) base client c.reading r x start now list →
            Poll_of (after_poll (taken_back (reading_on c r) x) (read_poll x)) (read_poll x)
        by polls.Busy is h = goes (subst GoesOn (sym is) tt) h
        by polls.More is h = goes (subst GoesOn (sym is) tt) h
        by polls.Fault is h = goes (subst GoesOn (sym is) tt) h
        by polls.Spent is h = over (after_poll (given_back (reading_on c r)) polls.Spent) refl refl h
        by (polls.Damaged damage) is h = over (after_poll (given_back (reading_on c r)) (polls.Damaged damage)) refl refl h
        by (polls.Done (founds.Nothing version)) is h = over (after_poll (taken_back (reading_on c r) (polls.Done (founds.Nothing
            version))) (read_poll (polls.Done (founds.Nothing version)))) refl refl h
        by (polls.Done (founds.Due pair)) is h = due pair is
        by (polls.Done (founds.Gone version)) is h = over (after_poll (taken_back (reading_on c r) (polls.Done (founds.Gone version)))
            (read_poll (polls.Done (founds.Gone version)))) refl refl h

-- what was counted before changes no bound
unnoted : (base client : ℕ) (c new : Compactor) (poll : Poll MergeAnswer) (start : Stored) (es : List Entry) (list : List Update) →
    CostPoll base client (noted c) new poll start es list → CostPoll base client c new poll start es list
unnoted base client c new polls.Busy start es list h = h
unnoted base client c new polls.More start es list h = h
unnoted base client c new polls.Fault start es list h = h
unnoted base client c new polls.Spent start es list h = h
unnoted base client c new (polls.Damaged damage) start es list h = h
unnoted base client c new (polls.Done answer) start es list h = h

-- a poll keeps the bound
pub cost_ready : (base client : ℕ) (c : Compactor) (list : List Update) (start : Stored) (e : Entry) (others es : List Entry) →
    3 ≤ base → IsReady c → e.client ≡ client → call_of c ≡ Some e.call → OfOthers client others → StandsFor start (shard_of c) list →
    LawfulBack start (e ∷ (others ++ es)) → FollowsAll client c start es → CostAt base client c start es list → (new : Compactor)
    (poll : Poll MergeAnswer) → (c.reading.asked ≡ None → IsPrepared c.storing.trying.next) →
    Moves c (reply (replay_back start (others ++ es)) e) new poll → CostPoll base client c new poll start (e ∷ (others ++ es)) list
cost_ready base client c list start e others es three ready own call_is of st lawful f at new poll prepared moves =
    go c.reading.asked refl moves
  where
    noted_cost : (q : Due) → c.reading.asked ≡ Some q → CostAt base client (noted c) start es list
    noted_cost q is lt = subst (λ (o : Option Due). CostBy o c.pair base client (noted c) start es) (sym is)
        (subst (λ (o : Option Due). CostBy o c.pair base client c start es) is (at lt))

    go : (o : Option Due) → c.reading.asked ≡ o → MovesBy o c (reply (replay_back start (others ++ es)) e) new poll →
        CostPoll base client c new poll start (e ∷ (others ++ es)) list
    go None none (s, tried, asked, m, busy, poll_is, new_is) =
        subst (λ (z : Compactor). CostPoll base client c z poll start (e ∷ (others ++ es)) list) (sym new_is)
        (verdict_cost base client c list start e others es three ready own call_is of st lawful f.follows at none (prepared none) s tried
        asked m busy poll (sym poll_is))
    go (Some q) is m = unnoted base client c new poll start (e ∷ (others ++ es)) list
        (read_cost base client (noted c) list start e others es three (noted_ready c ready) own call_is of st lawful
        (noted_follows client c start es f.follows) (noted_cost q is) q is new poll
        (fit_moves client c start list e others es ready own call_is of st lawful f.follows f.counts q is new poll m))
