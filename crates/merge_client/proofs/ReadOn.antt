-- A compactor follows from its client's own entries after each reply to the reading of the pair that is due. Entries go newest first.
use Rattle.std.proofs.Common.{◌≡◌, ◌⊎◌, ℕ, ◌<◌, Option, Some, None, List, ◌∷◌, ◌++◌, inl, inr}
use Rattle.std.proofs.Common.{refl, sym, ap, subst, ◌∙◌}
use Rattle.std.specs.Prelude.{IfSome}
use Rattle.update_core.specs.declared.updates.Update.{Update}
use Rattle.store_core.specs.declared.shards.ShardId.{ShardId}
use Rattle.store_core.specs.declared.replies.Reply.{Reply}
use Rattle.store_core.specs.declared.entries.Entry.{Entry}
use Rattle.store_core.specs.Histories.{reply}
use Rattle.store_core.specs.Stores.{Stored}
use Rattle.store_core.specs.Ports.{Answered, OfOthers}
use Rattle.store_core.specs.Newest.{mine_back, replay_back}
use Rattle.state_core.specs.declared.kinds.Kind.TheVariants.{Keeper}
use Rattle.update_core.specs.Limits.{most}
use Rattle.history_core.specs.Discipline.{LawfulBack}
use Rattle.history_core.specs.Stands.{StandsFor}
use Rattle.history_core.specs.declared.merge_answers.MergeAnswer.{MergeAnswer}
use Rattle.load_core.specs.declared.polls.Poll.{Poll}
use Rattle.load_core.specs.declared.polls.Poll.TheVariants as polls
use Rattle.machine_core.specs.Machines.{GoesOn}
use Rattle.read_machine.specs.declared.courses.Course.{Course}
use Rattle.read_machine.specs.declared.readings.Reading.{Reading}
use Rattle.read_machine.specs.Courses.{counted}
use Rattle.read_machine.specs.Following as reading
use Rattle.read_machine.specs.Following.{IsRead, ReadCost}
use Rattle.read_machine.specs.Readings as readings
use Rattle.read_machine.proofs.Answers.{Came, FromParts, came, lapsed, looked, read}
use Rattle.read_machine.proofs.Replied.{ended_none, more_kept as read_kept, read_so, read_stays, sound_by}
use Rattle.read_machine.proofs.Sound.{Ends}
use Rattle.read_machine.proofs.Ways.{Stays}
use Rattle.merge_client.specs.declared.compactors.Compactor.{Compactor}
use Rattle.merge_client.specs.declared.dues.Due.{Due}
use Rattle.merge_client.specs.declared.founds.Found.{Found}
use Rattle.merge_client.specs.declared.founds.Found.TheVariants as founds
use Rattle.merge_client.specs.declared.pairs.Pair.{Pair}
use Rattle.merge_client.specs.Finding.{finding}
use Rattle.merge_client.specs.Following.{Follows, FollowsRead}
use Rattle.merge_client.specs.Merging.{IsLent, IsReady, after_poll, call_of, given_back}
use Rattle.merge_client.specs.Merging.{read_poll, reading_on, shard_of, taken_back}
use Rattle.merge_client.proofs.Asking.{is_question, read_keeps}
use Rattle.merge_client.proofs.Noted.{MovesFit}
use Rattle.merge_client.proofs.Reading.{lent, member_of_it, never_told, read_asking, read_called, read_due, read_goes, read_is, read_over}

module _ (client : ℕ) (c : Compactor) (start : Stored) (list : List Update) (e : Entry) (others es : List Entry)
    (ready : IsReady c) (own : e.client ≡ client) (call_is : call_of c ≡ Some e.call) (of : OfOthers client others)
    (st : StandsFor start (shard_of c) list) (lawful : LawfulBack start (e ∷ (others ++ es))) (f : Follows client c start es)
    (q : Due) (some : c.reading.asked ≡ Some q) where
  abbrev here : Reply
  here = reply (replay_back start (others ++ es)) e

  abbrev was : List Answered
  was = mine_back start es client

  abbrev now : List Entry
  now = e ∷ (others ++ es)

  -- the calls of the reading kept to their bound
  abbrev pub Paid : Type 0
  Paid = c.reading.course.calls < most → ReadCost client c.reading.course c.reading.course.stage es

  abbrev Mine : List Answered
  Mine = mine_back start now client

  -- the reading's facts here
  lent_here : IsLent c
  lent_here = lent client c start list e others es ready own call_is of st lawful f q some

  g : FollowsRead client c start es (member_of_it client c start list e others es ready own call_is of st lawful f q some).member
  g = (member_of_it client c start list e others es ready own call_is of st lawful f q some).follows

  -- ---- each reply

  -- where a pair is told
  pub due_from : (r : Reading Due) (p : Poll Found) → readings.Moves finding c.reading here r p → (pair : Pair) →
      p ≡ polls.Done (founds.Due pair) → FromParts finding client r.course q start now Paid (founds.Due pair)
  due_from r p moves pair is =
      let x = read_so finding c.reading r here (polls.Done (founds.Due pair))
      (subst (λ (z : Poll Found). readings.Moves finding c.reading here r z) is moves) in
      let course_is : r.course ≡ x.course = ap (λ (z : Reading Due). z.course) x.now in
      go (subst (λ (k : Course). Came finding client k x.q start now Paid (founds.Due pair)) (sym course_is)
      (came finding is_question start list client c.reading.course x.q e others es
      (sound_by finding c.reading x.q x.asked ready.sound.reading) (read_is client c start list e others es ready own call_is of st lawful f q some) own of
      (subst (λ (d : ShardId). StandsFor start d list) (sym lent_here.shard) st) lawful g.reading.shown
      (let h = g.reading.asked in
      subst (λ (o : Option Due). IfSome o (λ y. reading.FollowsAsked Keeper client c.reading.course start es)) x.asked h)
      x.course (founds.Due pair) x.how)) (same_q x.q x.asked)
    where
      same_q : (k : Due) → c.reading.asked ≡ Some k → k ≡ q
      same_q k is2 = (let two : Some k ≡ Some q = sym is2 ∙ some in cc)

      go : {k : Due} → Came finding client r.course k start now Paid (founds.Due pair) → k ≡ q →
          FromParts finding client r.course q start now Paid (founds.Due pair)
      go (looked z h) same = absurd (never_told pair z h)
      go (lapsed v h) same = absurd (let bad : founds.Due pair ≡ founds.Gone v = h in cc)
      go (read from) same = subst (λ (y : Due). FromParts finding client r.course y start now Paid (founds.Due pair)) same from

  pub read_on : (new : Compactor) (poll : Poll MergeAnswer) → MovesFit c here new poll → Follows client new start now
  read_on new poll (r, p, moves, (poll_is, new_is)) =
      subst (λ (z : Compactor). Follows client z start now) (sym new_is)
      (subst (λ (x : Poll MergeAnswer). Follows client (after_poll (taken_back (reading_on c r) p) x) start now) (sym poll_is) (by p refl))
    where
      stays : Stays (counted c.reading.course) r.course
      stays = read_stays finding c.reading r here p moves

      held : readings.Follows finding client r start now
      held = read_keeps.follows client c.reading r e.call p list start e others es (read_asking client c start list e others es ready own call_is of st lawful f q some) (read_called client c start list e others es ready own call_is of st lawful f q some) moves

      shard : r.course.loader.shard ≡ shard_of c
      shard = stays.shard ∙ lent_here.shard

      goes : GoesOn p → Follows client (reading_on c r) start now
      goes on = read_goes client c start list e others es ready own call_is of st lawful f q some r held (ap (λ (k : readings.ReadKept Due). k.asked) (read_kept finding c.reading r here p moves on) ∙ some)
          stays.member stays.calls

      over : (member : Option ℕ) → (member ≡ None) ⊎ (member ≡ c.member) →
          Follows client (record (given_back (reading_on c r)) { pair = None; asked = None; member = member }) start now
      over member how = read_over client c start list e others es ready own call_is of st lawful f q some r shard held member how

      undrafted : (z : Compactor) → z.pair ≡ None → Follows client (record z { pair = None }) start now → Follows client z start now
      undrafted z is h = subst (λ (o : Option Pair). Follows client (record z { pair = o }) start now) (sym is) h

      due : (pair : Pair) → p ≡ polls.Done (founds.Due pair) → Follows client (record (given_back (reading_on c r)) { pair = Some pair })
          start now
      due pair is = read_due client c start list e others es ready own call_is of st lawful f q some r shard held pair (ended_none finding c.reading r here p moves (subst Ends (sym is) tt)) stays.member
          (due_from r p moves pair is)

      by : (x : Poll Found) → p ≡ x → Follows client (after_poll (taken_back (reading_on c r) x) (read_poll x)) start now
      by polls.Busy is = goes (subst GoesOn (sym is) tt)
      by polls.More is = goes (subst GoesOn (sym is) tt)
      by polls.Fault is = goes (subst GoesOn (sym is) tt)
      by polls.Spent is = undrafted (record (given_back (reading_on c r)) { asked = None }) ready.drafted (over c.member (inr refl))
      by (polls.Damaged damage) is = undrafted (record (given_back (reading_on c r)) { asked = None }) ready.drafted
          (over c.member (inr refl))
      by (polls.Done (founds.Nothing version)) is = over c.member (inr refl)
      by (polls.Done (founds.Due pair)) is = due pair is
      by (polls.Done (founds.Gone version)) is = over None (inl refl)

  pub read_wants : (new : Compactor) → new ≡ reading_on c (record c.reading { course = counted c.reading.course }) →
      Follows client new start now
  read_wants new is =
      let r : Reading Due = record c.reading { course = counted c.reading.course } in
      subst (λ (z : Compactor). Follows client z start now) (sym is)
      (read_goes client c start list e others es ready own call_is of st lawful f q some r (read_keeps.wanted_follows client c.reading r e.call list start e others es (read_asking client c start list e others es ready own call_is of st lawful f q some)
      (read_called client c start list e others es ready own call_is of st lawful f q some) refl) some refl refl)
