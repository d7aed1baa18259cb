-- A reader follows from its client's own entries also after one more. Entries go newest first.
use Rattle.std.proofs.Common.{◌≡◌, ℕ, ◌+◌, Option, Some, None, List, ◌∷◌, ◌++◌, inl, inr, refl, sym, ap, subst, ◌∙◌, arith}
use Rattle.std.specs.Prelude.{◌-◌, IfSome, IsSome, IsSomeAnd}
use Rattle.update_core.specs.declared.updates.Update.{Update}
use Rattle.store_core.specs.declared.shards.ShardId.{ShardId}
use Rattle.store_core.specs.declared.calls.Call.{Call}
use Rattle.store_core.specs.declared.calls.Call.TheVariants as calls
use Rattle.store_core.specs.declared.replies.Reply.{Reply}
use Rattle.store_core.specs.declared.entries.Entry.{Entry}
use Rattle.store_core.specs.Stores.{Stored}
use Rattle.store_core.specs.Histories.{reply}
use Rattle.store_core.specs.Ports.{Answered, OfOthers, answered}
use Rattle.store_core.specs.Newest.{mine_back, replay_back}
use Rattle.state_core.specs.declared.kinds.Kind.TheVariants.{Reader as AsReader}
use Rattle.state_core.specs.declared.transitions.Transition.{Transition}
use Rattle.state_core.specs.declared.transitions.Transition.TheVariants.{Advance, Join, Leave, Renew}
use Rattle.state_core.specs.Steps.{Applies, acts_for}
use Rattle.state_core.specs.States.{ShardState}
use Rattle.version_codec.specs.Reading.{version_in}
use Rattle.history_core.specs.declared.asked.Asked.{Asked}
use Rattle.history_core.specs.declared.asked.Asked.TheVariants as asks
use Rattle.history_core.specs.declared.read_answers.ReadAnswer.{ReadAnswer}
use Rattle.history_core.specs.declared.read_answers.ReadAnswer.TheVariants as answers
use Rattle.history_core.specs.Discipline.{LawfulBack, OwnsSome, ShowsState}
use Rattle.history_core.specs.Members.{IsKindJoin, JoinedAs, KindJoins}
use Rattle.history_core.specs.Stands.{StandsFor}
use Rattle.history_core.proofs.Entries.{lawful_older}
use Rattle.history_core.proofs.Gaining.{mine_gained}
use Rattle.load_core.specs.declared.polls.Poll.{Poll}
use Rattle.load_core.specs.declared.polls.Poll.TheVariants as polls
use Rattle.load_core.specs.declared.tries.Tried.{Tried}
use Rattle.load_core.specs.declared.tries.Tried.TheVariants as tries
use Rattle.load_core.specs.declared.tryings.Trying.{Trying}
use Rattle.load_core.specs.Effects.{IsShown}
use Rattle.load_core.specs.Following.{FollowsTrying}
use Rattle.load_core.specs.Outcomes.{Committing}
use Rattle.load_core.specs.Trying as trying
use Rattle.load_core.proofs.Following.{shows_on, with_newest}
use Rattle.load_core.proofs.Outcomes.{committed_here, follows_gained, follows_called}
use Rattle.load_core.proofs.Runs.{Same, moves_same}
use Rattle.change_core.specs.Changes.{committed_outcome, last_member, since_of}
use Rattle.machine_core.specs.Machines.{Asking, Called}
use Rattle.read_machine.specs.declared.readings.Reading.{Reading}
use Rattle.read_machine.specs.Courses.{counted}
use Rattle.read_machine.specs.Readings as readings
use Rattle.read_machine.proofs.Sound.{Ends}
use Rattle.read_client.specs.declared.questions.Question.{Question}
use Rattle.read_client.specs.declared.readers.Reader.{Reader}
use Rattle.read_client.specs.Asking.{asking, question_of}
use Rattle.read_client.specs.Following.{Follows}
use Rattle.read_client.specs.Reading.{AsksAs, IsAsked, IsLent, IsOpen, IsSound, Moves, MovesAfterRead, MovesAfterTry, MovesBy}
use Rattle.read_client.specs.Reading.{Wants, WantsBy, after_poll, call_by, call_of, change_poll, given_back}
use Rattle.read_client.specs.Reading.{question, reading_on, shard_of, taken_back, verdict}
use Rattle.read_client.proofs.Changing.{Changed, opens, advances, renews, closes, changed}
use Rattle.read_client.proofs.Questioning.{came_reads, IsReadAnswer, read_keeps}
use Rattle.read_client.proofs.Sound.{if_any, kept_trying, lent_by}
use Rattle.read_client.proofs.AfterPoll.{member_so, opened_of, question_after, question_ended, refused_opens}

-- a Join gives the next number
next_of : (from to : ShardState) (now lease : ℕ) → Applies from (Join AsReader now lease) to →
    to.next_member ≡ from.next_member + 1
next_of from to now lease a = ap (λ (x : ShardState). x.next_member) a.makes.effect

-- ---- one more entry

module _ (start : Stored) (list : List Update) (client : ℕ) (ready : Reader) (e : Entry) (others es : List Entry)
    (is_open : IsOpen ready) (s : IsSound ready) (call_is : call_of ready ≡ Some e.call) (own : e.client ≡ client)
    (of : OfOthers client others)
    (st : StandsFor start (shard_of ready) list) (lawful : LawfulBack start (e ∷ (others ++ es)))
    (f : Follows client ready start es) where
  -- the reply at its place
  abbrev here : Reply
  here = reply (replay_back start (others ++ es)) e

  abbrev was : List Answered
  was = mine_back start es client

  mine : mine_back start (e ∷ (others ++ es)) client ≡ answered e here ∷ was
  mine = mine_gained start client e others es own of

  older : LawfulBack start (others ++ es)
  older = lawful_older start e (others ++ es) lawful

  -- with what holds of a longer list of own entries
  of_mine : (P : List Answered → Type 0) → P (answered e here ∷ was) → P (mine_back start (e ∷ (others ++ es)) client)
  of_mine P p = subst P (sym mine) p

  joined_stays : IfSome ready.member (JoinedAs AsReader (mine_back start (e ∷ (others ++ es)) client) (shard_of ready))
  joined_stays = go ready.member f.member
    where
      go : (m : Option ℕ) → IfSome m (JoinedAs AsReader was (shard_of ready)) →
          IfSome m (JoinedAs AsReader (mine_back start (e ∷ (others ++ es)) client) (shard_of ready))
      go None h = tt
      go (Some member) h = of_mine (λ os. JoinedAs AsReader os (shard_of ready) member) (inr h)

  -- ---- a transition

  try_on : (new : Reader) (poll : Poll ReadAnswer) → question ready ≡ None → MovesAfterTry ready here new poll →
      Follows client new start (e ∷ (others ++ es))
  try_on new poll none (t, tried, asked, moves, asked_is, poll_is, new_is) = subst (λ (r : Reader). Follows client r start (e ∷
      (others ++ es))) (sym new_is) made
    where
      mid : Reader
      mid = record ready { trying = t }

      call_was : e.call ≡ trying.call_of ready.trying
      call_was = let h : Some (trying.call_of ready.trying) ≡ Some e.call = subst (λ
          (q : Option Question). call_by ready q ≡ Some e.call) none call_is in cc

      follows : FollowsTrying t (mine_back start (e ∷ (others ++ es)) client)
      follows = follows_gained ready.trying t client tried start e others es s.trying own call_was of f.trying moves

      same : Same ready.trying t
      same = moves_same ready.trying t here tried moves

      -- the member of an answered open
      joins : (joined version since : ℕ) → poll ≡ polls.Done (answers.Opened joined version since) →
          JoinedAs AsReader (mine_back start (e ∷ (others ++ es)) client) t.loader.shard joined
      joins joined version since done = by_tried tried refl
        where
          no : (p : Poll ReadAnswer) → poll ≡ p → opened_of p ≡ None → ⊥
          no p h k = let bad : Some joined ≡ None = ap opened_of (sym done ∙ h) ∙ k in cc

          told : (k : Tried) → tried ≡ k → poll ≡ verdict (record ready { trying = t }) asked k
          told k h = poll_is ∙ ap (verdict (record ready { trying = t }) asked) h

          on_open : (v : ℕ) → tried ≡ tries.Committed v → (shard : ShardId) (now lease : ℕ) →
              asked ≡ asks.OpenReader shard now lease → poll ≡ polls.Done (answers.Opened (last_member t.loader.cached) v
              (since_of t.loader.cached)) →
              JoinedAs AsReader (mine_back start (e ∷ (others ++ es)) client) t.loader.shard joined
          on_open v h shard now lease ask p =
              let c = committed_here start list client ready.trying t e others es s.trying call_was of st older f.trying v
              (subst (λ (k : Tried). trying.Moves ready.trying here t k) h moves) in
              let joined_is : last_member t.loader.cached ≡ joined = let q : Some
              (last_member t.loader.cached) ≡ Some joined = ap opened_of (sym p ∙ done) in cc in
              let asked_now : IfSome ready.asked (IsAsked ready) = s.asked in
              let as_asked : IsAsked ready (asks.OpenReader shard now lease) = subst (λ (a : Option Asked). IfSome a
              (IsAsked ready)) (asked_is ∙ ap Some ask) asked_now in
              let step_is : ready.trying.step ≡ Join AsReader now lease = as_asked.2 in
              of_mine (λ os. JoinedAs AsReader os t.loader.shard joined) (inl (subst (λ
              (d : ShardId). IsKindJoin AsReader d joined e.call here) (sym same.shard)
              (is_join v c now lease step_is joined_is)))
            where
              is_join : (v : ℕ) (c : Committing ready.trying t start e (others ++ es) v) (now lease : ℕ) →
                  ready.trying.step ≡ Join AsReader now lease → last_member t.loader.cached ≡ joined →
                  IsKindJoin AsReader (shard_of ready) joined e.call here
              is_join v c now lease step_is joined_is =
                  let applies : Applies c.from (Join AsReader now lease) c.carries.to = subst (λ
                  (x : Transition). Applies c.from x c.carries.to) step_is c.applies in
                  let next : c.carries.to.next_member ≡ c.from.next_member + 1 = next_of c.from c.carries.to now lease applies in
                  let last : c.carries.to.next_member - 1 ≡ joined = sym (ap last_member c.cached) ∙ joined_is in
                  let count : c.carries.to.next_member ≡ joined + 1 = omega arith in
                  let reads : version_in (shard_of ready) v c.carries.bytes ≡ Some
                  (c.carries.to, Join AsReader now lease) = c.carries.carries
                  ∙ ap (λ (x : Transition). Some (c.carries.to, x)) step_is in
                  subst (λ (k : Call). IsKindJoin AsReader (shard_of ready) joined k here) (sym c.carries.call_is)
                  (subst (λ (q : Reply). IsKindJoin AsReader (shard_of ready) joined (calls.Cas
                  (shard_of ready) c.carries.expected c.carries.bytes) q) (sym c.carries.reply_is)
                  (refl, subst (λ o. KindJoins o AsReader joined) (sym reads) (refl, count)))

          -- what a commit of a change is answered
          in_told : (v : ℕ) → tried ≡ tries.Committed v → (a : Asked) (step : Transition) → asked ≡ a → ready.trying.step ≡ step →
              poll ≡ change_poll (record ready { trying = t }) a (committed_outcome t.loader.cached step v)
          in_told v h a step ask is = told (tries.Committed v) h
              ∙ ap (λ (x : Transition). change_poll (record ready { trying = t }) asked (committed_outcome t.loader.cached x v))
              (same.step ∙ is)
              ∙ ap (λ (k : Asked). change_poll (record ready { trying = t }) k (committed_outcome t.loader.cached step v)) ask

          asked_so : AsksAs (shard_of ready) ready.member ready.trying.step ready.listen asked
          asked_so = subst (λ (o : Option Asked). IfSome o (IsAsked ready)) asked_is s.asked

          asks_none : question_of (Some asked) ready.listen ≡ None
          asks_none = subst (λ (o : Option Asked). question_of o ready.listen ≡ None) asked_is none

          by_committed : (v : ℕ) → tried ≡ tries.Committed v → Changed ready asked →
              JoinedAs AsReader (mine_back start (e ∷ (others ++ es)) client) t.loader.shard joined
          by_committed v h (opens shard now lease a here_is step) = on_open v h shard now lease a (in_told v h
              (asks.OpenReader shard now lease) (Join AsReader now lease) a step)
          by_committed v h (advances to member a is step) = absurd (no (polls.Done (answers.Advanced v)) (in_told v h
              (asks.Advance to) (Advance member to) a step) refl)
          by_committed v h (renews now member a is step) = absurd (no (polls.Done (answers.Renewed v)) (in_told v h
              (asks.RenewReader now) (Renew member now) a step) refl)
          by_committed v h (closes member a is step) = absurd (no (polls.Done (answers.Closed v)) (in_told v h asks.CloseReader
              (Leave member) a step) refl)

          by_tried : (k : Tried) → tried ≡ k → JoinedAs AsReader (mine_back start (e ∷
              (others ++ es)) client) t.loader.shard joined
          by_tried (tries.Committed v) h = by_committed v h (changed ready asked asks_none asked_so)
          by_tried tries.Begun h = absurd (no polls.More (told tries.Begun h) refl)
          by_tried tries.Again h = absurd (no polls.More (told tries.Again h) refl)
          by_tried tries.Goes h = absurd (no polls.More (told tries.Goes h) refl)
          by_tried tries.Fault h = absurd (no polls.Fault (told tries.Fault h) refl)
          by_tried (tries.Refused refusal) h = absurd (no (verdict (record ready { trying = t }) asked (tries.Refused refusal))
              (told (tries.Refused refusal) h) (refused_opens (record ready { trying = t }) asked refusal))
          by_tried tries.Spent h = absurd (no polls.Spent (told tries.Spent h) refl)
          by_tried (tries.Damaged damage) h = absurd (no (polls.Damaged damage) (told (tries.Damaged damage) h) refl)

      shard_now : (after_poll (record ready { trying = t }) poll).trying.loader.shard ≡ t.loader.shard
      shard_now = ap (λ (y : Trying). y.loader.shard) (kept_trying (record ready { trying = t }) poll)

      made : Follows client (after_poll (record ready { trying = t }) poll) start (e ∷ (others ++ es))
      made = record {
        trying = subst (λ (y : Trying). FollowsTrying y (mine_back start (e ∷ (others ++ es)) client)) (sym (kept_trying
            (record ready { trying = t }) poll)) follows;
        member = subst (λ (d : ShardId). IfSome (after_poll (record ready { trying = t }) poll).member (JoinedAs AsReader
            (mine_back start (e ∷ (others ++ es)) client) d)) (sym shard_now)
            (member_so (JoinedAs AsReader (mine_back start (e ∷ (others ++ es)) client) t.loader.shard)
            (record ready { trying = t }) poll joins
            (subst (λ (d : ShardId). IfSome ready.member (JoinedAs AsReader (mine_back start (e ∷ (others ++ es)) client) d))
            (sym same.shard) joined_stays));
        reading = subst (λ (q : Option Question). IfSome q (λ q. readings.Follows asking client (after_poll
            (record ready { trying = t }) poll).reading start (e ∷ (others ++ es)))) (sym (question_after
            (record ready { trying = t }) poll none)) tt;
      }

  -- ---- a question

  shown_still : IfSome ready.trying.loader.cached (λ k. ShowsState (answered e here ∷ was) (shard_of ready) k.number k)
  shown_still = shows_on (answered e here) was (shard_of ready) ready.trying.loader.cached f.trying.shown

  -- while a question goes on the transition stands so
  tries_on : FollowsTrying (record ready.trying { calls = trying.more ready.trying.calls }) (mine_back start (e ∷
      (others ++ es)) client)
  tries_on = of_mine (λ os. FollowsTrying (record ready.trying { calls = trying.more ready.trying.calls }) os)
      (with_newest ready.trying (record ready.trying { calls = trying.more ready.trying.calls })
      (answered e here) was f.trying refl refl shown_still)

  goes : (w : Reading Question) → readings.Follows asking client w start (e ∷ (others ++ es)) →
      Follows client (reading_on ready w) start (e ∷ (others ++ es))
  goes w h = record {
    trying = tries_on;
    member = joined_stays;
    reading = if_any (question ready) (readings.Follows asking client w start (e ∷ (others ++ es))) h;
  }

  over : (w : Reading Question) (poll : Poll ReadAnswer) → w.course.loader.shard ≡ shard_of ready → Ends poll →
      readings.Follows asking client w start (e ∷ (others ++ es)) →
      ((joined version since : ℕ) → poll ≡ polls.Done (answers.Opened joined version since) → ⊥) →
      Follows client (after_poll (given_back (reading_on ready w)) poll) start (e ∷ (others ++ es))
  over w poll shard ends h no_open =
      let mid : Reader = given_back (reading_on ready w) in
      let kept = kept_trying mid poll in
      let shard_now : shard_of (after_poll mid poll) ≡ shard_of ready = ap (λ (y : Trying). y.loader.shard) kept ∙ shard in
      record {
        trying = subst (λ (y : Trying). FollowsTrying y (mine_back start (e ∷ (others ++ es)) client)) (sym kept) (record {
          shown = h.shown;
          owned = subst (λ (d : ShardId). OwnsSome (mine_back start (e ∷ (others ++ es)) client) d (acts_for ready.trying.step))
              (sym shard)
              tries_on.owned;
        });
        member = subst (λ (d : ShardId). IfSome (after_poll mid poll).member (JoinedAs AsReader (mine_back start (e ∷
            (others ++ es)) client) d))
            (sym shard_now) (member_so (JoinedAs AsReader (mine_back start (e ∷ (others ++ es)) client) (shard_of ready)) mid poll
            (λ joined version since is. absurd (no_open joined version since is)) joined_stays);
        reading = subst (λ (p : Option Question). IfSome p (λ q. readings.Follows asking client
            (after_poll mid poll).reading start
            (e ∷ (others ++ es)))) (sym (question_ended mid poll ends)) tt;
      }

  module _ (q : Question) (some : question ready ≡ Some q) where
    lent : IsLent ready
    lent = lent_by ready q s some

    asked_is : IsSome ready.reading.asked
    asked_is = subst (λ (o : Option Question). IsSome o) (sym (s.asks ∙ some)) refl

    pub read_asking : Asking (readings.words asking) client ready.reading e.call start es
    read_asking = record {
      is_open = asked_is;
      ready = s.reading;
      call_is = subst (λ (o : Option Question). call_by ready o ≡ Some e.call) some call_is;
      follows = let h = f.reading in subst (λ (o : Option Question). IfSome o
          (λ x. readings.Follows asking client ready.reading start es)) some h;
    }

    pub read_called : Called client ready.reading.course.loader.shard e.call list start e others es
    read_called = record {
      own = own;
      call_is = refl;
      of_others = of;
      stands = subst (λ (d : ShardId). StandsFor start d list) (sym lent.shard) st;
      lawful = lawful;
    }

    read_on : (new : Reader) (poll : Poll ReadAnswer) → MovesAfterRead ready here new poll →
        Follows client new start (e ∷ (others ++ es))
    read_on new poll (w, moves, shard, is) = subst (λ (r : Reader). Follows client r start (e ∷ (others ++ es))) (sym is)
        (by poll refl)
      where
        held : readings.Follows asking client w start (e ∷ (others ++ es))
        held = read_keeps.follows client ready.reading w e.call poll list start e others es read_asking read_called moves

        did : readings.Did asking (readings.kept ready.reading) e.call here poll
        did = read_keeps.effect ready.reading w e.call here poll s.reading asked_is read_asking.call_is moves

        no_open : (answer : ReadAnswer) → poll ≡ polls.Done answer → (joined version since : ℕ) →
            polls.Done answer ≡ polls.Done (answers.Opened joined version since) → ⊥
        no_open answer p joined version since h =
            let same : answer ≡ answers.Opened joined version since = cc in
            let answered_so : IsReadAnswer answer = came_reads ready.reading.asked (IsShown
            (readings.kept ready.reading).shard e.call here) here
            answer (subst (λ (y : Poll ReadAnswer). IsSomeAnd ready.reading.asked (λ x. readings.DidBy asking x
            (IsShown (readings.kept ready.reading).shard e.call here) here y)) p did.did) in
            subst IsReadAnswer same answered_so

        by : (p : Poll ReadAnswer) → poll ≡ p → Follows client (after_poll (taken_back (reading_on ready w) p) p) start (e ∷
            (others ++ es))
        by polls.Busy p = goes w held
        by polls.More p = goes w held
        by polls.Fault p = goes w held
        by polls.Spent p = over w polls.Spent shard tt held (λ joined version since h. let bad : polls.Spent ≡ polls.Done
            (answers.Opened joined version since) = h in cc)
        by (polls.Damaged damage) p = over w (polls.Damaged damage) shard tt held
            (λ joined version since h. let bad : polls.Damaged damage ≡ polls.Done
            (answers.Opened joined version since) = h in cc)
        by (polls.Done answer) p = over w (polls.Done answer) shard tt held (no_open answer p)

  -- ---- any reply

  pub moved_on : (new : Reader) (poll : Poll ReadAnswer) → Moves ready here new poll →
      Follows client new start (e ∷ (others ++ es))
  moved_on new poll moves = go (question ready) refl moves
    where
      go : (q : Option Question) → question ready ≡ q → MovesBy q ready here new poll →
          Follows client new start (e ∷ (others ++ es))
      go None none m = try_on new poll none m
      go (Some q) some m = read_on q some new poll m

  -- after want of memory
  pub wants_on : (new : Reader) → Wants ready new → Follows client new start (e ∷ (others ++ es))
  wants_on new w = go (question ready) refl w
    where
      go : (q : Option Question) → question ready ≡ q → WantsBy q ready new → Follows client new start (e ∷ (others ++ es))
      go None none (idle, is) =
          let z : Reader = record ready { trying = trying.called ready.trying } in
          subst (λ (y : Reader). Follows client y start (e ∷ (others ++ es))) (sym is)
          (record {
            trying = follows_called ready.trying (trying.called ready.trying) client start e others es own of f.trying refl;
            member = joined_stays;
            reading = subst (λ (p : Option Question). IfSome p (λ q. readings.Follows asking client z.reading start (e ∷
                (others ++ es))))
                (sym none) tt;
          })
      go (Some q) some is =
          let x : Reading Question = record ready.reading { course = counted ready.reading.course } in
          subst (λ (y : Reader). Follows client y start (e ∷ (others ++ es))) (sym is)
          (goes x (read_keeps.wanted_follows client ready.reading x e.call list start e others es (read_asking q some)
          (read_called q some) refl))
