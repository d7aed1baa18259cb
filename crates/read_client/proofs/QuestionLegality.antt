-- A legal answer to a question is legal as an answer to the command that asks it. Entries go newest first.
use Rattle.std.proofs.Common.{◌≡◌, ℕ, ◌<◌, Option, Some, None, List, ◌∷◌, ◌++◌, refl, sym, ap, subst, ◌∙◌}
use Rattle.std.specs.Prelude.{IfSome, IsSomeAnd}
use Rattle.update_core.specs.declared.updates.Update.{Update}
use Rattle.update_core.specs.Frontiers.{after}
use Rattle.store_core.specs.declared.shards.ShardId.{ShardId}
use Rattle.store_core.specs.declared.entries.Entry.{Entry}
use Rattle.store_core.specs.Stores.{Stored}
use Rattle.store_core.specs.Histories.{reply}
use Rattle.store_core.specs.Ports.{OfOthers}
use Rattle.store_core.specs.Newest.{replay_back}
use Rattle.update_core.specs.Limits.{most}
use Rattle.history_core.specs.declared.asked.Asked.{Asked}
use Rattle.history_core.specs.declared.asked.Asked.TheVariants as asks
use Rattle.history_core.specs.declared.read_answers.ReadAnswer.{ReadAnswer}
use Rattle.history_core.specs.declared.read_answers.ReadAnswer.TheVariants as answers
use Rattle.history_core.specs.Discipline.{LawfulBack}
use Rattle.history_core.specs.Legal.{AtLast, LegalOfReader, LegalReadBack, LegalStep}
use Rattle.history_core.specs.Placing.{AtLastScan, Placed, places}
use Rattle.history_core.specs.Stands.{StandsFor}
use Rattle.load_core.specs.declared.polls.Poll.{Poll}
use Rattle.load_core.specs.declared.polls.Poll.TheVariants as polls
use Rattle.load_core.specs.Trying as trying
use Rattle.machine_core.specs.Machines as machines
use Rattle.read_machine.specs.Readings as readings
use Rattle.read_client.specs.declared.questions.Question.{Question}
use Rattle.read_client.specs.declared.questions.Question.TheVariants as questions
use Rattle.read_client.specs.declared.readers.Reader.{Reader}
use Rattle.read_client.specs.Asking.{QuestionLegal as LegalAsked, QuestionReads as ReadsAsked, asking, question_of, step_question}
use Rattle.read_client.specs.Following.{Follows}
use Rattle.read_client.specs.Machining.{command_in, kept}
use Rattle.read_client.specs.Polling.{ReadsParts}
use Rattle.read_client.specs.Reading.{AsksAs, IsLent, IsOpen, IsSound, MovesAfterRead, call_of, question, shard_of}
use Rattle.read_client.proofs.Changing.{is_there}
use Rattle.read_client.proofs.FollowsOn.{read_asking, read_called}
use Rattle.read_client.proofs.LegalPolls.{LegalOf, LegalPoll, legal_poll}
use Rattle.read_client.proofs.Questioning.{read_keeps}
use Rattle.read_client.proofs.Sound.{lent_by}

module _ (client : ℕ) (r : Reader) (list : List Update) (start : Stored) (e : Entry) (others es : List Entry) (calls member : ℕ)
    (is : r.member ≡ Some member) where
  -- the command's entries
  abbrev pub ps : List Placed
  ps = places client calls (e ∷ (others ++ es))

  abbrev QuestionLegal : Question → ReadAnswer → Type 0
  QuestionLegal q answer = LegalAsked q (shard_of r) member start ps list answer

  abbrev QuestionReads : Question → ReadAnswer → Type 0
  QuestionReads q answer = ReadsAsked q (shard_of r) start ps answer

  -- both parts of a legal answer
  abbrev pub Told : Question → ReadAnswer → Type 0
  Told q answer = QuestionLegal q answer × QuestionReads q answer

  reads_content : (t : ℕ) (answer : ReadAnswer) → QuestionLegal (questions.Content t) answer →
      QuestionReads (questions.Content t) answer →
      ReadsParts client (shard_of r) calls answer start (e ∷ (others ++ es)) (asks.Snapshot t)
  reads_content t (answers.Rows rows) legal h = h
  reads_content t (answers.Step from to rows) legal h = absurd legal
  reads_content t (answers.Opened joined version since) legal h = tt
  reads_content t (answers.MembersFull version) legal h = tt
  reads_content t (answers.Early since) legal h = tt
  reads_content t (answers.Late upper) legal h = tt
  reads_content t (answers.Quiet upper) legal h = tt
  reads_content t answers.Ended legal h = tt
  reads_content t (answers.Advanced version) legal h = tt
  reads_content t (answers.Back since) legal h = tt
  reads_content t (answers.Renewed version) legal h = tt
  reads_content t (answers.Closed version) legal h = tt
  reads_content t (answers.Expired version) legal h = tt

  reads_step : (f : Option ℕ) (asked : Asked) (answer : ReadAnswer) → QuestionLegal (questions.Step f) answer →
      QuestionReads (questions.Step f) answer →
      ReadsParts client (shard_of r) calls answer start (e ∷ (others ++ es)) asked
  reads_step f asked (answers.Rows rows) legal h = absurd legal
  reads_step f asked (answers.Step from to rows) legal h = h
  reads_step f asked (answers.Opened joined version since) legal h = tt
  reads_step f asked (answers.MembersFull version) legal h = tt
  reads_step f asked (answers.Early since) legal h = tt
  reads_step f asked (answers.Late upper) legal h = tt
  reads_step f asked (answers.Quiet upper) legal h = tt
  reads_step f asked answers.Ended legal h = tt
  reads_step f asked (answers.Advanced version) legal h = tt
  reads_step f asked (answers.Back since) legal h = tt
  reads_step f asked (answers.Renewed version) legal h = tt
  reads_step f asked (answers.Closed version) legal h = tt
  reads_step f asked (answers.Expired version) legal h = tt

  -- it is legal as an answer to the command that asks it
  pub question_done : (q : Question) (asked : Asked) → question_of (Some asked) r.listen ≡ Some q →
      AsksAs (shard_of r) r.member r.trying.step r.listen asked → (answer : ReadAnswer) → Told q answer →
      LegalReadBack list start (e ∷ (others ++ es)) (command_in client (kept r) asked calls) answer × ReadsParts client
      (shard_of r) calls answer start (e ∷ (others ++ es)) asked
  question_done q (asks.Snapshot t) same h answer (legal, reads) =
      let this : q ≡ questions.Content t = cc in
      let legal2 = subst (λ (x : Question). QuestionLegal x answer) this legal in
      let reads2 = subst (λ (x : Question). QuestionReads x answer) this reads in (
        subst (λ (o : Option ℕ). IsSomeAnd o (λ n. LegalOfReader list start (shard_of r) n r.listen ps (asks.Snapshot t) answer))
            (sym is) legal2,
        reads_content t answer legal2 reads2,
      )
  question_done q (asks.Listen as_of) same h answer (legal, reads) =
      let found : Some (questions.Step (after as_of)) ≡ Some q = sym (ap step_question h.1) ∙ same in
      let this : q ≡ questions.Step (after as_of) = cc in
      let legal2 = subst (λ (x : Question). QuestionLegal x answer) this legal in
      let reads2 = subst (λ (x : Question). QuestionReads x answer) this reads in (
        subst (λ (o : Option ℕ). IsSomeAnd o (λ n. LegalOfReader list start (shard_of r) n r.listen ps
            (asks.Listen as_of) answer)) (sym is) legal2,
        reads_step (after as_of) (asks.Listen as_of) answer legal2 reads2,
      )
  question_done q asks.Next same h answer (legal, reads) =
      let (f, there) = is_there r.listen h.1 in
      let found : Some (questions.Step f) ≡ Some q = sym (ap step_question there) ∙ same in
      let this : q ≡ questions.Step f = cc in
      let legal2 = subst (λ (x : Question). QuestionLegal x answer) this legal in
      let reads2 = subst (λ (x : Question). QuestionReads x answer) this reads in (
        subst (λ (o : Option ℕ). IsSomeAnd o (λ n. LegalOfReader list start (shard_of r) n r.listen ps asks.Next answer)) (sym is)
            (subst (λ (l : Option (Option ℕ)). IsSomeAnd l (λ g. LegalStep list start (shard_of r) member ps g answer))
            (sym there) legal2),
        reads_step f asks.Next answer legal2 reads2,
      )
  question_done q other same h answer (legal, reads) = absurd (let bad : None ≡ Some q = same in cc)

-- a question is that of an open command
asked_there : (o : Option Asked) (listen : Option (Option ℕ)) (q : Question) → question_of o listen ≡ Some q →
    (a : Asked) × (o ≡ Some a)
asked_there None listen q h = absurd (let bad : None ≡ Some q = h in cc)
asked_there (Some a) listen q h = (a, refl)

-- both parts of a legal answer, at the end of these entries
abbrev ToldAt : ShardId → ℕ → Stored → List Placed → List Update → Question → ReadAnswer → Type 0
ToldAt shard member start ps list q answer = LegalAsked q shard member start ps list answer × ReadsAsked q shard start ps answer

-- each poll of a question is legal
pub read_legal : (client : ℕ) (r new : Reader) (poll : Poll ReadAnswer) (list : List Update) (start : Stored) (e : Entry)
    (others es : List Entry) →
    IsOpen r → IsSound r → Follows client r start es → e.client ≡ client → call_of r ≡ Some e.call → OfOthers client others →
    StandsFor start (shard_of r) list → LawfulBack start (e ∷ (others ++ es)) → (q : Question) → question r ≡ Some q →
    new.trying.calls ≡ trying.more r.trying.calls → MovesAfterRead r (reply (replay_back start (others ++ es)) e) new poll →
    LegalPoll client r new poll start (e ∷ (others ++ es)) list
read_legal client r new poll list start e others es is_open s f own call_is of st lawful q some counts (w, moves, shard, now) =
    legal_poll client r list start e others es (trying.more r.trying.calls) new told poll counts told_is (by poll
    (read_keeps.legal client r.reading w e.call poll list start e others es
    (read_asking start list client r e others es is_open s call_is own of st lawful f q some)
    (read_called start list client r e others es is_open s call_is own of st lawful f q some) moves))
  where
    lent : IsLent r
    lent = lent_by r q s some

    told : Asked
    told = (asked_there r.asked r.listen q some).0

    told_is : r.asked ≡ Some told
    told_is = (asked_there r.asked r.listen q some).1

    asks_told : question_of (Some told) r.listen ≡ Some q
    asks_told = subst (λ (o : Option Asked). question_of o r.listen ≡ Some q) told_is some

    asks_as : AsksAs (shard_of r) r.member r.trying.step r.listen told
    asks_as = let h = s.asked in
        subst (λ (o : Option Asked). IfSome o (λ a. AsksAs (shard_of r) r.member r.trying.step r.listen a)) told_is h

    counted_is : w.course.calls ≡ trying.more r.trying.calls
    counted_is = read_keeps.counted r.reading w (reply (replay_back start (others ++ es)) e) poll moves
        ∙ ap trying.more lent.calls

    low : trying.more r.trying.calls < most → w.course.calls < most
    low less = subst (λ (n : ℕ). n < most) (sym counted_is) less

    by : (p : Poll ReadAnswer) →
        machines.LegalPoll (readings.words asking) client (readings.kept r.reading) w.course.calls p start (e ∷
        (others ++ es)) list →
        LegalOf client r list start e others es (trying.more r.trying.calls) told p
    by polls.Busy h = tt
    by polls.More h = tt
    by polls.Fault h = tt
    by polls.Spent h = λ less. subst (λ (n : ℕ). AtLastScan (shard_of r) (AtLast start (shard_of r) (λ number s. number ≡ most))
        (places client n (e ∷ (others ++ es))))
        counted_is (subst (λ (d : ShardId). AtLastScan d (AtLast start d (λ number s. number ≡ most))
        (places client w.course.calls (e ∷ (others ++ es))))
        lent.shard (h (low less)))
    by (polls.Damaged damage) h = h
    by (polls.Done answer) h = λ less.
        let legal : ToldAt r.reading.course.loader.shard r.reading.course.member start (places client w.course.calls (e ∷
        (others ++ es))) list q answer =
        subst (λ (o : Option Question). IfSome o (λ x. ToldAt r.reading.course.loader.shard r.reading.course.member start
        (places client w.course.calls (e ∷ (others ++ es))) list x answer)) (s.asks ∙ some) (h (low less)) in
        question_done client r list start e others es (trying.more r.trying.calls) r.reading.course.member lent.member q told
        asks_told asks_as answer
        (subst (λ (n : ℕ). ToldAt (shard_of r) r.reading.course.member start (places client n (e ∷
        (others ++ es))) list q answer) counted_is
        (subst (λ (d : ShardId). ToldAt d r.reading.course.member start (places client w.course.calls (e ∷
        (others ++ es))) list q answer) lent.shard legal))
