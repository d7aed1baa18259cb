-- What holds of a snapshot and of a step, as questions. Entries go newest first.
use Rattle.std.proofs.Common.{◌≡◌, ℕ, Option, Some, None, List, [], ◌∷◌, refl, sym, ap, subst, ◌∙◌}
use Rattle.std.specs.Prelude.{⊤, IsSomeAnd, nat_le}
use Rattle.std.specs.List.{AllByRecursion}
use Rattle.std.specs.Ordering.{is_lt}
use Rattle.update_core.specs.declared.updates.Update.{Update}
use Rattle.update_core.specs.Collections.{Collection as PlainCollection, ListenAnswer, SnapshotAnswer, behind, content, early}
use Rattle.update_core.specs.Collections.{ended, late, listen_answer, quiet, snapshot_answer, step}
use Rattle.update_core.specs.Frontiers.{frontier_cmp}
use Rattle.update_core.specs.Updates.{slice_of, sum_of}
use Rattle.store_core.specs.declared.part_keys.PartKey.{PartKey}
use Rattle.store_core.specs.declared.shards.ShardId.{ShardId}
use Rattle.store_core.specs.declared.replies.Reply.{Reply}
use Rattle.store_core.specs.declared.entries.Entry.{Entry}
use Rattle.store_core.specs.Stores.{Stored}
use Rattle.store_core.specs.Newest.{mine_back, replay_back}
use Rattle.state_core.specs.Lists.{Among}
use Rattle.state_core.specs.States.{ShardState}
use Rattle.state_core.proofs.ListLemmas.{each_intro}
use Rattle.history_core.specs.declared.read_answers.ReadAnswer.{ReadAnswer}
use Rattle.history_core.specs.declared.read_answers.ReadAnswer.TheVariants as answers
use Rattle.history_core.specs.Discipline.{GotAs}
use Rattle.history_core.specs.Laws.{LastIs}
use Rattle.history_core.specs.Legal.{Absent, AtLast, PartsGot, Reads, ReadsAt, collection_in, snapshot_keys, step_keys}
use Rattle.history_core.specs.Placing.{GotSinceScan, Placed}
use Rattle.history_core.specs.Stands.{accepted}
use Rattle.load_core.specs.declared.polls.Poll.{Poll}
use Rattle.load_core.specs.declared.polls.Poll.TheVariants as polls
use Rattle.change_core.proofs.Members.{found_stands}
use Rattle.machine_core.specs.Machines.{Ending, Keeps}
use Rattle.read_machine.specs.declared.looks.Look.{Look}
use Rattle.read_machine.specs.declared.looks.Look.TheVariants as looks
use Rattle.read_machine.specs.Questions.{GotSince, IsQuestion, ShownAt, SomeParts, since}
use Rattle.read_machine.specs.Readings.{CameBy, DidBy, lapsed, looked, read, words}
use Rattle.read_machine.proofs.Keeping.{ending, keeps}
use Rattle.read_machine.proofs.Shown.{at_scan, each_got}
use Rattle.read_machine.proofs.Undamaged.{last_then, updates_are}
use Rattle.read_client.specs.declared.questions.Question.{Question}
use Rattle.read_client.specs.declared.questions.Question.TheVariants as questions
use Rattle.read_client.specs.Asking.{QuestionLegal, QuestionReads, RowGot, asking, asks_of, content_look, rows_answer, step_look}
use Rattle.read_client.specs.Polling.{IsRefusal}
use Rattle.read_client.proofs.Contents.{rows_back, stand_back, step_back}
use Rattle.read_client.proofs.Looks.{HowListen, HowSnapshot, behinds, contents, earlies, endeds, how_listen, how_snapshot, lates}
use Rattle.read_client.proofs.Looks.{quiets, steps}
use Rattle.read_client.proofs.StepParts.{row_in, row_since}

-- a look is one thing alone
abbrev answer_of : Look ReadAnswer → ReadAnswer
answer_of (looks.Answer a) = a
answer_of (looks.Parts ks) = answers.Ended

abbrev parts_of : Look ReadAnswer → List PartKey
parts_of (looks.Answer a) = []
parts_of (looks.Parts ks) = ks

apart : {P : Type 0} (a : ReadAnswer) (ks : List PartKey) → looks.Answer a ≡ looks.Parts ks → P
apart a ks e = absurd (cc)

-- what a state tells at once of a content, and which parts it names, as the collection does for all updates
module _ (t : ℕ) (s : ShardState) where
  abbrev Says : (List Update → SnapshotAnswer) → Type 0
  Says answer = (us : List Update) → snapshot_answer (collection_in us s) t ≡ answer us

  snapshot_tells : (a : ReadAnswer) → asks_of (questions.Content t) s ≡ looks.Answer a → (P : ReadAnswer → Type 0) →
      (Says (λ us. early s.since) → P (answers.Early s.since)) → (Says (λ us. late s.upper) → P (answers.Late s.upper)) → P a
  snapshot_tells a e P if_early if_late = by (how_snapshot t s)
    where
      by : HowSnapshot t s → P a
      by (earlies h) = subst P (ap answer_of (sym (ap (content_look t s) (h [])) ∙ e)) (if_early h)
      by (lates h) = subst P (ap answer_of (sym (ap (content_look t s) (h [])) ∙ e)) (if_late h)
      by (contents h) = apart a (snapshot_keys t s) (sym e ∙ ap (content_look t s) (h []))

  snapshot_reads : (keys : List PartKey) → asks_of (questions.Content t) s ≡ looks.Parts keys → (P : List PartKey → Type 0) →
      (Says (λ us. content (sum_of us t)) → P (snapshot_keys t s)) → P keys
  snapshot_reads keys e P if_content = by (how_snapshot t s)
    where
      by : HowSnapshot t s → P keys
      by (earlies h) = apart (answers.Early s.since) keys (sym (ap (content_look t s) (h [])) ∙ e)
      by (lates h) = apart (answers.Late s.upper) keys (sym (ap (content_look t s) (h [])) ∙ e)
      by (contents h) = subst P (ap parts_of (sym (ap (content_look t s) (h [])) ∙ e)) (if_content h)

-- and of a step
module _ (f : Option ℕ) (s : ShardState) where
  abbrev Hears : (List Update → ListenAnswer) → Type 0
  Hears answer = (us : List Update) → listen_answer (collection_in us s) f ≡ answer us

  listen_tells : (a : ReadAnswer) → asks_of (questions.Step f) s ≡ looks.Answer a → (P : ReadAnswer → Type 0) →
      (Hears (λ us. behind s.since) → P (answers.Early s.since)) → (Hears (λ us. ended) → P answers.Ended) →
      (Hears (λ us. quiet s.upper) → P (answers.Quiet s.upper)) → P a
  listen_tells a e P if_behind if_ended if_quiet = by (how_listen f s)
    where
      by : HowListen f s → P a
      by (behinds h) = subst P (ap answer_of (sym (ap (step_look f s) (h [])) ∙ e)) (if_behind h)
      by (endeds h) = subst P (ap answer_of (sym (ap (step_look f s) (h [])) ∙ e)) (if_ended h)
      by (quiets h) = subst P (ap answer_of (sym (ap (step_look f s) (h [])) ∙ e)) (if_quiet h)
      by (steps h) = apart a (step_keys f s) (sym e ∙ ap (step_look f s) (h []))

  listen_reads : (keys : List PartKey) → asks_of (questions.Step f) s ≡ looks.Parts keys → (P : List PartKey → Type 0) →
      (Hears (λ us. step (slice_of us f s.upper) s.upper) → P (step_keys f s)) → P keys
  listen_reads keys e P if_step = by (how_listen f s)
    where
      by : HowListen f s → P keys
      by (behinds h) = apart (answers.Early s.since) keys (sym (ap (step_look f s) (h [])) ∙ e)
      by (endeds h) = apart answers.Ended keys (sym (ap (step_look f s) (h [])) ∙ e)
      by (quiets h) = apart (answers.Quiet s.upper) keys (sym (ap (step_look f s) (h [])) ∙ e)
      by (steps h) = subst P (ap parts_of (sym (ap (step_look f s) (h [])) ∙ e)) (if_step h)

-- the parts are those of some batches
some_parts : (q : Question) (s : ShardState) (keys : List PartKey) → asks_of q s ≡ looks.Parts keys → SomeParts s keys
some_parts (questions.Content t) s keys e = snapshot_reads t s keys e (SomeParts s)
    (λ h. record { test = λ b. nat_le b.desc.lower t; keys_are = refl })
some_parts (questions.Step f) s keys e = listen_reads f s keys e (SomeParts s)
    (λ h. record { test = λ b. is_lt (frontier_cmp f b.desc.upper); keys_are = refl })

-- ---- at the Scan that showed the state

module _ (client : ℕ) (shard : ShardId) (member calls : ℕ) (list : List Update) (start : Stored) (later : List Entry)
    (scan : Entry)
    (before : List Entry) (s : ShardState) (at : ShownAt client shard member calls list start later scan before s) where
  abbrev ps : List Placed
  ps = since client calls later scan before

  -- the accepted updates there
  abbrev there : List Update
  there = accepted shard list start before

  abbrev Told : Question → ReadAnswer → Type 0
  Told q answer = QuestionLegal q shard member start ps list answer × QuestionReads q shard start ps answer

  reads_at : (P : PlainCollection → Type 0) → P (collection_in there s) → Reads list start shard member P ps
  reads_at P h = at_scan client shard member calls list start later scan before s at (ReadsAt list start shard member P)
      (s.number, s, at.last, (found_stands member at.found (λ w. ⊤) s.members at.found_is tt, h))

  parts_at : (parts : ShardState → List PartKey) (rows : List Update) → GotSince client start later scan before (parts s) rows →
      PartsGot start shard parts ps
  parts_at parts rows held = at_scan client shard member calls list start later scan before s at
      (AtLast start shard (λ n k. AllByRecursion (λ x. GotSinceScan start shard x ps) (parts k)))
      (s.number, s, at.last, each_got client shard member calls list start later scan before s at (parts s) rows held)

  seen_told : (q : Question) (answer : ReadAnswer) → asks_of q s ≡ looks.Answer answer → Told q answer
  seen_told (questions.Content t) answer e = snapshot_tells t s answer e (Told (questions.Content t))
      (λ h. (reads_at (λ c. snapshot_answer c t ≡ early s.since) (h there), tt))
      (λ h. (reads_at (λ c. snapshot_answer c t ≡ late s.upper) (h there), tt))
  seen_told (questions.Step f) answer e = listen_tells f s answer e (Told (questions.Step f))
      (λ h. (reads_at (λ c. listen_answer c f ≡ behind s.since) (h there), tt))
      (λ h. (reads_at (λ c. listen_answer c f ≡ ended) (h there), tt))
      (λ h. (reads_at (λ c. listen_answer c f ≡ quiet s.upper) (h there), tt))

  -- and where the parts were got since then
  abbrev now : List Update
  now = accepted shard list start (scan ∷ before)

  now_is : now ≡ there
  now_is = updates_are client start shard list at.stands later scan before at.lawful s at.answered at.last

  last_now : LastIs (replay_back start (scan ∷ before)) shard s.number s
  last_now = last_then client start shard list at.stands later scan before at.lawful s at.answered at.last

  content_told : (t : ℕ) (rows : List Update) → Says t s (λ us. content (sum_of us t)) →
      GotSince client start later scan before (snapshot_keys t s) rows →
      Told (questions.Content t) (rows_answer (questions.Content t) s rows)
  content_told t rows h held =
      let sums : sum_of rows t ≡ sum_of there t =
      rows_back start (scan ∷ before) later shard list at.stands at.lawful s.number s last_now t (sum_of now t)
      (h now) client rows held ∙
      ap (λ (us : List Update). sum_of us t) now_is in (
        reads_at (λ c. snapshot_answer c t ≡ content (sum_of rows t)) (h there
            ∙ ap content (sym sums)),
        parts_at (snapshot_keys t) rows held,
      )

  step_told : (f : Option ℕ) (rows : List Update) → Hears f s (λ us. step (slice_of us f s.upper) s.upper) →
      GotSince client start later scan before (step_keys f s) rows →
      Told (questions.Step f) (rows_answer (questions.Step f) s rows)
  step_told f rows h held =
      let slices : slice_of rows f s.upper ≡ slice_of now f s.upper =
      step_back start (scan ∷ before) later shard list at.stands at.lawful s.number s last_now f s.upper
      (slice_of now f s.upper) (h now)
      client rows held in
      let stand = stand_back start (scan ∷ before) later shard list at.stands at.lawful s.number s last_now f s.upper
      (slice_of now f s.upper) (h now) client rows held in
      let slices2 : slice_of rows f s.upper ≡ slice_of there f s.upper = slices
      ∙ ap (λ (us : List Update). slice_of us f s.upper) now_is in (
        (
          refl,
          reads_at (λ c. listen_answer c f ≡ step (slice_of rows f s.upper) s.upper)
              (h there ∙ ap (λ (us : List Update). step us s.upper) (sym slices2)),
        ),
        (
          parts_at (step_keys f) rows held,
          each_intro (RowGot start shard ps) (slice_of rows f s.upper)
              (λ row among. row_since client calls start shard row later scan before at.quiet at.few
              (row_in (GotAs (mine_back (replay_back start (scan ∷ before)) later client)) (step_keys f s) rows row held
              (stand row (subst (Among (λ other. other ≡ row)) slices among)))),
        ),
      )

  got_told : (q : Question) (keys : List PartKey) (rows : List Update) → asks_of q s ≡ looks.Parts keys →
      GotSince client start later scan before keys rows → Told q (rows_answer q s rows)
  got_told (questions.Content t) keys rows e held = snapshot_reads t s keys e
      (λ ks. GotSince client start later scan before ks rows →
      Told (questions.Content t) (rows_answer (questions.Content t) s rows)) (λ h got. content_told t rows h got) held
  got_told (questions.Step f) keys rows e held = listen_reads f s keys e (λ ks. GotSince client start later scan before ks rows →
      Told (questions.Step f) (rows_answer (questions.Step f) s rows)) (λ h got. step_told f rows h got) held

gone_told : (q : Question) (shard : ShardId) (member version : ℕ) (start : Stored) (ps : List Placed) (list : List Update) →
    Absent start shard member version ps →
    QuestionLegal q shard member start ps list (answers.Expired version) × QuestionReads q shard start ps
    (answers.Expired version)
gone_told (questions.Content t) shard member version start entries list h = (h, tt)
gone_told (questions.Step f) shard member version start entries list h = (h, tt)

pub is_question : IsQuestion asking
is_question = record {
  kind_taken = refl;
  leased = refl;
  parts = λ q s keys rules e. some_parts q s keys e;
  seen = λ q client shard member calls list start later scan before s answer at. seen_told client shard member calls list start
      later scan
      before s at q answer;
  got = λ q client shard member calls list start later scan before s keys rows at. got_told client shard member calls list start
      later scan
      before s at q keys rows;
  gone = gone_told;
}

-- ---- a question as a machine

pub read_keeps : Keeps (words asking)
read_keeps = keeps asking is_question

pub read_ending : Ending (words asking)
read_ending = ending asking is_question

-- an answer to a question
abbrev pub IsReadAnswer : ReadAnswer → Type 0
IsReadAnswer (answers.Rows rows) = ⊤
IsReadAnswer (answers.Early since) = ⊤
IsReadAnswer (answers.Late upper) = ⊤
IsReadAnswer (answers.Step from to rows) = ⊤
IsReadAnswer (answers.Quiet upper) = ⊤
IsReadAnswer answers.Ended = ⊤
IsReadAnswer (answers.Expired version) = ⊤
IsReadAnswer _ = ⊥

look_reads : (q : Question) (s : ShardState) (answer : ReadAnswer) → asks_of q s ≡ looks.Answer answer → IsReadAnswer answer
look_reads (questions.Content t) s answer e = snapshot_tells t s answer e IsReadAnswer (λ h. tt) (λ h. tt)
look_reads (questions.Step f) s answer e = listen_tells f s answer e IsReadAnswer (λ h. tt) (λ h. tt) (λ h. tt)

rows_read : (q : Question) (s : ShardState) (rows : List Update) → IsReadAnswer (rows_answer q s rows)
rows_read (questions.Content t) s rows = tt
rows_read (questions.Step f) s rows = tt

rows_given : (q : Question) (s : ShardState) (rows : List Update) → ¬ IsRefusal (polls.Done (rows_answer q s rows))
rows_given (questions.Content t) s rows h = h
rows_given (questions.Step f) s rows h = h

-- what a question is answered is such an answer
pub came_reads : (o : Option Question) (Shown : Type 0) (r : Reply) (answer : ReadAnswer) →
    IsSomeAnd o (λ q. DidBy asking q Shown r (polls.Done answer)) → IsReadAnswer answer
came_reads None Shown r answer h = absurd h
came_reads (Some q) Shown r answer (none, came) = by came
  where
    by : CameBy asking q Shown answer → IsReadAnswer answer
    by (looked s look shown) = look_reads q s answer look
    by (read s rows is) = subst IsReadAnswer (sym is) (rows_read q s rows)
    by (lapsed version is shown) = subst IsReadAnswer (sym is) tt

-- and a refusal among them is shown by a Scan
pub came_shown : (o : Option Question) (Shown : Type 0) (r : Reply) (poll : Poll ReadAnswer) →
    IsSomeAnd o (λ q. DidBy asking q Shown r poll) → IsRefusal poll → Shown
came_shown None Shown r poll h refused = absurd h
came_shown (Some q) Shown r polls.Spent h refused = absurd h
came_shown (Some q) Shown r polls.Busy h refused = absurd refused
came_shown (Some q) Shown r polls.More h refused = absurd refused
came_shown (Some q) Shown r polls.Fault h refused = absurd refused
came_shown (Some q) Shown r (polls.Damaged damage) h refused = absurd refused
came_shown (Some q) Shown r (polls.Done answer) (none, came) refused = by came
  where
    by : CameBy asking q Shown answer → Shown
    by (looked s look shown) = shown
    by (read s rows is) = absurd (rows_given q s rows (subst (λ (a : ReadAnswer). IsRefusal (polls.Done a)) is refused))
    by (lapsed version is shown) = shown
