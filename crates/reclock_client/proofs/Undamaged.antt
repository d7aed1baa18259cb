-- A poll of an operator over collections is never Damaged. Entries go newest first.
use Rattle.std.proofs.Common.{◌≡◌, ℕ, ◌+◌, ◌<◌, true, false, Option, Some, None, List, [], ◌∷◌, refl, sym, ap, subst, ◌∙◌}
use Rattle.std.specs.List.{AllByRecursion}
use Rattle.std.specs.Prelude.{IfSome, IsSome, min, reverse}
use Rattle.update_core.specs.declared.updates.Update.{Update}
use Rattle.update_core.specs.Frontiers.{covers}
use Rattle.update_core.specs.Limits.{most}
use Rattle.update_core.specs.Updates.{moved, slice_of}
use Rattle.store_core.specs.declared.entries.Entry.{Entry}
use Rattle.store_core.specs.declared.shards.ShardId.{ShardId}
use Rattle.store_core.specs.Histories.{History}
use Rattle.store_core.specs.Stores.{Stored}
use Rattle.history_core.specs.declared.asked.Asked.{Asked}
use Rattle.history_core.specs.declared.read_answers.ReadAnswer.{ReadAnswer}
use Rattle.history_core.specs.declared.read_answers.ReadAnswer.TheVariants as reads
use Rattle.history_core.specs.declared.write_answers.WriteAnswer.{WriteAnswer}
use Rattle.history_core.specs.Discipline.{Lawful}
use Rattle.history_core.specs.Placing.{places}
use Rattle.history_core.specs.Stands.{StandsFor, accepted}
use Rattle.history_core.proofs.Prefixes.{lawful_back}
use Rattle.load_core.specs.declared.damages.Damage.{Damage}
use Rattle.load_core.specs.declared.polls.Poll.{Poll}
use Rattle.load_core.specs.declared.polls.Poll.TheVariants as polls
use Rattle.load_core.specs.Fronts.{Backwards, WhereLawful}
use Rattle.machine_core.specs.Machines.{LegalPoll, Words, shard_of}
use Rattle.machine_core.specs.Polling.{LegalWhere}
use Rattle.read_client.specs.declared.readers.Reader.{Reader}
use Rattle.read_client.specs.Machining as readers
use Rattle.write_client.specs.Machining as writers
use Rattle.remap_core.specs.Extending.{InTime, last_time, with_rows}
use Rattle.remap_core.specs.RemapShards.{IsBinding}
use Rattle.remap_core.proofs.StepLaws.{slice_in_time}
use Rattle.reclock_client.specs.declared.courses.Course.{Course}
use Rattle.reclock_client.specs.declared.errands.Errand.{Errand}
use Rattle.reclock_client.specs.declared.intakes.Intake.{Intake}
use Rattle.reclock_client.specs.declared.intakes.Intake.TheVariants as intakes
use Rattle.reclock_client.specs.declared.operators.Operator.{Operator}
use Rattle.reclock_client.specs.declared.steps.Part.{Part}
use Rattle.reclock_client.specs.declared.steps.Part.TheVariants as parts
use Rattle.reclock_client.specs.declared.steps.Step.{Step}
use Rattle.reclock_client.specs.declared.steps.Step.TheVariants as steps
use Rattle.reclock_client.specs.Asking.{AsksData, AsksReader, AsksRemap, InTurn, duties}
use Rattle.reclock_client.specs.Commands.{after_data_writer, after_reader, after_remap_writer, published_from}
use Rattle.reclock_client.specs.Damages.{IsNoCollection, NeverDamaged}
use Rattle.reclock_client.specs.Known.{knowledge, known}
use Rattle.reclock_client.specs.Knowing.{Counts, Knows, KnowsWhere, Learned}
use Rattle.reclock_client.specs.Looking as looks
use Rattle.reclock_client.specs.Operators.{IsOpen, IsSound, open_calls, part_of}
use Rattle.reclock_client.specs.Polling.{PolledBy, bound, counted}
use Rattle.reclock_client.specs.Reading.{in_time, left}
use Rattle.reclock_client.specs.Turns.{Serves, clients, heard}
use Rattle.reclock_client.proofs.Growing.{where_passed}
use Rattle.reclock_client.proofs.Hearing.{asked_here, sure, tells}
use Rattle.reclock_client.proofs.Keeping.{few_calls, readied_knows, starts_same}
use Rattle.reclock_client.proofs.Learning.{IsListening}
use Rattle.reclock_client.proofs.Passing.{passed_poll}
use Rattle.reclock_client.proofs.Proposing.{own_at}
use Rattle.reclock_client.proofs.Sane.{AtListen, IsSane, data_sane, in_order, last_covered, poll_sane, published_sane, reader_sane, remap_sane}
use Rattle.reclock_client.proofs.Telling.{StepTold, Tells}
use Rattle.reclock_client.proofs.Turning.{serves_at}

-- ---- the rows of a step are in the order of time

covered_each : (us : List Update) (g : Option ℕ) (f : ℕ) (bs : List (ℕ × List ℕ)) → g ≡ Some f → AllByRecursion (IsBinding us g) bs →
    AllByRecursion (λ b. covers (Some f) b.0 ≡ true) bs
covered_each us g f [] is all = tt
covered_each us g f (b ∷ bs) is all = (subst (λ (x : Option ℕ). covers x b.0 ≡ true) is all.0.covered, covered_each us g f bs is all.1)

module _ (shard : ShardId) (start : Stored) (es : List Entry) (list : List Update) (c : Course) (taken : c.intake ≡ intakes.Nothing) where
  order_is : (to : Option ℕ) (rows : List Update) → Learned shard start es list (knowledge c) →
      StepTold shard start es list c.synced to rows → in_time (last_time c.bindings) rows ≡ true
  order_is to rows l told =
      let us = accepted shard list start es in
      let bare : known c ≡ c.bindings = ap (λ (i : Intake). with_rows c.bindings (left c.since i)) taken in
      let each : AllByRecursion (IsBinding (moved us c.since) c.synced) c.bindings =
      subst (λ (bs : List (ℕ × List ℕ)). AllByRecursion (IsBinding (moved us c.since) c.synced) bs) bare l.right.bindings.each in
      let risen : InTime told.time rows = subst (InTime told.time)
      (sym (told.rows_are ∙ ap (λ (f : Option ℕ). slice_of us f to) told.at)) (slice_in_time us told.time to) in
      in_order rows (last_time c.bindings) told.time
      (last_covered c.bindings told.time (covered_each (moved us c.since) c.synced told.time c.bindings told.at each)) risen

  order_at : (at : Step) (answer : ReadAnswer) → Tells shard start es list c at answer →
      (IsListening at → Learned shard start es list (knowledge c)) → AtListen c at answer
  order_at steps.Listen (reads.Step from to rows) told l = order_is to rows (l tt) told
  order_at steps.Next (reads.Step from to rows) told l = order_is to rows (l tt) told
  order_at steps.Listen other told l = tt
  order_at steps.Next other told l = tt
  order_at other answer told l = tt

-- ---- one poll

both_some : (a : Option Asked) (P Q : Asked → Type 0) (R : Type 0) → IsSome a → IfSome a P → IfSome a Q → ((x : Asked) → P x → Q x → R) → R
both_some None P Q R some p q f = absurd (let bad : false ≡ true = some in cc)
both_some (Some x) P Q R some p q f = f x p q

module _ (client : ℕ) (front now : Option History) (o new : Operator) (s : IsSound o) (turn : InTurn o) (busy : IsSome o.course.errand)
    (taken : o.course.intake ≡ intakes.Nothing) (k : Knows front o) (low : o.course.since < most) (is_open : IsOpen o (part_of o.course.step))
    (counts : Counts new) (damage : Damage) where
  few : (calls : ℕ) → new.calls ≡ min (o.calls + calls) most → calls < most
  few calls is = few_calls o.calls calls (open_calls new (part_of new.course.step))
      (subst (λ (m : ℕ). min (m + open_calls new (part_of new.course.step)) most < most) is counts)

  served : {P : Type 0} → ((errand : Errand) → o.course.errand ≡ Some errand → Serves (clients o) (heard o.course) errand o.course.step → P) → P
  served f = serves_at o turn.0 busy o.course.step refl f

  -- what an inner poll comes to isn't Damaged, over a lawful history that starts as collections
  module _ (h : History) (list data_list : List Update) (st : StandsFor h.start o.remap list) (sd : StandsFor h.start o.data_shard data_list)
      (l : Lawful h) (there : now ≡ Some h) where
    over : {M A : Type 0} (W : Words M A) (m v : M) (p : Poll A) (shard : ShardId) (us : List Update) → shard_of W m ≡ shard →
        StandsFor h.start shard us → LegalWhere W client now m v p → LegalPoll W client (W.kept m) (W.calls_of v) p h.start (reverse h.trail) us
    over W m v p shard us at stands legal =
        (subst (λ (f : Option History). WhereLawful (shard_of W m) f (Backwards (LegalPoll W client (W.kept m) (W.calls_of v) p))) there legal)
        us (subst (λ (d : ShardId). StandsFor h.start d us) (sym at) stands) l

    never : {M A : Type 0} (W : Words M A) (m v : M) (p : Poll A) (us : List Update) →
        LegalPoll W client (W.kept m) (W.calls_of v) p h.start (reverse h.trail) us → (d : Damage) → p ≡ polls.Damaged d → ⊥
    never {A = A} W m v p us legal d is =
        subst (λ (q : Poll A). LegalPoll W client (W.kept m) (W.calls_of v) q h.start (reverse h.trail) us) is legal

    answered : {M A : Type 0} (W : Words M A) (m v : M) (p : Poll A) (us : List Update) →
        LegalPoll W client (W.kept m) (W.calls_of v) p h.start (reverse h.trail) us → W.calls_of v < most → (answer : A) →
        p ≡ polls.Done answer → W.Legal client (W.kept m) (W.calls_of v) answer h.start (reverse h.trail) us
    answered {A = A} W m v p us legal less answer is =
        (subst (λ (q : Poll A). LegalPoll W client (W.kept m) (W.calls_of v) q h.start (reverse h.trail) us) is legal) less

    by_part : (part : Part) → part_of o.course.step ≡ part → PolledBy part client front now o new (polls.Damaged damage) → ⊥
    by_part parts.RemapWriter at (p, i, comes) =
        let legal = over writers.machine o.remap_writer new.remap_writer p o.remap list s.machines.writes_remap st i.legal in
        let is_open_here : IsSome o.remap_writer.asked = subst (IsOpen o) at is_open in
        subst IsSane (sym comes.1) (poll_sane WriteAnswer (after_remap_writer o.course o.course.step) o.course p
        (never writers.machine o.remap_writer new.remap_writer p list legal) (λ answer e.
        served (λ errand f v. both_some o.remap_writer.asked (AsksRemap (duties o) o.course.step) _ _ is_open_here
        (own_at o errand parts.RemapWriter f at turn.1)
        (answered writers.machine o.remap_writer new.remap_writer p list legal
        (few new.remap_writer.storing.trying.calls (ap (λ (x : Operator). x.calls) comes.0
        ∙ ap (λ (q : Poll WriteAnswer). counted q o.calls new.remap_writer.storing.trying.calls) e)) answer e)
        (λ asked is legal_. remap_sane (clients o) (heard o.course) o.course (duties o) list h.start
        (writers.command_in client (writers.kept o.remap_writer) asked new.remap_writer.storing.trying.calls)
        (places client new.remap_writer.storing.trying.calls (reverse h.trail)) errand f o.course.step asked answer v.takes is legal_))))
    by_part parts.DataWriter at (p, i, comes) =
        let legal = over writers.machine o.data_writer new.data_writer p o.data_shard data_list s.machines.writes_data sd i.legal in
        let is_open_here : IsSome o.data_writer.asked = subst (IsOpen o) at is_open in
        subst IsSane (sym comes.1) (poll_sane WriteAnswer (after_data_writer o.course o.course.step) o.course p
        (never writers.machine o.data_writer new.data_writer p data_list legal) (λ answer e.
        served (λ errand f v. both_some o.data_writer.asked (AsksData (duties o) o.course.step) _ _ is_open_here
        (own_at o errand parts.DataWriter f at turn.1)
        (answered writers.machine o.data_writer new.data_writer p data_list legal
        (few new.data_writer.storing.trying.calls (ap (λ (x : Operator). x.calls) comes.0
        ∙ ap (λ (q : Poll WriteAnswer). counted q o.calls new.data_writer.storing.trying.calls) e)) answer e)
        (λ asked is legal_. data_sane (clients o) (heard o.course) o.course (duties o) data_list h.start
        (writers.command_in client (writers.kept o.data_writer) asked new.data_writer.storing.trying.calls)
        (places client new.data_writer.storing.trying.calls (reverse h.trail)) errand f o.course.step asked answer v.takes is legal_))))
    by_part parts.Looker at (p, i, comes) =
        let legal = over looks.machine o.looker new.looker p o.data_shard data_list s.machines.looks_data sd i.legal in
        subst IsSane (sym comes.1) (poll_sane (Option ℕ) (published_from o.course) o.course p
        (never looks.machine o.looker new.looker p data_list legal) (λ answer e. published_sane o.course answer))
    by_part parts.Reader at (p, i, comes) =
        let legal = over readers.machine o.reader new.reader p o.remap list s.machines.reads_remap st i.legal in
        let is_open_here : IsSome o.reader.asked = subst (IsOpen o) at is_open in
        let asked_at = asked_here o turn busy at is_open_here in
        let known_here = (subst (λ (f : Option History). KnowsWhere f o.remap (knowledge o.course) o.course.listens) there
        (where_passed o.remap (knowledge o.course) o.course.listens client front now _
        (passed_poll Reader ReadAnswer readers.machine client front now o.reader new.reader p i.polled) k.knows)) list st l in
        subst IsSane (sym comes.1) (poll_sane ReadAnswer (after_reader o.course o.course.step) o.course p
        (never readers.machine o.reader new.reader p list legal) (λ answer e.
        let less = few new.reader.trying.calls (ap (λ (x : Operator). x.calls) comes.0
        ∙ ap (λ (q : Poll ReadAnswer). counted q o.calls new.reader.trying.calls) e) in
        let told = answered readers.machine o.reader new.reader p list legal less answer e in
        let order = order_at o.remap h.start (reverse h.trail) list o.course taken o.course.step answer
        (tells o.remap h.start (reverse h.trail) list st (lawful_back h l) client new.reader.trying.calls (readers.kept o.reader)
        s.machines.reads_remap o.course o.course.step answer asked_at told)
        (λ listening. sure o.remap h.start (reverse h.trail) list (readers.kept o.reader) o.course taken asked_at known_here o.course.step refl
        listening low) in
        served (λ errand f v. both_some o.reader.asked (AsksReader (duties o) o.course.step) _ _ is_open_here
        (own_at o errand parts.Reader f at turn.1) told
        (λ asked is legal_. reader_sane (clients o) (heard o.course) o.course (duties o) list h.start
        (readers.command_in client (readers.kept o.reader) asked new.reader.trying.calls)
        (places client new.reader.trying.calls (reverse h.trail)) errand f o.course.step asked answer v.takes is order legal_.0))))

pub never_damaged : NeverDamaged
never_damaged client front now o new damage busy k polled counts low = by now refl
  where
    mid : Course
    mid = bound o.course

    ready : Operator
    ready = polled.ready

    same : ready.course ≡ record mid { step = ready.course.step }
    same = (starts_same (part_of mid.step) (record o { course = mid }) ready polled.readies).course

    by : (f : Option History) → now ≡ f → IsNoCollection f o.remap o.data_shard
    by None there = tt
    by (Some h) there = λ list data_list st sd l.
        let shards = starts_same (part_of mid.step) (record o { course = mid }) ready polled.readies in
        by_part client front now ready new polled.sound polled.turn
        (subst (λ (c : Course). IsSome c.errand) (sym same) busy)
        (subst (λ (c : Course). c.intake ≡ intakes.Nothing) (sym same) refl)
        (readied_knows front o busy mid ready refl polled.readies k)
        (subst (λ (c : Course). c.since < most) (sym same) low) polled.is_open counts damage h list data_list
        (subst (λ (d : ShardId). StandsFor h.start d list) (sym shards.remap) st)
        (subst (λ (d : ShardId). StandsFor h.start d data_list) (sym shards.data_shard) sd) l there
        (part_of ready.course.step) refl polled.polled
