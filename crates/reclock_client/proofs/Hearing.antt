-- What the reader of an operator is asked at a step, and what its legal answers make known. Entries go newest first.
use Rattle.std.proofs.Common.{◌≡◌, ℕ, ◌+◌, ◌<◌, Bool, true, false, cond, Option, Some, None, List, refl, sym, ap, subst, ◌∙◌}
use Rattle.std.proofs.Common.{inl, inr, arith}
use Rattle.std.proofs.lemmas.Bool.Decides.{nat_tests}
use Rattle.std.specs.Prelude.{⊤, ◌⊎◌, ◌^◌, ◌-◌, IfSome, IsSome, IsSomeAnd, nat_lt}
use Rattle.update_core.specs.declared.rows.Row.{Row}
use Rattle.update_core.specs.declared.updates.Update.{Update}
use Rattle.update_core.specs.Collections.{content, step}
use Rattle.update_core.specs.Frontiers.{after, covers}
use Rattle.update_core.specs.Limits.{most}
use Rattle.store_core.specs.declared.entries.Entry.{Entry}
use Rattle.store_core.specs.declared.shards.ShardId.{ShardId}
use Rattle.store_core.specs.Stores.{Stored}
use Rattle.history_core.specs.declared.asked.Asked.{Asked}
use Rattle.history_core.specs.declared.asked.Asked.TheVariants as asks
use Rattle.history_core.specs.declared.read_answers.ReadAnswer.{ReadAnswer}
use Rattle.history_core.specs.declared.read_answers.ReadAnswer.TheVariants as reads
use Rattle.history_core.specs.Discipline.{LawfulBack}
use Rattle.history_core.specs.Legal.{LegalReadBack, LegalStep, Listens, Snapshots}
use Rattle.history_core.specs.Placing.{places}
use Rattle.history_core.specs.Stands.{StandsFor, accepted}
use Rattle.read_client.specs.Machining.{Kept, Legal, command_in, kept}
use Rattle.read_client.specs.Polling.{ReadsParts}
use Rattle.remap_core.specs.Extending.{last_time, reached, rows_at}
use Rattle.remap_core.specs.Offsets.{unset}
use Rattle.reclock_client.specs.declared.courses.Course.{Course}
use Rattle.reclock_client.specs.declared.errands.Errand.{Errand}
use Rattle.reclock_client.specs.declared.intakes.Intake.TheVariants as intakes
use Rattle.reclock_client.specs.declared.operators.Operator.{Operator}
use Rattle.reclock_client.specs.declared.steps.Part.TheVariants as parts
use Rattle.reclock_client.specs.declared.steps.Step.{Step}
use Rattle.reclock_client.specs.declared.steps.Step.TheVariants as steps
use Rattle.reclock_client.specs.Asking.{AsksReader, InTurn, duties}
use Rattle.reclock_client.specs.Commands.{strange, with_changes, with_content}
use Rattle.reclock_client.specs.Known.{IsKnown, Knowledge, knowledge}
use Rattle.reclock_client.specs.Knowing.{IsBlank, KnowsOver, Learned}
use Rattle.reclock_client.specs.Parts.{part_of}
use Rattle.reclock_client.specs.Reading.{foreign_time, in_time}
use Rattle.reclock_client.specs.Turns.{Serves, clients, heard}
use Rattle.reclock_client.proofs.Agreeing.{nothing_covered}
use Rattle.reclock_client.proofs.KnownLaws.{after_covers, content_is_known, step_is_known}
use Rattle.reclock_client.proofs.Learning.{IsListening, Learns}
use Rattle.reclock_client.proofs.Proposing.{own_at}
use Rattle.reclock_client.proofs.ReadTurning.{syncs_or_mints}
use Rattle.reclock_client.proofs.Telling.{ContentTold, StepTold, Tells, content_told, step_told}
use Rattle.reclock_client.proofs.Turning.{serves_at}

-- what the reader is asked at a step, and where its listen stands
abbrev pub IsAskedAt : Kept → Course → Step → Type 0
IsAskedAt k c steps.Snapshot = k.asked ≡ Some (asks.Snapshot c.since)
IsAskedAt k c steps.Listen = (k.asked ≡ Some (asks.Listen c.since)) × (c.synced ≡ after c.since)
IsAskedAt k c steps.Next = (k.asked ≡ Some asks.Next) × (k.listen ≡ Some c.synced) × (c.listens ≡ true)
IsAskedAt k c other = ⊤

some_and : {A B : Type 0} (o : Option A) (P : A → Type 0) → IsSomeAnd o P → ((a : A) → P a → B) → B
some_and None P h f = absurd h
some_and (Some a) P h f = f a h

-- ---- what a legal answer tells

module _ (shard : ShardId) (start : Stored) (es : List Entry) (list : List Update) (st : StandsFor start shard list)
    (l : LawfulBack start es) (client calls : ℕ) (k : Kept) (of_shard : k.shard ≡ shard) (c : Course) where
  -- an answer to a command
  abbrev Answers : Asked → ReadAnswer → Type 0
  Answers asked answer = LegalReadBack list start es (command_in client k asked calls) answer ×
      ReadsParts client k.shard calls answer start es asked

  answers : (asked : Asked) (answer : ReadAnswer) → k.asked ≡ Some asked → Legal client k calls answer start es list → Answers asked answer
  answers asked answer is h = subst (λ (a : Option Asked). IfSome a (λ x. Answers x answer)) is h

  listen_told : (f from to : Option ℕ) (rows : List Update) (member : ℕ) →
      LegalStep list start k.shard member (places client calls es) f (reads.Step from to rows) → StepTold shard start es list f to rows
  listen_told f from to rows member h = step_told shard start es list st l client calls member f to rows
      (subst (λ (s : ShardId). Listens list start s member f (step rows to) (places client calls es)) of_shard h.1)

  pub tells : (at : Step) (answer : ReadAnswer) → IsAskedAt k c at → Legal client k calls answer start es list →
      Tells shard start es list c at answer
  tells steps.Snapshot (reads.Rows rows) asked h =
      some_and k.member (λ member. Snapshots list start k.shard member c.since (content rows) (places client calls es))
      (answers (asks.Snapshot c.since) (reads.Rows rows) asked h).0
      (λ member told. content_told shard start es list st l client calls member c.since rows
      (subst (λ (s : ShardId). Snapshots list start s member c.since (content rows) (places client calls es)) of_shard told))
  tells steps.Listen (reads.Step from to rows) asked h =
      subst (λ (f : Option ℕ). StepTold shard start es list f to rows) (sym asked.1)
      (some_and k.member (λ member. LegalStep list start k.shard member (places client calls es) (after c.since) (reads.Step from to rows))
      (answers (asks.Listen c.since) (reads.Step from to rows) asked.0 h).0
      (λ member told. listen_told (after c.since) from to rows member told))
  tells steps.Next (reads.Step from to rows) asked h =
      some_and k.member
      (λ member. IsSomeAnd k.listen (λ f. LegalStep list start k.shard member (places client calls es) f (reads.Step from to rows)))
      (answers asks.Next (reads.Step from to rows) asked.0 h).0
      (λ member told. listen_told c.synced from to rows member
      (subst (λ (x : Option (Option ℕ)).
      IsSomeAnd x (λ f. LegalStep list start k.shard member (places client calls es) f (reads.Step from to rows))) asked.1 told))
  tells other answer asked h = tt

-- ---- what it makes known

after_low : (s : ℕ) → s < most → after s ≡ Some (s + 1)
after_low s low = pick (nat_lt s (2 ^ 64 - 1)) refl
  where
    pick : (b : Bool) → nat_lt s (2 ^ 64 - 1) ≡ b → cond b (Some (s + 1)) None ≡ Some (s + 1)
    pick true e = refl
    pick false e = absurd (grind (arith, nat_tests))

-- no time lies between a since and the frontier after it
none_between : (s x : ℕ) → s < most → s < x → covers (after s) x ≡ true → ⊥
none_between s x low lt c =
    let at : covers (Some (s + 1)) x ≡ true = subst (λ (g : Option ℕ). covers g x ≡ true) (after_low s low) c in
    grind (arith, nat_tests)

covered_until : (g : Option ℕ) (s t : ℕ) → s < most → covers g s ≡ true → covers (after s) t ≡ true → covers g t ≡ true
covered_until None s t low k c = refl
covered_until (Some u) s t low k c =
    let at : covers (Some (s + 1)) t ≡ true = subst (λ (g : Option ℕ). covers g t ≡ true) (after_low s low) c in
    grind (arith, nat_tests)

module _ (shard : ShardId) (start : Stored) (es : List Entry) (list : List Update) (k : Kept) (c : Course)
    (taken : c.intake ≡ intakes.Nothing) (asked : IsAskedAt k c c.step) (over : KnowsOver shard (knowledge c) c.listens start es list) where
  -- at a step of a listen something is known
  pub sure : (at : Step) → at ≡ c.step → IsListening at → c.since < most → Learned shard start es list (knowledge c)
  sure at is listening low = by at listening (subst (λ (s : Step). IsAskedAt k c s) (sym is) asked) (over low)
    where
      by : (s : Step) → IsListening s → IsAskedAt k c s → (IsBlank (knowledge c) × (c.listens ≡ false)) ⊎ Learned shard start es list (knowledge c)
          → Learned shard start es list (knowledge c)
      by s l a (inr known) = known
      by steps.Listen l a (inl blank) = absurd (nothing_covered (knowledge c) c.since blank.0
          (subst (λ (g : Option ℕ). covers g c.since ≡ true) (sym a.1) (after_covers c.since)))
      by steps.Next l a (inl blank) = absurd (let bad : false ≡ true = sym blank.1 ∙ a.2 in cc)
      by other l a (inl blank) = absurd l

  content_learned : (rows : List Row) → ContentTold shard start es list c.since rows → foreign_time unset (rows_at c.since rows) ≡ None →
      KnowsOver shard (knowledge (with_content c rows None).0) false start es list
  content_learned rows told none low = inr (record {
    number = told.number;
    state = told.state;
    last = told.last;
    within = λ t e. covered_until told.state.upper c.since t low told.covered e;
    right = subst (λ (f : Option ℕ). IsKnown (accepted shard list start es) (with_content c rows f).0) none
        (content_is_known (accepted shard list start es) c rows told.rows_are
        (λ q x lt e. absurd (none_between c.since x low lt e)) none);
  })

  changes_learned : (at : Step) (from to : Option ℕ) (rows : List Update) → at ≡ c.step → IsListening at →
      StepTold shard start es list c.synced to rows → in_time (last_time c.bindings) rows ≡ true →
      foreign_time (reached c.bindings) rows ≡ None → KnowsOver shard (knowledge (with_changes c rows to None).0) true start es list
  changes_learned at from to rows is listening told order none low = inr (record {
    number = told.number;
    state = told.state;
    last = told.last;
    within = told.within;
    right = subst (λ (f : Option ℕ). IsKnown (accepted shard list start es) (with_changes c rows to f).0) none
        (subst (λ (b : Bool). IsKnown (accepted shard list start es)
        (cond b (with_changes c rows to (foreign_time (reached c.bindings) rows)) (strange c)).0) order
        (step_is_known (accepted shard list start es) c from to rows (sure at is listening low).right taken told.forward told.rows_are order
        none));
  })

  pub learns : Learns (λ (k : Knowledge) (b : Bool). KnowsOver shard k b start es list) (Tells shard start es list c) c
  learns = record {
    quiet = λ q b h low. by q b (h low);
    blank = λ since low. inl ((refl, refl), refl);
    content = content_learned;
    listened = λ at is listening low. inr (sure at is listening low);
    changes = λ at from to rows is listening told order none. told_at at from to rows is listening told order none;
  }
    where
      by : (q : Knowledge) (b : Bool) → (IsBlank q × (b ≡ false)) ⊎ Learned shard start es list q →
          (IsBlank q × (false ≡ false)) ⊎ Learned shard start es list q
      by q b (inl blank) = inl (blank.0, refl)
      by q b (inr known) = inr known

      told_at : (at : Step) (from to : Option ℕ) (rows : List Update) → at ≡ c.step → IsListening at →
          Tells shard start es list c at (reads.Step from to rows) → in_time (last_time c.bindings) rows ≡ true →
          foreign_time (reached c.bindings) rows ≡ None → KnowsOver shard (knowledge (with_changes c rows to None).0) true start es list
      told_at steps.Listen from to rows is listening told order none = changes_learned steps.Listen from to rows is listening told order none
      told_at steps.Next from to rows is listening told order none = changes_learned steps.Next from to rows is listening told order none
      told_at other from to rows is listening told order none = absurd listening

-- ---- what an operator's reader is asked

module _ (o : Operator) (turn : InTurn o) (busy : IsSome o.course.errand) (at : part_of o.course.step ≡ parts.Reader)
    (is_open : IsSome o.reader.asked) where
  asks_reader : (errand : Errand) → o.course.errand ≡ Some errand → IfSome o.reader.asked (AsksReader (duties o) o.course.step)
  asks_reader errand e = own_at o errand parts.Reader e at turn.1

  asked_some : (a : Option Asked) (s : Step) (x : Asked) → IsSome a → ((y : Asked) → AsksReader (duties o) s y → y ≡ x) →
      IfSome a (AsksReader (duties o) s) → a ≡ Some x
  asked_some None s x some f h = absurd (let bad : false ≡ true = some in cc)
  asked_some (Some y) s x some f h = ap Some (f y h)

  asked_by : (s : Step) (errand : Errand) → Serves (clients o) (heard o.course) errand s → IfSome o.reader.asked (AsksReader (duties o) s) →
      IsAskedAt (kept o.reader) o.course s
  asked_by steps.Snapshot errand v h = asked_some o.reader.asked steps.Snapshot (asks.Snapshot o.course.since) is_open (λ y e. e) h
  asked_by steps.Listen errand v h =
      let reads_ = (syncs_or_mints (clients o) (heard o.course) errand steps.Listen tt v.takes).1 in
      (asked_some o.reader.asked steps.Listen (asks.Listen o.course.since) is_open (λ y e. e) h, reads_.2)
  asked_by steps.Next errand v h =
      let reads_ = (syncs_or_mints (clients o) (heard o.course) errand steps.Next tt v.takes).1 in
      (asked_some o.reader.asked steps.Next asks.Next is_open (λ y e. e) h, v.listens reads_.1, reads_.1)
  asked_by other errand v h = tt

  pub asked_here : IsAskedAt (kept o.reader) o.course o.course.step
  asked_here = serves_at o turn.0 busy o.course.step refl (λ errand e v. asked_by o.course.step errand v (asks_reader errand e))
