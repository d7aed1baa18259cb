-- A poll keeps that an operator knows no more than its remap shard tells.
use Rattle.std.proofs.Common.{◌≡◌, ℕ, ◌+◌, ◌<◌, Bool, Option, Some, None, List, refl, sym, ap, subst, ◌∙◌}
use Rattle.std.proofs.Common.{inl, inr, arith}
use Rattle.std.specs.Prelude.{⊤, IfNone, IsSome, min, reverse}
use Rattle.update_core.specs.declared.updates.Update.{Update}
use Rattle.update_core.specs.Limits.{most}
use Rattle.store_core.specs.declared.entries.Entry.{Entry}
use Rattle.store_core.specs.declared.shards.ShardId.{ShardId}
use Rattle.store_core.specs.Histories.{History}
use Rattle.store_core.specs.Stores.{Stored}
use Rattle.history_core.specs.declared.read_answers.ReadAnswer.{ReadAnswer}
use Rattle.history_core.specs.declared.write_answers.WriteAnswer.{WriteAnswer}
use Rattle.history_core.specs.Discipline.{LawfulBack}
use Rattle.history_core.specs.Stands.{StandsFor}
use Rattle.history_core.proofs.Prefixes.{lawful_back}
use Rattle.load_core.specs.declared.polls.Poll.{Poll}
use Rattle.load_core.specs.declared.polls.Poll.TheVariants as polls
use Rattle.load_core.specs.Fronts.{Backwards, WhereLawful}
use Rattle.machine_core.specs.Machines.{LegalPoll}
use Rattle.machine_core.specs.Polling as machines
use Rattle.machine_core.specs.Polling.{LegalWhere}
use Rattle.read_client.specs.declared.readers.Reader.{Reader}
use Rattle.read_client.specs.Machining as reads
use Rattle.try_machine.specs.declared.tryers.Tryer.{Tryer}
use Rattle.write_client.specs.declared.writers.Writer.{Writer}
use Rattle.write_client.specs.Machining as writes
use Rattle.reclock_client.specs.declared.courses.Course.{Course}
use Rattle.reclock_client.specs.declared.intakes.Intake.TheVariants as intakes
use Rattle.reclock_client.specs.declared.looks.Look.{Look}
use Rattle.reclock_client.specs.declared.operators.Operator.{Operator}
use Rattle.reclock_client.specs.declared.starting.Begun.{Begun}
use Rattle.reclock_client.specs.declared.starting.Begun.TheVariants as begun
use Rattle.reclock_client.specs.declared.steps.Part.{Part}
use Rattle.reclock_client.specs.declared.steps.Part.TheVariants as parts
use Rattle.reclock_client.specs.declared.steps.Step.{Step}
use Rattle.reclock_client.specs.declared.steps.Step.TheVariants as steps
use Rattle.reclock_client.specs.Asking.{InTurn}
use Rattle.reclock_client.specs.Commands.{after_data_writer, after_poll, after_reader, after_remap_writer, published_from}
use Rattle.reclock_client.specs.Known.{Knowledge, knowledge}
use Rattle.reclock_client.specs.Knowing.{Counts, Knows, KnowsOver, KnowsWhere}
use Rattle.reclock_client.specs.Looking as looks
use Rattle.reclock_client.specs.Operators.{IsSound, open_calls, part_of}
use Rattle.reclock_client.specs.Polling.{DataBegun, DataStarts, Halts, ReadStarts, RemapBegun, RemapStarts, Starts, bound, counted}
use Rattle.reclock_client.proofs.Growing.{where_passed}
use Rattle.reclock_client.proofs.Hearing.{asked_here, learns, tells}
use Rattle.reclock_client.proofs.Learning.{Holds, Learns, busy_not, data_holds, polled_holds, published_holds, reader_holds, remap_holds}
use Rattle.reclock_client.proofs.Passing.{passed_memory, passed_poll}
use Rattle.reclock_client.proofs.Telling.{Tells}

-- ---- the count of calls

pub few_calls : (a b x : ℕ) → min (min (a + b) most + x) most < most → b < most
few_calls a b x h = omega (arith)

module _ (client : ℕ) (front now : Option History) (o : Operator) (busy : IsSome o.course.errand)
    (taken : o.course.intake ≡ intakes.Nothing) where
  -- ---- the machines that read nothing of the remap shard

  abbrev Now : Knowledge → Bool → Type 0
  Now k b = KnowsWhere now o.remap k b

  pub remap_knows : (w : Writer) (p : Poll WriteAnswer) (c : Course) (n : ℕ) → machines.Polled writes.machine client front now o.remap_writer w p →
      c ≡ (after_poll (after_remap_writer o.course o.course.step) o.course p).0 → Knows front o →
      Knows now (record o { remap_writer = w; course = c; calls = n })
  remap_knows w p c n polled is k =
      let over = where_passed o.remap (knowledge o.course) o.course.listens client front now _
      (passed_poll Writer WriteAnswer writes.machine client front now o.remap_writer w p polled) k.knows in
      let holds : Holds Now c = subst (Holds Now) (sym is) (polled_holds Now o.course busy taken over
      (after_remap_writer o.course o.course.step) p (λ answer e. remap_holds Now o.course busy taken over o.course.step answer)) in
      record { bound = holds.0; knows = holds.1 }

  pub data_knows : (w : Writer) (p : Poll WriteAnswer) (c : Course) (n : ℕ) → machines.Polled writes.machine client front now o.data_writer w p →
      c ≡ (after_poll (after_data_writer o.course o.course.step) o.course p).0 → Knows front o →
      Knows now (record o { data_writer = w; course = c; calls = n })
  data_knows w p c n polled is k =
      let over = where_passed o.remap (knowledge o.course) o.course.listens client front now _
      (passed_poll Writer WriteAnswer writes.machine client front now o.data_writer w p polled) k.knows in
      let holds : Holds Now c = subst (Holds Now) (sym is) (polled_holds Now o.course busy taken over
      (after_data_writer o.course o.course.step) p (λ answer e. data_holds Now o.course busy taken over o.course.step answer)) in
      record { bound = holds.0; knows = holds.1 }

  pub look_knows : (l : Tryer Look) (p : Poll (Option ℕ)) (c : Course) (n : ℕ) → machines.Polled looks.machine client front now o.looker l p →
      c ≡ (after_poll (published_from o.course) o.course p).0 → Knows front o →
      Knows now (record o { looker = l; course = c; calls = n })
  look_knows l p c n polled is k =
      let over = where_passed o.remap (knowledge o.course) o.course.listens client front now _
      (passed_poll (Tryer Look) (Option ℕ) looks.machine client front now o.looker l p polled) k.knows in
      let holds : Holds Now c = subst (Holds Now) (sym is) (polled_holds Now o.course busy taken over (published_from o.course) p
      (λ answer e. published_holds Now o.course busy taken over answer)) in
      record { bound = holds.0; knows = holds.1 }

  -- ---- the reader

  module _ (s : IsSound o) (turn : InTurn o) (at : part_of o.course.step ≡ parts.Reader) (is_open : IsSome o.reader.asked) where
    -- its rows, over one front
    over_here : (r : Reader) (p : Poll ReadAnswer) (start : Stored) (es : List Entry) (list : List Update) → StandsFor start o.remap list →
        LawfulBack start es → (calls : ℕ) → ((answer : ReadAnswer) → p ≡ polls.Done answer → calls < most) →
        KnowsOver o.remap (knowledge o.course) o.course.listens start es list →
        LegalPoll reads.machine client (reads.kept o.reader) calls p start es list →
        Holds (λ (k : Knowledge) (b : Bool). KnowsOver o.remap k b start es list) (after_poll (after_reader o.course o.course.step) o.course p).0
    over_here r p start es list st l calls few over legal =
        polled_holds (λ (k : Knowledge) (b : Bool). KnowsOver o.remap k b start es list) o.course busy taken over
        (after_reader o.course o.course.step) p (λ answer e.
        let done : LegalPoll reads.machine client (reads.kept o.reader) calls (polls.Done answer) start es list =
        subst (λ (q : Poll ReadAnswer). LegalPoll reads.machine client (reads.kept o.reader) calls q start es list) e legal in
        let asked = asked_here o turn busy at is_open in
        reader_holds (λ (k : Knowledge) (b : Bool). KnowsOver o.remap k b start es list) (Tells o.remap start es list o.course) o.course busy taken
        over (learns o.remap start es list (reads.kept o.reader) o.course taken asked over) o.course.step answer refl
        (tells o.remap start es list st l client calls (reads.kept o.reader) s.machines.reads_remap o.course o.course.step answer asked
        (done (few answer e))))

    nothing_more : Learns (λ (k : Knowledge) (b : Bool). ⊤) (λ (x : Step) (a : ReadAnswer). ⊤) o.course
    nothing_more = record {
      quiet = λ k b h. tt;
      blank = λ since. tt;
      content = λ rows told none. tt;
      listened = λ x is listening. tt;
      changes = λ x from to rows is listening told order none. tt;
    }

    pub reader_knows : (r : Reader) (p : Poll ReadAnswer) (c : Course) (n : ℕ) → machines.Polled reads.machine client front now o.reader r p →
        LegalWhere reads.machine client now o.reader r p → n ≡ counted p o.calls r.trying.calls →
        c ≡ (after_poll (after_reader o.course o.course.step) o.course p).0 → Knows front o →
        Counts (record o { reader = r; course = c; calls = n }) → Knows now (record o { reader = r; course = c; calls = n })
    reader_knows r p c n polled legal count is k counts = record {
      bound = (subst (Holds (λ (q : Knowledge) (b : Bool). ⊤)) (sym is) (polled_holds (λ (q : Knowledge) (b : Bool). ⊤) o.course busy taken tt
          (after_reader o.course o.course.step) p (λ answer e.
          reader_holds (λ (q : Knowledge) (b : Bool). ⊤) (λ (x : Step) (a : ReadAnswer). ⊤) o.course busy taken tt nothing_more o.course.step
          answer refl tt))).0;
      knows = subst (λ (x : Course). KnowsWhere now o.remap (knowledge x) x.listens) (sym is) (there now over
          (subst (λ (d : ShardId). WhereLawful d now (Backwards (LegalPoll reads.machine client (reads.kept o.reader) r.trying.calls p)))
          s.machines.reads_remap legal));
    }
      where
        over : KnowsWhere now o.remap (knowledge o.course) o.course.listens
        over = where_passed o.remap (knowledge o.course) o.course.listens client front now _
            (passed_poll Reader ReadAnswer reads.machine client front now o.reader r p polled) k.knows

        few : (answer : ReadAnswer) → p ≡ polls.Done answer → r.trying.calls < most
        few answer e =
            let n_is : n ≡ min (o.calls + r.trying.calls) most =
            count ∙ ap (λ (q : Poll ReadAnswer). counted q o.calls r.trying.calls) e in
            few_calls o.calls r.trying.calls (open_calls (record o { reader = r; course = c; calls = n }) (part_of c.step))
            (subst (λ (m : ℕ). min (m + open_calls (record o { reader = r; course = c; calls = n }) (part_of c.step)) most < most) n_is counts)

        after : Course
        after = (after_poll (after_reader o.course o.course.step) o.course p).0

        there : (f : Option History) → KnowsWhere f o.remap (knowledge o.course) o.course.listens →
            WhereLawful o.remap f (Backwards (LegalPoll reads.machine client (reads.kept o.reader) r.trying.calls p)) →
            KnowsWhere f o.remap (knowledge after) after.listens
        there None was legal_ = tt
        there (Some h) was legal_ = λ list st l.
            (over_here r p h.start (reverse h.trail) list st (lawful_back h l) r.trying.calls few (was list st l) (legal_ list st l)).1

  -- ---- want of memory

  pub remap_knew : (w : Writer) → machines.Unpolled writes.machine client front now o.remap_writer w → Knows front o →
      Knows now (record o { remap_writer = w })
  remap_knew w u k = record {
    bound = k.bound;
    knows = where_passed o.remap (knowledge o.course) o.course.listens client front now _
        (passed_memory Writer WriteAnswer writes.machine client front now o.remap_writer w u) k.knows;
  }

  pub data_knew : (w : Writer) → machines.Unpolled writes.machine client front now o.data_writer w → Knows front o →
      Knows now (record o { data_writer = w })
  data_knew w u k = record {
    bound = k.bound;
    knows = where_passed o.remap (knowledge o.course) o.course.listens client front now _
        (passed_memory Writer WriteAnswer writes.machine client front now o.data_writer w u) k.knows;
  }

  pub reader_knew : (r : Reader) → machines.Unpolled reads.machine client front now o.reader r → Knows front o →
      Knows now (record o { reader = r })
  reader_knew r u k = record {
    bound = k.bound;
    knows = where_passed o.remap (knowledge o.course) o.course.listens client front now _
        (passed_memory Reader ReadAnswer reads.machine client front now o.reader r u) k.knows;
  }

  pub look_knew : (l : Tryer Look) → machines.Unpolled looks.machine client front now o.looker l → Knows front o →
      Knows now (record o { looker = l })
  look_knew l u k = record {
    bound = k.bound;
    knows = where_passed o.remap (knowledge o.course) o.course.listens client front now _
        (passed_memory (Tryer Look) (Option ℕ) looks.machine client front now o.looker l u) k.knows;
  }

-- ---- before the call

-- it is of the same shards, and stands so but for its step
pub record Same (old new : Operator) : Type 0 where
  pub remap : new.remap ≡ old.remap
  pub data_shard : new.data_shard ≡ old.data_shard
  pub course : new.course ≡ record old.course { step = new.course.step }

same_as : (old new mid : Operator) (s : Step) → new ≡ mid → mid.remap ≡ old.remap → mid.data_shard ≡ old.data_shard →
    mid.course ≡ record old.course { step = s } → Same old new
same_as old new mid s is remap data_shard course =
    let there : new.course ≡ record old.course { step = s } = ap (λ (o : Operator). o.course) is ∙ course in
    record {
      remap = ap (λ (o : Operator). o.remap) is ∙ remap;
      data_shard = ap (λ (o : Operator). o.data_shard) is ∙ data_shard;
      course = there ∙ ap (λ (x : Step). record old.course { step = x }) (sym (ap (λ (c : Course). c.step) there));
    }

remap_same : (step : Step) (old new : Operator) → RemapStarts step old new → Same old new
remap_same steps.JoinRemap old new r = same_as old new _ old.course.step r refl refl refl
remap_same (steps.AppendRemap from) old new (w, b, begins, began) = by b began
  where
    by : (x : Begun) → RemapBegun x (record old { remap_writer = w }) new → Same old new
    by begun.Yes h = same_as old new _ old.course.step h refl refl refl
    by begun.Spent h = same_as old new _ steps.LeaveRemap h.1 refl refl refl
remap_same other old new r = same_as old new _ old.course.step r.1 refl refl refl

data_same : (step : Step) (old new : Operator) → DataStarts step old new → Same old new
data_same steps.JoinData old new r = same_as old new _ old.course.step r refl refl refl
data_same (steps.AppendData from) old new (w, b, begins, began) = by b began
  where
    by : (x : Begun) → DataBegun x (record old { data_writer = w }) new → Same old new
    by begun.Yes h = same_as old new _ old.course.step h refl refl refl
    by begun.Spent h = same_as old new _ steps.LeaveData h.1 refl refl refl
data_same other old new r = same_as old new _ old.course.step r.1 refl refl refl

read_same : (step : Step) (old new : Operator) → ReadStarts step old new → Same old new
read_same steps.JoinReader old new r = same_as old new _ old.course.step r refl refl refl
read_same steps.Snapshot old new r = same_as old new _ old.course.step r.1 refl refl refl
read_same steps.Listen old new r = same_as old new _ old.course.step r.1 refl refl refl
read_same steps.Next old new r = same_as old new _ old.course.step r.1 refl refl refl
read_same other old new r = same_as old new _ old.course.step r.1 refl refl refl

pub starts_same : (part : Part) (old new : Operator) → Starts part old new → Same old new
starts_same parts.RemapWriter old new (inl h) = same_as old new old old.course.step h.1 refl refl refl
starts_same parts.RemapWriter old new (inr h) = remap_same old.course.step old new h.1
starts_same parts.Reader old new (inl h) = same_as old new old old.course.step h.1 refl refl refl
starts_same parts.Reader old new (inr h) = read_same old.course.step old new h.1
starts_same parts.DataWriter old new (inl h) = same_as old new old old.course.step h.1 refl refl refl
starts_same parts.DataWriter old new (inr h) = data_same old.course.step old new h.1
starts_same parts.Looker old new (inl h) = same_as old new old old.course.step h.1 refl refl refl
starts_same parts.Looker old new (inr h) = same_as old new _ old.course.step h.1 refl refl refl

module _ (front : Option History) (o : Operator) (busy : IsSome o.course.errand) where
  -- the rows that were read are bound
  pub bound_knows : (c : Course) → c ≡ bound o.course → Knows front o → Knows front (record o { course = c })
  bound_knows c is k = subst (λ (x : Course). Knows front (record o { course = x })) (sym is)
      (record { bound = busy_not _ o.course.errand busy; knows = k.knows })

  -- some of them are
  pub halted_knows : (c : Course) → Halts o.course c → Knows front o → Knows front (record o { course = c })
  halted_knows c h k = subst (λ (x : Course). Knows front (record o { course = x })) (sym h.same) (record {
    bound = busy_not _ o.course.errand busy;
    knows = subst (λ (bs : List (ℕ × List ℕ)).
        KnowsWhere front o.remap (record { since = o.course.since; bindings = bs; synced = o.course.synced }) o.course.listens)
        (sym h.binds.same) k.knows;
  })

  -- the command that is next is open
  pub readied_knows : (c : Course) (ready : Operator) → c ≡ bound o.course → Starts (part_of c.step) (record o { course = c }) ready →
      Knows front o → Knows front ready
  readied_knows c ready is starts k =
      let k2 = bound_knows c is k in
      let same = starts_same (part_of c.step) (record o { course = c }) ready starts in
      record {
        bound = subst (λ (x : Course). IfNone x.errand (x.intake ≡ intakes.Nothing)) (sym same.course) k2.bound;
        knows = subst (λ (d : ShardId). KnowsWhere front d (knowledge ready.course) ready.course.listens) (sym same.remap)
            (subst (λ (x : Course). KnowsWhere front o.remap (knowledge x) x.listens) (sym same.course) k2.knows);
      }
