-- How any command ends.
use Rattle.std.proofs.Common.{◌≡◌, ◌⊎◌, inl, inr, ℕ, ◌+◌, ◌≤◌, ◌<◌, Option, Some, None, IfSome, List, [], refl, sym, subst, arith}
use Rattle.std.proofs.Common.{⊎_elim}
use Rattle.std.specs.Prelude.{⊤}
use Rattle.causes.specs.Causes.{Rose}
use Rattle.feed_text.specs.declared.limits.TheConstants.{MAX_BYTES}
use Rattle.feed_text.specs.Replies.{line_fault_text}
use Rattle.feed_text.specs.Streams.{Gains, ReadsUpTo}
use Rattle.store_core.specs.Histories.{History}
use Rattle.driving.specs.StoreTurns.{EndsInFailure}
use Rattle.plain_run.specs.declared.endings.Ending.{Ending}
use Rattle.plain_run.specs.declared.endings.Ending.TheVariants as endings
use Rattle.plain_run.specs.Endings.{StaysLawful}
use Rattle.plain_run.proofs.RunLaws.{rests_lawful}
use Rattle.ingest_command.specs.declared.endings.IngestEnding.{IngestEnding}
use Rattle.ingest_command.specs.declared.endings.IngestEnding.TheVariants as ends
use Rattle.ingest_command.specs.Endings.{Completes, EndsIngest, FeedGoes, IsTold, Spares}
use Rattle.persist_app.specs.declared.crew_words.CrewWords.{CrewWords}
use Rattle.persist_app.specs.Endings.{EndsWith, Finishes, IsStatus, damaged_text, input_failed_text, members_full_text, memory_text}
use Rattle.persist_app.specs.Endings.{spent_text, store_failed_text}
use Rattle.persist_app.specs.PlainEnds.{EndsPlainly}
use Rattle.persist_app.specs.TopEnds.{CrewSays, EndsCrew, EndsTop, EndsWithOr, FinishesIngest, IsTopStatus, NamesCrew, NoCrew}
use Rattle.persist_app.specs.TopEnds.{heavy_text, misfit_text, upper_text}
use Rattle.persist_app.proofs.Performed.{extends_none, goes_extends}
use Rattle.persist_app.proofs.TopWords.{one_crew}

rose_later : (a b c : ℕ) → Rose a b → b ≤ c → Rose a c
rose_later a b c rose later = omega arith

rose_sooner : (a b c : ℕ) → a ≤ b → Rose b c → Rose a c
rose_sooner a b c later rose = omega arith

-- ---- `ingest`

module _ (crew : CrewWords) (told told_now : Option History) (left left_now : Option (List ℕ)) (reads reads_now : ℕ)
    (taken between taken_now : Option (List ℕ)) (puts puts_mid puts_now status : ℕ) (later : puts ≤ puts_mid) where
  -- before the last line
  abbrev Ended : IngestEnding → Type 0
  Ended ending = EndsIngest crew.shard crew.size.compactors ending told told_now left left_now reads reads_now taken between puts puts_mid

  abbrev Says : Type 0
  Says = EndsCrew crew told told_now left left_now reads reads_now taken taken_now puts puts_now status

  abbrev EndedSo : Option Ending → Type 0
  EndedSo None = ⊤
  EndedSo (Some e) = Ended (ends.AsRun e)

  gains : (line : List ℕ) → between ≡ taken → Gains between taken_now line → Gains taken taken_now line
  gains line same gained = subst (λ (t : Option (List ℕ)). Gains t taken_now line) same gained

  no_put : status ≡ 5 → Rose puts_mid puts_now → Says
  no_put five rose = (ends.AsRun endings.OutputFailed, (five, rose_sooner puts puts_mid puts_now later rose))

  -- as a run ends
  as_run : (e : Ending) → Ended (ends.AsRun e) → Finishes (Some e) status between taken_now puts_mid puts_now → Says
  as_run e ended f = go f.known
    where
      so : (x : Ending) → Some e ≡ Some x → Ended (ends.AsRun x)
      so x is = subst EndedSo is ended

      go : IsStatus status → Says
      go (inl zero_is) =
          let c = f.complete zero_is in (
            ends.AsRun endings.Complete,
            (
              zero_is,
              subst (λ (t : Option (List ℕ)). FeedGoes crew.shard told told_now left left_now
                  (Completes crew.shard crew.size.compactors taken t)) (sym c.1) (so endings.Complete c.0),
            ),
          )
      go (inr (inl two)) = let bad : Some e ≡ None = (f.no_command two).0 in absurd cc
      go (inr (inr (inl three))) =
          let l = f.line three in
          let at = so (endings.BadLine l.0) l.1 in
          (ends.AsRun (endings.BadLine l.0), (three, at.0, gains (line_fault_text l.0) at.1 l.2))
      go (inr (inr (inr (inl four)))) =
          let i = f.input four in
          let at = so endings.InputFailed i.0 in
          (ends.AsRun endings.InputFailed, (four, at.0, gains input_failed_text at.1 i.1))
      go (inr (inr (inr (inr (inl five))))) = ⊎_elim
          (λ is. (ends.AsRun endings.OutputFailed, (five, rose_later puts puts_mid puts_now (so endings.OutputFailed is) f.later)))
          (λ rose. no_put five rose) (f.output five)
      go (inr (inr (inr (inr (inr (inl six)))))) =
          let st = f.store six in
          let at = so endings.StoreFailed st.0 in
          (ends.AsRun endings.StoreFailed, (six, at.0, gains store_failed_text at.1 st.1))
      go (inr (inr (inr (inr (inr (inr (inl eight))))))) = (ends.AsRun endings.Memory, eight)
      go (inr (inr (inr (inr (inr (inr (inr (inl nine)))))))) =
          let d = f.damaged nine in
          let at = so endings.Damaged d.0 in
          (ends.AsRun endings.Damaged, (nine, at.0, gains damaged_text at.1 d.1))
      go (inr (inr (inr (inr (inr (inr (inr (inr (inl ten))))))))) =
          let m = f.full ten in
          let at = so endings.MembersFull m.0 in
          (ends.AsRun endings.MembersFull, (ten, at.0, gains members_full_text at.1 m.1))
      go (inr (inr (inr (inr (inr (inr (inr (inr (inr eleven))))))))) =
          let n = f.spent eleven in
          let at = so endings.Spent n.0 in
          (ends.AsRun endings.Spent, (eleven, at.0, gains spent_text at.1 n.1))

  ends_with : (wanted : ℕ) (line : List ℕ) (ending : IngestEnding) → EndsWithOr status wanted line between taken_now puts_mid puts_now →
      (status ≡ wanted → Gains between taken_now line → CrewSays crew told told_now left left_now reads reads_now taken taken_now puts puts_now ending status) →
      Says
  ends_with wanted line ending (inl (inl (is, gained))) so = (ending, so is gained)
  ends_with wanted line ending (inl (inr (five, rose))) so = no_put five rose
  ends_with wanted line ending (inr (inl (eight, gained))) so = (ends.AsRun endings.Memory, eight)
  ends_with wanted line ending (inr (inr (five, rose))) so = no_put five rose

  -- what has become of it is told by what it came to and by its last line
  pub crew_ends : (ending : IngestEnding) → Ended ending → IsTold crew.size ending told told_now →
      FinishesIngest ending status between taken_now puts_mid puts_now → Says
  crew_ends (ends.AsRun e) ended halted f = as_run e ended f
  crew_ends (ends.Upper upper) (goes, same) halted f =
      ends_with 7 (upper_text upper) (ends.Upper upper) f (λ is gained. (is, goes, halted, gains (upper_text upper) same gained))
  crew_ends (ends.Misfit upper) (goes, same) halted f =
      ends_with 12 (misfit_text upper) (ends.Misfit upper) f (λ is gained. (is, goes, gains (misfit_text upper) same gained))
  crew_ends (ends.Heavy weight) (goes, same) halted f =
      ends_with 12 (heavy_text weight) (ends.Heavy weight) f (λ is gained. (is, goes, gains (heavy_text weight) same gained))

-- ---- what is spared

other_status : (status wanted : ℕ) (line : List ℕ) (taken taken_now : Option (List ℕ)) (puts puts_now : ℕ) → 5 < wanted →
    EndsWithOr status wanted line taken taken_now puts puts_now → (status ≡ 3) ⊎ (status ≡ 4) → ⊥
other_status status wanted line taken taken_now puts puts_now high (inl (inl (is, g))) (inl e) = omega (arith, high, is, e)
other_status status wanted line taken taken_now puts puts_now high (inl (inl (is, g))) (inr e) = omega (arith, high, is, e)
other_status status wanted line taken taken_now puts puts_now high (inl (inr (is, g))) (inl e) = omega (arith, is, e)
other_status status wanted line taken taken_now puts puts_now high (inl (inr (is, g))) (inr e) = omega (arith, is, e)
other_status status wanted line taken taken_now puts puts_now high (inr (inl (is, g))) (inl e) = omega (arith, is, e)
other_status status wanted line taken taken_now puts puts_now high (inr (inl (is, g))) (inr e) = omega (arith, is, e)
other_status status wanted line taken taken_now puts puts_now high (inr (inr (is, g))) (inl e) = omega (arith, is, e)
other_status status wanted line taken taken_now puts puts_now high (inr (inr (is, g))) (inr e) = omega (arith, is, e)

abbrev RunSpares : {S : Type 0} → Option Ending → S → S → Type 0
RunSpares None store now = ⊤
RunSpares (Some e) store now = Spares (ends.AsRun e) store now

-- where no line was executed, the store is as it was
pub crew_spared : {S : Type 0} → (ending : IngestEnding) (status : ℕ) (taken taken_now : Option (List ℕ)) (puts puts_now : ℕ) (store now : S) →
    FinishesIngest ending status taken taken_now puts puts_now → Spares ending store now → (status ≡ 3) ⊎ (status ≡ 4) → now ≡ store
crew_spared {S} (ends.AsRun e) status taken taken_now puts puts_now store now f s (inl three) =
    subst (λ (x : Option Ending). RunSpares x store now) (f.line three).1 s
crew_spared {S} (ends.AsRun e) status taken taken_now puts puts_now store now f s (inr four) =
    subst (λ (x : Option Ending). RunSpares x store now) (f.input four).0 s
crew_spared (ends.Upper upper) status taken taken_now puts puts_now store now f s at =
    absurd (other_status status 7 (upper_text upper) taken taken_now puts puts_now (omega arith) f at)
crew_spared (ends.Misfit upper) status taken taken_now puts puts_now store now f s at =
    absurd (other_status status 12 (misfit_text upper) taken taken_now puts puts_now (omega arith) f at)
crew_spared (ends.Heavy weight) status taken taken_now puts puts_now store now f s at =
    absurd (other_status status 12 (heavy_text weight) taken taken_now puts puts_now (omega arith) f at)

-- ---- any words

module _ (words : List (List ℕ)) (status : ℕ) (told told_now : Option History) (failed failed_now : ℕ) (left left_now : Option (List ℕ))
    (reads reads_now faults faults_now : ℕ) (taken taken_now : Option (List ℕ)) (puts puts_now : ℕ) where
  abbrev Ends : Type 0
  Ends = EndsTop words status told told_now failed failed_now left left_now reads reads_now faults faults_now taken taken_now puts puts_now

  abbrev EndedBy : CrewWords → IngestEnding → Type 0
  EndedBy crew ending = CrewSays crew told told_now left left_now faults faults_now taken taken_now puts puts_now ending status

  crew_status : (crew : CrewWords) (ending : IngestEnding) → EndedBy crew ending → IsTopStatus status
  crew_status crew (ends.AsRun endings.Complete) says = inl (inl says.0)
  crew_status crew (ends.AsRun (endings.BadLine number)) says = inl (inr (inr (inl says.0)))
  crew_status crew (ends.AsRun endings.InputFailed) says = inl (inr (inr (inr (inl says.0))))
  crew_status crew (ends.AsRun endings.OutputFailed) says = inl (inr (inr (inr (inr (inl says.0)))))
  crew_status crew (ends.AsRun endings.StoreFailed) says = inl (inr (inr (inr (inr (inr (inl says.0))))))
  crew_status crew (ends.AsRun endings.Memory) says = inl (inr (inr (inr (inr (inr (inr (inl says)))))))
  crew_status crew (ends.AsRun endings.Damaged) says = inl (inr (inr (inr (inr (inr (inr (inr (inl says.0))))))))
  crew_status crew (ends.AsRun endings.MembersFull) says = inl (inr (inr (inr (inr (inr (inr (inr (inr (inl says.0)))))))))
  crew_status crew (ends.AsRun endings.Spent) says = inl (inr (inr (inr (inr (inr (inr (inr (inr (inr says.0)))))))))
  crew_status crew (ends.Upper upper) says = inr (inl says.0)
  crew_status crew (ends.Misfit upper) says = inr (inr says.0)
  crew_status crew (ends.Heavy weight) says = inr (inr says.0)

  crew_failed : (crew : CrewWords) (ending : IngestEnding) → EndedBy crew ending → status ≡ 6 → IfSome told_now EndsInFailure
  crew_failed crew (ends.AsRun endings.Complete) says six = absurd (omega (arith, says.0, six))
  crew_failed crew (ends.AsRun (endings.BadLine number)) says six = absurd (omega (arith, says.0, six))
  crew_failed crew (ends.AsRun endings.InputFailed) says six = absurd (omega (arith, says.0, six))
  crew_failed crew (ends.AsRun endings.OutputFailed) says six = absurd (omega (arith, says.0, six))
  crew_failed crew (ends.AsRun endings.StoreFailed) says six = says.1.1
  crew_failed crew (ends.AsRun endings.Memory) says six = absurd (omega (arith, says, six))
  crew_failed crew (ends.AsRun endings.Damaged) says six = absurd (omega (arith, says.0, six))
  crew_failed crew (ends.AsRun endings.MembersFull) says six = absurd (omega (arith, says.0, six))
  crew_failed crew (ends.AsRun endings.Spent) says six = absurd (omega (arith, says.0, six))
  crew_failed crew (ends.Upper upper) says six = absurd (omega (arith, says.0, six))
  crew_failed crew (ends.Misfit upper) says six = absurd (omega (arith, says.0, six))
  crew_failed crew (ends.Heavy weight) says six = absurd (omega (arith, says.0, six))

  crew_untold : (crew : CrewWords) (ending : IngestEnding) → EndedBy crew ending → status ≡ 2 → ⊥
  crew_untold crew (ends.AsRun endings.Complete) says two = omega (arith, says.0, two)
  crew_untold crew (ends.AsRun (endings.BadLine number)) says two = omega (arith, says.0, two)
  crew_untold crew (ends.AsRun endings.InputFailed) says two = omega (arith, says.0, two)
  crew_untold crew (ends.AsRun endings.OutputFailed) says two = omega (arith, says.0, two)
  crew_untold crew (ends.AsRun endings.StoreFailed) says two = omega (arith, says.0, two)
  crew_untold crew (ends.AsRun endings.Memory) says two = omega (arith, says, two)
  crew_untold crew (ends.AsRun endings.Damaged) says two = omega (arith, says.0, two)
  crew_untold crew (ends.AsRun endings.MembersFull) says two = omega (arith, says.0, two)
  crew_untold crew (ends.AsRun endings.Spent) says two = omega (arith, says.0, two)
  crew_untold crew (ends.Upper upper) says two = omega (arith, says.0, two)
  crew_untold crew (ends.Misfit upper) says two = omega (arith, says.0, two)
  crew_untold crew (ends.Heavy weight) says two = omega (arith, says.0, two)

  -- where the words are an `ingest`, the store is as it was with 2, 3 and 4 where it is with 3 and 4
  pub crew_untouched : (P : Type 0) (crew : CrewWords) →
      EndsCrew crew told told_now left left_now faults faults_now taken taken_now puts puts_now status → ((status ≡ 3) ⊎ (status ≡ 4) → P) →
      (status ≡ 2) ⊎ ((status ≡ 3) ⊎ (status ≡ 4)) → P
  crew_untouched P crew (ending, says) so (inl two) = absurd (crew_untold crew ending says two)
  crew_untouched P crew (ending, says) so (inr at) = so at

  pub crew_top : (crew : CrewWords) → NamesCrew words crew →
      EndsCrew crew told told_now left left_now faults faults_now taken taken_now puts puts_now status →
      ReadsUpTo (MAX_BYTES + 1) left left_now reads reads_now → StaysLawful crew.shard told told_now →
      ((status ≡ 3) ⊎ (status ≡ 4) → told_now ≡ told) → Ends
  crew_top crew names (ending, says) reading lawful untouched = record {
    ingests = λ other is. subst (λ (c : CrewWords).
        EndsCrew c told told_now left left_now faults faults_now taken taken_now puts puts_now status) (one_crew words crew other names is)
        (ending, says);
    lawful = λ other is. subst (λ (c : CrewWords). StaysLawful c.shard told told_now) (one_crew words crew other names is) lawful;
    plain = λ none. absurd (none crew names);
    statuses = crew_status crew ending says;
    store_failed = crew_failed crew ending says;
    reading = reading;
    store = goes_extends crew.shard _ told told_now lawful;
    untouched = crew_untouched (told_now ≡ told) crew (ending, says) untouched;
  }

  pub plain_top : NoCrew words →
      EndsPlainly words status told told_now failed failed_now left left_now reads reads_now faults faults_now taken taken_now puts puts_now →
      Ends
  plain_top none e = record {
    ingests = λ crew is. absurd (none crew is);
    lawful = λ crew is. absurd (none crew is);
    plain = λ other. e;
    statuses = inl e.statuses;
    store_failed = λ six. (e.store_failed six).1.1;
    reading = e.reading;
    store = e.store;
    untouched = e.untouched;
  }

-- ---- want of memory for the words

nothing_read : (left : Option (List ℕ)) (reads : ℕ) → ReadsUpTo (MAX_BYTES + 1) left left reads reads
nothing_read None reads = record { bytes = []; few = omega arith; taken = refl; turns = omega arith }
nothing_read (Some text) reads = record { bytes = []; few = omega arith; taken = (text, refl, refl); turns = omega arith }

module _ (words : List (List ℕ)) (status : ℕ) (told : Option History) (failed : ℕ) (left : Option (List ℕ)) (reads faults : ℕ)
    (taken taken_now : Option (List ℕ)) (puts puts_now : ℕ) where
  eight_plainly : status ≡ 8 →
      EndsPlainly words status told told failed failed left left reads reads faults faults taken taken_now puts puts_now
  eight_plainly eight = record {
    statuses = inr (inr (inr (inr (inr (inr (inl eight))))));
    complete = λ e. absurd (omega (arith, eight, e));
    no_command = λ e. absurd (omega (arith, eight, e));
    line = λ e. absurd (omega (arith, eight, e));
    input = λ e. absurd (omega (arith, eight, e));
    output = λ e. absurd (omega (arith, eight, e));
    store_failed = λ e. absurd (omega (arith, eight, e));
    damaged = λ e. absurd (omega (arith, eight, e));
    members_full = λ e. absurd (omega (arith, eight, e));
    spent = λ e. absurd (omega (arith, eight, e));
    reading = nothing_read left reads;
    store = extends_none told;
    lawful = λ shard is. rests_lawful shard told;
    idle = λ none. (refl, refl);
    untouched = λ at. refl;
  }

  five_plainly : status ≡ 5 → Rose puts puts_now →
      EndsPlainly words status told told failed failed left left reads reads faults faults taken taken_now puts puts_now
  five_plainly five rose = record {
    statuses = inr (inr (inr (inr (inl five))));
    complete = λ e. absurd (omega (arith, five, e));
    no_command = λ e. absurd (omega (arith, five, e));
    line = λ e. absurd (omega (arith, five, e));
    input = λ e. absurd (omega (arith, five, e));
    output = λ e. rose;
    store_failed = λ e. absurd (omega (arith, five, e));
    damaged = λ e. absurd (omega (arith, five, e));
    members_full = λ e. absurd (omega (arith, five, e));
    spent = λ e. absurd (omega (arith, five, e));
    reading = nothing_read left reads;
    store = extends_none told;
    lawful = λ shard is. rests_lawful shard told;
    idle = λ none. (refl, refl);
    untouched = λ at. refl;
  }

  -- nothing was read or done for want of memory
  pub memory_top : EndsWith status 8 memory_text taken taken_now puts puts_now →
      EndsTop words status told told failed failed left left reads reads faults faults taken taken_now puts puts_now
  memory_top (inl (eight, gained)) = record {
    ingests = λ crew is. (ends.AsRun endings.Memory, eight);
    lawful = λ crew is. rests_lawful crew.shard told;
    plain = λ none. eight_plainly eight;
    statuses = inl (inr (inr (inr (inr (inr (inr (inl eight)))))));
    store_failed = λ six. absurd (omega (arith, eight, six));
    reading = nothing_read left reads;
    store = extends_none told;
    untouched = λ at. refl;
  }
  memory_top (inr (five, rose)) = record {
    ingests = λ crew is. (ends.AsRun endings.OutputFailed, (five, rose));
    lawful = λ crew is. rests_lawful crew.shard told;
    plain = λ none. five_plainly five rose;
    statuses = inl (inr (inr (inr (inr (inl five)))));
    store_failed = λ six. absurd (omega (arith, five, six));
    reading = nothing_read left reads;
    store = extends_none told;
    untouched = λ at. refl;
  }
