-- What is done after a crew. Entries go newest first.
use Rattle.std.proofs.Common.{◌≡◌, ◌≢◌, ◌⊎◌, inl, inr, ℕ, Option, Result, Ok, Err, List, ◌++◌, refl, sym, ap, subst, ◌∙◌, arith}
use Rattle.std.specs.Prelude.{⊤}
use Rattle.std.specs.List.{AllByRecursion}
use Rattle.update_core.specs.declared.updates.Update.{Update}
use Rattle.update_core.specs.declared.appends.FeedAppend.{FeedAppend}
use Rattle.update_core.specs.Collections.{Collection}
use Rattle.store_core.specs.declared.shards.ShardId.{ShardId}
use Rattle.store_core.specs.declared.entries.Entry.{Entry}
use Rattle.store_core.specs.Stores.{Stored}
use Rattle.store_core.specs.Histories.{History}
use Rattle.state_core.proofs.ListLemmas.{bool_cases}
use Rattle.history_core.specs.Stands.{accepted}
use Rattle.appends_core.specs.Feeds.{end_of_feed}
use Rattle.crew.specs.declared.ends.WorkerEnd.{WorkerEnd}
use Rattle.feed_text.specs.declared.feed_lines.FeedLine.{FeedLine}
use Rattle.driving.specs.Goings.{Goes}
use Rattle.driving.proofs.GoingLaws.{going_so, more_going, no_going}
use Rattle.plain_run.specs.declared.session_faults.SessionFault.{SessionFault}
use Rattle.plain_run.specs.declared.session_faults.SessionFault.TheVariants as outside
use Rattle.ingest_text.specs.Feeds.{IsQuery}
use Rattle.read_client.specs.declared.readers.Reader.{Reader}
use Rattle.plain_run.specs.Answering.{Closed, OpensReader, TendsTo, number_of}
use Rattle.plain_run.specs.PlainRuns.{View}
use Rattle.plain_run.specs.Sessions.{ViewAt, joining_view}
use Rattle.plain_run.specs.Settling.{GetsSettled}
use Rattle.plain_run.proofs.Views.{view_accepted}
use Rattle.ingest_run.specs.declared.extents.Extent.{Extent}
use Rattle.ingest_run.specs.declared.faults.IngestFault.{IngestFault}
use Rattle.ingest_run.specs.declared.faults.IngestFault.TheVariants as faults
use Rattle.ingest_run.specs.Ends.{Answers, AsksAll, Finishes, Reports, SeesEnd, SettlesBy, ShortAt}
use Rattle.ingest_run.specs.Looking.{Looks}
use Rattle.ingest_run.specs.Verdicts.{any_end, are_halted, crew_verdict, has_found_damage, is_full_end, is_memory_end, is_spent_end, short_of_end}
use Rattle.ingest_run.proofs.AskLaws.{same_run}
use Rattle.ingest_run.proofs.FaultLaws.{failed_fault, fault_later, fault_over}

-- it is found by a worker
abbrev IsOfCrew : IngestFault → Type 0
IsOfCrew faults.Memory = ⊤
IsOfCrew faults.Damaged = ⊤
IsOfCrew faults.Spent = ⊤
IsOfCrew faults.MembersFull = ⊤
IsOfCrew _ = ⊥

abbrev pub short : IngestFault → Result Unit IngestFault
short e = Err e

abbrev whole : Result Unit IngestFault
whole = Ok tt

pub err_is : (e f : IngestFault) → short e ≡ short f → e ≡ f
err_is e f h = cc

never : (fault : IngestFault) → whole ≡ short fault → ⊥
never fault h = cc

-- the verdict on ends is one of these four
of_verdict : (ends : List WorkerEnd) (fault : IngestFault) → crew_verdict ends ≡ Err fault → IsOfCrew fault
of_verdict ends fault is = elim (bool_cases (any_end is_memory_end ends)) [
  | inl m ↦ subst IsOfCrew (err_is faults.Memory fault (rw m at is)) tt
  | inr m ↦ elim (bool_cases (any_end has_found_damage ends)) [
    | inl d ↦ subst IsOfCrew (err_is faults.Damaged fault (rw (m, d) at is)) tt
    | inr d ↦ elim (bool_cases (any_end is_spent_end ends)) [
      | inl s ↦ subst IsOfCrew (err_is faults.Spent fault (rw (m, d, s) at is)) tt
      | inr s ↦ elim (bool_cases (any_end is_full_end ends)) [
        | inl f ↦ subst IsOfCrew (err_is faults.MembersFull fault (rw (m, d, s, f) at is)) tt
        | inr f ↦ absurd (never fault (rw (m, d, s, f) at is))
      ]
    ]
  ]
]

-- and never that of a command outside of the crew
pub verdict_inside : (ends : List WorkerEnd) (fault : IngestFault) (f : SessionFault) → crew_verdict ends ≡ Err fault →
    fault ≡ faults.Outside f → ⊥
verdict_inside ends fault f is same = subst IsOfCrew same (of_verdict ends fault is)

-- nor an upper
pub verdict_no_upper : (ends : List WorkerEnd) (fault : IngestFault) (u : Option ℕ) → crew_verdict ends ≡ Err fault →
    fault ≡ faults.Upper u → ⊥
verdict_no_upper ends fault u is same = subst IsOfCrew same (of_verdict ends fault is)

module _ (shard : ShardId) where
  -- ---- merges and collections

  pub merges_none : (a : Option History) (reader compactors : ℕ) → compactors ≡ 0 →
      Goes shard a a (TendsTo shard reader (SettlesBy shard compactors) (Ok tt))
  merges_none a reader compactors none =
      no_going shard a (TendsTo shard reader (SettlesBy shard compactors) (Ok tt))
      (λ list start es view v. (v, λ some. absurd (omega (arith, none, some))))

  pub merges_all : (a d : Option History) (reader compactors : ℕ) (result : Result Unit SessionFault) →
      Goes shard a d (TendsTo shard reader (GetsSettled shard) result) →
      Goes shard a d (TendsTo shard reader (SettlesBy shard compactors) result)
  merges_all a d reader compactors (Ok done) went =
      going_so shard a d (TendsTo shard reader (GetsSettled shard) (Ok done)) (TendsTo shard reader (SettlesBy shard compactors) (Ok done)) went
      (λ list start es now b f view v. let (at, settled) = f view v in (at, λ some. settled))
  merges_all a d reader compactors (Err outside.Damaged) went = went
  merges_all a d reader compactors (Err outside.Memory) went = went
  merges_all a d reader compactors (Err outside.Store) went = went
  merges_all a d reader compactors (Err outside.MembersFull) went = went
  merges_all a d reader compactors (Err outside.Spent) went = went

  pub collects_none : (a : Option History) → Goes shard a a (Closed shard (Ok tt))
  collects_none a = no_going shard a (Closed shard (Ok tt)) (λ list start es. (refl, λ settled. settled))

  -- ---- answers, and the reader's leave

  answered_left : (a b d : Option History) (reader : ℕ) (queries : List FeedLine) (text now : List ℕ) →
      Goes shard a b (AsksAll shard reader queries text now (Ok tt)) → Goes shard b d (Closed shard (Ok tt)) →
      Goes shard a d (Answers shard reader queries text now (Ok tt))
  answered_left a b d reader queries text now x y =
      more_going shard a b d (AsksAll shard reader queries text now (Ok tt)) (Closed shard (Ok tt))
      (Answers shard reader queries text now (Ok tt)) x y
      (λ list start es mid fs b1 b2 f closed view v.
      let (is, at, settled) = f view v in (
        is,
        record {
          accepts = closed.0 ∙ view_accepted shard list start mid reader view at ∙ sym (view_accepted shard list start es reader view v);
          settled = λ h. closed.1 (settled h);
        },
      ))

  pub answered : (a b d : Option History) (reader : ℕ) (queries : List FeedLine) (text now : List ℕ) (result : Result Unit SessionFault) →
      Goes shard a b (AsksAll shard reader queries text now (Ok tt)) → Goes shard b d (Closed shard result) →
      Goes shard a d (Answers shard reader queries text now result)
  answered a b d reader queries text now (Ok done) x y = answered_left a b d reader queries text now x y
  answered a b d reader queries text now (Err fault) x y =
      fault_later shard a b d reader (AsksAll shard reader queries text now (Ok tt)) fault
      (λ list start es mid b1 f view v. let (is, at, settled) = f view v in (view, at)) x (failed_fault shard b d reader fault y)

  -- ---- the report

  reported_all : (a b d : Option History) (reader compactors : ℕ) (queries : List FeedLine) (text now : List ℕ) →
      Goes shard a b (TendsTo shard reader (SettlesBy shard compactors) (Ok tt)) →
      Goes shard b d (Answers shard reader queries text now (Ok tt)) →
      Goes shard a d (Reports shard reader queries compactors text now (Ok tt))
  reported_all a b d reader compactors queries text now x y =
      more_going shard a b d (TendsTo shard reader (SettlesBy shard compactors) (Ok tt)) (Answers shard reader queries text now (Ok tt))
      (Reports shard reader queries compactors text now (Ok tt)) x y
      (λ list start es mid fs b1 b2 f g view v.
      let (at, settles) = f view v in
      let (is, stays) = g view at in (
        is,
        record {
          accepts = stays.accepts ∙ view_accepted shard list start mid reader view at
              ∙ sym (view_accepted shard list start es reader view v);
          settled = λ some. stays.settled (settles some);
        },
      ))

  pub reported : (a b d : Option History) (reader compactors : ℕ) (queries : List FeedLine) (text now : List ℕ)
      (result : Result Unit SessionFault) → Goes shard a b (TendsTo shard reader (SettlesBy shard compactors) (Ok tt)) →
      Goes shard b d (Answers shard reader queries text now result) →
      Goes shard a d (Reports shard reader queries compactors text now result)
  reported a b d reader compactors queries text now (Ok done) x y = reported_all a b d reader compactors queries text now x y
  reported a b d reader compactors queries text now (Err fault) x y =
      fault_later shard a b d reader (TendsTo shard reader (SettlesBy shard compactors) (Ok tt)) fault
      (λ list start es mid b1 f view v. (view, (f view v).0)) x y

  -- ---- the upper

  pub seen_end : (a d : Option History) (reader : ℕ) (appends : List FeedAppend) (x : Extent) → x.upper ≡ end_of_feed appends →
      Goes shard a d (Looks shard (Ok x)) → Goes shard a d (SeesEnd shard reader appends (Ok tt))
  seen_end a d reader appends x is went =
      going_so shard a d (Looks shard (Ok x)) (SeesEnd shard reader appends (Ok tt)) went
      (λ list start es now b saw view v. let (at, reaches) = saw.reads reader view v in (sym reaches.upper ∙ is, at))

  pub seen_not : (a d : Option History) (reader : ℕ) (appends : List FeedAppend) (fault : SessionFault) →
      Goes shard a d (Looks shard (Err fault)) → Goes shard a d (SeesEnd shard reader appends (Err (faults.Outside fault)))
  seen_not a d reader appends fault went = failed_fault shard a d reader fault went

  pub seen_short : (a d : Option History) (reader : ℕ) (appends : List FeedAppend) (x : Extent) (ends : List WorkerEnd) (writers : ℕ)
      (fault : IngestFault) → fault ≡ short_of_end ends writers x.upper → x.upper ≢ end_of_feed appends →
      Goes shard a d (Looks shard (Ok x)) → Goes shard a d (SeesEnd shard reader appends (Err fault))
  seen_short a d reader appends x ends writers fault is apart went =
      by fault (of_short ends writers x.upper fault is)
    where
      -- it is one of two
      of_short : (es : List WorkerEnd) (n : ℕ) (u : Option ℕ) (fault : IngestFault) → fault ≡ short_of_end es n u →
          (fault ≡ faults.Upper u) ⊎ (fault ≡ faults.Damaged)
      of_short es n u fault is = elim (bool_cases (are_halted n es)) [
        | inl h ↦ inl (is ∙ (rw h refl))
        | inr h ↦ inr (is ∙ (rw h refl))
      ]

      kept : (list : List Update) (start : Stored) (es now : List Entry) (view : View) → ViewAt shard list start es reader view →
          ViewAt shard list start now reader view → accepted shard list start now ≡ accepted shard list start es
      kept list start es now view v at =
          view_accepted shard list start now reader view at ∙ sym (view_accepted shard list start es reader view v)

      by : (fault : IngestFault) → (fault ≡ faults.Upper x.upper) ⊎ (fault ≡ faults.Damaged) →
          Goes shard a d (SeesEnd shard reader appends (Err fault))
      by fault (inl e) = subst (λ (f : IngestFault). Goes shard a d (SeesEnd shard reader appends (Err f))) (sym e)
          (going_so shard a d (Looks shard (Ok x)) (SeesEnd shard reader appends (Err (faults.Upper x.upper))) went
          (λ list start es now b saw view v.
          let (at, reaches) = saw.reads reader view v in (reaches.upper, apart, kept list start es now view v at)))
      by fault (inr e) = subst (λ (f : IngestFault). Goes shard a d (SeesEnd shard reader appends (Err f))) (sym e)
          (going_so shard a d (Looks shard (Ok x)) (SeesEnd shard reader appends (Err faults.Damaged)) went
          (λ list start es now b saw view v.
          let (at, reaches) = saw.reads reader view v in kept list start es now view v at))

  -- ---- the whole

  -- workers found otherwise
  pub verdict_ends : (a : Option History) (reader : ℕ) (appends : List FeedAppend) (ends : List WorkerEnd) (fault : IngestFault) →
      crew_verdict ends ≡ Err fault → Goes shard a a (ShortAt shard reader appends fault)
  verdict_ends a reader appends ends fault is =
      by fault (of_verdict ends fault is)
    where
      by : (fault : IngestFault) → IsOfCrew fault → Goes shard a a (ShortAt shard reader appends fault)
      by faults.Memory h = no_going shard a (ShortAt shard reader appends faults.Memory) (λ list start es view v. refl)
      by faults.Damaged h = no_going shard a (ShortAt shard reader appends faults.Damaged) (λ list start es view v. refl)
      by faults.Spent h = no_going shard a (ShortAt shard reader appends faults.Spent) (λ list start es view v. refl)
      by faults.MembersFull h = no_going shard a (ShortAt shard reader appends faults.MembersFull) (λ list start es view v. refl)
      by (faults.Outside fault) h = absurd h
      by (faults.Upper upper) h = absurd h
      by (faults.Misfit upper) h = absurd h
      by (faults.Heavy weight) h = absurd h

  -- the upper is where the appends end, and another reader has joined that sees the same collection
  abbrev pub Resumes : ℕ → List FeedAppend → ℕ → List Update → Stored → List Entry → List Entry → Type 0
  Resumes reader appends other list start es now =
      (view : View) → ViewAt shard list start es reader view →
      (view.collection.upper ≡ end_of_feed appends) ×
      ((next : View) × (next.collection ≡ view.collection) × ViewAt shard list start now other next)

  pub resumed : (a b d : Option History) (reader : ℕ) (appends : List FeedAppend) (new : Reader) →
      Goes shard a b (SeesEnd shard reader appends (Ok tt)) → Goes shard b d (OpensReader shard (Ok new)) →
      Goes shard a d (Resumes reader appends (number_of new))
  resumed a b d reader appends new x y =
      more_going shard a b d (SeesEnd shard reader appends (Ok tt)) (OpensReader shard (Ok new)) (Resumes reader appends (number_of new)) x y
      (λ list start es mid now b1 b2 f opened view v.
      let (at_end, at) = f view v in
      let next = joining_view (accepted shard list start mid) at.state in
      (at_end, (next, sym at.collection, opened next (inr (at.number, at.state, at.last, refl)))))

  -- after a look that found the end
  pub finished_all : (a b d : Option History) (reader other compactors : ℕ) (appends : List FeedAppend) (queries : List FeedLine)
      (text now : List ℕ) → AllByRecursion IsQuery queries → Goes shard a b (Resumes reader appends other) →
      Goes shard b d (Reports shard other queries compactors text now (Ok tt)) →
      Goes shard a d (Finishes shard reader appends queries compactors text now (Ok tt))
  finished_all a b d reader other compactors appends queries text now all x y =
      more_going shard a b d (Resumes reader appends other) (Reports shard other queries compactors text now (Ok tt))
      (Finishes shard reader appends queries compactors text now (Ok tt)) x y
      (λ list start es mid fs b1 b2 f g view v.
      let (at_end, (next, same, at)) = f view v in
      let (is, rests) = g next at in (
        at_end,
        is ∙ ap (λ (t : List ℕ). text ++ t) (same_run next view queries all same),
        record {
          accepts = rests.accepts ∙ view_accepted shard list start mid other next at ∙ ap (λ (c : Collection). c.updates) same
              ∙ sym (view_accepted shard list start es reader view v);
          settled = rests.settled;
        },
      ))

  pub finished_not : (a b d : Option History) (reader other compactors : ℕ) (appends : List FeedAppend) (queries : List FeedLine)
      (text now : List ℕ) (fault : SessionFault) → Goes shard a b (Resumes reader appends other) →
      Goes shard b d (Reports shard other queries compactors text now (Err fault)) →
      Goes shard a d (ShortAt shard reader appends (faults.Outside fault))
  finished_not a b d reader other compactors appends queries text now fault x y =
      fault_over shard a b d reader other (Resumes reader appends other) fault
      (λ list start es mid b1 f view v. let (at_end, (next, same, at)) = f view v in (next, at)) x y

  -- no reader has joined
  pub finished_unjoined : (a b d : Option History) (reader : ℕ) (appends : List FeedAppend) (fault : SessionFault) →
      Goes shard a b (SeesEnd shard reader appends (Ok tt)) → Goes shard b d (OpensReader shard (Err fault)) →
      Goes shard a d (ShortAt shard reader appends (faults.Outside fault))
  finished_unjoined a b d reader appends fault x y =
      fault_later shard a b d reader (SeesEnd shard reader appends (Ok tt)) fault
      (λ list start es mid b1 f view v. (view, (f view v).1)) x (failed_fault shard b d reader fault y)
