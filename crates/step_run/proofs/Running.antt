-- The lines of a schedule in turn, over a store that nobody else calls.
use Rattle.std.proofs.Common.{◌≡◌, ℕ, Option, Ok, Err, List, [], ◌∷◌, ◌++◌, length, refl, sym, ap, subst, ◌∙◌, append_assoc}
use Rattle.std.proofs.lemmas.List.{append-nil}
use Rattle.update_core.specs.declared.updates.Update.{Update}
use Rattle.store_core.specs.declared.shards.ShardId.{ShardId}
use Rattle.store_core.specs.declared.entries.Entry.{Entry}
use Rattle.store_core.specs.Stores.{Stored}
use Rattle.store_core.specs.Histories.{History}
use Rattle.feed_text.specs.Streams.{Gains}
use Rattle.feed_text.proofs.Streams.{Gains-none, Gains-append}
use Rattle.driving.specs.Goings.{Goes}
use Rattle.driving.proofs.GoingLaws.{Between, going_so, more_going, no_going}
use Rattle.step_text.specs.declared.step_lines.StepLine.{StepLine}
use Rattle.step_text.specs.declared.schedules.Schedule.{Schedule}
use Rattle.step_run.specs.declared.heard.Heard.{Heard}
use Rattle.step_run.specs.declared.step_faults.StepFault.{StepFault}
use Rattle.step_run.specs.declared.step_faults.StepFault.TheVariants as faults
use Rattle.step_run.specs.Executing.{ExecutesTo, LinesOf, Writes, nobody}
use Rattle.step_run.specs.Faults.{FailedBy, FailsWriting}
use Rattle.step_run.specs.Lines.{Does, Sitting, heard_text}

-- what can fail while something is written says nothing of the history
pub writing_fails : (shard : ShardId) (fault : StepFault) → FailsWriting {A = Unit} (Err fault) → (start : Stored) (es now : List Entry) →
    FailedBy shard fault start es now
writing_fails shard faults.Memory h start es now = tt
writing_fails shard faults.Sink h start es now = tt
writing_fails shard faults.Store h start es now = absurd h
writing_fails shard faults.Damaged h start es now = absurd h
writing_fails shard faults.Spent h start es now = absurd h

module _ (shard : ShardId) where
  -- a fault since later entries is one since earlier ones
  pub fault_before : (fault : StepFault) (list : List Update) (start : Stored) (es mid now : List Entry) → Between shard list start es mid →
      FailedBy shard fault start mid now → FailedBy shard fault start es now
  fault_before faults.Memory list start es mid now b h = tt
  fault_before faults.Sink list start es mid now b h = tt
  fault_before faults.Store list start es mid now b h = tt
  fault_before faults.Damaged list start es mid now b h = absurd h
  fault_before faults.Spent list start es mid now b h = record {
    place = h.place;
    more = h.more ++ b.more;
    split = h.split;
    since = h.since ∙ ap (λ (fs : List Entry). h.more ++ fs) b.split ∙ sym (append_assoc h.more b.more es);
    answered = h.answered;
    last = h.last;
  }

  -- The sink has gained the text of some lines, and what the others do from here is what is left of all.
  abbrev pub Comes : List (List ℕ) → List StepLine → Option (List ℕ) → Option (List ℕ) → List StepLine → Sitting → List Update → Stored →
      List Entry → List Entry → Type 0
  Comes names all taken now rest mid list start es fs =
      (text : List ℕ) × Gains taken now text × ((last : Sitting) (tail : List ℕ) (end : List Entry) →
      LinesOf shard names rest mid last tail list start fs end → LinesOf shard names all nobody last (text ++ tail) list start es end)

  abbrev pub RunOver : Option History → Option History → List (List ℕ) → List StepLine → Option (List ℕ) → Option (List ℕ) → List StepLine →
      Sitting → Type 0
  RunOver a b names all taken now rest mid = Goes shard a b (Comes names all taken now rest mid)

  pub run_starts : (a : Option History) (names : List (List ℕ)) (all : List StepLine) (taken : Option (List ℕ)) (mid : Sitting) → mid ≡ nobody →
      RunOver a a names all taken taken all mid
  run_starts a names all taken mid is = subst (λ (s : Sitting). RunOver a a names all taken taken all s) (sym is)
      (no_going shard a (Comes names all taken taken all nobody) (λ list start es. ([], Gains-none taken, λ last tail end h. h)))

  pub run_goes_on : (a b d : Option History) (names : List (List ℕ)) (all had rest : List StepLine) (taken before now : Option (List ℕ))
      (line : StepLine) (mid next : Sitting) (heard : Heard) (text : List ℕ) → had ≡ line ∷ rest → text ≡ heard_text names heard →
      RunOver a b names all taken before had mid → Goes shard b d (Does shard (length names) line mid next heard) → Gains before now text →
      RunOver a d names all taken now rest next
  run_goes_on a b d names all had rest taken before now line mid next heard text split is over does gains =
      more_going shard a b d (Comes names all taken before had mid) (Does shard (length names) line mid next heard) (Comes names all taken now rest next)
      over does (λ list start es fs gs b1 b2 come done. (
        come.0 ++ text,
        Gains-append taken before now come.0 text come.1 gains,
        λ last tail end h.
            let first : LinesOf shard names (line ∷ rest) mid last (text ++ tail) list start fs end =
            (next, heard, gs, tail, done, h, ap (λ (t : List ℕ). t ++ tail) is) in
            subst (λ (t : List ℕ). LinesOf shard names all nobody last t list start es end) (sym (append_assoc come.0 text tail))
            (come.2 last (text ++ tail) end (subst (λ (ls : List StepLine). LinesOf shard names ls mid last (text ++ tail) list start fs end) (sym split) first)),
      ))

  pub run_ends : (a b : Option History) (schedule : Schedule) (rest : List StepLine) (taken now : Option (List ℕ)) (mid : Sitting) → rest ≡ [] →
      RunOver a b schedule.names schedule.lines taken now rest mid → Goes shard a b (ExecutesTo shard schedule taken now (Ok tt))
  run_ends a b schedule rest taken now mid none over =
      going_so shard a b (Comes schedule.names schedule.lines taken now rest mid) (Writes shard schedule taken now) over (λ list start es fs bt come.
      let here : LinesOf shard schedule.names rest mid mid [] list start fs fs =
      subst (λ (ls : List StepLine). LinesOf shard schedule.names ls mid mid [] list start fs fs) (sym none) (refl, refl, refl) in (
        come.0,
        come.1,
        (
          mid,
          subst (λ (t : List ℕ). LinesOf shard schedule.names schedule.lines nobody mid t list start es fs) (append-nil come.0)
              (come.2 mid [] fs here),
        ),
      ))

  -- a line that failed
  pub run_fails : (a b d : Option History) (names : List (List ℕ)) (all had : List StepLine) (taken before : Option (List ℕ)) (mid : Sitting)
      (fault : StepFault) → RunOver a b names all taken before had mid → Goes shard b d (λ list start es now. FailedBy shard fault start es now) →
      Goes shard a d (λ list start es now. FailedBy shard fault start es now)
  run_fails a b d names all had taken before mid fault over failed =
      more_going shard a b d (Comes names all taken before had mid) (λ list start es now. FailedBy shard fault start es now)
      (λ list start es now. FailedBy shard fault start es now) over failed (λ list start es fs gs b1 b2 come h. fault_before fault list start es fs gs b1 h)

  -- memory or the sink failed after a line
  pub run_stops : (a b d : Option History) (names : List (List ℕ)) (all had : List StepLine) (taken before : Option (List ℕ)) (mid : Sitting)
      (how : List Update → Stored → List Entry → List Entry → Type 0) (fault : StepFault) →
      ((start : Stored) (es fs : List Entry) → FailedBy shard fault start es fs) → RunOver a b names all taken before had mid → Goes shard b d how →
      Goes shard a d (λ list start es now. FailedBy shard fault start es now)
  run_stops a b d names all had taken before mid how fault any over went =
      more_going shard a b d (Comes names all taken before had mid) how (λ list start es now. FailedBy shard fault start es now) over went
      (λ list start es fs gs b1 b2 come h. any start es gs)
