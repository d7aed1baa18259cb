-- When each writer of a crew was halted.
use Rattle.std.proofs.Common.{◌≡◌, ◌≢◌, ◌==◌, Bool, ℕ, zero, suc, ◌+◌, ◌<◌, ◌≤◌, true, false, Option, Some, None, Result, Err, List, [], ◌∷◌, ◌++◌, length}
use Rattle.std.proofs.Common.{if◌then◌else◌, inl, inr, refl, sym, ap, subst, ◌∙◌, arith, append_assoc, append-nil}
use Rattle.std.proofs.lemmas.Bool.Decides.{nat_tests}
use Rattle.std.specs.List.{AllByRecursion}
use Rattle.turnstile.specs.Rule.{entries_by}
use Rattle.store_core.specs.declared.entries.Entry.{Entry}
use Rattle.store_core.specs.Histories.{History}
use Rattle.store_core.specs.Ports.{with_entries}
use Rattle.shared_store.specs.Trails.{entry_client}
use Rattle.state_core.proofs.ListLemmas.{bool_cases}
use Rattle.stops_core.specs.declared.stops.Stop.{Stop}
use Rattle.stops_core.specs.Stops.{stop_of}
use Rattle.crew.specs.declared.ends.WorkerEnd.{WorkerEnd}
use Rattle.crew.specs.declared.ends.WorkerEnd.TheVariants as ends
use Rattle.crew.specs.declared.plans.Plan.{Plan}
use Rattle.crew.specs.Plans.{client_of, first_of, workers_of}
use Rattle.crew.specs.Crews.{CrewRanOn}
use Rattle.crew.specs.Seats.{AllEndAs, CountsAs, EndsOn}
use Rattle.driving.specs.Goings.{GrowsBy}
use Rattle.plain_run.specs.declared.session_faults.SessionFault.{SessionFault}
use Rattle.ingest_run.specs.declared.faults.IngestFault.{IngestFault}
use Rattle.ingest_run.specs.declared.faults.IngestFault.TheVariants as faults
use Rattle.ingest_run.specs.Verdicts.{are_halted, is_halted, short_of_end}
use Rattle.ingest_run.specs.Halts.{EndsShort, HaltsAt, HaltsShort, WritersHalted}

-- ---- ends

-- an upper is told where each was halted
pub short_halts : (es : List WorkerEnd) (writers : ℕ) (upper u : Option ℕ) → short_of_end es writers upper ≡ faults.Upper u →
    are_halted writers es ≡ true
short_halts es writers upper u is = elim (bool_cases (are_halted writers es)) [
  | inl t ↦ t
  | inr t ↦ absurd (other (sym (ap (λ (b : Bool). if b then faults.Upper upper else faults.Damaged) t) ∙ is))
]
  where
    other : faults.Damaged ≡ faults.Upper u → ⊥
    other bad = cc

-- the end of one that was halted says so of its entries
counts_halted : (client : ℕ) (stop : Option ℕ) (e : WorkerEnd) (gain : List Entry) → is_halted e ≡ true → CountsAs client stop e gain →
    HaltsAt stop (entries_by entry_client client gain)
counts_halted client stop ends.Stopped gain is x = inl x
counts_halted client stop ends.Faulted gain is x = inr x
counts_halted client stop ends.Finished gain is x = absurd (let bad : false ≡ true = is in cc)
counts_halted client stop ends.Memory gain is x = absurd (let bad : false ≡ true = is in cc)
counts_halted client stop (ends.Misfit upper) gain is x = absurd (let bad : false ≡ true = is in cc)
counts_halted client stop (ends.Damaged damage) gain is x = absurd (let bad : false ≡ true = is in cc)
counts_halted client stop (ends.MembersFull version) gain is x = absurd (let bad : false ≡ true = is in cc)
counts_halted client stop ends.Spent gain is x = absurd (let bad : false ≡ true = is in cc)
counts_halted client stop (ends.Heavy weight) gain is x = absurd (let bad : false ≡ true = is in cc)

-- where each was halted the first was, and the others were
each_halted : (n : ℕ) (e : WorkerEnd) (es : List WorkerEnd) → are_halted (suc n) (e ∷ es) ≡ true →
    (is_halted e ≡ true) × (are_halted n es ≡ true)
each_halted n e es is = elim (bool_cases (is_halted e)) [
  | inl t ↦ (t, sym (ap (λ (b : Bool). if b then are_halted n es else false) t) ∙ is)
  | inr t ↦ absurd (let bad : false ≡ true = sym (ap (λ (b : Bool). if b then are_halted n es else false) t) ∙ is in cc)
]

-- of the first so many workers from this one on
all_halted : (plan : Plan) (n first : ℕ) (es : List WorkerEnd) (h : History) (gain : List Entry) → are_halted n es ≡ true → n ≤ length es →
    AllEndAs plan first es h gain → (i : ℕ) → i < n →
    HaltsAt (stop_of plan.stops (first + i)) (entries_by entry_client (client_of plan (first + i)) gain)
all_halted plan zero first es h gain is long all i below = absurd (omega arith)
all_halted plan (suc n) first [] h gain is long all i below = absurd (omega arith)
all_halted plan (suc n) first (e ∷ es) h gain is long all zero below =
    let here : first ≡ first + 0 = omega arith in
    subst (λ (m : ℕ). HaltsAt (stop_of plan.stops m) (entries_by entry_client (client_of plan m) gain)) here
    (counts_halted (client_of plan first) (stop_of plan.stops first) e gain (each_halted n e es is).0 all.0.counts)
all_halted plan (suc n) first (e ∷ es) h gain is long all (suc j) below =
    let at : first + 1 + j ≡ first + suc j = omega arith in
    subst (λ (m : ℕ). HaltsAt (stop_of plan.stops m) (entries_by entry_client (client_of plan m) gain)) at
    (all_halted plan n (first + 1) es h gain (each_halted n e es is).1 (omega arith) all.1 j (omega arith))

-- a writer's client
writer_client : (plan : Plan) (writer : ℕ) → writer < plan.writers → client_of plan writer ≡ writer + 1
writer_client plan writer below =
    let first : writer < first_of plan = omega arith in
    grind (arith, nat_tests)

-- ---- entries of one client

by_append : (n : ℕ) (xs ys : List Entry) → entries_by entry_client n (xs ++ ys) ≡ entries_by entry_client n xs ++ entries_by entry_client n ys
by_append n [] ys = refl
by_append n (e ∷ xs) ys = elim (bool_cases (e.client == n)) [
  | inl t ↦ rw t (ap (λ (es : List Entry). e ∷ es) (by_append n xs ys))
  | inr t ↦ rw t (by_append n xs ys)
]

none_by : (client n : ℕ) (es : List Entry) → n ≢ client → AllByRecursion (λ e. e.client ≡ client) es → entries_by entry_client n es ≡ []
none_by client n [] apart all = refl
none_by client n (e ∷ es) apart all = elim (bool_cases (e.client == n)) [
  | inl t ↦ absurd (apart (sym (of_eqb e.client n t) ∙ all.0))
  | inr t ↦ rw t (none_by client n es apart all.1)
]
  where
    of_eqb : (a b : ℕ) → (a == b) ≡ true → a ≡ b
    of_eqb a b t = grind (arith, nat_tests)

-- ---- what was halted

same_history : (h k : History) → h.start ≡ k.start → h.trail ≡ k.trail → h ≡ k
same_history h k start trail = grind arith

module _ (writers : ℕ) (stops : List Stop) where
  -- it stays so while client 0 goes on
  pub halted_later : (a b c : Option History) → WritersHalted writers stops a b → GrowsBy 0 b c → WritersHalted writers stops a c
  halted_later None b c x y = tt
  halted_later (Some h) b c (gain, is, halted) y =
      let (after, there, more, start, trail, all) = subst (λ (v : Option History). GrowsBy 0 v c) is y in (
        gain ++ more,
        there ∙ ap Some (same after more start trail),
        λ w below. subst (HaltsAt (stop_of stops w)) (sym (own gain more w all)) (halted w below),
      )
    where
      same : (after : History) (more : List Entry) → after.start ≡ h.start → after.trail ≡ (h.trail ++ gain) ++ more →
          after ≡ with_entries h (gain ++ more)
      same after more start trail = same_history after (with_entries h (gain ++ more)) start (trail ∙ append_assoc h.trail gain more)

      own : (gain more : List Entry) (w : ℕ) → AllByRecursion (λ e. e.client ≡ 0) more →
          entries_by entry_client (w + 1) (gain ++ more) ≡ entries_by entry_client (w + 1) gain
      own gain more w all =
          by_append (w + 1) gain more
          ∙ ap (λ (es : List Entry). entries_by entry_client (w + 1) gain ++ es) (none_by 0 (w + 1) more (λ bad. absurd (omega arith)) all)
          ∙ append-nil (entries_by entry_client (w + 1) gain)

  -- and it is so from where client 0 began
  pub halted_sooner : (a b c : Option History) → GrowsBy 0 a b → WritersHalted writers stops b c → WritersHalted writers stops a c
  halted_sooner None b c x y = tt
  halted_sooner (Some h) b c (after, is, more, start, trail, all) y =
      let (gain, there, halted) = subst (λ (v : Option History). WritersHalted writers stops v c) is y in (
        more ++ gain,
        there ∙ ap Some (same after gain more start trail),
        λ w below. subst (HaltsAt (stop_of stops w)) (sym (own gain more w all)) (halted w below),
      )
    where
      same : (after : History) (gain more : List Entry) → after.start ≡ h.start → after.trail ≡ h.trail ++ more →
          with_entries after gain ≡ with_entries h (more ++ gain)
      same after gain more start trail =
          same_history (with_entries after gain) (with_entries h (more ++ gain)) start
          (ap (λ (es : List Entry). es ++ gain) trail ∙ append_assoc h.trail more gain)

      own : (gain more : List Entry) (w : ℕ) → AllByRecursion (λ e. e.client ≡ 0) more →
          entries_by entry_client (w + 1) (more ++ gain) ≡ entries_by entry_client (w + 1) gain
      own gain more w all =
          by_append (w + 1) more gain
          ∙ ap (λ (es : List Entry). es ++ entries_by entry_client (w + 1) gain) (none_by 0 (w + 1) more (λ bad. absurd (omega arith)) all)

-- by the ends of a crew that ran
crew_halted : (plan : Plan) (a b : Option History) (es : List WorkerEnd) → CrewRanOn plan a b → EndsOn plan a b es →
    plan.writers ≤ length es → are_halted plan.writers es ≡ true → WritersHalted plan.writers plan.stops a b
crew_halted plan None b es ran ends long is = tt
crew_halted plan (Some h) b es (k, there, ran) ends long is =
    let now : b ≡ Some (with_entries h ran.gain) = there ∙ ap Some ran.now_is in
    let all = all_halted plan plan.writers 0 es h ran.gain is long (ends h ran.gain refl now) in (
      ran.gain,
      now,
      λ w below.
          let here : 0 + w ≡ w = omega arith in
          subst (λ (n : ℕ). HaltsAt (stop_of plan.stops w) (entries_by entry_client n ran.gain)) (writer_client plan w below)
          (subst (λ (m : ℕ). HaltsAt (stop_of plan.stops m) (entries_by entry_client (client_of plan m) ran.gain)) here (all w below)),
    )

pub crew_halts_short : {V : Type 0} (plan : Plan) (a b c : Option History) (es : List WorkerEnd) (reply : Result V IngestFault) →
    CrewRanOn plan a b → EndsOn plan a b es → plan.writers ≤ length es → EndsShort 0 plan.writers es reply b c →
    HaltsShort plan.writers plan.stops reply a c
crew_halts_short plan a b c es reply ran ends long short = λ upper is.
    let (halted, grown) = short upper is in
    halted_later plan.writers plan.stops a b c (crew_halted plan a b es ran ends long halted) grown

-- a crew has as many ends as workers
pub enough_ends : (plan : Plan) (es : List WorkerEnd) → length es ≡ workers_of plan → plan.writers ≤ length es
enough_ends plan es is =
    let all : length es ≡ plan.writers + plan.compactors + plan.collectors = is in
    omega arith

-- ---- what tells no upper

pub outside_no_upper : {V : Type 0} (reply : Result V IngestFault) (e : IngestFault) (fault : SessionFault) (u : Option ℕ) → reply ≡ Err e →
    e ≡ faults.Outside fault → reply ≡ Err (faults.Upper u) → ⊥
outside_no_upper reply e fault u is out bad =
    let both : Err (faults.Outside fault) ≡ Err (faults.Upper u) = ap Err (sym out) ∙ sym is ∙ bad in cc
