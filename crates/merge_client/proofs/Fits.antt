-- Over a lawful history no part that a compactor gets is told not to fit, and what it counts goes on with each reply. Entries go
-- newest first.
use Rattle.std.proofs.Common.{◌≡◌, ℕ, zero, ◌<◌, Option, Some, None, List, [], ◌∷◌, ◌++◌, length, refl, sym, ap, subst, ◌∙◌, arith}
use Rattle.update_core.specs.declared.updates.Update.{Update}
use Rattle.store_core.specs.declared.part_keys.PartKey.{PartKey}
use Rattle.store_core.specs.declared.replies.Reply.{Reply}
use Rattle.store_core.specs.declared.entries.Entry.{Entry}
use Rattle.store_core.specs.Histories.{reply}
use Rattle.store_core.specs.Stores.{Stored}
use Rattle.store_core.specs.Ports.{Answered, OfOthers}
use Rattle.store_core.specs.Newest.{mine_back, replay_back}
use Rattle.state_core.specs.States.{ShardState}
use Rattle.history_core.specs.Discipline.{LawfulBack}
use Rattle.history_core.specs.Stands.{StandsFor}
use Rattle.history_core.specs.declared.merge_answers.MergeAnswer.{MergeAnswer}
use Rattle.load_core.specs.declared.fetches.Fetched.{Fetched}
use Rattle.load_core.specs.declared.fetches.Fetched.TheVariants as fetches
use Rattle.load_core.specs.declared.gettings.Getting.{Getting}
use Rattle.load_core.specs.declared.polls.Poll.{Poll}
use Rattle.load_core.specs.declared.polls.Poll.TheVariants as polls
use Rattle.load_core.specs.Getting as getting
use Rattle.read_machine.specs.declared.courses.Course.{Course}
use Rattle.read_machine.specs.declared.readings.Reading.{Reading}
use Rattle.read_machine.specs.declared.sights.Sight.{Sight}
use Rattle.read_machine.specs.declared.sights.Sight.TheVariants as sights
use Rattle.read_machine.specs.declared.stages.Stage.{Stage}
use Rattle.read_machine.specs.declared.stages.Stage.TheVariants as stages
use Rattle.read_machine.specs.Courses.{MovesByFetched, counted, holding, sight_of, staged}
use Rattle.read_machine.specs.Readings as readings
use Rattle.read_machine.proofs.HowRead.{HowGot, HowRead, IsScanStage, checked, damaged, fails, gains, got, heavy, misses, scanned, spoilt, unscanned}
use Rattle.read_machine.proofs.Replied.{read_so}
use Rattle.merge_client.specs.declared.compactors.Compactor.{Compactor}
use Rattle.merge_client.specs.declared.dues.Due.{Due}
use Rattle.merge_client.specs.declared.founds.Found.{Found}
use Rattle.merge_client.specs.declared.pair_bounds.PairBound.{PairBound}
use Rattle.merge_client.specs.Finding.{finding}
use Rattle.merge_client.specs.Fitting.{bound_at, misfit_by, noted_by}
use Rattle.merge_client.specs.Following.{Counts, CountsBy, Follows}
use Rattle.merge_client.specs.Merging.{IsReady, MovesAfterRead, ReadsTo, after_poll, call_of, left_fit, misfit, noted, reading_on, shard_of, taken_back, told_fit}
use Rattle.merge_client.proofs.Counts.{counts_gained, unknown_counts}
use Rattle.merge_client.proofs.Noted.{MovesFit}
use Rattle.merge_client.proofs.PartsFit.{bound_is, bound_there, fits_now, part_counts, same_place, still_counts}

-- nothing is counted before the first part
none_got : (own : List Answered) (n : ℕ) (g : Getting) (o : Option PairBound) → g.place ≡ 0 → CountsBy own n g o
none_got own n g None is = tt
none_got own n g (Some b) is = λ past. absurd (omega (arith, past, is))

-- nor while a Scan comes next
scan_counts : (own : List Answered) (n : ℕ) (k : Course) (stage : Stage) → k.stage ≡ stage → IsScanStage stage →
    CountsBy own n k.getting (bound_at k k.stage)
scan_counts own n k stages.Scan is h = subst (λ (x : Stage). CountsBy own n k.getting (bound_at k x)) (sym is) tt
scan_counts own n k stages.Get is h = absurd h
scan_counts own n k (stages.Check key) is h = subst (λ (x : Stage). CountsBy own n k.getting (bound_at k x)) (sym is) tt

fetched_getting : (old : Course) (q : Due) (g : Getting) (x : Fetched) (new : Course) (p : Poll Found) →
    MovesByFetched finding old q g x new p → new.getting ≡ g
fetched_getting old q g fetches.More new p m = ap (λ (z : Course). z.getting) m.1
fetched_getting old q g fetches.Fault new p m = ap (λ (z : Course). z.getting) m.1
fetched_getting old q g (fetches.Missing key) new p m = ap (λ (z : Course). z.getting) m.1
fetched_getting old q g (fetches.Damaged damage) new p m = ap (λ (z : Course). z.getting) m.1
fetched_getting old q g fetches.Done new p m = ap (λ (z : Course). z.getting) m.1

pub counts_poll : (own : List Answered) (v : Compactor) (poll : Poll MergeAnswer) → Counts own v → Counts own (after_poll v poll)
counts_poll own v polls.Busy h = h
counts_poll own v polls.More h = h
counts_poll own v polls.Fault h = h
counts_poll own v polls.Spent h = h
counts_poll own v (polls.Damaged damage) h = h
counts_poll own v (polls.Done answer) h = h

module _ (client : ℕ) (c : Compactor) (start : Stored) (list : List Update) (e : Entry) (others es : List Entry)
    (ready : IsReady c) (own : e.client ≡ client) (call_is : call_of c ≡ Some e.call) (of : OfOthers client others)
    (st : StandsFor start (shard_of c) list) (lawful : LawfulBack start (e ∷ (others ++ es))) (f : Follows client c start es)
    (counts : Counts (mine_back start es client) c) (q : Due) (some : c.reading.asked ≡ Some q) where
  abbrev here : Reply
  here = reply (replay_back start (others ++ es)) e

  abbrev now : List Entry
  now = e ∷ (others ++ es)

  abbrev Mine : List Answered
  Mine = mine_back start now client

  abbrev k : Course
  k = c.reading.course

  abbrev old : Getting
  old = c.reading.course.getting

  -- what the pair says whose parts are got
  abbrev bound_for : k.stage ≡ stages.Get → PairBound
  bound_for stage = bound_there client c start list e others es ready own call_is of st lawful f counts q some stage

  module _ (r : Reading Due) (p : Poll Found) (moves : readings.Moves finding c.reading here r p) where
    -- no part is told not to fit
    abbrev Fit : Option PairBound → Getting → Type 0
    Fit o g = misfit_by o (noted_by o old c.left_rows) old.place (length old.rows) g ≡ None

    abbrev Told : Type 0
    Told = misfit (noted c) r ≡ None

    -- what a Get came to
    gets_fit : (stage : k.stage ≡ stages.Get) (g : Getting) (x : Fetched) → HowGot old here g x → Fit (bound_at k k.stage) g
    gets_fit stage g x how =
        let is = bound_is client c start list e others es ready own call_is of st lawful f counts q some stage in
        subst (λ (o : Option PairBound). Fit o g) (sym is) (by how)
      where
        same : g ≡ old → Fit (Some (bound_for stage)) g
        same is = same_place (bound_for stage) (noted_by (Some (bound_for stage)) old c.left_rows) old.place (length old.rows) g (ap (λ (z : Getting). z.place) is)

        by : HowGot old here g x → Fit (Some (bound_for stage)) g
        by (gains bytes part r_is reads is goes) = fits_now client c start list e others es ready own call_is of st lawful f counts q some
            stage g bytes part r_is reads is
        by (fails r_is is x_is) = same is
        by (misses key r_is at is x_is) = same is
        by (spoilt bytes key fault r_is reads at is x_is) = same is
        by (heavy bytes part key r_is reads at weighs is x_is) = same is

    at_scan : (stage : Stage) → k.stage ≡ stage → IsScanStage stage → Told
    at_scan stages.Scan is h = subst (λ (x : Stage). Fit (bound_at k x) r.course.getting) (sym is) refl
    at_scan stages.Get is h = absurd h
    at_scan (stages.Check key) is h = subst (λ (x : Stage). Fit (bound_at k x) r.course.getting) (sym is) refl

    -- where the reading stands after it
    told_at : (q2 : Due) (x : Course) → r.course ≡ x → HowRead finding (counted k) q2 here x p → Told
    told_at q2 x is (unscanned stage r_is p_is n) = at_scan k.stage refl stage
    told_at q2 x is (damaged vs damage stage r_is bad p_is n) = at_scan k.stage refl stage
    told_at q2 x is (scanned vs s stage r_is newest by) = at_scan stages.Scan stage tt
    told_at q2 x is (checked key vs s stage r_is newest p_is n) = at_scan (stages.Check key) stage tt
    told_at q2 x is (got g fetched stage m how by) =
        subst (λ (z : Getting). Fit (bound_at k k.stage) z) (sym (ap (λ (z : Course). z.getting) is
        ∙ fetched_getting (counted k) q2 g fetched x p by)) (gets_fit stage g fetched how)

    pub told_none : Told
    told_none = let x = read_so finding c.reading r here p moves in
        told_at x.q x.course (ap (λ (z : Reading Due). z.course) x.now) x.how

    pub fit_reads : (new : Compactor) (poll : Poll MergeAnswer) →
        ReadsTo (noted c) (left_fit (misfit (noted c) r) r) (told_fit (misfit (noted c) r) p) new poll → ReadsTo (noted c) r p new poll
    fit_reads new poll h = subst (λ (o : Option PartKey). ReadsTo (noted c) (left_fit o r) (told_fit o p) new poll) told_none h

    -- ---- what is counted goes on

    abbrev n : ℕ
    n = noted_by (bound_at k k.stage) old c.left_rows

    abbrev Counted : Course → Type 0
    Counted x = CountsBy Mine n x.getting (bound_at x x.stage)

    scans_on : (x : Course) (stage : Stage) → x.stage ≡ stage → IsScanStage stage → Counted x
    scans_on x stage is h = scan_counts Mine n x stage is h

    sight_on : (s : ShardState) (sight : Sight Found) → k.stage ≡ stages.Scan → Counted (staged (holding (counted k) s) sight)
    sight_on s sights.Gone is = scans_on (holding (counted k) s) stages.Scan is tt
    sight_on s sights.Strange is = scans_on (holding (counted k) s) stages.Scan is tt
    sight_on s (sights.Answer a) is = scans_on (holding (counted k) s) stages.Scan is tt
    sight_on s (sights.Parts keys) is = none_got Mine n (getting.begun keys)
        (bound_at (staged {A = Found} (holding (counted k) s) (sights.Parts keys)) stages.Get) refl

    got_on : (stage : k.stage ≡ stages.Get) (g : Getting) (x : Fetched) → HowGot old here g x → Counted (record (counted k) { getting = g })
    got_on stage g x how =
        let is = bound_is client c start list e others es ready own call_is of st lawful f counts q some stage in
        subst (λ (o : Option PairBound). CountsBy Mine (noted_by o old c.left_rows) g o) (sym is) (by how)
      where
        same : g ≡ old → CountsBy Mine (noted_by (Some (bound_for stage)) old c.left_rows) g (Some (bound_for stage))
        same is = subst (λ (z : Getting). CountsBy Mine (noted_by (Some (bound_for stage)) old c.left_rows) z (Some (bound_for stage))) (sym is)
            (still_counts client c start list e others es ready own call_is of st lawful f counts q some stage)

        by : HowGot old here g x → CountsBy Mine (noted_by (Some (bound_for stage)) old c.left_rows) g (Some (bound_for stage))
        by (gains bytes part r_is reads is goes) = part_counts client c start list e others es ready own call_is of st lawful f counts q
            some stage g bytes part r_is reads is
        by (fails r_is is x_is) = same is
        by (misses key r_is at is x_is) = same is
        by (spoilt bytes key fault r_is reads at is x_is) = same is
        by (heavy bytes part key r_is reads at weighs is x_is) = same is

    fetched_on : (q2 : Due) (stage : k.stage ≡ stages.Get) (g : Getting) (x : Fetched) (y : Course) → HowGot old here g x →
        MovesByFetched finding (counted k) q2 g x y p → Counted y
    fetched_on q2 stage g fetches.More y how m = subst Counted (sym m.1) (got_on stage g fetches.More how)
    fetched_on q2 stage g fetches.Fault y how m = subst Counted (sym m.1) (got_on stage g fetches.Fault how)
    fetched_on q2 stage g (fetches.Missing key) y how m = subst Counted (sym m.1)
        (scans_on (record (counted k) { getting = g; stage = stages.Check key }) (stages.Check key) refl tt)
    fetched_on q2 stage g (fetches.Damaged damage) y how m = subst Counted (sym m.1) (got_on stage g (fetches.Damaged damage) how)
    fetched_on q2 stage g fetches.Done y how m = subst Counted (sym m.1) (got_on stage g fetches.Done how)

    counted_at : (q2 : Due) (x : Course) → HowRead finding (counted k) q2 here x p → Counted x
    counted_at q2 x (unscanned stage r_is p_is is) = subst Counted (sym is) (scans_on (counted k) k.stage refl stage)
    counted_at q2 x (damaged vs damage stage r_is bad p_is is) = subst Counted (sym is) (scans_on (counted k) k.stage refl stage)
    counted_at q2 x (scanned vs s stage r_is newest by) = subst Counted (sym by.1) (sight_on s (sight_of finding q2 s k.member) stage)
    counted_at q2 x (checked key vs s stage r_is newest p_is is) = subst Counted (sym is)
        (scans_on (holding (counted k) s) (stages.Check key) stage tt)
    counted_at q2 x (got g fetched stage m how by) = fetched_on q2 stage g fetched x how by

    counted_now : Counted r.course
    counted_now = let x = read_so finding c.reading r here p moves in
        subst Counted (sym (ap (λ (z : Reading Due). z.course) x.now)) (counted_at x.q x.course x.how)

    back_on : (x : Poll Found) → Counts Mine (taken_back (reading_on (noted c) r) x)
    back_on polls.Busy = counted_now
    back_on polls.More = counted_now
    back_on polls.Fault = counted_now
    back_on polls.Spent = unknown_counts Mine n (taken_back (reading_on (noted c) r) polls.Spent).reading.course r.course.stage refl
    back_on (polls.Damaged damage) = unknown_counts Mine n (taken_back (reading_on (noted c) r) (polls.Damaged damage)).reading.course
        r.course.stage refl
    back_on (polls.Done found) = unknown_counts Mine n (taken_back (reading_on (noted c) r) (polls.Done found)).reading.course
        r.course.stage refl

    pub counts_read : (new : Compactor) (poll : Poll MergeAnswer) → ReadsTo (noted c) r p new poll → Counts Mine new
    counts_read new poll (poll_is, new_is) = subst (Counts Mine) (sym new_is)
        (counts_poll Mine (taken_back (reading_on (noted c) r) p) poll (back_on p))

  -- each part fits
  pub fit_moves : (new : Compactor) (poll : Poll MergeAnswer) → MovesAfterRead (noted c) here new poll → MovesFit (noted c) here new poll
  fit_moves new poll (r, p, moves, h) = (r, p, moves, fit_reads r p moves new poll h)

  pub counts_on : (new : Compactor) (poll : Poll MergeAnswer) → MovesAfterRead (noted c) here new poll → Counts Mine new
  counts_on new poll (r, p, moves, h) = counts_read r p moves new poll (fit_reads r p moves new poll h)

  -- after want of memory
  pub counts_wanted : Counts Mine (reading_on (noted c) (record c.reading { course = counted k }))
  counts_wanted = by k.stage refl
    where
      by : (stage : Stage) → k.stage ≡ stage → CountsBy Mine (noted c).left_rows old (bound_at (counted k) k.stage)
      by stages.Scan is = scan_counts Mine (noted c).left_rows (counted k) stages.Scan is tt
      by stages.Get is =
          let bound = bound_is client c start list e others es ready own call_is of st lawful f counts q some is in
          subst (λ (o : Option PairBound). CountsBy Mine (noted_by o old c.left_rows) old o) (sym bound)
          (still_counts client c start list e others es ready own call_is of st lawful f counts q some is)
      by (stages.Check key) is = scan_counts Mine (noted c).left_rows (counted k) (stages.Check key) is tt
