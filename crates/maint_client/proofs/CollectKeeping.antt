-- What holds of a collector as a machine. Entries go newest first.
use Rattle.std.proofs.Common.{◌≡◌, ◌≢◌, ℕ, ◌<◌, ◌≤◌, length, true, false, Option, Some, None, List, ◌∷◌, ◌++◌, inl, refl, sym, ap, subst, ◌∙◌, arith}
use Rattle.std.specs.Prelude.{IfSome, IsSome}
use Rattle.update_core.specs.declared.updates.Update.{Update}
use Rattle.store_core.specs.declared.calls.Call.{Call}
use Rattle.store_core.specs.declared.calls.Call.TheVariants as calls
use Rattle.store_core.specs.declared.outcomes.Outcome.TheVariants.{Took}
use Rattle.store_core.specs.declared.entries.Entry.{Entry}
use Rattle.store_core.specs.Stores.{Stored}
use Rattle.store_core.specs.Histories.{faults_of}
use Rattle.store_core.specs.Ports.{OfOthers}
use Rattle.update_core.specs.Limits.{most}
use Rattle.history_core.specs.declared.asked.Asked.{Asked}
use Rattle.history_core.specs.declared.asked.Asked.TheVariants as asks
use Rattle.history_core.specs.declared.collect_answers.CollectAnswer.{CollectAnswer}
use Rattle.history_core.specs.declared.collect_answers.CollectAnswer.TheVariants as answers
use Rattle.history_core.specs.Costs.{WithinReads, collect_base, failed_calls}
use Rattle.history_core.specs.Placing.{IsAnsweredScan, places, placed, reply_at}
use Rattle.history_core.specs.Upkeep.{LegalCollectBack, delete_of, deletes_of}
use Rattle.history_core.proofs.Gaining.{places_others}
use Rattle.load_core.specs.declared.polls.Poll.{Poll}
use Rattle.load_core.specs.declared.polls.Poll.TheVariants as polls
use Rattle.load_core.specs.Trying.{more}
use Rattle.machine_core.specs.Machines.{Asking, Called, CostPoll, Ending, IsReading, Keeps, LegalPoll, reply_there}
use Rattle.maint_client.specs.declared.collectors.Collector.{Collector}
use Rattle.maint_client.specs.declared.sweeps.Sweep.{Sweep}
use Rattle.maint_client.specs.Sweeping.{IsSweep, goes_on}
use Rattle.maint_client.specs.Collecting.{CostBy, CostEnded, Follows, FollowsCommand, FollowsSweep, IsOpen, IsScanFor, IsSound, Wants, call_after, collecting, command, counted, kept, remaining}
use Rattle.maint_client.proofs.Swept.{at_scan, sweep_failed, sweep_others}
use Rattle.maint_client.proofs.SweptScans.{ended_legal}
use Rattle.maint_client.proofs.CollectWays.{effect, ended, fault_failed, goes_as, more_answered, moved_counted, moved_kept, moved_open, moved_shard, never_busy}
use Rattle.maint_client.proofs.CollectPlaces.{Arrives, At, allowed, arrives, call_is, deletes_now, failed_now, fails, follows_here, for_any, goes, no_delete}

-- ---- while nothing of its own happens

map_sweep : (o : Option Sweep) (P Q : Sweep → Type 0) → ((w : Sweep) → P w → Q w) → IfSome o P → IfSome o Q
map_sweep None P Q f h = tt
map_sweep (Some w) P Q f h = f w h

command_others : (client : ℕ) (m : Collector) (start : Stored) (others es : List Entry) → OfOthers client others → FollowsCommand client m start es →
    FollowsCommand client m start (others ++ es)
command_others client m start others es of h = record {
  deletes = λ lt. ap deletes_of (places_others client m.calls others es of) ∙ h.deletes lt;
  sweep = map_sweep m.sweep (λ w. FollowsSweep client m.shard m.calls w start es) (λ w. FollowsSweep client m.shard m.calls w start (others ++ es))
      (λ w f. sweep_others client m.shard start m.calls w others es of f) h.sweep;
}

map_open : (o : Option Asked) (P Q : Type 0) → (P → Q) → IfSome o (λ a. P) → IfSome o (λ a. Q)
map_open None P Q f h = tt
map_open (Some a) P Q f h = f h

others_follow : (client : ℕ) (m : Collector) (start : Stored) (others es : List Entry) → OfOthers client others → Follows client m start es → Follows client m start (others ++ es)
others_follow client m start others es of h = map_open m.asked (FollowsCommand client m start es) (FollowsCommand client m start (others ++ es)) (command_others client m start others es of) h

idle_follows : (client : ℕ) (m : Collector) (start : Stored) (es : List Entry) → ¬ IsOpen m → Follows client m start es
idle_follows client m start es closed = by m.asked closed
  where
    by : (o : Option Asked) → ¬ IsSome o → IfSome o (λ a. FollowsCommand client m start es)
    by None none = tt
    by (Some a) none = absurd (none refl)

pub closed_is : (o : Option Asked) → o ≡ None → ¬ IsSome o
closed_is o e is = let bad : false ≡ true = subst (λ (q : Option Asked). IsSome q) e is in cc

-- ---- at an entry's place

module _ (client : ℕ) (m new : Collector) (call : Call) (poll : Poll CollectAnswer) (list : List Update) (start : Stored) (e : Entry) (others es : List Entry)
    (a : Asking collecting client m call start es) (c : Called client m.shard call list start e others es) where
  abbrev Now : List Entry
  Now = e ∷ (others ++ es)

  apart : e.outcome ≢ Took → IsAnsweredScan m.shard (placed e (others ++ es)) → ⊥
  apart no_took scan = no_took scan.1

  failed_command : e.outcome ≢ Took → FollowsCommand client (counted m) start (e ∷ (others ++ es))
  failed_command no_took = record {
    deletes = λ lt.
        let count = deletes_now client m new call poll list start e others es a c lt in
        let none = no_delete e.call e.outcome no_took in
        omega arith;
    sweep = map_sweep m.sweep (λ w. FollowsSweep client m.shard m.calls w start es) (λ w. FollowsSweep client m.shard (more m.calls) w start (e ∷ (others ++ es)))
        (λ w f. sweep_failed client m.shard start m.calls (more m.calls) e (others ++ es) refl c.own w (apart no_took)
        (sweep_others client m.shard start m.calls w others es c.of_others f)) (follows_here client m new call poll list start e others es a c).sweep;
  }

  moved_follows : Arrives client m new call poll list start e others es a c → Follows client new start (e ∷ (others ++ es))
  moved_follows (fails f fault no_took) = subst (λ (d : Collector). Follows client d start (e ∷ (others ++ es))) (sym f.1)
      (for_any m.asked (FollowsCommand client (counted m) start (e ∷ (others ++ es))) (failed_command no_took))
  moved_follows (goes w at) = goes_as m new w poll (λ d p. Follows client d start (e ∷ (others ++ es))) at.goes
      (λ left. for_any m.asked (FollowsCommand client (record m { sweep = Some w; calls = more m.calls }) start (e ∷ (others ++ es)))
      (record { deletes = at.deletes; sweep = at.sweep })) (λ over. tt)

  answer_legal : (w : Sweep) → At client m new call poll list start e others es a c w → goes_on w ≡ false → more m.calls < most →
      IfSome m.asked (λ q. LegalCollectBack start (e ∷ (others ++ es)) (command client (kept m) (more m.calls) q) (answers.Collected w.floor w.place))
  answer_legal w at over lt = by m.asked a.ready.asked
    where
      by : (o : Option Asked) → IfSome o (λ q. q ≡ asks.Collect) → IfSome o (λ q. LegalCollectBack start (e ∷ (others ++ es)) (command client (kept m) (more m.calls) q) (answers.Collected w.floor w.place))
      by None is = tt
      by (Some q) is = subst (λ (z : Asked). LegalCollectBack start (e ∷ (others ++ es)) (command client (kept m) (more m.calls) z) (answers.Collected w.floor w.place)) (sym is)
          (ended_legal client m.shard start list c.stands (e ∷ (others ++ es)) c.lawful (more m.calls) w at.sweep lt at.within over (at.deletes lt))

  moved_legal : new.calls ≡ more m.calls → Arrives client m new call poll list start e others es a c →
      LegalPoll collecting client (kept m) new.calls poll start (e ∷ (others ++ es)) list
  moved_legal counts (fails f fault no_took) = subst (λ (p : Poll CollectAnswer). LegalPoll collecting client (kept m) new.calls p start (e ∷ (others ++ es)) list) (sym f.0) tt
  moved_legal counts (goes w at) = subst (λ (n : ℕ). LegalPoll collecting client (kept m) n poll start (e ∷ (others ++ es)) list) (sym counts)
      (goes_as m new w poll (λ d p. LegalPoll collecting client (kept m) (more m.calls) p start (e ∷ (others ++ es)) list) at.goes
      (λ left. tt) (λ over. λ lt. answer_legal w at over lt))

  failed_cost : (o : Option Sweep) → faults_of e.outcome ≡ 1 → CostBy client m.calls o es → more m.calls < most → CostBy client (more m.calls) o (e ∷ (others ++ es))
  failed_cost None fault was lt =
      let now_failed = failed_now client m new call poll list start e others es a c lt in
      let was2 : m.calls ≤ failed_calls client m.calls es = was in
      let goal : more m.calls ≤ failed_calls client (more m.calls) (e ∷ (others ++ es)) = omega arith in goal
  failed_cost (Some w) fault was lt =
      let now_failed = failed_now client m new call poll list start e others es a c lt in
      let was2 : WithinReads m.calls (remaining w) (collect_base (length w.keys)) (failed_calls client m.calls es) = was in
      let goal : WithinReads (more m.calls) (remaining w) (collect_base (length w.keys)) (failed_calls client (more m.calls) (e ∷ (others ++ es))) = omega arith in goal

  ended_cost : (w : Sweep) → At client m new call poll list start e others es a c w → CostBy client m.calls m.sweep es → more m.calls < most →
      CostEnded client m.shard (more m.calls) start (e ∷ (others ++ es))
  ended_cost w at was lt =
      let within = at.cost was lt in
      at_scan m.shard (λ p. IsScanFor m.shard w p.entry.call (reply_at start p)) (λ p. (v : Sweep) × IsScanFor m.shard v p.entry.call (reply_at start p) ×
      WithinReads (more m.calls) 0 (collect_base (length v.keys)) (failed_calls client (more m.calls) (e ∷ (others ++ es)))) (places client (more m.calls) (e ∷ (others ++ es)))
      (λ p k. (w, k, omega arith)) (at.sweep.scan lt)

  moved_cost : (base : ℕ) (old : Collector) → Arrives client m new call poll list start e others es a c → (m.calls < most → CostBy client m.calls m.sweep es) →
      CostPoll collecting base client old new poll start (e ∷ (others ++ es)) list
  moved_cost base old (fails f fault no_took) was = subst (λ (p : Poll CollectAnswer). CostPoll collecting base client old new p start (e ∷ (others ++ es)) list) (sym f.0)
      (subst (λ (d : Collector). CostPoll collecting base client old d polls.Fault start (e ∷ (others ++ es)) list) (sym f.1)
      (λ lt. failed_cost m.sweep fault (was (omega arith)) lt))
  moved_cost base old (goes w at) was = goes_as m new w poll (λ d p. CostPoll collecting base client old d p start (e ∷ (others ++ es)) list) at.goes
      (λ left. λ lt. at.cost (was (omega arith)) lt) (λ over. λ lt. ended_cost w at (was (omega arith)) lt)

  -- ---- want of memory

  wanted_follows : Wants m new → Follows client new start (e ∷ (others ++ es))
  wanted_follows (none, n) = subst (λ (d : Collector). Follows client d start (e ∷ (others ++ es))) (sym n)
      (for_any m.asked (FollowsCommand client (counted m) start (e ∷ (others ++ es))) (record {
        deletes = λ lt.
            let count = deletes_now client m new call poll list start e others es a c lt in
            let no_delete_made : delete_of e.call e.outcome ≡ 0 = ap (λ (q : Call). delete_of q e.outcome) scans in
            omega arith;
        sweep = subst (λ (o : Option Sweep). IfSome o (λ w. FollowsSweep client m.shard (more m.calls) w start (e ∷ (others ++ es)))) (sym none) tt;
      }))
    where
      scans : e.call ≡ calls.Scan m.shard 0
      scans = call_is client m new call poll list start e others es a c ∙ ap (λ (o : Option Sweep). call_after m.shard o) none

reads_scan : (m : Collector) (call : Call) → m.sweep ≡ None → Some (call_after m.shard m.sweep) ≡ Some call → IsReading call
reads_scan m call none is =
    let same : call_after m.shard m.sweep ≡ call = cc in
    subst IsReading (sym (ap (λ (o : Option Sweep). call_after m.shard o) none) ∙ same) tt

pub keeps : Keeps collecting
keeps = record {
  prepared_kept = λ old new p. ap kept p;
  prepared_calls = λ old new p. ap (λ (d : Collector). d.calls) p;
  prepared_open = λ old new p is. subst IsOpen (sym p) is;
  prepared_follows = λ client old new start es p f. subst (λ (d : Collector). Follows client d start es) (sym p) f;
  prepared_cost = λ base client old new start es list p at. subst (λ (d : Collector). collecting.CostAt base client d start es list) (sym p) at;
  others_follow = others_follow;
  spared_follows = λ client m start e others es closed spares own of f. idle_follows client m start (e ∷ (others ++ es)) closed;
  moved_kept = λ m new r poll ready. moved_kept m new r poll;
  moved_open = λ m new r poll ready is. moved_open m new r poll is;
  moved_shard = moved_shard;
  ended = ended;
  never_busy = λ m new r ready. never_busy m new r;
  fault_failed = λ m new r ready. fault_failed m new r;
  more_answered = λ m new r ready. more_answered m new r;
  counted = moved_counted;
  effect = λ m new call r poll ready is call_is moves. effect m new call r poll call_is moves;
  allowed = λ client m call start es a. allowed client m start es call a;
  follows = λ client m new call poll list start e others es a c moves. moved_follows client m new call poll list start e others es a c
      (arrives client m new call poll list start e others es a c moves);
  legal = λ client m new call poll list start e others es a c moves. moved_legal client m new call poll list start e others es a c
      (moved_counted m new (reply_there start e others es) poll moves) (arrives client m new call poll list start e others es a c moves);
  cost = λ base client old ready new call poll list start e others es least p a c moves at. moved_cost client ready new call poll list start e others es a c base old
      (arrives client ready new call poll list start e others es a c moves) at;
  wanted_kept = λ m new h. ap kept h.1;
  wanted_counted = λ m new h. ap (λ (d : Collector). d.calls) h.1;
  wanted_open = λ m new h is. subst IsOpen (sym h.1) is;
  wanted_reads = λ m new call ready h is. (
    reads_scan m call h.0 is,
    ap (λ (d : Collector). Some (call_after d.shard d.sweep)) h.1 ∙ is,
  );
  wanted_follows = λ client m new call list start e others es a c h. wanted_follows client m new call polls.More list start e others es a c h;
}

-- an open collection makes few calls where none fails
few_calls : (client : ℕ) (m : Collector) (es : List Entry) → IsSound m → CostBy client m.calls m.sweep es → failed_calls client m.calls es ≡ 0 →
    m.calls < 9223372036854775808
few_calls client m es sound cost failed = by m.sweep sound.sweep cost
  where
    by : (o : Option Sweep) → IfSome o IsSweep → CostBy client m.calls o es → m.calls < 9223372036854775808
    by None s h = let few : m.calls ≤ failed_calls client m.calls es = h in omega arith
    by (Some w) s h =
        let bound : WithinReads m.calls (remaining w) (collect_base (length w.keys)) (failed_calls client m.calls es) = h in
        let few = s.few in
        omega arith

pub ending : Ending collecting
ending = record {
  more_begins = λ k call r did. inl did.none;
  spent_shown = λ k call r did. absurd did.none;
  few = λ client m start es list is sound follows low at failed_none foreign. few_calls client m es sound (at low) failed_none;
}
