-- What a reply at an entry's place makes of a collector: it follows, its answer is legal, and the bound is kept. Entries go newest first.
use Rattle.std.proofs.Common.{◌≡◌, ◌≢◌, ℕ, suc, ◌+◌, ◌<◌, ◌≤◌, length, Bool, true, false, cond, Option, Some, None, Ok, List, ◌∷◌, ◌++◌, inl, inr, refl, sym, ap, subst, ◌∙◌, arith}
use Rattle.std.specs.Prelude.{IfSome, IsSome, nat_lt, ◌||◌}
use Rattle.std.specs.List.{AllByRecursion, slice_get}
use Rattle.std.proofs.lemmas.Bool.Decides.{nat_tests}
use Rattle.std.proofs.lemmas.List.{take_all}
use Rattle.std.proofs.lemmas.Option.{slice_get_cases}
use Rattle.update_core.specs.declared.updates.Update.{Update}
use Rattle.store_core.specs.declared.shards.ShardId.{ShardId}
use Rattle.store_core.specs.declared.part_keys.PartKey.{PartKey}
use Rattle.store_core.specs.declared.versions.Version.{Version}
use Rattle.store_core.specs.declared.calls.Call.{Call}
use Rattle.store_core.specs.declared.calls.Call.TheVariants as calls
use Rattle.store_core.specs.declared.replies.Reply.{Reply}
use Rattle.store_core.specs.declared.replies.Reply.TheVariants as replies
use Rattle.store_core.specs.declared.outcomes.Outcome.{Outcome}
use Rattle.store_core.specs.declared.outcomes.Outcome.TheVariants.{Took, FailedTook, FailedLost}
use Rattle.store_core.specs.declared.entries.Entry.{Entry}
use Rattle.store_core.specs.Stores.{Stored, reply_of}
use Rattle.store_core.specs.Histories.{faults_of, reply_by}
use Rattle.store_core.specs.Ports.{Answered}
use Rattle.store_core.specs.Newest.{mine_back, replay_back}
use Rattle.update_core.specs.Limits.{most}
use Rattle.state_core.proofs.ListLemmas.{among_map, each_at}
use Rattle.history_core.specs.declared.asked.Asked.{Asked}
use Rattle.history_core.specs.declared.collect_answers.CollectAnswer.{CollectAnswer}
use Rattle.history_core.specs.Costs.{WithinReads, collect_base, failed_calls}
use Rattle.history_core.specs.Discipline.{Allows, DeletedBy, IsScanCovering, IsScanTaking, LawfulBack}
use Rattle.history_core.specs.Placing.{placed, places}
use Rattle.history_core.specs.Upkeep.{delete_of, deletes_of}
use Rattle.history_core.proofs.Entries.{lawful_older}
use Rattle.history_core.proofs.Gaining.{places_others}
use Rattle.load_core.specs.declared.polls.Poll.{Poll}
use Rattle.load_core.specs.Trying.{more}
use Rattle.load_core.proofs.Counting.{failed_next}
use Rattle.machine_core.specs.Machines.{Asking, Called, reply_there}
use Rattle.maint_client.specs.declared.collectors.Collector.{Collector}
use Rattle.maint_client.specs.declared.sweeps.Sweep.{Sweep}
use Rattle.maint_client.specs.Sweeping.{IsSweep, sweep_call, sweep_of, swept}
use Rattle.maint_client.specs.Collecting.{CostBy, Fails, FollowsCommand, FollowsSweep, GoesTo, IsCollecting, IsScanFor, Moves, call_after, collecting, deleted_by, remaining}
use Rattle.maint_client.proofs.TakenKeys.{Asks, sweep_asks}
use Rattle.maint_client.proofs.Swept.{key_among, place, scan_covers, scan_takes, sweep_cut, sweep_deleted, sweep_others}
use Rattle.maint_client.proofs.SweptScans.{never_damaged, scan_follows}
use Rattle.maint_client.proofs.CollectWays.{IsChanged, Way, changed, collects, damaged, failed, scanned, way}

-- ---- what is next

below : (n m : ℕ) → n < m → nat_lt n m ≡ true
below n m h = grind (arith, nat_tests)

past : (n m : ℕ) → m ≤ n → nat_lt n m ≡ false
past n m h = grind (arith, nat_tests)

-- a key is next, or none is left and versions are
data Next (shard : ShardId) (w : Sweep) : Type 0 where
  deletes : (k : PartKey) → slice_get w.keys w.place ≡ Some k → w.place < length w.keys → sweep_call shard w ≡ calls.Delete k →
      swept w ≡ record w { place = w.place + 1 } → Next shard w
  cuts : length w.keys ≤ w.place → w.cut ≡ true → sweep_call shard w ≡ calls.Truncate shard w.floor → swept w ≡ record w { cut = false } → Next shard w

next : (shard : ShardId) (w : Sweep) → IsSweep w → Next shard w
next shard w s = elim (slice_get_cases w.keys w.place).1 [
  | inl here ↦
      let (k, lt, is, at) = here in
      let test = below w.place (length w.keys) lt in
      deletes k is lt (rw is refl) (rw test refl)
  | inr none ↦
      let test = past w.place (length w.keys) none.0 in
      cuts none.0 (let left = s.left in let cut : (false || w.cut) ≡ true = rw test at left in cut) (rw none.1 refl) (rw test refl)
]

-- a command that is open
pub of_open : (o : Option Asked) (P : Type 0) → IsSome o → IfSome o (λ a. P) → P
of_open None P is h = absurd (let bad : false ≡ true = is in cc)
of_open (Some a) P is h = h

pub for_any : (o : Option Asked) (P : Type 0) → P → IfSome o (λ a. P)
for_any None P h = tt
for_any (Some a) P h = h

-- ---- what may be called

module _ (client : ℕ) (m : Collector) (start : Stored) (es : List Entry) where
  own : List Answered
  own = mine_back start es client

  sweep_allowed : (w : Sweep) → IsSweep w → FollowsSweep client m.shard m.calls w start es → Allows (mine_back start es client) (sweep_call m.shard w)
  sweep_allowed w s h = by (next m.shard w s)
    where
      by : Next m.shard w → Allows (mine_back start es client) (sweep_call m.shard w)
      by (deletes k is lt call after) = subst (Allows (mine_back start es client)) (sym call)
          (among_map (λ (o : Answered). IsScanFor m.shard w o.entry.call o.reply) (λ (o : Answered). IsScanTaking k o.entry.call o.reply) (mine_back start es client)
          (λ o f. scan_takes client m.shard start w k o.entry.call o.reply f (key_among w.keys w.place k is)
          (each_at (λ (q : PartKey). q.shard ≡ m.shard) w.keys k h.of_shard (key_among w.keys w.place k is))) h.shown)
      by (cuts few some call after) = subst (Allows (mine_back start es client)) (sym call)
          (among_map (λ (o : Answered). IsScanFor m.shard w o.entry.call o.reply) (λ (o : Answered). IsScanCovering (mine_back start es client) m.shard w.floor o.entry.call o.reply) (mine_back start es client)
          (λ o f. scan_covers client m.shard start (mine_back start es client) w o.entry.call o.reply f
          (subst (λ (ks : List PartKey). AllByRecursion (DeletedBy (mine_back start es client)) ks) (take_all w.place w.keys few) h.deleted) some) h.shown)

  pub allowed : (call : Call) → Asking collecting client m call start es → Allows (mine_back start es client) call
  allowed call a =
      let f = of_open m.asked (FollowsCommand client m start es) a.is_open a.follows in
      let same : call_after m.shard m.sweep ≡ call = (let is = a.call_is in cc) in
      subst (Allows (mine_back start es client)) same (by m.sweep a.ready.sweep f.sweep)
    where
      by : (o : Option Sweep) → IfSome o IsSweep → IfSome o (λ w. FollowsSweep client m.shard m.calls w start es) →
          Allows (mine_back start es client) (call_after m.shard o)
      by None s h = tt
      by (Some w) s h = sweep_allowed w s h

-- ---- outcomes

answers_call : (shard : ShardId) (store : Stored) (call : Call) → IsCollecting shard call → reply_of store call ≢ replies.Failed
answers_call shard store (calls.Scan q from) is bad = let no_way : reply_of store (calls.Scan q from) ≡ replies.Failed = bad in cc
answers_call shard store (calls.Delete k) is bad = let no_way : replies.Deleted ≡ replies.Failed = bad in cc
answers_call shard store (calls.Truncate q from) is bad = let no_way : replies.Truncated ≡ replies.Failed = bad in cc
answers_call shard store _ is bad = is

failed_fault : (shard : ShardId) (store : Stored) (call : Call) (o : Outcome) → IsCollecting shard call → reply_by store call o ≡ replies.Failed → (faults_of o ≡ 1) × (o ≢ Took)
failed_fault shard store call Took is e = absurd (answers_call shard store call is e)
failed_fault shard store call FailedTook is e = (refl, λ bad. cc)
failed_fault shard store call FailedLost is e = (refl, λ bad. cc)

answered_took : (store : Stored) (call : Call) (o : Outcome) → reply_by store call o ≢ replies.Failed → o ≡ Took
answered_took store call Took h = refl
answered_took store call FailedTook h = absurd (h refl)
answered_took store call FailedLost h = absurd (h refl)

pub no_delete : (call : Call) (o : Outcome) → o ≢ Took → delete_of call o ≡ 0
no_delete call Took h = absurd (h refl)
no_delete (calls.Delete k) FailedTook h = refl
no_delete (calls.Delete k) FailedLost h = refl
no_delete _ FailedTook h = refl
no_delete _ FailedLost h = refl

one_or_none : (b : Bool) → cond b 1 0 ≤ 1
one_or_none true = omega arith
one_or_none false = omega arith

changed_not_failed : (r : Reply) → IsChanged r → r ≢ replies.Failed
changed_not_failed r (inl e) bad = let no_way : replies.Deleted ≡ replies.Failed = sym e ∙ bad in cc
changed_not_failed r (inr e) bad = let no_way : replies.Truncated ≡ replies.Failed = sym e ∙ bad in cc

-- ---- at an entry's place

module _ (client : ℕ) (m new : Collector) (call : Call) (poll : Poll CollectAnswer) (list : List Update) (start : Stored) (e : Entry) (others es : List Entry)
    (a : Asking collecting client m call start es) (c : Called client m.shard call list start e others es) where
  before : LawfulBack start (others ++ es)
  before = lawful_older start e (others ++ es) c.lawful

  pub call_is : e.call ≡ call_after m.shard m.sweep
  call_is = c.call_is ∙ (let is = a.call_is in let same : call_after m.shard m.sweep ≡ call = cc in sym same)

  pub follows_here : FollowsCommand client m start es
  follows_here = of_open m.asked (FollowsCommand client m start es) a.is_open a.follows

  abbrev Here : List Entry
  Here = others ++ es

  -- what is left after the entry, and what its client's entries say of that
  pub record At (w : Sweep) : Type 0 where
    pub goes : GoesTo m w new poll
    pub sweep : FollowsSweep client m.shard (more m.calls) w start (e ∷ (others ++ es))
    pub deletes : more m.calls < most → deletes_of (places client (more m.calls) (e ∷ (others ++ es))) ≡ w.place
    pub within : w.place ≤ length w.keys
    pub cost : CostBy client m.calls m.sweep es → more m.calls < most →
        WithinReads (more m.calls) (remaining w) (collect_base (length w.keys)) (failed_calls client (more m.calls) (e ∷ (others ++ es)))

  pub data Arrives : Type 0 where
    fails : Fails m new poll → faults_of e.outcome ≡ 1 → e.outcome ≢ Took → Arrives
    goes : (w : Sweep) → At w → Arrives

  place_now : more m.calls < most → places client (more m.calls) (e ∷ (others ++ es)) ≡ placed e (others ++ es) ∷ places client m.calls es
  place_now lt = place client m.shard start m.calls (more m.calls) e (others ++ es) refl c.own lt ∙
      ap (λ ps. placed e (others ++ es) ∷ ps) (places_others client m.calls others es c.of_others)

  pub failed_now : more m.calls < most → failed_calls client (more m.calls) (e ∷ (others ++ es)) ≡ faults_of e.outcome + failed_calls client m.calls es
  failed_now lt =
      let next_is : more m.calls ≡ suc m.calls = omega arith in
      ap (λ (n : ℕ). failed_calls client n (e ∷ (others ++ es))) next_is ∙ failed_next client m.calls e others es c.own c.of_others

  pub deletes_now : more m.calls < most → deletes_of (places client (more m.calls) (e ∷ (others ++ es))) ≡ delete_of e.call e.outcome + deleted_by m.sweep
  deletes_now lt = ap deletes_of (place_now lt) ∙ ap (λ (n : ℕ). delete_of e.call e.outcome + n) (follows_here.deletes (omega arith))

  of_reply : reply_there start e others es ≢ replies.Failed → e.outcome ≡ Took
  of_reply h = answered_took (replay_back start (others ++ es)) e.call e.outcome h

  scan_at : (w : Sweep) (vs : List Version) → m.sweep ≡ None → reply_there start e others es ≡ replies.Versions vs → sweep_of m.shard vs ≡ Ok w →
      GoesTo m w new poll → At w
  scan_at w vs none shown asked g = record {
    goes = g;
    sweep = scan_follows client m.shard start list c.stands e (others ++ es) before c.own vs scans shown m.calls (more m.calls) w refl asked;
    deletes = λ lt. deletes_now lt ∙ ap (λ (o : Option Sweep). delete_of e.call e.outcome + deleted_by o) none ∙
        ap (λ (q : Call). delete_of q e.outcome + 0) scans ∙ sym first.none_yet;
    within = let zero_is = first.none_yet in omega arith;
    cost = λ was lt.
        let was2 : m.calls ≤ failed_calls client m.calls es = subst (λ (o : Option Sweep). CostBy client m.calls o es) none was in
        let now_failed = failed_now lt in
        let no_fault : faults_of e.outcome ≡ 0 = ap faults_of took in
        let few = one_or_none w.cut in
        let zero_is = first.none_yet in
        omega arith;
  }
    where
      scans : e.call ≡ calls.Scan m.shard 0
      scans = call_is ∙ ap (λ (o : Option Sweep). call_after m.shard o) none

      first : Asks m.shard vs w
      first = sweep_asks m.shard vs w asked

      took : e.outcome ≡ Took
      took = of_reply (λ bad. let no_way : replies.Versions vs ≡ replies.Failed = sym shown ∙ bad in cc)

  change_at : (w : Sweep) → m.sweep ≡ Some w → IsChanged (reply_there start e others es) → GoesTo m (swept w) new poll → At (swept w)
  change_at w some answered g = by (next m.shard w sound)
    where
      sound : IsSweep w
      sound = let s = a.ready.sweep in subst (λ (o : Option Sweep). IfSome o IsSweep) some s

      follows : FollowsSweep client m.shard m.calls w start (others ++ es)
      follows = let f = follows_here.sweep in sweep_others client m.shard start m.calls w others es c.of_others
          (subst (λ (o : Option Sweep). IfSome o (λ v. FollowsSweep client m.shard m.calls v start es)) some f)

      calls_it : e.call ≡ sweep_call m.shard w
      calls_it = call_is ∙ ap (λ (o : Option Sweep). call_after m.shard o) some

      took : e.outcome ≡ Took
      took = of_reply (changed_not_failed (reply_there start e others es) answered)

      was_deleted : deleted_by m.sweep ≡ w.place
      was_deleted = ap deleted_by some

      by : Next m.shard w → At (swept w)
      by (deletes k is lt_keys call after) = subst At (sym after) (record {
        goes = subst (λ (v : Sweep). GoesTo m v new poll) after g;
        sweep = sweep_deleted client m.shard start m.calls (more m.calls) e (others ++ es) refl c.own w k is (calls_it ∙ call) took follows;
        deletes = λ lt.
            let count = deletes_now lt in
            let one : delete_of e.call e.outcome ≡ 1 = ap (λ (q : Call). delete_of q e.outcome) (calls_it ∙ call) ∙ ap (λ (o : Outcome). delete_of (calls.Delete k) o) took in
            omega (arith, was_deleted);
        within = omega arith;
        cost = λ was lt.
            let was2 : WithinReads m.calls (remaining w) (collect_base (length w.keys)) (failed_calls client m.calls es) = subst (λ (o : Option Sweep). CostBy client m.calls o es) some was in
            let now_failed = failed_now lt in
            omega arith;
      })
      by (cuts few cut call after) = subst At (sym after) (record {
        goes = subst (λ (v : Sweep). GoesTo m v new poll) after g;
        sweep = sweep_cut client m.shard start m.calls (more m.calls) e (others ++ es) refl c.own w (calls_it ∙ call) took cut follows;
        deletes = λ lt.
            let count = deletes_now lt in
            let none : delete_of e.call e.outcome ≡ 0 = ap (λ (q : Call). delete_of q e.outcome) (calls_it ∙ call) in
            omega (arith, was_deleted);
        within = sound.within;
        cost = λ was lt.
            let was2 : WithinReads m.calls (remaining w) (collect_base (length w.keys)) (failed_calls client m.calls es) = subst (λ (o : Option Sweep). CostBy client m.calls o es) some was in
            let now_failed = failed_now lt in
            let one : ◌≡◌ {A = ℕ} (cond w.cut 1 0) 1 = ap (λ (b : Bool). cond {A = ℕ} b 1 0) cut in
            omega arith;
      })

  pub arrives : Moves m (reply_there start e others es) new poll → Arrives
  arrives moves = by (way m new (reply_there start e others es) poll moves)
    where
      by : Way m new (reply_there start e others es) poll → Arrives
      by (failed bad f) =
          let fault = failed_fault m.shard (replay_back start (others ++ es)) e.call e.outcome (subst (IsCollecting m.shard) (sym call_is) (collects m.shard m.sweep)) bad in
          fails f fault.0 fault.1
      by (scanned none vs shown w asked g) = goes w (scan_at w vs none shown asked g)
      by (damaged none vs shown damage asked p n) = absurd (never_damaged client m.shard start list c.stands e (others ++ es) before c.own vs
          (call_is ∙ ap (λ (o : Option Sweep). call_after m.shard o) none) shown damage asked)
      by (changed w some answered g) = goes (swept w) (change_at w some answered g)
