-- The polls of a command, of which some may fail, over a store that nobody else calls meanwhile.
use Rattle.std.proofs.Common.{◌≡◌, ◌≢◌, ℕ, suc, ◌+◌, ◌<◌, ◌≤◌, inl, inr, Option, Some, None, List, [], ◌∷◌, length, refl, sym, ap, subst, ◌∙◌, arith}
use Rattle.std.specs.Prelude.{⊤, min, reverse}
use Rattle.std.proofs.lemmas.Bool.{eq-eqb}
use Rattle.update_core.specs.declared.updates.Update.{Update}
use Rattle.store_core.specs.declared.shards.ShardId.{ShardId}
use Rattle.store_core.specs.declared.calls.Call.{Call}
use Rattle.store_core.specs.declared.calls.Call.TheVariants as calls
use Rattle.store_core.specs.declared.replies.Reply.{Reply}
use Rattle.store_core.specs.declared.replies.Reply.TheVariants as replies
use Rattle.store_core.specs.declared.outcomes.Outcome.{Outcome}
use Rattle.store_core.specs.declared.outcomes.Outcome.TheVariants.{Took, FailedTook, FailedLost}
use Rattle.store_core.specs.declared.entries.Entry.{Entry}
use Rattle.store_core.specs.Stores.{Stored}
use Rattle.store_core.specs.Histories.{History, faults_of, reply, reply_by}
use Rattle.store_core.specs.Newest.{mine_back, replay_back}
use Rattle.update_core.specs.Limits.{most}
use Rattle.history_core.specs.Discipline.{Allows}
use Rattle.history_core.specs.Legal.{AtLast}
use Rattle.history_core.specs.Placing.{placed, places, AtLastScan}
use Rattle.load_core.specs.declared.damages.Damage.{Damage}
use Rattle.load_core.specs.declared.polls.Poll.{Poll}
use Rattle.load_core.specs.declared.polls.Poll.TheVariants as polls
use Rattle.load_core.specs.Fronts.{Backwards, WhereLawful}
use Rattle.load_core.specs.Trying.{more}
use Rattle.machine_core.specs.Machines.{CostPoll, Ending, IsReading, LegalPoll, Words, shard_of}
use Rattle.machine_core.specs.Polling.{Calls, CostGoesOn, LegalWhere, Polled, Unpolled, Wanted}
use Rattle.machine_core.proofs.Fronts.{both_where}
use Rattle.driving.specs.Drives.{Scanned}
use Rattle.driving.specs.Goings.{Goes, GrowsBy, others_until}
use Rattle.driving.proofs.Driving.{OneCall, shown_scan}
use Rattle.driving.proofs.GoingLaws.{adds_go, failed_outcome, going_so, going_where, grows_more, grows_none, grows_one, others_kept, more_going, no_going, sole_adds, sole_grows}
use Rattle.step_run.specs.Stepping.{EndsAnswered, Made, Steps, WithinWhere}

-- ---- counts

-- an outcome that isn't answered Failed is no fault, and one that is, is one
pub no_fault : (s : Stored) (call : Call) (o : Outcome) → reply_by s call o ≢ replies.Failed → faults_of o ≡ 0
no_fault s call Took n = refl
no_fault s call FailedTook n = absurd (n refl)
no_fault s call FailedLost n = absurd (n refl)

pub one_fault : (o : Outcome) → o ≢ Took → faults_of o ≡ 1
one_fault Took n = absurd (n refl)
one_fault FailedTook n = refl
one_fault FailedLost n = refl

-- the number of calls, below a bound
count : (n m : ℕ) → m ≡ more n → n < most → m ≡ n + 1
count n m is few = let below : m ≡ min (n + 1) most = is in omega (arith, below)

-- a call that changes nothing is allowed to each client
may_read : (call : Call) (start : Stored) (es : List Entry) (client : ℕ) → IsReading call → Allows (mine_back start es client) call
may_read (calls.Scan shard from) start es client h = tt
may_read (calls.Get key) start es client h = tt
may_read (calls.Head shard) start es client h = tt
may_read (calls.Cas shard expected bytes) start es client h = absurd h
may_read (calls.Truncate shard below) start es client h = absurd h
may_read (calls.Set key bytes) start es client h = absurd h
may_read (calls.Delete key) start es client h = absurd h

-- ---- the polls so far

-- what the polls so far have come to: so many, and the command is open
pub record SoFar {M A : Type 0} (W : Words M A) (client : ℕ) (first m : M) (n failed : ℕ) (a b : Option History) : Type 0 where
  pub made : Goes (shard_of W first) a b (λ list start es now. Made W client (W.kept first) n failed start es now)
  pub by : GrowsBy client a b
  pub same : W.kept m ≡ W.kept first
  pub is_open : W.IsOpen m
  pub counted : W.calls_of m ≡ W.calls_of first + n
  pub cost : WithinWhere W client b m

-- what one poll says, of the client that polls: nobody else has called
pub record Turned {M A : Type 0} (W : Words M A) (client : ℕ) (m v : M) (poll : Poll A) (b d : Option History) : Type 0 where
  pub polled : Polled W client b d m v poll
  pub legal : LegalWhere W client d m v poll
  pub cost : CostGoesOn W client b d m v poll
  pub sole : others_until d client ≡ others_until b client

-- the same, where the poll, the client and what the port keeps are known under other names
pub turned : {M A : Type 0} → (W : Words M A) → {w v : M} → {p q : Poll A} → {b d : Option History} → {m n client : ℕ} → p ≡ q → m ≡ n →
    n ≡ client → others_until d m ≡ others_until b n → Polled W n b d w v p → LegalWhere W n d w v p → CostGoesOn W n b d w v p →
    Turned W client w v q b d
turned {A = A} W {w = w} {v = v} {p = p} {q = q} {b = b} {d = d} {m = m} {n = n} {client = client} is same own kept polled legal cost =
    subst (λ (x : Poll A). Turned W client w v x b d) is (record {
      polled = subst (λ (k : ℕ). Polled W k b d w v p) own polled;
      legal = subst (λ (k : ℕ). LegalWhere W k d w v p) own legal;
      cost = subst (λ (k : ℕ). CostGoesOn W k b d w v p) own cost;
      sole = others_kept b d m n client kept same own;
    })

module _ {M A : Type 0} (W : Words M A) (client : ℕ) (first : M) where
  abbrev Own : ShardId
  Own = shard_of W first

  -- what one call has done, and whether it failed
  abbrev Did : Poll A → ℕ → Call → Reply → Type 0
  Did poll failed q r = W.Effect (W.kept first) q r poll × ((s : Stored) (o : Outcome) → r ≡ reply_by s q o → faults_of o ≡ failed)

  abbrev One : Poll A → ℕ → List Update → Stored → List Entry → List Entry → Type 0
  One poll failed list start es now = OneCall client (Did poll failed) start es now

  abbrev Far : ℕ → ℕ → List Update → Stored → List Entry → List Entry → Type 0
  Far n failed list start es now = Made W client (W.kept first) n failed start es now

  nothing_made : (start : Stored) (es : List Entry) → Made W client (W.kept first) 0 0 start es es
  nothing_made start es = record { more = []; split = refl; of_client = tt; as_many = refl; failures = refl; did = tt }

  pub so_far_start : (a : Option History) → W.IsOpen first → WithinWhere W client a first → SoFar W client first first 0 0 a a
  so_far_start a is cost = record {
    made = no_going Own a (Far 0 0) (λ list start es. nothing_made start es);
    by = grows_none client a;
    same = refl;
    is_open = is;
    counted = omega arith;
    cost = cost;
  }

  next_made : (poll : Poll A) (n failed one : ℕ) (start : Stored) (es mid now : List Entry) → Made W client (W.kept first) n failed start es mid →
      OneCall client (Did poll one) start mid now → Made W client (W.kept first) (n + 1) (failed + one) start es now
  next_made poll n failed one start es mid now g c =
      let fails : faults_of c.entry.outcome ≡ one = c.effect.1 (replay_back start mid) c.entry.outcome refl in
      record {
        more = c.entry ∷ g.more;
        split = c.split ∙ ap (λ (fs : List Entry). c.entry ∷ fs) g.split;
        of_client = (c.own, g.of_client);
        as_many = (let many : length g.more ≡ n = g.as_many in omega arith);
        failures = (let had = g.failures in omega (arith, had, fails));
        did = ((poll, subst (λ (fs : List Entry). W.Effect (W.kept first) c.entry.call (reply (replay_back start fs) c.entry) poll) g.split c.effect.0), g.did);
      }

  -- one call, in the words of the machine as it was first
  pub record OwnCall (m v : M) (poll : Poll A) (failed : ℕ) (b d : Option History) : Type 0 where
    pub calls : W.calls_of v ≡ more (W.calls_of m)
    pub by : GrowsBy client b d
    pub come : Goes Own b d (One poll failed)

  same_shard : (m : M) → W.kept m ≡ W.kept first → shard_of W m ≡ Own
  same_shard m same = ap (λ (k : W.Kept). W.shard k) same

  answered_none : (q : Call) (r : Reply) → r ≢ replies.Failed → (s : Stored) (o : Outcome) → r ≡ reply_by s q o → faults_of o ≡ 0
  answered_none q r n s o is = no_fault s q o (λ bad. n (is ∙ bad))

  failed_one : (q : Call) (r : Reply) → r ≡ replies.Failed → (s : Stored) (o : Outcome) → r ≡ reply_by s q o → faults_of o ≡ 1
  failed_one q r failed s o is = one_fault o (failed_outcome s (record { client = client; call = q; outcome = o }) (sym is ∙ failed))

  own_call : (m v : M) (poll : Poll A) (failed : ℕ) (b d : Option History) → W.kept m ≡ W.kept first → (c : Calls W client b d m v poll) →
      ((s : Stored) (o : Outcome) → c.reply ≡ reply_by s c.call o → faults_of o ≡ failed) →
      others_until d client ≡ others_until b client → OwnCall m v poll failed b d
  own_call m v poll failed b d same c fails sole =
      let adds = sole_adds client b d c.call c.reply c.gains sole in
      let allowed = subst (λ (s : ShardId). WhereLawful s b (Backwards (λ start es list. Allows (mine_back start es client) c.call)))
      (same_shard m same) c.allowed in
      let effect = subst (λ (k : W.Kept). W.Effect k c.call c.reply poll) same c.effect in
      record {
        calls = c.counted;
        by = grows_one client b d c.call c.reply adds;
        come = adds_go Own client b d c.call c.reply (One poll failed) adds allowed
            (λ list start es e own call_is reply_is. record {
              entry = e;
              own = own;
              split = refl;
              effect = subst (λ (q : Call). Did poll failed q (reply (replay_back start es) e)) (sym call_is)
                  (subst (λ (r : Reply). Did poll failed c.call r) reply_is (effect, fails));
            });
      }

  -- a poll after which the command goes on
  goes_on : (m v : M) (poll : Poll A) (n failed one : ℕ) (a b d : Option History) → W.calls_of m < most → SoFar W client first m n failed a b →
      OwnCall m v poll one b d → (W.kept v ≡ W.kept m) × W.IsOpen v → WhereLawful (shard_of W m) d (Backwards (W.CostAt W.least client v)) →
      SoFar W client first v (n + 1) (failed + one) a d
  goes_on m v poll n failed one a b d few so_far k stays cost =
      let counted = count (W.calls_of m) (W.calls_of v) k.calls few in
      let before = so_far.counted in
      record {
        made = more_going Own a b d (Far n failed) (One poll one) (Far (n + 1) (failed + one)) so_far.made k.come
            (λ list start es mid now b1 b2 g c. next_made poll n failed one start es mid now g c);
        by = grows_more client a b d so_far.by k.by;
        same = stays.0 ∙ so_far.same;
        is_open = stays.1;
        counted = omega (arith, counted, before);
        cost = subst (λ (s : ShardId). WhereLawful s d (Backwards (W.CostAt W.least client v))) (sym (ap (λ (q : W.Kept). W.shard q) stays.0)) cost;
      }

  pub polls_more : (m v : M) (n failed : ℕ) (a b d : Option History) → W.calls_of m < most → SoFar W client first m n failed a b →
      Turned W client m v polls.More b d → SoFar W client first v (n + 1) failed a d
  polls_more m v n failed a b d few so_far t =
      let c = t.polled in
      let k = own_call m v polls.More 0 b d so_far.same c (answered_none c.call c.reply (c.answered refl)) t.sole in
      let same : failed + 0 ≡ failed = omega arith in
      subst (λ (f : ℕ). SoFar W client first v (n + 1) f a d) same (goes_on m v polls.More n failed 0 a b d few so_far k (c.stays tt)
      (t.cost W.least (omega arith) so_far.cost))

  pub polls_fault : (m v : M) (n failed : ℕ) (a b d : Option History) → W.calls_of m < most → SoFar W client first m n failed a b →
      Turned W client m v polls.Fault b d → SoFar W client first v (n + 1) (failed + 1) a d
  polls_fault m v n failed a b d few so_far t =
      let c = t.polled in
      let k = own_call m v polls.Fault 1 b d so_far.same c (failed_one c.call c.reply (c.failed refl)) t.sole in
      goes_on m v polls.Fault n failed 1 a b d few so_far k (c.stays tt) (t.cost W.least (omega arith) so_far.cost)

  -- what the last poll's call has come to, and what is legal then
  record LastCall (m v : M) (poll : Poll A) (n failed one : ℕ) (list : List Update) (start : Stored) (es now : List Entry) : Type 0 where
    pub before : List Entry
    pub made : Made W client (W.kept first) n failed start es before
    pub call : OneCall client (Did poll one) start before now
    pub legal : LegalPoll W client (W.kept first) (W.calls_of v) poll start now list
    pub cost : CostPoll W W.least client m v poll start now list

  last_call : (m v : M) (poll : Poll A) (n failed one : ℕ) (a b d : Option History) → SoFar W client first m n failed a b →
      OwnCall m v poll one b d → LegalWhere W client d m v poll → CostGoesOn W client b d m v poll → Goes Own a d (LastCall m v poll n failed one)
  last_call m v poll n failed one a b d so_far k legal cost =
      let P = LegalPoll W client (W.kept first) (W.calls_of v) poll in
      let Q = CostPoll W W.least client m v poll in
      let within : WhereLawful Own d (Backwards Q) =
      subst (λ (s : ShardId). WhereLawful s d (Backwards Q)) (same_shard m so_far.same) (cost W.least (omega arith) so_far.cost) in
      let law : WhereLawful Own d (Backwards P) =
      subst (λ (q : W.Kept). WhereLawful (W.shard q) d (Backwards (LegalPoll W client q (W.calls_of v) poll))) so_far.same legal in
      let both : Stored → List Entry → List Update → Type 0 = λ start es list. P start es list × Q start es list in
      more_going Own a b d (Far n failed) (λ list start es now. One poll one list start es now × both start now list) (LastCall m v poll n failed one)
      so_far.made (going_where Own b d (One poll one) both k.come (both_where Own d P Q law within))
      (λ list start es mid now b1 b2 g c. record { before = mid; made = g; call = c.0; legal = c.1.0; cost = c.1.1 })

  -- a command that has ended
  pub polls_done : EndsAnswered W → (m v : M) (answer : A) (wanted n failed : ℕ) (a b d : Option History) → n + 1 ≤ wanted →
      W.calls_of m + 1 < most →
      SoFar W client first m n failed a b → Turned W client m v (polls.Done answer) b d →
      Goes Own a d (Steps W client wanted first v (Some answer) failed) × GrowsBy client a d × (W.calls_of v ≡ W.calls_of first + (n + 1))
  polls_done ends m v answer wanted n failed a b d within few so_far t =
      let c = t.polled in
      let k = own_call m v (polls.Done answer) 0 b d so_far.same c
      (answered_none c.call c.reply (λ bad. ends (W.kept m) c.call c.reply answer c.effect bad)) t.sole in
      let counted = count (W.calls_of m) (W.calls_of v) k.calls (omega (arith, few)) in
      let before = so_far.counted in
      let below : W.calls_of v < most = omega (arith, counted, few) in
      let none : failed + 0 ≡ failed = omega arith in
      let all : W.calls_of v ≡ W.calls_of first + (n + 1) = omega (arith, counted, before) in
      let over = subst (λ (q : W.Kept). W.Ends q answer v) so_far.same (c.ended answer refl) in (
        going_so Own a d (LastCall m v (polls.Done answer) n failed 0) (Steps W client wanted first v (Some answer) failed)
            (last_call m v (polls.Done answer) n failed 0 a b d so_far k t.legal t.cost) (λ list start es now bt x. record {
              made = n + 1;
              calls = subst (λ (f : ℕ). Made W client (W.kept first) (n + 1) f start es now) none
                  (next_made (polls.Done answer) n failed 0 start es x.before now x.made x.call);
              counted = all;
              leaves = (within, over, x.legal below, record { before = m; same = so_far.same; over = x.cost });
            }),
        grows_more client a b d so_far.by k.by,
        all,
      )

  -- one that goes on after all polls
  pub polls_end : (m : M) (wanted n failed : ℕ) (a b : Option History) → n ≡ wanted → SoFar W client first m n failed a b →
      Goes Own a b (Steps W client wanted first m None failed)
  polls_end m wanted n failed a b all so_far =
      let P = W.CostAt W.least client m in
      let within : WhereLawful Own b (Backwards P) = subst (λ (s : ShardId). WhereLawful s b (Backwards P)) (same_shard m so_far.same) so_far.cost in
      going_so Own a b (λ list start es now. Far n failed list start es now × P start now list) (Steps W client wanted first m None failed)
      (going_where Own a b (Far n failed) P so_far.made within)
      (λ list start es now bt x. record { made = n; calls = x.0; counted = so_far.counted; leaves = (all, so_far.same, so_far.is_open, x.1) })

  -- damage is never found where the history is lawful
  pub polls_damaged : (m v : M) (damage : Damage) (n failed : ℕ) (a b d : Option History) → SoFar W client first m n failed a b →
      Turned W client m v (polls.Damaged damage) b d → Goes Own a d (λ list start es now. ⊥)
  polls_damaged m v damage n failed a b d so_far t =
      let c = t.polled in
      let adds = sole_adds client b d c.call c.reply c.gains t.sole in
      let allowed = subst (λ (s : ShardId). WhereLawful s b (Backwards (λ start es list. Allows (mine_back start es client) c.call)))
      (same_shard m so_far.same) c.allowed in
      let P = LegalPoll W client (W.kept first) (W.calls_of v) (polls.Damaged damage) in
      let law : WhereLawful Own d (Backwards P) =
      subst (λ (q : W.Kept). WhereLawful (W.shard q) d (Backwards (LegalPoll W client q (W.calls_of v) (polls.Damaged damage)))) so_far.same t.legal in
      let come = adds_go Own client b d c.call c.reply (λ list start es now. ⊤) adds allowed (λ list start es e own call_is reply_is. tt) in
      more_going Own a b d (Far n failed) (λ list start es now. ⊤ × P start now list) (λ list start es now. ⊥) so_far.made
      (going_where Own b d (λ list start es now. ⊤) P come law) (λ list start es mid now b1 b2 g x. x.1)

  -- no number is left
  pub polls_spent : Ending W → (m v : M) (n failed : ℕ) (a b d : Option History) → W.calls_of m + 1 < most → SoFar W client first m n failed a b →
      Turned W client m v polls.Spent b d → Goes Own a d (λ list start es now. Scanned Own (λ n s. n ≡ most) start es now)
  polls_spent G m v n failed a b d few so_far t =
      let c = t.polled in
      let shown = G.spent_shown (W.kept m) c.call c.reply c.effect in
      let answered : c.reply ≢ replies.Failed = (λ bad. absurd (let two : replies.Failed ≡ replies.Versions shown.1.0 = sym bad ∙ shown.1.1 in cc)) in
      let k = own_call m v polls.Spent 0 b d so_far.same c (answered_none c.call c.reply answered) t.sole in
      let counted = count (W.calls_of m) (W.calls_of v) k.calls (omega (arith, few)) in
      let below : W.calls_of v < most = omega (arith, counted, few) in
      let one : W.calls_of m + 1 ≡ suc (W.calls_of m) = omega arith in
      let Last = λ (n : ℕ) (fs : List Entry) (start : Stored). AtLastScan Own (AtLast start Own (λ n s. n ≡ most)) (places client n fs) in
      going_so Own a d (LastCall m v polls.Spent n failed 0) (λ list start es now. Scanned Own (λ n s. n ≡ most) start es now)
      (last_call m v polls.Spent n failed 0 a b d so_far k t.legal t.cost) (λ list start es now bt x.
      let there = subst (λ (n : ℕ). Last n now start) (counted ∙ one) (x.legal below) in
      let e = x.call.entry in
      let r = reply (replay_back start x.before) e in
      let scan = shown_scan Own (replay_back start x.before) e x.before (G.spent_shown (W.kept first) e.call r x.call.effect.0) in
      let here = subst (λ (fs : List Entry). Last (suc (W.calls_of m)) fs start) x.call.split there in
      subst (λ (fs : List Entry). Scanned Own (λ n s. n ≡ most) start es fs) (sym x.call.split) (record {
        place = placed e x.before;
        more = x.made.more;
        split = refl;
        since = x.made.split;
        answered = scan;
        last = elim (rw (eq-eqb e.client client x.call.own) at here) [
          | inl k ↦ k.1
          | inr k ↦ absurd (k.0 scan)
        ];
      }))

  -- memory was refused, after no call or one that changes nothing
  pub polls_memory : (m v : M) (n failed : ℕ) (a b d : Option History) → SoFar W client first m n failed a b → Unpolled W client b d m v →
      others_until d client ≡ others_until b client → Goes Own a d (λ list start es now. ⊤)
  polls_memory m v n failed a b d so_far u sole = elim u.how [
    | inl k ↦
        subst (λ (f : Option History). Goes Own a f (λ list start es now. ⊤)) (sym (sole_grows client b d k.0 sole))
        (going_so Own a b (Far n failed) (λ list start es now. ⊤) so_far.made (λ list start es now bt x. tt))
    | inr k ↦ wanted k
  ]
    where
      every : (call : Call) (told : Option History) → IsReading call →
          WhereLawful Own told (Backwards (λ start es list. Allows (mine_back start es client) call))
      every call None reads = tt
      every call (Some h) reads = λ list st l. may_read call h.start (reverse h.trail) client reads

      wanted : Wanted W client b d m v → Goes Own a d (λ list start es now. ⊤)
      wanted k =
          let adds = sole_adds client b d k.call k.reply k.gains sole in
          let come = adds_go Own client b d k.call k.reply (λ list start es now. ⊤) adds (every k.call b k.reads)
          (λ list start es e own call_is reply_is. tt) in
          more_going Own a b d (Far n failed) (λ list start es now. ⊤) (λ list start es now. ⊤) so_far.made come
          (λ list start es mid now b1 b2 g one. tt)
