-- A reply to a reading keeps its cost.
use Rattle.std.proofs.Common.{◌≡◌, ℕ, suc, ◌+◌, ◌<◌, ◌≤◌, Some, List, [], ◌∷◌, ◌++◌, length, inl, inr, refl, sym, ap, subst, ◌∙◌}
use Rattle.std.proofs.Common.{arith}
use Rattle.store_core.specs.declared.shards.ShardId.{ShardId}
use Rattle.store_core.specs.declared.part_keys.PartKey.{PartKey}
use Rattle.store_core.specs.declared.calls.Call.{Call}
use Rattle.store_core.specs.declared.calls.Call.TheVariants as calls
use Rattle.store_core.specs.declared.replies.Reply.{Reply}
use Rattle.store_core.specs.declared.replies.Reply.TheVariants as replies
use Rattle.store_core.specs.declared.outcomes.Outcome.{Outcome}
use Rattle.store_core.specs.declared.outcomes.Outcome.TheVariants.{Took, FailedTook, FailedLost}
use Rattle.store_core.specs.declared.entries.Entry.{Entry}
use Rattle.store_core.specs.Stores.{Stored}
use Rattle.store_core.specs.Histories.{faults_of, reply, reply_by}
use Rattle.store_core.specs.Ports.{OfOthers}
use Rattle.store_core.specs.Newest.{replay_back}
use Rattle.state_core.specs.States.{ShardState}
use Rattle.update_core.specs.Limits.{most}
use Rattle.history_core.specs.Costs.{failed_calls}
use Rattle.load_core.specs.declared.damages.Damage.TheVariants as damages
use Rattle.load_core.specs.declared.fetches.Fetched.{Fetched}
use Rattle.load_core.specs.declared.fetches.Fetched.TheVariants as fetches
use Rattle.load_core.specs.declared.gettings.Getting.{Getting}
use Rattle.load_core.specs.declared.polls.Poll.{Poll}
use Rattle.load_core.specs.declared.polls.Poll.TheVariants as polls
use Rattle.load_core.specs.Getting as getting
use Rattle.load_core.specs.Loading.{scan_from}
use Rattle.load_core.specs.Trying.{more}
use Rattle.load_core.proofs.Counting.{failed_next}
use Rattle.read_machine.specs.declared.courses.Course.{Course}
use Rattle.read_machine.specs.declared.sights.Sight.{Sight}
use Rattle.read_machine.specs.declared.sights.Sight.TheVariants as sights
use Rattle.read_machine.specs.declared.stages.Stage.{Stage}
use Rattle.read_machine.specs.declared.stages.Stage.TheVariants as stages
use Rattle.read_machine.specs.Courses.{GoesBy, MovesByFetched, counted, holding, missing_poll, read_call, rows_poll, sight_of}
use Rattle.read_machine.specs.Courses.{sight_poll, staged}
use Rattle.read_machine.specs.Following.{OverStage, ReadCost}
use Rattle.read_machine.specs.Questions.{Questions}
use Rattle.read_machine.proofs.HowRead.{HowGot, HowRead, checked, damaged, fails, gains, got, heavy, misses, scanned, spoilt}
use Rattle.read_machine.proofs.HowRead.{unscanned}
use Rattle.read_machine.proofs.Places.{next_count}
use Rattle.read_machine.proofs.Parts.{Asks, scans, gets, asks_call}
use Rattle.read_machine.proofs.Sound.{Ends, HowSight, answers, empty, gone, how_sight, missing_ends, parts, rows_ends, strange}

pub less : (a : ℕ) → more a < most → a < most
less a lt = omega arith

failed_scan : (store : Stored) (shard : ShardId) (from : ℕ) (o : Outcome) →
    reply_by store (calls.Scan shard from) o ≡ replies.Failed → faults_of o ≡ 1
failed_scan store shard from Took h = absurd (let bad : replies.Versions _ ≡ replies.Failed = h in cc)
failed_scan store shard from FailedTook h = refl
failed_scan store shard from FailedLost h = refl

failed_get : (store : Stored) (k : PartKey) (o : Outcome) → reply_by store (calls.Get k) o ≡ replies.Failed → faults_of o ≡ 1
failed_get store k Took h = absurd (let bad : replies.Bytes _ ≡ replies.Failed = h in cc)
failed_get store k FailedTook h = refl
failed_get store k FailedLost h = refl

-- the bound after a poll, by what it comes to
abbrev pub CostAfter : {A : Type 0} → ℕ → Course → List Entry → Course → Poll A → Type 0
CostAfter client c es new polls.Busy = new.calls < most → ReadCost client new new.stage es
CostAfter client c es new polls.More = new.calls < most → ReadCost client new new.stage es
CostAfter client c es new polls.Fault = new.calls < most → ReadCost client new new.stage es
CostAfter client c es new _ = new.calls < most → OverStage client new c.stage es

module _ {Q A : Type 0} (W : Questions Q A) (client : ℕ) (c : Course) (q : Q) (start : Stored) (e : Entry)
    (others es : List Entry)
    (call_is : read_call c c.stage ≡ Some e.call) (own : e.client ≡ client) (of : OfOthers client others)
    (left : c.stage ≡ stages.Get → getting.IsOpen c.getting) (at : c.calls < most → ReadCost client c c.stage es) where
  abbrev now : List Entry
  now = e ∷ (others ++ es)

  abbrev answer : Reply
  answer = reply (replay_back start (others ++ es)) e

  abbrev failures : ℕ
  failures = failed_calls client c.calls es

  abbrev CostOf : Course → Poll A → Type 0
  CostOf new poll = CostAfter client c now new poll

  -- a call that failed
  fault : answer ≡ replies.Failed → faults_of e.outcome ≡ 1
  fault failed = by (asks_call c e.call call_is)
    where
      made : (call : Call) → e.call ≡ call → reply_by (replay_back start (others ++ es)) call e.outcome ≡ replies.Failed
      made call is = subst (λ (x : Call). reply_by (replay_back start (others ++ es)) x e.outcome ≡ replies.Failed) is failed

      by : Asks c e.call → faults_of e.outcome ≡ 1
      by (scans st is) = failed_scan (replay_back start (others ++ es)) c.loader.shard (scan_from c.loader.cached) e.outcome
          (made _ is)
      by (gets key st key_is is) = failed_get (replay_back start (others ++ es)) key e.outcome (made _ is)

  -- what is known of one call more
  pub record Counts (new : Course) : Type 0 where
    pub one : new.calls ≡ suc c.calls
    pub failures_are : failed_calls client new.calls now ≡ faults_of e.outcome + failures
    pub was : ReadCost client c c.stage es

  counts : (new : Course) → new.calls ≡ more c.calls → new.calls < most → Counts new
  counts new h lt =
      let one = next_count c.calls new.calls h lt in
      record {
        one = one;
        failures_are = subst (λ (m : ℕ). failed_calls client m now ≡ faults_of e.outcome + failures) (sym one)
            (failed_next client c.calls e others es own of);
        was = at (less c.calls (subst (λ (n : ℕ). n < most) h lt));
      }

  -- it has ended
  over : (new : Course) → new.calls ≡ more c.calls → new.getting.keys ≡ c.getting.keys → new.calls < most →
      OverStage client new c.stage now
  over new h keys lt = go c.stage refl k.was
    where
      k : Counts new
      k = counts new h lt

      many : length new.getting.keys ≡ length c.getting.keys
      many = ap length keys

      go : (stage : Stage) → c.stage ≡ stage → ReadCost client c stage es → OverStage client new stage now
      go stages.Scan is was = omega (arith, was, k.one, k.failures_are)
      go stages.Get is was = let open_part = left is in omega (arith, was, k.one, k.failures_are, many, open_part)
      go (stages.Check key) is was = omega (arith, was, k.one, k.failures_are, many)

  -- the same call is to be made again
  again : (new : Course) → new.calls ≡ more c.calls → new.stage ≡ c.stage → new.getting ≡ c.getting → faults_of e.outcome ≡ 1 →
      new.calls < most →
      ReadCost client new new.stage now
  again new h stage parts_are failed lt = subst (λ (st : Stage). ReadCost client new st now) (sym stage) (go c.stage k.was)
    where
      k : Counts new
      k = counts new h lt

      place : new.getting.place ≡ c.getting.place
      place = ap (λ (g : Getting). g.place) parts_are

      many : length new.getting.keys ≡ length c.getting.keys
      many = ap (λ (g : Getting). length g.keys) parts_are

      go : (stage : Stage) → ReadCost client c stage es → ReadCost client new stage now
      go stages.Scan was = omega (arith, was, k.one, k.failures_are, failed)
      go stages.Get was = omega (arith, was, k.one, k.failures_are, failed, place)
      go (stages.Check key) was = omega (arith, was, k.one, k.failures_are, failed, many)

  module _ (new : Course) (poll : Poll A) where
    ends : (p : Poll A) → poll ≡ p → Ends p → new.calls ≡ more c.calls → new.getting.keys ≡ c.getting.keys → CostOf new poll
    ends p is h more_is keys = subst (CostOf new) (sym is) (go p h)
      where
        go : (x : Poll A) → Ends x → CostOf new x
        go polls.Busy k = absurd k
        go polls.More k = absurd k
        go polls.Fault k = absurd k
        go polls.Spent k = over new more_is keys
        go (polls.Damaged damage) k = over new more_is keys
        go (polls.Done a) k = over new more_is keys

    -- it goes on at another place
    goes : (z : Course) → new ≡ z → poll ≡ polls.More → (z.calls < most → ReadCost client z z.stage now) → CostOf new poll
    goes z is p h = subst (CostOf new) (sym p) (subst (λ (x : Course). x.calls < most → ReadCost client x x.stage now) (sym is) h)

    look_cost : (k : ShardState) (sight : Sight A) → HowSight W q k c.member sight → c.stage ≡ stages.Scan →
        GoesBy W (holding (counted c) k) q sight new poll → CostOf new poll
    look_cost k sight how stage (p, n) = go how
      where
        says : (x : Sight A) → sight ≡ x → Ends (sight_poll W (holding (counted c) k) q x) →
            (staged (holding (counted c) k) x).calls ≡ more c.calls →
            (staged (holding (counted c) k) x).getting.keys ≡ c.getting.keys → CostOf new poll
        says x is h more_is keys =
            let now_is : new ≡ staged (holding (counted c) k) x = n ∙ ap (staged (holding (counted c) k)) is in
            ends (sight_poll W (holding (counted c) k) q x) (p ∙ ap (sight_poll W (holding (counted c) k) q) is) h
            (ap (λ (z : Course). z.calls) now_is ∙ more_is) (ap (λ (z : Course). z.getting.keys) now_is ∙ keys)

        go : HowSight W q k c.member sight → CostOf new poll
        go (gone none is) = says sights.Gone is tt refl refl
        go (strange m found kind is) = says sights.Strange is tt refl refl
        go (answers m a found look is) = says (sights.Answer a) is tt refl refl
        go (empty m found look is) = says (sights.Answer (W.answer q k [])) is tt refl refl
        go (parts m key keys found look is) =
            let z : Course = record (holding (counted c) k) { stage = stages.Get; getting = getting.begun (key ∷ keys) } in
            goes z (n ∙ ap (staged (holding (counted c) k)) is) (p ∙ ap (sight_poll W (holding (counted c) k) q) is)
            (λ lt. let k2 = counts z refl lt in
            let was : ReadCost client c stages.Scan es = subst (λ (st : Stage). ReadCost client c st es) stage k2.was in
            omega (arith, was, k2.one, k2.failures_are))

    get_cost : (g : Getting) (fetched : Fetched) → c.stage ≡ stages.Get → HowGot c.getting answer g fetched →
        MovesByFetched W (counted c) q g fetched new poll → CostOf new poll
    get_cost g fetched stage how by = go how
      where
        told : (x : Fetched) → fetched ≡ x → MovesByFetched W (counted c) q g x new poll
        told x is = subst (λ (y : Fetched). MovesByFetched W (counted c) q g y new poll) is by

        at_get : (z : Course) → Counts z → c.calls + 0 ≤ 1 + c.getting.place + failures
        at_get z k = subst (λ (st : Stage). ReadCost client c st es) stage k.was

        end : (p : Poll A) → Ends p → poll ≡ p → new ≡ record (counted c) { getting = g } → g.keys ≡ c.getting.keys →
            CostOf new poll
        end p h is n keys = ends p is h (ap (λ (z : Course). z.calls) n) (ap (λ (z : Course). z.getting.keys) n ∙ keys)

        go : HowGot c.getting answer g fetched → CostOf new poll
        go (gains b part is_r reads is (inl (f, rest))) =
            let m = told fetches.More f in
            let z : Course = record (counted c) { getting = g } in
            goes z m.1 m.0 (λ lt. let k = counts z refl lt in
            let place : g.place ≡ c.getting.place + 1 = ap (λ (x : Getting). x.place) is in
            subst (λ (st : Stage). ReadCost client z st now) (sym stage) (omega
            (arith, at_get z k, k.one, k.failures_are, place)))
        go (gains b part is_r reads is (inr (f, done))) = let m = told fetches.Done f in
            end (rows_poll W (counted c) q g.rows) (rows_ends W (counted c) q g.rows) m.0 m.1 (ap (λ (x : Getting). x.keys) is)
        go (fails is_r is f) =
            let m = told fetches.Fault f in
            subst (CostOf new) (sym m.0) (again new (ap (λ (z : Course). z.calls) m.1) (ap (λ (z : Course). z.stage) m.1)
            (ap (λ (z : Course). z.getting) m.1 ∙ is) (fault is_r))
        go (misses key is_r key_is is f) =
            let m = told (fetches.Missing key) f in
            let z : Course = record (counted c) { getting = g; stage = stages.Check key } in
            goes z m.1 m.0 (λ lt. let k = counts z refl lt in
            let many : length g.keys ≡ length c.getting.keys = ap (λ (x : Getting). length x.keys) is in
            let open_part = left stage in
            omega (arith, at_get z k, k.one, k.failures_are, many, open_part))
        go (spoilt b key met is_r reads key_is is f) = let m = told (fetches.Damaged (damages.Part key met)) f in
            end (polls.Damaged (damages.Part key met)) tt m.0 m.1 (ap (λ (x : Getting). x.keys) is)
        go (heavy b part key is_r reads key_is weighs is f) = let m = told (fetches.Damaged (damages.Weight key)) f in
            end (polls.Damaged (damages.Weight key)) tt m.0 m.1 (ap (λ (x : Getting). x.keys) is)

    pub read_cost : HowRead W (counted c) q answer new poll → CostOf new poll
    read_cost (unscanned stage is_r p n) = subst (CostOf new) (sym p) (again new (ap (λ (z : Course). z.calls) n)
        (ap (λ (z : Course). z.stage) n) (ap (λ (z : Course). z.getting) n) (fault is_r))
    read_cost (damaged vs damage stage is_r bad p n) = ends (polls.Damaged damage) p tt (ap (λ (z : Course). z.calls) n)
        (ap (λ (z : Course). z.getting.keys) n)
    read_cost (scanned vs k stage is_r newest by) = look_cost k (sight_of W q k c.member) (how_sight W q k c.member) stage by
    read_cost (checked key vs k stage is_r newest p n) = ends (missing_poll W (holding (counted c) k) q key) p
        (missing_ends W (holding (counted c) k) q key) (ap (λ (z : Course). z.calls) n) (ap (λ (z : Course). z.getting.keys) n)
    read_cost (got g fetched stage moves how by) = get_cost g fetched stage how by
