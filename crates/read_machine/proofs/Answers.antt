-- Where an answer of a reading comes from, and what is known since the Scan that showed its state. Entries go newest first.
use Rattle.std.proofs.Common.{◌≡◌, ◌⊎◌, ℕ, zero, suc, ◌+◌, ◌<◌, ◌≤◌, Bool, true, false, Option, Some, None, Ok, List, [], ◌∷◌, ◌++◌}
use Rattle.std.proofs.Common.{length, inl, inr, refl, sym, ap, subst, ◌∙◌, arith, min, take, eqb}
use Rattle.std.specs.Prelude.{IsSomeAnd, nat_lt}
use Rattle.std.specs.List.{AllByRecursion}
use Rattle.std.proofs.lemmas.Bool.{eqb-true}
use Rattle.std.proofs.lemmas.Bool.Decides.{nat_tests}
use Rattle.std.proofs.Math.Seq.{take-length}
use Rattle.update_core.specs.declared.updates.Update.{Update}
use Rattle.store_core.specs.declared.shards.ShardId.{ShardId}
use Rattle.store_core.specs.declared.part_keys.PartKey.{PartKey}
use Rattle.store_core.specs.declared.versions.Version.{Version}
use Rattle.store_core.specs.declared.calls.Call.{Call}
use Rattle.store_core.specs.declared.calls.Call.TheVariants as calls
use Rattle.store_core.specs.declared.outcomes.Outcome.{Outcome}
use Rattle.store_core.specs.declared.replies.Reply.{Reply}
use Rattle.store_core.specs.declared.replies.Reply.TheVariants as replies
use Rattle.store_core.specs.declared.entries.Entry.{Entry}
use Rattle.store_core.specs.Stores.{Stored}
use Rattle.store_core.specs.Histories.{faults_of, reply}
use Rattle.store_core.specs.Ports.{Answered, OfOthers, answered}
use Rattle.store_core.specs.Newest.{mine_back, replay_back}
use Rattle.state_core.specs.declared.members.Member.{Member}
use Rattle.state_core.specs.Refusals.{member_of}
use Rattle.state_core.specs.Lists.{Among}
use Rattle.state_core.specs.States.{Names, ShardState}
use Rattle.update_core.specs.Limits.{most}
use Rattle.state_core.proofs.ListLemmas.{bool_cases, each_at}
use Rattle.history_core.specs.Costs.{commits_on, failed_calls, foreign_commits}
use Rattle.history_core.specs.Discipline.{GotAs, Hold, LawfulBack}
use Rattle.history_core.specs.Members.{JoinedAs}
use Rattle.history_core.specs.Stands.{BatchHolds, PartRows, StandsFor, accepted, end_of}
use Rattle.history_core.proofs.Bases.{base_of}
use Rattle.history_core.proofs.Contents.{hold_rows}
use Rattle.history_core.proofs.GotLaws.{here_of}
use Rattle.history_core.proofs.LawfulLaws.{lawful_of_older}
use Rattle.history_core.proofs.StandsAfter.{stands_after}
use Rattle.history_core.proofs.Gaining.{mine_gained}
use Rattle.load_core.specs.declared.fetches.Fetched.{Fetched}
use Rattle.load_core.specs.declared.fetches.Fetched.TheVariants as fetches
use Rattle.load_core.specs.declared.gettings.Getting.{Getting}
use Rattle.load_core.specs.declared.polls.Poll.{Poll}
use Rattle.load_core.specs.declared.polls.Poll.TheVariants as polls
use Rattle.load_core.specs.declared.damages.Damage.TheVariants as damages
use Rattle.load_core.specs.Costing.{is_behind}
use Rattle.load_core.specs.Following.{FollowsLoading}
use Rattle.load_core.specs.Getting as getting
use Rattle.load_core.specs.Loading.{newest_after}
use Rattle.load_core.specs.Trying.{more}
use Rattle.load_core.proofs.Counting.{end_counted, failed_next}
use Rattle.change_core.specs.Changes.{is_gone}
use Rattle.read_machine.specs.declared.courses.Course.{Course}
use Rattle.read_machine.specs.declared.looks.Look.{Look}
use Rattle.read_machine.specs.declared.looks.Look.TheVariants as looks
use Rattle.read_machine.specs.declared.sights.Sight.{Sight}
use Rattle.read_machine.specs.declared.sights.Sight.TheVariants as sights
use Rattle.read_machine.specs.declared.stages.Stage.{Stage}
use Rattle.read_machine.specs.declared.stages.Stage.TheVariants as stages
use Rattle.read_machine.specs.Courses.{GoesBy, MovesByFetched, counted, expired, holding, missing_poll, read_call, rows_by, rows_poll, sight_of, sight_poll, staged}
use Rattle.read_machine.specs.Following.{FollowsAsked, FollowsStage, IsRead, ReadCost, SinceGot, SinceScan}
use Rattle.read_machine.specs.Questions.{IsQuestion, Questions, own_count}
use Rattle.read_machine.specs.Readings.{IsGetting, SoundBy}
use Rattle.read_machine.proofs.FollowsOn.{brings, get_is, parts_on, scan_done, scan_last, staged_is}
use Rattle.read_machine.proofs.HowRead.{HowGot, HowRead, IsScanStage, checked, damaged, fails, gains, got, heavy, misses, scanned}
use Rattle.read_machine.proofs.HowRead.{spoilt, unscanned}
use Rattle.read_machine.proofs.Parts.{all_named, some_is}
use Rattle.read_machine.proofs.Places.{next_count}
use Rattle.read_machine.proofs.Since.{since_rules}
use Rattle.read_machine.proofs.Sound.{HowSight, answers, at_stage, empty, gone, how_sight, parts, strange}
use Rattle.read_machine.proofs.Stretch.{replay_behind}
use Rattle.read_machine.proofs.Undamaged.{got_is, last_then}

-- ---- what others commit since a Scan

read_commits : (shard : ShardId) (store : Stored) (call : Call) (o : Outcome) → IsRead call → commits_on shard store call o ≡ false
read_commits shard store (calls.Scan at from) o r = refl
read_commits shard store (calls.Get key) o r = refl
read_commits shard store other o r = absurd r

-- since a place after which the client has only read, the versions grew by no more than others have committed meanwhile
pub ends_since : (start : Stored) (shard : ShardId) (client : ℕ) (later tail : List Entry) (n : ℕ) →
    AllByRecursion (λ e. e.client ≡ client → IsRead e.call) later → own_count client later < n →
    end_of ((replay_back start (later ++ tail)).logs shard) ≤
    foreign_commits start shard client n (later ++ tail) + end_of ((replay_back start tail).logs shard)
ends_since start shard client [] tail n reads few = omega arith
ends_since start shard client (e ∷ later) tail zero reads few = absurd (omega (arith, few))
ends_since start shard client (e ∷ later) tail (suc n) reads few =
    let grown = end_counted shard (replay_back start (later ++ tail)) e.call e.outcome in
    elim (bool_cases (eqb e.client client)) [
      | inl mine ↦
          let quiet = read_commits shard (replay_back start (later ++ tail)) e.call e.outcome (reads.0 (eqb-true e.client client mine)) in
          let fewer : own_count client later + 1 < suc n = rw mine at few in
          let rest = ends_since start shard client later tail n reads.1 (omega (arith, fewer)) in
          rw mine (let same = rw quiet at grown in omega (arith, same, rest))
      | inr other ↦
          let fewer : own_count client later < suc n = rw other at few in
          let rest = ends_since start shard client later tail (suc n) reads.1 fewer in
          rw other (omega (arith, grown, rest))
    ]

-- ---- an answer

-- The answer is from the rows of parts that the newest state has named since the command's last Scan, and the member stands there.
pub record FromParts {Q A : Type 0} (W : Questions Q A) (client : ℕ) (c : Course) (q : Q) (start : Stored) (es : List Entry)
    (Paid : Type 0) (answer : A) : Type 0 where
  pub state : ShardState
  pub known : c.loader.cached ≡ Some state
  pub found : Member
  pub found_is : member_of c.member state.members ≡ Some found
  pub keys : List PartKey
  pub rows : List Update
  pub look : W.look q state ≡ looks.Parts keys
  pub answer_is : answer ≡ W.answer q state rows
  pub since : SinceScan W.kind client c start es state
  pub count : c.calls < most → own_count client since.later < c.calls
  pub got : Hold (GotAs (mine_back (replay_back start (since.scan ∷ since.before)) since.later client)) keys rows
  -- a Scan and a Get of each, but for those that failed, where this holds of the calls before
  pub few : Paid → c.calls < most → c.calls ≤ 1 + length keys + failed_calls client c.calls es

-- where an answer comes from
pub data Came {Q A : Type 0} (W : Questions Q A) (client : ℕ) (c : Course) (q : Q) (start : Stored) (es : List Entry)
    (Paid : Type 0) (answer : A) : Type 0 where
  looked : (s : ShardState) → W.look q s ≡ looks.Answer answer → Came W client c q start es Paid answer
  read : FromParts W client c q start es Paid answer → Came W client c q start es Paid answer
  lapsed : (version : ℕ) → answer ≡ W.expired q version → Came W client c q start es Paid answer

-- where the newest state is behind another has committed since the Scan
pub behind_foreign : {Q A : Type 0} (W : Questions Q A) (client : ℕ) (c : Course) (q : Q) (start : Stored) (es : List Entry)
    (Paid : Type 0) (answer : A) (f : FromParts W client c q start es Paid answer) → c.calls < most →
    is_behind ((replay_back start es).logs c.loader.shard) f.state ≡ true →
    1 ≤ foreign_commits start c.loader.shard client c.calls es
behind_foreign W client c q start es Paid answer f lt behind =
    go (f.count lt)
  where
    go : own_count client f.since.later < c.calls → 1 ≤ foreign_commits start c.loader.shard client c.calls es
    go few =
        let w = f.since in
        let then = ends_since start c.loader.shard client w.later (w.scan ∷ w.before) c.calls w.reads few in
        let scan_is = end_counted c.loader.shard (replay_back start w.before) w.scan.call w.scan.outcome in
        let quiet : commits_on c.loader.shard (replay_back start w.before) w.scan.call w.scan.outcome ≡ false =
        subst (λ (k : Call). commits_on c.loader.shard (replay_back start w.before) k w.scan.outcome ≡ false)
        (sym w.answered.0.1) refl in
        let same = rw quiet at scan_is in
        let is_last : f.state.number + 1 ≡ end_of ((replay_back start w.before).logs c.loader.shard) = w.last.0 in
        let here = subst (λ (x : List Entry). end_of ((replay_back start x).logs c.loader.shard) ≤
        foreign_commits start c.loader.shard client c.calls x + end_of ((replay_back start (w.scan ∷ w.before)).logs c.loader.shard))
        (sym w.split) then in
        let past = less (f.state.number + 1) (end_of ((replay_back start es).logs c.loader.shard)) behind in
        omega (arith, same, is_last, here, past)
      where
        less : (a b : ℕ) → nat_lt a b ≡ true → a < b
        less a b h = grind (arith, nat_tests)

abbrev answer_of : {A : Type 0} → Poll A → Option A
answer_of (polls.Done a) = Some a
answer_of _ = None

module _ {Q A : Type 0} (W : Questions Q A) (L : IsQuestion W) (start : Stored) (list : List Update) (client : ℕ) (c : Course)
    (q : Q) (e : Entry)
    (others es : List Entry) (s : SoundBy W c q) (call_is : read_call c c.stage ≡ Some e.call) (own : e.client ≡ client)
    (of : OfOthers client others) (st : StandsFor start c.loader.shard list) (lawful : LawfulBack start (e ∷ (others ++ es)))
    (shown : FollowsLoading c.loader (mine_back start es client)) (f : FollowsAsked W.kind client c start es) (new : Course)
    (answer : A) where
  abbrev here : Reply
  here = reply (replay_back start (others ++ es)) e

  abbrev now : List Entry
  now = e ∷ (others ++ es)

  -- the calls before kept to their bound
  abbrev Paid : Type 0
  Paid = c.calls < most → ReadCost client c c.stage es

  -- the state is the newest one after these versions
  abbrev Load : ShardState → List Version → Type 0
  Load k vs = newest_after c.loader.shard c.loader.cached vs ≡ Ok (Some k)

  abbrev Told : Type 0
  Told = Came W client new q start now Paid answer

  clash : (p : Poll A) → polls.Done answer ≡ p → answer_of p ≡ None → Told
  clash p is none = absurd (let bad : Some answer ≡ None = ap answer_of is ∙ none in cc)

  same_answer : (a : A) → polls.Done answer ≡ polls.Done a → answer ≡ a
  same_answer a is = let two : Some answer ≡ Some a = ap answer_of is in cc

  joined_now : JoinedAs W.kind (mine_back start now client) c.loader.shard c.member
  joined_now = subst (λ (os : List Answered). JoinedAs W.kind os c.loader.shard c.member)
      (sym (mine_gained start client e others es own of)) (inr f.member)

  -- one call more
  one : more c.calls < most → more c.calls ≡ suc c.calls
  one lt = next_count c.calls (more c.calls) refl lt

  failures : more c.calls < most → failed_calls client (more c.calls) now ≡ faults_of e.outcome + failed_calls client c.calls es
  failures lt = subst (λ (m : ℕ). failed_calls client m now ≡ faults_of e.outcome + failed_calls client c.calls es) (sym (one lt))
      (failed_next client c.calls e others es own of)

  was : Paid → (stage : Stage) → c.stage ≡ stage → more c.calls < most → ReadCost client c stage es
  was at stage is lt = subst (λ (x : Stage). ReadCost client c x es) is (at (let n = one lt in omega (arith, lt, n)))

  -- after the Scan, where the parts are none
  at_scan : (k : ShardState) (m : Member) → c.stage ≡ stages.Scan → IsScanStage c.stage → (vs : List Version) →
      here ≡ replies.Versions vs → Load k vs → member_of c.member k.members ≡ Some m → W.look q k ≡ looks.Parts [] →
      answer ≡ W.answer q k [] → new ≡ holding (counted c) k → Told
  at_scan k m stage h vs r newest found look is n =
      let z : Course = holding (counted c) k in
      subst (λ (x : Course). Came W client x q start now Paid answer) (sym n) (read (record {
        state = k;
        known = refl;
        found = m;
        found_is = found;
        keys = [];
        rows = [];
        look = look;
        answer_is = is;
        since = record {
          later = [];
          scan = e;
          before = others ++ es;
          split = refl;
          own = own;
          answered = scan_done W L start list client c q e others es s call_is own of st lawful shown f vs h r;
          last = scan_last W L start list client c q e others es s call_is own of st lawful shown f vs k h r newest;
          reads = tt;
          member = joined_now;
        };
        count = λ lt. (let m2 : z.calls ≡ min (c.calls + 1) most = refl in omega arith);
        got = refl;
        few = λ at lt. (let n = one lt in let fs = failures lt in let w = was at stages.Scan stage lt in omega (arith, n, fs, w));
      }))

  at_look : (k : ShardState) (sight : Sight A) → HowSight W q k c.member sight → c.stage ≡ stages.Scan → IsScanStage c.stage →
      (vs : List Version) → here ≡ replies.Versions vs → Load k vs → GoesBy W (holding (counted c) k) q sight new (polls.Done answer) → Told
  at_look k sight how stage h vs r newest (p, n) = go how
    where
      says : (x : Sight A) → sight ≡ x → polls.Done answer ≡ sight_poll W (holding (counted c) k) q x
      says x is = p ∙ ap (sight_poll W (holding (counted c) k) q) is

      go : HowSight W q k c.member sight → Told
      go (gone none is) = lapsed k.number (same_answer (W.expired q k.number) (says sights.Gone is))
      go (strange m found kind is) = clash _ (says sights.Strange is) refl
      go (answers m a found look is) = looked k (look ∙ ap looks.Answer (sym (same_answer a (says (sights.Answer a) is))))
      go (empty m found look is) = at_scan k m stage h vs r newest found look
          (same_answer (W.answer q k []) (says (sights.Answer (W.answer q k [])) is))
          (n ∙ ap (staged (holding (counted c) k)) is)
      go (parts m key keys found look is) = clash _ (says (sights.Parts (key ∷ keys)) is) refl

  at_check : (key : PartKey) (k : ShardState) (b : Bool) → is_gone c.member (Some k) ≡ b →
      polls.Done answer ≡ missing_poll W (holding (counted c) k) q key → Told
  at_check key k true is p = lapsed k.number (same_answer (W.expired q k.number) (p ∙ rw is refl))
  at_check key k false is p = clash (polls.Damaged (damages.Missing key)) (p ∙ rw is refl) refl

  at_get : (g : Getting) (fetched : Fetched) → c.stage ≡ stages.Get → getting.Moves c.getting here g fetched →
      HowGot c.getting here g fetched → MovesByFetched W (counted c) q g fetched new (polls.Done answer) → Told
  at_get g fetched stage moves how by = go how
    where
      told : (x : Fetched) → fetched ≡ x → MovesByFetched W (counted c) q g x new (polls.Done answer)
      told x is = subst (λ (y : Fetched). MovesByFetched W (counted c) q g y new (polls.Done answer)) is by

      reading : IsSomeAnd c.loader.cached (IsGetting W c q)
      reading = at_stage W c q s stages.Get stage

      z : Course
      z = record (counted c) { getting = g }

      all : (b : List ℕ) → here ≡ replies.Bytes (Some b) → (part : List Update) → g ≡ getting.with_part c.getting part →
          getting.IsDone g → new ≡ record (counted c) { getting = g } →
          polls.Done answer ≡ rows_poll W (counted c) q g.rows → Told
      all b r part g_is done n p =
          let (key, key_is, call) = get_is W L start list client c q e others es s call_is own of st lawful shown f stage in
          let held = staged_is W L start list client c q e others es s call_is own of st lawful shown f stages.Get stage in
          let bytes = brings W L start list client c q e others es s call_is own of st lawful shown f c.loader.cached key b held
          reading key_is call r in
          let more_held = parts_on W L start list client c q e others es s call_is own of st lawful shown f c.loader.cached key g
          fetched held key_is call bytes moves in
          let (k, cached, w) = some_is (SinceGot W.kind client z start now) c.loader.cached more_held in
          let at_k = subst (λ (o : Option ShardState). IsSomeAnd o (IsGetting W c q)) cached reading in
          let keys_are : g.keys ≡ c.getting.keys = ap (λ (x : Getting). x.keys) g_is in
          let place_is : g.place ≡ c.getting.place + 1 = ap (λ (x : Getting). x.place) g_is in
          let full : take g.place g.keys ≡ g.keys = ap (λ (i : ℕ). take i g.keys) done ∙ take-length g.keys in
          subst (λ (x : Course). Came W client x q start now Paid answer) (sym n) (read (record {
            state = k;
            known = cached;
            found = at_k.found;
            found_is = at_k.found_is;
            keys = g.keys;
            rows = g.rows;
            look = at_k.keys ∙ ap looks.Parts (sym keys_are);
            answer_is = same_answer (W.answer q k g.rows) (p ∙ ap (λ (o : Option ShardState). rows_by W o q g.rows) cached);
            since = w.since;
            count = w.count;
            got = subst (λ (ks : List PartKey). Hold (GotAs (mine_back (replay_back start (w.since.scan ∷ w.since.before))
                w.since.later client)) ks g.rows) full w.got;
            few = λ at lt. (let n2 = one lt in let fs = failures lt in let w2 = was at stages.Get stage lt in
                omega (arith, n2, fs, w2, place_is, done));
          }))

      go : HowGot c.getting here g fetched → Told
      go (gains b part r reads is (inl (x, left))) = clash polls.More (told fetches.More x).0 refl
      go (gains b part r reads is (inr (x, done))) = let m = told fetches.Done x in all b r part is done m.1 m.0
      go (fails r is x) = clash polls.Fault (told fetches.Fault x).0 refl
      go (misses key r key_is is x) = clash polls.More (told (fetches.Missing key) x).0 refl
      go (spoilt b key met r reads key_is is x) = clash (polls.Damaged (damages.Part key met))
          (told (fetches.Damaged (damages.Part key met)) x).0 refl
      go (heavy b part key r reads key_is weighs is x) = clash (polls.Damaged (damages.Weight key))
          (told (fetches.Damaged (damages.Weight key)) x).0 refl

  pub came : HowRead W (counted c) q here new (polls.Done answer) → Told
  came (unscanned stage r p n) = clash polls.Fault p refl
  came (damaged vs damage stage r bad p n) = clash (polls.Damaged damage) p refl
  came (scanned vs k stage r newest by) =
      let h : IsScanStage c.stage = subst IsScanStage (sym stage) tt in
      at_look k (sight_of W q k c.member) (how_sight W q k c.member) stage h vs r newest by
  came (checked key vs k stage r newest p n) = at_check key k (is_gone c.member (Some k)) refl p
  came (got g fetched stage moves how by) = at_get g fetched stage moves how by

-- ---- what was got since the Scan

-- what a client's entries since a place hold is among all of them
pub among_since : (P : Answered → Type 0) (start : Stored) (client : ℕ) (later tail : List Entry) →
    Among P (mine_back (replay_back start tail) later client) → Among P (mine_back start (later ++ tail) client)
among_since P start client [] tail h = absurd h
among_since P start client (e ∷ later) tail h = elim (bool_cases (eqb e.client client)) [
  | inl mine ↦
      let here = rw mine at h in
      rw mine (elim here [
        | inl x ↦ inl (subst (λ (s : Stored). P (answered e (reply s e))) (sym (replay_behind start later tail)) x)
        | inr x ↦ inr (among_since P start client later tail x)
      ])
  | inr other ↦ rw other (among_since P start client later tail (rw other at h))
]

-- and so are those before it
pub among_before : (P : Answered → Type 0) (start : Stored) (client : ℕ) (later tail : List Entry) →
    Among P (mine_back start tail client) → Among P (mine_back start (later ++ tail) client)
among_before P start client [] tail h = h
among_before P start client (e ∷ later) tail h = elim (bool_cases (eqb e.client client)) [
  | inl mine ↦ rw mine (inr (among_before P start client later tail h))
  | inr other ↦ rw other (among_before P start client later tail h)
]

-- the rows that were got are what the store had there then, and so had each batch of the state
pub record HeldThen (store : Stored) (s : ShardState) (keys : List PartKey) (rows : List Update) : Type 0 where
  pub list : List Update
  pub parts : PartRows store keys rows
  pub batches : AllByRecursion (BatchHolds store list) s.batches

pub held_then : {Q A : Type 0} (W : Questions Q A) (L : IsQuestion W) (client : ℕ) (c : Course) (q : Q) (start : Stored) (es : List Entry)
    (Paid : Type 0) (answer : A) (list : List Update) → StandsFor start c.loader.shard list → LawfulBack start es →
    (f : FromParts W client c q start es Paid answer) →
    HeldThen (replay_back start (f.since.scan ∷ f.since.before)) f.state f.keys f.rows
held_then W L client c q start es Paid answer list st lawful f =
    let w = f.since in
    let shard = c.loader.shard in
    let s = f.state in
    let l = subst (LawfulBack start) w.split lawful in
    let then = replay_back start (w.scan ∷ w.before) in
    let base = base_of start shard list st in
    let then_lawful = lawful_of_older start w.later (w.scan ∷ w.before) l in
    let last = last_then client start shard list st w.later w.scan w.before l s w.answered w.last in
    let there = here_of then shard (accepted shard list start (w.scan ∷ w.before)) s.number s
    (stands_after start shard list base (w.scan ∷ w.before) then_lawful) last in
    let rules = since_rules W.kind client c start es s w in
    let named = all_named s f.keys (L.parts q s f.keys rules f.look) in
    record {
      list = accepted shard list start (w.scan ∷ w.before);
      parts = hold_rows then (GotAs (mine_back then w.later client)) f.keys f.rows
          (λ k b among g. got_is client start shard list st w.later w.scan w.before l s w.answered w.last k b
          (each_at (Names s) f.keys k named among) g) f.got;
      batches = there.collection.content s.number s there.low last.1;
    }
