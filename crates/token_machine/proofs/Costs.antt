-- A reply keeps the bound on the calls: its base, one for each part that is set, and two for each failed call and each commit of others.
use Rattle.std.proofs.Common.{◌≡◌, ℕ, suc, ◌+◌, ◌*◌, ◌<◌, ◌≤◌, true, false, Option, Some, None, List, ◌∷◌, ◌++◌, ◌⊎◌, inl, inr}
use Rattle.std.proofs.Common.{refl, sym, ap, subst, ◌∙◌, arith, eqb}
use Rattle.std.specs.Prelude.{nat_lt, length}
use Rattle.std.proofs.lemmas.Bool.Decides.{nat_tests}
use Rattle.update_core.specs.declared.updates.Update.{Update}
use Rattle.store_core.specs.declared.shards.ShardId.{ShardId}
use Rattle.store_core.specs.declared.part_keys.PartKey.{PartKey}
use Rattle.store_core.specs.declared.calls.Call.{Call}
use Rattle.store_core.specs.declared.calls.Call.TheVariants as calls
use Rattle.store_core.specs.declared.replies.Reply.TheVariants as replies
use Rattle.store_core.specs.declared.outcomes.Outcome.{Outcome}
use Rattle.store_core.specs.declared.outcomes.Outcome.TheVariants.{Took, FailedTook, FailedLost}
use Rattle.store_core.specs.declared.entries.Entry.{Entry}
use Rattle.store_core.specs.Stores.{Log, Stored}
use Rattle.store_core.specs.Histories.{after_outcome, faults_of, reply, reply_by}
use Rattle.store_core.specs.Ports.{OfOthers}
use Rattle.store_core.specs.Newest.{mine_back, replay_back}
use Rattle.state_core.specs.declared.transitions.Transition.{Transition}
use Rattle.state_core.specs.States.{ShardState}
use Rattle.update_core.specs.Limits.{most}
use Rattle.state_core.proofs.ListLemmas.{bool_cases}
use Rattle.history_core.specs.Costs.{commits_among, failed_calls, foreign_commits, Within}
use Rattle.history_core.specs.Discipline.{LawfulBack}
use Rattle.history_core.specs.Stands.{StandsFor, end_of}
use Rattle.load_core.specs.declared.nexts.Next.{Next}
use Rattle.load_core.specs.declared.nexts.Next.TheVariants as nexts
use Rattle.load_core.specs.declared.progresses.Progress.{Progress}
use Rattle.load_core.specs.declared.progresses.Progress.TheVariants as progresses
use Rattle.load_core.specs.declared.readies.Ready.{Ready}
use Rattle.load_core.specs.declared.settings.Setting.{Setting}
use Rattle.load_core.specs.declared.tries.Tried.{Tried}
use Rattle.load_core.specs.declared.tryings.Trying.{Trying}
use Rattle.load_core.specs.Costing.{is_behind, calls_from_cas, remaining, CostAfter, CostEnded, CostKept, IsPrepared}
use Rattle.load_core.specs.Following.{FollowsTrying}
use Rattle.load_core.specs.Setting as setting
use Rattle.load_core.specs.Trying as trying
use Rattle.load_core.proofs.Counting.{ends_counted, failed_next, foreign_next}
use Rattle.load_core.proofs.CostSteps.{cost_step}
use Rattle.load_core.proofs.Remaining.{cas_few, cost_within, prepared_cost}
use Rattle.load_core.proofs.Runs.{moves_same, next_calls}
use Rattle.load_core.proofs.SettingFollows.{NextIs, next_is}
use Rattle.token_machine.specs.declared.storings.Storing.{Storing}
use Rattle.token_machine.specs.Storings.{IsSound, Moves, MovesAfterSet, Prepares, call_of, counted, resumed, set_tried, sets}
use Rattle.token_machine.specs.Storings.{sets_before}
use Rattle.token_machine.proofs.Ways.{Way, call_false, call_true, prepares_same, set, try, way}

-- ---- a Set

-- as the log grows by commits, the calls from a Cas on grow by two for each
cas_later : (log log2 : Log) (c : Option ShardState) (k : ℕ) → end_of log2 ≡ k + end_of log →
    calls_from_cas log2 c ≤ calls_from_cas log c + 2 * k
cas_later log log2 None k e = elim (bool_cases (eqb (end_of log) 0)) [
  | inl z ↦ elim (bool_cases (eqb (end_of log2) 0)) [
    | inl y ↦ rw (z, y) (omega arith)
    | inr y ↦ let some = grown (end_of log) (end_of log2) k e z y in rw (z, y) (omega arith)
  ]
  | inr z ↦ let few = cas_few log2 None in rw z (omega arith)
]
  where
    grown : (a b k : ℕ) → b ≡ k + a → eqb a 0 ≡ true → eqb b 0 ≡ false → 1 ≤ k
    grown a b k e z y = grind (arith, nat_tests)
cas_later log log2 (Some s) k e = elim (bool_cases (is_behind log s)) [
  | inl z ↦ let few = cas_few log2 (Some s) in rw z (omega arith)
  | inr z ↦ elim (bool_cases (is_behind log2 s)) [
    | inl y ↦ let some = grown (s.number + 1) (end_of log) (end_of log2) k e z y in rw (z, y) (omega arith)
    | inr y ↦ rw (z, y) (omega arith)
  ]
]
  where
    grown : (n a b k : ℕ) → b ≡ k + a → nat_lt n a ≡ false → nat_lt n b ≡ true → 1 ≤ k
    grown n a b k e z y = grind (arith, nat_tests)

-- a Set leaves the versions as they are
set_logs : (before : Stored) (shard : ShardId) (k : PartKey) (b : List ℕ) (o : Outcome) →
    (after_outcome before (calls.Set k b) o).logs shard ≡ before.logs shard
set_logs before shard k b Took = refl
set_logs before shard k b FailedTook = refl
set_logs before shard k b FailedLost = refl

failed_set : (store : Stored) (k : PartKey) (b : List ℕ) (o : Outcome) → reply_by store (calls.Set k b) o ≡ replies.Failed →
    faults_of o ≡ 1
failed_set store k b Took h = absurd (let bad : replies.Stored ≡ replies.Failed = h in cc)
failed_set store k b FailedTook h = refl
failed_set store k b FailedLost h = refl

-- the inequality after one more call, with `room` more in the base
within_set : (made rem base foreign foreign2 failed fault others rem2 room : ℕ) → (made ≡ 0 → 3 ≤ base) →
    Within made rem base foreign failed → (made ≡ 0) ⊎ (foreign2 ≡ others + foreign) → rem2 ≤ rem + 2 * others → rem2 ≤ 3 →
    1 ≤ room + 2 * fault →
    Within (suc made) rem2 (base + room) foreign2 (fault + failed)
within_set made rem base foreign foreign2 failed fault others rem2 room three w either le few enough =
    let w2 : made + rem ≤ base + 2 * (foreign + failed) = w in
    elim either [
      | inl z ↦ let low = three z in omega arith
      | inr e ↦ omega arith
    ]

module _ (start : Stored) (client base : ℕ) (t : Trying) (e : Entry) (others es : List Entry) (three : t.calls ≡ 0 → 3 ≤ base)
    (own : e.client ≡ client) (of : OfOthers client others) where
  set_kept : (rd : Ready) (key : PartKey) (bytes : List ℕ) (room : ℕ) → t.next ≡ nexts.Cas rd → e.call ≡ calls.Set key bytes →
      1 ≤ room + 2 * faults_of e.outcome → trying.more t.calls < most → CostKept base client t start es →
      CostKept (base + room) client (counted t) start (e ∷ (others ++ es))
  set_kept rd key bytes room next call enough lt w =
      let log = (replay_back start es).logs t.loader.shard in
      let log2 = (replay_back start (e ∷ (others ++ es))).logs t.loader.shard in
      let k = commits_among start t.loader.shard others es in
      let one : trying.more t.calls ≡ suc t.calls = next_calls t.calls (trying.more t.calls) refl lt in
      let same : log2 ≡ (replay_back start (others ++ es)).logs t.loader.shard =
      ap (λ (c : Call). (after_outcome (replay_back start (others ++ es)) c e.outcome).logs t.loader.shard) call ∙ set_logs
      (replay_back start (others ++ es)) t.loader.shard key bytes e.outcome in
      let ends : end_of log2 ≡ k + end_of log = ap end_of same ∙ ends_counted start t.loader.shard others es in
      let before_is : remaining log t.step t.loader.cached t.next ≡ calls_from_cas log t.loader.cached = ap
      (remaining log t.step t.loader.cached) next in
      let after_is : remaining log2 t.step t.loader.cached t.next ≡ calls_from_cas log2 t.loader.cached = ap
      (remaining log2 t.step t.loader.cached) next in
      let w2 : Within t.calls (calls_from_cas log t.loader.cached) base
      (foreign_commits start t.loader.shard client t.calls es) (failed_calls client t.calls es) =
      subst (λ (n : ℕ). Within t.calls n base (foreign_commits start t.loader.shard client t.calls es)
      (failed_calls client t.calls es)) before_is w in
      let kept = within_set t.calls (calls_from_cas log t.loader.cached) base
      (foreign_commits start t.loader.shard client t.calls es) (foreign_commits start t.loader.shard client (suc t.calls)
      (e ∷ (others ++ es)))
      (failed_calls client t.calls es) (faults_of e.outcome) k (calls_from_cas log2 t.loader.cached) room three w2
      (foreign_next start t.loader.shard client t.calls e others es own of) (cas_later log log2 t.loader.cached k ends)
      (cas_few log2 t.loader.cached) enough in
      let failed_is = subst (λ (n : ℕ). Within (suc t.calls) (calls_from_cas log2 t.loader.cached) (base + room)
      (foreign_commits start t.loader.shard client (suc t.calls) (e ∷ (others ++ es))) n)
      (sym (failed_next client t.calls e others es own of)) kept in
      let rem_is = subst (λ (n : ℕ). Within (suc t.calls) n (base + room) (foreign_commits start t.loader.shard client
      (suc t.calls) (e ∷ (others ++ es))) (failed_calls client (suc t.calls) (e ∷ (others ++ es))))
      (sym after_is) failed_is in
      subst (λ (n : ℕ). Within n (remaining log2 t.step t.loader.cached t.next) (base + room)
      (foreign_commits start t.loader.shard client n (e ∷ (others ++ es))) (failed_calls client n (e ∷ (others ++ es))))
      (sym one) rem_is

-- ---- each reply

-- preparing keeps it
pub storing_cost_prepared : (base client : ℕ) (old new : Storing) (start : Stored) (es : List Entry) → Prepares old new →
    (old.trying.calls < most → CostKept (base + old.setting.place) client old.trying start es) → new.trying.calls < most →
    CostKept (base + new.setting.place) client new.trying start es × IsPrepared new.trying.next
storing_cost_prepared base client old new start es (t, p, is) at lt =
    let same = prepares_same old new (t, p, is) in
    let low : old.trying.calls < most = subst (λ (n : ℕ). n < most) (ap (λ (z : Storing). z.trying.calls) same) lt in
    subst (λ (z : Storing). CostKept (base + z.setting.place) client z.trying start es × IsPrepared z.trying.next) (sym is)
    (prepared_cost (base + old.setting.place) client old.trying t start es p (at low))

-- a transition that takes another's place has at most three calls more
pub resumed_cost : (base client : ℕ) (s : Storing) (x : Transition) (parts : Setting) (start : Stored) (es : List Entry) →
    CostEnded base client s.trying start es → CostKept (base + 3) client (resumed s x parts).trying start es
resumed_cost base client s x parts start es ended =
    cost_within (base + 3) client (trying.resumed s.trying x) start es
    (wider s.trying.calls (foreign_commits start s.trying.loader.shard client s.trying.calls es)
    (failed_calls client s.trying.calls es) ended)
  where
    wider : (made foreign failed : ℕ) → Within made 0 base foreign failed → Within made 3 (base + 3) foreign failed
    wider made foreign failed h = let h2 : made + 0 ≤ base + 2 * (foreign + failed) = h in omega arith

-- a command that has ended made no more calls than with all its parts
pub all_parts : (base client : ℕ) (s : Storing) (start : Stored) (es : List Entry) → s.setting.place ≤ length s.setting.keys →
    CostEnded (base + s.setting.place) client s.trying start es → CostEnded
    (base + length s.setting.keys) client s.trying start es
all_parts base client s start es le h =
    wider s.trying.calls (foreign_commits start s.trying.loader.shard client s.trying.calls es)
    (failed_calls client s.trying.calls es) h
  where
    wider : (made foreign failed : ℕ) → Within made 0 (base + s.setting.place) foreign failed → Within made 0
        (base + length s.setting.keys) foreign failed
    wider made foreign failed h = let h2 : made + 0 ≤ base + s.setting.place + 2 * (foreign + failed) = h in omega arith

module _ (base client : ℕ) (s : Storing) (list : List Update) (start : Stored) (e : Entry) (others es : List Entry)
    (three : s.trying.calls ≡ 0 → 3 ≤ base)
    (sound : IsSound s) (prepared : IsPrepared s.trying.next) (f : FollowsTrying s.trying (mine_back start es client))
    (own : e.client ≡ client)
    (call_is : call_of s ≡ Some e.call) (of : OfOthers client others) (st : StandsFor start s.trying.loader.shard list)
    (lawful : LawfulBack start (e ∷ (others ++ es))) (at : s.trying.calls < most → CostKept
    (base + s.setting.place) client s.trying start es) where
  wide : s.trying.calls ≡ 0 → 3 ≤ base + s.setting.place
  wide z = let low = three z in omega arith

  abbrev After : Storing → Tried → Type 0
  After new tried = new.trying.calls < most → CostAfter tried (base + new.setting.place) client new.trying start
      (e ∷ (others ++ es))

  after_set : (rd : Ready) → s.trying.next ≡ nexts.Cas rd → sets s ≡ true → (new : Storing) (tried : Tried) →
      MovesAfterSet s (reply (replay_back start (others ++ es)) e) new tried → After new tried
  after_set rd next q new tried (p, progress, m, n, is) =
      subst (λ (z : Storing). After z tried) (sym n) (subst (After after) (sym is) (go progress m))
    where
      part : NextIs s.setting e.call
      part = next_is s.setting e.call (call_true s e.call q call_is)

      after : Storing
      after = record { trying = counted s.trying; setting = p }

      less : (a : ℕ) → trying.more a < most → a < most
      less a lt = omega arith

      at_place : (k room : ℕ) → p.place ≡ k → base + s.setting.place + room ≡ base + k → 1 ≤ room + 2 * faults_of e.outcome →
          trying.more s.trying.calls < most → CostKept (base + p.place) client (counted s.trying) start (e ∷ (others ++ es))
      at_place k room place sum enough lt =
          let kept = set_kept start client (base + s.setting.place) s.trying e others es wide own of rd part.key part.bytes room next part.call_is enough lt (at (less s.trying.calls lt)) in
          subst (λ (m : ℕ). CostKept (base + m) client (counted s.trying) start (e ∷ (others ++ es))) (sym place)
          (subst (λ (m : ℕ). CostKept m client (counted s.trying) start (e ∷ (others ++ es))) sum kept)

      go : (progress : Progress) → setting.Moves s.setting (reply (replay_back start (others ++ es)) e) p progress →
          After after (set_tried progress)
      go progresses.More m = at_place (s.setting.place + 1) 1 (ap (λ (z : Setting). z.place) m.1) (omega arith) (omega arith)
      go progresses.Done m = at_place (s.setting.place + 1) 1 (ap (λ (z : Setting). z.place) m.1) (omega arith) (omega arith)
      go progresses.Fault m =
          let fault = failed_set (replay_back start (others ++ es)) part.key part.bytes e.outcome
          (subst (λ (c : Call). reply_by (replay_back start (others ++ es)) c e.outcome ≡ replies.Failed) part.call_is m.0) in
          at_place s.setting.place 0 (ap (λ (z : Setting). z.place) m.1) (omega arith) (omega arith)

  pub storing_cost : (new : Storing) (tried : Tried) → Moves s (reply (replay_back start (others ++ es)) e) new tried →
      After new tried
  storing_cost new tried moves = by (way s new (reply (replay_back start (others ++ es)) e) tried moves)
    where
      by : Way s (reply (replay_back start (others ++ es)) e) new tried → After new tried
      by (set q m) = on s.trying.next refl
        where
          on : (next : Next) → s.trying.next ≡ next → After new tried
          on (nexts.Cas rd) e = after_set rd e q new tried m
          on nexts.Scan e = absurd (let bad : false ≡ true = subst (λ (m : Next). sets_before m s.setting ≡ true) e q in cc)
          on nexts.Attempt e = absurd (let bad : false ≡ true = subst (λ (m : Next). sets_before m s.setting ≡ true) e q in cc)
      by (try q (t, m, n)) = subst (λ (z : Storing). After z tried) (sym n) (λ lt.
          cost_step start list client (base + s.setting.place) s.trying t e others es wide sound.trying own
          (call_false s e.call q call_is) of st lawful f tried
          prepared m lt (at (fewer t m lt)))
        where
          fewer : (t : Trying) → trying.Moves s.trying (reply (replay_back start (others ++ es)) e) t tried → t.calls < most →
              s.trying.calls < most
          fewer t m lt = let one = (moves_same s.trying t (reply (replay_back start (others ++ es)) e) tried m).calls in
              less s.trying.calls t.calls one lt
            where
              less : (a b : ℕ) → b ≡ trying.more a → b < most → a < most
              less a b e lt = omega arith
