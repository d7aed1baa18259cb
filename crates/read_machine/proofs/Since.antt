-- What is known since a Scan stays known, past entries of others and with one more of the client. Entries go newest first.
use Rattle.std.proofs.Common.{◌≡◌, ℕ, ◌+◌, ◌<◌, min, None, Option, Some, List, [], ◌∷◌, ◌++◌, take, refl, sym, ap, subst, ◌∙◌}
use Rattle.std.proofs.Common.{append_assoc, arith}
use Rattle.std.specs.Prelude.{IsSomeAnd}
use Rattle.store_core.specs.declared.shards.ShardId.{ShardId}
use Rattle.store_core.specs.declared.part_keys.PartKey.{PartKey}
use Rattle.store_core.specs.declared.entries.Entry.{Entry}
use Rattle.store_core.specs.Stores.{Stored}
use Rattle.store_core.specs.Histories.{reply}
use Rattle.store_core.specs.Ports.{Answered, OfOthers, answered}
use Rattle.store_core.specs.Newest.{mine_back, replay_back}
use Rattle.state_core.specs.declared.kinds.Kind.{Kind}
use Rattle.state_core.specs.States.{IsState, ShardState}
use Rattle.update_core.specs.Limits.{most}
use Rattle.history_core.specs.Discipline.{GotAs, Hold}
use Rattle.history_core.specs.Laws.{LastIs}
use Rattle.history_core.specs.Members.{JoinedAs}
use Rattle.history_core.specs.Placing.{IsAnsweredScan, placed}
use Rattle.history_core.proofs.Gaining.{mine_others}
use Rattle.history_core.proofs.StateFacts.{state_rules}
use Rattle.load_core.specs.Trying.{more}
use Rattle.read_machine.specs.declared.courses.Course.{Course}
use Rattle.read_machine.specs.declared.stages.Stage.{Stage}
use Rattle.read_machine.specs.declared.stages.Stage.TheVariants as stages
use Rattle.read_machine.specs.Following.{FollowsAsked, FollowsStage, IsRead, SinceGot, SinceMissing, SinceScan}
use Rattle.read_machine.specs.Questions.{NoScanOf, own_count}
use Rattle.read_machine.proofs.Stretch.{all_more, all_others, count_more, count_others, mine_since, split_more}

-- the state that the Scan showed keeps the rules of one
pub since_rules : (kind : Kind) (client : ℕ) (c : Course) (start : Stored) (es : List Entry) (k : ShardState) →
    SinceScan kind client c start es k → IsState k
since_rules kind client c start es k w = state_rules c.loader.shard ((replay_back start w.before).logs c.loader.shard) k.number k
    w.last.1

-- ---- entries of others

module _ (kind : Kind) (start : Stored) (client : ℕ) (others es : List Entry) (of : OfOthers client others) (c : Course) where
  abbrev since_others : (k : ShardState) → SinceScan kind client c start es k → SinceScan kind client c start (others ++ es) k
  since_others k w = record {
    later = others ++ w.later;
    scan = w.scan;
    before = w.before;
    split = ap (λ (q : List Entry). others ++ q) w.split ∙ sym (append_assoc others w.later (w.scan ∷ w.before));
    own = w.own;
    answered = w.answered;
    last = w.last;
    reads = all_others (λ d. IsRead d.call) client others w.later of w.reads;
    member = w.member;
  }

  staged_others : (stage : Stage) → FollowsStage kind client c start es stage →
      FollowsStage kind client c start (others ++ es) stage
  staged_others stages.Scan h = tt
  staged_others stages.Get h = on c.loader.cached h
    where
      on : (o : Option ShardState) → IsSomeAnd o (SinceGot kind client c start es) →
          IsSomeAnd o (SinceGot kind client c start (others ++ es))
      on None w = absurd w
      on (Some k) w = record {
        since = since_others k w.since;
        quiet = all_others (λ d. ¬ IsAnsweredScan c.loader.shard (placed d [])) client others w.since.later of w.quiet;
        count = λ lt. subst (λ (n : ℕ). n < c.calls) (sym (count_others client others w.since.later of)) (w.count lt);
        got = subst (λ (os : List Answered). Hold (GotAs os) (take c.getting.place c.getting.keys) c.getting.rows)
            (sym (mine_others (replay_back start (w.since.scan ∷ w.since.before)) client others w.since.later of)) w.got;
      }
  staged_others (stages.Check key) h = on c.loader.cached h
    where
      on : (o : Option ShardState) → IsSomeAnd o (SinceMissing kind client c start es key) →
          IsSomeAnd o (SinceMissing kind client c start (others ++ es) key)
      on None w = absurd w
      on (Some k) w = record {
        since = since_others k w.since;
        rest = others ++ w.rest;
        mid = w.mid;
        parted = ap (λ (q : List Entry). others ++ q) w.parted ∙ sym (append_assoc others w.rest w.mid);
        missing = w.missing;
      }

  pub asked_others : FollowsAsked kind client c start es → FollowsAsked kind client c start (others ++ es)
  asked_others f = record {
    member = subst (λ (os : List Answered). JoinedAs kind os c.loader.shard c.member) (sym
        (mine_others start client others es of)) f.member;
    reading = staged_others c.stage f.reading;
  }

-- ---- one more of the client

module _ (kind : Kind) (start : Stored) (client : ℕ) (e : Entry) (others es : List Entry) (own : e.client ≡ client)
    (of : OfOthers client others) where
  abbrev since_more : (c z : Course) (k : ShardState) → z.loader.shard ≡ c.loader.shard → z.member ≡ c.member → IsRead e.call →
      (w : SinceScan kind client c start es k) → SinceScan kind client z start (e ∷ (others ++ es)) k
  since_more c z k shard member read w = record {
    later = e ∷ (others ++ w.later);
    scan = w.scan;
    before = w.before;
    split = split_more e others w.later es (w.scan ∷ w.before) w.split;
    own = w.own;
    answered = subst (λ (d : ShardId). IsAnsweredScan d (placed w.scan w.before)) (sym shard) w.answered;
    last = subst (λ (d : ShardId). LastIs (replay_back start w.before) d k.number k) (sym shard) w.last;
    reads = all_more (λ d. IsRead d.call) client e others w.later read of w.reads;
    member = subst (λ (m : ℕ). JoinedAs kind (mine_back start (w.scan ∷ w.before) client) z.loader.shard m) (sym member)
        (subst (λ (d : ShardId). JoinedAs kind (mine_back start (w.scan ∷ w.before) client) d c.member) (sym shard) w.member);
  }

  -- one more Scan that failed, or Get, and the rows that are held then
  pub got_more : (c z : Course) (k : ShardState) → z.loader.shard ≡ c.loader.shard → z.member ≡ c.member →
      z.calls ≡ more c.calls →
      IsRead e.call → (¬ IsAnsweredScan c.loader.shard (placed e [])) → (w : SinceGot kind client c start es k) →
      Hold (GotAs (answered e (reply (replay_back start (others ++ es)) e) ∷
      mine_back (replay_back start (w.since.scan ∷ w.since.before)) w.since.later client)) (take z.getting.place z.getting.keys)
      z.getting.rows → SinceGot kind client z start (e ∷ (others ++ es)) k
  got_more c z k shard member calls_are read quiet w held = record {
    since = since_more c z k shard member read w.since;
    quiet = subst (λ (d : ShardId). NoScanOf client d (e ∷ (others ++ w.since.later))) (sym shard)
        (all_more (λ x. ¬ IsAnsweredScan c.loader.shard (placed x [])) client e others w.since.later quiet of w.quiet);
    count = λ lt. (let n : own_count client (e ∷ (others ++ w.since.later)) ≡ own_count client w.since.later + 1 =
        count_more client e others w.since.later own of in
        let m : z.calls ≡ min (c.calls + 1) most = calls_are in
        let was : own_count client w.since.later < c.calls = w.count (omega arith) in
        omega arith);
    got = subst (λ (os : List Answered). Hold (GotAs os) (take z.getting.place z.getting.keys) z.getting.rows)
        (sym (mine_since start client e others w.since.later (w.since.scan ∷ w.since.before) own of
        ∙ ap (λ (q : List Entry). answered e (reply (replay_back start (others ++ q)) e) ∷
        mine_back (replay_back start (w.since.scan ∷ w.since.before)) w.since.later client) (sym w.since.split))) held;
  }

  -- the same where a key was missing
  pub missing_more : (c z : Course) (k : ShardState) (key : PartKey) → z.loader.shard ≡ c.loader.shard → z.member ≡ c.member →
      IsRead e.call →
      SinceMissing kind client c start es key k → SinceMissing kind client z start (e ∷ (others ++ es)) key k
  missing_more c z k key shard member read w = record {
    since = since_more c z k shard member read w.since;
    rest = e ∷ (others ++ w.rest);
    mid = w.mid;
    parted = ap (λ (q : List Entry). e ∷ (others ++ q)) w.parted
        ∙ ap (λ (q : List Entry). e ∷ q) (sym (append_assoc others w.rest w.mid));
    missing = w.missing;
  }

  -- a key is missing at this entry
  pub missing_now : (c z : Course) (k : ShardState) (key : PartKey) → z.loader.shard ≡ c.loader.shard → z.member ≡ c.member →
      IsRead e.call →
      (replay_back start (others ++ es)).blobs key ≡ None → SinceGot kind client c start es k →
      SinceMissing kind client z start (e ∷ (others ++ es)) key k
  missing_now c z k key shard member read none w = record {
    since = since_more c z k shard member read w.since;
    rest = e ∷ [];
    mid = others ++ w.since.later;
    parted = refl;
    missing = subst (λ (q : List Entry). (replay_back start q).blobs key ≡ None)
        (ap (λ (q : List Entry). others ++ q) w.since.split ∙ sym (append_assoc others w.since.later
        (w.since.scan ∷ w.since.before))) none;
  }
