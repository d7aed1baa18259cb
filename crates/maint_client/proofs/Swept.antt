-- What the entries of a collection's client say of what is left of it. Entries go newest first.
use Rattle.std.proofs.Common.{◌≡◌, ℕ, zero, suc, ◌+◌, ◌<◌, ◌≤◌, take, Bool, true, false, cond, Some, List, [], ◌∷◌, ◌++◌, inl, inr, refl, sym, ap, subst, ◌∙◌, arith}
use Rattle.std.specs.List.{AllByRecursion, slice_get}
use Rattle.store_core.specs.declared.shards.ShardId.{ShardId}
use Rattle.store_core.specs.declared.part_keys.PartKey.{PartKey}
use Rattle.store_core.specs.declared.versions.Version.{Version}
use Rattle.store_core.specs.declared.calls.Call.{Call}
use Rattle.store_core.specs.declared.calls.Call.TheVariants as calls
use Rattle.store_core.specs.declared.replies.Reply.{Reply}
use Rattle.store_core.specs.declared.outcomes.Outcome.{Outcome}
use Rattle.store_core.specs.declared.outcomes.Outcome.TheVariants.{Took}
use Rattle.store_core.specs.declared.entries.Entry.{Entry}
use Rattle.store_core.specs.Stores.{Log, Stored, truncated}
use Rattle.store_core.specs.Histories.{after_outcome, reply, reply_by}
use Rattle.store_core.specs.Ports.{Answered, OfOthers}
use Rattle.store_core.specs.Newest.{mine_back, replay_back}
use Rattle.state_core.specs.Lists.{Among}
use Rattle.state_core.specs.States.{ShardState, floor}
use Rattle.update_core.specs.Limits.{most}
use Rattle.state_core.proofs.ListLemmas.{among_map, each_at, each_map}
use Rattle.history_core.specs.Discipline.{AllDeleted, DeletedBy, IsDeleted, IsScanCovering, IsScanTaking, NewestIs, TakenUpTo}
use Rattle.history_core.specs.Placing.{AtLastScan, IsAnsweredScan, Placed, placed, places, reply_at}
use Rattle.history_core.specs.Stands.{end_of}
use Rattle.history_core.proofs.Entries.{LogStep, adds, cuts, idle, log_step, mine_newest, mine_older, shard_same}
use Rattle.history_core.proofs.Gaining.{mine_others, places_gained, places_others}
use Rattle.load_core.specs.Trying.{more}
use Rattle.load_core.proofs.Counting.{ends_counted, ends_rise}
use Rattle.maint_client.specs.declared.sweeps.Sweep.{Sweep}
use Rattle.maint_client.specs.Sweeping.{begins_below}
use Rattle.maint_client.specs.Collecting.{FollowsSweep, IsScanFor}
use Rattle.maint_client.proofs.TakenKeys.{Asks, Has, sweep_asks}

-- ---- lists

each_next : (P : PartKey → Type 0) (keys : List PartKey) (n : ℕ) (k : PartKey) → slice_get keys n ≡ Some k → AllByRecursion P (take n keys) → P k →
    AllByRecursion P (take (suc n) keys)
each_next P [] n k e all p = absurd (cc)
each_next P (q ∷ qs) zero k e all p = (let same : k ≡ q = cc in subst P same p, tt)
each_next P (q ∷ qs) (suc n) k e all p = (all.0, each_next P qs n k e all.1 p)

pub key_among : (keys : List PartKey) (n : ℕ) (k : PartKey) → slice_get keys n ≡ Some k → Has keys k
key_among [] n k e = absurd (cc)
key_among (q ∷ qs) zero k e = inl (cc)
key_among (q ∷ qs) (suc n) k e = inr (key_among qs n k e)

pub at_scan : (shard : ShardId) (P Q : Placed → Type 0) (ps : List Placed) → ((p : Placed) → P p → Q p) → AtLastScan shard P ps → AtLastScan shard Q ps
at_scan shard P Q [] f h = absurd h
at_scan shard P Q (p ∷ ps) f (inl h) = inl (h.0, f p h.1)
at_scan shard P Q (p ∷ ps) f (inr h) = inr (h.0, at_scan shard P Q ps f h.1)

-- ---- versions that are gone stay so

pub first_rises : (shard : ShardId) (before : Stored) (call : Call) (outcome : Outcome) →
    (before.logs shard).first ≤ ((after_outcome before call outcome).logs shard).first
first_rises shard before call outcome = go (log_step shard before call outcome)
  where
    go : LogStep shard before call outcome → (before.logs shard).first ≤ ((after_outcome before call outcome).logs shard).first
    go (idle q g) = let e : ((after_outcome before call outcome).logs shard).first ≡ (before.logs shard).first = ap (λ (l : Log). l.first) q in omega arith
    go (cuts below c q g) =
        let e : ((after_outcome before call outcome).logs shard).first ≡ (truncated (before.logs shard) below).first = ap (λ (l : Log). l.first) q in omega arith
    go (adds expected bytes c t k q g) = let e : ((after_outcome before call outcome).logs shard).first ≡ (before.logs shard).first = ap (λ (l : Log). l.first) q in omega arith

firsts_rise : (shard : ShardId) (start : Stored) (others es : List Entry) → ((replay_back start es).logs shard).first ≤ ((replay_back start (others ++ es)).logs shard).first
firsts_rise shard start [] es = omega arith
firsts_rise shard start (e ∷ others) es =
    let older = firsts_rise shard start others es in
    let newest = first_rises shard (replay_back start (others ++ es)) e.call e.outcome in
    omega arith

-- ---- past entries of others, and past an own one

module _ (client : ℕ) (shard : ShardId) (start : Stored) where
  pub sweep_others : (made : ℕ) (w : Sweep) (others es : List Entry) → OfOthers client others → FollowsSweep client shard made w start es →
      FollowsSweep client shard made w start (others ++ es)
  sweep_others made w others es of h = record {
    scan = λ lt. subst (AtLastScan shard (λ p. IsScanFor shard w p.entry.call (reply_at start p))) (sym (places_others client made others es of)) (h.scan lt);
    shown = subst (λ (own : List Answered). Among (λ o. IsScanFor shard w o.entry.call o.reply) own) (sym (mine_others start client others es of)) h.shown;
    deleted = subst (λ (own : List Answered). AllByRecursion (DeletedBy own) (take w.place w.keys)) (sym (mine_others start client others es of)) h.deleted;
    of_shard = h.of_shard;
    low = λ none. let was = h.low none in let up = firsts_rise shard start others es in omega arith;
    below = λ some. let was = h.below some in let up = ends_counted start shard others es in omega arith;
  }

  module _ (made now : ℕ) (e : Entry) (es : List Entry) (counts : now ≡ more made) (own : e.client ≡ client) where
    pub place : now < most → places client now (e ∷ es) ≡ placed e es ∷ places client made es
    place lt =
        let next : now ≡ suc made = omega arith in
        ap (λ (n : ℕ). places client n (e ∷ es)) next ∙ places_gained client made e [] es own tt

    older : (P : Answered → Type 0) → Among P (mine_back start es client) → Among P (mine_back start (e ∷ es) client)
    older P h = mine_older P start e es client h

    pub deleted_older : (keys : List PartKey) → AllByRecursion (DeletedBy (mine_back start es client)) keys →
        AllByRecursion (DeletedBy (mine_back start (e ∷ es) client)) keys
    deleted_older keys all = each_map (DeletedBy (mine_back start es client)) (DeletedBy (mine_back start (e ∷ es) client)) keys
        (λ k h. older (λ (o : Answered). IsDeleted k o.entry.call o.reply) h) all

    -- one that is no Scan: with so many keys deleted, and the versions removed or not
    pub sweep_on : (w : Sweep) (done : ℕ) (cut : Bool) → (IsAnsweredScan shard (placed e es) → ⊥) → FollowsSweep client shard made w start es →
        AllByRecursion (DeletedBy (mine_back start (e ∷ es) client)) (take done w.keys) →
        (cut ≡ false → w.floor ≤ ((replay_back start (e ∷ es)).logs shard).first) → (cut ≡ true → w.cut ≡ true) →
        FollowsSweep client shard now (record w { place = done; cut = cut }) start (e ∷ es)
    sweep_on w done cut apart h deleted low was_cut = record {
      scan = λ lt. subst (AtLastScan shard (λ p. IsScanFor shard (record w { place = done; cut = cut }) p.entry.call (reply_at start p))) (sym (place lt))
          (inr (
            apart,
            at_scan shard (λ p. IsScanFor shard w p.entry.call (reply_at start p)) (λ p. IsScanFor shard (record w { place = done; cut = cut }) p.entry.call (reply_at start p))
                (places client made es) (λ p k. still p.entry.call (reply_at start p) k) (h.scan (omega arith)),
          ));
      shown = among_map (λ (o : Answered). IsScanFor shard w o.entry.call o.reply) (λ (o : Answered). IsScanFor shard (record w { place = done; cut = cut }) o.entry.call o.reply)
          (mine_back start (e ∷ es) client) (λ o k. still o.entry.call o.reply k) (older (λ (o : Answered). IsScanFor shard w o.entry.call o.reply) h.shown);
      deleted = deleted;
      of_shard = h.of_shard;
      low = low;
      below = λ some. let was = h.below (was_cut some) in let up = ends_rise shard (replay_back start es) e.call e.outcome in omega arith;
    }
      where
        still : (call : Call) (r : Reply) → IsScanFor shard w call r → IsScanFor shard (record w { place = done; cut = cut }) call r
        still call r (is, (vs, answer, asks)) = (is, (vs, answer, record { first = asks.first; asked = asks.asked; floor = asks.floor; keys = asks.keys; cuts = λ some. asks.cuts (was_cut some) }))

    -- one that failed
    pub sweep_failed : (w : Sweep) → (IsAnsweredScan shard (placed e es) → ⊥) → FollowsSweep client shard made w start es →
        FollowsSweep client shard now w start (e ∷ es)
    sweep_failed w apart h = sweep_on w w.place w.cut apart h (deleted_older (take w.place w.keys) h.deleted)
        (λ none. let was = h.low none in let up = first_rises shard (replay_back start es) e.call e.outcome in omega arith) (λ some. some)

    -- the Delete of the next key, which was answered
    pub sweep_deleted : (w : Sweep) (k : PartKey) → slice_get w.keys w.place ≡ Some k → e.call ≡ calls.Delete k → e.outcome ≡ Took →
        FollowsSweep client shard made w start es → FollowsSweep client shard now (record w { place = w.place + 1 }) start (e ∷ es)
    sweep_deleted w k next is took h = sweep_on w (w.place + 1) w.cut (λ s. let (from, bad) = s.0 in let both : calls.Delete k ≡ calls.Scan shard from = sym is ∙ bad in cc) h
        (subst (λ (n : ℕ). AllByRecursion (DeletedBy (mine_back start (e ∷ es) client)) (take n w.keys)) plus
        (each_next (DeletedBy (mine_back start (e ∷ es) client)) w.keys w.place k next (deleted_older (take w.place w.keys) h.deleted) this))
        (λ none. let was = h.low none in let up = first_rises shard (replay_back start es) e.call e.outcome in omega arith) (λ some. some)
      where
        plus : suc w.place ≡ w.place + 1
        plus = omega arith

        here : IsDeleted k e.call (reply (replay_back start es) e)
        here = subst (λ (o : Outcome). IsDeleted k e.call (reply_by (replay_back start es) e.call o)) (sym took)
            (subst (λ (c : Call). IsDeleted k c (reply_by (replay_back start es) c Took)) (sym is) refl)

        this : DeletedBy (mine_back start (e ∷ es) client) k
        this = subst (λ (c : ℕ). DeletedBy (mine_back start (e ∷ es) c) k) own (mine_newest (λ (o : Answered). IsDeleted k o.entry.call o.reply) start e es here)

    -- the Truncate, which was answered
    pub sweep_cut : (w : Sweep) → e.call ≡ calls.Truncate shard w.floor → e.outcome ≡ Took → w.cut ≡ true →
        FollowsSweep client shard made w start es → FollowsSweep client shard now (record w { cut = false }) start (e ∷ es)
    sweep_cut w is took some h = sweep_on w w.place false (λ s. let (from, bad) = s.0 in let both : calls.Truncate shard w.floor ≡ calls.Scan shard from = sym is ∙ bad in cc) h
        (deleted_older (take w.place w.keys) h.deleted) (λ none. low) (λ bad. absurd (let no_way : false ≡ true = bad in cc))
      where
        removed : (after_outcome (replay_back start es) (calls.Truncate shard w.floor) Took).logs shard ≡ truncated ((replay_back start es).logs shard) w.floor
        removed = ap (λ (t : Bool). cond t (truncated ((replay_back start es).logs shard) w.floor) ((replay_back start es).logs shard)) (shard_same shard)

        low : w.floor ≤ ((replay_back start (e ∷ es)).logs shard).first
        low =
            let now_is : (replay_back start (e ∷ es)).logs shard ≡ truncated ((replay_back start es).logs shard) w.floor =
            subst (λ (o : Outcome). (after_outcome (replay_back start es) e.call o).logs shard ≡ truncated ((replay_back start es).logs shard) w.floor) (sym took)
            (subst (λ (c : Call). (after_outcome (replay_back start es) c Took).logs shard ≡ truncated ((replay_back start es).logs shard) w.floor) (sym is) removed) in
            let first_is : ((replay_back start (e ∷ es)).logs shard).first ≡ (truncated ((replay_back start es).logs shard) w.floor).first = ap (λ (l : Log). l.first) now_is in
            let end : w.floor < end_of ((replay_back start es).logs shard) = h.below some in
            omega arith

  -- ---- what may be called

  -- a Scan that asks for a collection takes each of its keys
  pub scan_takes : (w : Sweep) (k : PartKey) (call : Call) (r : Reply) → IsScanFor shard w call r → Has w.keys k → k.shard ≡ shard → IsScanTaking k call r
  scan_takes w k call r (is, (vs, answer, asks)) has of =
      let a = sweep_asks shard vs asks.first asks.asked in
      let taken = a.only k (subst (λ (ks : List PartKey). Has ks k) (sym asks.keys) has) in
      subst (λ (c : Call). IsScanTaking k c r) (sym is) (subst (IsScanTaking k (calls.Scan shard 0)) (sym answer) (sym of, by a taken))
    where
      by : Asks shard vs asks.first → TakenUpTo shard asks.first.floor vs k → (s : ShardState) × NewestIs shard vs s × TakenUpTo shard (floor s) vs k
      by a taken = elim a.newest [
        | inl none ↦ absurd (subst (λ (us : List Version). TakenUpTo shard asks.first.floor us k) none.0 taken)
        | inr some ↦ (some.0, some.3, subst (λ (n : ℕ). TakenUpTo shard n vs k) some.2 taken)
      ]

  -- and covers what lies below its floor once all of them are deleted
  pub scan_covers : (own : List Answered) (w : Sweep) (call : Call) (r : Reply) → IsScanFor shard w call r → AllByRecursion (DeletedBy own) w.keys →
      w.cut ≡ true → IsScanCovering own shard w.floor call r
  scan_covers own w call r (is, (vs, answer, asks)) all some =
      subst (λ (c : Call). IsScanCovering own shard w.floor c r) (sym is) (subst (IsScanCovering own shard w.floor (calls.Scan shard 0)) (sym answer) (refl, refl, by (sweep_asks shard vs asks.first asks.asked)))
    where
      gone : Asks shard vs asks.first → (us : List Version) → ((k : PartKey) → TakenUpTo shard w.floor us k → TakenUpTo shard w.floor vs k) → AllDeleted own shard w.floor us
      gone a [] f = tt
      gone a (u ∷ us) f = (
        (λ lt k t. each_at (DeletedBy own) w.keys k all (subst (λ (ks : List PartKey). Has ks k) asks.keys
            (a.has k (subst (λ (n : ℕ). TakenUpTo shard n vs k) (sym asks.floor) (f k (inl (omega arith, t))))))),
        gone a us (λ k t. f k (inr t)),
      )

      by : Asks shard vs asks.first → (s : ShardState) × NewestIs shard vs s × (w.floor ≤ floor s) × AllDeleted own shard w.floor vs
      by a = elim a.newest [
        | inl none ↦ absurd (
            let cut_is : asks.first.cut ≡ begins_below asks.first.floor [] = subst (λ (us : List Version). asks.first.cut ≡ begins_below asks.first.floor us) none.0 a.cut in
            let bad : true ≡ false = sym (asks.cuts some) ∙ cut_is in cc)
        | inr here ↦ (here.0, here.3, (let same = asks.floor in let at = here.2 in omega arith), gone a vs (λ k t. t))
      ]
