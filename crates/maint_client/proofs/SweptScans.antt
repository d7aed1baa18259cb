-- What a collection's Scan shows of the shard, and that its answer is legal in the end. Entries go newest first.
use Rattle.std.proofs.Common.{◌≡◌, ℕ, ◌+◌, ◌<◌, ◌≤◌, length, take, Bool, true, false, Option, Some, None, Ok, Err, List, [], ◌∷◌, inl, inr, refl, sym, ap, subst, ◌∙◌, arith}
use Rattle.std.specs.Prelude.{nat_le, nat_lt, filter, ◌||◌}
use Rattle.std.specs.List.{AllByRecursion}
use Rattle.std.proofs.lemmas.List.{take_all}
use Rattle.std.proofs.lemmas.Bool.Decides.{nat_tests}
use Rattle.update_core.specs.declared.updates.Update.{Update}
use Rattle.store_core.specs.declared.shards.ShardId.{ShardId}
use Rattle.store_core.specs.declared.part_keys.PartKey.{PartKey}
use Rattle.store_core.specs.declared.versions.Version.{Version}
use Rattle.store_core.specs.declared.calls.Call.TheVariants as calls
use Rattle.store_core.specs.declared.replies.Reply.TheVariants as replies
use Rattle.store_core.specs.declared.entries.Entry.{Entry}
use Rattle.store_core.specs.Stores.{Stored, numbered}
use Rattle.store_core.specs.Histories.{reply}
use Rattle.store_core.specs.Ports.{Answered}
use Rattle.store_core.specs.Newest.{mine_back, replay_back}
use Rattle.state_core.specs.declared.transitions.Transition.{Transition}
use Rattle.state_core.specs.Lists.{Among}
use Rattle.state_core.specs.States.{ShardState, floor}
use Rattle.state_core.specs.Steps.{Takes}
use Rattle.version_codec.specs.Reading.{version_in}
use Rattle.update_core.specs.Limits.{most}
use Rattle.state_core.proofs.Floors.{floor_top}
use Rattle.state_core.proofs.ListLemmas.{each_at, each_intro}
use Rattle.history_core.specs.Discipline.{DeletedBy, LawfulBack, TakenUpTo, TakesIn}
use Rattle.history_core.specs.Histories.{version_at}
use Rattle.history_core.specs.Laws.{LastIs}
use Rattle.history_core.specs.Placing.{AtLastScan, Placed, places, reply_at}
use Rattle.history_core.specs.Stands.{StandsFor, TakenIn, accepted, end_of}
use Rattle.history_core.specs.Upkeep.{FloorIs, IsClearedSince, LegalCollection, deletes_of}
use Rattle.history_core.specs.declared.collect_answers.CollectAnswer.TheVariants as answers
use Rattle.history_core.proofs.Bases.{base_of, none_there}
use Rattle.history_core.proofs.Chains.{version_is}
use Rattle.history_core.proofs.Deleting.{deleted_absent}
use Rattle.history_core.proofs.Entries.{mine_newest}
use Rattle.history_core.proofs.Logs.{scan_there, version_bounds}
use Rattle.history_core.proofs.StandsAfter.{stands_after}
use Rattle.load_core.specs.declared.damages.Damage.{Damage}
use Rattle.load_core.specs.Loading.{Loading}
use Rattle.load_core.specs.Trying.{more}
use Rattle.load_core.proofs.Counting.{ends_rise}
use Rattle.load_core.proofs.Scanned.{newest_last, scan_answer, shown_from, undamaged}
use Rattle.maint_client.specs.declared.sweeps.Sweep.{Sweep}
use Rattle.maint_client.specs.Sweeping.{begins_below, goes_on, sweep_of}
use Rattle.maint_client.specs.Collecting.{FollowsSweep, IsScanFor}
use Rattle.maint_client.proofs.TakenKeys.{Asks, Has, sweep_asks, sweep_damaged}
use Rattle.maint_client.proofs.Swept.{at_scan, first_rises, place}

-- ---- what a Scan from 0 shows

head_first : (first : ℕ) (bs : List (List ℕ)) (v : Version) (vs : List Version) → v ∷ vs ≡ filter (λ w. nat_le 0 w.number) (numbered first bs) → v.number ≡ first
head_first first [] v vs e = absurd (cc)
head_first first (b ∷ bs) v vs e =
    let low : nat_le 0 first ≡ true = grind (arith, nat_tests) in
    let is : v ∷ vs ≡ record { number = first; bytes = b } ∷ filter (λ w. nat_le 0 w.number) (numbered (first + 1) bs) = rw low at e in
    let same : v ≡ record { number = first; bytes = b } = cc in
    ap (λ (w : Version). w.number) same

taken_among : (shard : ShardId) (top : ℕ) (vs : List Version) (k : PartKey) → TakenUpTo shard top vs k →
    (n : ℕ) × (b : List ℕ) × Among (λ v. (v.number ≡ n) × (v.bytes ≡ b)) vs × TakesIn (version_in shard n b) k
taken_among shard top [] k h = absurd h
taken_among shard top (v ∷ vs) k (inl h) = (v.number, v.bytes, inl (refl, refl), h.1)
taken_among shard top (v ∷ vs) k (inr h) = let (n, b, among, t) = taken_among shard top vs k h in (n, b, inr among, t)

takes_of : (o : Option (ShardState × Transition)) (k : PartKey) → TakesIn o k → (s : ShardState) × (x : Transition) × (o ≡ Some (s, x)) × Takes x k
takes_of (Some (s, x)) k h = (s, x, refl, h)
takes_of None k h = absurd h

pub not_below : (n at : ℕ) → nat_lt n at ≡ false → at ≤ n
not_below n at h = grind (arith, nat_tests)

module _ (client : ℕ) (shard : ShardId) (start : Stored) (list : List Update) (st : StandsFor start shard list) where
  module _ (e : Entry) (es : List Entry) (lawful : LawfulBack start es) (own : e.client ≡ client) (vs : List Version) (call_is : e.call ≡ calls.Scan shard 0)
      (reply_is : reply (replay_back start es) e ≡ replies.Versions vs) where
    nothing : Loading
    nothing = record { shard = shard; cached = None }

    shown_are : vs ≡ shown_from 0 ((replay_back start es).logs shard)
    shown_are = (scan_answer (replay_back start es) e shard 0 vs call_is (sym reply_is)).1

    -- a version that can't be read is none of a collection's
    pub never_damaged : (damage : Damage) → sweep_of shard vs ≡ Err damage → ⊥
    never_damaged damage bad = undamaged start list es lawful (record { shard = shard; cached = None }) st e vs call_is (sym reply_is) damage (sweep_damaged shard vs damage bad)

    taken_there : (top : ℕ) (k : PartKey) → TakenUpTo shard top vs k → (n : ℕ) × TakenIn shard ((replay_back start es).logs shard) n k
    taken_there top k h =
        let (n, b, among, t) = taken_among shard top vs k h in
        let (s, x, reads, takes) = takes_of (version_in shard n b) k t in
        let there : version_at ((replay_back start es).logs shard) n ≡ Some b = scan_there 0 ((replay_back start es).logs shard) n b
        (subst (λ (us : List Version). Among (λ v. (v.number ≡ n) × (v.bytes ≡ b)) us) shown_are among) in
        (n, (s, x, version_is shard ((replay_back start es).logs shard) n b s x there reads, takes))

    -- the keys that it shows taken are the shard's
    taken_of_shard : (top : ℕ) (k : PartKey) → TakenUpTo shard top vs k → k.shard ≡ shard
    taken_of_shard top k h = by (taken_there top k h) (stands_after start shard list (base_of start shard list st) es lawful)
      where
        by : (n : ℕ) × TakenIn shard ((replay_back start es).logs shard) n k → StandsFor (replay_back start es) shard (accepted shard list start es) → k.shard ≡ shard
        by (n, t) (inl none) = absurd (none_there shard ((replay_back start es).logs shard) n t.0 none.no_version (t.1, t.2))
        by (n, t) (inr c) = (c.keys.taken n k t).of_shard

    low_there : (w : Sweep) → Asks shard vs w → w.cut ≡ false → w.floor ≤ ((replay_back start es).logs shard).first
    low_there w a none = by vs refl a.floor_is (sym a.cut ∙ none)
      where
        by : (us : List Version) → vs ≡ us → FloorIs shard us w.floor → begins_below w.floor us ≡ false → w.floor ≤ ((replay_back start es).logs shard).first
        by [] is at b = let zero_is : w.floor ≡ 0 = at in omega arith
        by (v ∷ us) is at b =
            let first : v.number ≡ ((replay_back start es).logs shard).first = head_first ((replay_back start es).logs shard).first ((replay_back start es).logs shard).versions v us (sym is ∙ shown_are) in
            let high : w.floor ≤ v.number = not_below v.number w.floor b in
            omega arith

    below_there : (w : Sweep) → Asks shard vs w → w.cut ≡ true → w.floor < end_of ((replay_back start es).logs shard)
    below_there w a some = elim a.newest [
      | inl none ↦ absurd (
          let bad_cut : w.cut ≡ begins_below w.floor [] = subst (λ (us : List Version). w.cut ≡ begins_below w.floor us) none.0 a.cut in
          let bad : true ≡ false = sym some ∙ bad_cut in cc)
      | inr here ↦
          let last : LastIs (replay_back start es) shard here.0.number here.0 =
          newest_last start list es lawful (record { shard = shard; cached = None }) st e vs call_is (sym reply_is) client tt here.0 here.1 in
          let end : here.0.number + 1 ≡ end_of ((replay_back start es).logs shard) = last.0 in
          let top : floor here.0 ≤ here.0.number = floor_top here.0.number here.0.members in
          let at = here.2 in
          omega arith
    ]

    -- what the Scan leaves to be done
    pub scan_follows : (made now : ℕ) (w : Sweep) → now ≡ more made → sweep_of shard vs ≡ Ok w → FollowsSweep client shard now w start (e ∷ es)
    scan_follows made now w counts asked = record {
      scan = λ lt. subst (AtLastScan shard (λ p. IsScanFor shard w p.entry.call (reply_at start p))) (sym (place client shard start made now e es counts own lt))
          (inl (((0, call_is), (scan_answer (replay_back start es) e shard 0 vs call_is (sym reply_is)).0), here));
      shown = subst (λ (c : ℕ). Among (λ o. IsScanFor shard w o.entry.call o.reply) (mine_back start (e ∷ es) c)) own
          (mine_newest (λ (o : Answered). IsScanFor shard w o.entry.call o.reply) start e es here);
      deleted = subst (λ (n : ℕ). AllByRecursion (DeletedBy (mine_back start (e ∷ es) client)) (take n w.keys)) (sym asks.none_yet) tt;
      of_shard = each_intro (λ (k : PartKey). k.shard ≡ shard) w.keys (λ k h. taken_of_shard w.floor k (asks.only k h));
      low = λ none. let was = low_there w asks none in let up = first_rises shard (replay_back start es) e.call e.outcome in omega arith;
      below = λ some. let was = below_there w asks some in let up = ends_rise shard (replay_back start es) e.call e.outcome in omega arith;
    }
      where
        asks : Asks shard vs w
        asks = sweep_asks shard vs w asked

        here : IsScanFor shard w e.call (reply (replay_back start es) e)
        here = (call_is, (vs, reply_is, record { first = w; asked = asked; floor = refl; keys = refl; cuts = λ some. some }))

  -- ---- the answer

  nothing_left : (a b : Bool) → (a || b) ≡ false → (a ≡ false) × (b ≡ false)
  nothing_left true b e = absurd (let bad : true ≡ false = e in cc)
  nothing_left false b e = (refl, e)

  -- where nothing is left the collection's answer is legal
  pub ended_legal : (es : List Entry) → LawfulBack start es → (now : ℕ) (w : Sweep) → FollowsSweep client shard now w start es → now < most → w.place ≤ length w.keys →
      goes_on w ≡ false → deletes_of (places client now es) ≡ w.place →
      LegalCollection start (replay_back start es) shard (places client now es) (answers.Collected w.floor w.place)
  ended_legal es lawful now w h lt within ended deletes = (
    at_scan shard (λ p. IsScanFor shard w p.entry.call (reply_at start p)) (IsClearedSince start (replay_back start es) shard w.floor) (places client now es)
        (λ p k. cleared p k) (h.scan lt),
    sym deletes,
  )
    where
      both : (nat_lt w.place (length w.keys) ≡ false) × (w.cut ≡ false)
      both = nothing_left (nat_lt w.place (length w.keys)) w.cut ended

      all : AllByRecursion (DeletedBy (mine_back start es client)) w.keys
      all = subst (λ (ks : List PartKey). AllByRecursion (DeletedBy (mine_back start es client)) ks)
          (take_all w.place w.keys (not_below w.place (length w.keys) both.0)) h.deleted

      gone : (k : PartKey) → Has w.keys k → (replay_back start es).blobs k ≡ None
      gone k has = deleted_absent start shard list (base_of start shard list st) es lawful client k (each_at (λ (q : PartKey). q.shard ≡ shard) w.keys k h.of_shard has)
          (each_at (DeletedBy (mine_back start es client)) w.keys k all has)

      versions : (n : ℕ) → n < w.floor → version_at ((replay_back start es).logs shard) n ≡ None
      versions n low = by (version_at ((replay_back start es).logs shard) n) refl
        where
          by : (o : Option (List ℕ)) → version_at ((replay_back start es).logs shard) n ≡ o → o ≡ None
          by None is = refl
          by (Some b) is = absurd (
              let bounds = version_bounds ((replay_back start es).logs shard) n b is in
              let first : ((replay_back start es).logs shard).first ≤ n = bounds.0 in
              let up = h.low both.1 in omega arith)

      cleared : (p : Placed) → IsScanFor shard w p.entry.call (reply_at start p) → IsClearedSince start (replay_back start es) shard w.floor p
      cleared p (is, (vs, answer, asks)) =
          let a = sweep_asks shard vs asks.first asks.asked in (
            is,
            (
              vs,
              answer,
              subst (FloorIs shard vs) asks.floor a.floor_is,
              record {
                keys = λ k t. gone k (subst (λ (ks : List PartKey). Has ks k) asks.keys (a.has k (subst (λ (n : ℕ). TakenUpTo shard n vs k) (sym asks.floor) t)));
                versions = versions;
              },
            ),
          )
