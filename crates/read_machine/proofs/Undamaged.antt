-- What a reader gets of the parts of the state that its Scan showed: the bytes that were there then, and they are parts that
-- aren't too heavy.
-- Entries go newest first.
use Rattle.std.proofs.Common.{◌≡◌, ℕ, zero, suc, ◌≤◌, ◌^◌, Bool, true, false, ◌&&◌, Some, None, Result, Ok, Err, List, [], ◌∷◌}
use Rattle.std.proofs.Common.{◌++◌, filter, inl, inr, refl, sym, ap, subst, ◌∙◌, arith, take}
use Rattle.std.specs.Prelude.{nat_lt}
use Rattle.std.specs.List.{AllByRecursion, slice_get}
use Rattle.std.specs.Result.{result_ok}
use Rattle.std.proofs.lemmas.Bool.{ltb-true}
use Rattle.std.proofs.lemmas.List.{append-nil}
use Rattle.update_core.specs.declared.updates.Update.{Update}
use Rattle.update_core.specs.Updates.{weight_of}
use Rattle.part_codec.specs.declared.part_faults.PartFault.{PartFault}
use Rattle.part_codec.specs.Reading.{all_of}
use Rattle.byte_core.proofs.ByteLists.{bytes_of_test}
use Rattle.byte_core.specs.ByteLists.{IsBytes}
use Rattle.store_core.specs.declared.shards.ShardId.{ShardId}
use Rattle.store_core.specs.declared.part_keys.PartKey.{PartKey}
use Rattle.store_core.specs.declared.calls.Call.{Call}
use Rattle.store_core.specs.declared.calls.Call.TheVariants as calls
use Rattle.store_core.specs.declared.entries.Entry.{Entry}
use Rattle.store_core.specs.Stores.{Stored}
use Rattle.store_core.specs.Ports.{Answered}
use Rattle.store_core.specs.Newest.{mine_back, replay_back}
use Rattle.spine_core.specs.declared.batches.Batch.{Batch}
use Rattle.spine_core.specs.Contents.{held}
use Rattle.state_core.specs.Lists.{Among}
use Rattle.state_core.specs.States.{IsState, Names, ShardState, keys_of}
use Rattle.state_core.proofs.ListLemmas.{bool_cases, each_at}
use Rattle.history_core.specs.Discipline.{GotAs, Hold, IsGot, LawfulBack}
use Rattle.history_core.specs.Laws.{LastIs}
use Rattle.history_core.specs.Placing.{IsAnsweredScan, placed}
use Rattle.history_core.specs.Readings.{rows_in}
use Rattle.byte_core.specs.ByteLists.{are_bytes}
use Rattle.history_core.specs.Stands.{BatchHolds, IsPresent, PartRows, StandsFor, accepted, appended, rows_of_blob, rows_or_none}
use Rattle.history_core.specs.Stands.{rows_under}
use Rattle.history_core.proofs.Bases.{Base, base_of}
use Rattle.history_core.proofs.Blobs.{Begins, got_now}
use Rattle.history_core.proofs.Contents.{hold_rows, part_rows_under, rows_held}
use Rattle.history_core.proofs.Entries.{among_mine, lawful_older}
use Rattle.history_core.proofs.GotLaws.{Here, all_named, here_of}
use Rattle.history_core.proofs.Lasts.{scan_keeps}
use Rattle.history_core.proofs.LawfulLaws.{lawful_of_older}
use Rattle.history_core.proofs.PartContents.{all_filter}
use Rattle.history_core.proofs.StandsAfter.{stands_after}
use Rattle.history_core.proofs.StateFacts.{last_one, state_rules}
use Rattle.history_core.proofs.Stays.{bytes_stay}
use Rattle.read_machine.proofs.PartWeights.{front_light, front_more, spine_light}
use Rattle.read_machine.proofs.Stretch.{replay_behind}

-- ---- bytes that are a part

ok_from : (r : Result (List Update) PartFault) (rows : List Update) → result_ok r ≡ Some rows → r ≡ Ok rows
ok_from (Ok found) rows h = let same : found ≡ rows = cc in ap (λ (x : List Update). Ok x) same
ok_from (Err e) rows h = absurd (cc)

-- bytes that are a part are read as its rows
pub record IsRead (b : List ℕ) (rows : List Update) : Type 0 where
  pub bytes : IsBytes b
  pub reads : all_of b ≡ Ok rows

pub part_reads : (b : List ℕ) (rows : List Update) → rows_in b ≡ Some rows → IsRead b rows
unfolding rows_in
part_reads b rows h = elim (bool_cases (are_bytes b)) [
  | inl e ↦ let h2 : result_ok (all_of b) ≡ Some rows = rw e at h in record {
    bytes = bytes_of_test b e;
    reads = ok_from
        (all_of b) rows h2;
  }
  | inr e ↦ let h2 : None ≡ Some rows = rw e at h in absurd (cc)
]

-- ---- bytes that are got later

-- a later Get of a key that is there is answered with the bytes that are there, where it is answered with bytes
got_later : (start : Stored) (shard : ShardId) (start_member : ℕ) → Begins start shard start_member → (fs es : List Entry) →
    LawfulBack start (fs ++ es) → (c : ℕ) (k : PartKey) (b got : List ℕ) → k.shard ≡ shard →
    (replay_back start es).blobs k ≡ Some b → GotAs (mine_back (replay_back start es) fs c) k got →
    (replay_back start es).blobs k ≡ Some got
got_later start shard m begin [] es l c k b got here there h = absurd h
got_later start shard m begin (f ∷ fs) es l c k b got here there h =
    let older = lawful_older start f (fs ++ es) l in
    elim (among_mine (λ (o : Answered). IsGot k got o.entry.call o.reply) (replay_back start es) f fs c h) [
      | inl p ↦
          let (found, keeps) = got_now k got (replay_back (replay_back start es) fs) f.call f.outcome p.1 in
          let found2 : (replay_back start (fs ++ es)).blobs k ≡ Some got = ap (λ (s : Stored). s.blobs k)
          (replay_behind start fs es) ∙ found in
          let (o, holds) = bytes_stay start shard m begin fs es older k b here there in
          elim holds [
            | inl none ↦ absurd (let e : None ≡ Some got = sym none ∙ found2 in cc)
            | inr some ↦ there ∙ sym some ∙ found2
          ]
      | inr before ↦ got_later start shard m begin fs es older c k b got here there before
    ]

-- a Scan appends nothing
scan_adds : (start : Stored) (shard at : ShardId) (list : List Update) (from : ℕ) (e : Entry) (es : List Entry) →
    e.call ≡ calls.Scan at from →
    accepted shard list start (e ∷ es) ≡ accepted shard list start es
scan_adds start shard at list from e es call =
    ap (λ (c : Call). accepted shard list start es ++ appended (replay_back start es) shard e c) call
    ∙ append-nil (accepted shard list start es)

-- an element at an index is among the list
pub index_among : {A : Type 0} (xs : List A) (i : ℕ) (x : A) → slice_get xs i ≡ Some x → Among (λ y. y ≡ x) xs
index_among [] i x h = absurd (cc)
index_among (y ∷ xs) zero x h = inl (cc)
index_among (y ∷ xs) (suc i) x h = inr (index_among xs i x h)

-- ---- since a Scan that showed the state s

module _ (client : ℕ) (start : Stored) (shard : ShardId) (list : List Update) (st : StandsFor start shard list)
    (later : List Entry) (scan : Entry) (before : List Entry)
    (lawful : LawfulBack start (later ++ (scan ∷ before))) (s : ShardState) (answered : IsAnsweredScan shard (placed scan before))
    (last : LastIs (replay_back start before) shard s.number s) where
  -- the store then
  abbrev pub then : Stored
  then = replay_back start (scan ∷ before)

  pub then_is : then ≡ replay_back start before
  then_is = scan_keeps (replay_back start before) shard answered.0.0 scan.call scan.outcome answered.0.1

  lawful_then : LawfulBack start (scan ∷ before)
  lawful_then = lawful_of_older start later (scan ∷ before) lawful

  pub last_then : LastIs then shard s.number s
  last_then = subst (λ (q : Stored). LastIs q shard s.number s) (sym then_is) last

  -- the accepted updates
  abbrev pub updates : List Update
  updates = accepted shard list start (scan ∷ before)

  pub updates_are : updates ≡ accepted shard list start before
  updates_are = scan_adds start shard shard list answered.0.0 scan before answered.0.1

  base : Base start shard list
  base = base_of start shard list st

  here : Here then shard updates s.number s
  here = here_of then shard updates s.number s (stands_after start shard list base (scan ∷ before) lawful_then) last_then

  -- a key that the state names had the bytes of a part
  there : (k : PartKey) → Names s k → IsPresent then k
  there k named = here.collection.present s.number s k here.low last_then.1 named

  -- and those are what a Get of it is answered with, if with bytes
  pub got_is : (k : PartKey) (b : List ℕ) → Names s k → GotAs (mine_back then later client) k b → then.blobs k ≡ Some b
  got_is k b named got =
      let fits = here.collection.keys.named s.number s k last_then.1 named in
      let p = there k named in
      got_later start shard base.start_member base.begin later (scan ∷ before) lawful client k p.0 b fits.of_shard p.2 got

  -- which are a part
  pub got_reads : (k : PartKey) (b : List ℕ) → Names s k → GotAs (mine_back then later client) k b →
      (rows : List Update) × (rows_in b ≡ Some rows)
  got_reads k b named got =
      let (b2, rows, is, reads) = there k named in
      let is2 : then.blobs k ≡ Some b = got_is k b named got in
      let same : b2 ≡ b = cc in
      (rows, subst (λ (x : List ℕ). rows_in x ≡ Some rows) same reads)

  rules : IsState s
  rules = state_rules shard (then.logs shard) s.number s last_then.1

  light : weight_of updates ≤ 2 ^ 62
  light =
      let c = here.collection in
      let (numbers, same) = last_one shard (then.logs shard) c.number s.number c.last s c.newest c.state last_then.0 last_then.1
      in
      let a : weight_of updates ≤ c.last.weight = c.light in
      let b : c.last.weight ≡ s.weight = ap (λ (x : ShardState). x.weight) same in
      let d : s.weight ≤ 2 ^ 62 = rules.light in
      omega arith

  -- the rows of the first parts of some of its batches aren't too heavy
  pub front_weight : (p : Batch → Bool) (n : ℕ) → weight_of (rows_under then (take n (keys_of (filter p s.batches)))) ≤ 2 ^ 62
  front_weight p n =
      let all = all_filter (BatchHolds then updates) p s.batches (here.collection.content s.number s here.low last_then.1) in
      let is : rows_under then (keys_of (filter p s.batches)) ≡ held updates (filter p s.batches) =
      part_rows_under then (keys_of (filter p s.batches)) (held updates (filter p s.batches)) (rows_held then updates
      (filter p s.batches) all) in
      let a = front_light then n (keys_of (filter p s.batches)) in
      let b = ap weight_of is in
      let c = spine_light updates p s.batches rules.spine in
      let d = light in
      omega arith

  -- nor are those that were got with one part more
  pub got_light : (p : Batch → Bool) (n : ℕ) (k : PartKey) (b : List ℕ) (rows part : List Update) →
      Hold (GotAs (mine_back then later client)) (take n (keys_of (filter p s.batches))) rows →
      slice_get (keys_of (filter p s.batches)) n ≡ Some k → GotAs (mine_back then later client) k b → rows_in b ≡ Some part →
      weight_of (rows ++ part) ≤ 2 ^ 62
  got_light p n k b rows part held_so at got reads =
      let named : AllByRecursion (Names s) (keys_of (filter p s.batches)) = all_named p s in
      let old : PartRows then (take n (keys_of (filter p s.batches))) rows =
      hold_rows then (GotAs (mine_back then later client)) (take n (keys_of (filter p s.batches))) rows
      (λ q c among g. got_is q c (each_at (Names s) (keys_of (filter p s.batches)) q named (taken_among (keys_of
      (filter p s.batches)) n q among)) g) held_so in
      let name : Names s k = each_at (Names s) (keys_of (filter p s.batches)) k named (index_among (keys_of
      (filter p s.batches)) n k at) in
      let blob : rows_of_blob (then.blobs k) ≡ part = ap rows_of_blob (got_is k b name got) ∙ ap rows_or_none reads in
      let is : rows_under then (take (suc n) (keys_of (filter p s.batches))) ≡ rows ++ part =
      front_more then n (keys_of (filter p s.batches)) k at ∙ ap (λ (us : List Update). us ++ rows_of_blob (then.blobs k))
      (part_rows_under then (take n (keys_of (filter p s.batches))) rows old)
      ∙ ap (λ (us : List Update). rows ++ us) blob in
      subst (λ (us : List Update). weight_of us ≤ 2 ^ 62) is (front_weight p (suc n))
    where
      taken_among : {A : Type 0} (xs : List A) (i : ℕ) (x : A) → Among (λ y. y ≡ x) (take i xs) → Among (λ y. y ≡ x) xs
      taken_among [] zero x h = absurd h
      taken_among [] (suc i) x h = absurd h
      taken_among (y ∷ xs) zero x h = absurd h
      taken_among (y ∷ xs) (suc i) x (inl h) = inl h
      taken_among (y ∷ xs) (suc i) x (inr h) = inr (taken_among xs i x h)
