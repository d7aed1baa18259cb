-- Over a lawful history each part that a compactor gets fits its batch, and it counts the rows of the left one. Entries go newest first.
use Rattle.std.proofs.Common.{◌≡◌, ℕ, suc, ◌+◌, ◌-◌, ◌<◌, ◌≤◌, Bool, true, false, ◌&&◌, Option, Some, None, Result, Ok, List, [], ◌∷◌, ◌++◌}
use Rattle.std.proofs.Common.{length, take, drop, inl, inr, refl, sym, ap, subst, ◌∙◌, arith}
use Rattle.std.specs.Prelude.{IfSome, IsSomeAnd, nat_le, nat_lt}
use Rattle.std.specs.List.{AllByRecursion}
use Rattle.std.proofs.lemmas.Bool.Decides.{nat_tests}
use Rattle.std.proofs.lemmas.List.{length-append}
use Rattle.update_core.specs.declared.updates.Update.{Update}
use Rattle.part_codec.specs.declared.part_faults.PartFault.{PartFault}
use Rattle.part_codec.specs.Reading.{all_of}
use Rattle.store_core.specs.declared.shards.ShardId.{ShardId}
use Rattle.store_core.specs.declared.part_keys.PartKey.{PartKey}
use Rattle.store_core.specs.declared.calls.Call.{Call}
use Rattle.store_core.specs.declared.calls.Call.TheVariants as calls
use Rattle.store_core.specs.declared.replies.Reply.{Reply}
use Rattle.store_core.specs.declared.replies.Reply.TheVariants as replies
use Rattle.store_core.specs.declared.entries.Entry.{Entry}
use Rattle.store_core.specs.Histories.{reply}
use Rattle.store_core.specs.Stores.{Stored}
use Rattle.store_core.specs.Ports.{Answered, OfOthers, answered}
use Rattle.store_core.specs.Newest.{mine_back, replay_back}
use Rattle.spine_core.specs.declared.batches.Batch.{Batch}
use Rattle.state_core.specs.declared.kinds.Kind.TheVariants.{Keeper}
use Rattle.state_core.specs.States.{IsState, Names, ShardState}
use Rattle.state_core.proofs.ListLemmas.{bool_cases, each_at}
use Rattle.history_core.specs.Discipline.{GotAs, Hold, IsGot, LawfulBack}
use Rattle.history_core.specs.Readings.{rows_in}
use Rattle.history_core.specs.Stands.{BatchHolds, StandsFor, rows_of_blob, rows_under}
use Rattle.history_core.proofs.Gaining.{mine_gained}
use Rattle.load_core.specs.declared.gettings.Getting.{Getting}
use Rattle.load_core.specs.Getting as getting
use Rattle.load_core.proofs.Following.{hold_on}
use Rattle.read_machine.specs.declared.courses.Course.{Course}
use Rattle.read_machine.specs.declared.looks.Look.TheVariants as looks
use Rattle.read_machine.specs.declared.stages.Stage.TheVariants as stages
use Rattle.read_machine.specs.Following as reading
use Rattle.read_machine.specs.Following.{FollowsStage, SinceGot}
use Rattle.read_machine.specs.Readings as readings
use Rattle.read_machine.proofs.Answers.{among_since}
use Rattle.read_machine.proofs.FollowsOn.{get_is}
use Rattle.read_machine.proofs.PartWeights.{front_more}
use Rattle.read_machine.proofs.Parts.{all_named, names_key, some_is, some_parts}
use Rattle.read_machine.proofs.Replied.{sound_by}
use Rattle.read_machine.proofs.Since.{since_rules}
use Rattle.read_machine.proofs.Sound.{at_stage}
use Rattle.read_machine.proofs.Stretch.{split_more}
use Rattle.read_machine.proofs.Undamaged.{part_reads}
use Rattle.merge_client.specs.declared.compactors.Compactor.{Compactor}
use Rattle.merge_client.specs.declared.dues.Due.{Due}
use Rattle.merge_client.specs.declared.pair_bounds.PairBound.{PairBound}
use Rattle.merge_client.specs.Finding.{finding, look_by, places_in}
use Rattle.merge_client.specs.Fitting.{bound_at, bound_by, bound_in, is_unfit_at, misfit_of, noted_by, noted_rows}
use Rattle.merge_client.specs.Following.{Counts, CountsBy, Follows}
use Rattle.merge_client.specs.Merging.{IsReady, call_of, shard_of}
use Rattle.merge_client.proofs.Asking.{is_question}
use Rattle.merge_client.proofs.Below.{Holds, holds_of, left_fits, right_fits, take_past, under_append}
use Rattle.merge_client.proofs.Counts.{counts_gained}
use Rattle.merge_client.proofs.DuePairs.{of_two}
use Rattle.merge_client.proofs.GotRows.{any_got, any_rows, batches, part_is, then, updates}
use Rattle.merge_client.proofs.PairThere.{PairThere, pair_there, said}
use Rattle.merge_client.proofs.Reading.{lent, member_of_it, read_is}

-- ---- where the part at a place belongs

less_false : (a b : ℕ) → b ≤ a → nat_lt a b ≡ false
less_false a b h = grind (arith, nat_tests)

less_back : (a b : ℕ) → nat_lt a b ≡ true → a < b
less_back a b h = grind (arith, nat_tests)

not_less_back : (a b : ℕ) → nat_lt a b ≡ false → b ≤ a
not_less_back a b h = grind (arith, nat_tests)

least_back : (a b : ℕ) → nat_le a b ≡ true → a ≤ b
least_back a b h = grind (arith, nat_tests)

not_least_back : (a b : ℕ) → nat_le a b ≡ false → b < a
not_least_back a b h = grind (arith, nat_tests)

-- no part that isn't got doesn't fit
pub same_place : (b : PairBound) (left place count : ℕ) (g : Getting) → g.place ≡ place → misfit_of b left place count g ≡ None
same_place b left place count g is = rw (less_false place g.place (omega (arith, is))) refl

-- a part that fits
pub fit_none : (b : PairBound) (left place count : ℕ) (g : Getting) → is_unfit_at b left place count g ≡ false →
    misfit_of b left place count g ≡ None
fit_none b left place count g is = elim (bool_cases (nat_lt place g.place)) [ inl e ↦ rw (e, is) refl | inr e ↦ rw e refl ]

module _ (client : ℕ) (c : Compactor) (start : Stored) (list : List Update) (e : Entry) (others es : List Entry)
    (ready : IsReady c) (own : e.client ≡ client) (call_is : call_of c ≡ Some e.call) (of : OfOthers client others)
    (st : StandsFor start (shard_of c) list) (lawful : LawfulBack start (e ∷ (others ++ es))) (f : Follows client c start es)
    (counts : Counts (mine_back start es client) c) (q : Due) (some : c.reading.asked ≡ Some q)
    (stage : c.reading.course.stage ≡ stages.Get) where
  abbrev here : Reply
  here = reply (replay_back start (others ++ es)) e

  abbrev now : List Entry
  now = e ∷ (others ++ es)

  abbrev k : Course
  k = c.reading.course

  abbrev old : Getting
  old = c.reading.course.getting

  abbrev Was : List Answered
  Was = mine_back start es client

  abbrev pub Mine : List Answered
  Mine = mine_back start now client

  mine : Mine ≡ answered e here ∷ Was
  mine = mine_gained start client e others es own of

  stands : StandsFor start k.loader.shard list
  stands = subst (λ (d : ShardId). StandsFor start d list)
      (sym (lent client c start list e others es ready own call_is of st lawful f q some).shard) st

  held : readings.Follows finding client c.reading start es
  held = (member_of_it client c start list e others es ready own call_is of st lawful f q some).follows.reading

  asked : reading.FollowsAsked Keeper client k start es
  asked = (let h = held.asked in subst (λ (o : Option Due). IfSome o (λ y. reading.FollowsAsked Keeper client k start es)) some h)

  rule : readings.SoundBy finding k q
  rule = sound_by finding c.reading q some ready.sound.reading

  -- the state, what was got since its Scan, and the pair
  pub record There : Type 0 where
    pub state : ShardState
    pub cached : k.loader.cached ≡ Some state
    pub since : SinceGot Keeper client k start es state
    pub gets : readings.IsGetting finding k q state
    pub pair : PairThere state old.keys
    pub rules : IsState state

  pub there : There
  there =
      let (s, cached, w) = some_is (SinceGot Keeper client k start es) k.loader.cached
      (subst (FollowsStage Keeper client k start es) stage asked.reading) in
      let at = at_stage finding k q rule stages.Get stage in
      let g = subst (λ (o : Option ShardState). IsSomeAnd o (readings.IsGetting finding k q)) cached at in
      record {
        state = s;
        cached = cached;
        since = w;
        gets = g;
        pair = pair_there s old.keys g.keys;
        rules = since_rules Keeper client k start es s w.since;
      }

  abbrev s : ShardState
  s = there.state

  abbrev w : SinceGot Keeper client k start es s
  w = there.since

  abbrev l : Batch
  l = there.pair.left

  abbrev r : Batch
  r = there.pair.right

  abbrev pub bound_there : PairBound
  bound_there = said l r

  pub bound_is : bound_at k k.stage ≡ Some bound_there
  bound_is = ap (bound_at k) stage ∙ ap bound_in there.cached ∙ there.pair.bound

  abbrev Later : List Entry
  Later = e ∷ (others ++ w.since.later)

  split : now ≡ Later ++ (w.since.scan ∷ w.since.before)
  split = split_more e others w.since.later es (w.since.scan ∷ w.since.before) w.since.split

  split_lawful : LawfulBack start (Later ++ (w.since.scan ∷ w.since.before))
  split_lawful = subst (LawfulBack start) split lawful

  -- the store then
  abbrev Then : Stored
  Then = then client start k.loader.shard list stands Later w.since.scan w.since.before split_lawful s w.since.answered w.since.last

  named : AllByRecursion (Names s) old.keys
  named = all_named s old.keys (some_parts finding is_question k q s there.rules there.gets)

  -- the rows that are got are those that were there
  rows_got : (n : ℕ) (rows : List Update) → Hold (GotAs Mine) (take n old.keys) rows → rows_under Then (take n old.keys) ≡ rows
  rows_got n rows h = any_rows client start k.loader.shard list stands Later w.since.scan w.since.before split_lawful s w.since.answered
      w.since.last old.keys n rows named
      (subst (λ (x : List Entry). Hold (GotAs (mine_back start x client)) (take n old.keys) rows) split h)

  -- those held before are got
  held_mine : Hold (GotAs Mine) (take old.place old.keys) old.rows
  held_mine = subst (λ (os : List Answered). Hold (GotAs os) (take old.place old.keys) old.rows) (sym mine)
      (hold_on (GotAs (mine_back (replay_back start (w.since.scan ∷ w.since.before)) w.since.later client)) (GotAs (answered e here ∷ Was))
      (λ key b h. inr (subst (λ (x : List Entry). GotAs (mine_back start x client) key b) (sym w.since.split)
      (among_since (λ o. IsGot key b o.entry.call o.reply) start client w.since.later (w.since.scan ∷ w.since.before) h)))
      (take old.place old.keys) old.rows w.got)

  old_rows : rows_under Then (take old.place old.keys) ≡ old.rows
  old_rows = rows_got old.place old.rows held_mine

  holds : (b : Batch) → BatchHolds Then (updates client start k.loader.shard list stands Later w.since.scan w.since.before split_lawful s
      w.since.answered w.since.last) b → Holds Then b
  holds b h = holds_of Then (updates client start k.loader.shard list stands Later w.since.scan w.since.before split_lawful s
      w.since.answered w.since.last) b h

  both_hold : Holds Then l × Holds Then r
  both_hold =
      let all = batches client start k.loader.shard list stands Later w.since.scan w.since.before split_lawful s w.since.answered
      w.since.last in
      let (a, b) = of_two (BatchHolds Then (updates client start k.loader.shard list stands Later w.since.scan w.since.before split_lawful
      s w.since.answered w.since.last)) there.pair.before there.pair.behind l r
      (subst (λ (bs : List Batch). AllByRecursion (BatchHolds Then (updates client start k.loader.shard list stands Later w.since.scan
      w.since.before split_lawful s w.since.answered w.since.last)) bs) there.pair.batches all) in
      (holds l a, holds r b)

  -- ---- the rows of the left batch

  abbrev pub noted_left : ℕ
  noted_left = noted_rows bound_there old c.left_rows

  left_parts : take (length l.parts) old.keys ≡ l.parts
  left_parts = ap (take (length l.parts)) there.pair.keys_are ∙ take_past l.parts r.parts (length l.parts) 0 (omega arith)
      ∙ no_more
    where
      no_more : l.parts ++ take 0 r.parts ≡ l.parts
      no_more = by l.parts r.parts
        where
          by : (xs ys : List PartKey) → xs ++ take 0 ys ≡ xs
          by [] [] = refl
          by [] (y ∷ ys) = refl
          by (x ∷ xs) ys = ap (λ (zs : List PartKey). x ∷ zs) (by xs ys)

  -- once a part of the right one was got they are counted
  was_counted : length l.parts < old.place → (rows : List Update) × Hold (GotAs Mine) (take (length l.parts) old.keys) rows ×
      (length rows ≡ c.left_rows)
  was_counted past = counts_gained client start e others es own of c.left_rows old (Some bound_there)
      (subst (CountsBy Was c.left_rows old) bound_is counts) past

  -- from the first part of the right one on they are
  pub counted_now : length l.parts ≤ old.place → (rows : List Update) × Hold (GotAs Mine) (take (length l.parts) old.keys) rows ×
      (length rows ≡ noted_left)
  counted_now le = elim (bool_cases (nat_le old.place (length l.parts))) [
    | inl first ↦
        let same : old.place ≡ length l.parts = (let a = least_back old.place (length l.parts) first in omega (arith, a, le)) in
        (old.rows, subst (λ (n : ℕ). Hold (GotAs Mine) (take n old.keys) old.rows) same held_mine, rw first refl)
    | inr later ↦
        let (rows, h, is) = was_counted (not_least_back old.place (length l.parts) later) in
        (rows, h, rw later is)
  ]

  left_is : length l.parts ≤ old.place → noted_left ≡ length (rows_under Then l.parts)
  left_is le =
      let (rows, h, is) = counted_now le in
      sym is ∙ ap (λ (us : List Update). length us) (sym (rows_got (length l.parts) rows h))
      ∙ ap (λ (ks : List PartKey). length (rows_under Then ks)) left_parts

  -- ---- one part more

  module _ (g : Getting) (b : List ℕ) (part : List Update) (r_is : here ≡ replies.Bytes (Some b)) (reads : all_of b ≡ Ok part)
      (g_is : g ≡ getting.with_part old part) where
    new_rows : g.rows ≡ rows_under Then (take (suc old.place) (l.parts ++ r.parts))
    new_rows =
        let (key, at, call) = get_is finding is_question start list client k q e others es rule
        (read_is client c start list e others es ready own call_is of st lawful f q some) own of stands lawful held.shown asked stage in
        let got_now : GotAs Mine key b = subst (λ (os : List Answered). GotAs os key b) (sym mine)
        (inl (subst (λ (x : Call). IsGot key b x here) (sym call) (subst (λ (x : Reply). IsGot key b (calls.Get key) x) (sym r_is)
        (refl, refl)))) in
        let name : Names s key = names_key finding is_question k q s key there.rules there.gets at in
        let blob : rows_of_blob (Then.blobs key) ≡ part = part_is client start k.loader.shard list stands Later w.since.scan
        w.since.before split_lawful s w.since.answered w.since.last key b part name
        (subst (λ (x : List Entry). GotAs (mine_back start x client) key b) split got_now)
        (λ rows in_b. ok_same rows part (sym (part_reads b rows in_b).reads ∙ reads)) in
        ap (λ (x : Getting). x.rows) g_is ∙ ap (λ (us : List Update). us ++ part) (sym old_rows)
        ∙ ap (λ (us : List Update). rows_under Then (take old.place old.keys) ++ us) (sym blob)
        ∙ sym (front_more Then old.place old.keys key at) ∙ ap (λ (ks : List PartKey). rows_under Then (take (suc old.place) ks))
        there.pair.keys_are
      where
        ok_same : (x y : List Update) → ◌≡◌ {A = Result (List Update) PartFault} (Ok x) (Ok y) → x ≡ y
        ok_same x y h = cc

    part_fits : is_unfit_at bound_there noted_left old.place (length old.rows) g ≡ false
    part_fits = elim (bool_cases (nat_lt old.place (length l.parts))) [
      | inl first ↦ rw first (left_fits Then l r.parts (suc old.place) (length old.rows) g.rows both_hold.0
          (let lt = less_back old.place (length l.parts) first in omega (arith, lt)) new_rows)
      | inr later ↦
          let le = not_less_back old.place (length l.parts) later in
          let is = left_is le in
          rw later (right_fits Then r l.parts (suc old.place) (suc old.place - length l.parts) (length old.rows) noted_left g.rows
          both_hold.1 (omega (arith, le)) new_rows is (few le is))
    ]
      where
        few : length l.parts ≤ old.place → noted_left ≡ length (rows_under Then l.parts) → noted_left ≤ length old.rows
        few le is =
            let all = old_rows in
            let parts : take old.place old.keys ≡ l.parts ++ take (old.place - length l.parts) r.parts =
            ap (take old.place) there.pair.keys_are ∙ take_past l.parts r.parts old.place (old.place - length l.parts) (omega (arith, le)) in
            let more = ap (λ (us : List Update). length us) (sym (under_append Then l.parts (take (old.place - length l.parts) r.parts))
            ∙ ap (rows_under Then) (sym parts) ∙ all) in
            let sum = length-append (rows_under Then l.parts) (rows_under Then (take (old.place - length l.parts) r.parts)) in
            omega (arith, is, more, sum)

    pub part_counts : CountsBy Mine noted_left g (Some bound_there)
    part_counts past =
        let place_is : g.place ≡ old.place + 1 = ap (λ (x : Getting). x.place) g_is in
        let keys_are : g.keys ≡ old.keys = ap (λ (x : Getting). x.keys) g_is in
        let (rows, h, is) = counted_now (omega (arith, past, place_is)) in
        (rows, subst (λ (ks : List PartKey). Hold (GotAs Mine) (take (length l.parts) ks) rows) (sym keys_are) h, is)

    pub fits_now : misfit_of bound_there noted_left old.place (length old.rows) g ≡ None
    fits_now = fit_none bound_there noted_left old.place (length old.rows) g part_fits

  -- none more
  pub still_counts : CountsBy Mine noted_left old (Some bound_there)
  still_counts past = elim (bool_cases (nat_le old.place (length l.parts))) [
    | inl first ↦ absurd (let a = least_back old.place (length l.parts) first in omega (arith, a, past))
    | inr later ↦ let (rows, h, is) = was_counted past in (rows, h, rw later is)
  ]
