-- A compactor follows from its client's own entries after one more call of the reading of the pair that is due. Entries go newest first.
use Rattle.std.proofs.Common.{◌≡◌, ◌⊎◌, ℕ, suc, ◌+◌, ◌<◌, ◌≤◌, Option, Some, None, List, ◌∷◌, ◌++◌, length, inl, inr, min}
use Rattle.std.proofs.Common.{refl, sym, ap, subst, ◌∙◌, arith}
use Rattle.std.specs.Prelude.{IfSome, IsSome, IsSomeAnd}
use Rattle.std.specs.List.{AllByRecursion, slice_get}
use Rattle.std.proofs.lemmas.Bool.Decides.{leb_tells}
use Rattle.update_core.specs.declared.updates.Update.{Update}
use Rattle.spine_core.specs.declared.batches.Batch.{Batch}
use Rattle.store_core.specs.declared.shards.ShardId.{ShardId}
use Rattle.store_core.specs.declared.part_keys.PartKey.{PartKey}
use Rattle.store_core.specs.declared.calls.Call.{Call}
use Rattle.store_core.specs.declared.calls.Call.TheVariants as calls
use Rattle.store_core.specs.declared.replies.Reply.{Reply}
use Rattle.store_core.specs.declared.entries.Entry.{Entry}
use Rattle.store_core.specs.Histories.{reply}
use Rattle.store_core.specs.Stores.{Stored}
use Rattle.store_core.specs.Ports.{Answered, OfOthers, answered}
use Rattle.store_core.specs.Newest.{mine_back, replay_back}
use Rattle.state_core.specs.declared.kinds.Kind.TheVariants.{Keeper}
use Rattle.state_core.specs.Lists.{Among}
use Rattle.state_core.specs.Refusals.{member_of}
use Rattle.state_core.specs.States.{ShardState}
use Rattle.state_core.specs.Steps.{acts_for}
use Rattle.update_core.specs.Limits.{most}
use Rattle.history_core.specs.declared.asked.Asked.TheVariants as asks
use Rattle.history_core.specs.Discipline.{GotAs, Hold, IsCasUnder, IsGot, LawfulBack, OwnsSome, ShowsState}
use Rattle.history_core.specs.Laws.{LastIs}
use Rattle.history_core.specs.Placing.{Placed, places}
use Rattle.history_core.specs.Stands.{PartRows, StandsFor}
use Rattle.history_core.proofs.Gaining.{mine_gained, places_gained}
use Rattle.history_core.proofs.LawfulLaws.{lawful_of_older}
use Rattle.state_core.proofs.ListLemmas.{among_map}
use Rattle.load_core.specs.Following.{FollowsTrying}
use Rattle.load_core.specs.Trying as trying
use Rattle.load_core.proofs.Following.{hold_on, shows_on, with_newest}
use Rattle.load_core.proofs.Runs.{next_calls}
use Rattle.change_core.proofs.Members.{found_kind, found_stands, kind_back}
use Rattle.machine_core.specs.Machines.{Asking, Called}
use Rattle.read_machine.specs.declared.looks.Look.{Look}
use Rattle.read_machine.specs.declared.looks.Look.TheVariants as looks
use Rattle.read_machine.specs.declared.readings.Reading.{Reading}
use Rattle.read_machine.specs.Courses.{read_call}
use Rattle.read_machine.specs.Following.{IsRead, ReadCost}
use Rattle.read_machine.specs.Readings as readings
use Rattle.read_machine.proofs.Answers.{FromParts, among_before, among_since, held_then}
use Rattle.read_machine.proofs.Parts.{some_is}
use Rattle.read_machine.proofs.Replied.{of_reads, reads_of}
use Rattle.read_machine.proofs.Undamaged.{last_then}
use Rattle.token_machine.specs.Following.{Draws, UsesToken}
use Rattle.token_machine.proofs.Members.{joined_owns}
use Rattle.token_machine.proofs.Spendings.{own_under}
use Rattle.merge_client.specs.declared.compactors.Compactor.{Compactor}
use Rattle.merge_client.specs.declared.dues.Due.{Due}
use Rattle.merge_client.specs.declared.founds.Found.{Found}
use Rattle.merge_client.specs.declared.founds.Found.TheVariants as founds
use Rattle.merge_client.specs.declared.pairs.Pair.{Pair}
use Rattle.merge_client.specs.Finding.{finding, found_by, look_at, look_by, places_in}
use Rattle.merge_client.specs.Following.{Follows, FollowsAsked, FollowsMerge, FollowsRead, IsPairOf, OnlyReads}
use Rattle.merge_client.specs.Merging.{IsLent, IsReady, call_by, call_of, given_back}
use Rattle.merge_client.specs.Merging.{reading_on, shard_of}
use Rattle.merge_client.proofs.Asking.{is_question}
use Rattle.merge_client.proofs.Following.{asked_on, if_map}
use Rattle.merge_client.proofs.DuePairs.{Found_so, found_so, rows_of_two}

-- a Scan and a Get use no token
read_unused : (shard : ShardId) (member token : ℕ) (call : Call) → IsRead call → ¬ UsesToken shard member token call
read_unused shard member token (calls.Scan at from) r (inl h) = h
read_unused shard member token (calls.Scan at from) r (inr h) = h
read_unused shard member token (calls.Get key) r (inl h) = h
read_unused shard member token (calls.Get key) r (inr h) = h
read_unused shard member token other r h = absurd r

-- no state tells a pair without its parts
pub never_told : (p : Pair) (s : ShardState) → look_by s (places_in s) ≡ looks.Answer (founds.Due p) → ⊥
never_told p s e = go (places_in s) e
  where
    no : founds.Nothing s.number ≡ founds.Due p → ⊥
    no h = let bad : founds.Nothing s.number ≡ founds.Due p = h in cc

    both : (l r : Option Batch) → look_at s l r ≡ looks.Answer (founds.Due p) → ⊥
    both (Some l) (Some r) h = let bad : looks.Parts (l.parts ++ r.parts) ≡ looks.Answer (founds.Due p) = h in cc
    both (Some l) None h = no (let bad : looks.Answer (founds.Nothing s.number) ≡ looks.Answer (founds.Due p) = h in cc)
    both None r h = no (let bad : looks.Answer (founds.Nothing s.number) ≡ looks.Answer (founds.Due p) = h in cc)

    go : (o : Option (ℕ × ℕ)) → look_by s o ≡ looks.Answer (founds.Due p) → ⊥
    go None h = no (let bad : looks.Answer (founds.Nothing s.number) ≡ looks.Answer (founds.Due p) = h in cc)
    go (Some i) h = both (slice_get s.batches i.0) (slice_get s.batches i.1) h

pub parts_same : (a b : List PartKey) → ◌≡◌ {A = Look Found} (looks.Parts a) (looks.Parts b) → a ≡ b
parts_same a b h = cc

module _ (client : ℕ) (c : Compactor) (start : Stored) (list : List Update) (e : Entry) (others es : List Entry)
    (ready : IsReady c) (own : e.client ≡ client) (call_is : call_of c ≡ Some e.call) (of : OfOthers client others)
    (st : StandsFor start (shard_of c) list) (lawful : LawfulBack start (e ∷ (others ++ es))) (f : Follows client c start es)
    (q : Due) (some : c.reading.asked ≡ Some q) where
  abbrev here : Reply
  here = reply (replay_back start (others ++ es)) e

  abbrev was : List Answered
  was = mine_back start es client

  abbrev now : List Entry
  now = e ∷ (others ++ es)

  -- the calls of the reading kept to their bound
  abbrev pub Paid : Type 0
  Paid = c.reading.course.calls < most → ReadCost client c.reading.course c.reading.course.stage es

  abbrev Mine : List Answered
  Mine = mine_back start now client

  mine : Mine ≡ answered e here ∷ was
  mine = mine_gained start client e others es own of

  of_mine : (P : List Answered → Type 0) → P (answered e here ∷ was) → P Mine
  of_mine P p = subst P (sym mine) p

  pub lent : IsLent c
  lent = (let h = ready.sound.lent in subst (λ (o : Option Due). IfSome o (λ x. IsLent c)) some h)

  -- its member, and what the merge follows by
  pub record Member_of : Type 0 where
    pub member : ℕ
    pub is : c.member ≡ Some member
    pub some_token : 0 < c.token
    pub follows : FollowsRead client c start es member

  pub member_of_it : Member_of
  member_of_it =
      let h : FollowsAsked client c start es (Some asks.Merge) = subst (FollowsAsked client c start es) lent.asked f.asked in
      let (m, is, both) = some_is (λ m. (0 < c.token) × FollowsMerge client c start es m c.reading.asked c.pair) c.member h in
      record {
        member = m;
        is = is;
        some_token = both.0;
        follows = subst (λ (o : Option Due). FollowsMerge client c start es m o c.pair) some both.1;
      }

  abbrev m : ℕ
  m = member_of_it.member

  g : FollowsRead client c start es m
  g = member_of_it.follows

  pub read_is : read_call c.reading.course c.reading.course.stage ≡ Some e.call
  read_is = subst (λ (o : Option Due). call_by c o ≡ Some e.call) some call_is

  pub read_asking : Asking (readings.words finding) client c.reading e.call start es
  read_asking = record {
    is_open = subst (λ (o : Option Due). IsSome o) (sym some) refl;
    ready = ready.sound.reading;
    call_is = read_is;
    follows = g.reading;
  }

  pub read_called : Called client c.reading.course.loader.shard e.call list start e others es
  read_called = record {
    own = own;
    call_is = refl;
    of_others = of;
    stands = subst (λ (d : ShardId). StandsFor start d list) (sym lent.shard) st;
    lawful = lawful;
  }

  pub is_read : IsRead e.call
  is_read = of_reads IsRead c.reading.course.loader.shard e.call (λ from. tt) (λ key. tt) (reads_of finding c.reading.course e.call read_is)

  draws_still : (n : ℕ) → Draws Keeper (shard_of c) n c.token was → Draws Keeper (shard_of c) n c.token Mine
  draws_still n h = of_mine (Draws Keeper (shard_of c) n c.token) (record {
    joined = inr h.joined;
    drawn = λ later lt k. elim k [
      | inl x ↦ read_unused (shard_of c) n later e.call is_read x
      | inr x ↦ h.drawn later lt x
    ];
  })

  member_now : IfSome c.member (λ n. Draws Keeper (shard_of c) n c.token Mine)
  member_now = if_map c.member (λ n. Draws Keeper (shard_of c) n c.token was) (λ n. Draws Keeper (shard_of c) n c.token Mine)
      draws_still f.member

  own_draws : Draws Keeper (shard_of c) m c.token Mine
  own_draws = subst (λ (o : Option ℕ). IfSome o (λ n. Draws Keeper (shard_of c) n c.token Mine)) member_of_it.is member_now

  fresh_now : ¬ Among (λ o. UsesToken (shard_of c) m c.token o.entry.call) Mine
  fresh_now = of_mine (λ os. ¬ Among (λ o. UsesToken (shard_of c) m c.token o.entry.call) os) (λ k. elim k [
    | inl x ↦ read_unused (shard_of c) m c.token e.call is_read x
    | inr x ↦ g.so_far.fresh x
  ])

  -- its token isn't used, nor a later one
  unused : (t : ℕ) → c.token ≤ t → ¬ Among (λ o. UsesToken (shard_of c) m t o.entry.call) Mine
  unused t le = elim (leb_tells (suc c.token) t) [
    | inl more ↦ own_draws.drawn t (omega (arith, more.1))
    | inr same ↦
        let is : t ≡ c.token = omega (arith, same.1, le) in
        subst (λ (n : ℕ). ¬ Among (λ o. UsesToken (shard_of c) m n o.entry.call) Mine) (sym is) fresh_now
  ]

  -- the calls of the command, with one more
  reads_now : (v : Compactor) → shard_of v ≡ shard_of c → v.token ≡ c.token →
      v.storing.trying.calls ≡ trying.more c.storing.trying.calls → OnlyReads client m v start now
  reads_now v shard token calls_are = record {
    reads = λ lt. (let one = next_calls c.storing.trying.calls v.storing.trying.calls calls_are lt in
        subst (λ (ps : List Placed). AllByRecursion (λ p. IsRead p.entry.call) ps)
        (sym (ap (λ (n : ℕ). places client n now) one ∙ places_gained client c.storing.trying.calls e others es own of))
        (is_read, g.so_far.reads (omega (arith, one, lt))));
    fresh = subst (λ (d : ShardId). ¬ Among (λ o. UsesToken d m v.token o.entry.call) Mine) (sym shard)
        (subst (λ (t : ℕ). ¬ Among (λ o. UsesToken (shard_of c) m t o.entry.call) Mine) (sym token) fresh_now);
  }

  -- while it is read the transition stands so
  tries_still : FollowsTrying (record c.storing.trying { calls = trying.more c.storing.trying.calls }) Mine
  tries_still = of_mine (λ os. FollowsTrying (record c.storing.trying { calls = trying.more c.storing.trying.calls }) os)
      (with_newest c.storing.trying (record c.storing.trying { calls = trying.more c.storing.trying.calls }) (answered e here) was
      f.trying refl refl (shows_on (answered e here) was (shard_of c) c.storing.trying.loader.cached f.trying.shown))

  -- it goes on
  pub read_goes : (r : Reading Due) → readings.Follows finding client r start now → r.asked ≡ Some q →
      r.course.member ≡ c.reading.course.member → r.course.calls ≡ trying.more c.reading.course.calls →
      Follows client (reading_on c r) start now
  read_goes r held asked member calls_are = record {
    trying = tries_still;
    member = member_now;
    asked = asked_on client c (reading_on c r) start es now (record {
      shard = refl;
      step = refl;
      keys = refl;
      member = refl;
      token = refl;
      undrafted = λ z. z;
    }) c.asked (λ is n pos h. go n (subst (λ (o : Option Due). FollowsMerge client c start es n o c.pair) some h)) f.asked;
  }
    where
      go : (n : ℕ) → FollowsRead client c start es n → FollowsMerge client (reading_on c r) start now n r.asked c.pair
      go n h = subst (λ (o : Option Due). FollowsMerge client (reading_on c r) start now n o c.pair) (sym asked) (record {
        reading = held;
        member_is = member ∙ h.member_is;
        calls = calls_are ∙ ap trying.more h.calls;
        so_far = subst (λ (k : ℕ). OnlyReads client k (reading_on c r) start now) (same n h) (reads_now (reading_on c r) refl refl refl);
      })
        where
          same : (n : ℕ) → FollowsRead client c start es n → m ≡ n
          same n h = sym g.member_is ∙ h.member_is

  -- ---- it has ended

  module _ (r : Reading Due) (shard : r.course.loader.shard ≡ shard_of c)
      (held : readings.Follows finding client r start now) where
    abbrev pub given : Compactor
    given = given_back (reading_on c r)

    -- the newest state is the transition's again
    tries_given : FollowsTrying given.storing.trying Mine
    tries_given = record {
      shown = held.shown;
      owned = subst (λ (d : ShardId). OwnsSome Mine d (acts_for c.storing.trying.step)) (sym shard) tries_still.owned;
    }

    member_given : IfSome c.member (λ n. Draws Keeper r.course.loader.shard n c.token Mine)
    member_given = subst (λ (d : ShardId). IfSome c.member (λ n. Draws Keeper d n c.token Mine)) (sym shard) member_now

    -- without a pair
    pub read_over : (member : Option ℕ) → (member ≡ None) ⊎ (member ≡ c.member) →
        Follows client (record given { pair = None; asked = None; member = member }) start now
    read_over member how = record {
      trying = tries_given;
      member = elim how [
        | inl none ↦ subst (λ (o : Option ℕ). IfSome o (λ n. Draws Keeper r.course.loader.shard n c.token Mine)) (sym none) tt
        | inr same ↦ subst (λ (o : Option ℕ). IfSome o (λ n. Draws Keeper r.course.loader.shard n c.token Mine)) (sym same)
            member_given
      ];
      asked = refl;
    }

    -- with one
    module _ (p : Pair) (asked : r.asked ≡ None) (member : r.course.member ≡ c.reading.course.member)
        (from : FromParts finding client r.course q start now Paid (founds.Due p)) where
      r_stands : StandsFor start r.course.loader.shard list
      r_stands = subst (λ (d : ShardId). StandsFor start d list) (sym shard) st

      split_lawful : LawfulBack start (from.since.later ++ (from.since.scan ∷ from.since.before))
      split_lawful = subst (LawfulBack start) from.since.split lawful

      then_lawful : LawfulBack start (from.since.scan ∷ from.since.before)
      then_lawful = lawful_of_older start from.since.later (from.since.scan ∷ from.since.before) split_lawful

      last : LastIs (replay_back start (from.since.scan ∷ from.since.before)) r.course.loader.shard from.state.number from.state
      last = last_then client start r.course.loader.shard list r_stands from.since.later from.since.scan from.since.before
          split_lawful from.state from.since.answered from.since.last

      -- what its entries since the Scan, or before, hold is among all
      all_of : (P : Answered → Type 0) → Among P (mine_back start (from.since.later ++ (from.since.scan ∷ from.since.before)) client) →
          Among P Mine
      all_of P h = subst (λ (x : List Entry). Among P (mine_back start x client)) (sym from.since.split) h

      keeper : from.found.kind ≡ Keeper
      keeper = found_kind r.course.member from.found Keeper from.state.members from.found_is
          (kind_back start (from.since.scan ∷ from.since.before) r.course.loader.shard list r_stands then_lawful Keeper client
          r.course.member from.since.member from.state.number from.state last)

      m_is : r.course.member ≡ m
      m_is = member ∙ g.member_is

      lower : from.found.token < c.token
      lower = elim (leb_tells c.token from.found.token) [ inl high ↦ absurd (never high.1) | inr low ↦ omega (arith, low.1) ]
        where
          under : c.token ≤ from.found.token → Among (λ o. IsCasUnder r.course.loader.shard r.course.member from.found.token
              o.entry.call) (mine_back start (from.since.scan ∷ from.since.before) client)
          under high = own_under start r.course.loader.shard list r_stands client r.course.member from.found.token
              (from.since.scan ∷ from.since.before) then_lawful
              (joined_owns Keeper (mine_back start (from.since.scan ∷ from.since.before) client) r.course.loader.shard
              r.course.member from.since.member) from.state.number from.state last
              (let pos = member_of_it.some_token in omega (arith, pos, high))
              (found_stands r.course.member from.found (λ x. x.token ≡ from.found.token) from.state.members from.found_is refl)

          never : c.token ≤ from.found.token → ⊥
          never high = unused from.found.token high
              (among_map (λ o. IsCasUnder r.course.loader.shard r.course.member from.found.token o.entry.call)
              (λ o. UsesToken (shard_of c) m from.found.token o.entry.call) Mine
              (λ o x. subst (λ (d : ShardId). UsesToken d m from.found.token o.entry.call) shard
              (subst (λ (n : ℕ). UsesToken r.course.loader.shard n from.found.token o.entry.call) m_is (inr x)))
              (all_of (λ o. IsCasUnder r.course.loader.shard r.course.member from.found.token o.entry.call)
              (among_before (λ o. IsCasUnder r.course.loader.shard r.course.member from.found.token o.entry.call) start client
              from.since.later (from.since.scan ∷ from.since.before) (under high))))

      found : Found_so p from.state from.rows
      found = found_so p from.state from.rows (sym from.answer_is)

      keys_are : from.keys ≡ p.left.parts ++ p.right.parts
      keys_are = parts_same from.keys (p.left.parts ++ p.right.parts) (sym from.look ∙ found.stands.keys)

      few : length p.rows ≤ p.left.rows + p.right.rows
      few =
          let there = held_then finding is_question client r.course q start now Paid (founds.Due p) list r_stands lawful from in
          let many = rows_of_two (replay_back start (from.since.scan ∷ from.since.before)) there.list p from.state from.rows
          found.stands there.batches
          (subst (λ (ks : List PartKey). PartRows (replay_back start (from.since.scan ∷ from.since.before)) ks from.rows) keys_are
          there.parts) in
          subst (λ (us : List Update). length us ≤ p.left.rows + p.right.rows) (sym found.rows_are) many

      got : Hold (GotAs Mine) (p.left.parts ++ p.right.parts) p.rows
      got = subst (λ (us : List Update). Hold (GotAs Mine) (p.left.parts ++ p.right.parts) us) (sym found.rows_are)
          (subst (λ (ks : List PartKey). Hold (GotAs Mine) ks from.rows) keys_are
          (hold_on (GotAs (mine_back (replay_back start (from.since.scan ∷ from.since.before)) from.since.later client)) (GotAs Mine)
          (λ k b h. all_of (λ o. IsGot k b o.entry.call o.reply)
          (among_since (λ o. IsGot k b o.entry.call o.reply) start client from.since.later (from.since.scan ∷ from.since.before) h))
          from.keys from.rows from.got))

      shown : ShowsState Mine r.course.loader.shard from.state.number from.state
      shown = (let h = held.shown in
          subst (λ (o : Option ShardState). IfSome o (λ z. ShowsState Mine r.course.loader.shard z.number z)) from.known h)

      pub pair_now : IsPairOf r.course.loader.shard m c.token Mine p from.state
      pair_now = record {
        shown = shown;
        due = subst (λ (us : List Update). found_by from.state us (places_in from.state) ≡ founds.Due p) (sym found.rows_are)
            (sym from.answer_is);
        keys = found.stands.keys;
        got = got;
        few = few;
        found = from.found;
        found_is = subst (λ (n : ℕ). member_of n from.state.members ≡ Some from.found) m_is from.found_is;
        kind = keeper;
        lower = lower;
      }

      abbrev pub with_pair : Compactor
      with_pair = record given { pair = Some p }

      pub read_due : Follows client with_pair start now
      read_due = record {
        trying = tries_given;
        member = member_given;
        asked = subst (FollowsAsked client with_pair start now) (sym lent.asked)
            (subst (λ (o : Option ℕ). IsSomeAnd o (λ n. (0 < c.token) × FollowsMerge client with_pair start now n r.asked (Some p)))
            (sym member_of_it.is) (
              member_of_it.some_token,
              subst (λ (o : Option Due). FollowsMerge client with_pair start now m o (Some p)) (sym asked) (record {
                state = from.state;
                known = from.known;
                pair = pair_now;
                called = called;
                so_far = reads_now with_pair shard refl refl;
              }),
            ));
      }
        where
          called : 0 < trying.more c.storing.trying.calls
          called = (let is : trying.more c.storing.trying.calls ≡ min (c.storing.trying.calls + 1) most = refl in omega (arith, is))
