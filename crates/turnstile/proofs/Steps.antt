-- Each step of a pass keeps the rule.
use Rattle.std.proofs.Common.{◌≡◌, ◌≢◌, ◌⊎◌, ℕ, zero, suc, ◌+◌, ◌-◌, ◌/◌, ◌%◌, ◌^◌, ◌<◌, ◌≤◌, Bool, true, false, eqb, cond, List, [], ◌∷◌, ◌++◌, length, min, get_or, set, refl, sym, ap, ◌∙◌, subst, ⊎_elim, inl, inr, arith, Option, Some, None, length-append, append_assoc, append-nil}
use mathlib.Core.Logic.{dite}
use mathlib.Core.List.{IsPrefix}
use mathlib.Core.Option.{none, some, some-injective, some-ne-none}
use mathlib.Core.Option as maybe
use native.Mathlib.Decide.{ℕ_discrete, dec_le}
use lib.ListN.{get_elem?}
use lib.Seq
use Rattle.std.proofs.lemmas.Bool.{le-leb, lt-leb}
use prog.Atomic.{either}
use Rattle.atomic_table.specs.Table.{State, Me, step, Act, keeps, takes, gives, stepped, homes_after, Allows, Splits, Joins, opening, Final, Seen}
use Rattle.atomic_table.proofs.Lists.{at_set, set_here, set_else, at_snoc, at_longer, exchanged}
use Rattle.turnstile.specs.declared.views.View.{View}
use Rattle.turnstile.specs.History.{CountsTo, entries_of, with_more, IsTold}
use Rattle.turnstile.specs.Rule.{once, total, entries_by, times, Each, stocked, kin_times, turn_of, share_of, spent_view, first_view, Stands, Turning}
use Rattle.turnstile.specs.Plays.{EachBy, credit, longer, shorter, grown, upper_half, left_of, right_of, both_of, taken, Gains, counted_as, gave, settled}
use Rattle.turnstile.proofs.Prefixes.{prefix_self, prefix_trans, prefix_shorter, prefix_whole}
use Rattle.turnstile.proofs.Totals.{total_set, total_at, total_snoc, total_two, total_same, within, one_place}
use Rattle.turnstile.proofs.Kins.{times_append, times_credit, each_append, each_map, each_two, each_credit, entries_append, entries_own, entries_none, entries_before, entries_between}

-- a number is in one of the two parts of a stock, or is the one between them
cut : (n lo a b k t : ℕ) → a + b + 1 ≡ k → ((lo ≡ n) × (t ≡ 1)) ⊎ ((lo ≢ n) × (t ≡ 0))
    → (min 1 (n + 1 - (lo + 1)) - min 1 (n + 1 - (lo + 1 + a))) + (min 1 (n + 1 - (lo + 1 + a)) - min 1 (n + 1 - (lo + 1 + a + b))) + t ≡ min 1 (n + 1 - lo) - min 1 (n + 1 - (lo + k))
cut n lo a b k t sum (inl p) = let e = p.0 in let f = p.1 in omega arith
cut n lo a b k t sum (inr p) = let e = p.0 in let f = p.1 in omega (arith, e)

abbrev pub value_or : {V : Type 0} → V → Option V → V
value_or d None = d
value_or d (Some y) = y

module _ {V B I : Type 0} (told : V → Option (B × List I)) (client : I → ℕ) (start : Option (B × List I)) where
  abbrev View' : Type 0
  View' = View B I

  abbrev St : Type 0
  St = State (Option V) View'

  abbrev M : Type 0
  M = Me (Option V) View'

  abbrev Rule : St → Type 0
  Rule = Turning told client start

  abbrev Home : List I → List (maybe.Option (Option V)) → Type 0
  Home since homes = (y : V) × (homes ≡ some (Some y) ∷ []) × (told y ≡ with_more start since)

  pub stands : (s : St) (r : Rule s) (j : ℕ) (v : View') → get_elem? s.views j ≡ some v → 0 < v.share → Stands client start r.since v
  stands s r j v at some_share = ⊎_elim (λ (e : v ≡ spent_view). absurd (let z : v.share ≡ 0 = ap share_of e in omega arith)) (λ x. x) (r.each j v at)

  -- a step of the pass id that leaves the history, the numbers and the shares
  pub moved : (s : St) (r : Rule s) (id : ℕ) (v w : View') (turn' : ℕ) (words' : List ℕ) (homes' : List (maybe.Option (Option V)))
      → get_elem? s.views id ≡ some v → words' ≡ turn' ∷ r.count ∷ [] → turn' + v.turn ≡ r.turn + w.turn → turn' ≤ 1 → (turn' ≡ 0 → Home r.since homes')
      → w.kin ≡ v.kin → w.low ≡ v.low → w.stock ≡ v.stock → w.share ≡ v.share → Stands client start r.since w → (v.gain ≡ r.since → w.gain ≡ r.since)
      → Rule record { words = words'; homes = homes'; views = set s.views id w }
  moved s r id v w turn' words' homes' at as_words turns small at_home kin low stock share mine all = record {
    turn = turn';
    count = r.count;
    since = r.since;
    words = as_words;
    held = (let t = total_set turn_of s.views id v w at in let h = r.held in omega arith);
    one = small;
    counted = r.counted;
    home = at_home;
    each = λ j d e. ⊎_elim (λ (t : (j ≡ id) × (w ≡ d)). inr (subst (λ (x : View'). Stands client start r.since x) t.1 mine)) (λ (t : (j ≢ id) × (get_elem? s.views j ≡ some d)). r.each j d t.1) (at_set s.views id j w d e);
    whole = dite (ℕ_discrete r.whole.0 id)
        (λ e. let same : r.whole.1 ≡ v = some-injective r.whole.1 v (sym r.whole.2 ∙ (ap (get_elem? s.views) e ∙ at)) in
        (id, w, set_here s.views id w (within s.views id v at), (let a = r.whole.3 in let b : r.whole.1.share ≡ v.share = ap share_of same in omega arith), all (sym (ap (λ (x : View'). x.gain) same) ∙ r.whole.4)))
        (λ ne. (r.whole.0, r.whole.1, set_else s.views id r.whole.0 w ne ∙ r.whole.2, r.whole.3, r.whole.4));
    apart = λ n. (let a = total_same (kin_times n) s.views id v w at (ap (times n) kin) in
        let b = total_same (stocked n) s.views id v w at (λ i. min 1 (n + 1 - low i) - min 1 (n + 1 - (low i + stock i))) in let c = r.apart n in omega arith);
    covers = λ n z. r.covers n (sym (total_same (kin_times n) s.views id v w at (ap (times n) kin)) ∙ z);
    shares = total_same share_of s.views id v w at share ∙ r.shares;
  }

  -- the compare and exchange that takes the turn
  pub takes_turn : (slots id : ℕ) (m : M) → 0 < m.0.share → m.0.turn ≡ 0 → Allows Rule slots id m 0 (λ n. either (eqb n 0) 1 n) (taken told client (step slots 0 0 1 none) m)
  takes_turn slots id m some_share free s r deep at small = exchanged (get_or s.words 0 0) 0 1 Goal hit miss
    where
      v : View'
      v = m.0

      n : ℕ
      n = get_or s.words 0 0

      Goal : ℕ → Type 0
      Goal x = (w : View') × (a : Act (Option V)) × Rattle.atomic_table.specs.Table.Valid s.homes m.1 a × Rule (stepped s 0 x id m.1 w a) × taken told client (step slots 0 0 1 none) m n (w, Rattle.atomic_table.specs.Table.carried_after m.1 a)

      is_turn : n ≡ r.turn
      is_turn = ap (λ (ws : List ℕ). get_or ws 0 0) r.words

      st : Stands client start r.since v
      st = stands s r id v at some_share

      hit : n ≡ 0 → Goal 1
      hit z =
          let free_turn : r.turn ≡ 0 = sym is_turn ∙ z in
          let h : Home r.since s.homes = r.home free_turn in
          let w : View' = record v { gain = r.since; turn = 1 } in
          let mine : Stands client start r.since w = record {
            same = st.same;
            begins = prefix_self r.since;
            short = st.short;
            holder = λ _. refl;
            own = st.own;
            room = st.room;
            above = st.above;
            kin_all = st.kin_all;
            kin_seen = st.kin_all;
          } in (
            w,
            takes 0 (Some h.0),
            ap (λ (hs : List (maybe.Option (Option V))). get_elem? hs 0) h.1,
            moved s r id v w 1 (set s.words 0 1) (set s.homes 0 none) at (ap (λ (ws : List ℕ). set ws 0 1) r.words) (omega arith) (omega arith) (λ e. absurd (omega arith)) refl refl refl refl mine (λ _. refl),
            ((λ _. (h.0, refl, h.2 ∙ ap (λ (o : Option (B × List I)). with_more o r.since) (sym st.same), st.begins, st.kin_all)), (λ ne. absurd (ne z))),
          )

      miss : n ≢ 0 → Goal n
      miss ne =
          let w : View' = record v { misses = v.misses + 1 } in
          let mine : Stands client start r.since w = record {
            same = st.same;
            begins = st.begins;
            short = st.short;
            holder = st.holder;
            own = st.own;
            room = st.room;
            above = st.above;
            kin_all = st.kin_all;
            kin_seen = st.kin_seen;
          } in
          let back : set s.words 0 n ≡ r.turn ∷ r.count ∷ [] = ap (λ (ws : List ℕ). set ws 0 (get_or ws 0 0)) r.words in (
            w,
            keeps,
            tt,
            moved s r id v w r.turn (set s.words 0 n) s.homes at back (omega arith) r.one r.home refl refl refl refl mine (λ e. e),
            ((λ z. absurd (ne z)), (λ _. ((let o = r.one in let e = is_turn in omega (arith, ne)), refl))),
          )

  -- the store that gives the turn back
  pub gives_turn : (slots id : ℕ) (m : M) (y : V) → slots ≡ 1 → 0 < m.0.share → m.0.turn ≡ 1 → m.1 ≡ (0, Some y) ∷ [] → told y ≡ with_more m.0.start m.0.gain
      → Allows Rule slots id m 0 (λ _. 0) (λ _. gave told client (step slots 0 0 0 none) m 0)
  gives_turn slots id m y one_slot some_share mine is tells = subst (λ (c : List (ℕ × Option V)). Allows Rule slots id (m.0, c) 0 (λ _. 0) (λ _. gave told client (step slots 0 0 0 none) (m.0, c) 0)) (sym is) go
    where
      go : Allows Rule slots id (m.0, (0, Some y) ∷ []) 0 (λ _. 0) (λ _. gave told client (step slots 0 0 0 none) (m.0, (0, Some y) ∷ []) 0)
      go s r deep at small =
          let v : View' = m.0 in
          let w : View' = record v { turn = 0 } in
          let st : Stands client start r.since v = stands s r id v at some_share in
          let all : v.gain ≡ r.since = st.holder (omega arith) in
          let held_by : v.turn ≤ total turn_of s.views = total_at turn_of s.views id v at in
          let taken_turn : r.turn ≡ 1 = (let a = r.one in let b = r.held in omega arith) in
          let standing : Stands client start r.since w = record {
            same = st.same;
            begins = st.begins;
            short = st.short;
            holder = λ h. absurd (omega arith);
            own = st.own;
            room = st.room;
            above = st.above;
            kin_all = st.kin_all;
            kin_seen = st.kin_seen;
          } in
          let put_home : Home r.since (set s.homes 0 (some (Some y))) = (
            y,
            one_place s.homes (some (Some y)) (deep ∙ one_slot),
            tells ∙ (λ i. with_more (st.same i) (all i)),
          ) in (
            w,
            gives,
            tt,
            moved s r id v w 0 (set s.words 0 0) (set s.homes 0 (some (Some y))) at (ap (λ (ws : List ℕ). set ws 0 0) r.words) (omega arith) (omega arith) (λ _. put_home) refl refl refl refl standing (λ e. e),
            refl,
          )

  -- a load that leaves the view
  loads : (id i : ℕ) (m : M) (w : View') (then : ℕ → M → Type 0) → 0 < m.0.share
      → ((since : List I) → Stands client start since m.0 → Stands client start since w) → w.gain ≡ m.0.gain
      → w.kin ≡ m.0.kin → w.low ≡ m.0.low → w.stock ≡ m.0.stock → w.share ≡ m.0.share → w.turn ≡ m.0.turn
      → (s : St) (r : Rule s) → get_elem? s.views id ≡ some m.0 → then (get_or s.words i 0) (w, m.1)
      → (w' : View') × (a : Act (Option V)) × Rattle.atomic_table.specs.Table.Valid s.homes m.1 a × Rule (stepped s i (get_or s.words i 0) id m.1 w' a) × then (get_or s.words i 0) (w', Rattle.atomic_table.specs.Table.carried_after m.1 a)
  loads id i m w then some_share standing gain kin low stock share turn s r at told' = (
    w,
    keeps,
    tt,
    moved s r id m.0 w r.turn (set s.words i (get_or s.words i 0)) s.homes at (lib.Seq.set-get_or s.words i 0 ∙ r.words) (omega arith) r.one r.home kin low stock share (standing r.since (stands s r id m.0 at some_share)) (λ e. gain ∙ e),
    told',
  )

  -- the load after a join
  pub settles : (slots id : ℕ) (m : M) → 0 < m.0.share → Allows Rule slots id m 0 (λ n. n) (settled told client (step slots 0 0 0 none) m)
  settles slots id m some_share s r deep at small =
      let st : Stands client start r.since m.0 = stands s r id m.0 at some_share in
      loads id 0 m m.0 (settled told client (step slots 0 0 0 none) m) some_share (λ since x. x) refl refl refl refl refl refl s r at
      (refl, (λ le. prefix_shorter m.0.beside m.0.gain r.since st.short st.begins le), st.kin_seen)

  -- another pass stands as before, when entries of a number that it doesn't answer for take their places
  others_stand : (since gs : List I) (n : ℕ) (d : View') → d.turn ≡ 0 → times n d.kin ≡ 0 → EachBy client n gs → Stands client start since d → Stands client start (since ++ gs) d
  others_stand since gs n d free apart by st = record {
    same = st.same;
    begins = prefix_trans d.gain since (since ++ gs) st.begins (gs, refl);
    short = prefix_trans d.beside since (since ++ gs) st.short (gs, refl);
    holder = λ h. absurd (omega arith);
    own = st.own;
    room = st.room;
    above = st.above;
    kin_all = each_map (λ k es. entries_by client k since ≡ es) (λ k es. entries_by client k (since ++ gs) ≡ es) d.kin
        (λ k es has is. let ne : k ≢ n = λ e. absurd (let t : times k d.kin ≡ times n d.kin = ap (λ (x : ℕ). times x d.kin) e in omega arith) in
        entries_append client k since gs ∙ (ap (λ (l : List I). entries_by client k since ++ l) (entries_none client k n gs ne by) ∙ (append-nil (entries_by client k since) ∙ is)))
        st.kin_all;
    kin_seen = st.kin_seen;
  }

  grown_stands : (since gs : List I) (v : View') → v.gain ≡ since → EachBy client v.number gs → Stands client start since v → Stands client start (v.gain ++ gs) (grown v gs)
  grown_stands since gs v all by st =
      let credited : Each (λ k es. entries_by client k (v.gain ++ gs) ≡ es) (credit v.number gs v.kin) =
      each_credit (λ k es. entries_by client k v.gain ≡ es) (λ k es. entries_by client k (v.gain ++ gs) ≡ es) v.number gs v.kin
      (λ es is. entries_append client v.number v.gain gs ∙ (λ i. is i ++ entries_own client v.number gs by i))
      (λ k es ne is. entries_append client k v.gain gs ∙ (ap (λ (l : List I). entries_by client k v.gain ++ l) (entries_none client k v.number gs ne by) ∙ (append-nil (entries_by client k v.gain) ∙ is)))
      st.kin_seen in record {
        same = st.same;
        begins = prefix_self (v.gain ++ gs);
        short = prefix_trans v.beside v.gain (v.gain ++ gs) (subst (λ (l : List I). IsPrefix v.beside l) (sym all) st.short) (gs, refl);
        holder = λ _. refl;
        own = (let t = times_credit v.number v.number gs v.kin in let o = st.own in omega arith);
        room = st.room;
        above = st.above;
        kin_all = credited;
        kin_seen = credited;
      }

  -- the fetch and add by which the entries that the value gained take their places
  pub counts_up : (slots id k : ℕ) (m : M) (y : V) (gs : List I) → 0 < m.0.share → m.0.turn ≡ 1 → Gains told client m.0 y gs
      → (IsTold start → m.0.start ≡ start → k + min (length (entries_of start ++ m.0.gain)) (2 ^ 64 - 1) ≡ min (length (entries_of start ++ (m.0.gain ++ gs))) (2 ^ 64 - 1))
      → Allows Rule slots id m 1 (λ n. (n + k) % 2 ^ 64) (counted_as told client gs (step slots 1 k 0 none) m)
  counts_up slots id k m y gs some_share mine gains adds s r deep at small =
      let v : View' = m.0 in
      let w : View' = grown v gs in
      let st : Stands client start r.since v = stands s r id v at some_share in
      let all : v.gain ≡ r.since = st.holder (omega arith) in
      let held_by : v.turn ≤ total turn_of s.views = total_at turn_of s.views id v at in
      let taken_turn : r.turn ≡ 1 = (let a = r.one in let b = r.held in omega arith) in
      let since' : List I = v.gain ++ gs in
      let found : get_or s.words 1 0 ≡ r.count = ap (λ (ws : List ℕ). get_or ws 1 0) r.words in
      let standing : Stands client start since' w = grown_stands r.since gs v all gains.1 st in
      let kins : (n : ℕ) → total (kin_times n) (set s.views id w) ≡ total (kin_times n) s.views = λ n. total_same (kin_times n) s.views id v w at (times_credit n v.number gs v.kin) in
      let others : (j : ℕ) (d : View') → j ≢ id → get_elem? s.views j ≡ some d → (d ≡ spent_view) ⊎ Stands client start since' d = λ j d other at'. ⊎_elim (λ (e : d ≡ spent_view). inl e)
      (λ (x : Stands client start r.since d). inr (subst (λ (l : List I). Stands client start (l ++ gs) d) (sym all)
      (others_stand r.since gs v.number d
      (let two = total_two turn_of s.views id j v d other at at' in let a = r.one in let b = r.held in omega arith)
      (let two = total_two (kin_times v.number) s.views id j v d other at at' in let a = r.apart v.number in let b = st.own in omega arith)
      gains.1 x))) (r.each j d at') in
      let next : Rule record { words = set s.words 1 ((get_or s.words 1 0 + k) % 2 ^ 64); homes = s.homes; views = set s.views id w } = record {
        turn = r.turn;
        count = (get_or s.words 1 0 + k) % 2 ^ 64;
        since = since';
        words = ap (λ (ws : List ℕ). set ws 1 ((get_or s.words 1 0 + k) % 2 ^ 64)) r.words;
        held = (let t = total_same turn_of s.views id v w at refl in let h = r.held in omega arith);
        one = r.one;
        counted = λ t. (let c : r.count ≡ min (length (entries_of start ++ r.since)) (2 ^ 64 - 1) = r.counted t in
            let d : length (entries_of start ++ r.since) ≡ length (entries_of start ++ v.gain) = ap (λ (l : List I). length (entries_of start ++ l)) (sym all) in
            let e = adds t st.same in
            let sum : get_or s.words 1 0 + k ≡ min (length (entries_of start ++ since')) (2 ^ 64 - 1) = omega arith in omega arith);
        home = λ z. absurd (omega arith);
        each = λ j d e. ⊎_elim (λ (t : (j ≡ id) × (w ≡ d)). inr (subst (λ (x : View'). Stands client start since' x) t.1 standing)) (λ (t : (j ≢ id) × (get_elem? s.views j ≡ some d)). others j d t.0 t.1) (at_set s.views id j w d e);
        whole = (id, w, set_here s.views id w (within s.views id v at), some_share, refl);
        apart = λ n. (let a = kins n in let b = total_same (stocked n) s.views id v w at refl in let c = r.apart n in omega arith);
        covers = λ n z.
            let none : entries_by client n r.since ≡ [] = r.covers n (sym (kins n) ∙ z) in
            let ne : n ≢ v.number = λ e. absurd (let t : times n v.kin ≡ times v.number v.kin = ap (λ (x : ℕ). times x v.kin) e in let o = st.own in let a = kins n in let b = total_at (kin_times n) s.views id v at in omega arith) in
            entries_append client n v.gain gs ∙ (λ i. (ap (entries_by client n) all ∙ none) i ++ entries_none client n v.number gs ne gains.1 i);
        shares = total_same share_of s.views id v w at refl ∙ r.shares;
      } in (w, keeps, tt, next, (refl, standing.kin_seen))

  stocked_first : (v : View') → 0 < v.stock → stocked v.low v ≡ 1
  stocked_first v some_stock = omega arith

  left_share : (v : View') → 0 < v.stock → v.stock < v.share → (left_of v).share + (right_of v).share ≡ v.share
  left_share v some_stock room = let h = upper_half v in let e : upper_half v ≡ (v.stock - 1) / 2 = refl in omega arith

  divided : (v : View') → 0 < v.stock → (n : ℕ) → stocked n (left_of v) + stocked n (right_of v) + times n (right_of v).kin ≡ stocked n v
  divided v some_stock n = let h : (v.stock - 1) / 2 ≤ v.stock - 1 = omega arith in dite (ℕ_discrete v.low n)
      (λ e. cut n v.low (v.stock - 1 - upper_half v) (upper_half v) v.stock (once (eqb v.low n) + 0) (omega arith) (let o : once (eqb v.low n) ≡ 1 = ap once (Rattle.std.proofs.Common.eq-eqb v.low n e) in inl (e, omega arith)))
      (λ ne. cut n v.low (v.stock - 1 - upper_half v) (upper_half v) v.stock (once (eqb v.low n) + 0) (omega arith) (let o : once (eqb v.low n) ≡ 0 = ap once (Rattle.std.proofs.Common.ne_eqb v.low n ne) in inr (ne, omega arith)))

  -- a new pass, with the least number of the stock
  right_stands : (since : List I) (v : View') → 0 < v.stock → entries_by client v.low since ≡ [] → Stands client start since v → Stands client start since (right_of v)
  right_stands since v some_stock nothing st = record {
    same = st.same;
    begins = st.begins;
    short = (since, refl);
    holder = λ h. absurd (omega arith);
    own = (let e : once (eqb v.low v.low) ≡ 1 = ap once (Rattle.std.proofs.Common.eq-eqb v.low v.low refl) in omega arith);
    room = omega arith;
    above = omega arith;
    kin_all = (nothing, tt);
    kin_seen = (entries_before client v.low v.gain since st.begins nothing, tt);
  }

  left_stands : (since : List I) (v : View') → 0 < v.stock → Stands client start since v → Stands client start since (left_of v)
  left_stands since v some_stock st = record {
    same = st.same;
    begins = st.begins;
    short = st.short;
    holder = st.holder;
    own = st.own;
    room = (let r = st.room in let h = upper_half v in let e : upper_half v ≡ (v.stock - 1) / 2 = refl in omega arith);
    above = omega arith;
    kin_all = st.kin_all;
    kin_seen = st.kin_seen;
  }

  pub splits : (id : ℕ) (v : View') → 0 < v.share → 0 < v.stock → Splits Rule id v (left_of v) (right_of v)
  splits id v some_share some_stock s r at =
      let l : View' = left_of v in
      let w : View' = right_of v in
      let vs : List View' = set s.views id l in
      let st : Stands client start r.since v = stands s r id v at some_share in
      let low_kins : total (kin_times v.low) s.views ≡ 0 = (let a = r.apart v.low in let b = total_at (stocked v.low) s.views id v at in let c = stocked_first v some_stock in omega arith) in
      let nothing : entries_by client v.low r.since ≡ [] = r.covers v.low low_kins in
      let sum : (f : View' → ℕ) → total f (vs ++ w ∷ []) + f v ≡ total f s.views + f l + f w = λ f. let a = total_set f s.views id v l at in let b = total_snoc f vs w in omega arith in
      let left' : Stands client start r.since l = left_stands r.since v some_stock st in
      let right' : Stands client start r.since w = right_stands r.since v some_stock nothing st in record {
        turn = r.turn;
        count = r.count;
        since = r.since;
        words = r.words;
        held = (let a = sum turn_of in let h = r.held in omega arith);
        one = r.one;
        counted = r.counted;
        home = r.home;
        each = λ j d e. ⊎_elim
            (λ (e' : get_elem? vs j ≡ some d). ⊎_elim (λ (t : (j ≡ id) × (l ≡ d)). inr (subst (λ (x : View'). Stands client start r.since x) t.1 left')) (λ (t : (j ≢ id) × (get_elem? s.views j ≡ some d)). r.each j d t.1) (at_set s.views id j l d e'))
            (λ (e' : w ≡ d). inr (subst (λ (x : View'). Stands client start r.since x) e' right')) (at_snoc vs w d j e);
        whole = dite (ℕ_discrete r.whole.0 id)
            (λ e. let same : r.whole.1 ≡ v = some-injective r.whole.1 v (sym r.whole.2 ∙ (ap (get_elem? s.views) e ∙ at)) in
            (id, l, at_longer vs (w ∷ []) id l (set_here s.views id l (within s.views id v at)), (let q = left'.room in omega arith), sym (ap (λ (x : View'). x.gain) same) ∙ r.whole.4))
            (λ ne. (r.whole.0, r.whole.1, at_longer vs (w ∷ []) r.whole.0 r.whole.1 (set_else s.views id r.whole.0 l ne ∙ r.whole.2), r.whole.3, r.whole.4));
        apart = λ n. (let a = sum (kin_times n) in let b = sum (stocked n) in let c = divided v some_stock n in let d = r.apart n in omega arith);
        covers = λ n z. r.covers n (let a = sum (kin_times n) in omega arith);
        shares = (let a = sum share_of in let b = left_share v some_stock st.room in let c = r.shares in omega arith);
      }

  -- of two beginnings of one list the longer is one too, and each begins it
  longer_is : (P : List I → Type 0) (xs ys : List I) → (length ys ≤ length xs → P xs) → (length xs ≤ length ys → P ys) → P (longer xs ys)
  longer_is P xs ys f g = go (dec_le (length ys) (length xs))
    where
      go : Dec (length ys ≤ length xs) → P (longer xs ys)
      go (yes le) = subst (λ b. P (cond b xs ys)) (sym (le-leb _ _ le)) (f le)
      go (no lt) = subst (λ b. P (cond b xs ys)) (sym (lt-leb _ _ (omega (arith, lt)))) (g (omega (arith, lt)))

  shorter_is : (P : List I → Type 0) (xs ys : List I) → P xs → P ys → P (shorter xs ys)
  shorter_is P xs ys f g = go (Rattle.std.proofs.Common.leb (length ys) (length xs))
    where
      go : (b : Bool) → P (cond b ys xs)
      go true = g
      go false = f

  both_stand : (since : List I) (v w : View') → v.turn ≡ 0 → Stands client start since v → Stands client start since w → Stands client start since (both_of v w)
  both_stand since v w free st su =
      let m : List I = longer v.gain w.gain in
      let begins : IsPrefix m since = longer_is (λ l. IsPrefix l since) v.gain w.gain (λ _. st.begins) (λ _. su.begins) in
      let one : IsPrefix v.gain m = longer_is (λ l. IsPrefix v.gain l) v.gain w.gain (λ _. prefix_self v.gain) (λ le. prefix_shorter v.gain w.gain since st.begins su.begins le) in
      let two : IsPrefix w.gain m = longer_is (λ l. IsPrefix w.gain l) v.gain w.gain (λ le. prefix_shorter w.gain v.gain since su.begins st.begins le) (λ _. prefix_self w.gain) in record {
        same = st.same;
        begins = begins;
        short = shorter_is (λ l. IsPrefix l since) v.gain w.gain st.begins su.begins;
        holder = λ h. absurd (omega arith);
        own = (let a = times_append v.number v.kin w.kin in let b = st.own in omega arith);
        room = (let a = st.room in omega arith);
        above = st.above;
        kin_all = each_append (λ n es. entries_by client n since ≡ es) (λ n es. ⊥) v.kin w.kin st.kin_all su.kin_all;
        kin_seen = each_append (λ n es. entries_by client n m ≡ es) (λ n es. ⊥) v.kin w.kin
            (each_two (λ n es. entries_by client n v.gain ≡ es) (λ n es. entries_by client n since ≡ es) (λ n es. entries_by client n m ≡ es) v.kin (λ n es a c. entries_between client n v.gain m since es one begins a c) st.kin_seen st.kin_all)
            (each_two (λ n es. entries_by client n w.gain ≡ es) (λ n es. entries_by client n since ≡ es) (λ n es. entries_by client n m ≡ es) w.kin (λ n es a c. entries_between client n w.gain m since es two begins a c) su.kin_seen su.kin_all);
      }

  pub joins : (id other : ℕ) (v w : View') → 0 < v.share → 0 < w.share → v.turn ≡ 0 → w.turn ≡ 0 → Joins Rule id v other w (both_of v w) spent_view
  joins id other v w some_share more_share free too s r at apart at' =
      let m : View' = both_of v w in
      let vs : List View' = set s.views id m in
      let there : get_elem? s.views other ≡ some w = sym (set_else s.views id other m apart) ∙ at' in
      let st : Stands client start r.since v = stands s r id v at some_share in
      let su : Stands client start r.since w = stands s r other w there more_share in
      let mine : Stands client start r.since m = both_stand r.since v w free st su in
      let here : get_elem? (set vs other spent_view) id ≡ some m = set_else vs other id spent_view (λ e. apart (sym e)) ∙ set_here s.views id m (within s.views id v at) in
      let sum : (f : View' → ℕ) → total f (set vs other spent_view) + f v + f w ≡ total f s.views + f m + f spent_view = λ f. let a = total_set f s.views id v m at in let b = total_set f vs other w spent_view at' in omega arith in
      let grows : v.gain ≡ r.since → m.gain ≡ r.since = λ e. longer_is (λ l. l ≡ r.since) v.gain w.gain (λ _. e)
      (λ le. prefix_whole w.gain r.since su.begins (let q : length v.gain ≡ length r.since = ap length e in omega arith)) in
      let grows' : w.gain ≡ r.since → m.gain ≡ r.since = λ e. longer_is (λ l. l ≡ r.since) v.gain w.gain
      (λ le. prefix_whole v.gain r.since st.begins (let q : length w.gain ≡ length r.since = ap length e in omega arith)) (λ _. e) in
      let whole : (j : ℕ) (d : View') → get_elem? s.views j ≡ some d → 0 < d.share → d.gain ≡ r.since → (j : ℕ) × (d : View') × (get_elem? (set vs other spent_view) j ≡ some d) × (0 < d.share) × (d.gain ≡ r.since) = λ j d e share all.
      dite (ℕ_discrete j id)
      (λ is. let same : d ≡ v = some-injective d v (sym e ∙ (ap (get_elem? s.views) is ∙ at)) in (id, m, here, omega arith, grows (sym (ap (λ (x : View'). x.gain) same) ∙ all)))
      (λ ne. dite (ℕ_discrete j other)
      (λ is. let same : d ≡ w = some-injective d w (sym e ∙ (ap (get_elem? s.views) is ∙ there)) in (id, m, here, omega arith, grows' (sym (ap (λ (x : View'). x.gain) same) ∙ all)))
      (λ ne'. (j, d, set_else vs other j spent_view ne' ∙ (set_else s.views id j m ne ∙ e), share, all))) in record {
        turn = r.turn;
        count = r.count;
        since = r.since;
        words = r.words;
        held = (let a = sum turn_of in let h = r.held in omega arith);
        one = r.one;
        counted = r.counted;
        home = r.home;
        each = λ j d e. ⊎_elim (λ (t : (j ≡ other) × (spent_view ≡ d)). inl (sym t.1))
            (λ (t : (j ≢ other) × (get_elem? vs j ≡ some d)). ⊎_elim (λ (u : (j ≡ id) × (m ≡ d)). inr (subst (λ (x : View'). Stands client start r.since x) u.1 mine)) (λ (u : (j ≢ id) × (get_elem? s.views j ≡ some d)). r.each j d u.1) (at_set s.views id j m d t.1))
            (at_set vs other j spent_view d e);
        whole = whole r.whole.0 r.whole.1 r.whole.2 r.whole.3 r.whole.4;
        apart = λ n. (let a = sum (kin_times n) in let b = sum (stocked n) in let c = times_append n v.kin w.kin in let d = r.apart n in omega arith);
        covers = λ n z. r.covers n (let a = sum (kin_times n) in let c = times_append n v.kin w.kin in omega arith);
        shares = (let a = sum share_of in let c = r.shares in omega arith);
      }

-- the table at the start
pub opens : {V B I : Type 0} (told : V → Option (B × List I)) (client : I → ℕ) (y : V) (n : ℕ) → CountsTo (told y) n
    → Turning told client (told y) (opening (0 ∷ n ∷ []) (Some y ∷ []) (first_view (told y)))
opens {V} {B} {I} told client y n counts = record {
  turn = 0;
  count = n;
  since = [];
  words = refl;
  held = refl;
  one = omega arith;
  counted = λ t. counted_from (told y) n counts t;
  home = λ _. (y, refl, starts (told y));
  each = λ j v e. inr (first_stands j v e);
  whole = (0, first, refl, omega arith, refl);
  apart = λ k. apart_first k;
  covers = λ k z. refl;
  shares = refl;
}
  where
    first : View B I
    first = first_view (told y)

    counted_from : (o : Option (B × List I)) (k : ℕ) → CountsTo o k → IsTold o → k ≡ min (length (entries_of o ++ [])) (2 ^ 64 - 1)
    counted_from None k c t = absurd t
    counted_from (Some p) k c t = c ∙ ap (λ (l : List I). min (length l) (2 ^ 64 - 1)) (sym (append-nil p.1))

    starts : (o : Option (B × List I)) → o ≡ with_more o []
    starts None = refl
    starts (Some p) = ap (λ (l : List I). let q : Option (B × List I) = Some (p.0, l) in q) (sym (append-nil p.1))

    first_stands : (j : ℕ) (v : View B I) → get_elem? (first ∷ []) j ≡ some v → Stands client (told y) [] v
    first_stands zero v e = subst (λ (x : View B I). Stands client (told y) [] x) (some-injective first v e) record {
      same = refl;
      begins = ([], refl);
      short = ([], refl);
      holder = λ _. refl;
      own = omega arith;
      room = omega arith;
      above = omega arith;
      kin_all = (refl, tt);
      kin_seen = (refl, tt);
    }
    first_stands (suc j) v e = absurd (some-ne-none v (sym e))

    apart_first : (k : ℕ) → total (kin_times k) (first ∷ []) + total (stocked k) (first ∷ []) ≤ 1
    apart_first zero = omega arith
    apart_first (suc k) = let e : once (eqb 0 (suc k)) ≡ 0 = ap once (Rattle.std.proofs.Common.ne_eqb 0 (suc k) (λ z. absurd (omega arith))) in omega arith

-- the table at the end, where one pass has every share
pub record Ends {V B I : Type 0} (told : V → Option (B × List I)) (client : I → ℕ) (v : View B I) (slots : List (Option V)) : Type 0 where
  pub value : V
  pub there : get_elem? slots 0 ≡ some (Some value)
  pub tells : told value ≡ with_more v.start v.gain
  pub covers : (n : ℕ) → times n v.kin ≡ 0 → entries_by client n v.gain ≡ []

pub closes : {V B I : Type 0} (told : V → Option (B × List I)) (client : I → ℕ) (start : Option (B × List I)) (id : ℕ) (v : View B I) (words : List ℕ) (slots : List (Option V))
    → v.share ≡ 2 ^ 64 → v.turn ≡ 0 → v.start ≡ start → Final (Seen (Turning told client start) id v) words slots → Ends told client v slots
closes {V} {B} {I} told client start id v words slots every free from final = ends
  where
    s : State (Option V) (View B I)
    s = final.0

    r : Turning told client start s
    r = final.1.0

    at : get_elem? s.views id ≡ some v
    at = final.1.1

    alone : (j : ℕ) (d : View B I) → get_elem? s.views j ≡ some d → j ≢ id → d ≡ spent_view
    alone j d e other = ⊎_elim (λ (x : d ≡ spent_view). x) (λ (x : Stands client start r.since d). absurd (let a = total_two share_of s.views id j v d other at e in let b = r.shares in let c = x.room in omega arith)) (r.each j d e)

    rest_zero : (f : View B I → ℕ) → f spent_view ≡ 0 → total f s.views ≡ f v
    rest_zero f z = only f s.views id at (λ j d e other. ap f (alone j d e other) ∙ z)
      where
        none_there : (f : View B I → ℕ) (xs : List (View B I)) → ((j : ℕ) (d : View B I) → get_elem? xs j ≡ some d → f d ≡ 0) → total f xs ≡ 0
        none_there f [] h = refl
        none_there f (x ∷ xs) h = let a = h 0 x refl in let b = none_there f xs (λ j d e. h (suc j) d e) in omega arith

        only : (f : View B I → ℕ) (xs : List (View B I)) (k : ℕ) → get_elem? xs k ≡ some v → ((j : ℕ) (d : View B I) → get_elem? xs j ≡ some d → j ≢ k → f d ≡ 0) → total f xs ≡ f v
        only f [] k e h = absurd (some-ne-none v (sym e))
        only f (x ∷ xs) zero e h = let a : f x ≡ f v = ap f (some-injective x v e) in let b = none_there f xs (λ j d e'. h (suc j) d e' (λ z. absurd (omega arith))) in omega arith
        only f (x ∷ xs) (suc k) e h = let a = h 0 x refl (λ z. absurd (omega arith)) in let b = only f xs k e (λ j d e' ne. h (suc j) d e' (λ z. ne (omega arith))) in omega arith

    home : (y : V) × (s.homes ≡ some (Some y) ∷ []) × (told y ≡ with_more start r.since)
    home = r.home (r.held ∙ (rest_zero turn_of refl ∙ free))

    all : v.gain ≡ r.since
    all = dite (ℕ_discrete r.whole.0 id)
        (λ e. let same : r.whole.1 ≡ v = some-injective r.whole.1 v (sym r.whole.2 ∙ (ap (get_elem? s.views) e ∙ at)) in sym (ap (λ (x : View B I). x.gain) same) ∙ r.whole.4)
        (λ ne. absurd (let z : r.whole.1.share ≡ 0 = ap share_of (alone r.whole.0 r.whole.1 r.whole.2 ne) in let p = r.whole.3 in omega arith))

    ends : Ends told client v slots
    ends = record {
      value = home.0;
      there = final.4 0 (Some home.0) (ap (λ (hs : List (maybe.Option (Option V))). get_elem? hs 0) home.1);
      tells = home.2 ∙ (λ i. with_more (sym from i) (sym all i));
      covers = λ n z. ap (entries_by client n) all ∙ r.covers n (rest_zero (kin_times n) refl ∙ z);
    }
