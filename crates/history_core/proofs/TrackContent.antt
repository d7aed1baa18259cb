-- One entry of a lawful history: the batches of the versions from the floor on go on to hold the list.
use Rattle.std.proofs.Common.{◌≡◌, ℕ, ◌+◌, ◌≤◌, true, cond, List, [], ◌++◌, inl, inr, refl, arith, subst, sym, ap, ◌∙◌, Some}
use Rattle.std.specs.List.{AllByRecursion}
use Rattle.state_core.specs.Lists.{Among}
use Rattle.update_core.specs.declared.updates.Update.{Update}
use Rattle.update_core.specs.Frontiers.{covers}
use Rattle.update_core.specs.Updates.{weight_of}
use Rattle.store_core.specs.declared.shards.ShardId.{ShardId}
use Rattle.store_core.specs.declared.part_keys.PartKey.{PartKey}
use Rattle.store_core.specs.Stores.{Stored}
use Rattle.store_core.specs.Ports.{Answered}
use Rattle.spine_core.specs.declared.batches.Batch.{Batch}
use Rattle.state_core.specs.declared.transitions.Transition.{Transition}
use Rattle.state_core.specs.declared.transitions.Transition.TheVariants.{Init, Join, Leave, Renew, Advance, Expire, Append, Merge}
use Rattle.state_core.specs.States.{ShardState, IsState, floor, keys_of}
use Rattle.state_core.specs.Steps.{Applies, Takes, Adds}
use Rattle.state_core.proofs.ListLemmas.{each_both, each_intro, bool_cases, append-nil}
use Rattle.state_core.proofs.Floors.{floor_top, floor_rises}
use Rattle.state_core.proofs.Batches.{runs_each, runs_state, upper_rises, Unweighed, unweighed_on, each_part}
use Rattle.state_core.proofs.Keys.{taken_named}
use Rattle.history_core.specs.Discipline.{StoredAs, GotAs, Holds}
use Rattle.history_core.specs.Stands.{BatchHolds, appended_by}
use Rattle.history_core.proofs.Contents.{Content, content_same, content_append, content_merge, part_rows_under, part_rows_on, hold_rows, batch_grow}
use Rattle.history_core.proofs.Tracks.{Track, HasState, EndsAt, Sound, Move, still, cuts, begins, grows, Moved}
use Rattle.history_core.proofs.TrackPresence.{PresentOn, last_grown, named_stay, added_there}

-- what an allowed transition makes of the content
pub content_made : (store : Stored) (own : List Answered) (list : List Update) (from to : ShardState) (step : Transition)
    (rules : IsState from)
    (held : AllByRecursion (BatchHolds store list) from.batches)
    (before_upper : AllByRecursion (λ u. covers from.upper u.time ≡ true) list) (light : weight_of list ≤ from.weight) →
    Applies from step to → Holds own step → ((k : PartKey) (b : List ℕ) → Adds step k → StoredAs own k b →
    store.blobs k ≡ Some b) →
    ((k : PartKey) (b : List ℕ) → Takes step k → GotAs own k b → store.blobs k ≡ Some b) → Content store list (appended_by store (Some (to, step))) from to
content_made store own list from to Init rules held before_upper light a h stored got = absurd a.makes
content_made store own list from to (Join kind now lease) rules held before_upper light a h stored got =
    content_same store own list from to rules held before_upper light (ap (λ (s : ShardState). s.batches) a.makes.effect) (ap (λ (s : ShardState). s.upper) a.makes.effect) (ap (λ (s : ShardState). s.weight) a.makes.effect)
content_made store own list from to (Leave member) rules held before_upper light a h stored got =
    content_same store own list from to rules held before_upper light (ap (λ (s : ShardState). s.batches) a.makes.effect) (ap (λ (s : ShardState). s.upper) a.makes.effect) (ap (λ (s : ShardState). s.weight) a.makes.effect)
content_made store own list from to (Renew member now) rules held before_upper light a h stored got =
    content_same store own list from to rules held before_upper light (ap (λ (s : ShardState). s.batches) a.makes.effect) (ap (λ (s : ShardState). s.upper) a.makes.effect) (ap (λ (s : ShardState). s.weight) a.makes.effect)
content_made store own list from to (Advance member at) rules held before_upper light a h stored got =
    content_same store own list from to rules held before_upper light (ap (λ (s : ShardState). s.batches) a.makes.effect) (ap (λ (s : ShardState). s.upper) a.makes.effect) (ap (λ (s : ShardState). s.weight) a.makes.effect)
content_made store own list from to (Expire now) rules held before_upper light a h stored got =
    content_same store own list from to rules held before_upper light (ap (λ (s : ShardState). s.batches) a.makes.effect) (ap (λ (s : ShardState). s.upper) a.makes.effect) (ap (λ (s : ShardState). s.weight) a.makes.effect)
content_made store own list from to (Append member token expected new parts rows weight) rules held before_upper light a h stored got =
    subst (λ (us : List Update). Content store list us from to) (sym (part_rows_under store parts h.updates (hold_rows store (StoredAs own) parts h.updates stored h.hold)))
    (content_append store own list from to rules held before_upper light member token expected new parts rows weight a h stored)
content_made store own list from to (Merge member token left right merged) rules held before_upper light a h stored got =
    content_merge store own list from to rules held before_upper light member token left right merged a h stored got

-- the content of the versions from the floor on, and what the last state says of the list
pub record ContentAt (t : Track) (store : Stored) (list : List Update) (number : ℕ) (last : ShardState) : Type 0 where
  pub content : (n : ℕ) (s : ShardState) → floor last ≤ n → HasState t n s → AllByRecursion (BatchHolds store list) s.batches
  pub before_upper : AllByRecursion (λ u. covers last.upper u.time ≡ true) list
  pub light : weight_of list ≤ last.weight
  pub unweighed : Unweighed last

-- where there is a last version
abbrev pub ContainedOn : Track → Stored → List Update → Type 0
ContainedOn t store list = (number : ℕ) (last : ShardState) → EndsAt t number → HasState t number last → ContentAt t store list number last

-- what an upper covers the uppers of later states cover
covers_on : (shard : ShardId) (t : Track) → Sound shard t → (j m n : ℕ) → m ≤ n → (s s2 : ShardState) → HasState t m s →
    HasState t n s2 → covers s.upper j ≡ true → covers s2.upper j ≡ true
covers_on shard t sound j m n le s s2 h g c =
    let up : covered s ≤ covered s2 = sound.rises covered rise m n le s s2 h g in
    elim (bool_cases (covers s2.upper j)) [ inl e ↦ e | inr e ↦ absurd (let one : covered s ≡ 1 = rw c refl in let none : covered s2 ≡ 0 = rw e refl in omega arith) ]
  where
    covered : ShardState → ℕ
    covered q = cond (covers q.upper j) 1 0

    rise : (a b : ShardState) (x : Transition) → Applies a x b → covered a ≤ covered b
    rise a b x ap2 = elim (bool_cases (covers a.upper j)) [
      | inl e ↦ let one : covered a ≡ 1 = rw e refl in let two : covered b ≡ 1 = rw (upper_rises j a b x ap2 e) refl in omega arith
      | inr e ↦ let none : covered a ≡ 0 = rw e refl in omega arith
    ]

-- the batches go on to hold what they did
batches_on : (store store2 : Stored) (bs : List Batch) (us : List Update) →
    ((k : PartKey) → Among (λ q. q ≡ k) (keys_of bs) → store2.blobs k ≡ store.blobs k) →
    AllByRecursion (BatchHolds store us) bs → AllByRecursion (BatchHolds store2 us) bs
batches_on store store2 bs us keeps h =
    each_both (λ b. AllByRecursion (λ k. store2.blobs k ≡ store.blobs k) b.parts) (BatchHolds store us) (BatchHolds store2 us) bs (λ b ks g. (g.0, part_rows_on store store2 b.parts g.0 ks g.1, g.2, g.3))
    (each_part (λ k. store2.blobs k ≡ store.blobs k) bs (each_intro (λ k. store2.blobs k ≡ store.blobs k) (keys_of bs) keeps)) h

module _ (shard : ShardId) (old new : Track) (store store2 : Stored) (own : List Answered) (was is : ℕ → Type 0) (rows : List Update) (sound : Sound shard old) (moved : Moved shard old new store store2 own was is rows)
    (present : PresentOn old was store) (list : List Update) (unstarted : old.next ≡ 0 → list ≡ []) where
  pub contained_step : ContainedOn old store list → ContainedOn new store2 (list ++ rows)
  contained_step older number last a h = go moved.move
    where
      kept : new ≡ old → rows ≡ [] → ContentAt new store2 (list ++ rows) number last
      kept q none =
          let a2 = subst (λ (t : Track). EndsAt t number) q a in
          let h2 = subst (λ (t : Track). HasState t number last) q h in
          let before = older number last a2 h2 in
          let same_list : list ++ rows ≡ list = ap (λ us. list ++ us) none ∙ append-nil list in
          subst (λ (us : List Update). ContentAt new store2 us number last) (sym same_list) (record {
            content = λ n s le at. let at2 = subst (λ (t : Track). HasState t n s) q at in
                batches_on store store2 s.batches list (λ k among. named_stay shard old new store store2 own was is rows sound moved number last a2 h2 n s k le at2 among) (before.content n s le at2);
            before_upper = before.before_upper;
            light = before.light;
            unweighed = before.unweighed;
          })

      go : Move shard old new store store2 own was is rows → ContentAt new store2 (list ++ rows) number last
      go (still q lives none) = kept q none
      go (cuts q below reached lives none) = kept q none
      go (begins first live none) =
          let nothing : list ++ rows ≡ [] = ap (λ us. list ++ us) none ∙ append-nil list ∙ unstarted first.empty in
          subst (λ (us : List Update). ContentAt new store2 us number last) (sym nothing)
          (subst (λ (s : ShardState). ContentAt new store2 [] number s) (first.first number last h) (record {
            content = λ n s le at. subst (λ (t : ShardState). AllByRecursion (BatchHolds store2 []) t.batches) (first.first n s at) tt;
            before_upper = tt;
            light = omega arith;
            unweighed = λ u. refl;
          }))
      go (grows g holds bytes lives live appended) =
          let (number_is, last_is) = last_grown shard old new sound g number last a h in
          let before = older g.n g.from g.last g.from_is in
          let here = present g.n g.from g.last g.from_is in
          let keys = sound.keys g.n g.from g.last g.from_is in
          let up : floor g.from ≤ floor g.to = floor_rises g.from g.to g.step g.applies in
          let up2 : floor last ≡ floor g.to = ap floor last_is in
          let number_from : g.from.number ≡ g.n = sound.number g.n g.from g.from_is in
          let rules : IsState g.from = sound.rules g.n g.from g.from_is in
          let top : floor g.from ≤ g.from.number = floor_top g.from.number g.from.members in
          let more : List Update = appended_by store (Some (g.to, g.step)) in
          let list_is : list ++ rows ≡ list ++ more = ap (λ us. list ++ us) appended in
          let held = before.content g.n g.from (omega arith) g.from_is in
          let made : Content store list more g.from g.to =
          content_made store own list g.from g.to g.step rules held before.before_upper before.light g.applies holds
          (λ k b added stored. added_there shard old new store store2 own was is rows sound moved g k b added stored)
          (λ k b takes got.
          let named = taken_named g.from g.to g.step k g.applies takes in
          let fits = keys.named g.n g.from k g.from_is named in
          let p = here.present g.n g.from k (omega arith) g.from_is named in
          elim (moved.got k b fits.of_shard got) [ inl none ↦ absurd (let p2 = p.2 in cc) | inr there ↦ there ])
          in
          subst (λ (us : List Update). ContentAt new store2 us number last) (sym list_is)
          (subst (λ (s : ShardState). ContentAt new store2 (list ++ more) number s) (sym last_is) (record {
            content = λ n s le at.
                batches_on store store2 s.batches (list ++ more) (λ k among. bytes k)
                (elim (g.after n s at) [
                  | inl old_one ↦
                      let high = sound.below n s old_one in
                      let at_end : g.n + 1 ≡ old.next = g.last in
                      let rules2 : IsState s = sound.rules n s old_one in
                      each_both (λ w. (j : ℕ) → covers w.desc.upper j ≡ true → covers s.upper j ≡ true) (BatchHolds store list) (BatchHolds store (list ++ more)) s.batches
                      (λ w f hw. batch_grow store list more w g.from.upper (λ j cj. covers_on shard old sound j n g.n (omega arith) s g.from old_one g.from_is (f j cj)) made.late hw)
                      (runs_each (Some 0) s.batches s.upper (runs_state s rules2)) (before.content n s (omega arith) old_one)
                  | inr new_one ↦ subst (λ (t2 : ShardState). AllByRecursion (BatchHolds store (list ++ more)) t2.batches) (sym new_one.1) made.batches
                ]);
            before_upper = made.before_upper;
            light = made.light;
            unweighed = unweighed_on g.from g.to g.step g.applies before.unweighed;
          }))
