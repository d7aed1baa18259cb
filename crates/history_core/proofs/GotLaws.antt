-- What a client gets later from the parts of a state is what was there.
use Rattle.std.proofs.Common.{◌≡◌, ℕ, ◌≤◌, Bool, cond, List, [], ◌∷◌, ◌++◌, inl, inr, refl, arith, subst, sym, ap, ◌∙◌, Some, None}
use Rattle.std.specs.Prelude.{reverse, nat_le, filter}
use Rattle.std.specs.Ordering.{is_lt}
use Rattle.std.specs.List.{AllByRecursion}
use Rattle.state_core.specs.Lists.{Among}
use Rattle.state_core.proofs.ListLemmas.{each_at, each_intro, among_split, among_front, among_back, bool_cases}
use Rattle.update_core.specs.declared.updates.Update.{Update}
use Rattle.update_core.specs.Frontiers.{frontier_cmp}
use Rattle.store_core.specs.declared.shards.ShardId.{ShardId}
use Rattle.store_core.specs.declared.part_keys.PartKey.{PartKey}
use Rattle.store_core.specs.declared.entries.Entry.{Entry}
use Rattle.store_core.specs.Stores.{Stored}
use Rattle.store_core.specs.Histories.{store_after, next}
use Rattle.store_core.specs.Ports.{Answered}
use Rattle.store_core.specs.Newest.{replay_back, mine_back}
use Rattle.store_core.proofs.NewestLaws.{replay-newest, mine-newest}
use Rattle.spine_core.specs.declared.batches.Batch.{Batch}
use Rattle.state_core.specs.States.{ShardState, Names, keys_of, floor}
use Rattle.state_core.proofs.Floors.{floor_top}
use Rattle.history_core.specs.Discipline.{IsGot, GotAs, LawfulBack}
use Rattle.history_core.specs.Stands.{StandsFor, Collection, accepted_of}
use Rattle.history_core.specs.Questions.{begun_by, ending_past}
use Rattle.history_core.specs.Answers.{own_past, LaterGets, ContentGot, SliceGot}
use Rattle.history_core.specs.Laws.{LastIs}
use Rattle.history_core.proofs.Prefixes.{prefix_lawful}
use Rattle.history_core.proofs.Entries.{among_mine, lawful_older}
use Rattle.history_core.proofs.StateFacts.{last_one, state_number, state_none}
use Rattle.history_core.proofs.Blobs.{Begins, got_now}
use Rattle.history_core.proofs.Bases.{base_of}
use Rattle.history_core.proofs.Contents.{hold_rows}
use Rattle.history_core.proofs.PartContents.{content_of_parts, slice_of_parts}
use Rattle.history_core.proofs.Stays.{bytes_stay}
use Rattle.history_core.proofs.LawfulLaws.{lawful_law, lawful_both}

-- entries after others
replay_behind : (start : Stored) (fs es : List Entry) → replay_back start (fs ++ es) ≡ replay_back (replay_back start es) fs
replay_behind start [] es = refl
replay_behind start (f ∷ fs) es = ap (λ s. next s f) (replay_behind start fs es)

-- a later Get of a key that is there is answered with the bytes that are there, where it is answered with bytes
got_later : (start : Stored) (shard : ShardId) (start_member : ℕ) → Begins start shard start_member → (fs es : List Entry) →
    LawfulBack start (fs ++ es) → (c : ℕ) (k : PartKey) (b got : List ℕ) → k.shard ≡ shard →
    (replay_back start es).blobs k ≡ Some b → GotAs (mine_back (replay_back start es) fs c) k got → (replay_back start es).blobs k ≡ Some got
got_later start shard m begin [] es l c k b got here there h = absurd h
got_later start shard m begin (f ∷ fs) es l c k b got here there h =
    let before = lawful_older start f (fs ++ es) l in
    elim (among_mine (λ (o : Answered). IsGot k got o.entry.call o.reply) (replay_back start es) f fs c h) [
      | inl p ↦
          let (found, keeps) = got_now k got (replay_back (replay_back start es) fs) f.call f.outcome p.1 in
          let found2 : (replay_back start (fs ++ es)).blobs k ≡ Some got = ap (λ (s : Stored). s.blobs k) (replay_behind start fs es) ∙ found in
          let (o, holds) = bytes_stay start shard m begin fs es before k b here there in
          elim holds [
            | inl none ↦ absurd (let e : None ≡ Some got = sym none ∙ found2 in cc)
            | inr some ↦ there ∙ sym some ∙ found2
          ]
      | inr older ↦ got_later start shard m begin fs es before c k b got here there older
    ]

-- what is there of the last state's keys, in a store that stands for a list
pub record Here (store : Stored) (shard : ShardId) (list : List Update) (number : ℕ) (last : ShardState) : Type 0 where
  pub collection : Collection store shard list
  pub low : floor collection.last ≤ number

pub here_of : (store : Stored) (shard : ShardId) (list : List Update) (number : ℕ) (last : ShardState) →
    StandsFor store shard list → LastIs store shard number last → Here store shard list number last
here_of store shard list number last (inl e) is = absurd (state_none shard (store.logs shard) number last e.no_version is.1)
here_of store shard list number last (inr c) is =
    let (same_number, same) = last_one shard (store.logs shard) c.number number c.last last c.newest c.state is.0 is.1 in
    let top : floor c.last ≤ c.last.number = floor_top c.last.number c.last.members in
    let at : c.last.number ≡ c.number = state_number shard (store.logs shard) c.number c.last c.state in
    record { collection = c; low = omega arith }

pub later_law : LaterGets
later_law shard list h later st l number last is c keys rows named held =
    let then_is : store_after h ≡ replay_back h.start (reverse h.trail) = replay-newest h.start h.trail in
    let stands = here_of (store_after h) shard (accepted_of shard list h) number last (lawful_law shard list h st (prefix_lawful h later l)) is in
    let base = base_of h.start shard list st in
    let own_is : own_past h later c ≡ mine_back (store_after h) (reverse later) c = mine-newest (record { start = store_after h; trail = later }) c in
    hold_rows (store_after h) (GotAs (own_past h later c)) keys rows
    (λ k b among got.
    let name : Names last k = each_at (Names last) keys k named among in
    let fits = stands.collection.keys.named number last k is.1 name in
    let p = stands.collection.present number last k stands.low is.1 name in
    let got2 = subst (λ (own : List Answered). GotAs own k b) own_is got in
    subst (λ (s : Stored). s.blobs k ≡ Some b) (sym then_is)
    (got_later h.start shard base.start_member base.begin (reverse later) (reverse h.trail) (lawful_both h later l) c k p.0 b fits.of_shard
    (subst (λ (s : Stored). s.blobs k ≡ Some p.0) then_is p.2) (subst (λ (s : Stored). GotAs (mine_back s (reverse later) c) k b) then_is got2)))
    held

-- some of the batches' keys are among all
some_keys : (p : Batch → Bool) (bs : List Batch) (k : PartKey) → Among (λ q. q ≡ k) (keys_of (filter p bs)) →
    Among (λ q. q ≡ k) (keys_of bs)
some_keys p [] k h = h
some_keys p (b ∷ bs) k h =
    elim (bool_cases (p b)) [
      | inl e ↦
          let h2 : Among (λ q. q ≡ k) (keys_of (b ∷ filter p bs)) = subst (λ (t : Bool). Among (λ q. q ≡ k) (keys_of (cond t (b ∷ filter p bs) (filter p bs)))) e h in
          elim (among_split (λ q. q ≡ k) b.parts (keys_of (filter p bs)) h2) [
            | inl a ↦ among_front (λ q. q ≡ k) b.parts (keys_of bs) a
            | inr a ↦ among_back (λ q. q ≡ k) b.parts (keys_of bs) (some_keys p bs k a)
          ]
      | inr e ↦
          among_back (λ q. q ≡ k) b.parts (keys_of bs) (some_keys p bs k (subst (λ (t : Bool). Among (λ q. q ≡ k) (keys_of (cond t (b ∷ filter p bs) (filter p bs)))) e h))
    ]

pub all_named : (p : Batch → Bool) (s : ShardState) → AllByRecursion (Names s) (keys_of (filter p s.batches))
all_named p s = each_intro (Names s) (keys_of (filter p s.batches)) (λ k a. some_keys p s.batches k a)

pub content_law : ContentGot
content_law shard list h later st l number last is c t rows low known held =
    let stands = here_of (store_after h) shard (accepted_of shard list h) number last (lawful_law shard list h st (prefix_lawful h later l)) is in
    content_of_parts (store_after h) shard (accepted_of shard list h) stands.collection number last stands.low is.1 t low known rows
    (later_law shard list h later st l number last is c (keys_of (begun_by t last.batches)) rows (all_named (λ b. nat_le b.desc.lower t) last) held)

pub slice_law : SliceGot
slice_law shard list h later st l number last is c f rows low held =
    let stands = here_of (store_after h) shard (accepted_of shard list h) number last (lawful_law shard list h st (prefix_lawful h later l)) is in
    slice_of_parts (store_after h) shard (accepted_of shard list h) stands.collection number last stands.low is.1 f low rows
    (later_law shard list h later st l number last is c (keys_of (ending_past (Some f) last.batches)) rows (all_named (λ b. is_lt (frontier_cmp (Some f) b.desc.upper)) last) held)
