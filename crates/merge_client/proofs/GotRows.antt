-- What a client got of the parts of a state that a Scan of it showed, before or since, is what was there. Entries go newest first.
use Rattle.std.proofs.Common.{◌≡◌, ◌⊎◌, ℕ, zero, suc, Some, None, Option, List, [], ◌∷◌, ◌++◌, take, inl, inr, refl, sym, ap, subst, ◌∙◌}
use Rattle.std.proofs.Common.{eqb}
use Rattle.std.specs.List.{AllByRecursion}
use Rattle.update_core.specs.declared.updates.Update.{Update}
use Rattle.store_core.specs.declared.shards.ShardId.{ShardId}
use Rattle.store_core.specs.declared.part_keys.PartKey.{PartKey}
use Rattle.store_core.specs.declared.entries.Entry.{Entry}
use Rattle.store_core.specs.Histories.{reply}
use Rattle.store_core.specs.Stores.{Stored}
use Rattle.store_core.specs.Ports.{Answered, answered}
use Rattle.store_core.specs.Newest.{mine_back, replay_back}
use Rattle.state_core.specs.Lists.{Among}
use Rattle.state_core.specs.States.{Names, ShardState}
use Rattle.state_core.proofs.ListLemmas.{bool_cases, each_at}
use Rattle.history_core.specs.Discipline.{GotAs, Hold, IsGot, LawfulBack}
use Rattle.history_core.specs.Laws.{LastIs}
use Rattle.history_core.specs.Placing.{IsAnsweredScan, placed}
use Rattle.history_core.specs.Readings.{rows_in}
use Rattle.history_core.specs.Stands.{BatchHolds, PartRows, StandsFor, accepted, rows_of_blob, rows_or_none, rows_under}
use Rattle.history_core.proofs.Bases.{Base, base_of}
use Rattle.history_core.proofs.Blobs.{gets}
use Rattle.history_core.proofs.Contents.{hold_rows, part_rows_under}
use Rattle.history_core.proofs.GotLaws.{Here, here_of}
use Rattle.history_core.proofs.LawfulLaws.{lawful_of_older}
use Rattle.history_core.proofs.StandsAfter.{stands_after}
use Rattle.read_machine.proofs.Stretch.{replay_behind}
use Rattle.read_machine.proofs.Undamaged.{got_is, last_then}

-- what is among a client's entries is among those since a place, or among those before
pub mine_apart : (P : Answered → Type 0) (start : Stored) (client : ℕ) (later tail : List Entry) →
    Among P (mine_back start (later ++ tail) client) →
    Among P (mine_back (replay_back start tail) later client) ⊎ Among P (mine_back start tail client)
mine_apart P start client [] tail h = inr h
mine_apart P start client (e ∷ later) tail h = elim (bool_cases (eqb e.client client)) [
  | inl mine ↦
      let here = rw mine at h in
      rw mine (elim here [
        | inl x ↦ inl (inl (subst (λ (s : Stored). P (answered e (reply s e))) (replay_behind start later tail) x))
        | inr x ↦ elim (mine_apart P start client later tail x) [ inl y ↦ inl (inr y) | inr y ↦ inr y ]
      ])
  | inr other ↦ rw other (mine_apart P start client later tail (rw other at h))
]

taken_among : {A : Type 0} (xs : List A) (i : ℕ) (x : A) → Among (λ y. y ≡ x) (take i xs) → Among (λ y. y ≡ x) xs
taken_among [] zero x h = absurd h
taken_among [] (suc i) x h = absurd h
taken_among (y ∷ xs) zero x h = absurd h
taken_among (y ∷ xs) (suc i) x (inl h) = inl h
taken_among (y ∷ xs) (suc i) x (inr h) = inr (taken_among xs i x h)

module _ (client : ℕ) (start : Stored) (shard : ShardId) (list : List Update) (st : StandsFor start shard list)
    (later : List Entry) (scan : Entry) (before : List Entry)
    (lawful : LawfulBack start (later ++ (scan ∷ before))) (s : ShardState) (answered_here : IsAnsweredScan shard (placed scan before))
    (last : LastIs (replay_back start before) shard s.number s) where
  -- the store then
  abbrev pub then : Stored
  then = replay_back start (scan ∷ before)

  abbrev Own : List Answered
  Own = mine_back start (later ++ (scan ∷ before)) client

  then_lawful : LawfulBack start (scan ∷ before)
  then_lawful = lawful_of_older start later (scan ∷ before) lawful

  base : Base start shard list
  base = base_of start shard list st

  abbrev pub updates : List Update
  updates = accepted shard list start (scan ∷ before)

  shown : LastIs then shard s.number s
  shown = last_then client start shard list st later scan before lawful s answered_here last

  here : Here then shard updates s.number s
  here = here_of then shard updates s.number s (stands_after start shard list base (scan ∷ before) then_lawful) shown

  -- what its batches hold
  pub batches : AllByRecursion (BatchHolds then updates) s.batches
  batches = here.collection.content s.number s here.low shown.1

  -- what was got at any time
  pub any_got : (k : PartKey) (b : List ℕ) → Names s k → GotAs Own k b → then.blobs k ≡ Some b
  any_got k b named h =
      elim (mine_apart (λ (o : Answered). IsGot k b o.entry.call o.reply) start client later (scan ∷ before) h) [
        | inl since ↦ got_is client start shard list st later scan before lawful s answered_here last k b named since
        | inr early ↦
            let fits = here.collection.keys.named s.number s k shown.1 named in
            let p = here.collection.present s.number s k here.low shown.1 named in
            let (origin, holds) = gets start shard base.start_member base.begin (scan ∷ before) then_lawful client k b fits.of_shard early in
            elim holds [
              | inl none ↦ absurd (let bad : None ≡ Some p.0 = sym none ∙ p.2 in cc)
              | inr some ↦ some
            ]
      ]

  -- its rows
  pub any_rows : (keys : List PartKey) (n : ℕ) (rows : List Update) → AllByRecursion (Names s) keys →
      Hold (GotAs Own) (take n keys) rows → rows_under then (take n keys) ≡ rows
  any_rows keys n rows named h = part_rows_under then (take n keys) rows
      (hold_rows then (GotAs Own) (take n keys) rows
      (λ k b among g. any_got k b (each_at (Names s) keys k named (taken_among keys n k among)) g) h)

  -- the rows of one part
  pub part_is : (k : PartKey) (b : List ℕ) (part : List Update) → Names s k → GotAs Own k b →
      ((rows : List Update) → rows_in b ≡ Some rows → rows ≡ part) → rows_of_blob (then.blobs k) ≡ part
  part_is k b part named g only =
      let (b2, rows, is, reads) = here.collection.present s.number s k here.low shown.1 named in
      let found = any_got k b named g in
      let same : b2 ≡ b = some_same b2 b (sym is ∙ found) in
      let reads2 : rows_in b ≡ Some rows = subst (λ (x : List ℕ). rows_in x ≡ Some rows) same reads in
      ap rows_of_blob found ∙ ap rows_or_none reads2 ∙ only rows reads2
    where
      some_same : (x y : List ℕ) → Some x ≡ Some y → x ≡ y
      some_same x y h = cc
