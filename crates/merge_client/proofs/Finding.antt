-- What is found of the pair that is due is legal. Entries go newest first.
use Rattle.std.proofs.Common.{◌≡◌, ◌+◌, ◌*◌, ◌<◌, ◌++◌, inl, inr, ℕ, Option, Some, None, List, length, refl, sym, ap, subst, ◌∙◌, arith}
use Rattle.std.specs.Prelude.{⊤, nat_lt}
use Rattle.std.specs.List.{slice_get}
use Rattle.std.specs.Option.{option_map}
use Rattle.std.proofs.lemmas.List.{length-map}
use Rattle.std.proofs.lemmas.Option.{slice_get_cases}
use Rattle.update_core.specs.declared.updates.Update.{Update}
use Rattle.spine_core.specs.declared.batches.Batch.{Batch}
use Rattle.spine_core.specs.Settled.{due_place, weights_of, with_next}
use Rattle.spine_core.proofs.Adjacent.{place_there}
use Rattle.store_core.specs.declared.part_keys.PartKey.{PartKey}
use Rattle.store_core.specs.declared.shards.ShardId.{ShardId}
use Rattle.store_core.specs.declared.entries.Entry.{Entry}
use Rattle.store_core.specs.Stores.{Stored}
use Rattle.state_core.specs.States.{ShardState}
use Rattle.history_core.specs.Legal.{AtLast, HasMember}
use Rattle.change_core.proofs.Members.{found_stands}
use Rattle.read_machine.specs.declared.looks.Look.TheVariants as looks
use Rattle.read_machine.specs.Questions.{ShownAt, since}
use Rattle.read_machine.proofs.Shown.{at_scan}
use Rattle.merge_client.specs.declared.founds.Found.{Found}
use Rattle.merge_client.specs.declared.founds.Found.TheVariants as founds
use Rattle.merge_client.specs.Finding.{FoundLegal, IsDueIn, found_at, found_by, look_at, look_by, places_in}

-- a batch that is there
pub inside : (bs : List Batch) (i : ℕ) → i < length bs → (b : Batch) × (slice_get bs i ≡ Some b)
inside bs i h = elim ((slice_get_cases bs i).1) [ inl x ↦ (x.0, x.2) | inr x ↦ absurd (let past = x.0 in omega (arith, past, h)) ]

-- the two batches at a place that is due are there
pub there : (s : ShardState) (i : ℕ) → due_place (weights_of s.batches) ≡ Some i → i + 1 < length s.batches
there s i e = let far = place_there (λ x y. nat_lt x (2 * y)) (weights_of s.batches) i e in omega (
  arith,
  far,
  length-map
      s.batches (λ (b : Batch). b.rows + 1),
)

module _ (client : ℕ) (shard : ShardId) (member calls : ℕ) (list : List Update) (start : Stored) (later : List Entry) (scan
    : Entry)
    (before : List Entry) (s : ShardState) (at : ShownAt client shard member calls list start later scan before s) where
  abbrev Told : Found → Type 0
  Told found = FoundLegal shard member start (since client calls later scan before) found

  stands : HasMember member s
  stands = found_stands member at.found (λ m. ⊤) s.members at.found_is tt

  nothing_told : places_in s ≡ None → Told (founds.Nothing s.number)
  nothing_told none = at_scan client shard member calls list start later scan before s at
      (AtLast start shard (λ n t. (n ≡ s.number) × HasMember member t × (places_in t ≡ None))) (
        s.number,
        s,
        at.last,
        (refl, stands, none),
      )

  due_told : (l r : Batch) (rows : List Update) → found_by s rows (places_in s) ≡ found_at s rows (Some l) (Some r) →
      Told (found_at s rows (Some l) (Some r))
  due_told l r rows e = at_scan client shard member calls list start later scan before s at
      (AtLast start shard (λ n t. HasMember member t × IsDueIn (record { left = l; right = r; since = s.since; rows = rows }) t))
      (s.number, s, at.last, (stands, e))

  -- what a state answers without reading
  pub seen_told : (found : Found) → look_by s (places_in s) ≡ looks.Answer found → Told found
  seen_told found e = go (due_place (weights_of s.batches)) refl
    where
      go : (o : Option ℕ) → due_place (weights_of s.batches) ≡ o → Told found
      go None is =
          let none : places_in s ≡ None = ap (option_map with_next) is in
          let h : looks.Answer (founds.Nothing s.number) ≡ looks.Answer found = sym (ap (look_by s) none) ∙ e in
          let same : founds.Nothing s.number ≡ found = cc in
          subst Told same (nothing_told none)
      go (Some i) is =
          let at_both : places_in s ≡ Some (i, i + 1) = ap (option_map with_next) is in
          let far = there s i is in
          let (l, l_is) = inside s.batches i (omega (arith, far)) in
          let (r, r_is) = inside s.batches (i + 1) far in
          let bad : looks.Parts (l.parts ++ r.parts) ≡ looks.Answer found =
          sym (ap (look_by s) at_both ∙ ap (λ (o : Option Batch). look_at s o (slice_get s.batches (i + 1))) l_is ∙ ap
          (look_at s (Some l)) r_is) ∙ e in
          absurd (cc)

  -- what is answered from the rows of both
  pub got_told : (keys : List PartKey) (rows : List Update) → look_by s (places_in s) ≡ looks.Parts keys →
      Told (found_by s rows (places_in s))
  got_told keys rows e = go (places_in s) refl
    where
      both : (l r : Option Batch) → look_at s l r ≡ looks.Parts keys → found_by s rows (places_in s) ≡ found_at s rows l r →
          Told (found_at s rows l r)
      both None r h f = absurd (let bad : looks.Answer (founds.Nothing s.number) ≡ looks.Parts keys = h in cc)
      both (Some l) None h f = absurd (let bad : looks.Answer (founds.Nothing s.number) ≡ looks.Parts keys = h in cc)
      both (Some l) (Some r) h f = due_told l r rows f

      go : (o : Option (ℕ × ℕ)) → places_in s ≡ o → Told (found_by s rows (places_in s))
      go None is = absurd (let bad : looks.Answer (founds.Nothing s.number) ≡ looks.Parts keys = sym (ap (look_by s) is) ∙
          e in cc)
      go (Some p) is =
          let f = ap (found_by s rows) is in
          subst Told (sym f) (both (slice_get s.batches p.0) (slice_get s.batches p.1) (sym (ap (look_by s) is) ∙ e) f)
