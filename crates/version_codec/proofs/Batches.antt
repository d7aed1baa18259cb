-- Batches of a version: those that are read keep the rules, and those that keep them are read.
use Rattle.std.proofs.Common.{◌≡◌, ℕ, ◌-◌, ◌≤◌, Bool, true, List, [], ◌++◌, length, Ok, Option, refl, sym, ap, subst, ◌∙◌, append_assoc}
use Rattle.std.specs.List.{flat_map}
use Rattle.update_core.specs.Frontiers.{is_at}
use Rattle.store_core.specs.declared.part_keys.PartKey.{PartKey}
use Rattle.spine_core.specs.Spines.{spine_upper, rows_of}
use Rattle.spine_core.specs.declared.batches.Batch.{Batch}
use Rattle.state_core.specs.Refusals.{is_part_count}
use Rattle.state_core.specs.States.{ShardState, keys_of}
use Rattle.version_codec.specs.Reading.{number_at, limited_at, frontier_at, keys_at, lower_at, may_end, upper_at, part_count_at, batch_at}
use Rattle.version_codec.specs.Versions.{number_bytes, frontier_bytes, key_bytes, keys_bytes, batch_bytes, NumberFits, FrontierFits, PartKeysFit, BatchFits}
use Rattle.state_core.proofs.Rules.{Rise}
use Rattle.version_codec.proofs.FieldLaws.{bind_then, guard_passed, ok_is, Took, took_then, number_took, number_again, limited_took, limited_again, frontier_took, frontier_again}
use Rattle.version_codec.proofs.Keys.{KeysMay, ReadKeys, keys_took, keys_again}

-- what a batch keeps that is read after others, the last one or not
pub record BatchMay (s : ShardState) (is_last : Bool) (b : Batch) : Type 0 where
  pub lower : is_at (spine_upper s.batches) b.desc.lower ≡ true
  pub ends : may_end s is_last b.desc.lower b.desc.upper ≡ true
  pub since : b.desc.since ≤ s.since
  pub rows : b.rows ≤ s.weight - rows_of s.batches
  pub count : is_part_count b.rows (length b.parts) ≡ true
  pub keys : KeysMay s (keys_of s.batches ++ []) b.parts

module _ (total : ℕ) where
  lower_took : (s : ShardState) (bytes : List ℕ) (x : ℕ × List ℕ) → lower_at total s bytes ≡ Ok x → Took bytes (number_bytes x.0) x.1 (NumberFits x.0) × (is_at (spine_upper s.batches) x.0 ≡ true)
  unfolding lower_at
  lower_took s bytes x e =
      bind_then (number_at total bytes) _ x e (λ n h k.
      let (at, is) = guard_passed (is_at (spine_upper s.batches) n.0) _ n x k in
      subst (λ (y : ℕ × List ℕ). Took bytes (number_bytes y.0) y.1 (NumberFits y.0) × (is_at (spine_upper s.batches) y.0 ≡ true)) is (number_took total bytes n h, at))

  lower_again : (s : ShardState) (n : ℕ) (rest : List ℕ) → NumberFits n → is_at (spine_upper s.batches) n ≡ true → lower_at total s (number_bytes n ++ rest) ≡ Ok (n, rest)
  unfolding lower_at
  lower_again s n rest f h = rw (number_again total n rest f, h) refl

  upper_took : (s : ShardState) (is_last : Bool) (lower : ℕ) (bytes : List ℕ) (x : Option ℕ × List ℕ) → upper_at total s is_last lower bytes ≡ Ok x → Took bytes (frontier_bytes x.0) x.1 (FrontierFits x.0) × (may_end s is_last lower x.0 ≡ true)
  unfolding upper_at
  upper_took s is_last lower bytes x e =
      bind_then (frontier_at total bytes) _ x e (λ f h k.
      let (ends, is) = guard_passed (may_end s is_last lower f.0) _ f x k in
      subst (λ (y : Option ℕ × List ℕ). Took bytes (frontier_bytes y.0) y.1 (FrontierFits y.0) × (may_end s is_last lower y.0 ≡ true)) is (frontier_took total bytes f h, ends))

  upper_again : (s : ShardState) (is_last : Bool) (lower : ℕ) (f : Option ℕ) (rest : List ℕ) → FrontierFits f → may_end s is_last lower f ≡ true → upper_at total s is_last lower (frontier_bytes f ++ rest) ≡ Ok (f, rest)
  unfolding upper_at
  upper_again s is_last lower f rest fits h = rw (frontier_again total f rest fits, h) refl

  count_took : (rows : ℕ) (bytes : List ℕ) (x : ℕ × List ℕ) → part_count_at total rows bytes ≡ Ok x → Took bytes (number_bytes x.0) x.1 (NumberFits x.0) × (is_part_count rows x.0 ≡ true)
  unfolding part_count_at
  count_took rows bytes x e =
      bind_then (number_at total bytes) _ x e (λ n h k.
      let (counts, is) = guard_passed (is_part_count rows n.0) _ n x k in
      subst (λ (y : ℕ × List ℕ). Took bytes (number_bytes y.0) y.1 (NumberFits y.0) × (is_part_count rows y.0 ≡ true)) is (number_took total bytes n h, counts))

  count_again : (rows n : ℕ) (rest : List ℕ) → NumberFits n → is_part_count rows n ≡ true → part_count_at total rows (number_bytes n ++ rest) ≡ Ok (n, rest)
  unfolding part_count_at
  count_again rows n rest f h = rw (number_again total n rest f, h) refl

  abbrev pub TookBatch : ShardState → Bool → List ℕ → Batch × List ℕ → Type 0
  TookBatch s is_last bytes y = Took bytes (batch_bytes y.0) y.1 (BatchFits y.0) × BatchMay s is_last y.0

  -- the keys of a batch after their count
  parts_took : (s : ShardState) (count : ℕ × List ℕ) (bytes : List ℕ) (keys : List PartKey × List ℕ) → Took bytes (number_bytes count.0) count.1 (NumberFits count.0) → ReadKeys total s [] count.0 count.1 keys
      → Took bytes (keys_bytes keys.0) keys.1 (PartKeysFit keys.0) × (length keys.0 ≡ count.0) × KeysMay s (keys_of s.batches ++ []) keys.0
  parts_took s count bytes keys t r =
      let both = took_then bytes (number_bytes count.0) count.1 (flat_map key_bytes r.keys) keys.1 t r.took in
      let made : Took bytes (keys_bytes r.keys) keys.1 (PartKeysFit r.keys) = record {
        parts = λ h. both.parts h ∙ ap (λ (n : ℕ). (number_bytes n ++ flat_map key_bytes r.keys) ++ keys.1) (sym r.count);
        rest_is = both.rest_is;
        fits = λ h. record { count = subst (λ (n : ℕ). NumberFits n) (sym r.count) (both.fits h).0; each = (both.fits h).1 };
      } in
      subst (λ (ks : List PartKey). Took bytes (keys_bytes ks) keys.1 (PartKeysFit ks) × (length ks ≡ count.0) × KeysMay s (keys_of s.batches ++ []) ks) (sym r.is) (made, r.count, r.may)

  batch_made : (s : ShardState) (is_last : Bool) (bytes : List ℕ) (lower : ℕ × List ℕ) (upper : Option ℕ × List ℕ) (since rows count : ℕ × List ℕ) (keys : List PartKey × List ℕ)
      → Took bytes (number_bytes lower.0) lower.1 (NumberFits lower.0) × (is_at (spine_upper s.batches) lower.0 ≡ true)
      → Took lower.1 (frontier_bytes upper.0) upper.1 (FrontierFits upper.0) × (may_end s is_last lower.0 upper.0 ≡ true)
      → Took upper.1 (number_bytes since.0) since.1 (NumberFits since.0) × (since.0 ≤ s.since)
      → Took since.1 (number_bytes rows.0) rows.1 (NumberFits rows.0) × (rows.0 ≤ s.weight - rows_of s.batches)
      → is_part_count rows.0 count.0 ≡ true
      → Took rows.1 (keys_bytes keys.0) keys.1 (PartKeysFit keys.0) × (length keys.0 ≡ count.0) × KeysMay s (keys_of s.batches ++ []) keys.0
      → TookBatch s is_last bytes (record { desc = record { lower = lower.0; upper = upper.0; since = since.0 }; parts = keys.0; rows = rows.0 }, keys.1)
  batch_made s is_last bytes lower upper since rows count keys t0 t1 t2 t3 counts t4 =
      let b4 = keys_bytes keys.0 in
      let b3 = number_bytes rows.0 ++ b4 in
      let b2 = number_bytes since.0 ++ b3 in
      let b1 = frontier_bytes upper.0 ++ b2 in
      let e3 = took_then since.1 (number_bytes rows.0) rows.1 b4 keys.1 t3.0 t4.0 in
      let e2 = took_then upper.1 (number_bytes since.0) since.1 b3 keys.1 t2.0 e3 in
      let e1 = took_then lower.1 (frontier_bytes upper.0) upper.1 b2 keys.1 t1.0 e2 in
      let e0 = took_then bytes (number_bytes lower.0) lower.1 b1 keys.1 t0.0 e1 in (
        record { parts = e0.parts; rest_is = e0.rest_is; fits = λ h. let f = e0.fits h in record { lower = f.0; upper = f.1.0; since = f.1.1.0; rows = f.1.1.1.0; parts = f.1.1.1.1 } },
        record { lower = t0.1; ends = t1.1; since = t2.1; rows = t3.1; count = subst (λ (n : ℕ). is_part_count rows.0 n ≡ true) (sym t4.1) counts; keys = t4.2 },
      )

  pub batch_took : (s : ShardState) (is_last : Bool) (bytes : List ℕ) (x : Batch × List ℕ) → Rise s.members → batch_at total s is_last bytes ≡ Ok x → TookBatch s is_last bytes x
  unfolding batch_at
  batch_took s is_last bytes x r e =
      bind_then (lower_at total s bytes) _ x e (λ lower h0 k0.
      bind_then (upper_at total s is_last lower.0 lower.1) _ x k0 (λ upper h1 k1.
      bind_then (limited_at total s.since upper.1) _ x k1 (λ since h2 k2.
      bind_then (limited_at total (s.weight - rows_of s.batches) since.1) _ x k2 (λ rows h3 k3.
      bind_then (part_count_at total rows.0 rows.1) _ x k3 (λ count h4 k4.
      bind_then (keys_at total s [] count.0 count.1) _ x k4 (λ keys h5 k5.
      subst (λ (y : Batch × List ℕ). TookBatch s is_last bytes y) (ok_is (record { desc = record { lower = lower.0; upper = upper.0; since = since.0 }; parts = keys.0; rows = rows.0 }, keys.1) x k5)
      (batch_made s is_last bytes lower upper since rows count keys (lower_took s bytes lower h0) (upper_took s is_last lower.0 lower.1 upper h1) (limited_took total s.since upper.1 since h2)
      (limited_took total (s.weight - rows_of s.batches) since.1 rows h3) (count_took rows.0 rows.1 count h4).1
      (parts_took s count rows.1 keys (count_took rows.0 rows.1 count h4).0 (keys_took total count.0 s [] count.1 keys r h5)))))))))

  pub batch_again : (s : ShardState) (is_last : Bool) (b : Batch) (rest : List ℕ) → BatchFits b → BatchMay s is_last b → batch_at total s is_last (batch_bytes b ++ rest) ≡ Ok (b, rest)
  unfolding batch_at
  batch_again s is_last b rest f may =
      let r4 = flat_map key_bytes b.parts ++ rest in
      let r3 = number_bytes (length b.parts) ++ r4 in
      let r2 = number_bytes b.rows ++ r3 in
      let r1 = number_bytes b.desc.since ++ r2 in
      let r0 = frontier_bytes b.desc.upper ++ r1 in
      let regrouped : batch_bytes b ++ rest ≡ number_bytes b.desc.lower ++ r0 = simp append_assoc in
      ap (batch_at total s is_last) regrouped
      ∙ rw (
        lower_again s b.desc.lower r0 f.lower may.lower,
        upper_again s is_last b.desc.lower b.desc.upper r1 f.upper may.ends,
        limited_again total s.since b.desc.since r2 f.since may.since,
        limited_again total (s.weight - rows_of s.batches) b.rows r3 f.rows may.rows,
        count_again b.rows (length b.parts) r4 f.parts.count may.count,
        keys_again total b.parts s [] rest f.parts.each may.keys,
      ) refl
