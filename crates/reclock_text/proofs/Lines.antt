-- What a line makes of a feed so far.
use Rattle.std.proofs.Common.{◌≡◌, ◌⊎◌, inl, inr, ℕ, ◌<◌, ◌≤◌, Option, Some, None, Result, Ok, Err, List, [], ◌∷◌, ◌++◌, length, refl, sym, ap, subst, ◌∙◌, arith}
use Rattle.std.specs.Prelude.{IfOk, IfSome, MatchOption}
use borrow.Author.Tests.{eqb-false}
use Rattle.remap_core.specs.declared.source_rows.SourceRow.{SourceRow}
use Rattle.remap_core.specs.Reclocking.{weight_of_rows}
use Rattle.feed_text.specs.declared.limits.TheConstants.{MAX_ROWS}
use Rattle.reclock_text.specs.declared.feeds.ReclockFeed.{ReclockFeed}
use Rattle.reclock_text.specs.declared.limits.TheConstants.{MAX_SAWS, MAX_WEIGHT}
use Rattle.reclock_text.specs.declared.reclock_reading.SoFar.{SoFar}
use Rattle.reclock_text.specs.declared.saws.Saw.{Saw}
use Rattle.reclock_text.specs.Saws.{IsSawLine}
use Rattle.reclock_text.specs.Sources.{IsSourceRow, source_line}
use Rattle.reclock_text.specs.Feeds.{Takes}
use Rattle.reclock_text.proofs.SawWords.{NoSaw}
use Rattle.reclock_text.proofs.SourceWords.{source_one}
use Rattle.reclock_text.proofs.Words.{heads}

-- no line says both
pub not_both : (operators : ℕ) (line : List ℕ) (s : Saw) (r : SourceRow) → IsSawLine operators line s → line ≡ source_line r → ⊥
not_both operators line s r is e = eqb-false 115 114 refl (heads (sym is.is ∙ e))

-- what is answered of a line, by what takes it
abbrev pub Found : {E : Type 0} → Result (Option SoFar) E → ℕ → ReclockFeed → List ℕ → Type 0
Found r operators s line = IfOk r (λ found. MatchOption found ((t : ReclockFeed) → Takes operators s line t →
    ⊥) (λ x. Takes operators s line x.feed))

module _ (operators : ℕ) (s : SoFar) (line : List ℕ) where
  abbrev SawFound : Saw → Option SoFar → Type 0
  SawFound saw found = MatchOption found (MAX_SAWS ≤ length s.feed.saws)
      (λ r. (length s.feed.saws < MAX_SAWS) × (r ≡ record s { feed = record s.feed { saws = s.feed.saws ++ saw ∷ [] } }))

  pub saw_found : {E : Type 0} (saw : Saw) → IsSawLine operators line saw → (r : Result (Option SoFar) E) → IfOk r (SawFound saw) →
      Found r operators s.feed line
  saw_found saw is (Err e) h = tt
  saw_found saw is (Ok None) h = go
    where
      go : (t : ReclockFeed) → Takes operators s.feed line t → ⊥
      go t (inl x) = let few = x.few in omega (arith, few, h)
      go t (inr x) = not_both operators line saw x.row is x.text
  saw_found saw is (Ok (Some r)) h = inl (record { saw = saw; text = is; few = h.0; after = ap (λ (x : SoFar). x.feed) h.1 })

  pub saw_weighed : {E : Type 0} (saw : Saw) (r : Result (Option SoFar) E) → IfOk r (SawFound saw) →
      s.weight ≤ MAX_WEIGHT → s.weight ≡ weight_of_rows s.feed.rows →
      IfOk r (λ found. IfSome found (λ r. (r.weight ≤ MAX_WEIGHT) × (r.weight ≡ weight_of_rows r.feed.rows)))
  saw_weighed saw (Err e) h light weighed = tt
  saw_weighed saw (Ok None) h light weighed = tt
  saw_weighed saw (Ok (Some r)) h light weighed =
      subst (λ (x : SoFar). (x.weight ≤ MAX_WEIGHT) × (x.weight ≡ weight_of_rows x.feed.rows)) (sym h.1) (light, weighed)

  abbrev RowFound : SourceRow → Option SoFar → Type 0
  RowFound row found = MatchOption found ((MAX_ROWS ≤ length s.feed.rows) ⊎ (MAX_WEIGHT < weight_of_rows (s.feed.rows ++ row ∷ [])))
      (λ r. (length s.feed.rows < MAX_ROWS) × (weight_of_rows (s.feed.rows ++ row ∷ []) ≤ MAX_WEIGHT)
      × (r.feed ≡ record s.feed { rows = s.feed.rows ++ row ∷ [] })
      × (r.weight ≡ weight_of_rows (s.feed.rows ++ row ∷ [])))

  pub row_found : {E : Type 0} (row : SourceRow) → NoSaw operators line → IsSourceRow row → line ≡ source_line row →
      (r : Result (Option SoFar) E) → IfOk r (RowFound row) → Found r operators s.feed line
  row_found row none within is (Err e) h = tt
  row_found row none within is (Ok None) h = go
    where
      go : (t : ReclockFeed) → Takes operators s.feed line t → ⊥
      go t (inl x) = none x.saw x.text
      go t (inr x) = refused x.row x.few x.light (source_one line row x.row within x.within is x.text) h
        where
          refused : (other : SourceRow) → length s.feed.rows < MAX_ROWS → weight_of_rows (s.feed.rows ++ other ∷ []) ≤ MAX_WEIGHT →
              row ≡ other → (MAX_ROWS ≤ length s.feed.rows) ⊎ (MAX_WEIGHT < weight_of_rows (s.feed.rows ++ row ∷ [])) → ⊥
          refused other few light same (inl many) = omega (arith, few, many)
          refused other few light same (inr heavy) =
              let equal : weight_of_rows (s.feed.rows ++ row ∷ []) ≡ weight_of_rows (s.feed.rows ++ other ∷ []) =
              ap (λ (x : SourceRow). weight_of_rows (s.feed.rows ++ x ∷ [])) same in
              omega (arith, equal, light, heavy)
  row_found row none within is (Ok (Some r)) h =
      inr (record { row = row; within = within; text = is; few = h.0; light = h.1; after = h.2 })

  pub row_weighed : {E : Type 0} (row : SourceRow) (r : Result (Option SoFar) E) → IfOk r (RowFound row) →
      IfOk r (λ found. IfSome found (λ r. (r.weight ≤ MAX_WEIGHT) × (r.weight ≡ weight_of_rows r.feed.rows)))
  row_weighed row (Err e) h = tt
  row_weighed row (Ok None) h = tt
  row_weighed row (Ok (Some r)) h =
      let light = h.1 in
      let is = h.3 in
      (omega (arith, light, is), is ∙ ap (λ (x : ReclockFeed). weight_of_rows x.rows) (sym h.2))

  pub neither : NoSaw operators line → ((r : SourceRow) → IsSourceRow r → line ≡ source_line r → ⊥) → (t : ReclockFeed) →
      Takes operators s.feed line t → ⊥
  neither no_saw no_row t (inl x) = no_saw x.saw x.text
  neither no_saw no_row t (inr x) = no_row x.row x.within x.text
