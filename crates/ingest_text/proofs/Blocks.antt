-- What takes a line in a block, and which of both a line is in.
use Rattle.std.proofs.Common.{◌≡◌, ◌≢◌, ◌⊎◌, inl, inr, ℕ, Option, Some, None, Result, Ok, Err, List, sym, subst, ◌∙◌}
use Rattle.std.specs.Prelude.{IfOk}
use Rattle.update_core.specs.declared.appends.FeedAppend.{FeedAppend}
use Rattle.update_core.specs.declared.updates.Update.{Update}
use Rattle.feed_text.specs.Grammar.{IsRow, dot_line, row_line}
use Rattle.feed_text.proofs.Rows.{row_one}
use Rattle.ingest_text.specs.declared.counts.SoFar.{SoFar}
use Rattle.ingest_text.specs.declared.feeds.IngestFeed.{IngestFeed}
use Rattle.ingest_text.specs.declared.feeds.Said.{Said}
use Rattle.ingest_text.specs.Feeds.{DotLine, MayAdd, RowLine, Takes, with_row}
use Rattle.ingest_text.specs.Reading.{Answers, Does}

module _ (feed : IngestFeed) (block : FeedAppend) where
  abbrev Here : Said
  Here = record { feed = feed; block = Some block }

  -- what is answered of a dot, of a line that is one
  pub dot_here : {E : Type 0} (line : List ℕ) → line ≡ dot_line → (r : Result (Option SoFar) E) →
      IfOk r (Answers (λ t. Takes Here dot_line t)) → IfOk r (Answers (λ t. Takes Here line t))
  dot_here line is r h = subst (λ (l : List ℕ). IfOk r (Answers (λ t. Takes Here l t))) (sym is) h

  module _ (line : List ℕ) (apart : line ≢ dot_line) where
    pub row_found : {E : Type 0} (row : Update) → IsRow row → line ≡ row_line row → (r : Result (Option SoFar) E) →
        IfOk r (Does (MayAdd feed block row) (with_row Here block row)) → IfOk r (Answers (λ t. Takes Here line t))
    row_found row within is (Err e) h = tt
    row_found row within is (Ok None) h = go
      where
        go : (t : Said) → DotLine Here block line t ⊎ RowLine Here block line t → ⊥
        go t (inl x) = apart x.0
        go t (inr x) = h (subst (λ (u : Update). MayAdd feed block u) (row_one x.row row x.row_is within (sym x.text ∙ is)) x.may)
    row_found row within is (Ok (Some x)) h =
        (inr (record { row = row; row_is = within; text = is; may = h.0; after = h.1 }), h.2)

    pub no_row : ((u : Update) → IsRow u → line ≡ row_line u → ⊥) → (t : Said) → Takes Here line t → ⊥
    no_row none t (inl x) = apart x.0
    no_row none t (inr x) = none x.row x.row_is x.text

-- what is answered of a line where the block is this one
pub with_its_block : {E : Type 0} (s : Said) (block : Option FeedAppend) (line : List ℕ) → s.block ≡ block → (r : Result (Option SoFar) E) →
    IfOk r (Answers (λ t. Takes (record { feed = s.feed; block = block }) line t)) → IfOk r (Answers (λ t. Takes s line t))
with_its_block s block line is r h =
    let same : ◌≡◌ {A = Said} (record { feed = s.feed; block = block }) s = λ i. record { feed = s.feed; block = sym is i } in
    subst (λ (x : Said). IfOk r (Answers (λ t. Takes x line t))) same h
