-- Laws of rows at the times that bindings give them.
use Rattle.std.proofs.Common.{◌≡◌, ℕ, ◌+◌, ◌<◌, ◌≤◌, Option, Some, None, List, [], ◌∷◌, ◌++◌, take, length, get_or, max, refl, sym, ap, ◌∙◌}
use Rattle.std.proofs.Common.{arith}
use Rattle.std.proofs.lemmas.List.Sums.{sum_by-cons}
use Rattle.std.proofs.lemmas.List.{take_more}
use Rattle.std.specs.Int.RustNames.{unsigned_abs}
use Rattle.update_core.specs.declared.updates.Update.{Update}
use Rattle.update_core.specs.Updates.{weight_of}
use Rattle.remap_core.specs.declared.source_rows.SourceRow.{SourceRow}
use Rattle.remap_core.specs.Bound.{bind}
use Rattle.remap_core.specs.Reclocking.{update_of, bound, weight_of_rows}

weight_one : (r : SourceRow) (s : ℕ) (t : Option ℕ) (us : List Update) (n : ℕ) → weight_of us ≤ n
    → weight_of (update_of r s t ++ us) ≤ unsigned_abs r.diff + n
weight_one r s None us n h = omega arith
weight_one r s (Some t) us n h =
    omega (arith, sum_by-cons (λ (u : Update). unsigned_abs u.diff) (record { datum = r.datum; time = max t s; diff = r.diff }) us)

pub weight_of-bound : (rs : List SourceRow) (bs : List (ℕ × List ℕ)) (s : ℕ) → weight_of (bound rs bs s) ≤ weight_of_rows rs
unfolding bound
weight_of-bound [] bs s = omega arith
weight_of-bound (r ∷ rs) bs s =
    omega (
      arith,
      weight_one r s (bind bs r.partition r.offset) (bound rs bs s) (weight_of_rows rs) (weight_of-bound rs bs s),
      sum_by-cons (λ (x : SourceRow). unsigned_abs x.diff) r rs,
    )

-- bound with one more row
pub bound-push : (rs : List SourceRow) (r : SourceRow) (bs : List (ℕ × List ℕ)) (s : ℕ) → bound (rs ++ r ∷ []) bs s
    ≡ bound rs bs s ++ update_of r s (bind bs r.partition r.offset)
unfolding bound
bound-push [] r bs s = last (update_of r s (bind bs r.partition r.offset))
  where
    last : (us : List Update) → us ++ [] ≡ us
    last [] = refl
    last (u ∷ us) = λ i. u ∷ last us i
bound-push (q ∷ rs) r bs s = ap (λ us. update_of q s (bind bs q.partition q.offset) ++ us) (bound-push rs r bs s)
    ∙ parts (update_of q s (bind bs q.partition q.offset)) (bound rs bs s) (update_of r s (bind bs r.partition r.offset))
  where
    parts : (us vs ws : List Update) → us ++ (vs ++ ws) ≡ (us ++ vs) ++ ws
    parts [] vs ws = refl
    parts (u ∷ us) vs ws = λ i. u ∷ parts us vs ws i

pub bound-take : (rs : List SourceRow) (i : ℕ) (r : SourceRow) (bs : List (ℕ × List ℕ)) (s : ℕ) → i < length rs → r ≡ get_or rs i r
    → bound (take (i + 1) rs) bs s ≡ bound (take i rs) bs s ++ update_of r s (bind bs r.partition r.offset)
bound-take rs i r bs s h is = ap (λ qs. bound qs bs s) (take_more rs i r h ∙ ap (λ q. take i rs ++ q ∷ []) (sym is))
    ∙ bound-push (take i rs) r bs s
