-- What batches hold of a collection.
use Rattle.std.proofs.Common.{◌≡◌, ℕ, ◌+ℤ◌, true, false, Option, Some, None, List, [], ◌∷◌, ◌++◌, refl, sym, ap, subst, ◌∙◌, arith}
use Rattle.std.proofs.lemmas.Bool.Decides.{nat_tests}
use Rattle.std.proofs.lemmas.Cmp.{tied_itself, upto}
use Rattle.std.specs.Ordering.{is_gt}
use Rattle.update_core.specs.declared.updates.Update.{Update}
use Rattle.update_core.specs.Frontiers.{covers, frontier_cmp, frontier_total}
use Rattle.update_core.specs.Updates.{between, cons, moved, sum_of, OutOf}
use Rattle.update_core.proofs.UpdateLaws.{cons_is, is_cons}
use Rattle.update_core.proofs.SliceLaws.{between-more}
use Rattle.update_core.proofs.TallyLaws.{tally_of, tally_of-cons, tally_of-append, at_datum, at_moved, same_content, same_moved, tally_of-at_datum-moved, tally_of-at_moved-moved, tally-between_parts, between_itself, sum_of-covered}
use Rattle.spine_core.specs.declared.batches.Batch.{Batch}
use Rattle.spine_core.specs.declared.descs.Desc.{Desc}
use Rattle.spine_core.specs.Contents.{span_of, IsBatchOf, batch_of, held, IsMovedUpTo, Merges}
use Rattle.spine_core.specs.Spines.{Follows, IsSpine, upper_from, spine_upper}

-- the relation and the function say the same
pub batch_is : (us : List Update) (d : Desc) → IsBatchOf us d (batch_of us d)
batch_is us d = cons_is (span_of us d)

pub is_batch : (us : List Update) (d : Desc) (rows : List Update) → IsBatchOf us d rows → rows ≡ batch_of us d
is_batch us d rows h = is_cons (span_of us d) rows h

-- what comes later changes no batch
pub batch_of-more : (us more : List Update) (d : Desc) → OutOf d.upper more → batch_of (us ++ more) d ≡ batch_of us d
batch_of-more us more d out = ap (λ vs. cons (moved vs d.since)) (between-more us more (Some d.lower) d.upper out)

upwards : (f : Option ℕ) (t : ℕ) → covers f t ≡ true → is_gt (frontier_cmp (Some t) f) ≡ false
upwards None t h = refl
upwards (Some u) t h = grind (arith, nat_tests)

-- two batches that follow one another come to the one of both spans
pub batches_merge : (us : List Update) (left right merged : Desc) → Merges left right merged → cons (moved (batch_of us left ++ batch_of us right) merged.since) ≡ batch_of us merged
batches_merge us left right merged h =
    same_moved (batch_of us left ++ batch_of us right) (between (Some merged.lower) merged.upper us) merged.since (λ k.
    let p = at_moved merged.since k in
    let first : tally_of p (batch_of us left) ≡ tally_of p (between (Some left.lower) (Some right.lower) us) =
    tally_of-cons p (span_of us left) ∙ tally_of-at_moved-moved (between (Some left.lower) left.upper us) left.since merged.since k h.left_since ∙ ap (λ g. tally_of p (between (Some left.lower) g us)) h.next in
    let second : tally_of p (batch_of us right) ≡ tally_of p (between (Some right.lower) right.upper us) =
    tally_of-cons p (span_of us right) ∙ tally_of-at_moved-moved (between (Some right.lower) right.upper us) right.since merged.since k h.right_since in
    let both = tally-between_parts p us (Some left.lower) (Some right.lower) right.upper (subst (λ g. is_gt (frontier_cmp (Some left.lower) g) ≡ false) h.next (upwards left.upper left.lower h.left_some)) (upwards right.upper right.lower h.right_some) in
    tally_of-append p (batch_of us left) (batch_of us right) ∙ (λ i. first i +ℤ second i) ∙ sym both ∙ (λ i. tally_of p (between (Some (sym h.lower i)) (sym h.upper i) us)))

goes_up : (f : Option ℕ) (bs : List Batch) → Follows f bs → is_gt (frontier_cmp f (upper_from f bs)) ≡ false
goes_up f [] ok = ap is_gt (tied_itself frontier_total f)
goes_up f (b ∷ bs) ok = upto frontier_total f b.desc.upper (upper_from b.desc.upper bs) (first f b ok.0 ok.1) (goes_up b.desc.upper bs ok.2)
  where
    first : (f : Option ℕ) (b : Batch) → f ≡ Some b.desc.lower → covers b.desc.upper b.desc.lower ≡ true → is_gt (frontier_cmp f b.desc.upper) ≡ false
    first f b is some = subst (λ g. is_gt (frontier_cmp g b.desc.upper) ≡ false) (sym is) (upwards b.desc.upper b.desc.lower some)

tally_of-held : (us : List Update) (f : Option ℕ) (bs : List Batch) (t : ℕ) (d : List ℕ) → Follows f bs → IsMovedUpTo t bs → tally_of (at_datum t d) (held us bs) ≡ tally_of (at_datum t d) (between f (upper_from f bs) us)
tally_of-held us f [] t d ok up = ap (tally_of (at_datum t d)) (sym (between_itself f us))
tally_of-held us f (b ∷ bs) t d ok up =
    let p = at_datum t d in
    let first : tally_of p (batch_of us b.desc) ≡ tally_of p (between f b.desc.upper us) =
    tally_of-cons p (span_of us b.desc) ∙ tally_of-at_datum-moved (between (Some b.desc.lower) b.desc.upper us) b.desc.since t d up.0 ∙ ap (λ g. tally_of p (between g b.desc.upper us)) (sym ok.0) in
    let rest = tally_of-held us b.desc.upper bs t d ok.2 up.1 in
    let low : is_gt (frontier_cmp f b.desc.upper) ≡ false = subst (λ g. is_gt (frontier_cmp g b.desc.upper) ≡ false) (sym ok.0) (upwards b.desc.upper b.desc.lower ok.1) in
    tally_of-append p (batch_of us b.desc) (held us bs) ∙ (λ i. first i +ℤ rest i)
    ∙ sym (tally-between_parts p us f b.desc.upper (upper_from b.desc.upper bs) low (goes_up b.desc.upper bs ok.2))

-- the batches of a spine have the content of the collection from their sinces on up to their upper
pub spine_content : (us : List Update) (bs : List Batch) (t : ℕ) → IsSpine bs → IsMovedUpTo t bs → covers (spine_upper bs) t ≡ true → sum_of (held us bs) t ≡ sum_of us t
spine_content us bs t ok up known =
    same_content (held us bs) (between (Some 0) (spine_upper bs) us) t (λ d. tally_of-held us (Some 0) bs t d ok up) ∙ sum_of-covered us (spine_upper bs) t known
