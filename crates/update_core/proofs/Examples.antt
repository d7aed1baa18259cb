-- The plain collection at work, by computation.
use Rattle.std.proofs.Common.{◌≡◌, ℕ, ◌^◌, ℤ, pos, negsuc, Some, None, List, [], ◌∷◌, refl}
use Rattle.std.specs.Prelude.{codes}
use Rattle.update_core.specs.declared.rows.Row.{Row}
use Rattle.update_core.specs.declared.updates.Update.{Update}
use Rattle.update_core.specs.Totals.{consolidated}
use Rattle.update_core.specs.Collections.{Collection, empty_collection, accepted, mismatch, heavy, append_answer, after_append, content, late, snapshot_answer, behind, ended, quiet, step, listen_answer}

abbrev update : List ℕ → ℕ → ℤ → Update
update datum time diff = record { datum = datum; time = time; diff = diff }

abbrev row : List ℕ → ℤ → Row
row datum diff = record { datum = datum; diff = diff }

-- an apple from 3 to 7 and a pear from 4 on
abbrev fruit : List Update
fruit = update (codes "apple") 3 (pos 1) ∷ update (codes "pear") 4 (pos 1) ∷ update (codes "apple") 7 (negsuc 0) ∷ []

abbrev basket : Collection
basket = after_append empty_collection fruit 0 (Some 10) 3

fruit_accepted : append_answer empty_collection 0 3 ≡ accepted
fruit_accepted = refl

basket_upper : basket.upper ≡ Some 10
basket_upper = refl

basket_at_5 : snapshot_answer basket 5 ≡ content (row (codes "apple") (pos 1) ∷ row (codes "pear") (pos 1) ∷ [])
unfolding consolidated
basket_at_5 = refl

basket_at_7 : snapshot_answer basket 7 ≡ content (row (codes "pear") (pos 1) ∷ [])
unfolding consolidated
basket_at_7 = refl

basket_too_late : snapshot_answer basket 10 ≡ late (Some 10)
basket_too_late = refl

append_with_a_gap : append_answer empty_collection 3 1 ≡ mismatch (Some 0)
append_with_a_gap = refl

full : Collection
full = record { updates = []; since = 0; upper = Some 0; weight = 2 ^ 62 }

append_past_the_weight : append_answer full 0 1 ≡ heavy (2 ^ 62)
unfolding full
append_past_the_weight = refl

-- the basket from 4 on, in time
basket_from_4 : listen_answer basket (Some 4) ≡ step (update (codes "pear") 4 (pos 1) ∷ update (codes "apple") 7 (negsuc 0) ∷ []) (Some 10)
unfolding consolidated
basket_from_4 = refl

basket_from_its_upper : listen_answer basket (Some 10) ≡ quiet (Some 10)
basket_from_its_upper = refl

basket_from_its_since : listen_answer basket (Some 0) ≡ behind 0
basket_from_its_since = refl

basket_from_closed : listen_answer basket None ≡ quiet (Some 10)
basket_from_closed = refl

closed_basket : Collection
closed_basket = after_append basket [] 10 None 0

closed_basket_from_closed : listen_answer closed_basket None ≡ ended
unfolding closed_basket
closed_basket_from_closed = refl
