-- What the bytes of a part tell of its rows.
use Rattle.std.proofs.Common.{◌≡◌, ◌&&◌, ℕ, zero, suc, ◌<◌, Bool, true, false, List, [], ◌∷◌, Some, None, Result, Ok, Err, refl, ap, ◌∙◌, arith, inl, inr}
use Rattle.std.specs.Prelude.{nat_lt, ◌↔◌}
use Rattle.std.specs.Result.{result_ok}
use Rattle.std.proofs.lemmas.Bool.{ltb-true, le-leb}
use Rattle.state_core.proofs.ListLemmas.{bool_cases}
use Rattle.update_core.specs.declared.updates.Update.{Update}
use Rattle.part_codec.specs.declared.part_faults.PartFault.{PartFault}
use Rattle.part_codec.specs.Parts.{NonZero, Part, Rising}
use Rattle.part_codec.specs.Reading.{all_of}
use Rattle.byte_core.proofs.ByteLists.{bytes_of_test, test_of_bytes}
use Rattle.byte_core.specs.ByteLists.{IsBytes}
use Rattle.part_codec.proofs.Parts.{all_again, is_found}
use Rattle.history_core.specs.Readings.{rows_in}
use Rattle.byte_core.specs.ByteLists.{are_bytes}

ok_from : (r : Result (List Update) PartFault) (rows : List Update) → result_ok r ≡ Some rows → r ≡ Ok rows
ok_from (Ok found) rows h = let same : found ≡ rows = cc in ap (λ (x : List Update). Ok x) same
ok_from (Err e) rows h = absurd (cc)

-- what is read is a part
pub rows_in_part : (b : List ℕ) (rows : List Update) → rows_in b ≡ Some rows → Part rows b
unfolding rows_in
rows_in_part b rows h = elim (bool_cases (are_bytes b)) [
  | inl e ↦
      let h2 : result_ok (all_of b) ≡ Some rows = rw e at h in
      is_found b (Ok rows) (bytes_of_test b e) (ok_from (all_of b) rows h2)
  | inr e ↦ let h2 : None ≡ Some rows = rw e at h in absurd (cc)
]

pub rows_in_nonzero : (b : List ℕ) (rows : List Update) → rows_in b ≡ Some rows → NonZero rows
rows_in_nonzero b rows h = (rows_in_part b rows h).0.nonzero

pub rows_in_rising : (b : List ℕ) (rows : List Update) → rows_in b ≡ Some rows → Rising rows
rows_in_rising b rows h = (rows_in_part b rows h).0.rising

-- of bytes, reading tells the rows
pub rows_in_bytes : (b : List ℕ) → IsBytes b → rows_in b ≡ result_ok (all_of b)
unfolding rows_in
rows_in_bytes b h = rw (test_of_bytes b h) refl

test_if_read : (b : List ℕ) (rows : List Update) → rows_in b ≡ Some rows → are_bytes b ≡ true
unfolding rows_in
test_if_read b rows h = elim (bool_cases (are_bytes b)) [
  | inl e ↦ e
  | inr e ↦ let h2 : None ≡ Some rows = rw e at h in absurd (cc)
]

-- rows are read exactly from the bytes that are the part with them
pub rows_in_is_part : (rows : List Update) (b : List ℕ) → (rows_in b ≡ Some rows) ↔ ((are_bytes b ≡ true) × Part rows b)
rows_in_is_part rows b =
    (λ h. (test_if_read b rows h, rows_in_part b rows h), λ p. rows_in_bytes b (bytes_of_test b p.0) ∙ ap result_ok (ap all_of p.1.1 ∙ all_again rows p.1.0))
