-- The same of the rows of a part, one after the other, and of all bytes.
use Rattle.std.proofs.Common.{◌≡◌, ◌≢◌, ◌⊎◌, ℕ, zero, suc, ◌+◌, ◌-◌, ◌^◌, ◌<◌, ◌≤◌, Bool, true, false, cond, eqb, ltb, pos, Option, Some, None, List, [], ◌∷◌, ◌++◌, length, Result, Ok, Err, refl, sym, ap, subst, ◌∙◌, append_assoc, arith, inl, inr}
use Rattle.std.specs.Int.{w32, to_be_bytes}
use Rattle.std.specs.List.{flat_map, AllByRecursion}
use Rattle.std.proofs.lemmas.Bool.{eqb-true}
use Rattle.std.proofs.lemmas.Bool.Decides.{nat_tests}
use Rattle.std.proofs.lemmas.Grind.{flat_map-append}
use Rattle.std.proofs.lemmas.List.{append-nil, length-append}
use Rattle.std.proofs.lemmas.List.Concat.{flat_map-cons}
use Rattle.update_core.specs.declared.updates.Update.{Update}
use Rattle.store_core.specs.Stores.{last_of}
use Rattle.byte_core.specs.ByteLists.{IsBytes}
use Rattle.byte_core.specs.Reading.{place}
use Rattle.byte_core.proofs.Wide.{wide32}
use Rattle.part_codec.specs.declared.part_faults.PartFault.{PartFault}
use Rattle.part_codec.specs.declared.part_faults.PartFault.TheVariants as faults
use Rattle.part_codec.specs.Parts.{row_bytes, Fits, NonZero}
use Rattle.part_codec.specs.Reading.{◌>>=◌, magic_at, form_at, count_at, fields_at, follows, row_at, rows_at, all_of}
use Rattle.part_codec.specs.Refusals.{letters, IsRowRefused, IsRefused, Begins, HasBadRow, HasTrailing, place_after}
use Rattle.part_codec.proofs.Fields.{magic_takes, form_takes, count_takes}
use Rattle.part_codec.proofs.Loop.{last_of-push}
use Rattle.part_codec.proofs.Parts as parts
use Rattle.part_codec.proofs.Refused.{bind_err, guard_failed, magic_refused, form_refused, count_refused, fields_refused}
use Rattle.part_codec.proofs.Rising.{RisesAfter, all_rise}

-- ---- rows that rise, and one more

-- the last of these, or else the one before
abbrev pub last_or : Option Update → List Update → Option Update
last_or before [] = before
last_or before (u ∷ us) = last_or (Some u) us

last_or_some : (u : Update) (us : List Update) → last_or (Some u) us ≡ last_of (u ∷ us)
last_or_some u [] = refl
last_or_some u (v ∷ us) = last_or_some v us

pub last_or_is : (us : List Update) → last_or None us ≡ last_of us
last_or_is [] = refl
last_or_is (u ∷ us) = last_or_some u us

rises_more : (before : Option Update) (us : List Update) (u : Update) → RisesAfter before us → follows (last_or before us) u ≡ true → RisesAfter before (us ++ u ∷ [])
rises_more before [] u rises above = (above, tt)
rises_more before (v ∷ us) u rises above = (rises.0, rises_more (Some v) us u rises.1 above)

fits_more : (us : List Update) (u : Update) → AllByRecursion Fits us → Fits u → AllByRecursion Fits (us ++ u ∷ [])
fits_more [] u all fits = (fits, tt)
fits_more (v ∷ us) u all fits = (all.0, fits_more us u all.1 fits)

nonzero_more : (us : List Update) (u : Update) → NonZero us → u.diff ≢ pos 0 → NonZero (us ++ u ∷ [])
nonzero_more [] u all some = (some, tt)
nonzero_more (v ∷ us) u all some = (all.0, nonzero_more us u all.1 some)

one_spelled : (us : List Update) (u : Update) (after : List ℕ) → flat_map row_bytes (us ++ u ∷ []) ++ after ≡ flat_map row_bytes us ++ (row_bytes u ++ after)
one_spelled us u after =
    ap (λ (x : List ℕ). x ++ after) (flat_map-append row_bytes us (u ∷ []))
    ∙ append_assoc (flat_map row_bytes us) (flat_map row_bytes (u ∷ [])) after
    ∙ ap (λ (x : List ℕ). flat_map row_bytes us ++ (x ++ after)) (flat_map-cons row_bytes u [] ∙ append-nil (row_bytes u))

-- the rows that were read so far
pub record SoFar (bytes : List ℕ) (count : ℕ) (rows : List Update) (rest : List ℕ) : Type 0 where
  pub few : count ≤ 4096
  pub spelled : bytes ≡ letters ++ 1 ∷ (to_be_bytes w32 count ++ (flat_map row_bytes rows ++ rest))
  pub rises : RisesAfter None rows
  pub nonzero : NonZero rows
  pub fits : AllByRecursion Fits rows

begins : (bytes : List ℕ) (count : ℕ) (rows : List Update) (rest : List ℕ) → SoFar bytes count rows rest → Begins bytes count rows rest
begins bytes count rows rest s = record { few = s.few; spelled = s.spelled; rising = all_rise None rows s.rises; nonzero = s.nonzero; fits = s.fits }

-- how long they are
pub size : (bytes : List ℕ) (count : ℕ) (rows : List Update) (rest : List ℕ) →
    bytes ≡ letters ++ 1 ∷ (to_be_bytes w32 count ++ (flat_map row_bytes rows ++ rest)) → length bytes ≡ place_after rows + length rest
size bytes count rows rest is =
    omega (
      arith,
      ap (λ (x : List ℕ). length x) is,
      length-append (to_be_bytes w32 count) (flat_map row_bytes rows ++ rest),
      wide32.len count,
      length-append (flat_map row_bytes rows) rest,
    )

pub place_is : (bytes : List ℕ) (rows : List Update) (rest : List ℕ) → length bytes ≡ place_after rows + length rest → place (length bytes) rest ≡ place_after rows
place_is bytes rows rest is = omega (arith, is)

-- ---- a row

row_refused : (total : ℕ) (before : Option Update) (rest : List ℕ) (e : PartFault) → IsBytes rest → length rest ≤ total → row_at total before rest ≡ Err e →
    IsRowRefused before (place total rest) e rest
unfolding row_at
row_refused total before rest e fits within h =
    elim (bind_err (fields_at total rest) (λ row. cond (follows before row.0) (Ok row) (Err (faults.Order (place total rest)))) e h) [
      | inl bad ↦ fields_refused total before rest e fits within bad
      | inr (row, is, refuses) ↦
          let g = guard_failed (follows before row.0) (faults.Order (place total rest)) e row refuses in
          let t = parts.fields_take total rest row fits is in
          subst (λ (f : PartFault). IsRowRefused before (place total rest) f rest) g.1 (refl, row.0, row.1, t.1, t.2, t.0.parts, g.0)
    ]

bad_here : (bytes : List ℕ) (count : ℕ) (rows : List Update) (rest : List ℕ) (e : PartFault) → SoFar bytes count rows rest → IsBytes rest → length rows < count →
    row_at (length bytes) (last_of rows) rest ≡ Err e → HasBadRow e bytes
bad_here bytes count rows rest e s fits less h =
    let long = size bytes count rows rest s.spelled in
    let row = row_refused (length bytes) (last_of rows) rest e fits (omega (arith, long)) h in
    record {
      count = count;
      rows = rows;
      rest = rest;
      begins = begins bytes count rows rest s;
      more = less;
      row = subst (λ (at : ℕ). IsRowRefused (last_of rows) at e rest) (place_is bytes rows rest long) row;
    }

rows_refused : (n : ℕ) (bytes : List ℕ) (count : ℕ) (rows : List Update) (rest : List ℕ) (e : PartFault) → SoFar bytes count rows rest → IsBytes rest →
    length rows + n ≡ count → rows_at (length bytes) n (last_of rows) rest ≡ Err e → HasBadRow e bytes
unfolding rows_at
rows_refused zero bytes count rows rest e s fits all h = absurd cc
rows_refused (suc n) bytes count rows rest e s fits all h =
    let total = length bytes in
    elim (bind_err (row_at total (last_of rows) rest) (λ first. rows_at total n (Some first.0) first.1 >>= λ others. Ok (first.0 ∷ others.0, others.1)) e h) [
      | inl bad ↦ bad_here bytes count rows rest e s fits (omega (arith, all)) bad
      | inr (first, is, next) ↦
          let t = parts.row_takes total (last_of rows) rest first fits is in
          let u = first.0 in
          let more : SoFar bytes count (rows ++ u ∷ []) first.1 = record {
            few = s.few;
            spelled = s.spelled ∙ ap (λ (x : List ℕ). letters ++ 1 ∷ (to_be_bytes w32 count ++ x))
                (ap (λ (x : List ℕ). flat_map row_bytes rows ++ x) t.0.parts ∙ sym (one_spelled rows u first.1));
            rises = rises_more None rows u s.rises (ap (λ (b : Option Update). follows b u) (last_or_is rows) ∙ t.1.follows);
            nonzero = nonzero_more rows u s.nonzero t.1.nonzero;
            fits = fits_more rows u s.fits t.1.fits;
          } in
          elim (bind_err (rows_at total n (Some u) first.1) (λ others. Ok (u ∷ others.0, others.1)) e next) [
            | inl bad ↦
                rows_refused n bytes count (rows ++ u ∷ []) first.1 e more t.0.rest_fits (omega (arith, all, length-append rows (u ∷ [])))
                (ap (λ (b : Option Update). rows_at total n b first.1) (last_of-push rows u) ∙ bad)
            | inr (others, is_others, done) ↦ absurd cc
          ]
    ]

-- ---- all

nothing_more : (xs : List ℕ) → eqb (length xs) 0 ≡ false → xs ≢ []
nothing_more [] some is = absurd cc
nothing_more (x ∷ xs) some is = absurd cc

pub refused : (bytes : List ℕ) (e : PartFault) → IsBytes bytes → all_of bytes ≡ Err e → IsRefused e bytes
unfolding all_of
refused bytes e fits h =
    let n = length bytes in
    let end : List Update × List ℕ → Result (List Update) PartFault = λ rows. cond (eqb (length rows.1) 0) (Ok rows.0) (Err (faults.Trailing (place n rows.1))) in
    elim (bind_err (magic_at n bytes) (λ letters. form_at n letters >>= λ form. count_at n form >>= λ count. rows_at n count.0 None count.1 >>= end) e h) [
      | inl bad ↦ inl (magic_refused n bytes e fits refl bad)
      | inr (a, is_a, next_a) ↦
          let t0 = magic_takes n bytes a fits is_a in
          elim (bind_err (form_at n a) (λ form. count_at n form >>= λ count. rows_at n count.0 None count.1 >>= end) e next_a) [
            | inl bad ↦ inl (form_refused n bytes a e t0.parts refl bad)
            | inr (b, is_b, next_b) ↦
                let t1 = form_takes n a b t0.rest_fits is_b in
                let to_b : bytes ≡ letters ++ 1 ∷ b = t0.parts ∙ ap (λ (x : List ℕ). letters ++ x) t1.parts in
                elim (bind_err (count_at n b) (λ count. rows_at n count.0 None count.1 >>= end) e next_b) [
                  | inl bad ↦ inl (count_refused n bytes b e t1.rest_fits to_b refl bad)
                  | inr (c, is_c, next_c) ↦
                      let t2 = count_takes n b c t1.rest_fits is_c in
                      let to_c : bytes ≡ letters ++ 1 ∷ (to_be_bytes w32 c.0 ++ c.1) = to_b ∙ ap (λ (x : List ℕ). letters ++ 1 ∷ x) t2.0.parts in
                      let none : SoFar bytes c.0 [] c.1 = record { few = t2.1; spelled = to_c; rises = tt; nonzero = tt; fits = tt } in
                      elim (bind_err (rows_at n c.0 None c.1) end e next_c) [
                        | inl bad ↦ inr (inl (rows_refused c.0 bytes c.0 [] c.1 e none t2.0.rest_fits (omega arith) bad))
                        | inr (d, is_d, last) ↦
                            let g = guard_failed (eqb (length d.1) 0) (faults.Trailing (place n d.1)) e d.0 last in
                            let t3 = parts.rows_take n c.0 None c.1 d t2.0.rest_fits is_d in
                            let whole : SoFar bytes (length d.0) d.0 d.1 = record {
                              few = omega (arith, t2.1, t3.1.count);
                              spelled = to_c ∙ ap (λ (x : List ℕ). letters ++ 1 ∷ (to_be_bytes w32 c.0 ++ x)) t3.0.parts
                                  ∙ ap (λ (k : ℕ). letters ++ 1 ∷ (to_be_bytes w32 k ++ (flat_map row_bytes d.0 ++ d.1))) (sym t3.1.count);
                              rises = t3.1.rises;
                              nonzero = t3.1.nonzero;
                              fits = t3.1.fits;
                            } in
                            let at = place_is bytes d.0 d.1 (size bytes (length d.0) d.0 d.1 whole.spelled) in
                            inr (inr (record {
                              rows = d.0;
                              rest = d.1;
                              begins = begins bytes (length d.0) d.0 d.1 whole;
                              some = nothing_more d.1 g.0;
                              fault_is = sym g.1 ∙ ap (λ (p : ℕ). faults.Trailing p) at;
                            }))
                      ]
                ]
          ]
    ]
