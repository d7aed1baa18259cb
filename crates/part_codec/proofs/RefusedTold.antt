-- Bytes that have a fault are refused so.
use Rattle.std.proofs.Common.{◌≡◌, ◌≢◌, ◌⊎◌, ℕ, zero, suc, ◌+◌, ◌-◌, ◌^◌, ◌<◌, ◌≤◌, Bool, true, false, cond, eqb, ltb, pos, Option, Some, None, List, [], ◌∷◌, ◌++◌, length, take, drop, Result, Ok, Err, refl, sym, ap, subst, ◌∙◌, append_assoc, arith, inl, inr}
use Rattle.std.specs.Prelude.{IfErr}
use Rattle.std.specs.Int.{Width, w32, w64, byte_len, to_be_bytes, from_be_bytes}
use Rattle.std.specs.List.{flat_map, AllByRecursion}
use Rattle.std.proofs.lemmas.Bool.{lt-ltb, le-ltb}
use Rattle.std.proofs.lemmas.Bool.Decides.{nat_tests}
use Rattle.std.proofs.lemmas.List.{append-nil, length-append}
use Rattle.std.proofs.lemmas.List.Concat.{flat_map-cons}
use Rattle.update_core.specs.declared.updates.Update.{Update}
use Rattle.store_core.specs.Stores.{last_of}
use Rattle.byte_core.specs.ByteLists.{IsBytes}
use Rattle.byte_core.specs.Reading.{place, short}
use Rattle.byte_core.proofs.Wide.{wide32, wide64}
use Rattle.part_codec.specs.declared.part_faults.PartFault.{PartFault}
use Rattle.part_codec.specs.declared.part_faults.PartFault.TheVariants as faults
use Rattle.part_codec.specs.Parts.{row_bytes, Fits, NonZero, IsPart, Part}
use Rattle.part_codec.specs.Reading.{◌>>=◌, Gives, number_at, magic, magic_at, form_at, count_at, length_at, datum_at, bits_at, fields_at, follows, row_at, rows_at, all_of}
use Rattle.part_codec.specs.Refusals.{letters, OtherLetters, IsHeadRefused, after_datum, after_time, IsRowRefused, IsRefused, Begins, HasBadRow, HasTrailing, place_after}
use Rattle.part_codec.proofs.Fields as fields
use Rattle.part_codec.proofs.Parts as parts
use Rattle.part_codec.proofs.Refused.{magic_refused}
use Rattle.part_codec.proofs.RefusedRows.{last_or, last_or_is, size, place_is, refused}
use Rattle.part_codec.proofs.Rising.{RisesAfter, each_rises}

not_zero : (n : ℕ) → 1 ≤ n → eqb n 0 ≡ false
not_zero n some = grind (arith, nat_tests, some)

not_one : (n : ℕ) → n ≢ 1 → eqb n 1 ≡ false
not_one n other = grind (arith, nat_tests, other)

some_left : (xs : List ℕ) → xs ≢ [] → eqb (length xs) 0 ≡ false
some_left [] some = absurd (some refl)
some_left (x ∷ xs) some = not_zero (length (x ∷ xs)) (omega arith)

module _ (total : ℕ) where
  -- too few bytes for a number
  cut_short : (w : Width) (bytes : List ℕ) → length bytes < byte_len w → number_at w total bytes ≡ Err (faults.Short (place total bytes))
  cut_short w bytes less = rw (lt-ltb _ _ less) refl

  -- ---- a row

  datum_is : (datum more : List ℕ) → 1 ≤ length datum → datum_at total (after_datum datum more) ≡ Ok (datum, more)
  datum_is datum more some = fields.datum_again total datum more some

  time_is : (time : ℕ) (more : List ℕ) → time < 2 ^ 64 → number_at w64 total (to_be_bytes w64 time ++ more) ≡ Ok (time, more)
  time_is time more less = fields.number_again total w64 (2 ^ 64) wide64 time more less

  no_length : (before : Option Update) → row_at total before [] ≡ Err (faults.Short (place total []))
  unfolding row_at fields_at datum_at length_at
  no_length before = refl

  zero_length : (before : Option Update) (more : List ℕ) → row_at total before (0 ∷ more) ≡ Err (faults.Size (place total (0 ∷ more)))
  unfolding row_at fields_at datum_at length_at
  zero_length before more = refl

  short_datum : (before : Option Update) (len : ℕ) (more : List ℕ) → 1 ≤ len → length more < len →
      row_at total before (len ∷ more) ≡ Err (faults.Short (place total more))
  unfolding row_at fields_at datum_at length_at
  short_datum before len more some less = rw (not_zero len some, lt-ltb _ _ less) refl

  short_time : (before : Option Update) (datum more : List ℕ) → 1 ≤ length datum → length more < 8 →
      row_at total before (after_datum datum more) ≡ Err (faults.Short (place total more))
  unfolding row_at fields_at
  short_time before datum more some less = rw (datum_is datum more some, cut_short w64 more less) refl

  short_bits : (before : Option Update) (datum : List ℕ) (time : ℕ) (more : List ℕ) → 1 ≤ length datum → time < 2 ^ 64 → length more < 8 →
      row_at total before (after_time datum time more) ≡ Err (faults.Short (place total more))
  unfolding row_at fields_at bits_at
  short_bits before datum time more some fits less =
      rw (datum_is datum (to_be_bytes w64 time ++ more) some, time_is time more fits, cut_short w64 more less) refl

  zero_bits : (before : Option Update) (datum : List ℕ) (time : ℕ) (more : List ℕ) → 1 ≤ length datum → time < 2 ^ 64 →
      row_at total before (after_time datum time (to_be_bytes w64 0 ++ more)) ≡ Err (faults.Zero (place total (to_be_bytes w64 0 ++ more)))
  unfolding row_at fields_at bits_at
  zero_bits before datum time more some fits =
      let rest = to_be_bytes w64 0 ++ more in
      rw (datum_is datum (to_be_bytes w64 time ++ rest) some, time_is time rest fits, time_is 0 more (omega arith)) refl

  out_of_order : (before : Option Update) (u : Update) (more : List ℕ) → Fits u → u.diff ≢ pos 0 → follows before u ≡ false →
      row_at total before (row_bytes u ++ more) ≡ Err (faults.Order (place total (row_bytes u ++ more)))
  unfolding row_at
  out_of_order before u more fits some below = rw (parts.fields_again total u more fits some, below) refl

  -- a fault at a place is the one at another that is the same
  moved : {A : Type 0} (read : Result A PartFault) (make : ℕ → PartFault) (p q : ℕ) → read ≡ Err (make q) → q ≡ p → read ≡ Err (make p)
  moved read make p q is same = is ∙ ap (λ (r : ℕ). Err (make r)) same

  long_datum : (rest datum more : List ℕ) → rest ≡ after_datum datum more → length rest ≡ 1 + (length datum + length more)
  long_datum rest datum more is = omega (arith, ap (λ (x : List ℕ). length x) is, length-append datum more)

  long_time : (rest datum more : List ℕ) (time : ℕ) → rest ≡ after_time datum time more → length rest ≡ 9 + (length datum + length more)
  long_time rest datum more time is =
      omega (arith, long_datum rest datum (to_be_bytes w64 time ++ more) is, length-append (to_be_bytes w64 time) more, wide64.len time)

  row_told : (before : Option Update) (rest : List ℕ) (e : PartFault) → length rest ≤ total → IsRowRefused before (place total rest) e rest →
      row_at total before rest ≡ Err e
  row_told before rest (faults.Short p) within (inl c) =
      ap (row_at total before) c.1 ∙ moved (row_at total before []) faults.Short p (place total []) (no_length before) (sym (c.0 ∙ ap (place total) c.1))
  row_told before rest (faults.Short p) within (inr (inl (at, len, more, is, some, less))) =
      ap (row_at total before) is
      ∙ moved (row_at total before (len ∷ more)) faults.Short p (place total more) (short_datum before len more some less)
      (omega (arith, at, within, ap (λ (x : List ℕ). length x) is))
  row_told before rest (faults.Short p) within (inr (inr (inl (datum, more, d, is, at, less)))) =
      ap (row_at total before) is
      ∙ moved (row_at total before (after_datum datum more)) faults.Short p (place total more) (short_time before datum more d.0 less)
      (omega (arith, at, within, long_datum rest datum more is))
  row_told before rest (faults.Short p) within (inr (inr (inr (datum, time, more, d, fits, is, at, less)))) =
      ap (row_at total before) is
      ∙ moved (row_at total before (after_time datum time more)) faults.Short p (place total more) (short_bits before datum time more d.0 fits less)
      (omega (arith, at, within, long_time rest datum more time is))
  row_told before rest (faults.Size p) within (at, more, is) =
      ap (row_at total before) is
      ∙ moved (row_at total before (0 ∷ more)) faults.Size p (place total (0 ∷ more)) (zero_length before more) (sym (at ∙ ap (place total) is))
  row_told before rest (faults.Zero p) within (datum, time, more, d, fits, is, at) =
      let bits = to_be_bytes w64 0 ++ more in
      ap (row_at total before) is
      ∙ moved (row_at total before (after_time datum time bits)) faults.Zero p (place total bits) (zero_bits before datum time more d.0 fits)
      (omega (arith, at, within, long_time rest datum bits time is))
  row_told before rest (faults.Order p) within (at, u, more, fits, some, is, below) =
      ap (row_at total before) is
      ∙ moved (row_at total before (row_bytes u ++ more)) faults.Order p (place total (row_bytes u ++ more)) (out_of_order before u more fits some below)
      (sym (at ∙ ap (place total) is))
  row_told before rest (faults.Magic p) within bad = absurd bad
  row_told before rest (faults.Form p) within bad = absurd bad
  row_told before rest (faults.Trailing p) within bad = absurd bad
  row_told before rest faults.Memory within bad = absurd bad

  -- ---- rows, and then one at fault

  -- so many rows, one more, and others
  abbrev pub count_with : List Update → ℕ → ℕ
  count_with [] n = suc n
  count_with (u ∷ us) n = suc (count_with us n)

  count_with_is : (us : List Update) (n : ℕ) → count_with us n ≡ suc (n + length us)
  count_with_is [] n = omega arith
  count_with_is (u ∷ us) n = omega (arith, count_with_is us n)

  rows_told : (rows : List Update) (before : Option Update) (n : ℕ) (rest : List ℕ) (e : PartFault) → AllByRecursion Fits rows → NonZero rows →
      RisesAfter before rows → row_at total (last_or before rows) rest ≡ Err e →
      rows_at total (count_with rows n) before (flat_map row_bytes rows ++ rest) ≡ Err e
  unfolding rows_at
  rows_told [] before n rest e fits some rises h = rw h refl
  rows_told (u ∷ us) before n rest e fits some rises h =
      let regrouped : flat_map row_bytes (u ∷ us) ++ rest ≡ row_bytes u ++ (flat_map row_bytes us ++ rest) =
      ap (λ (x : List ℕ). x ++ rest) (flat_map-cons row_bytes u us) ∙ append_assoc (row_bytes u) (flat_map row_bytes us) rest in
      ap (rows_at total (suc (count_with us n)) before) regrouped
      ∙ rw (parts.row_again total before u (flat_map row_bytes us ++ rest) fits.0 some.0 rises.0, rows_told us (Some u) n rest e fits.1 some.1 rises.1 h) refl

-- ---- the head

-- what follows the head
abbrev if_ended : ℕ → List Update × List ℕ → Result (List Update) PartFault
if_ended n rows = cond (eqb (length rows.1) 0) (Ok rows.0) (Err (faults.Trailing (place n rows.1)))

abbrev body_of : ℕ → ℕ → List ℕ → Result (List Update) PartFault
body_of n count rest = rows_at n count None rest >>= λ rows. if_ended n rows

magic_told : (bytes : List ℕ) (e : PartFault) → magic_at (length bytes) bytes ≡ Err e → all_of bytes ≡ Err e
unfolding all_of
magic_told bytes e h = rw h refl

form_told : (bytes rest : List ℕ) (e : PartFault) → bytes ≡ letters ++ rest → form_at (length bytes) rest ≡ Err e → all_of bytes ≡ Err e
unfolding all_of
form_told bytes rest e is h =
    let letters_read : magic_at (length bytes) bytes ≡ Ok rest = ap (magic_at (length bytes)) is ∙ fields.magic_again (length bytes) rest in
    rw (letters_read, h) refl

count_told : (bytes rest : List ℕ) (e : PartFault) → bytes ≡ letters ++ 1 ∷ rest → count_at (length bytes) rest ≡ Err e → all_of bytes ≡ Err e
unfolding all_of
count_told bytes rest e is h =
    let n = length bytes in
    let letters_read : magic_at n bytes ≡ Ok (1 ∷ rest) = ap (magic_at n) is ∙ fields.magic_again n (1 ∷ rest) in
    rw (letters_read, fields.form_again n rest, h) refl

body_told : (bytes rest : List ℕ) (count : ℕ) (e : PartFault) → bytes ≡ letters ++ 1 ∷ (to_be_bytes w32 count ++ rest) → count ≤ 4096 →
    body_of (length bytes) count rest ≡ Err e → all_of bytes ≡ Err e
unfolding all_of
body_told bytes rest count e is few h =
    let n = length bytes in
    let letters_read : magic_at n bytes ≡ Ok (1 ∷ (to_be_bytes w32 count ++ rest)) = ap (magic_at n) is ∙ fields.magic_again n (1 ∷ (to_be_bytes w32 count ++ rest)) in
    rw (letters_read, fields.form_again n (to_be_bytes w32 count ++ rest), fields.count_again n count rest few) h

short_letters : (total : ℕ) (bytes : List ℕ) → length bytes < 4 → magic_at total bytes ≡ Err (faults.Short (place total bytes))
unfolding magic_at
short_letters total bytes less = rw (cut_short total w32 bytes less) refl

no_form : (total : ℕ) → form_at total [] ≡ Err (faults.Short (place total []))
unfolding form_at
no_form total = refl

other_form : (total : ℕ) (form : ℕ) (rest : List ℕ) → form ≢ 1 → form_at total (form ∷ rest) ≡ Err (faults.Form (place total (form ∷ rest)))
unfolding form_at
other_form total form rest other = rw (not_one form other) refl

short_count : (total : ℕ) (rest : List ℕ) → length rest < 4 → count_at total rest ≡ Err (faults.Short (place total rest))
unfolding count_at
short_count total rest less = rw (cut_short total w32 rest less) refl

great_count : (total count : ℕ) (rest : List ℕ) → count < 2 ^ 32 → 4096 < count →
    count_at total (to_be_bytes w32 count ++ rest) ≡ Err (faults.Size (place total (to_be_bytes w32 count ++ rest)))
unfolding count_at
great_count total count rest fits great = rw (fields.number_again total w32 (2 ^ 32) wide32 count rest fits, lt-ltb 4096 count great) refl

-- other letters are at fault, and nothing else
only_letters : (bytes : List ℕ) (e : PartFault) → OtherLetters bytes → IsHeadRefused e bytes → e ≡ faults.Magic 0
only_letters bytes (faults.Short p) other (inl c) = absurd (omega (arith, c.1, other.0))
only_letters bytes (faults.Short p) other (inr (inl c)) = absurd (other.1 [] c.1)
only_letters bytes (faults.Short p) other (inr (inr (at, rest, is, less))) = absurd (other.1 (1 ∷ rest) is)
only_letters bytes (faults.Magic p) other c = ap (λ (q : ℕ). faults.Magic q) c.0
only_letters bytes (faults.Form p) other (at, form, rest, is, unlike) = absurd (other.1 (form ∷ rest) is)
only_letters bytes (faults.Size p) other (at, count, rest, is, fits, great) = absurd (other.1 (1 ∷ (to_be_bytes w32 count ++ rest)) is)
only_letters bytes (faults.Order p) other bad = absurd bad
only_letters bytes (faults.Zero p) other bad = absurd bad
only_letters bytes (faults.Trailing p) other bad = absurd bad
only_letters bytes faults.Memory other bad = absurd bad

other_read : (bytes : List ℕ) (r : Result (List ℕ) PartFault) → IsBytes bytes → OtherLetters bytes → magic_at (length bytes) bytes ≡ r →
    r ≡ Err (faults.Magic 0)
other_read bytes (Ok rest) fits other is = absurd (other.1 rest (fields.magic_takes (length bytes) bytes rest fits is).parts)
other_read bytes (Err e) fits other is =
    ap (λ (d : PartFault). Err d) (only_letters bytes e other (magic_refused (length bytes) bytes e fits refl is))

head_told : (bytes : List ℕ) (e : PartFault) → IsBytes bytes → IsHeadRefused e bytes → all_of bytes ≡ Err e
head_told bytes (faults.Short p) fits (inl c) =
    magic_told bytes (faults.Short p)
    (moved 0 (magic_at (length bytes) bytes) faults.Short p (place (length bytes) bytes) (short_letters (length bytes) bytes c.1) (omega (arith, c.0)))
head_told bytes (faults.Short p) fits (inr (inl c)) =
    form_told bytes [] (faults.Short p) c.1
    (moved 0 (form_at (length bytes) []) faults.Short p (place (length bytes) []) (no_form (length bytes)) (omega (arith, c.0, ap (λ (x : List ℕ). length x) c.1)))
head_told bytes (faults.Short p) fits (inr (inr (at, rest, is, less))) =
    count_told bytes rest (faults.Short p) is
    (moved 0 (count_at (length bytes) rest) faults.Short p (place (length bytes) rest) (short_count (length bytes) rest less)
    (omega (arith, at, ap (λ (x : List ℕ). length x) is)))
head_told bytes (faults.Magic p) fits c =
    magic_told bytes (faults.Magic p)
    (moved 0 (magic_at (length bytes) bytes) faults.Magic p 0 (other_read bytes (magic_at (length bytes) bytes) fits c.1 refl) (sym c.0))
head_told bytes (faults.Form p) fits (at, form, rest, is, other) =
    form_told bytes (form ∷ rest) (faults.Form p) is
    (moved 0 (form_at (length bytes) (form ∷ rest)) faults.Form p (place (length bytes) (form ∷ rest)) (other_form (length bytes) form rest other)
    (omega (arith, at, ap (λ (x : List ℕ). length x) is)))
head_told bytes (faults.Size p) fits (at, count, rest, is, below, great) =
    let more = to_be_bytes w32 count ++ rest in
    count_told bytes more (faults.Size p) is
    (moved 0 (count_at (length bytes) more) faults.Size p (place (length bytes) more) (great_count (length bytes) count rest below great)
    (omega (arith, at, ap (λ (x : List ℕ). length x) is)))
head_told bytes (faults.Order p) fits bad = absurd bad
head_told bytes (faults.Zero p) fits bad = absurd bad
head_told bytes (faults.Trailing p) fits bad = absurd bad
head_told bytes faults.Memory fits bad = absurd bad

-- ---- all

row_body : (bytes : List ℕ) (e : PartFault) (b : HasBadRow e bytes) → body_of (length bytes) b.count (flat_map row_bytes b.rows ++ b.rest) ≡ Err e
row_body bytes e b =
    let n = length bytes in
    let long = size bytes b.count b.rows b.rest b.begins.spelled in
    let here : row_at n (last_of b.rows) b.rest ≡ Err e =
    row_told n (last_of b.rows) b.rest e (omega (arith, long))
    (subst (λ (at : ℕ). IsRowRefused (last_of b.rows) at e b.rest) (sym (place_is bytes b.rows b.rest long)) b.row) in
    let last : row_at n (last_or None b.rows) b.rest ≡ Err e = ap (λ (x : Option Update). row_at n x b.rest) (last_or_is b.rows) ∙ here in
    let k = b.count - suc (length b.rows) in
    let count_is : b.count ≡ count_with n b.rows k = omega (arith, b.more, count_with_is n b.rows k) in
    let rows : rows_at n b.count None (flat_map row_bytes b.rows ++ b.rest) ≡ Err e =
    ap (λ (c : ℕ). rows_at n c None (flat_map row_bytes b.rows ++ b.rest)) count_is
    ∙ rows_told n b.rows None k b.rest e b.begins.fits b.begins.nonzero (each_rises b.rows b.begins.rising) last in
    rw rows refl

trailing_body : (bytes : List ℕ) (e : PartFault) (t : HasTrailing e bytes) → body_of (length bytes) (length t.rows) (flat_map row_bytes t.rows ++ t.rest) ≡ Err e
trailing_body bytes e t =
    let n = length bytes in
    let rows = parts.rows_again n None t.rows t.rest t.begins.fits t.begins.nonzero (each_rises t.rows t.begins.rising) in
    let at = place_is bytes t.rows t.rest (size bytes (length t.rows) t.rows t.rest t.begins.spelled) in
    rw (rows, some_left t.rest t.some) (ap (λ (p : ℕ). Err (faults.Trailing p)) at ∙ ap (λ (d : PartFault). Err d) (sym t.fault_is))

pub told : (bytes : List ℕ) (e : PartFault) → IsBytes bytes → IsRefused e bytes → all_of bytes ≡ Err e
told bytes e fits (inl h) = head_told bytes e fits h
told bytes e fits (inr (inl b)) = body_told bytes (flat_map row_bytes b.rows ++ b.rest) b.count e b.begins.spelled b.begins.few (row_body bytes e b)
told bytes e fits (inr (inr t)) =
    body_told bytes (flat_map row_bytes t.rows ++ t.rest) (length t.rows) e t.begins.spelled t.begins.few (trailing_body bytes e t)

-- ---- exactly one of both

by_reading : (bytes : List ℕ) (r : Result (List Update) PartFault) → IsBytes bytes → all_of bytes ≡ r →
    ((rows : List Update) × Part rows bytes) ⊎ ((e : PartFault) × IsRefused e bytes)
by_reading bytes (Ok rows) fits is = inl (rows, parts.all_take bytes rows fits is)
by_reading bytes (Err e) fits is = inr (e, refused bytes e fits is)

pub either : (bytes : List ℕ) → IsBytes bytes → ((rows : List Update) × Part rows bytes) ⊎ ((e : PartFault) × IsRefused e bytes)
either bytes fits = by_reading bytes (all_of bytes) fits refl

-- what was answered with a fault isn't answered with rows
never_both : (rows : List Update) (e : PartFault) (r : Result (List Update) PartFault) → r ≡ Ok rows → r ≡ Err e → ⊥
never_both rows e (Ok x) is isnt = absurd cc
never_both rows e (Err d) is isnt = absurd cc

pub not_both : (bytes : List ℕ) (rows : List Update) (e : PartFault) → IsBytes bytes → Part rows bytes → IsRefused e bytes → ⊥
not_both bytes rows e fits part bad =
    never_both rows e (all_of bytes) (ap all_of part.1 ∙ parts.all_again rows part.0) (told bytes e fits bad)

err_is : (d e : PartFault) (r : Result (List Update) PartFault) → r ≡ Err d → r ≡ Err e → d ≡ e
err_is d e (Ok x) is same = absurd cc
err_is d e (Err c) is same = cc

pub one_fault : (bytes : List ℕ) (d e : PartFault) → IsBytes bytes → IsRefused d bytes → IsRefused e bytes → d ≡ e
one_fault bytes d e fits first second = err_is d e (all_of bytes) (told bytes d fits first) (told bytes e fits second)

-- what is answered in place of rows is want of memory, or the fault of the bytes
pub answered : (bytes : List ℕ) (r : Result (List Update) PartFault) → IsBytes bytes → Gives (λ rows. rows) r (all_of bytes) →
    IfErr r (λ e. (e ≡ faults.Memory) ⊎ IsRefused e bytes)
answered bytes (Ok rows) fits given = tt
answered bytes (Err faults.Memory) fits given = inl refl
answered bytes (Err (faults.Short p)) fits given = inr (refused bytes (faults.Short p) fits given)
answered bytes (Err (faults.Magic p)) fits given = inr (refused bytes (faults.Magic p) fits given)
answered bytes (Err (faults.Form p)) fits given = inr (refused bytes (faults.Form p) fits given)
answered bytes (Err (faults.Size p)) fits given = inr (refused bytes (faults.Size p) fits given)
answered bytes (Err (faults.Order p)) fits given = inr (refused bytes (faults.Order p) fits given)
answered bytes (Err (faults.Zero p)) fits given = inr (refused bytes (faults.Zero p) fits given)
answered bytes (Err (faults.Trailing p)) fits given = inr (refused bytes (faults.Trailing p) fits given)
