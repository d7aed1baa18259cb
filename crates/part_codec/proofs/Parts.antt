-- The two laws: what is read is a part, and a part is read.
use Rattle.std.proofs.Common.{◌≡◌, ◌≢◌, ℤ, ℕ, zero, suc, ◌^◌, ◌<◌, true, cond, eqb, pos, FitsSigned, Option, Some, None, List, [], ◌∷◌, ◌++◌, length, Result, Ok, Err, refl, sym, ap, subst, ◌∙◌, append_assoc, arith}
use Rattle.std.specs.Prelude.{IfOk}
use Rattle.std.specs.Int.{w32, w64, to_be_bytes, cast_signed, cast_unsigned}
use Rattle.std.specs.List.{flat_map, AllByRecursion}
use Rattle.std.proofs.lemmas.Bool.{eqb-true}
use Rattle.std.proofs.lemmas.Int.{to_z-of_z, of_z-to_z}
use Rattle.std.proofs.Math.Facts.{sfits_to_z, Fits-of_lt, Fits-lt-pow, Fits-of_z, to_z_inj}
use Rattle.std.proofs.lemmas.List.{append-nil, nil_from_length}
use Rattle.std.proofs.lemmas.List.Concat.{flat_map-cons}
use Rattle.update_core.specs.declared.updates.Update.{Update}
use Rattle.part_codec.specs.declared.part_faults.PartFault.{PartFault}
use Rattle.part_codec.specs.declared.part_faults.PartFault.TheVariants as faults
use Rattle.part_codec.specs.Parts.{row_bytes, spelling, NonZero, Fits, IsPart, Part}
use Rattle.byte_core.specs.Reading.{place}
use Rattle.part_codec.specs.Reading.{◌>>=◌, Gives, number_at, magic_at, form_at, count_at, datum_at, bits_at, fields_at, follows, row_at, rows_at, all_of}
use Rattle.part_codec.proofs.Rising.{RisesAfter, all_rise, each_rises}
use Rattle.byte_core.specs.ByteLists.{IsBytes}
use Rattle.byte_core.proofs.Wide.{wide64}
use Rattle.part_codec.proofs.Fields.{bind_ok, guard_passed, ok_is, Takes, Takes-then, number_takes, number_again, magic_takes, magic_again, form_takes, form_again, count_takes, count_again, datum_takes, datum_again, bits_takes, bits_again}

-- ---- differences

signed_fits : (n : ℕ) → n < 2 ^ 64 → FitsSigned w64 (cast_signed w64 n)
signed_fits n lt = sfits_to_z {w = w64} {n = n} (Fits-of_lt lt)

signed_some : (n : ℕ) → n < 2 ^ 64 → n ≢ 0 → cast_signed w64 n ≢ pos 0
signed_some n lt some e = some (to_z_inj {w = w64} {a = n} {b = 0} (Fits-of_lt lt) (Fits-of_lt (omega arith)) e)

bits_fit : (d : ℤ) → FitsSigned w64 d → cast_unsigned w64 d < 2 ^ 64
bits_fit d fits = Fits-lt-pow (Fits-of_z {w = w64} {z = d} fits)

bits_some : (d : ℤ) → FitsSigned w64 d → d ≢ pos 0 → cast_unsigned w64 d ≢ 0
bits_some d fits some e = some (sym (to_z-of_z w64 d fits) ∙ ap (cast_signed w64) e)

module _ (total : ℕ) where
  -- ---- a row

  pub record Read (before : Option Update) (u : Update) : Type 0 where
    pub fits : Fits u
    pub nonzero : u.diff ≢ pos 0
    pub follows : follows before u ≡ true

  pub fields_take : (bytes : List ℕ) (x : Update × List ℕ) → IsBytes bytes → fields_at total bytes ≡ Ok x → Takes bytes (row_bytes x.0) x.1 × Fits x.0 × (x.0.diff ≢ pos 0)
  unfolding fields_at
  fields_take bytes x fits e =
      let a = bind_ok (datum_at total bytes) (λ datum. number_at w64 total datum.1 >>= λ time. bits_at total time.1 >>= λ bits. Ok (record { datum = datum.0; time = time.0; diff = cast_signed w64 bits.0 }, bits.1)) x e in
      let b = bind_ok (number_at w64 total a.0.1) (λ time. bits_at total time.1 >>= λ bits. Ok (record { datum = a.0.0; time = time.0; diff = cast_signed w64 bits.0 }, bits.1)) x a.2 in
      let c = bind_ok (bits_at total b.0.1) (λ bits. Ok (record { datum = a.0.0; time = b.0.0; diff = cast_signed w64 bits.0 }, bits.1)) x b.2 in
      let t0 = datum_takes total bytes a.0 fits a.1 in
      let t1 = number_takes total w64 (2 ^ 64) wide64 a.0.1 b.0.0 b.0.1 t0.0.rest_fits b.1 in
      let t2 = bits_takes total b.0.1 c.0 t1.0.rest_fits c.1 in
      let e12 = Takes-then a.0.1 (to_be_bytes w64 b.0.0) b.0.1 (to_be_bytes w64 c.0.0) c.0.1 t1.0 t2.0 in
      let e02 = Takes-then bytes (length a.0.0 ∷ a.0.0) a.0.1 (to_be_bytes w64 b.0.0 ++ to_be_bytes w64 c.0.0) c.0.1 t0.0 e12 in
      let made : Update × List ℕ = (record { datum = a.0.0; time = b.0.0; diff = cast_signed w64 c.0.0 }, c.0.1) in
      let bits : cast_unsigned w64 (cast_signed w64 c.0.0) ≡ c.0.0 = of_z-to_z w64 c.0.0 t2.1 in
      let whole : Takes bytes (row_bytes made.0) made.1 = subst (λ (k : ℕ). Takes bytes (length a.0.0 ∷ (a.0.0 ++ (to_be_bytes w64 b.0.0 ++ to_be_bytes w64 k))) c.0.1) (sym bits) e02 in
      let fit : Fits made.0 = record { some = t0.1.some; few = t0.1.few; time = t1.1; diff = signed_fits c.0.0 t2.1 } in
      subst (λ (y : Update × List ℕ). Takes bytes (row_bytes y.0) y.1 × Fits y.0 × (y.0.diff ≢ pos 0)) (ok_is made x c.2) (whole, fit, signed_some c.0.0 t2.1 t2.2)

  pub fields_again : (u : Update) (rest : List ℕ) → Fits u → u.diff ≢ pos 0 → fields_at total (row_bytes u ++ rest) ≡ Ok (u, rest)
  unfolding fields_at
  fields_again u rest fits some =
      let t = to_be_bytes w64 u.time in
      let d = to_be_bytes w64 (cast_unsigned w64 u.diff) in
      let regrouped : row_bytes u ++ rest ≡ length u.datum ∷ (u.datum ++ (t ++ (d ++ rest))) = ap (λ (x : List ℕ). length u.datum ∷ x) (append_assoc u.datum (t ++ d) rest ∙ ap (λ (x : List ℕ). u.datum ++ x) (append_assoc t d rest)) in
      let back : cast_signed w64 (cast_unsigned w64 u.diff) ≡ u.diff = to_z-of_z w64 u.diff fits.diff in
      ap (fields_at total) regrouped
      ∙ rw (datum_again total u.datum (t ++ (d ++ rest)) fits.some, number_again total w64 (2 ^ 64) wide64 u.time (d ++ rest) fits.time, bits_again total (cast_unsigned w64 u.diff) rest (bits_fit u.diff fits.diff) (bits_some u.diff fits.diff some), back) refl

  pub row_takes : (before : Option Update) (bytes : List ℕ) (x : Update × List ℕ) → IsBytes bytes → row_at total before bytes ≡ Ok x → Takes bytes (row_bytes x.0) x.1 × Read before x.0
  unfolding row_at
  row_takes before bytes x fits e =
      let a = bind_ok (fields_at total bytes) (λ row. cond (follows before row.0) (Ok row) (Err (faults.Order (place total bytes)))) x e in
      let g = guard_passed (follows before a.0.0) (faults.Order (place total bytes)) a.0 x a.2 in
      let t = fields_take bytes a.0 fits a.1 in
      subst (λ (y : Update × List ℕ). Takes bytes (row_bytes y.0) y.1 × Read before y.0) g.1 (t.0, record { fits = t.1; nonzero = t.2; follows = g.0 })

  pub row_again : (before : Option Update) (u : Update) (rest : List ℕ) → Fits u → u.diff ≢ pos 0 → follows before u ≡ true → row_at total before (row_bytes u ++ rest) ≡ Ok (u, rest)
  unfolding row_at
  row_again before u rest fits some above = rw (fields_again u rest fits some, above) refl

  -- ---- rows

  pub record ReadAll (n : ℕ) (before : Option Update) (us : List Update) : Type 0 where
    pub count : length us ≡ n
    pub fits : AllByRecursion Fits us
    pub nonzero : NonZero us
    pub rises : RisesAfter before us

  pub rows_take : (n : ℕ) (before : Option Update) (bytes : List ℕ) (x : List Update × List ℕ) → IsBytes bytes → rows_at total n before bytes ≡ Ok x → Takes bytes (flat_map row_bytes x.0) x.1 × ReadAll n before x.0
  unfolding rows_at
  rows_take zero before bytes x fits e =
      subst (λ (y : List Update × List ℕ). Takes bytes (flat_map row_bytes y.0) y.1 × ReadAll 0 before y.0) (ok_is ([], bytes) x e) (record { parts = refl; rest_fits = fits }, record { count = refl; fits = tt; nonzero = tt; rises = tt })
  rows_take (suc n) before bytes x fits e =
      let a = bind_ok (row_at total before bytes) (λ first. rows_at total n (Some first.0) first.1 >>= λ others. Ok (first.0 ∷ others.0, others.1)) x e in
      let b = bind_ok (rows_at total n (Some a.0.0) a.0.1) (λ others. Ok (a.0.0 ∷ others.0, others.1)) x a.2 in
      let first = row_takes before bytes a.0 fits a.1 in
      let second = rows_take n (Some a.0.0) a.0.1 b.0 first.0.rest_fits b.1 in
      let both = Takes-then bytes (row_bytes a.0.0) a.0.1 (flat_map row_bytes b.0.0) b.0.1 first.0 second.0 in
      let made : List Update × List ℕ = (a.0.0 ∷ b.0.0, b.0.1) in
      let all : ReadAll (suc n) before made.0 = record { count = ap suc second.1.count; fits = (first.1.fits, second.1.fits); nonzero = (first.1.nonzero, second.1.nonzero); rises = (first.1.follows, second.1.rises) } in
      subst (λ (y : List Update × List ℕ). Takes bytes (flat_map row_bytes y.0) y.1 × ReadAll (suc n) before y.0) (ok_is made x b.2) (rw flat_map-cons both, all)

  pub rows_again : (before : Option Update) (us : List Update) (rest : List ℕ) → AllByRecursion Fits us → NonZero us → RisesAfter before us → rows_at total (length us) before (flat_map row_bytes us ++ rest) ≡ Ok (us, rest)
  unfolding rows_at
  rows_again before [] rest fits some rises = refl
  rows_again before (u ∷ us) rest fits some rises =
      let regrouped : flat_map row_bytes (u ∷ us) ++ rest ≡ row_bytes u ++ (flat_map row_bytes us ++ rest) = ap (λ (x : List ℕ). x ++ rest) (flat_map-cons row_bytes u us) ∙ append_assoc (row_bytes u) (flat_map row_bytes us) rest in
      ap (rows_at total (suc (length us)) before) regrouped
      ∙ rw (row_again before u (flat_map row_bytes us ++ rest) fits.0 some.0 rises.0, rows_again (Some u) us rest fits.1 some.1 rises.1) refl

-- ---- all

pub all_take : (bytes : List ℕ) (us : List Update) → IsBytes bytes → all_of bytes ≡ Ok us → Part us bytes
unfolding all_of
all_take bytes us fits e =
    let n = length bytes in
    let end : List Update × List ℕ → Result (List Update) PartFault = λ rows. cond (eqb (length rows.1) 0) (Ok rows.0) (Err (faults.Trailing (place n rows.1))) in
    let a = bind_ok (magic_at n bytes) (λ letters. form_at n letters >>= λ form. count_at n form >>= λ count. rows_at n count.0 None count.1 >>= end) us e in
    let b = bind_ok (form_at n a.0) (λ form. count_at n form >>= λ count. rows_at n count.0 None count.1 >>= end) us a.2 in
    let c = bind_ok (count_at n b.0) (λ count. rows_at n count.0 None count.1 >>= end) us b.2 in
    let d = bind_ok (rows_at n c.0.0 None c.0.1) end us c.2 in
    let g = guard_passed (eqb (length d.0.1) 0) (faults.Trailing (place n d.0.1)) d.0.0 us d.2 in
    let t0 = magic_takes n bytes a.0 fits a.1 in
    let t1 = form_takes n a.0 b.0 t0.rest_fits b.1 in
    let t2 = count_takes n b.0 c.0 t1.rest_fits c.1 in
    let t3 = rows_take n c.0.0 None c.0.1 d.0 t2.0.rest_fits d.1 in
    let e23 = Takes-then b.0 (to_be_bytes w32 c.0.0) c.0.1 (flat_map row_bytes d.0.0) d.0.1 t2.0 t3.0 in
    let e13 = Takes-then a.0 (1 ∷ []) b.0 (to_be_bytes w32 c.0.0 ++ flat_map row_bytes d.0.0) d.0.1 t1 e23 in
    let e03 = Takes-then bytes (80 ∷ 65 ∷ 82 ∷ 84 ∷ []) a.0 (1 ∷ (to_be_bytes w32 c.0.0 ++ flat_map row_bytes d.0.0)) d.0.1 t0 e13 in
    let nothing : d.0.1 ≡ [] = nil_from_length d.0.1 (eqb-true _ _ g.0) in
    let text : List ℕ = 80 ∷ 65 ∷ 82 ∷ 84 ∷ 1 ∷ (to_be_bytes w32 c.0.0 ++ flat_map row_bytes d.0.0) in
    let whole : bytes ≡ spelling d.0.0 = e03.parts ∙ ap (λ (r : List ℕ). text ++ r) nothing ∙ append-nil text ∙ ap (λ (k : ℕ). 80 ∷ 65 ∷ 82 ∷ 84 ∷ 1 ∷ (to_be_bytes w32 k ++ flat_map row_bytes d.0.0)) (sym t3.1.count) in
    let part : IsPart d.0.0 = record { few = omega (arith, t2.1, t3.1.count); rising = all_rise None d.0.0 t3.1.rises; nonzero = t3.1.nonzero; fits = t3.1.fits } in
    subst (λ (v : List Update). Part v bytes) g.1 (part, whole)

pub all_again : (us : List Update) → IsPart us → all_of (spelling us) ≡ Ok us
unfolding all_of
all_again us part =
    let n = length (spelling us) in
    let body = flat_map row_bytes us in
    let rest : rows_at n (length us) None body ≡ Ok (us, []) = ap (rows_at n (length us) None) (sym (append-nil body)) ∙ rows_again n None us [] part.fits part.nonzero (each_rises us part.rising) in
    rw (magic_again n (1 ∷ (to_be_bytes w32 (length us) ++ body)), form_again n (to_be_bytes w32 (length us) ++ body), count_again n (length us) body part.few, rest) refl

pub is_found : (bytes : List ℕ) (r : Result (List Update) PartFault) → IsBytes bytes → Gives (λ rows. rows) r (all_of bytes) → IfOk r (λ rows. Part rows bytes)
is_found bytes (Ok v) fits given = all_take bytes v fits given
is_found bytes (Err e) fits given = tt

-- the same bytes have one list of rows
pub one_reading : (rows others : List Update) (bytes : List ℕ) → Part rows bytes → Part others bytes → rows ≡ others
one_reading rows others bytes a b = ok_is rows others (sym (all_again rows a.0) ∙ ap all_of (sym a.1 ∙ b.1) ∙ all_again others b.0)
