-- Bytes that reading refuses have that fault: the field at which it stops, and what it has read before.
use Rattle.std.proofs.Common.{◌≡◌, ◌≢◌, ◌⊎◌, ℕ, zero, suc, ◌+◌, ◌-◌, ◌^◌, ◌<◌, ◌≤◌, Bool, true, false, cond, eqb, ltb, pos, Option, Some, None, List, [], ◌∷◌, ◌++◌, length, take, drop, Result, Ok, Err, refl, sym, ap, subst, ◌∙◌, append_assoc, arith, inl, inr}
use Rattle.std.specs.Int.{Width, w32, w64, byte_len, to_be_bytes, cast_signed, from_be_bytes}
use Rattle.std.specs.List.{flat_map, AllByRecursion}
use Rattle.std.proofs.lemmas.Bool.{ltb-true, ltb-false, eqb-true}
use Rattle.std.proofs.lemmas.Bool.Decides.{nat_tests}
use Rattle.std.proofs.lemmas.List.{append-nil, length-append}
use Rattle.update_core.specs.declared.updates.Update.{Update}
use Rattle.byte_core.specs.ByteLists.{IsBytes}
use Rattle.byte_core.specs.Reading.{place, short}
use Rattle.byte_core.specs.declared.shorts.Short.{Short}
use Rattle.byte_core.proofs.Wide.{wide32, wide64}
use Rattle.part_codec.specs.declared.part_faults.PartFault.{PartFault}
use Rattle.part_codec.specs.declared.part_faults.PartFault.TheVariants as faults
use Rattle.part_codec.specs.Parts.{row_bytes}
use Rattle.part_codec.specs.Reading.{◌>>=◌, whole, byte_at, number_at, magic, magic_at, form_at, count_at, length_at, datum_at, bits_at, fields_at, follows, row_at}
use Rattle.part_codec.specs.Refusals.{letters, OtherLetters, IsHeadRefused, after_datum, after_time, IsDatum, IsRowRefused}
use Rattle.part_codec.proofs.Fields as fields

-- a step that failed, or one after it
pub bind_err : {A B : Type 0} (r : Result A PartFault) (f : A → Result B PartFault) (e : PartFault) → (r >>= f) ≡ Err e →
    (r ≡ Err e) ⊎ ((x : A) × (r ≡ Ok x) × (f x ≡ Err e))
bind_err (Ok x) f e h = inr (x, refl, h)
bind_err (Err d) f e h = inl cc

-- a test that refused
pub guard_err : {A : Type 0} (b : Bool) (d e : PartFault) (x : A) → cond b (Err d) (Ok x) ≡ Err e → (b ≡ true) × (d ≡ e)
guard_err true d e x h = (refl, cc)
guard_err false d e x h = absurd cc

pub guard_failed : {A : Type 0} (b : Bool) (d e : PartFault) (x : A) → cond b (Ok x) (Err d) ≡ Err e → (b ≡ false) × (d ≡ e)
guard_failed true d e x h = absurd cc
guard_failed false d e x h = (refl, cc)

wide_err : {A : Type 0} (b : Bool) (d : Short) (e : PartFault) (x : A) → whole (cond b (Err d) (Ok x)) ≡ Err e → (b ≡ true) × (faults.Short d.place ≡ e)
wide_err true d e x h = (refl, cc)
wide_err false d e x h = absurd cc

byte_is_front : (total : ℕ) (bytes : List ℕ) (x : ℕ × List ℕ) → byte_at total bytes ≡ Ok x → bytes ≡ x.0 ∷ x.1
byte_is_front total [] x h = absurd cc
byte_is_front total (b ∷ rest) x h = ap (λ (y : ℕ × List ℕ). y.0 ∷ y.1) (fields.ok_is (b, rest) x h)

differs : (n m : ℕ) → eqb n m ≡ false → n ≡ m → ⊥
differs n m unlike same = absurd (grind (arith, nat_tests, unlike, same))

module _ (total : ℕ) where
  -- ---- numbers

  number_short : (w : Width) (bytes : List ℕ) (e : PartFault) → number_at w total bytes ≡ Err e → (length bytes < byte_len w) × (faults.Short (place total bytes) ≡ e)
  number_short w bytes e h =
      let g = wide_err (ltb (length bytes) (byte_len w)) (short total bytes) e (from_be_bytes w (take (byte_len w) bytes), drop (byte_len w) bytes) h in
      (ltb-true _ _ g.0, g.1)

  byte_short : (bytes : List ℕ) (e : PartFault) → byte_at total bytes ≡ Err e → (bytes ≡ []) × (faults.Short (place total bytes) ≡ e)
  byte_short [] e h = (refl, cc)
  byte_short (b ∷ rest) e h = absurd cc

  -- ---- the head

  pub magic_refused : (bytes : List ℕ) (e : PartFault) → IsBytes bytes → length bytes ≡ total → magic_at total bytes ≡ Err e → IsHeadRefused e bytes
  unfolding magic_at
  magic_refused bytes e fits all h =
      elim (bind_err (number_at w32 total bytes) (λ n. cond (eqb n.0 magic) (Ok n.1) (Err (faults.Magic (place total bytes)))) e h) [
        | inl bad ↦
            let s = number_short w32 bytes e bad in
            subst (λ (f : PartFault). IsHeadRefused f bytes) s.1 (inl (omega (arith, all), s.0))
        | inr (n, is, refuses) ↦
            let g = guard_failed (eqb n.0 magic) (faults.Magic (place total bytes)) e n.1 refuses in
            let t = fields.number_takes total w32 (2 ^ 32) wide32 bytes n.0 n.1 fits is in
            let four : 4 ≤ length bytes = omega (arith, ap (λ (b : List ℕ). length b) t.0.parts, length-append (to_be_bytes w32 n.0) n.1, wide32.len n.0) in
            let again : (rest : List ℕ) → bytes ≡ letters ++ rest → n ≡ (magic, rest) = λ rest same.
            fields.ok_is n (magic, rest) (sym is ∙ ap (number_at w32 total) same ∙ fields.number_again total w32 (2 ^ 32) wide32 magic rest (omega arith)) in
            let other : (rest : List ℕ) → bytes ≢ letters ++ rest = λ rest same. differs n.0 magic g.0 (ap (λ (p : ℕ × List ℕ). p.0) (again rest same)) in
            subst (λ (f : PartFault). IsHeadRefused f bytes) g.1 (omega (arith, all), (four, other))
      ]

  pub form_refused : (bytes rest : List ℕ) (e : PartFault) → bytes ≡ letters ++ rest → length bytes ≡ total → form_at total rest ≡ Err e → IsHeadRefused e bytes
  unfolding form_at
  form_refused bytes rest e front all h =
      elim (bind_err (byte_at total rest) (λ b. cond (eqb b.0 1) (Ok b.1) (Err (faults.Form (place total rest)))) e h) [
        | inl bad ↦
            let s = byte_short rest e bad in
            let is : bytes ≡ letters = front ∙ ap (λ (r : List ℕ). letters ++ r) s.0 in
            subst (λ (f : PartFault). IsHeadRefused f bytes) s.1
            (inr (inl (omega (arith, all, ap (λ (b : List ℕ). length b) is, ap (λ (b : List ℕ). length b) s.0), is)))
        | inr (b, is, refuses) ↦
            let g = guard_failed (eqb b.0 1) (faults.Form (place total rest)) e b.1 refuses in
            let rest_is : rest ≡ b.0 ∷ b.1 = byte_is_front total rest b is in
            subst (λ (f : PartFault). IsHeadRefused f bytes) g.1
            (omega (arith, all, ap (λ (x : List ℕ). length x) front), b.0, b.1, front ∙ ap (λ (r : List ℕ). letters ++ r) rest_is, differs b.0 1 g.0)
      ]

  pub count_refused : (bytes rest : List ℕ) (e : PartFault) → IsBytes rest → bytes ≡ letters ++ 1 ∷ rest → length bytes ≡ total →
      count_at total rest ≡ Err e → IsHeadRefused e bytes
  unfolding count_at
  count_refused bytes rest e fits front all h =
      let long = ap (λ (x : List ℕ). length x) front in
      elim (bind_err (number_at w32 total rest) (λ n. cond (ltb 4096 n.0) (Err (faults.Size (place total rest))) (Ok n)) e h) [
        | inl bad ↦
            let s = number_short w32 rest e bad in
            subst (λ (f : PartFault). IsHeadRefused f bytes) s.1 (inr (inr (omega (arith, all, long), rest, front, s.0)))
        | inr (n, is, refuses) ↦
            let g = guard_err (ltb 4096 n.0) (faults.Size (place total rest)) e n refuses in
            let t = fields.number_takes total w32 (2 ^ 32) wide32 rest n.0 n.1 fits is in
            subst (λ (f : PartFault). IsHeadRefused f bytes) g.1
            (omega (arith, all, long), n.0, n.1, front ∙ ap (λ (r : List ℕ). letters ++ 1 ∷ r) t.0.parts, t.1, ltb-true _ _ g.0)
      ]

  -- ---- a row

  length_refused : (before : Option Update) (rest : List ℕ) (e : PartFault) → length_at total rest ≡ Err e →
      IsRowRefused before (place total rest) e rest
  unfolding length_at
  length_refused before rest e h =
      elim (bind_err (byte_at total rest) (λ n. cond (eqb n.0 0) (Err (faults.Size (place total rest))) (Ok n)) e h) [
        | inl bad ↦
            let s = byte_short rest e bad in
            subst (λ (f : PartFault). IsRowRefused before (place total rest) f rest) s.1 (inl (refl, s.0))
        | inr (n, is, refuses) ↦
            let g = guard_err (eqb n.0 0) (faults.Size (place total rest)) e n refuses in
            let rest_is : rest ≡ n.0 ∷ n.1 = byte_is_front total rest n is in
            subst (λ (f : PartFault). IsRowRefused before (place total rest) f rest) g.1
            (refl, n.1, rest_is ∙ ap (λ (b : ℕ). b ∷ n.1) (eqb-true _ _ g.0))
      ]

  datum_refused : (before : Option Update) (rest : List ℕ) (e : PartFault) → IsBytes rest → length rest ≤ total → datum_at total rest ≡ Err e →
      IsRowRefused before (place total rest) e rest
  unfolding datum_at
  datum_refused before rest e fits within h =
      elim (bind_err (length_at total rest) (λ n. cond (ltb (length n.1) n.0) (Err (faults.Short (place total n.1))) (Ok (take n.0 n.1, drop n.0 n.1))) e h) [
        | inl bad ↦ length_refused before rest e bad
        | inr (n, is, refuses) ↦
            let g = guard_err (ltb (length n.1) n.0) (faults.Short (place total n.1)) e (take n.0 n.1, drop n.0 n.1) refuses in
            let t = fields.length_takes total rest n fits is in
            let less : length n.1 < n.0 = ltb-true _ _ g.0 in
            let long = ap (λ (x : List ℕ). length x) t.0.parts in
            subst (λ (f : PartFault). IsRowRefused before (place total rest) f rest) g.1
            (inr (inl (omega (arith, within, long), n.0, n.1, t.0.parts, omega (arith, less), less)))
      ]

  -- ---- the time and the difference of a row

  time_refused : (before : Option Update) (rest : List ℕ) (e : PartFault) (datum more : List ℕ) → length rest ≤ total → fields.IsDatum total datum →
      rest ≡ after_datum datum more → number_at w64 total more ≡ Err e → IsRowRefused before (place total rest) e rest
  time_refused before rest e datum more within fit is h =
      let s = number_short w64 more e h in
      let long = ap (λ (x : List ℕ). length x) is in
      subst (λ (f : PartFault). IsRowRefused before (place total rest) f rest) s.1
      (inr (inr (inl (datum, more, (fit.some, fit.few), is, omega (arith, within, long, length-append datum more), s.0))))

  bits_refused : (before : Option Update) (rest : List ℕ) (e : PartFault) (datum more : List ℕ) (time : ℕ) → IsBytes more → length rest ≤ total →
      fields.IsDatum total datum → time < 2 ^ 64 → rest ≡ after_time datum time more → bits_at total more ≡ Err e →
      IsRowRefused before (place total rest) e rest
  unfolding bits_at
  bits_refused before rest e datum more time fits within fit less is h =
      let long = ap (λ (x : List ℕ). length x) is in
      let size : length rest ≡ 1 + (length datum + (8 + length more)) =
      omega (arith, long, length-append datum (to_be_bytes w64 time ++ more), length-append (to_be_bytes w64 time) more, wide64.len time) in
      elim (bind_err (number_at w64 total more) (λ n. cond (eqb n.0 0) (Err (faults.Zero (place total more))) (Ok n)) e h) [
        | inl bad ↦
            let s = number_short w64 more e bad in
            subst (λ (f : PartFault). IsRowRefused before (place total rest) f rest) s.1
            (inr (inr (inr (datum, time, more, (fit.some, fit.few), less, is, omega (arith, within, size), s.0))))
        | inr (n, is_number, refuses) ↦
            let g = guard_err (eqb n.0 0) (faults.Zero (place total more)) e n refuses in
            let t = fields.number_takes total w64 (2 ^ 64) wide64 more n.0 n.1 fits is_number in
            let zeros : more ≡ to_be_bytes w64 0 ++ n.1 = t.0.parts ∙ ap (λ (k : ℕ). to_be_bytes w64 k ++ n.1) (eqb-true _ _ g.0) in
            subst (λ (f : PartFault). IsRowRefused before (place total rest) f rest) g.1
            (datum, time, n.1, (fit.some, fit.few), less, is ∙ ap (after_time datum time) zeros, omega (arith, within, size))
      ]

  pub fields_refused : (before : Option Update) (rest : List ℕ) (e : PartFault) → IsBytes rest → length rest ≤ total → fields_at total rest ≡ Err e →
      IsRowRefused before (place total rest) e rest
  unfolding fields_at
  fields_refused before rest e fits within h =
      elim (bind_err (datum_at total rest) (λ datum. number_at w64 total datum.1 >>= λ time. bits_at total time.1 >>= λ bits. Ok (record { datum = datum.0; time = time.0; diff = cast_signed w64 bits.0 }, bits.1)) e h) [
        | inl bad ↦ datum_refused before rest e fits within bad
        | inr (datum, is, next) ↦
            let d = fields.datum_takes total rest datum fits is in
            elim (bind_err (number_at w64 total datum.1) (λ time. bits_at total time.1 >>= λ bits. Ok (record { datum = datum.0; time = time.0; diff = cast_signed w64 bits.0 }, bits.1)) e next) [
              | inl bad ↦ time_refused before rest e datum.0 datum.1 within d.1 d.0.parts bad
              | inr (time, is_time, last) ↦
                  let t = fields.number_takes total w64 (2 ^ 64) wide64 datum.1 time.0 time.1 d.0.rest_fits is_time in
                  let spelled : rest ≡ after_time datum.0 time.0 time.1 = d.0.parts ∙ ap (after_datum datum.0) t.0.parts in
                  elim (bind_err (bits_at total time.1) (λ bits. Ok (record { datum = datum.0; time = time.0; diff = cast_signed w64 bits.0 }, bits.1)) e last) [
                    | inl bad ↦ bits_refused before rest e datum.0 time.1 time.0 t.0.rest_fits within d.1 t.1 spelled bad
                    | inr (bits, is_bits, done) ↦ absurd cc
                  ]
            ]
      ]
