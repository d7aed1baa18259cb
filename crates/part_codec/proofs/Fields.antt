-- A field that is read is the field that was written, and what was written is read again.
use Rattle.std.proofs.Common.{◌≡◌, ◌≢◌, ◌==◌, ℕ, suc, ◌+◌, ◌^◌, ◌<◌, ◌≤◌, Bool, true, false, cond, eqb, ltb, List, [], ◌∷◌, ◌++◌, length, get_or, take, drop, Result, Ok, Err, refl, sym, ap, subst, ◌∙◌, append_assoc, arith, inl, inr}
use Rattle.std.specs.Int.{Width, w32, w64, byte_len, from_be_bytes, to_be_bytes}
use Rattle.std.proofs.lemmas.Bool.{cases_lt, ltb-false, le-ltb, eqb-true}
use Rattle.std.proofs.lemmas.Bool.Decides.{nat_tests}
use Rattle.std.proofs.lemmas.List.{take_at, drop_at, take-append-drop, length-append, length-take, get_or-drop, get_or-take, get_or_past}
use Rattle.byte_core.specs.ByteLists.{IsBytes}
use Rattle.byte_core.proofs.ByteLists.{IsBytes-drop, IsBytes-take, IsBytes-rest}
use Rattle.byte_core.proofs.Wide.{IsWide, wide32, wide64}
use Rattle.part_codec.specs.declared.part_faults.PartFault.{PartFault}
use Rattle.part_codec.specs.declared.part_faults.PartFault.TheVariants as faults
use Rattle.byte_core.specs.Reading.{place, short}
use Rattle.byte_core.specs.declared.shorts.Short.{Short}
use Rattle.part_codec.specs.Reading.{◌>>=◌, whole, byte_at, number_at, magic, magic_at, form_at, count_at, length_at, datum_at, bits_at}

-- the value of a step that did not fail
pub bind_ok : {A B : Type 0} (r : Result A PartFault) (f : A → Result B PartFault) (y : B) → (r >>= f) ≡ Ok y → (x : A) × (r ≡ Ok x) × (f x ≡ Ok y)
bind_ok (Ok x) f y e = (x, refl, e)
bind_ok (Err d) f y e = absurd cc

-- a test that did not refuse
pub guard_ok : {A : Type 0} (b : Bool) (d : PartFault) (x y : A) → cond b (Err d) (Ok x) ≡ Ok y → (b ≡ false) × (x ≡ y)
guard_ok true d x y e = absurd cc
guard_ok false d x y e = (refl, cc)

pub guard_passed : {A : Type 0} (b : Bool) (d : PartFault) (x y : A) → cond b (Ok x) (Err d) ≡ Ok y → (b ≡ true) × (x ≡ y)
guard_passed true d x y e = (refl, cc)
guard_passed false d x y e = absurd cc

-- a number that was read whole
pub wide_ok : {A : Type 0} (b : Bool) (d : Short) (x y : A) → whole (cond b (Err d) (Ok x)) ≡ Ok y → (b ≡ false) × (x ≡ y)
wide_ok true d x y e = absurd cc
wide_ok false d x y e = (refl, cc)

abbrev done : {A : Type 0} → A → Result A PartFault
done x = Ok x

pub ok_is : {A : Type 0} (x y : A) → done x ≡ done y → x ≡ y
ok_is x y e = cc

not_zero : (n : ℕ) → (n == 0) ≡ false → n ≢ 0
not_zero n e = grind (arith, nat_tests)

zero_test : (n : ℕ) → n ≢ 0 → (n == 0) ≡ false
zero_test n h = grind (arith, nat_tests)

-- what a reader took from the front
pub record Takes (bytes text rest : List ℕ) : Type 0 where
  pub parts : bytes ≡ text ++ rest
  pub rest_fits : IsBytes rest

pub Takes-then : (a x b y c : List ℕ) → Takes a x b → Takes b y c → Takes a (x ++ y) c
Takes-then a x b y c p q = record { parts = p.parts ∙ ap (λ (t : List ℕ). x ++ t) q.parts ∙ sym (append_assoc x y c); rest_fits = q.rest_fits }

-- ---- numbers

module _ (total : ℕ) where
  pub number_takes : (w : Width) (limit : ℕ) (wide : IsWide w limit) (bytes : List ℕ) (n : ℕ) (rest : List ℕ) → IsBytes bytes → number_at w total bytes ≡ Ok (n, rest) → Takes bytes (to_be_bytes w n) rest × (n < limit)
  number_takes w limit wide bytes n rest fits e =
      let g = wide_ok (ltb (length bytes) (byte_len w)) (short total bytes) (from_be_bytes w (take (byte_len w) bytes), drop (byte_len w) bytes) (n, rest) e in
      let long : byte_len w ≤ length bytes = ltb-false _ _ g.0 in
      let n-is : from_be_bytes w (take (byte_len w) bytes) ≡ n = ap (λ (p : ℕ × List ℕ). p.0) g.1 in
      let rest-is : drop (byte_len w) bytes ≡ rest = ap (λ (p : ℕ × List ℕ). p.1) g.1 in
      let front : to_be_bytes w n ≡ take (byte_len w) bytes = rw (← n-is) (wide.back (take (byte_len w) bytes) (omega (arith, length-take (byte_len w) bytes)) (IsBytes-take (byte_len w) bytes fits)) in
      (record { parts = rw (front, ← rest-is) (sym (take-append-drop (byte_len w) bytes)); rest_fits = rw (← rest-is) (IsBytes-drop (byte_len w) bytes fits) }, rw (← n-is) (wide.below (take (byte_len w) bytes) (IsBytes-take (byte_len w) bytes fits)))

  pub number_again : (w : Width) (limit : ℕ) (wide : IsWide w limit) (n : ℕ) (rest : List ℕ) → n < limit → number_at w total (to_be_bytes w n ++ rest) ≡ Ok (n, rest)
  number_again w limit wide n rest lt =
      let len = wide.len n in
      let long : ltb (length (to_be_bytes w n ++ rest)) (byte_len w) ≡ false = le-ltb _ _ (omega (arith, length-append (to_be_bytes w n) rest)) in
      rw (long, take_at (to_be_bytes w n) rest (byte_len w) len, drop_at (to_be_bytes w n) rest (byte_len w) len, wide.again n lt) refl

  byte_takes : (bytes : List ℕ) (x : ℕ × List ℕ) → IsBytes bytes → byte_at total bytes ≡ Ok x → Takes bytes (x.0 ∷ []) x.1 × (x.0 < 256)
  byte_takes [] x fits e = absurd cc
  byte_takes (b ∷ rest) x fits e =
      subst (λ (y : ℕ × List ℕ). Takes (b ∷ rest) (y.0 ∷ []) y.1 × (y.0 < 256)) (ok_is (b, rest) x e) (record { parts = refl; rest_fits = IsBytes-rest b rest fits }, fits 0)

  -- ---- the head of a part

  pub magic_takes : (bytes rest : List ℕ) → IsBytes bytes → magic_at total bytes ≡ Ok rest → Takes bytes (80 ∷ 65 ∷ 82 ∷ 84 ∷ []) rest
  unfolding magic_at
  magic_takes bytes rest fits e =
      let a = bind_ok (number_at w32 total bytes) (λ n. cond (eqb n.0 magic) (Ok n.1) (Err (faults.Magic (place total bytes)))) rest e in
      let g = guard_passed (eqb a.0.0 magic) (faults.Magic (place total bytes)) a.0.1 rest a.2 in
      let t = number_takes w32 (2 ^ 32) wide32 bytes a.0.0 a.0.1 fits a.1 in
      let is : a.0.0 ≡ magic = eqb-true _ _ g.0 in
      record { parts = t.0.parts ∙ (λ i. to_be_bytes w32 (is i) ++ g.1 i); rest_fits = subst IsBytes g.1 t.0.rest_fits }

  pub magic_again : (rest : List ℕ) → magic_at total (80 ∷ 65 ∷ 82 ∷ 84 ∷ rest) ≡ Ok rest
  unfolding magic_at
  magic_again rest = ap (λ r. r >>= λ n. cond (eqb n.0 magic) (Ok n.1) (Err (faults.Magic (place total (80 ∷ 65 ∷ 82 ∷ 84 ∷ rest))))) (number_again w32 (2 ^ 32) wide32 magic rest (omega arith))

  pub form_takes : (bytes rest : List ℕ) → IsBytes bytes → form_at total bytes ≡ Ok rest → Takes bytes (1 ∷ []) rest
  unfolding form_at
  form_takes bytes rest fits e =
      let a = bind_ok (byte_at total bytes) (λ b. cond (eqb b.0 1) (Ok b.1) (Err (faults.Form (place total bytes)))) rest e in
      let g = guard_passed (eqb a.0.0 1) (faults.Form (place total bytes)) a.0.1 rest a.2 in
      let t = byte_takes bytes a.0 fits a.1 in
      let is : a.0.0 ≡ 1 = eqb-true _ _ g.0 in
      record { parts = t.0.parts ∙ (λ i. is i ∷ g.1 i); rest_fits = subst IsBytes g.1 t.0.rest_fits }

  pub form_again : (rest : List ℕ) → form_at total (1 ∷ rest) ≡ Ok rest
  unfolding form_at
  form_again rest = refl

  pub count_takes : (bytes : List ℕ) (x : ℕ × List ℕ) → IsBytes bytes → count_at total bytes ≡ Ok x → Takes bytes (to_be_bytes w32 x.0) x.1 × (x.0 ≤ 4096)
  unfolding count_at
  count_takes bytes x fits e =
      let a = bind_ok (number_at w32 total bytes) (λ n. cond (ltb 4096 n.0) (Err (faults.Size (place total bytes))) (Ok n)) x e in
      let g = guard_ok (ltb 4096 a.0.0) (faults.Size (place total bytes)) a.0 x a.2 in
      let t = number_takes w32 (2 ^ 32) wide32 bytes a.0.0 a.0.1 fits a.1 in
      subst (λ (y : ℕ × List ℕ). Takes bytes (to_be_bytes w32 y.0) y.1 × (y.0 ≤ 4096)) g.1 (t.0, ltb-false _ _ g.0)

  pub count_again : (n : ℕ) (rest : List ℕ) → n ≤ 4096 → count_at total (to_be_bytes w32 n ++ rest) ≡ Ok (n, rest)
  unfolding count_at
  count_again n rest few =
      let fine : ltb 4096 n ≡ false = le-ltb _ _ few in
      rw (number_again w32 (2 ^ 32) wide32 n rest (omega arith), fine) refl

  -- ---- a datum

  pub length_takes : (bytes : List ℕ) (x : ℕ × List ℕ) → IsBytes bytes → length_at total bytes ≡ Ok x → Takes bytes (x.0 ∷ []) x.1 × (x.0 < 256) × (x.0 ≢ 0)
  unfolding length_at
  length_takes bytes x fits e =
      let a = bind_ok (byte_at total bytes) (λ n. cond (eqb n.0 0) (Err (faults.Size (place total bytes))) (Ok n)) x e in
      let g = guard_ok (eqb a.0.0 0) (faults.Size (place total bytes)) a.0 x a.2 in
      let t = byte_takes bytes a.0 fits a.1 in
      subst (λ (y : ℕ × List ℕ). Takes bytes (y.0 ∷ []) y.1 × (y.0 < 256) × (y.0 ≢ 0)) g.1 (t.0, t.1, not_zero a.0.0 g.0)

  pub record IsDatum (d : List ℕ) : Type 0 where
    pub some : 1 ≤ length d
    pub few : length d ≤ 255

  pub datum_takes : (bytes : List ℕ) (x : List ℕ × List ℕ) → IsBytes bytes → datum_at total bytes ≡ Ok x → Takes bytes (length x.0 ∷ x.0) x.1 × IsDatum x.0
  unfolding datum_at
  datum_takes bytes x fits e =
      let a = bind_ok (length_at total bytes) (λ n. cond (ltb (length n.1) n.0) (Err (faults.Short (place total n.1))) (Ok (take n.0 n.1, drop n.0 n.1))) x e in
      let n = a.0 in
      let t = length_takes bytes n fits a.1 in
      let g = guard_ok (ltb (length n.1) n.0) (faults.Short (place total n.1)) (take n.0 n.1, drop n.0 n.1) x a.2 in
      let long : n.0 ≤ length n.1 = ltb-false _ _ g.0 in
      let len : length (take n.0 n.1) ≡ n.0 = omega (arith, length-take n.0 n.1) in
      let second : Takes n.1 (take n.0 n.1) (drop n.0 n.1) = record { parts = sym (take-append-drop n.0 n.1); rest_fits = IsBytes-drop n.0 n.1 t.0.rest_fits } in
      let both = Takes-then bytes (n.0 ∷ []) n.1 (take n.0 n.1) (drop n.0 n.1) t.0 second in
      let whole : Takes bytes (length (take n.0 n.1) ∷ take n.0 n.1) (drop n.0 n.1) = subst (λ (k : ℕ). Takes bytes (k ∷ take n.0 n.1) (drop n.0 n.1)) (sym len) both in
      let datum : IsDatum (take n.0 n.1) = record { some = omega (arith, t.2); few = omega (arith, t.1) } in
      subst (λ (p : List ℕ × List ℕ). Takes bytes (length p.0 ∷ p.0) p.1 × IsDatum p.0) g.1 (whole, datum)

  pub datum_again : (d rest : List ℕ) → 1 ≤ length d → datum_at total (length d ∷ (d ++ rest)) ≡ Ok (d, rest)
  unfolding datum_at length_at
  datum_again d rest some =
      let there : eqb (length d) 0 ≡ false = zero_test (length d) (λ e. absurd (omega (arith, e, some))) in
      let long : ltb (length (d ++ rest)) (length d) ≡ false = le-ltb _ _ (omega (arith, length-append d rest)) in
      rw (there, long, take_at d rest (length d) refl, drop_at d rest (length d) refl) refl

  -- ---- the bits of a difference

  pub bits_takes : (bytes : List ℕ) (x : ℕ × List ℕ) → IsBytes bytes → bits_at total bytes ≡ Ok x → Takes bytes (to_be_bytes w64 x.0) x.1 × (x.0 < 2 ^ 64) × (x.0 ≢ 0)
  unfolding bits_at
  bits_takes bytes x fits e =
      let a = bind_ok (number_at w64 total bytes) (λ n. cond (eqb n.0 0) (Err (faults.Zero (place total bytes))) (Ok n)) x e in
      let g = guard_ok (eqb a.0.0 0) (faults.Zero (place total bytes)) a.0 x a.2 in
      let t = number_takes w64 (2 ^ 64) wide64 bytes a.0.0 a.0.1 fits a.1 in
      subst (λ (y : ℕ × List ℕ). Takes bytes (to_be_bytes w64 y.0) y.1 × (y.0 < 2 ^ 64) × (y.0 ≢ 0)) g.1 (t.0, t.1, not_zero a.0.0 g.0)

  pub bits_again : (n : ℕ) (rest : List ℕ) → n < 2 ^ 64 → n ≢ 0 → bits_at total (to_be_bytes w64 n ++ rest) ≡ Ok (n, rest)
  unfolding bits_at
  bits_again n rest lt some =
      let there : eqb n 0 ≡ false = zero_test n some in
      rw (number_again w64 (2 ^ 64) wide64 n rest lt, there) refl
