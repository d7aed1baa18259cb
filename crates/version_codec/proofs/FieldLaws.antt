-- A field of a version that is read is the field that was written, and what was written is read again.
use Rattle.std.proofs.Common.{◌≡◌, ℕ, suc, ◌+◌, ◌^◌, ◌<◌, ◌≤◌, Bool, true, false, cond, eqb, ltb, List, [], ◌∷◌, ◌++◌, length, get_or, take, drop, Result, Ok, Err, Option, Some, None, refl, sym, ap, subst, ◌∙◌, append_assoc, arith, inl, inr}
use Rattle.std.specs.Int.{Width, w16, w32, w64, byte_len, from_be_bytes, to_be_bytes}
use Rattle.std.proofs.lemmas.Bool.{cases_lt, ltb-false, ltb-true, le-leb, le-ltb, eqb-true}
use Rattle.std.proofs.lemmas.List.{take_at, drop_at, take-append-drop, length-append, length-take, get_or-drop, get_or-take, get_or_past}
use Rattle.byte_core.specs.ByteLists.{IsBytes}
use Rattle.byte_core.proofs.ByteLists.{IsBytes-drop, IsBytes-take, IsBytes-rest}
use Rattle.byte_core.proofs.Wide.{IsWide, wide16, wide32, wide64}
use Rattle.state_core.specs.declared.kinds.Kind.{Kind}
use Rattle.state_core.specs.declared.kinds.Kind.TheVariants.{Writer, Reader, Keeper}
use Rattle.version_codec.specs.declared.version_faults.VersionFault.{VersionFault}
use Rattle.version_codec.specs.declared.version_faults.VersionFault.TheVariants as faults
use Rattle.byte_core.specs.Reading.{place}
use Rattle.byte_core.specs.declared.shorts.Short.{Short}
use Rattle.version_codec.specs.Reading.{◌>>=◌, whole_at, byte_at, wide_at, number_at, limited_at, below_at, magic, magic_at, form_at, frontier_at, time_at, kind_at, kind_of, known_kind}
use Rattle.version_codec.specs.Versions.{number_bytes, frontier_bytes, kind_byte, NumberFits, FrontierFits}
use Rattle.state_core.proofs.ListLemmas.{bool_cases}

-- the value of a step that did not fail
pub bind_ok : {A B : Type 0} (r : Result A VersionFault) (f : A → Result B VersionFault) (y : B) → (r >>= f) ≡ Ok y → (x : A) × (r ≡ Ok x) × (f x ≡ Ok y)
bind_ok (Ok x) f y e = (x, refl, e)
bind_ok (Err d) f y e = absurd cc

-- what follows from a step that did not fail
pub bind_then : {A B C : Type 0} (r : Result A VersionFault) (f : A → Result B VersionFault) (y : B) → (r >>= f) ≡ Ok y → ((x : A) → r ≡ Ok x → f x ≡ Ok y → C) → C
bind_then (Ok x) f y e g = g x refl e
bind_then (Err d) f y e g = absurd cc

-- a test that did not refuse
pub guard_ok : {A : Type 0} (b : Bool) (d : VersionFault) (x y : A) → cond b (Err d) (Ok x) ≡ Ok y → (b ≡ false) × (x ≡ y)
guard_ok true d x y e = absurd cc
guard_ok false d x y e = (refl, cc)

pub guard_passed : {A : Type 0} (b : Bool) (d : VersionFault) (x y : A) → cond b (Ok x) (Err d) ≡ Ok y → (b ≡ true) × (x ≡ y)
guard_passed true d x y e = (refl, cc)
guard_passed false d x y e = absurd cc

-- a number that was read whole
pub wide_ok : {A : Type 0} (b : Bool) (d : Short) (x y : A) → whole_at (cond b (Err d) (Ok x)) ≡ Ok y → (b ≡ false) × (x ≡ y)
wide_ok true d x y e = absurd cc
wide_ok false d x y e = (refl, cc)

abbrev pub done : {A : Type 0} → A → Result A VersionFault
done x = Ok x

pub ok_is : {A : Type 0} (x y : A) → done x ≡ done y → x ≡ y
ok_is x y e = cc

-- what a reader took from the front, where bytes are bytes
pub record Took (bytes text rest : List ℕ) (F : Type 0) : Type 0 where
  pub parts : IsBytes bytes → bytes ≡ text ++ rest
  pub rest_is : IsBytes bytes → IsBytes rest
  pub fits : IsBytes bytes → F

pub took_then : {F G : Type 0} (a x b y c : List ℕ) → Took a x b F → Took b y c G → Took a (x ++ y) c (F × G)
took_then a x b y c p q = record {
  parts = λ h. p.parts h ∙ ap (λ (t : List ℕ). x ++ t) (q.parts (p.rest_is h)) ∙ sym (append_assoc x y c);
  rest_is = λ h. q.rest_is (p.rest_is h);
  fits = λ h. (p.fits h, q.fits (p.rest_is h));
}

pub took_as : {F G : Type 0} (a x y b : List ℕ) → x ≡ y → (F → G) → Took a x b F → Took a y b G
took_as a x y b e f p = record {
  parts = λ h. p.parts h ∙ ap (λ (t : List ℕ). t ++ b) e;
  rest_is = p.rest_is;
  fits = λ h. f (p.fits h);
}

-- ---- numbers

-- a number from the front, as it is written
front_is : (w : Width) (limit : ℕ) (wide : IsWide w limit) (bytes : List ℕ) → byte_len w ≤ length bytes → Took bytes (to_be_bytes w (from_be_bytes w (take (byte_len w) bytes))) (drop (byte_len w) bytes) (from_be_bytes w (take (byte_len w) bytes) < limit)
front_is w limit wide bytes long = record {
  parts = λ h. sym (ap (λ (t : List ℕ). t ++ drop (byte_len w) bytes) (wide.back (take (byte_len w) bytes) (omega (arith, length-take (byte_len w) bytes)) (IsBytes-take (byte_len w) bytes h)) ∙ take-append-drop (byte_len w) bytes);
  rest_is = λ h. IsBytes-drop (byte_len w) bytes h;
  fits = λ h. wide.below (take (byte_len w) bytes) (IsBytes-take (byte_len w) bytes h);
}

module _ (total : ℕ) where
  pub wide_took : (w : Width) (limit : ℕ) (wide : IsWide w limit) (bytes : List ℕ) (x : ℕ × List ℕ) → wide_at w total bytes ≡ Ok x → Took bytes (to_be_bytes w x.0) x.1 (x.0 < limit)
  wide_took w limit wide bytes x e =
      let (short, is) = wide_ok (ltb (length bytes) (byte_len w)) _ (from_be_bytes w (take (byte_len w) bytes), drop (byte_len w) bytes) x e in
      subst (λ (y : ℕ × List ℕ). Took bytes (to_be_bytes w y.0) y.1 (y.0 < limit)) is (front_is w limit wide bytes (ltb-false _ _ short))

  pub wide_again : (w : Width) (limit : ℕ) (wide : IsWide w limit) (n : ℕ) (rest : List ℕ) → n < limit → wide_at w total (to_be_bytes w n ++ rest) ≡ Ok (n, rest)
  wide_again w limit wide n rest lt =
      let len = wide.len n in
      let long : ltb (length (to_be_bytes w n ++ rest)) (byte_len w) ≡ false = le-ltb _ _ (omega (arith, length-append (to_be_bytes w n) rest)) in
      rw (long, take_at (to_be_bytes w n) rest (byte_len w) len, drop_at (to_be_bytes w n) rest (byte_len w) len, wide.again n lt) refl

  pub number_took : (bytes : List ℕ) (x : ℕ × List ℕ) → number_at total bytes ≡ Ok x → Took bytes (number_bytes x.0) x.1 (NumberFits x.0)
  unfolding number_at number_bytes
  number_took bytes x e = wide_took w64 (2 ^ 64) wide64 bytes x e

  pub number_again : (n : ℕ) (rest : List ℕ) → NumberFits n → number_at total (number_bytes n ++ rest) ≡ Ok (n, rest)
  unfolding number_at number_bytes
  number_again n rest lt = wide_again w64 (2 ^ 64) wide64 n rest lt

  pub limited_took : (limit : ℕ) (bytes : List ℕ) (x : ℕ × List ℕ) → limited_at total limit bytes ≡ Ok x → Took bytes (number_bytes x.0) x.1 (NumberFits x.0) × (x.0 ≤ limit)
  unfolding limited_at
  limited_took limit bytes x e =
      let (n, h, k) = bind_ok (number_at total bytes) _ x e in
      let (le, is) = guard_ok (ltb limit n.0) _ n x k in
      subst (λ (y : ℕ × List ℕ). Took bytes (number_bytes y.0) y.1 (NumberFits y.0) × (y.0 ≤ limit)) is (number_took bytes n h, ltb-false _ _ le)

  pub limited_again : (limit n : ℕ) (rest : List ℕ) → NumberFits n → n ≤ limit → limited_at total limit (number_bytes n ++ rest) ≡ Ok (n, rest)
  unfolding limited_at
  limited_again limit n rest fits le = rw (number_again n rest fits, le-ltb limit n le) refl

  pub below_took : (end : ℕ) (bytes : List ℕ) (x : ℕ × List ℕ) → below_at total end bytes ≡ Ok x → Took bytes (number_bytes x.0) x.1 (NumberFits x.0) × (x.0 < end)
  unfolding below_at
  below_took end bytes x e =
      let (n, h, k) = bind_ok (number_at total bytes) _ x e in
      let (lt, is) = guard_passed (ltb n.0 end) _ n x k in
      subst (λ (y : ℕ × List ℕ). Took bytes (number_bytes y.0) y.1 (NumberFits y.0) × (y.0 < end)) is (number_took bytes n h, ltb-true _ _ lt)

  pub below_again : (end n : ℕ) (rest : List ℕ) → NumberFits n → n < end → below_at total end (number_bytes n ++ rest) ≡ Ok (n, rest)
  unfolding below_at
  below_again end n rest fits lt = let passes : ltb n end ≡ true = le-leb (suc n) end lt in rw (number_again n rest fits, passes) refl

  pub byte_took : (bytes : List ℕ) (x : ℕ × List ℕ) → byte_at total bytes ≡ Ok x → Took bytes (x.0 ∷ []) x.1 (Unit {0})
  byte_took [] x e = absurd cc
  byte_took (b ∷ rest) x e =
      subst (λ (y : ℕ × List ℕ). Took (b ∷ rest) (y.0 ∷ []) y.1 (Unit {0})) (ok_is (b, rest) x e) (record { parts = λ h. refl; rest_is = λ h. IsBytes-rest b rest h; fits = λ h. tt })

  -- ---- the head of a version

  pub magic_took : (bytes rest : List ℕ) → magic_at total bytes ≡ Ok rest → Took bytes (80 ∷ 86 ∷ 69 ∷ 82 ∷ []) rest (Unit {0})
  unfolding magic_at
  magic_took bytes rest e =
      let (n, h, k) = bind_ok (wide_at w32 total bytes) _ rest e in
      let (same, is) = guard_passed (eqb n.0 magic) _ n.1 rest k in
      let t = wide_took w32 (2 ^ 32) wide32 bytes n h in
      let letters : n.0 ≡ magic = eqb-true _ _ same in
      subst (λ (r : List ℕ). Took bytes (80 ∷ 86 ∷ 69 ∷ 82 ∷ []) r (Unit {0})) is (took_as bytes (to_be_bytes w32 n.0) (80 ∷ 86 ∷ 69 ∷ 82 ∷ []) n.1 (ap (to_be_bytes w32) letters) (λ f. tt) t)

  pub magic_again : (rest : List ℕ) → magic_at total (80 ∷ 86 ∷ 69 ∷ 82 ∷ rest) ≡ Ok rest
  unfolding magic_at
  magic_again rest = ap (λ r. r >>= λ n. cond (eqb n.0 magic) (Ok n.1) (Err (faults.Magic (place total (80 ∷ 86 ∷ 69 ∷ 82 ∷ rest))))) (wide_again w32 (2 ^ 32) wide32 magic rest (omega arith))

  pub form_took : (bytes rest : List ℕ) → form_at total bytes ≡ Ok rest → Took bytes (1 ∷ []) rest (Unit {0})
  unfolding form_at
  form_took bytes rest e =
      let (b, h, k) = bind_ok (byte_at total bytes) _ rest e in
      let (same, is) = guard_passed (eqb b.0 1) _ b.1 rest k in
      let one : b.0 ≡ 1 = eqb-true _ _ same in
      subst (λ (r : List ℕ). Took bytes (1 ∷ []) r (Unit {0})) is (took_as bytes (b.0 ∷ []) (1 ∷ []) b.1 (ap (λ (n : ℕ). n ∷ []) one) (λ f. tt) (byte_took bytes b h))

  pub form_again : (rest : List ℕ) → form_at total (1 ∷ rest) ≡ Ok rest
  unfolding form_at
  form_again rest = refl

  -- ---- frontiers

  abbrev pub TookFrontier : List ℕ → Option ℕ × List ℕ → Type 0
  TookFrontier bytes y = Took bytes (frontier_bytes y.0) y.1 (FrontierFits y.0)

  time_took : (start bytes rest : List ℕ) (x : Option ℕ × List ℕ) → Took start (0 ∷ []) bytes (Unit {0}) → time_at total start bytes ≡ Ok x → TookFrontier start x
  unfolding time_at number_bytes
  time_took start bytes rest x tag e =
      let (short, is) = guard_ok (ltb (length bytes) 8) _ (Some (from_be_bytes w64 (take 8 bytes)), drop 8 bytes) x e in
      let t = front_is w64 (2 ^ 64) wide64 bytes (ltb-false _ _ short) in
      let n = from_be_bytes w64 (take 8 bytes) in
      let both = took_then start (0 ∷ []) bytes (to_be_bytes w64 n) (drop 8 bytes) tag t in
      subst (λ (y : Option ℕ × List ℕ). TookFrontier start y) is (took_as start (0 ∷ to_be_bytes w64 n) (0 ∷ to_be_bytes w64 n) (drop 8 bytes) refl (λ f. f.1) both)

  pub frontier_took : (bytes : List ℕ) (x : Option ℕ × List ℕ) → frontier_at total bytes ≡ Ok x → TookFrontier bytes x
  unfolding frontier_at
  frontier_took bytes x e =
      let (tag, h, k) = bind_ok (byte_at total bytes) _ x e in
      let t = byte_took bytes tag h in
      elim (bool_cases (eqb tag.0 0)) [
        | inl zero ↦
            let is : tag.0 ≡ 0 = eqb-true _ _ zero in
            let k2 : time_at total bytes tag.1 ≡ Ok x = rw zero at k in
            time_took bytes tag.1 [] x (took_as bytes (tag.0 ∷ []) (0 ∷ []) tag.1 (ap (λ (n : ℕ). n ∷ []) is) (λ f. tt) t) k2
        | inr some ↦
            let k2 : cond (eqb tag.0 1) (Ok (None, tag.1)) (Err (faults.Tag (place total bytes))) ≡ Ok x = rw some at k in
            let (one, is) = guard_passed (eqb tag.0 1) _ (None, tag.1) x k2 in
            let tagged : tag.0 ≡ 1 = eqb-true _ _ one in
            subst (λ (y : Option ℕ × List ℕ). TookFrontier bytes y) is (took_as bytes (tag.0 ∷ []) (1 ∷ []) tag.1 (ap (λ (n : ℕ). n ∷ []) tagged) (λ f. tt) t)
      ]

  pub frontier_again : (f : Option ℕ) (rest : List ℕ) → FrontierFits f → frontier_at total (frontier_bytes f ++ rest) ≡ Ok (f, rest)
  unfolding frontier_at time_at number_bytes
  frontier_again None rest fits = refl
  frontier_again (Some n) rest fits =
      let text = to_be_bytes w64 n in
      let long : ltb (length (text ++ rest)) 8 ≡ false = le-ltb _ _ (omega (arith, length-append text rest)) in
      let time : from_be_bytes w64 (take 8 (text ++ rest)) ≡ n = ap (from_be_bytes w64) (take_at text rest 8 refl) ∙ wide64.again n fits in
      let after : drop 8 (text ++ rest) ≡ rest = drop_at text rest 8 refl in
      rw long (λ i. Ok (Some (time i), after i))

  -- ---- kinds

  kind_is : (n : ℕ) (kind : Kind) → kind_of n ≡ Some kind → n ≡ kind_byte kind
  kind_is n kind e =
      elim (bool_cases (eqb n 0)) [
        | inl a ↦ (let e2 : Some Writer ≡ Some kind = rw a at e in let k : Writer ≡ kind = cc in eqb-true n 0 a ∙ ap kind_byte k)
        | inr a ↦ elim (bool_cases (eqb n 1)) [
          | inl b ↦ (let e2 : Some Reader ≡ Some kind = rw (a, b) at e in let k : Reader ≡ kind = cc in eqb-true n 1 b ∙ ap kind_byte k)
          | inr b ↦ elim (bool_cases (eqb n 2)) [
            | inl c ↦ (let e2 : Some Keeper ≡ Some kind = rw (a, b, c) at e in let k : Keeper ≡ kind = cc in eqb-true n 2 c ∙ ap kind_byte k)
            | inr c ↦ absurd (let e2 : None ≡ Some kind = rw (a, b, c) at e in cc)
          ]
        ]
      ]

  known : (bytes rest : List ℕ) (o : Option Kind) (x : Kind × List ℕ) → known_kind total bytes o rest ≡ Ok x → (o ≡ Some x.0) × (rest ≡ x.1)
  known bytes rest None x e = absurd cc
  known bytes rest (Some kind) x e = let is = ok_is (kind, rest) x e in (ap (λ (y : Kind × List ℕ). Some y.0) is, ap (λ (y : Kind × List ℕ). y.1) is)

  pub kind_took : (bytes : List ℕ) (x : Kind × List ℕ) → kind_at total bytes ≡ Ok x → Took bytes (kind_byte x.0 ∷ []) x.1 (Unit {0})
  unfolding kind_at
  kind_took bytes x e =
      let (tag, h, k) = bind_ok (byte_at total bytes) _ x e in
      let (some, is) = known bytes tag.1 (kind_of tag.0) x k in
      let byte : tag.0 ≡ kind_byte x.0 = kind_is tag.0 x.0 some in
      subst (λ (r : List ℕ). Took bytes (kind_byte x.0 ∷ []) r (Unit {0})) is (took_as bytes (tag.0 ∷ []) (kind_byte x.0 ∷ []) tag.1 (ap (λ (n : ℕ). n ∷ []) byte) (λ f. tt) (byte_took bytes tag h))

  pub kind_again : (kind : Kind) (rest : List ℕ) → kind_at total (kind_byte kind ∷ rest) ≡ Ok (kind, rest)
  unfolding kind_at
  kind_again Writer rest = refl
  kind_again Reader rest = refl
  kind_again Keeper rest = refl
