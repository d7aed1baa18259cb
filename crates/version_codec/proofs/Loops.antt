-- Reading one after the other, as a loop does.
use Rattle.std.proofs.Common.{◌≡◌, ℕ, suc, ◌-◌, ◌+◌, ◌≤◌, ◌<◌, Some, List, [], ◌∷◌, length, get_or, Result, Ok, sym, ap, ◌∙◌, arith}
use Rattle.store_core.specs.Stores.{last_of}
use Rattle.version_codec.specs.declared.version_faults.VersionFault.{VersionFault}
use Rattle.version_codec.specs.declared.version_faults.VersionFault.TheVariants as faults
use Rattle.version_codec.specs.Reading.{◌>>=◌, Fails}

-- the last of a list, by its place
pub last_is : {A : Type 0} (xs : List A) (x : A) → 1 ≤ length xs → x ≡ get_or xs (length xs - 1) x → last_of xs ≡ Some x
last_is [] x h e = absurd (omega arith)
last_is (y ∷ []) x h e = ap (λ z. Some z) (sym e)
last_is (y ∷ z ∷ xs) x h e =
    let k : suc (suc (length xs)) - 1 ≡ suc (length xs) = omega arith in
    let j : suc (length xs) - 1 ≡ length xs = omega arith in
    last_is (z ∷ xs) x (omega arith) (e ∙ ap (λ i. get_or (y ∷ z ∷ xs) i x) k ∙ ap (λ i. get_or (z ∷ xs) i x) (sym j))

-- a fault of the first step is the fault of all
pub fails_then : {A B : Type 0} (e : VersionFault) (r : Result A VersionFault) (f : A → Result B VersionFault) (all : Result B VersionFault) → Fails e r → (r >>= f) ≡ all → Fails e all
fails_then faults.Memory r f all h g = tt
fails_then (faults.Short p) r f all h g = sym g ∙ ap (λ q. q >>= f) h
fails_then (faults.Magic p) r f all h g = sym g ∙ ap (λ q. q >>= f) h
fails_then (faults.Form p) r f all h g = sym g ∙ ap (λ q. q >>= f) h
fails_then (faults.Tag p) r f all h g = sym g ∙ ap (λ q. q >>= f) h
fails_then (faults.Rule p) r f all h g = sym g ∙ ap (λ q. q >>= f) h
fails_then (faults.Trailing p) r f all h g = sym g ∙ ap (λ q. q >>= f) h

-- to read so many: each step may look at how many follow it
pub record Reads {S X : Type 0} (L : S → ℕ → List ℕ → Result (S × List ℕ) VersionFault) (step : S → ℕ → List ℕ → Result (X × List ℕ) VersionFault) (next : S → X → S) : Type 0 where
  pub none : (s : S) (bytes : List ℕ) → L s 0 bytes ≡ Ok (s, bytes)
  pub more : (s : S) (n : ℕ) (bytes : List ℕ) → L s (suc n) bytes ≡ (step s n bytes >>= λ x. L (next s x.0) n x.1)

module _ {S X : Type 0} (L : S → ℕ → List ℕ → Result (S × List ℕ) VersionFault) (step : S → ℕ → List ℕ → Result (X × List ℕ) VersionFault) (next : S → X → S) (reads : Reads L step next) where
  pub goes_on : (s : S) (count i : ℕ) (bytes : List ℕ) (x : X) (after : List ℕ) (all : Result (S × List ℕ) VersionFault) → i < count → step s (count - (i + 1)) bytes ≡ Ok (x, after)
      → L s (count - i) bytes ≡ all → L (next s x) (count - (i + 1)) after ≡ all
  goes_on s count i bytes x after all lt h so_far =
      let k : count - i ≡ suc (count - (i + 1)) = omega arith in
      sym (ap (λ r. r >>= λ y. L (next s y.0) (count - (i + 1)) y.1) h) ∙ sym (reads.more s (count - (i + 1)) bytes) ∙ ap (λ (n : ℕ). L s n bytes) (sym k) ∙ so_far

  pub ends : (e : VersionFault) (s : S) (count i : ℕ) (bytes : List ℕ) (all : Result (S × List ℕ) VersionFault) → i < count → Fails e (step s (count - (i + 1)) bytes) → L s (count - i) bytes ≡ all → Fails e all
  ends e s count i bytes all lt h so_far =
      let k : count - i ≡ suc (count - (i + 1)) = omega arith in
      fails_then e (step s (count - (i + 1)) bytes) (λ y. L (next s y.0) (count - (i + 1)) y.1) all h (sym (reads.more s (count - (i + 1)) bytes) ∙ ap (λ (n : ℕ). L s n bytes) (sym k) ∙ so_far)

  pub is_done : (s : S) (count i : ℕ) (bytes : List ℕ) (all : Result (S × List ℕ) VersionFault) → count ≤ i → L s (count - i) bytes ≡ all → all ≡ Ok (s, bytes)
  is_done s count i bytes all le so_far =
      let k : count - i ≡ 0 = omega arith in
      sym so_far ∙ ap (λ (n : ℕ). L s n bytes) k ∙ reads.none s bytes
