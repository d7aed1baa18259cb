-- Reading rows one after the other, as a loop does.
use Rattle.std.proofs.Common.{◌≡◌, ℕ, suc, ◌-◌, ◌+◌, ◌≤◌, ◌<◌, Some, List, [], ◌∷◌, ◌++◌, length, get_or, Result, Ok, Err, refl, sym, ap, ◌∙◌, append_assoc, arith}
use Rattle.std.proofs.lemmas.List.{append-nil}
use Rattle.store_core.specs.Stores.{last_of}
use Rattle.update_core.specs.declared.updates.Update.{Update}
use Rattle.part_codec.specs.declared.part_faults.PartFault.{PartFault}
use Rattle.part_codec.specs.declared.part_faults.PartFault.TheVariants as faults
use Rattle.part_codec.specs.Reading.{◌>>=◌, Fails, row_at, rows_at}

-- the last of a list, by its place
pub last_is : {A : Type 0} (xs : List A) (x : A) → 1 ≤ length xs → x ≡ get_or xs (length xs - 1) x → last_of xs ≡ Some x
last_is [] x h e = absurd (omega arith)
last_is (y ∷ []) x h e = ap (λ z. Some z) (sym e)
last_is (y ∷ z ∷ xs) x h e =
    let k : suc (suc (length xs)) - 1 ≡ suc (length xs) = omega arith in
    let j : suc (length xs) - 1 ≡ length xs = omega arith in
    last_is (z ∷ xs) x (omega arith) (e ∙ ap (λ i. get_or (y ∷ z ∷ xs) i x) k ∙ ap (λ i. get_or (z ∷ xs) i x) (sym j))

pub last_of-push : {A : Type 0} (xs : List A) (x : A) → last_of (xs ++ x ∷ []) ≡ Some x
last_of-push [] x = refl
last_of-push (y ∷ []) x = refl
last_of-push (y ∷ z ∷ xs) x = last_of-push (z ∷ xs) x

-- what was read before, and what is still read
abbrev pub with_front : List Update → Result (List Update × List ℕ) PartFault → Result (List Update × List ℕ) PartFault
with_front front read = read >>= λ x. Ok (front ++ x.0, x.1)

regroup : (front : List Update) (n : Update) (read : Result (List Update × List ℕ) PartFault) → with_front front (read >>= λ x. Ok (n ∷ x.0, x.1)) ≡ with_front (front ++ n ∷ []) read
regroup front n (Ok x) = ap (λ (ns : List Update). Ok (ns, x.1)) (simp append_assoc)
regroup front n (Err f) = refl

module _ (total : ℕ) where
  pub goes_on : (front : List Update) (count i : ℕ) (bytes : List ℕ) (n : Update) (after : List ℕ) (whole : Result (List Update × List ℕ) PartFault) → i < count → row_at total (last_of front) bytes ≡ Ok (n, after)
      → with_front front (rows_at total (count - i) (last_of front) bytes) ≡ whole → with_front (front ++ n ∷ []) (rows_at total (count - (i + 1)) (last_of (front ++ n ∷ [])) after) ≡ whole
  unfolding rows_at
  goes_on front count i bytes n after whole lt h so_far =
      let k : count - i ≡ suc (count - (i + 1)) = omega arith in
      let one : with_front front (rows_at total (count - i) (last_of front) bytes) ≡ with_front (front ++ n ∷ []) (rows_at total (count - (i + 1)) (Some n) after) = rw (k, h) (regroup front n (rows_at total (count - (i + 1)) (Some n) after)) in
      ap (λ before. with_front (front ++ n ∷ []) (rows_at total (count - (i + 1)) before after)) (last_of-push front n) ∙ sym one ∙ so_far

  -- a fault at a row is the fault of all
  stops : (f : PartFault) (front : List Update) (count i : ℕ) (bytes : List ℕ) (whole : Result (List Update × List ℕ) PartFault) → i < count → row_at total (last_of front) bytes ≡ Err f
      → with_front front (rows_at total (count - i) (last_of front) bytes) ≡ whole → whole ≡ Err f
  unfolding rows_at
  stops f front count i bytes whole lt h so_far =
      let k : count - i ≡ suc (count - (i + 1)) = omega arith in
      let one : with_front front (rows_at total (count - i) (last_of front) bytes) ≡ Err f = rw (k, h) refl in
      sym so_far ∙ one

  pub ends : (e : PartFault) (front : List Update) (count i : ℕ) (bytes : List ℕ) (whole : Result (List Update × List ℕ) PartFault) → i < count → Fails e (row_at total (last_of front) bytes)
      → with_front front (rows_at total (count - i) (last_of front) bytes) ≡ whole → Fails e whole
  ends faults.Memory front count i bytes whole lt h so_far = tt
  ends (faults.Short p) front count i bytes whole lt h so_far = stops (faults.Short p) front count i bytes whole lt h so_far
  ends (faults.Magic p) front count i bytes whole lt h so_far = stops (faults.Magic p) front count i bytes whole lt h so_far
  ends (faults.Form p) front count i bytes whole lt h so_far = stops (faults.Form p) front count i bytes whole lt h so_far
  ends (faults.Size p) front count i bytes whole lt h so_far = stops (faults.Size p) front count i bytes whole lt h so_far
  ends (faults.Order p) front count i bytes whole lt h so_far = stops (faults.Order p) front count i bytes whole lt h so_far
  ends (faults.Zero p) front count i bytes whole lt h so_far = stops (faults.Zero p) front count i bytes whole lt h so_far
  ends (faults.Trailing p) front count i bytes whole lt h so_far = stops (faults.Trailing p) front count i bytes whole lt h so_far

  pub is_done : (front : List Update) (count i : ℕ) (bytes : List ℕ) (whole : Result (List Update × List ℕ) PartFault) → count ≤ i → with_front front (rows_at total (count - i) (last_of front) bytes) ≡ whole → whole ≡ Ok (front, bytes)
  unfolding rows_at
  is_done front count i bytes whole le so_far =
      let k : count - i ≡ 0 = omega arith in
      let one : with_front front (rows_at total (count - i) (last_of front) bytes) ≡ Ok (front, bytes) = rw k (ap (λ (ns : List Update). Ok (ns, bytes)) (append-nil front)) in
      sym so_far ∙ one
