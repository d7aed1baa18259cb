-- A record that is read is the record that was written.
use Rattle.std.proofs.Common.{◌≡◌, ◌++◌, ℕ, ◌-◌, ◌<◌, ◌≤◌, List, length, get_or, take, drop, refl, sym, ap, ◌∙◌, arith}
use Rattle.std.proofs.Common.{inl, inr, Fits, w8, length-drop}
use Rattle.std.specs.Int.{w64 as wide, from_be_bytes}
use Rattle.std.proofs.Math.Facts.{Fits-lt-pow}
use Rattle.std.proofs.lemmas.Bool.{cases_lt}
use Rattle.std.proofs.lemmas.List.{take_rest, take-append-drop, length-take-le, get_or-take, get_or_past}
use Rattle.std.proofs.lemmas.Nat.{be_bytes_8}
use Rattle.journal_core.specs.Records.{number_bytes, number_in}

pub number_read : (bytes : List ℕ) → ((i : ℕ) → get_or bytes i 0 < 256) → 8 ≤ length bytes → number_bytes (number_in bytes) ≡ take 8 bytes
unfolding number_bytes number_in
number_read bytes each long =
    be_bytes_8 (take 8 bytes) (from_be_bytes wide (take 8 bytes)) (length-take-le 8 bytes long) small refl
  where
    small : (i : ℕ) → get_or (take 8 bytes) i 0 < 256
    small i = elim (cases_lt i 8) [
      | inl lt ↦ rw (get_or-take 8 bytes i 0 lt) (each i)
      | inr le ↦ rw (get_or_past (take 8 bytes) i 0 (omega (arith, length-take-le 8 bytes long))) (omega arith)
    ]

pub framed : (bytes payload rest : List ℕ) (n : ℕ) → ((i : ℕ) → Fits w8 (get_or bytes i 0)) → 8 ≤ length bytes → n ≡ number_in bytes
    → payload ≡ take n (take (length bytes - 8) (drop 8 bytes)) → rest ≡ drop n (take (length bytes - 8) (drop 8 bytes))
    → n < length (take (length bytes - 8) (drop 8 bytes))
    → (bytes ≡ number_bytes (length payload) ++ (payload ++ rest)) × (0 < length rest)
framed bytes payload rest n each long is front back more =
    let body : take (length bytes - 8) (drop 8 bytes) ≡ drop 8 bytes = take_rest bytes 8 in
    let size : n < length (drop 8 bytes) = rw (sym body) more in
    let front2 : payload ≡ take n (drop 8 bytes) = front ∙ ap (λ (l : List ℕ). take n l) body in
    let back2 : rest ≡ drop n (drop 8 bytes) = back ∙ ap (λ (l : List ℕ). drop n l) body in
    let len : length payload ≡ n = ap length front2 ∙ length-take-le n (drop 8 bytes) (omega arith) in
    let number : number_bytes (length payload) ≡ take 8 bytes = ap number_bytes (len ∙ is) ∙ number_read bytes (λ i. fits i) long in
    let halves : payload ++ rest ≡ drop 8 bytes = ap (λ (l : List ℕ). l ++ rest) front2
    ∙ ap (λ (l : List ℕ). take n (drop 8 bytes) ++ l) back2 ∙ take-append-drop n (drop 8 bytes) in (
      sym (ap (λ (l : List ℕ). l ++ (payload ++ rest)) number ∙ ap (λ (l : List ℕ). take 8 bytes ++ l) halves ∙ take-append-drop 8 bytes),
      omega (arith, ap length back2, length-drop n (drop 8 bytes)),
    )
  where
    fits : (i : ℕ) → get_or bytes i 0 < 256
    fits i = Fits-lt-pow {w = w8} (each i)
