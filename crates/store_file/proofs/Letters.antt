-- The letters of a journal.
use Rattle.std.proofs.Common.{◌≡◌, ◌≢◌, inr, ℕ, ◌<◌, ◌≤◌, List, ◌++◌, length, get_or, take, drop, refl, sym, ap, ◌∙◌}
use Rattle.std.proofs.Common.{arith, Fits, w8, length-drop}
use Rattle.std.specs.Int.{w64, from_be_bytes}
use Rattle.std.proofs.Math.Facts.{Fits-lt-pow}
use Rattle.std.proofs.lemmas.List.{take-append-drop}
use Rattle.journal_core.specs.Records.{magic, number_bytes, number_in}
use Rattle.journal_core.proofs.Frames.{number_read}
use Rattle.store_file.specs.Opening.{IsNoStore}

letters : number_bytes 5784119814109678641 ≡ magic
unfolding number_bytes magic
letters = refl

spelled : from_be_bytes w64 magic ≡ 5784119814109678641
unfolding magic
spelled = refl

number_of : (bytes : List ℕ) → take 8 bytes ≡ magic → number_in bytes ≡ 5784119814109678641
unfolding number_in
number_of bytes is = ap (λ (l : List ℕ). from_be_bytes w64 l) is ∙ spelled

pub has_letters : (bytes rest : List ℕ) (n : ℕ) → ((i : ℕ) → Fits w8 (get_or bytes i 0)) → 9 ≤ length bytes → n ≡ number_in bytes
    → n ≡ 5784119814109678641 → rest ≡ drop 8 bytes
    → (bytes ≡ magic ++ rest) × (0 < length rest)
has_letters bytes rest n each long read is rest_is =
    let front : take 8 bytes ≡ magic = sym (number_read bytes (λ i. Fits-lt-pow {w = w8} (each i)) (omega arith))
    ∙ ap number_bytes (sym read ∙ is) ∙ letters in (
      sym (take-append-drop 8 bytes) ∙ ap (λ (l : List ℕ). l ++ drop 8 bytes) front ∙ ap (λ (l : List ℕ). magic ++ l) (sym rest_is),
      omega (arith, ap length rest_is, length-drop 8 bytes),
    )

pub no_letters : (bytes : List ℕ) (n : ℕ) → n ≡ number_in bytes → n ≢ 5784119814109678641 → IsNoStore bytes
no_letters bytes n read other = inr (λ is. other (read ∙ number_of bytes is))
