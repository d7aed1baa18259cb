-- How far a journal was read.
use Rattle.std.proofs.Common.{◌≡◌, ℕ, ◌-◌, ◌<◌, List, [], ◌∷◌, ◌++◌, length, Some, sym, ap, ◌∙◌, arith, append_assoc, length-append}
use Rattle.std.proofs.lemmas.List.{append-nil}
use Rattle.store_core.specs.Stores.{Stored, empty_store}
use Rattle.journal_core.specs.Records.{magic, records, record_bytes, number_bytes}
use Rattle.journal_core.proofs.Payloads.{records-push}
use Rattle.store_file.specs.Replays.{stored_by, after_record}
use Rattle.store_file.proofs.Keeping.{after_records-push}

-- the records before the rest make this store
pub record ReadSoFar (bytes rest : List ℕ) (s : Stored) : Type 0 where
  pub payloads : List (List ℕ)
  pub whole : bytes ≡ records payloads ++ rest
  pub some : 0 < length rest
  pub makes : stored_by payloads ≡ Some s

-- one record more
pub read_more : (bytes rest after payload next : List ℕ) (s s2 : Stored) → ReadSoFar bytes rest s
    → rest ≡ 1 ∷ after
    → (after ≡ number_bytes (length payload) ++ (payload ++ next)) × (0 < length next) → after_record s payload ≡ Some s2
    → ReadSoFar bytes next s2
read_more bytes rest after payload next s s2 so_far is_open frame good =
    let ps = so_far.payloads in
    let n = number_bytes (length payload) in
    record {
      payloads = ps ++ payload ∷ [];
      whole = so_far.whole ∙ ap (λ (l : List ℕ). records ps ++ l) (is_open
          ∙ ap (λ (l : List ℕ). 1 ∷ l) (frame.0 ∙ sym (append_assoc n payload next)))
          ∙ sym (append_assoc (records ps) (record_bytes payload) next) ∙ ap (λ (l : List ℕ). l ++ next) (sym (records-push ps payload));
      some = frame.1;
      makes = after_records-push empty_store ps payload s so_far.makes ∙ good;
    }

-- nothing was read yet
pub read_none : (bytes rest : List ℕ) (s : Stored) → (bytes ≡ magic ++ rest) × (0 < length rest) → s ≡ empty_store → ReadSoFar bytes rest s
read_none bytes rest s whole is = record {
  payloads = [];
  whole = whole.0 ∙ ap (λ (l : List ℕ). l ++ rest) (sym (append-nil magic));
  some = whole.1;
  makes = ap Some (sym is);
}

-- how far that is
pub read_place : (bytes rest front : List ℕ) (at : ℕ) → bytes ≡ front ++ rest → at ≡ length bytes - length rest → at ≡ length front
read_place bytes rest front at whole is = omega (arith, is, ap length whole, length-append front rest)
