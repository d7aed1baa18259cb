-- What the bytes of a journal stand for.
use Rattle.std.proofs.Common.{◌≡◌, ◌≢◌, ℕ, zero, suc, ◌+◌, ◌^◌, ◌<◌, ◌≤◌, List, [], ◌∷◌, ◌++◌, length, take, drop, refl, sym, ap}
use Rattle.std.proofs.Common.{◌∙◌, arith, append_assoc, length-append}
use Rattle.std.specs.List.{flat_map}
use Rattle.std.proofs.lemmas.Bool.{ne_eqb, cond-false}
use Rattle.std.proofs.lemmas.List.{take_at, drop_at, drop-drop, append-nil}
use Rattle.std.proofs.lemmas.Nat.{from_be_bytes-to_be_bytes_8}
use Rattle.journal_core.specs.Records.{number_bytes, number_in, magic, record_bytes, records, at_rest, IsJournal, payloads_from}
use Rattle.journal_core.specs.Records.{payloads_of, staged_bytes, staged_payload}

pub length-number_bytes : (n : ℕ) → length (number_bytes n) ≡ 8
unfolding number_bytes
length-number_bytes n = refl

pub number_in-bytes : (n : ℕ) (rest : List ℕ) → n < 2 ^ 64 → number_in (number_bytes n ++ rest) ≡ n
unfolding number_bytes number_in
number_in-bytes n rest fits = from_be_bytes-to_be_bytes_8 n fits

pub drop-number_bytes : (n : ℕ) (rest : List ℕ) → drop 8 (number_bytes n ++ rest) ≡ rest
drop-number_bytes n rest = drop_at (number_bytes n) rest 8 (length-number_bytes n)

-- a record as it is written has its payload
pub staged_payload-is : (payload bytes : List ℕ) → bytes ≡ staged_bytes payload → staged_payload (length payload) bytes ≡ payload
staged_payload-is payload bytes is =
    ap (λ (l : List ℕ). take (length payload) (drop 8 l)) is
    ∙ ap (λ (l : List ℕ). take (length payload) l) (drop-number_bytes (length payload) (payload ++ 0 ∷ []))
    ∙ take_at payload (0 ∷ []) (length payload) refl

pub length-staged : (payload : List ℕ) → length (staged_bytes payload) ≡ length payload + 9
length-staged payload = omega (
  arith,
  length-append (number_bytes (length payload)) (payload ++ 0 ∷ []),
  length-number_bytes (length payload),
  length-append payload (0 ∷ []),
)

pub length-record : (payload : List ℕ) → length (record_bytes payload) ≡ length payload + 9
length-record payload = omega (arith, length-append (number_bytes (length payload)) payload, length-number_bytes (length payload))

-- a gate that isn't open ends the payloads
pub none_past : (n gate : ℕ) (rest : List ℕ) → gate ≢ 1 → payloads_from n (gate ∷ rest) ≡ []
none_past zero gate rest shut = refl
none_past (suc n) gate rest shut = cond-false _ _ _ (ne_eqb gate 1 shut)

-- a record behind an open gate is read
record_read : (n : ℕ) (payload rest : List ℕ) → length payload < 2 ^ 64
    → payloads_from (suc n) (record_bytes payload ++ rest) ≡ payload ∷ payloads_from n rest
record_read n payload rest fits =
    let whole : (number_bytes (length payload) ++ payload) ++ rest ≡ number_bytes (length payload) ++ (payload ++ rest) =
    append_assoc (number_bytes (length payload)) payload rest in
    let size : number_in (number_bytes (length payload) ++ (payload ++ rest)) ≡ length payload =
    number_in-bytes (length payload) (payload ++ rest) fits in
    let body : drop 8 (number_bytes (length payload) ++ (payload ++ rest)) ≡ payload ++ rest =
    drop-number_bytes (length payload) (payload ++ rest) in
    let front : take (length payload) (payload ++ rest) ≡ payload = take_at payload rest (length payload) refl in
    let back : drop (8 + length payload) (number_bytes (length payload) ++ (payload ++ rest)) ≡ rest =
    sym (drop-drop (length payload) 8 (number_bytes (length payload) ++ (payload ++ rest)))
    ∙ ap (λ (l : List ℕ). drop (length payload) l) body ∙ drop_at payload rest (length payload) refl in
    ap (λ (l : List ℕ). take (number_in l) (drop 8 l) ∷ payloads_from n (drop (8 + number_in l) l)) whole
    ∙ ap (λ (k : ℕ). take k (drop 8 (number_bytes (length payload) ++ (payload ++ rest))) ∷ payloads_from n
    (drop (8 + k) (number_bytes (length payload) ++ (payload ++ rest)))) size
    ∙ ap (λ (l : List ℕ). take (length payload) l ∷ payloads_from n
    (drop (8 + length payload) (number_bytes (length payload) ++ (payload ++ rest)))) body
    ∙ ap (λ (l : List ℕ). l ∷ payloads_from n (drop (8 + length payload) (number_bytes (length payload) ++ (payload ++ rest)))) front
    ∙ ap (λ (l : List ℕ). payload ∷ payloads_from n l) back

-- each payload's length can be written, where all of them have no more bytes than a number counts
payload_fits : (payload : List ℕ) (payloads : List (List ℕ)) → length (flat_map record_bytes (payload ∷ payloads)) < 2 ^ 64
    → (length payload < 2 ^ 64) × (length (flat_map record_bytes payloads) < 2 ^ 64)
payload_fits payload payloads small =
    let whole = length-append (record_bytes payload) (flat_map record_bytes payloads) in
    let size = length-record payload in
    (omega arith, omega arith)

pub read_back : (payloads : List (List ℕ)) (n gate : ℕ) (rest : List ℕ) → length payloads ≤ n
    → length (flat_map record_bytes payloads) < 2 ^ 64 → gate ≢ 1
    → payloads_from n (flat_map record_bytes payloads ++ gate ∷ rest) ≡ payloads
read_back [] n gate rest long small shut = none_past n gate rest shut
read_back (p ∷ ps) zero gate rest long small shut = absurd (omega arith)
read_back (p ∷ ps) (suc n) gate rest long small shut =
    let fits = payload_fits p ps small in
    ap (λ (l : List ℕ). payloads_from (suc n) l) (append_assoc (record_bytes p) (flat_map record_bytes ps) (gate ∷ rest))
    ∙ record_read n p (flat_map record_bytes ps ++ gate ∷ rest) fits.0
    ∙ ap (λ (l : List (List ℕ)). p ∷ l) (read_back ps n gate rest (omega arith) fits.1 shut)

few_payloads : (payloads : List (List ℕ)) → length payloads ≤ length (flat_map record_bytes payloads)
few_payloads [] = omega arith
few_payloads (p ∷ ps) = omega (arith, few_payloads ps, length-append (record_bytes p) (flat_map record_bytes ps), length-record p)

after_magic : (bytes : List ℕ) → drop 8 (magic ++ bytes) ≡ bytes
unfolding magic
after_magic bytes = refl

pub length-magic : length magic ≡ 8
unfolding magic
length-magic = refl

pub length-records : (payloads : List (List ℕ)) → length (records payloads) ≡ length (flat_map record_bytes payloads) + 8
length-records payloads = omega (arith, length-append magic (flat_map record_bytes payloads), length-magic)

pub length-at_rest : (payloads : List (List ℕ)) → length (at_rest payloads) ≡ length (records payloads) + 1
length-at_rest payloads = length-append (records payloads) (0 ∷ [])

-- the payloads of a journal are read back
pub journal_read : (payloads : List (List ℕ)) (bytes : List ℕ) → length (records payloads) < 2 ^ 64 → IsJournal payloads bytes
    → payloads_of bytes ≡ payloads
journal_read payloads bytes small is =
    let whole : bytes ≡ magic ++ (flat_map record_bytes payloads ++ is.gate ∷ is.rest) = is.whole
    ∙ append_assoc magic (flat_map record_bytes payloads) (is.gate ∷ is.rest) in
    let size : length bytes ≡ length (magic ++ (flat_map record_bytes payloads ++ is.gate ∷ is.rest)) = ap length whole in
    let size2 = length-append magic (flat_map record_bytes payloads ++ is.gate ∷ is.rest) in
    let size3 = length-append (flat_map record_bytes payloads) (is.gate ∷ is.rest) in
    let few = few_payloads payloads in
    let total = length-records payloads in
    ap (λ (l : List ℕ). payloads_from (length bytes) (drop 8 l)) whole
    ∙ ap (λ (l : List ℕ). payloads_from (length bytes) l) (after_magic (flat_map record_bytes payloads ++ is.gate ∷ is.rest))
    ∙ read_back payloads (length bytes) is.gate is.rest (omega arith) (omega arith) is.shut

flat_map-push : (payloads : List (List ℕ)) (payload : List ℕ)
    → flat_map record_bytes (payloads ++ payload ∷ []) ≡ flat_map record_bytes payloads ++ record_bytes payload
flat_map-push [] payload = append-nil (record_bytes payload)
flat_map-push (p ∷ ps) payload =
    ap (λ (l : List ℕ). record_bytes p ++ l) (flat_map-push ps payload)
    ∙ sym (append_assoc (record_bytes p) (flat_map record_bytes ps) (record_bytes payload))

pub records-push : (payloads : List (List ℕ)) (payload : List ℕ)
    → records (payloads ++ payload ∷ []) ≡ records payloads ++ record_bytes payload
records-push payloads payload = ap (λ (l : List ℕ). magic ++ l) (flat_map-push payloads payload)
    ∙ sym (append_assoc magic (flat_map record_bytes payloads) (record_bytes payload))

-- an open gate in front of what was staged makes it a record, with a closed gate behind it
pub opened : (payloads : List (List ℕ)) (payload rest : List ℕ)
    → records payloads ++ 1 ∷ (staged_bytes payload ++ rest) ≡ records (payloads ++ payload ∷ []) ++ 0 ∷ rest
opened payloads payload rest =
    let n = number_bytes (length payload) in
    let inner : staged_bytes payload ++ rest ≡ (n ++ payload) ++ 0 ∷ rest =
    append_assoc n (payload ++ 0 ∷ []) rest ∙ ap (λ (l : List ℕ). n ++ l) (append_assoc payload (0 ∷ []) rest)
    ∙ sym (append_assoc n payload (0 ∷ rest)) in
    ap (λ (l : List ℕ). records payloads ++ 1 ∷ l) inner
    ∙ sym (append_assoc (records payloads) (record_bytes payload) (0 ∷ rest))
    ∙ ap (λ (l : List ℕ). l ++ 0 ∷ rest) (sym (records-push payloads payload))
