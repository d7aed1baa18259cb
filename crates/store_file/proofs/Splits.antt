-- Bytes are the journal of one list of payloads alone, and no journal is damaged.
use Rattle.std.proofs.Common.{◌≡◌, ◌≢◌, ◌⊎◌, inl, inr, ℕ, ◌+◌, ◌^◌, ◌<◌, ◌≤◌, List, [], ◌∷◌, ◌++◌, length, take, drop, Option, Some, None}
use Rattle.std.proofs.Common.{refl, sym, ap, ◌∙◌, arith, append_assoc, length-append}
use Rattle.std.specs.List.{flat_map}
use Rattle.std.proofs.lemmas.List.{append_cancel_left, take_at, drop_at}
use Rattle.store_core.specs.Stores.{Stored, empty_store}
use Rattle.journal_core.specs.Records.{magic, records, record_bytes, number_bytes, number_in, IsCutShort, payloads_of}
use Rattle.journal_core.proofs.Payloads.{number_in-bytes, drop-number_bytes, length-number_bytes, length-record, length-records}
use Rattle.journal_core.proofs.Payloads.{length-magic, journal_read}
use Rattle.store_file.specs.Payloads.{◌>>=◌}
use Rattle.store_file.specs.Replays.{after_record, after_records, stored_by, Stands}
use Rattle.store_file.specs.declared.open_faults.OpenFault.{OpenFault}
use Rattle.store_file.specs.declared.open_faults.OpenFault.TheVariants as faults
use Rattle.store_file.specs.Causes.{IsFromOutside}
use Rattle.store_file.specs.Opening.{IsNoStore, IsBadRecord, IsDamagedAt, IsFaultOf}

abbrev Fits : List ℕ → Type 0
Fits p = length p < 2 ^ 64

number_is : (a b : ℕ) → a ≡ b → b ≡ a
number_is a b e = sym e

-- what begins with a length and that many bytes does so in one way
same_record : (p q x y : List ℕ) → Fits p → Fits q → number_bytes (length p) ++ (p ++ x) ≡ number_bytes (length q) ++ (q ++ y)
    → (p ≡ q) × (x ≡ y)
same_record p q x y fits fits2 e =
    let size : length p ≡ length q = sym (number_in-bytes (length p) (p ++ x) fits) ∙ ap number_in e
    ∙ number_in-bytes (length q) (q ++ y) fits2 in
    let body : p ++ x ≡ q ++ y = sym (drop-number_bytes (length p) (p ++ x)) ∙ ap (λ (l : List ℕ). drop 8 l) e
    ∙ drop-number_bytes (length q) (q ++ y) in
    let front : p ≡ q = sym (take_at p x (length p) refl) ∙ ap (λ (l : List ℕ). take (length p) l) body
    ∙ take_at q y (length p) (sym size) in
    let back : x ≡ y = sym (drop_at p x (length p) refl) ∙ ap (λ (l : List ℕ). drop (length p) l) body
    ∙ drop_at q y (length p) (sym size) in
    (front, back)

heads : (a b : ℕ) (xs ys : List ℕ) → a ∷ xs ≡ b ∷ ys → a ≡ b
heads a b xs ys e = cc

tails : (a b : ℕ) (xs ys : List ℕ) → a ∷ xs ≡ b ∷ ys → xs ≡ ys
tails a b xs ys e = cc

-- a record in front, with what follows it
in_front : (p : List ℕ) (ps : List (List ℕ)) (z : List ℕ)
    → flat_map record_bytes (p ∷ ps) ++ z ≡ 1 ∷ (number_bytes (length p) ++ (p ++ (flat_map record_bytes ps ++ z)))
in_front p ps z =
    append_assoc (record_bytes p) (flat_map record_bytes ps) z
    ∙ ap (λ (l : List ℕ). 1 ∷ l) (append_assoc (number_bytes (length p)) p (flat_map record_bytes ps ++ z))

fits_front : (p : List ℕ) (ps : List (List ℕ)) → length (flat_map record_bytes (p ∷ ps)) < 2 ^ 64
    → Fits p × (length (flat_map record_bytes ps) < 2 ^ 64)
fits_front p ps small =
    let whole = length-append (record_bytes p) (flat_map record_bytes ps) in
    let size = length-record p in
    (omega arith, omega arith)

-- where records are followed by an open gate, a journal goes on there with a record
pub record Goes (qs ps : List (List ℕ)) (after z : List ℕ) : Type 0 where
  pub payload : List ℕ
  pub others : List (List ℕ)
  pub split : ps ≡ qs ++ payload ∷ others
  pub fits : Fits payload
  pub whole : after ≡ number_bytes (length payload) ++ (payload ++ (flat_map record_bytes others ++ z))

pub goes_on : (qs ps : List (List ℕ)) (after rest : List ℕ) (gate : ℕ) → gate ≢ 1 → length (flat_map record_bytes qs) < 2 ^ 64
    → length (flat_map record_bytes ps) < 2 ^ 64
    → flat_map record_bytes qs ++ 1 ∷ after ≡ flat_map record_bytes ps ++ gate ∷ rest → Goes qs ps after (gate ∷ rest)
goes_on [] [] after rest gate shut small small2 e = absurd (shut (sym (heads 1 gate after rest e)))
goes_on [] (p ∷ ps) after rest gate shut small small2 e =
    record {
      payload = p;
      others = ps;
      split = refl;
      fits = (fits_front p ps small2).0;
      whole = tails 1 1 after _ (e ∙ in_front p ps (gate ∷ rest));
    }
goes_on (q ∷ qs) [] after rest gate shut small small2 e = absurd (shut (sym (heads 1 gate _ rest (sym (in_front q qs (1 ∷ after)) ∙ e))))
goes_on (q ∷ qs) (p ∷ ps) after rest gate shut small small2 e =
    let fits = fits_front q qs small in
    let fits2 = fits_front p ps small2 in
    let same = same_record q p (flat_map record_bytes qs ++ 1 ∷ after) (flat_map record_bytes ps ++ gate ∷ rest) fits.0 fits2.0
    (tails 1 1 _ _ (sym (in_front q qs (1 ∷ after)) ∙ e ∙ in_front p ps (gate ∷ rest))) in
    let more = goes_on qs ps after rest gate shut fits.1 fits2.1 same.1 in
    record {
      payload = more.payload;
      others = more.others;
      split = ap (λ (l : List ℕ). l ∷ ps) (sym same.0) ∙ ap (λ (l : List (List ℕ)). q ∷ l) more.split;
      fits = more.fits;
      whole = more.whole;
    }

no_more : {A : Type 0} (o : Option Stored) (f : Stored → Option Stored) (s : Stored) → o ≡ None → (o >>= f) ≡ Some s → A
no_more (Some t) f s none some = absurd cc
no_more None f s none some = absurd cc

-- records that make a store, and then one that is none there, make none
bad_makes_none : {A : Type 0} (s t : Stored) (qs : List (List ℕ)) (p : List ℕ) (others : List (List ℕ)) (made : Stored)
    → after_records s qs ≡ Some t → after_record t p ≡ None
    → after_records s (qs ++ p ∷ others) ≡ Some made → A
bad_makes_none s t [] p others made is bad makes =
    no_more (after_record s p) (λ u. after_records u others) made (ap (λ (u : Stored). after_record u p) (some_is s t is) ∙ bad) makes
  where
    some_is : (a b : Stored) → Some a ≡ Some b → a ≡ b
    some_is a b e = cc
bad_makes_none {A} s t (q ∷ qs) p others made is bad makes =
    bad_step (after_record s q) t qs p others made (λ u. bad_makes_none {A = A} u t qs p others made) is bad makes
  where
    bad_step : (o : Option Stored) (t : Stored) (qs : List (List ℕ)) (p : List ℕ) (others : List (List ℕ)) (made : Stored)
        → ((u : Stored) → after_records u qs ≡ Some t → after_record t p ≡ None → after_records u (qs ++ p ∷ others) ≡ Some made → A)
        → (o >>= (λ u. after_records u qs)) ≡ Some t → after_record t p ≡ None
        → (o >>= (λ u. after_records u (qs ++ p ∷ others))) ≡ Some made → A
    bad_step (Some u) t qs p others made next is bad makes = next u is bad makes
    bad_step None t qs p others made next is bad makes = absurd cc

-- a journal that makes a store isn't damaged
pub not_damaged : (bytes : List ℕ) (at : ℕ) (s : Stored) → length bytes < 2 ^ 64 → Stands s bytes → IsDamagedAt at bytes → ⊥
not_damaged bytes at s small stands damaged =
    let ps = stands.payloads in
    let qs = damaged.payloads in
    let j = stands.journal in
    let whole : records qs ++ 1 ∷ damaged.rest ≡ records ps ++ j.gate ∷ j.rest = sym damaged.whole ∙ j.whole in
    let bodies : flat_map record_bytes qs ++ 1 ∷ damaged.rest ≡ flat_map record_bytes ps ++ j.gate ∷ j.rest =
    append_cancel_left magic _ _ (sym (append_assoc magic (flat_map record_bytes qs) (1 ∷ damaged.rest)) ∙ whole
    ∙ append_assoc magic (flat_map record_bytes ps) (j.gate ∷ j.rest)) in
    let size = ap length damaged.whole in
    let size2 = ap length j.whole in
    let parts = length-append (records qs) (1 ∷ damaged.rest) in
    let parts2 = length-append (records ps) (j.gate ∷ j.rest) in
    let front = length-records qs in
    let front2 = length-records ps in
    let goes = goes_on qs ps damaged.rest j.rest j.gate j.shut (omega arith) (omega arith) bodies in
    broken goes (omega (arith, length-append (records qs) (1 ∷ damaged.rest))) damaged.broken
  where
    broken : Goes damaged.payloads stands.payloads damaged.rest (stands.journal.gate ∷ stands.journal.rest) → length damaged.rest < 2 ^ 64
        → IsCutShort damaged.rest ⊎ IsBadRecord damaged.made damaged.rest → ⊥
    broken goes few (inl short) =
        let tail = flat_map record_bytes goes.others ++ stands.journal.gate ∷ stands.journal.rest in
        let read : number_in damaged.rest ≡ length goes.payload = ap number_in goes.whole
        ∙ number_in-bytes (length goes.payload) (goes.payload ++ tail) goes.fits in
        let size : length damaged.rest ≡ length (number_bytes (length goes.payload) ++ (goes.payload ++ tail)) = ap length goes.whole in
        let one = length-append (number_bytes (length goes.payload)) (goes.payload ++ tail) in
        let two = length-append goes.payload tail in
        let three = length-append (flat_map record_bytes goes.others) (stands.journal.gate ∷ stands.journal.rest) in
        let four = length-number_bytes (length goes.payload) in
        let fact : length damaged.rest ≤ 8 + number_in damaged.rest = short in
        omega arith
    broken goes few (inr bad) =
        let tail = flat_map record_bytes goes.others ++ stands.journal.gate ∷ stands.journal.rest in
        let size : length damaged.rest ≡ length (number_bytes (length bad.payload) ++ (bad.payload ++ bad.rest)) = ap length bad.whole in
        let one = length-append (number_bytes (length bad.payload)) (bad.payload ++ bad.rest) in
        let two = length-append bad.payload bad.rest in
        let same = same_record goes.payload bad.payload tail bad.rest goes.fits (omega arith) (sym goes.whole ∙ bad.whole) in
        bad_makes_none empty_store damaged.made damaged.payloads goes.payload goes.others s damaged.makes
        (ap (λ (p : List ℕ). after_record damaged.made p) same.0 ∙ bad.bad)
        (ap stored_by (sym goes.split) ∙ stands.makes)

-- nor is it no store
pub not_none : (bytes : List ℕ) (s : Stored) → Stands s bytes → IsNoStore bytes → ⊥
not_none bytes s stands none = no none
  where
    whole : bytes ≡ magic ++ (flat_map record_bytes stands.payloads ++ stands.journal.gate ∷ stands.journal.rest)
    whole = stands.journal.whole ∙ append_assoc magic (flat_map record_bytes stands.payloads) (stands.journal.gate ∷ stands.journal.rest)

    eight : length magic ≡ 8
    eight = length-magic

    no : IsNoStore bytes → ⊥
    no (inl short) =
        omega (
          arith,
          ap length whole,
          length-append magic (flat_map record_bytes stands.payloads ++ stands.journal.gate ∷ stands.journal.rest),
          length-append (flat_map record_bytes stands.payloads) (stands.journal.gate ∷ stands.journal.rest),
          eight,
        )
    no (inr other) = other (ap (λ (l : List ℕ). take 8 l) whole
        ∙ take_at magic (flat_map record_bytes stands.payloads ++ stands.journal.gate ∷ stands.journal.rest) 8 eight)

-- bytes stand for one store alone
pub one_store : (bytes : List ℕ) (s t : Stored) → length bytes < 2 ^ 64 → Stands s bytes → Stands t bytes → s ≡ t
one_store bytes s t small one two =
    let read = λ (u : Stored) (stands : Stands u bytes).
    let size = ap length stands.journal.whole in
    let parts = length-append (records stands.payloads) (stands.journal.gate ∷ stands.journal.rest) in
    let payloads : payloads_of bytes ≡ stands.payloads = journal_read stands.payloads bytes (omega arith) stands.journal in
    let makes : stored_by (payloads_of bytes) ≡ Some u = ap stored_by payloads ∙ stands.makes in
    makes in
    store_is s t (sym (read s one) ∙ read t two)
  where
    store_is : (a b : Stored) → Some a ≡ Some b → a ≡ b
    store_is a b e = cc

-- so it is refused for nothing that it holds
pub from_outside : (bytes : List ℕ) (why : OpenFault) (s : Stored) → length bytes < 2 ^ 64 → IsFaultOf bytes why → Stands s bytes
    → IsFromOutside why
from_outside bytes faults.DiskFault s small fault stands = tt
from_outside bytes faults.NotAStore s small fault stands = not_none bytes s stands fault
from_outside bytes (faults.Damaged at) s small fault stands = not_damaged bytes at s small stands fault
from_outside bytes faults.Memory s small fault stands = tt
