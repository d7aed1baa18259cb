-- Steps of a walk in memory.
use Rattle.std.proofs.Common.{◌≡◌, ℕ, ◌+◌, ◌<◌, List, [], ◌∷◌, ◌++◌, take, get_or, length, Ok, refl, sym, ap, ◌∙◌, append_assoc}
use Rattle.std.specs.Result.{result_ok}
use Rattle.std.proofs.lemmas.List.{take_more, append-nil}
use Rattle.update_core.specs.declared.updates.Update.{Update}
use Rattle.store_core.specs.declared.part_keys.PartKey.{PartKey}
use Rattle.store_core.specs.Stores.{Stored}
use Rattle.part_codec.specs.Reading.{all_of}
use Rattle.byte_core.specs.ByteLists.{IsBytes}
use Rattle.history_core.specs.Readings.{rows_in}
use Rattle.history_core.specs.Stands.{rows_under, rows_of_blob, rows_or_none}
use Rattle.history_core.proofs.ReadingFacts.{rows_in_bytes}

-- the rows of bytes that were read
pub rows_read : (bytes : List ℕ) (rows : List Update) → IsBytes bytes → all_of bytes ≡ Ok rows
    → rows ≡ rows_or_none (rows_in bytes)
rows_read bytes rows fits is = sym (ap rows_or_none (rows_in_bytes bytes fits ∙ ap result_ok is))

pub rows_under-append : (store : Stored) (ks qs : List PartKey)
    → rows_under store (ks ++ qs) ≡ rows_under store ks ++ rows_under store qs
rows_under-append store [] qs = refl
rows_under-append store (k ∷ ks) qs = ap (λ (us : List Update). rows_of_blob (store.blobs k) ++ us) (rows_under-append store ks qs) ∙ sym (append_assoc (rows_of_blob (store.blobs k)) (rows_under store ks) (rows_under store qs))

-- the rows of one more key
pub one_more_key : (store : Stored) (before now : List Update) (ks : List PartKey) (i : ℕ) (d : PartKey) (old : List Update)
    → i < length ks → before ≡ old ++ rows_under store (take i ks)
    → now ≡ before ++ rows_of_blob (store.blobs (get_or ks i d)) → now ≡ old ++ rows_under store (take (i + 1) ks)
one_more_key store before now ks i d old lt was is =
    let k = get_or ks i d in
    let one : rows_under store (k ∷ []) ≡ rows_of_blob (store.blobs k) = append-nil (rows_of_blob (store.blobs k)) in
    let more : rows_under store (take (i + 1) ks) ≡ rows_under store (take i ks) ++ rows_of_blob (store.blobs k) =
    ap (rows_under store) (take_more ks i d lt) ∙ rows_under-append store (take i ks) (k ∷ [])
    ∙ ap (λ (us : List Update). rows_under store (take i ks) ++ us) one in
    is ∙ ap (λ (us : List Update). us ++ rows_of_blob (store.blobs k)) was
    ∙ append_assoc old (rows_under store (take i ks)) (rows_of_blob (store.blobs k))
    ∙ ap (λ (us : List Update). old ++ us) (sym more)
