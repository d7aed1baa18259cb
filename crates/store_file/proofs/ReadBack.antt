-- A change that was written is read back.
use Rattle.std.proofs.Common.{◌≡◌, ℕ, ◌+◌, ◌*◌, ◌/◌, ◌%◌, ◌^◌, ◌<◌, List, [], ◌++◌}
use Rattle.std.proofs.Common.{length, drop, Option, Some, None, refl, sym, ap, ◌∙◌, arith, append_assoc, length-append}
use Rattle.std.proofs.lemmas.Bool.{le-ltb, ne_eqb, cond-false}
use Rattle.std.proofs.lemmas.List.{append-nil}
use Rattle.journal_core.specs.Records.{number_bytes}
use Rattle.journal_core.proofs.Payloads.{length-number_bytes, number_in-bytes, drop-number_bytes}
use Rattle.store_core.specs.declared.shards.ShardId.{ShardId}
use Rattle.store_core.specs.declared.part_keys.PartKey.{PartKey}
use Rattle.store_core.specs.declared.calls.Call.{Call}
use Rattle.store_core.specs.declared.calls.Call.TheVariants as calls
use Rattle.store_core.specs.Stores.{next_number}
use Rattle.store_file.specs.Payloads.{◌>>=◌, number_at, shard_at, key_at, cas_in, truncate_in, set_in, delete_in, call_in, payload_of}
use Rattle.store_file.specs.Payloads.{shard_bytes, key_bytes, expected_for, Fits, KeyFits, ShardFits, IsChange}

number_back : (n : ℕ) (rest : List ℕ) → n < 2 ^ 64 → number_at (number_bytes n ++ rest) ≡ Some (n, rest)
unfolding number_at
number_back n rest fits =
    cond-false _ _ _ (le-ltb (length (number_bytes n ++ rest)) 8
    (omega (arith, length-append (number_bytes n) rest, length-number_bytes n)))
    ∙ ap (λ (k : ℕ). Some (k, drop 8 (number_bytes n ++ rest))) (number_in-bytes n rest fits)
    ∙ ap (λ (l : List ℕ). Some (n, l)) (drop-number_bytes n rest)

-- what a step goes on with
bind_back : {A B : Type 0} (o : Option A) (x : A) (f : A → Option B) → o ≡ Some x → (o >>= f) ≡ f x
bind_back o x f is = ap (λ p. p >>= f) is

halves : (n : ℕ) → n / 2 ^ 64 * 2 ^ 64 + n % 2 ^ 64 ≡ n
halves n = omega arith

high_fits : (n : ℕ) → n < 2 ^ 128 → n / 2 ^ 64 < 2 ^ 64
high_fits n fits = omega arith

abbrev shard_of : ℕ → ShardId
shard_of n = record { 0 = n }

shard_back : (s : ShardId) (rest : List ℕ) → ShardFits s → shard_at (shard_bytes s ++ rest) ≡ Some (s, rest)
unfolding shard_at
shard_back s rest fits =
    let high = number_bytes (s.0 / 2 ^ 64) in
    let low = number_bytes (s.0 % 2 ^ 64) in
    ap (λ (l : List ℕ). number_at l >>= (λ h. number_at h.1 >>= (λ w. Some (shard_of (h.0 * 2 ^ 64 + w.0), w.1))))
    (append_assoc high low rest)
    ∙ bind_back _ (s.0 / 2 ^ 64, low ++ rest) _ (number_back (s.0 / 2 ^ 64) (low ++ rest) (high_fits s.0 fits))
    ∙ bind_back _ (s.0 % 2 ^ 64, rest) _ (number_back (s.0 % 2 ^ 64) rest (omega arith))
    ∙ ap (λ (n : ℕ). Some (shard_of n, rest)) (halves s.0)

key_back : (k : PartKey) (rest : List ℕ) → KeyFits k → key_at (key_bytes k ++ rest) ≡ Some (k, rest)
unfolding key_at
key_back k rest fits =
    let shard = shard_bytes k.shard in
    let member = number_bytes k.member in
    let token = number_bytes k.token in
    let index = number_bytes k.index in
    let whole : key_bytes k ++ rest ≡ shard ++ (member ++ (token ++ (index ++ rest))) =
    append_assoc shard (member ++ (token ++ index)) rest
    ∙ ap (λ (l : List ℕ). shard ++ l) (append_assoc member (token ++ index) rest)
    ∙ ap (λ (l : List ℕ). shard ++ (member ++ l)) (append_assoc token index rest) in
    ap key_at whole
    ∙ bind_back _ (k.shard, member ++ (token ++ (index ++ rest))) _ (shard_back k.shard (member ++ (token ++ (index ++ rest))) fits.shard)
    ∙ bind_back _ (k.member, token ++ (index ++ rest)) _ (number_back k.member (token ++ (index ++ rest)) fits.member)
    ∙ bind_back _ (k.token, index ++ rest) _ (number_back k.token (index ++ rest) fits.token)
    ∙ bind_back _ (k.index, rest) _ (number_back k.index rest fits.index)

expected_back : (expected : Option ℕ) → expected_for (next_number expected) ≡ expected
expected_back None = refl
expected_back (Some n) = cond-false _ _ _ (ne_eqb (n + 1) 0 (λ e. omega arith)) ∙ ap Some (omega arith)

cas_back : (shard : ShardId) (expected : Option ℕ) (bytes : List ℕ) → ShardFits shard → next_number expected < 2 ^ 64
    → cas_in (shard_bytes shard ++ (number_bytes (next_number expected) ++ bytes)) ≡ Some (calls.Cas shard expected bytes)
unfolding cas_in
cas_back shard expected bytes fits number =
    bind_back _ (shard, number_bytes (next_number expected) ++ bytes) _
    (shard_back shard (number_bytes (next_number expected) ++ bytes) fits)
    ∙ bind_back _ (next_number expected, bytes) _ (number_back (next_number expected) bytes number)
    ∙ ap (λ (e : Option ℕ). Some (calls.Cas shard e bytes)) (expected_back expected)

truncate_back : (shard : ShardId) (below : ℕ) → ShardFits shard → below < 2 ^ 64
    → truncate_in (shard_bytes shard ++ number_bytes below) ≡ Some (calls.Truncate shard below)
unfolding truncate_in
truncate_back shard below fits number =
    bind_back _ (shard, number_bytes below) _ (shard_back shard (number_bytes below) fits)
    ∙ bind_back _ (below, []) _ (ap number_at (sym (append-nil (number_bytes below))) ∙ number_back below [] number)

set_back : (key : PartKey) (bytes : List ℕ) → KeyFits key → set_in (key_bytes key ++ bytes) ≡ Some (calls.Set key bytes)
unfolding set_in
set_back key bytes fits = bind_back _ (key, bytes) _ (key_back key bytes fits)

delete_back : (key : PartKey) → KeyFits key → delete_in (key_bytes key) ≡ Some (calls.Delete key)
unfolding delete_in
delete_back key fits = bind_back _ (key, []) _ (ap key_at (sym (append-nil (key_bytes key))) ∙ key_back key [] fits)

pub read_back : (c : Call) → IsChange c → Fits c → call_in (payload_of c) ≡ Some c
read_back (calls.Head shard) none fits = absurd none
read_back (calls.Scan shard from) none fits = absurd none
read_back (calls.Cas shard expected bytes) change fits = cas_back shard expected bytes fits.0 fits.1
read_back (calls.Truncate shard below) change fits = truncate_back shard below fits.0 fits.1
read_back (calls.Get key) none fits = absurd none
read_back (calls.Set key bytes) change fits = set_back key bytes fits
read_back (calls.Delete key) change fits = delete_back key fits
