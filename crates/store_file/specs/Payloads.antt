-- A change as it stands in a record, and the reading of it.
use Rattle.std.specs.Prelude.{⊤, ◌≡◌, ◌<◌, false, ℕ, ◌+◌, ◌-◌, ◌*◌, ◌/◌, ◌%◌, ◌^◌, List, [], ◌∷◌, ◌++◌, length, drop, Option, Some, None}
use Rattle.std.specs.Prelude.{nat_lt, ◌==◌, if◌then◌else◌}
use Rattle.journal_core.specs.Records.{number_bytes, number_in}
use Rattle.store_core.specs.declared.shards.ShardId.{ShardId}
use Rattle.store_core.specs.declared.part_keys.PartKey.{PartKey}
use Rattle.store_core.specs.declared.calls.Call.{Call}
use Rattle.store_core.specs.declared.calls.Call.TheVariants as calls
use Rattle.store_core.specs.Stores.{next_number, is_last_number}

-- sixteen bytes
abbrev pub shard_bytes : ShardId → List ℕ
shard_bytes s = number_bytes (s.0 / 2 ^ 64) ++ number_bytes (s.0 % 2 ^ 64)

-- the shard, and member, token and index
abbrev pub key_bytes : PartKey → List ℕ
key_bytes k = shard_bytes k.shard ++ (number_bytes k.member ++ (number_bytes k.token ++ number_bytes k.index))

-- a committed Cas with its number, a Truncate, a Set or a Delete
abbrev pub payload_of : Call → List ℕ
payload_of (calls.Cas shard expected bytes) = 1 ∷ (shard_bytes shard ++ (number_bytes (next_number expected) ++ bytes))
payload_of (calls.Truncate shard below) = 2 ∷ (shard_bytes shard ++ number_bytes below)
payload_of (calls.Set key bytes) = 3 ∷ (key_bytes key ++ bytes)
payload_of (calls.Delete key) = 4 ∷ key_bytes key
payload_of _ = []

-- the next step, where there is a value
infixl 10 ◌>>=◌
abbrev pub ◌>>=◌ : {A B : Type 0} → Option A → (A → Option B) → Option B
(Some x) >>= f = f x
None >>= f = None

-- a number in eight bytes, and what is left after it
unfoldable pub number_at : List ℕ → Option (ℕ × List ℕ)
number_at bytes = if nat_lt (length bytes) 8 then None else Some (number_in bytes, drop 8 bytes)

-- a shard
unfoldable pub shard_at : List ℕ → Option (ShardId × List ℕ)
shard_at bytes = do
  high ← number_at bytes
  low ← number_at high.1
  Some (record { 0 = high.0 * 2 ^ 64 + low.0 }, low.1)

-- a key
unfoldable pub key_at : List ℕ → Option (PartKey × List ℕ)
key_at bytes = do
  shard ← shard_at bytes
  member ← number_at shard.1
  token ← number_at member.1
  index ← number_at token.1
  Some (record { shard = shard.0; member = member.0; token = token.0; index = index.0 }, index.1)

-- what a Cas expected that committed this number
abbrev pub expected_for : ℕ → Option ℕ
expected_for number = if number == 0 then None else Some (number - 1)

-- nothing is left
abbrev pub at_end : {A : Type 0} → A → List ℕ → Option A
at_end x [] = Some x
at_end x (b ∷ bs) = None

unfoldable pub cas_in : List ℕ → Option Call
cas_in bytes = do
  shard ← shard_at bytes
  number ← number_at shard.1
  Some (calls.Cas shard.0 (expected_for number.0) number.1)

unfoldable pub truncate_in : List ℕ → Option Call
truncate_in bytes = do
  shard ← shard_at bytes
  below ← number_at shard.1
  at_end (calls.Truncate shard.0 below.0) below.1

unfoldable pub set_in : List ℕ → Option Call
set_in bytes = do
  key ← key_at bytes
  Some (calls.Set key.0 key.1)

unfoldable pub delete_in : List ℕ → Option Call
delete_in bytes = do
  key ← key_at bytes
  at_end (calls.Delete key.0) key.1

-- the change with a tag
abbrev pub tagged : ℕ → List ℕ → Option Call
tagged tag bytes =
    if tag == 1 then cas_in bytes
    else (if tag == 2 then truncate_in bytes else (if tag == 3 then set_in bytes else (if tag == 4 then delete_in bytes else None)))

-- the change of a payload, where it is one
abbrev pub call_in : List ℕ → Option Call
call_in [] = None
call_in (tag ∷ bytes) = tagged tag bytes

-- a Cas isn't after the last number that there can be
abbrev pub HasNext : Call → Type 0
HasNext (calls.Cas shard expected bytes) = is_last_number expected ≡ false
HasNext _ = ⊤

-- the numbers of a shard and of a key have their bounds
abbrev pub ShardFits : ShardId → Type 0
ShardFits s = s.0 < 2 ^ 128

pub record KeyFits (k : PartKey) : Type 0 where
  pub shard : ShardFits k.shard
  pub member : k.member < 2 ^ 64
  pub token : k.token < 2 ^ 64
  pub index : k.index < 2 ^ 64

-- those of a change have theirs
abbrev pub Fits : Call → Type 0
Fits (calls.Cas shard expected bytes) = ShardFits shard × (next_number expected < 2 ^ 64)
Fits (calls.Truncate shard below) = ShardFits shard × (below < 2 ^ 64)
Fits (calls.Set key bytes) = KeyFits key
Fits (calls.Delete key) = KeyFits key
Fits _ = ⊤

-- a call that can be a change
abbrev pub IsChange : Call → Type 0
IsChange (calls.Cas shard expected bytes) = ⊤
IsChange (calls.Truncate shard below) = ⊤
IsChange (calls.Set key bytes) = ⊤
IsChange (calls.Delete key) = ⊤
IsChange _ = ⊥
