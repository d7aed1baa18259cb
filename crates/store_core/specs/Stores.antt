-- A store: blobs by key, and for each shard its live versions, which are numbered without a gap.
use Rattle.std.specs.Prelude.{ℕ, ◌+◌, ◌-◌, ◌^◌, Bool, true, false, min, nat_lt, nat_le, ◌==◌, Option, Some, None, List, [], ◌∷◌, ◌++◌, length, drop, filter, if◌then◌else◌}
use Rattle.std.specs.declared.cmp.Ordering.{Ordering}
use Rattle.std.specs.Ordering.{nat_cmp, ordering_then, is_eq}
use Rattle.store_core.specs.declared.shards.ShardId.{ShardId}
use Rattle.store_core.specs.declared.part_keys.PartKey.{PartKey}
use Rattle.store_core.specs.declared.versions.Version.{Version}
use Rattle.store_core.specs.declared.calls.Call.{Call}
use Rattle.store_core.specs.declared.calls.Call.TheVariants as calls
use Rattle.store_core.specs.declared.replies.Reply.{Reply}
use Rattle.store_core.specs.declared.replies.Reply.TheVariants as replies

-- the number of the first live version, and the bytes of each
pub record Log : Type 0 where
  pub first : ℕ
  pub versions : List (List ℕ)

-- blobs by key, and versions by shard
pub record Stored : Type 0 where
  pub blobs : PartKey → Option (List ℕ)
  pub logs : ShardId → Log

-- the log of a shard with no version
abbrev pub no_log : Log
no_log = record { first = 0; versions = [] }

-- the store with nothing in it
abbrev pub empty_store : Stored
empty_store = record { blobs = λ k. None; logs = λ s. no_log }

-- the order of shards
abbrev pub shard_cmp : ShardId → ShardId → Ordering
shard_cmp a b = nat_cmp a.0 b.0

-- the order of keys
abbrev pub key_cmp : PartKey → PartKey → Ordering
key_cmp a b = ordering_then (shard_cmp a.shard b.shard) (ordering_then (nat_cmp a.member b.member) (ordering_then (nat_cmp a.token b.token) (nat_cmp a.index b.index)))

-- versions with these bytes, numbered from n on
abbrev pub numbered : ℕ → List (List ℕ) → List Version
numbered n [] = []
numbered n (b ∷ bs) = record { number = n; bytes = b } ∷ numbered (n + 1) bs

-- the live versions of a log
abbrev pub live : Log → List Version
live log = numbered log.first log.versions

-- the last of a list
abbrev pub last_of : {A : Type 0} → List A → Option A
last_of [] = None
last_of (x ∷ []) = Some x
last_of (x ∷ y ∷ xs) = last_of (y ∷ xs)

-- the last number, where there is a version
abbrev pub last_number : Log → Option ℕ
last_number log = if nat_lt 0 (length log.versions) then Some (log.first + length log.versions - 1) else None

-- whether two numbers, or their want, are one
abbrev pub same_number : Option ℕ → Option ℕ → Bool
same_number None None = true
same_number None (Some b) = false
same_number (Some a) None = false
same_number (Some a) (Some b) = a == b

-- whether no number follows
abbrev pub is_last_number : Option ℕ → Bool
is_last_number None = false
is_last_number (Some n) = n == 2 ^ 64 - 1

-- the number of the next version
abbrev pub next_number : Option ℕ → ℕ
next_number None = 0
next_number (Some n) = n + 1

-- a map that is changed at one key
abbrev pub set_at : {K X : Type 0} → (K → K → Ordering) → (K → X) → K → X → K → X
set_at R m k v q = if is_eq (R k q) then v else m q

-- the store with one key changed
abbrev pub with_blob : Stored → PartKey → Option (List ℕ) → Stored
with_blob s k v = record { blobs = set_at key_cmp s.blobs k v; logs = s.logs }

-- the store with one shard changed
abbrev pub with_log : Stored → ShardId → Log → Stored
with_log s d log = record { blobs = s.blobs; logs = set_at shard_cmp s.logs d log }

-- the log with one more version at its end
abbrev pub committed : Log → List ℕ → Log
committed log bytes = record { first = log.first; versions = log.versions ++ bytes ∷ [] }

-- how many versions a Truncate removes: those below the number, but never the last
abbrev pub gone : Log → ℕ → ℕ
gone log below = min (below - log.first) (length log.versions - 1)

-- the log without them
abbrev pub truncated : Log → ℕ → Log
truncated log below = record { first = log.first + gone log below; versions = drop (gone log below) log.versions }

-- what a Cas answers
abbrev pub cas_reply : Log → Option ℕ → Reply
cas_reply log expected = if same_number expected (last_number log) then (if is_last_number expected then replies.Spent else replies.Committed (next_number expected)) else replies.Mismatch

-- the log that a Cas leaves
abbrev pub cas_log : Log → Option ℕ → List ℕ → Log
cas_log log expected bytes = if same_number expected (last_number log) then (if is_last_number expected then log else committed log bytes) else log

-- the reply of a call that doesn't fail
abbrev pub reply_of : Stored → Call → Reply
reply_of s (calls.Head shard) = replies.Version (last_of (live (s.logs shard)))
reply_of s (calls.Scan shard from) = replies.Versions (filter (λ v. nat_le from v.number) (live (s.logs shard)))
reply_of s (calls.Cas shard expected bytes) = cas_reply (s.logs shard) expected
reply_of s (calls.Truncate shard below) = replies.Truncated
reply_of s (calls.Get key) = replies.Bytes (s.blobs key)
reply_of s (calls.Set key bytes) = replies.Stored
reply_of s (calls.Delete key) = replies.Deleted

-- the store after a call that takes effect
abbrev pub after_call : Stored → Call → Stored
after_call s (calls.Head shard) = s
after_call s (calls.Scan shard from) = s
after_call s (calls.Cas shard expected bytes) = with_log s shard (cas_log (s.logs shard) expected bytes)
after_call s (calls.Truncate shard below) = with_log s shard (truncated (s.logs shard) below)
after_call s (calls.Get key) = s
after_call s (calls.Set key bytes) = with_blob s key (Some bytes)
after_call s (calls.Delete key) = with_blob s key None
