-- Reading a version from left to right, with the first fault that is met. A rule is looked at with the last field of which it speaks.
use Rattle.std.specs.Prelude.{⊤, ◌≡◌, ℕ, zero, suc, ◌+◌, ◌-◌, ◌^◌, Bool, true, List, [], ◌∷◌, ◌++◌, length, take, drop, Option, Some, None, Result, Ok, Err, nat_lt, ◌==◌, if◌then◌else◌, ◌&&◌, not, ◌||◌}
use Rattle.std.specs.List.{list_any}
use Rattle.std.specs.Int.{Width, w16, w32, w64, byte_len, from_be_bytes}
use Rattle.update_core.specs.Limits.{max_weight, most}
use Rattle.update_core.specs.Frontiers.{covers, is_at, frontier_eq}
use Rattle.byte_core.specs.declared.shorts.Short.{Short}
use Rattle.byte_core.specs.Reading.{place}
use Rattle.byte_core.specs.Reading as numbers
use Rattle.store_core.specs.Stores.{last_of}
use Rattle.store_core.specs.declared.shards.ShardId.{ShardId}
use Rattle.store_core.specs.declared.part_keys.PartKey.{PartKey}
use Rattle.spine_core.specs.Spines.{spine_upper, rows_of}
use Rattle.spine_core.specs.declared.batches.Batch.{Batch}
use Rattle.state_core.specs.declared.kinds.Kind.{Kind}
use Rattle.state_core.specs.declared.kinds.Kind.TheVariants.{Writer, Reader, Keeper}
use Rattle.state_core.specs.declared.members.Member.{Member}
use Rattle.state_core.specs.declared.transitions.Transition.{Transition}
use Rattle.state_core.specs.declared.transitions.Transition.TheVariants.{Init, Join, Leave, Renew, Advance, Expire, Append, Merge}
use Rattle.version_codec.specs.declared.version_faults.VersionFault.{VersionFault}
use Rattle.version_codec.specs.declared.version_faults.VersionFault.TheVariants as faults
use Rattle.state_core.specs.Refusals.{is_shaped, is_part_count, member_of, same_key}
use Rattle.state_core.specs.States.{ShardState, is_reader, is_writer, least_since, keys_of}
use Rattle.state_core.specs.Steps.{init, acts_for}
use Rattle.version_codec.specs.Versions.{before_merge}

-- the next step, unless there is a fault
infixl 10 ◌>>=◌
abbrev pub ◌>>=◌ : {A B : Type 0} → Result A VersionFault → (A → Result B VersionFault) → Result B VersionFault
(Ok x) >>= f = f x
(Err e) >>= f = Err e

-- what was answered in place of a value is the fault that reading meets, or want of memory
abbrev pub Fails : {Y : Type 0} → VersionFault → Result Y VersionFault → Type 0
Fails faults.Memory read = ⊤
Fails e read = read ≡ Err e

-- what was answered, seen by view, is what reading gives, unless memory ran out
abbrev pub Gives : {X Y : Type 0} → (X → Y) → Result X VersionFault → Result Y VersionFault → Type 0
Gives view (Ok x) read = read ≡ Ok (view x)
Gives view (Err e) read = Fails e read

-- what is read, unless the bytes end too soon
abbrev pub whole_at : {A : Type 0} → Result A Short → Result A VersionFault
whole_at (Ok x) = Ok x
whole_at (Err e) = Err (faults.Short e.place)

-- ---- numbers

-- a byte, and what is left after it
abbrev pub byte_at : ℕ → List ℕ → Result (ℕ × List ℕ) VersionFault
byte_at total bytes = whole_at (numbers.byte_at total bytes)

-- a number in this many bytes, and what is left after it
abbrev pub wide_at : Width → ℕ → List ℕ → Result (ℕ × List ℕ) VersionFault
wide_at w total bytes = whole_at (numbers.wide_at w total bytes)

-- a number in eight bytes
unfoldable pub number_at : ℕ → List ℕ → Result (ℕ × List ℕ) VersionFault
number_at total bytes = wide_at w64 total bytes

-- a number that isn't above a limit
unfoldable pub limited_at : ℕ → ℕ → List ℕ → Result (ℕ × List ℕ) VersionFault
limited_at total limit bytes = do
  n ← number_at total bytes
  if nat_lt limit n.0 then Err (faults.Rule (place total bytes)) else Ok n

-- the letters PVER as a number
abbrev pub magic : ℕ
magic = 1347831122

-- what is left after the letters PVER
unfoldable pub magic_at : ℕ → List ℕ → Result (List ℕ) VersionFault
magic_at total bytes = do
  n ← wide_at w32 total bytes
  if n.0 == magic then Ok n.1 else Err (faults.Magic (place total bytes))

-- what is left after form 1
unfoldable pub form_at : ℕ → List ℕ → Result (List ℕ) VersionFault
form_at total bytes = do
  b ← byte_at total bytes
  if b.0 == 1 then Ok b.1 else Err (faults.Form (place total bytes))

-- a time, which is the rest of a frontier that begins at `start`
unfoldable pub time_at : ℕ → List ℕ → List ℕ → Result (Option ℕ × List ℕ) VersionFault
time_at total start bytes =
    if nat_lt (length bytes) 8 then Err (faults.Short (place total start)) else Ok (Some (from_be_bytes w64 (take 8 bytes)), drop 8 bytes)

-- a frontier
unfoldable pub frontier_at : ℕ → List ℕ → Result (Option ℕ × List ℕ) VersionFault
frontier_at total bytes = do
  tag ← byte_at total bytes
  if tag.0 == 0 then time_at total bytes tag.1 else if tag.0 == 1 then Ok (None, tag.1) else Err (faults.Tag (place total bytes))

-- the kind of this byte
abbrev pub kind_of : ℕ → Option Kind
kind_of n = if n == 0 then Some Writer else if n == 1 then Some Reader else if n == 2 then Some Keeper else None

-- this kind, else Tag
abbrev pub known_kind : ℕ → List ℕ → Option Kind → List ℕ → Result (Kind × List ℕ) VersionFault
known_kind total bytes None rest = Err (faults.Tag (place total bytes))
known_kind total bytes (Some kind) rest = Ok (kind, rest)

-- a kind of member
unfoldable pub kind_at : ℕ → List ℕ → Result (Kind × List ℕ) VersionFault
kind_at total bytes = do
  tag ← byte_at total bytes
  known_kind total bytes (kind_of tag.0) tag.1

-- ---- members, to be added to a state that has the fields and members before them

-- a limit for a writer, and another for the other kinds
abbrev pub unless_writer : Kind → ℕ → ℕ
unless_writer kind n = if is_writer kind then 0 else n

-- only a reader has a since
abbrev pub most_since : Kind → ℕ
most_since kind = if is_reader kind then most else 0

-- a reader has no token
abbrev pub most_token : Kind → ℕ
most_token kind = if is_reader kind then 0 else most

-- whether a number is above that of the member before, and is that of none to come
abbrev pub may_join : Option Member → ℕ → ℕ → Bool
may_join None next n = nat_lt n next
may_join (Some before) next n = nat_lt before.number n && nat_lt n next

-- the number of a member
unfoldable pub joined_at : ℕ → ShardState → List ℕ → Result (ℕ × List ℕ) VersionFault
joined_at total s bytes = do
  n ← number_at total bytes
  if may_join (last_of s.members) s.next_member n.0 then Ok n else Err (faults.Rule (place total bytes))

-- one member more
unfoldable pub member_at : ℕ → ShardState → List ℕ → Result (Member × List ℕ) VersionFault
member_at total s bytes = do
  number ← joined_at total s bytes
  kind ← kind_at total number.1
  since ← limited_at total (most_since kind.0) kind.1
  hold ← limited_at total (unless_writer kind.0 s.number) since.1
  beat ← limited_at total (unless_writer kind.0 most) hold.1
  lease ← limited_at total (unless_writer kind.0 most) beat.1
  token ← limited_at total (most_token kind.0) lease.1
  Ok (record { number = number.0; kind = kind.0; since = since.0; hold = hold.0; beat = beat.0; lease = lease.0; token = token.0 }, token.1)

-- the state with one member more
abbrev pub with_member : ShardState → Member → ShardState
with_member s m = record s { members = s.members ++ m ∷ [] }

-- the state with this many members more
unfoldable pub members_at : ℕ → ShardState → ℕ → List ℕ → Result (ShardState × List ℕ) VersionFault
members_at total s zero bytes = Ok (s, bytes)
members_at total s (suc n) bytes = do
  m ← member_at total s bytes
  members_at total (with_member s m.0) n m.1

-- the place of the last reader's since, where members begin at p: each has 49 bytes, and its since begins with the tenth
abbrev pub reader_place : ℕ → ℕ → List Member → ℕ
reader_place found p [] = found
reader_place found p (m ∷ ms) = reader_place (if is_reader m.kind then p + 9 else found) (p + 49) ms

-- whether where there is a least since, it is the since
abbrev pub since_is : Option ℕ → ℕ → Bool
since_is None since = true
since_is (Some n) since = since == n

-- how many members there are
unfoldable pub member_count_at : ℕ → List ℕ → Result (ℕ × List ℕ) VersionFault
member_count_at total bytes = do
  n ← wide_at w16 total bytes
  if nat_lt 256 n.0 then Err (faults.Rule (place total bytes)) else Ok n

-- the state with all its members
unfoldable pub all_members_at : ℕ → ShardState → List ℕ → Result (ShardState × List ℕ) VersionFault
all_members_at total s bytes = do
  count ← member_count_at total bytes
  read ← members_at total s count.0 count.1
  if since_is (least_since read.0.members) read.0.since then Ok read else Err (faults.Rule (reader_place 0 (place total count.1) read.0.members))

-- ---- keys, to be added to those of a state's batches and of the batch at hand

-- the greatest token that a key of this member may have, which is its token, where it stands
abbrev pub most_spent : Option Member → ℕ
most_spent None = most
most_spent (Some m) = m.token

-- a number below another
unfoldable pub below_at : ℕ → ℕ → List ℕ → Result (ℕ × List ℕ) VersionFault
below_at total end bytes = do
  n ← number_at total bytes
  if nat_lt n.0 end then Ok n else Err (faults.Rule (place total bytes))

-- a key that isn't among those before, and whose last field begins at `start`
abbrev pub new_key : ℕ → List ℕ → List PartKey → PartKey → List ℕ → Result (PartKey × List ℕ) VersionFault
new_key total start before k rest = if list_any (same_key k) before then Err (faults.Rule (place total start)) else Ok (k, rest)

-- the last field of a key that isn't among those before
unfoldable pub index_at : ℕ → ShardId → ℕ → ℕ → List PartKey → List ℕ → Result (PartKey × List ℕ) VersionFault
index_at total shard member token before bytes = do
  index ← number_at total bytes
  new_key total bytes before (record { shard = shard; member = member; token = token; index = index.0 }) index.1

-- a key that the state may name, and that isn't among those before
unfoldable pub key_at : ℕ → ShardState → List PartKey → List ℕ → Result (PartKey × List ℕ) VersionFault
key_at total s before bytes = do
  member ← below_at total s.next_member bytes
  token ← limited_at total (most_spent (member_of member.0 s.members)) member.1
  index_at total s.shard member.0 token.0 before token.1

-- this many keys more
unfoldable pub keys_at : ℕ → ShardState → List PartKey → ℕ → List ℕ → Result (List PartKey × List ℕ) VersionFault
keys_at total s ks zero bytes = Ok (ks, bytes)
keys_at total s ks (suc n) bytes = do
  k ← key_at total s (keys_of s.batches ++ ks) bytes
  keys_at total s (ks ++ k.0 ∷ []) n k.1

-- ---- batches, to be added to a state that has all before them

-- the lower of a batch: the time up to which the batches before go
unfoldable pub lower_at : ℕ → ShardState → List ℕ → Result (ℕ × List ℕ) VersionFault
lower_at total s bytes = do
  n ← number_at total bytes
  if is_at (spine_upper s.batches) n.0 then Ok n else Err (faults.Rule (place total bytes))

-- whether a batch may have this upper: it covers the lower, and is the state's where the batch is the last
abbrev pub may_end : ShardState → Bool → ℕ → Option ℕ → Bool
may_end s is_last lower upper = covers upper lower && (not is_last || frontier_eq s.upper upper)

-- the upper of a batch from this lower on
unfoldable pub upper_at : ℕ → ShardState → Bool → ℕ → List ℕ → Result (Option ℕ × List ℕ) VersionFault
upper_at total s is_last lower bytes = do
  f ← frontier_at total bytes
  if may_end s is_last lower f.0 then Ok f else Err (faults.Rule (place total bytes))

-- how many parts hold this many rows
unfoldable pub part_count_at : ℕ → ℕ → List ℕ → Result (ℕ × List ℕ) VersionFault
part_count_at total rows bytes = do
  n ← number_at total bytes
  if is_part_count rows n.0 then Ok n else Err (faults.Rule (place total bytes))

-- one batch more, the last one or not
unfoldable pub batch_at : ℕ → ShardState → Bool → List ℕ → Result (Batch × List ℕ) VersionFault
batch_at total s is_last bytes = do
  lower ← lower_at total s bytes
  upper ← upper_at total s is_last lower.0 lower.1
  since ← limited_at total s.since upper.1
  rows ← limited_at total (s.weight - rows_of s.batches) since.1
  count ← part_count_at total rows.0 rows.1
  keys ← keys_at total s [] count.0 count.1
  Ok (record { desc = record { lower = lower.0; upper = upper.0; since = since.0 }; parts = keys.0; rows = rows.0 }, keys.1)

-- the state with one batch more
abbrev pub with_batch : ShardState → Batch → ShardState
with_batch s b = record s { batches = s.batches ++ b ∷ [] }

-- the state with this many batches more, the last of which ends at its upper
unfoldable pub batches_at : ℕ → ShardState → ℕ → List ℕ → Result (ShardState × List ℕ) VersionFault
batches_at total s zero bytes = Ok (s, bytes)
batches_at total s (suc n) bytes = do
  b ← batch_at total s (n == 0) bytes
  batches_at total (with_batch s b.0) n b.1

-- how many batches there are: some, unless the upper is at 0
unfoldable pub batch_count_at : ℕ → ShardState → List ℕ → Result (ℕ × List ℕ) VersionFault
batch_count_at total s bytes = do
  n ← number_at total bytes
  if nat_lt 0 n.0 || is_at s.upper 0 then Ok n else Err (faults.Rule (place total bytes))

-- the state with all its batches
unfoldable pub all_batches_at : ℕ → ShardState → List ℕ → Result (ShardState × List ℕ) VersionFault
all_batches_at total s bytes = do
  count ← batch_count_at total s bytes
  batches_at total s count.0 count.1

-- ---- the state

-- the state with the fields before the members
unfoldable pub head_at : ℕ → ShardState → List ℕ → Result (ShardState × List ℕ) VersionFault
head_at total s bytes = do
  next_member ← limited_at total s.number bytes
  since ← number_at total next_member.1
  upper ← frontier_at total since.1
  weight ← limited_at total max_weight upper.1
  Ok (record s { next_member = next_member.0; since = since.0; upper = upper.0; weight = weight.0 }, weight.1)

-- the state of this shard and number
unfoldable pub state_at : ℕ → ShardId → ℕ → List ℕ → Result (ShardState × List ℕ) VersionFault
state_at total shard number bytes = do
  head ← head_at total (record (init shard) { number = number }) bytes
  members ← all_members_at total head.0 head.1
  all_batches_at total members.0 members.1

-- ---- the transition, whose rules are looked at once it is whole

-- a key
unfoldable pub step_key_at : ℕ → ShardId → List ℕ → Result (PartKey × List ℕ) VersionFault
step_key_at total shard bytes = do
  member ← number_at total bytes
  token ← number_at total member.1
  index ← number_at total token.1
  Ok (record { shard = shard; member = member.0; token = token.0; index = index.0 }, index.1)

-- this many keys more
unfoldable pub step_keys_at : ℕ → ShardId → List PartKey → ℕ → List ℕ → Result (List PartKey × List ℕ) VersionFault
step_keys_at total shard ks zero bytes = Ok (ks, bytes)
step_keys_at total shard ks (suc n) bytes = do
  k ← step_key_at total shard bytes
  step_keys_at total shard (ks ++ k.0 ∷ []) n k.1

-- the count of keys, and the keys
unfoldable pub counted_keys_at : ℕ → ShardId → List ℕ → Result (List PartKey × List ℕ) VersionFault
counted_keys_at total shard bytes = do
  count ← number_at total bytes
  step_keys_at total shard [] count.0 count.1

-- a batch
unfoldable pub step_batch_at : ℕ → ShardId → List ℕ → Result (Batch × List ℕ) VersionFault
step_batch_at total shard bytes = do
  lower ← number_at total bytes
  upper ← frontier_at total lower.1
  since ← number_at total upper.1
  rows ← number_at total since.1
  keys ← counted_keys_at total shard rows.1
  Ok (record { desc = record { lower = lower.0; upper = upper.0; since = since.0 }; parts = keys.0; rows = rows.0 }, keys.1)

-- the fields of a Join
unfoldable pub join_at : ℕ → List ℕ → Result (Transition × List ℕ) VersionFault
join_at total bytes = do
  kind ← kind_at total bytes
  now ← number_at total kind.1
  lease ← number_at total now.1
  Ok (Join kind.0 now.0 lease.0, lease.1)

-- a field alone
unfoldable pub one_at : (ℕ → Transition) → ℕ → List ℕ → Result (Transition × List ℕ) VersionFault
one_at made total bytes = do
  first ← number_at total bytes
  Ok (made first.0, first.1)

-- two fields
unfoldable pub two_at : (ℕ → ℕ → Transition) → ℕ → List ℕ → Result (Transition × List ℕ) VersionFault
two_at made total bytes = do
  first ← number_at total bytes
  second ← number_at total first.1
  Ok (made first.0 second.0, second.1)

-- the fields of an Append
unfoldable pub append_at : ℕ → ShardId → List ℕ → Result (Transition × List ℕ) VersionFault
append_at total shard bytes = do
  member ← number_at total bytes
  token ← number_at total member.1
  expected ← number_at total token.1
  new ← frontier_at total expected.1
  rows ← number_at total new.1
  weight ← number_at total rows.1
  keys ← counted_keys_at total shard weight.1
  Ok (Append member.0 token.0 expected.0 new.0 keys.0 rows.0 weight.0, keys.1)

-- the fields of a Merge
unfoldable pub merge_at : ℕ → ShardId → List ℕ → Result (Transition × List ℕ) VersionFault
merge_at total shard bytes = do
  member ← number_at total bytes
  token ← number_at total member.1
  left ← step_batch_at total shard token.1
  right ← step_batch_at total shard left.1
  merged ← step_batch_at total shard right.1
  Ok (Merge member.0 token.0 left.0 right.0 merged.0, merged.1)

-- the fields that follow a tag, which stands at the front of `start`
unfoldable pub fields_at : ℕ → ShardId → List ℕ → ℕ → List ℕ → Result (Transition × List ℕ) VersionFault
fields_at total shard start tag bytes =
    if tag == 0 then Ok (Init, bytes)
    else if tag == 1 then join_at total bytes
    else if tag == 2 then one_at Leave total bytes
    else if tag == 3 then two_at Renew total bytes
    else if tag == 4 then two_at Advance total bytes
    else if tag == 5 then one_at Expire total bytes
    else if tag == 6 then append_at total shard bytes
    else if tag == 7 then merge_at total shard bytes
    else Err (faults.Tag (place total start))

-- a transition, wherever it stands
unfoldable pub whole_step_at : ℕ → ShardId → List ℕ → Result (Transition × List ℕ) VersionFault
whole_step_at total shard bytes = do
  tag ← byte_at total bytes
  fields_at total shard bytes tag.0 tag.1

-- whether a transition keeps the shape rules that don't speak of the state before
abbrev pub is_shaped_alone : ShardId → Transition → Bool
is_shaped_alone shard (Join kind now lease) = is_shaped (init shard) (Join kind now lease)
is_shaped_alone shard (Append member token expected new parts rows weight) = is_shaped (init shard) (Append member token expected new parts rows weight)
is_shaped_alone shard (Merge member token left right merged) = is_shaped (before_merge shard merged) (Merge member token left right merged)
is_shaped_alone shard _ = true

-- whether a number, where there is one, is below another
abbrev pub is_below : Option ℕ → ℕ → Bool
is_below None next = true
is_below (Some member) next = nat_lt member next

-- a transition that may have made the state
unfoldable pub step_at : ℕ → ShardState → List ℕ → Result (Transition × List ℕ) VersionFault
step_at total s bytes = do
  x ← whole_step_at total s.shard bytes
  if is_shaped_alone s.shard x.0 && is_below (acts_for x.0) s.next_member then Ok x else Err (faults.Rule (place total bytes))

-- ---- all of the bytes

-- a state and a transition, and nothing after them
unfoldable pub read_version : ShardId → ℕ → List ℕ → Result (ShardState × Transition) VersionFault
read_version shard number bytes = do
  letters ← magic_at (length bytes) bytes
  form ← form_at (length bytes) letters
  state ← state_at (length bytes) shard number form
  step ← step_at (length bytes) state.0 state.1
  if length step.1 == 0 then Ok (state.0, step.0) else Err (faults.Trailing (place (length bytes) step.1))

-- what was read, unless there was a fault
abbrev pub whole : {A : Type 0} → Result A VersionFault → Option A
whole (Ok x) = Some x
whole (Err e) = None

-- the state and the transition of the version of this shard and number with these bytes, if they spell one
unfoldable pub version_in : ShardId → ℕ → List ℕ → Option (ShardState × Transition)
version_in shard number bytes = whole (read_version shard number bytes)
