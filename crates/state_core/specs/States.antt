-- The state of a shard: its members and batches, and the rules that every state keeps.
use Rattle.std.specs.Prelude.{◌≡◌, ℕ, ◌+◌, ◌*◌, ◌<◌, ◌≤◌, ◌^◌, min, max, Bool, true, false, ⊤, List, [], ◌∷◌, ◌++◌, length, Option, Some, None, if◌then◌else◌}
use Rattle.std.specs.List.{AllByRecursion}
use Rattle.update_core.specs.Limits.{max_members, max_part_rows, max_weight}
use Rattle.spine_core.specs.Spines.{IsSpine, spine_upper, rows_of}
use Rattle.spine_core.specs.declared.batches.Batch.{Batch}
use Rattle.store_core.specs.declared.shards.ShardId.{ShardId}
use Rattle.store_core.specs.declared.part_keys.PartKey.{PartKey}
use Rattle.state_core.specs.Lists.{Among, Distinct}
use Rattle.state_core.specs.declared.kinds.Kind.{Kind}
use Rattle.state_core.specs.declared.kinds.Kind.TheVariants.{Writer, Reader, Keeper}
use Rattle.state_core.specs.declared.members.Member.{Member}

-- what a state is to those who use it
pub record ShardState : Type 0 where
  pub shard : ShardId
  pub number : ℕ
  pub next_member : ℕ
  pub since : ℕ
  pub upper : Option ℕ
  pub weight : ℕ
  pub members : List Member
  pub batches : List Batch

-- whether a member of this kind writes
abbrev pub is_writer : Kind → Bool
is_writer Writer = true
is_writer Reader = false
is_writer Keeper = false

-- whether a member of this kind reads
abbrev pub is_reader : Kind → Bool
is_reader Writer = false
is_reader Reader = true
is_reader Keeper = false

-- the least of a number and the holds of the readers and keepers
abbrev pub least_hold : ℕ → List Member → ℕ
least_hold n [] = n
least_hold n (m ∷ ms) = if is_writer m.kind then least_hold n ms else min m.hold (least_hold n ms)

-- the least hold of the readers and keepers, or the state's number where none stands; no hold is above the number
abbrev pub floor : ShardState → ℕ
floor s = least_hold s.number s.members

-- the lesser of a number and another, where there is another
abbrev pub or_least : Option ℕ → ℕ → Option ℕ
or_least None n = Some n
or_least (Some m) n = Some (min m n)

-- the least since of the readers
abbrev pub least_since : List Member → Option ℕ
least_since [] = None
least_since (m ∷ ms) = if is_reader m.kind then or_least (least_since ms) m.since else least_since ms

-- the greater of a number and another, where there is another
abbrev pub greater_of : ℕ → Option ℕ → ℕ
greater_of since None = since
greater_of since (Some n) = max since n

-- the shard's since after a reader went or advanced
abbrev pub raised : ℕ → List Member → ℕ
raised since ms = greater_of since (least_since ms)

-- the keys of all batches
abbrev pub keys_of : List Batch → List PartKey
keys_of [] = []
keys_of (b ∷ bs) = b.parts ++ keys_of bs

-- the state names the key
abbrev pub Names : ShardState → PartKey → Type 0
Names s k = Among (λ q. q ≡ k) (keys_of s.batches)

-- a batch with this many rows has these many parts: a part holds 4,096 rows, the last one the rest
abbrev pub IsPartCount : ℕ → ℕ → Type 0
IsPartCount rows parts = (rows ≤ max_part_rows * parts) × (max_part_rows * parts < rows + max_part_rows)

-- the numbers of the members rise strictly
abbrev pub MembersRise : List Member → Type 0
MembersRise [] = ⊤
MembersRise (m ∷ []) = ⊤
MembersRise (m ∷ n ∷ ms) = (m.number < n.number) × MembersRise (n ∷ ms)

-- what a member of each kind has not
abbrev pub KindRules : Kind → Member → Type 0
KindRules Writer m = (m.since ≡ 0) × (m.hold ≡ 0) × (m.beat ≡ 0) × (m.lease ≡ 0)
KindRules Reader m = m.token ≡ 0
KindRules Keeper m = m.since ≡ 0

-- where there is a least since, it is the since
abbrev pub SinceIs : Option ℕ → ℕ → Type 0
SinceIs None since = ⊤
SinceIs (Some n) since = since ≡ n

-- the key is of the shard, its member isn't above the last one, and that member's token isn't below the key's
pub record KeyFits (shard : ShardId) (next_member : ℕ) (members : List Member) (k : PartKey) : Type 0 where
  pub of_shard : k.shard ≡ shard
  pub below : k.member < next_member
  pub spent : AllByRecursion (λ m. m.number ≡ k.member → k.token ≤ m.token) members

-- the rules of a state
pub record IsState (s : ShardState) : Type 0 where
  -- at most 256 members, numbers rising below the next one
  pub few : length s.members ≤ max_members
  pub rising : MembersRise s.members
  pub known : AllByRecursion (λ m. m.number < s.next_member) s.members
  pub joined : s.next_member ≤ s.number
  -- a hold isn't above the state's number; what each kind of member has
  pub holds : AllByRecursion (λ m. m.hold ≤ s.number) s.members
  pub kinds : AllByRecursion (λ m. KindRules m.kind m) s.members
  -- where a reader stands, since is the least of the readers'
  pub since : SinceIs (least_since s.members) s.since
  -- the batches run from 0 to upper, none moved past since; their rows are no more than the weight
  pub spine : IsSpine s.batches
  pub upper_is : s.upper ≡ spine_upper s.batches
  pub sinces : AllByRecursion (λ b. b.desc.since ≤ s.since) s.batches
  pub rows : rows_of s.batches ≤ s.weight
  pub light : s.weight ≤ max_weight
  -- each batch has its parts; each key fits, and none stands twice
  pub parts : AllByRecursion (λ b. IsPartCount b.rows (length b.parts)) s.batches
  pub keys : AllByRecursion (KeyFits s.shard s.next_member s.members) (keys_of s.batches)
  pub distinct : Distinct (λ a b. a ≡ b) (keys_of s.batches)
