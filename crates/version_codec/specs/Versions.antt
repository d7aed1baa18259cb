-- What the bytes of a version are: the one spelling of a state, and of the transition that made it.
use Rattle.std.specs.Prelude.{⊤, ◌≡◌, ℕ, ◌<◌, ◌^◌, Option, Some, None, List, ◌∷◌, [], ◌++◌, length}
use Rattle.std.specs.List.{flat_map, AllByRecursion}
use Rattle.std.specs.Int.{w16, w64, to_be_bytes}
use Rattle.store_core.specs.declared.shards.ShardId.{ShardId}
use Rattle.store_core.specs.declared.part_keys.PartKey.{PartKey}
use Rattle.spine_core.specs.declared.batches.Batch.{Batch}
use Rattle.state_core.specs.declared.kinds.Kind.{Kind}
use Rattle.state_core.specs.declared.kinds.Kind.TheVariants.{Writer, Reader, Keeper}
use Rattle.state_core.specs.declared.members.Member.{Member}
use Rattle.state_core.specs.declared.transitions.Transition.{Transition}
use Rattle.state_core.specs.declared.transitions.Transition.TheVariants.{Init, Join, Leave, Renew, Advance, Expire, Append, Merge}
use Rattle.state_core.specs.States.{ShardState, IsState}
use Rattle.state_core.specs.Steps.{init, JoinShape, AppendShape, MergeShape, acts_for, taken_by}

-- a number in eight bytes, the highest first
unfoldable pub number_bytes : ℕ → List ℕ
number_bytes n = to_be_bytes w64 n

-- 0 and a time, or 1 alone
abbrev pub frontier_bytes : Option ℕ → List ℕ
frontier_bytes (Some t) = 0 ∷ number_bytes t
frontier_bytes None = 1 ∷ []

-- the byte of a kind of member
abbrev pub kind_byte : Kind → ℕ
kind_byte Writer = 0
kind_byte Reader = 1
kind_byte Keeper = 2

-- number, kind, since, hold, beat, lease and token
abbrev pub member_bytes : Member → List ℕ
member_bytes m =
    number_bytes m.number ++ (kind_byte m.kind ∷ (number_bytes m.since ++ (number_bytes m.hold ++ (number_bytes m.beat ++ (number_bytes m.lease ++ number_bytes m.token)))))

-- member, token and index; the shard is known from elsewhere
abbrev pub key_bytes : PartKey → List ℕ
key_bytes k = number_bytes k.member ++ (number_bytes k.token ++ number_bytes k.index)

-- how many keys there are, and the keys
abbrev pub keys_bytes : List PartKey → List ℕ
keys_bytes ks = number_bytes (length ks) ++ flat_map key_bytes ks

-- lower, upper, since, rows and the keys
abbrev pub batch_bytes : Batch → List ℕ
batch_bytes b = number_bytes b.desc.lower ++ (frontier_bytes b.desc.upper ++ (number_bytes b.desc.since ++ (number_bytes b.rows ++ keys_bytes b.parts)))

-- the tag of a transition, and its fields
abbrev pub step_bytes : Transition → List ℕ
step_bytes Init = 0 ∷ []
step_bytes (Join kind now lease) = 1 ∷ (kind_byte kind ∷ (number_bytes now ++ number_bytes lease))
step_bytes (Leave member) = 2 ∷ number_bytes member
step_bytes (Renew member now) = 3 ∷ (number_bytes member ++ number_bytes now)
step_bytes (Advance member to) = 4 ∷ (number_bytes member ++ number_bytes to)
step_bytes (Expire now) = 5 ∷ number_bytes now
step_bytes (Append member token expected new parts rows weight) =
    6 ∷ (number_bytes member ++ (number_bytes token ++ (number_bytes expected ++ (frontier_bytes new ++ (number_bytes rows ++ (number_bytes weight ++ keys_bytes parts))))))
step_bytes (Merge member token left right merged) = 7 ∷ (number_bytes member ++ (number_bytes token ++ (batch_bytes left ++ (batch_bytes right ++ batch_bytes merged))))

-- how many members there are in two bytes, and the members
abbrev pub members_bytes : List Member → List ℕ
members_bytes ms = to_be_bytes w16 (length ms) ++ flat_map member_bytes ms

-- how many batches there are, and the batches
abbrev pub batches_bytes : List Batch → List ℕ
batches_bytes bs = number_bytes (length bs) ++ flat_map batch_bytes bs

-- next_member, since, upper, weight, the members and the batches; shard and number are known from elsewhere
abbrev pub state_bytes : ShardState → List ℕ
state_bytes s = number_bytes s.next_member ++ (number_bytes s.since ++ (frontier_bytes s.upper ++ (number_bytes s.weight ++ (members_bytes s.members ++ batches_bytes s.batches))))

-- the letters PVER, the form, the state and the transition
abbrev pub version_spelling : ShardState → Transition → List ℕ
version_spelling s x = 80 ∷ 86 ∷ 69 ∷ 82 ∷ 1 ∷ (state_bytes s ++ step_bytes x)

-- the number fits in eight bytes
abbrev pub NumberFits : ℕ → Type 0
NumberFits n = n < 2 ^ 64

-- the time of the frontier fits in eight bytes
abbrev pub FrontierFits : Option ℕ → Type 0
FrontierFits None = ⊤
FrontierFits (Some t) = NumberFits t

-- the numbers of a member fit in eight bytes each
pub record MemberFits (m : Member) : Type 0 where
  pub number : NumberFits m.number
  pub since : NumberFits m.since
  pub hold : NumberFits m.hold
  pub beat : NumberFits m.beat
  pub lease : NumberFits m.lease
  pub token : NumberFits m.token

-- the numbers of a key fit in eight bytes each
pub record PartKeyFits (k : PartKey) : Type 0 where
  pub member : NumberFits k.member
  pub token : NumberFits k.token
  pub index : NumberFits k.index

-- the keys fit, and so does how many they are
pub record PartKeysFit (ks : List PartKey) : Type 0 where
  pub count : NumberFits (length ks)
  pub each : AllByRecursion PartKeyFits ks

-- the numbers of a batch fit, and so do its keys
pub record BatchFits (b : Batch) : Type 0 where
  pub lower : NumberFits b.desc.lower
  pub upper : FrontierFits b.desc.upper
  pub since : NumberFits b.desc.since
  pub rows : NumberFits b.rows
  pub parts : PartKeysFit b.parts

-- the batches fit, and so does how many they are
pub record BatchesFit (bs : List Batch) : Type 0 where
  pub count : NumberFits (length bs)
  pub each : AllByRecursion BatchFits bs

-- the numbers of a state that are in the bytes fit there
pub record StateFits (s : ShardState) : Type 0 where
  pub next_member : NumberFits s.next_member
  pub since : NumberFits s.since
  pub upper : FrontierFits s.upper
  pub members : AllByRecursion MemberFits s.members
  pub batches : BatchesFit s.batches

-- the numbers of an append fit, and so do its keys
pub record AppendFits (member token expected : ℕ) (new : Option ℕ) (parts : List PartKey) (rows weight : ℕ) : Type 0 where
  pub member_fits : NumberFits member
  pub token_fits : NumberFits token
  pub expected_fits : NumberFits expected
  pub new_fits : FrontierFits new
  pub rows_fit : NumberFits rows
  pub weight_fits : NumberFits weight
  pub parts_fit : PartKeysFit parts

-- the numbers of a merge fit, and so do its batches
pub record MergeFits (member token : ℕ) (left right merged : Batch) : Type 0 where
  pub member_fits : NumberFits member
  pub token_fits : NumberFits token
  pub left_fits : BatchFits left
  pub right_fits : BatchFits right
  pub merged_fits : BatchFits merged

-- the numbers of a transition fit
abbrev pub StepFits : Transition → Type 0
StepFits Init = ⊤
StepFits (Join kind now lease) = NumberFits now × NumberFits lease
StepFits (Leave member) = NumberFits member
StepFits (Renew member now) = NumberFits member × NumberFits now
StepFits (Advance member to) = NumberFits member × NumberFits to
StepFits (Expire now) = NumberFits now
StepFits (Append member token expected new parts rows weight) = AppendFits member token expected new parts rows weight
StepFits (Merge member token left right merged) = MergeFits member token left right merged

-- the state before a merge, as far as its shape rules look at it, where it doesn't stand in their way
abbrev pub before_merge : ShardId → Batch → ShardState
before_merge shard merged = record (init shard) { since = merged.desc.since }

-- the shape rules that don't speak of the state before
abbrev pub IsShapedAlone : ShardId → Transition → Type 0
IsShapedAlone shard (Join kind now lease) = JoinShape kind now lease
IsShapedAlone shard (Append member token expected new parts rows weight) = AppendShape shard member token expected new parts rows weight
IsShapedAlone shard (Merge member token left right merged) = MergeShape (before_merge shard merged) member token left right merged
IsShapedAlone shard _ = ⊤

-- where a member is named, its number is below another
abbrev pub IsBelow : Option ℕ → ℕ → Type 0
IsBelow None next = ⊤
IsBelow (Some member) next = member < next

-- a state and a transition that bytes can spell
pub record IsVersion (s : ShardState) (x : Transition) : Type 0 where
  pub state : IsState s
  pub state_fits : StateFits s
  pub step_fits : StepFits x
  pub shape : IsShapedAlone s.shard x
  pub known : IsBelow (acts_for x) s.next_member
  -- the keys that it takes are of the shard, as those that it adds are by their shape
  pub taken : AllByRecursion (λ k. k.shard ≡ s.shard) (taken_by x)

-- the bytes are the version with this state, made by this transition
abbrev pub VersionOf : ShardState → Transition → List ℕ → Type 0
VersionOf s x bytes = IsVersion s x × (bytes ≡ version_spelling s x)
