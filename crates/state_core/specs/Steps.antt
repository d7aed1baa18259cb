-- The transitions of a state: what each asks of it, and what it makes of it.
use Rattle.std.specs.Prelude.{⊤, ◌≡◌, ℕ, ◌+◌, ◌<◌, ◌≤◌, ◌^◌, suc, max, Bool, true, false, List, [], ◌∷◌, ◌++◌, length, Option, Some, None, nat_le, ◌==◌, if◌then◌else◌, ◌&&◌, not}
use Rattle.update_core.specs.Limits.{max_members, max_rows, max_weight}
use Rattle.state_core.specs.Lists.{Among}
use Rattle.update_core.specs.Frontiers.{covers}
use Rattle.store_core.specs.declared.shards.ShardId.{ShardId}
use Rattle.store_core.specs.declared.part_keys.PartKey.{PartKey}
use Rattle.state_core.specs.declared.kinds.Kind.{Kind}
use Rattle.state_core.specs.declared.kinds.Kind.TheVariants.{Writer, Reader, Keeper}
use Rattle.spine_core.specs.declared.batches.Batch.{Batch}
use Rattle.state_core.specs.declared.members.Member.{Member}
use Rattle.state_core.specs.declared.transitions.Transition.{Transition}
use Rattle.state_core.specs.declared.transitions.Transition.TheVariants.{Init, Join, Leave, Renew, Advance, Expire, Append, Merge}
use Rattle.state_core.specs.States.{ShardState, is_writer, is_reader, raised, IsPartCount, IsState}

-- version 0's state
abbrev pub init : ShardId → ShardState
init shard = record { shard = shard; number = 0; next_member = 0; since = 0; upper = Some 0; weight = 0; members = []; batches = [] }

-- the members without one
abbrev pub without : ℕ → List Member → List Member
without n [] = []
without n (m ∷ ms) = if m.number == n then without n ms else m ∷ without n ms

-- whether a lease has run out
abbrev pub is_out : ℕ → Member → Bool
is_out now m = not (is_writer m.kind) && nat_le (m.beat + m.lease) now

-- the members whose lease hasn't run out
abbrev pub unexpired : ℕ → List Member → List Member
unexpired now [] = []
unexpired now (m ∷ ms) = if is_out now m then unexpired now ms else m ∷ unexpired now ms

-- one member changed
abbrev pub changed : ℕ → (Member → Member) → List Member → List Member
changed n f [] = []
changed n f (m ∷ ms) = (if m.number == n then f m else m) ∷ changed n f ms

-- a member of this number stands, whose kind passes
abbrev pub Stands : ℕ → (Member → Type 0) → List Member → Type 0
Stands n P ms = Among (λ m. (m.number ≡ n) × P m) ms

-- 0 for a writer
abbrev pub beat_of : Kind → ℕ → ℕ
beat_of Writer n = 0
beat_of Reader n = n
beat_of Keeper n = n

-- 0 but for a reader
abbrev pub since_of : Kind → ℕ → ℕ
since_of Writer n = 0
since_of Reader n = n
since_of Keeper n = 0

-- the member that joins
abbrev pub joining : ShardState → Kind → ℕ → ℕ → Member
joining s kind now lease = record {
  number = s.next_member;
  kind = kind;
  since = since_of kind s.since;
  hold = beat_of kind (s.number + 1);
  beat = beat_of kind now;
  lease = beat_of kind lease;
  token = 0;
}

-- the keys (shard, member, token, i) from i on
abbrev pub AreKeys : ShardId → ℕ → ℕ → ℕ → List PartKey → Type 0
AreKeys shard member token i [] = ⊤
AreKeys shard member token i (k ∷ ks) =
    (k ≡ record { shard = shard; member = member; token = token; index = i }) × AreKeys shard member token (suc i) ks

-- a writer joins with no lease
abbrev pub JoinShape : Kind → ℕ → ℕ → Type 0
JoinShape Writer now lease = (now ≡ 0) × (lease ≡ 0)
JoinShape Reader now lease = ⊤
JoinShape Keeper now lease = ⊤

-- the shape rules of an append
pub record AppendShape (shard : ShardId) (member token expected : ℕ) (new : Option ℕ) (parts : List PartKey) (rows weight : ℕ) : Type 0 where
  pub forward : covers new expected ≡ true
  pub few : rows ≤ max_rows
  pub dense : rows ≤ weight
  pub light : weight ≤ max_weight + 1
  pub keys : AreKeys shard member token 0 parts
  pub count : IsPartCount rows (length parts)

-- the shape rules of a merge
pub record MergeShape (s : ShardState) (member token : ℕ) (left right merged : Batch) : Type 0 where
  pub joins : left.desc.upper ≡ Some right.desc.lower
  pub lower : merged.desc.lower ≡ left.desc.lower
  pub upper : merged.desc.upper ≡ right.desc.upper
  pub from_left : left.desc.since ≤ merged.desc.since
  pub from_right : right.desc.since ≤ merged.desc.since
  pub since : merged.desc.since ≤ s.since
  pub rows : merged.rows ≤ left.rows + right.rows
  pub keys : AreKeys s.shard member token 0 merged.parts
  pub count : IsPartCount merged.rows (length merged.parts)

-- a member joins
pub record Joins (s : ShardState) (kind : Kind) (now lease : ℕ) (s2 : ShardState) : Type 0 where
  pub shape : JoinShape kind now lease
  pub room : length s.members < max_members
  pub effect : s2 ≡ record s { number = s.number + 1; members = s.members ++ joining s kind now lease ∷ []; next_member = s.next_member + 1 }

-- a member leaves
pub record Leaves (s : ShardState) (member : ℕ) (s2 : ShardState) : Type 0 where
  pub stands : Stands member (λ m. ⊤) s.members
  pub effect : s2 ≡ record s { number = s.number + 1; members = without member s.members; since = raised s.since (without member s.members) }

-- a lease begins again
pub record Renews (s : ShardState) (member now : ℕ) (s2 : ShardState) : Type 0 where
  pub stands : Stands member (λ m. is_writer m.kind ≡ false) s.members
  pub effect : s2 ≡ record s {
    number = s.number + 1;
    members = changed member (λ m. record m { beat = max m.beat now; hold = s.number + 1 }) s.members;
  }

-- a reader advances
pub record Advances (s : ShardState) (member to : ℕ) (s2 : ShardState) : Type 0 where
  pub stands : Stands member (λ m. (is_reader m.kind ≡ true) × (m.since ≤ to)) s.members
  pub effect : s2 ≡ record s {
    number = s.number + 1;
    members = changed member (λ m. record m { since = to }) s.members;
    since = raised s.since (changed member (λ m. record m { since = to }) s.members);
  }

-- the leases that have run out end
pub record Expires (s : ShardState) (now : ℕ) (s2 : ShardState) : Type 0 where
  pub due : Among (λ m. is_out now m ≡ true) s.members
  pub effect : s2 ≡ record s { number = s.number + 1; members = unexpired now s.members; since = raised s.since (unexpired now s.members) }

-- a batch is added
pub record Appends (s : ShardState) (member token expected : ℕ) (new : Option ℕ) (parts : List PartKey) (rows weight : ℕ) (s2 : ShardState) : Type 0 where
  pub shape : AppendShape s.shard member token expected new parts rows weight
  -- a writer whose token is below the new one
  pub stands : Stands member (λ m. (is_writer m.kind ≡ true) × (m.token < token)) s.members
  pub fits : s.upper ≡ Some expected
  pub light : s.weight + weight ≤ max_weight
  pub effect : s2 ≡ record s {
    number = s.number + 1;
    upper = new;
    weight = s.weight + weight;
    members = changed member (λ m. record m { token = token }) s.members;
    batches = s.batches ++ record { desc = record { lower = expected; upper = new; since = 0 }; parts = parts; rows = rows } ∷ [];
  }

-- a batch takes the place of two
pub record Merges (s : ShardState) (member token : ℕ) (left right merged : Batch) (s2 : ShardState) : Type 0 where
  pub shape : MergeShape s member token left right merged
  pub stands : Stands member (λ m. (m.kind ≡ Keeper) × (m.token < token)) s.members
  pub before : List Batch
  pub behind : List Batch
  pub present : s.batches ≡ before ++ left ∷ right ∷ behind
  pub effect : s2 ≡ record s {
    number = s.number + 1;
    batches = before ++ merged ∷ behind;
    members = changed member (λ m. record m { token = token; hold = s.number + 1 }) s.members;
  }

-- what each transition asks of a state and makes of it
abbrev pub Makes : ShardState → Transition → ShardState → Type 0
Makes s Init s2 = ⊥
Makes s (Join kind now lease) s2 = Joins s kind now lease s2
Makes s (Leave member) s2 = Leaves s member s2
Makes s (Renew member now) s2 = Renews s member now s2
Makes s (Advance member to) s2 = Advances s member to s2
Makes s (Expire now) s2 = Expires s now s2
Makes s (Append member token expected new parts rows weight) s2 = Appends s member token expected new parts rows weight s2
Makes s (Merge member token left right merged) s2 = Merges s member token left right merged s2

-- a transition that no refusal meets makes s2 of s
pub record Applies (s : ShardState) (x : Transition) (s2 : ShardState) : Type 0 where
  pub room : s.number + 1 < 2 ^ 64
  pub makes : Makes s x s2
  pub rules : IsState s2

-- the keys that a transition takes out of the state
abbrev pub taken_by : Transition → List PartKey
taken_by (Merge member token left right merged) = left.parts ++ right.parts
taken_by _ = []

-- the keys that a transition adds
abbrev pub added_by : Transition → List PartKey
added_by (Append member token expected new parts rows weight) = parts
added_by (Merge member token left right merged) = merged.parts
added_by _ = []

-- the transition takes the key
abbrev pub Takes : Transition → PartKey → Type 0
Takes x k = Among (λ q. q ≡ k) (taken_by x)

-- the transition adds the key
abbrev pub Adds : Transition → PartKey → Type 0
Adds x k = Among (λ q. q ≡ k) (added_by x)

-- the member that a transition needs to be one's own
abbrev pub acts_for : Transition → Option ℕ
acts_for (Leave member) = Some member
acts_for (Renew member now) = Some member
acts_for (Advance member to) = Some member
acts_for (Append member token expected new parts rows weight) = Some member
acts_for (Merge member token left right merged) = Some member
acts_for _ = None

-- the transition spends this token of this member
abbrev pub Spends : Transition → ℕ → ℕ → Type 0
Spends (Append m t expected new parts rows weight) member token = (m ≡ member) × (t ≡ token)
Spends (Merge m t left right merged) member token = (m ≡ member) × (t ≡ token)
Spends _ member token = ⊥
