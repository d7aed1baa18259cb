-- The refusals of a transition, in the order in which they are looked at.
use Rattle.std.specs.Prelude.{is_some, ℕ, ◌+◌, ◌*◌, ◌^◌, suc, Bool, true, false, List, [], ◌∷◌, length, Option, Some, None, nat_lt, nat_le, ◌==◌, if◌then◌else◌, ◌&&◌, not}
use Rattle.std.specs.List.{list_any}
use Rattle.update_core.specs.Limits.{max_members, max_part_rows, max_rows, max_weight, most}
use Rattle.update_core.specs.Frontiers.{covers, frontier_eq}
use Rattle.store_core.specs.declared.shards.ShardId.{ShardId}
use Rattle.store_core.specs.declared.part_keys.PartKey.{PartKey}
use Rattle.state_core.specs.declared.kinds.Kind.{Kind}
use Rattle.state_core.specs.declared.kinds.Kind.TheVariants.{Writer}
use Rattle.spine_core.specs.Places.{adjacent_place}
use Rattle.spine_core.specs.declared.batches.Batch.{Batch}
use Rattle.state_core.specs.declared.members.Member.{Member}
use Rattle.state_core.specs.declared.transitions.Transition.{Transition}
use Rattle.state_core.specs.declared.transitions.Transition.TheVariants.{Init, Join, Leave, Renew, Advance, Expire, Append, Merge}
use Rattle.state_core.specs.declared.refusals.Refusal.{Refusal}
use Rattle.state_core.specs.declared.refusals.Refusal.TheVariants.{Shape, Spent, NoMember, TokenOld, UpperIs, Heavy, Back, MembersFull, NotPresent, NotDue}
use Rattle.state_core.specs.States.{ShardState, is_writer, is_reader}
use Rattle.state_core.specs.Steps.{is_out}

-- the key has these fields
abbrev pub is_key : ShardId → ℕ → ℕ → ℕ → PartKey → Bool
is_key shard member token index k = (k.shard.0 == shard.0) && ((k.member == member) && ((k.token == token) && (k.index == index)))

-- whether two keys are one
abbrev pub same_key : PartKey → PartKey → Bool
same_key a b = is_key b.shard b.member b.token b.index a

-- whether two lists of keys are one
abbrev pub same_keys : List PartKey → List PartKey → Bool
same_keys [] [] = true
same_keys (a ∷ us) (b ∷ bs) = same_key a b && same_keys us bs
same_keys [] (b ∷ bs) = false
same_keys (a ∷ us) [] = false

-- whether two batches are one
abbrev pub same_batch : Batch → Batch → Bool
same_batch a b =
    (a.desc.lower == b.desc.lower) && (frontier_eq a.desc.upper b.desc.upper && ((a.desc.since == b.desc.since) && (same_keys a.parts b.parts && (a.rows == b.rows))))

-- the keys are (shard, member, token, i), and so on from i
abbrev pub are_keys : ShardId → ℕ → ℕ → ℕ → List PartKey → Bool
are_keys shard member token i [] = true
are_keys shard member token i (k ∷ ks) = is_key shard member token i k && are_keys shard member token (suc i) ks

-- whether a batch with this many rows has this many parts
abbrev pub is_part_count : ℕ → ℕ → Bool
is_part_count rows parts = nat_le rows (max_part_rows * parts) && nat_lt (max_part_rows * parts) (rows + max_part_rows)

-- whether a transition keeps the rules of its shape
abbrev pub is_shaped : ShardState → Transition → Bool
is_shaped s Init = false
is_shaped s (Join Writer now lease) = (now == 0) && (lease == 0)
is_shaped s (Append member token expected new parts rows weight) =
    covers new expected && (nat_le rows max_rows && (nat_le rows weight && (nat_le weight (max_weight + 1) && (are_keys s.shard member token 0 parts && is_part_count rows (length parts)))))
is_shaped s (Merge member token left right merged) =
    frontier_eq left.desc.upper (Some right.desc.lower) && ((merged.desc.lower == left.desc.lower) && (frontier_eq merged.desc.upper right.desc.upper
    && (nat_le left.desc.since merged.desc.since && (nat_le right.desc.since merged.desc.since && (nat_le merged.desc.since s.since && (nat_le merged.rows (left.rows + right.rows)
    && (are_keys s.shard member token 0 merged.parts && is_part_count merged.rows (length merged.parts))))))))
is_shaped s _ = true

-- the member with a number
abbrev pub member_of : ℕ → List Member → Option Member
member_of n [] = None
member_of n (m ∷ ms) = if m.number == n then Some m else member_of n ms

-- whether left is directly followed by right
abbrev pub follows : Batch → Batch → List Batch → Bool
follows left right bs = is_some (adjacent_place (λ a b. same_batch a left && same_batch b right) bs)

-- a refusal where the member doesn't stand or is of another kind, else what the member gives
abbrev pub of_member : Option Member → (Kind → Bool) → (Member → Option Refusal) → Option Refusal
of_member None fits next = Some NoMember
of_member (Some m) fits next = if fits m.kind then next m else Some NoMember

-- each kind
abbrev pub any_kind : Kind → Bool
any_kind k = true

-- whether a member of this kind keeps
abbrev pub is_keeper : Kind → Bool
is_keeper k = not (is_writer k) && not (is_reader k)

-- refusals 3 to 10, by kind of transition
abbrev pub refusal_by_kind : ShardState → Transition → Option Refusal
refusal_by_kind s Init = Some Shape
refusal_by_kind s (Join kind now lease) = if nat_le max_members (length s.members) then Some (MembersFull (length s.members)) else None
refusal_by_kind s (Leave member) = of_member (member_of member s.members) any_kind (λ m. None)
refusal_by_kind s (Renew member now) = of_member (member_of member s.members) (λ k. not (is_writer k)) (λ m. None)
refusal_by_kind s (Advance member to) = of_member (member_of member s.members) is_reader (λ m. if nat_lt to m.since then Some (Back m.since) else None)
refusal_by_kind s (Expire now) = if list_any (is_out now) s.members then None else Some NotDue
refusal_by_kind s (Append member token expected new parts rows weight) = of_member (member_of member s.members) is_writer (λ m.
    if nat_le token m.token then Some (TokenOld m.token)
    else if not (frontier_eq s.upper (Some expected)) then Some (UpperIs s.upper)
    else if nat_lt max_weight (s.weight + weight) then Some (Heavy s.weight) else None)
refusal_by_kind s (Merge member token left right merged) = of_member (member_of member s.members) is_keeper (λ m.
    if nat_le token m.token then Some (TokenOld m.token)
    else if follows left right s.batches then None else Some NotPresent)

-- the first refusal that a transition meets
abbrev pub refusal_of : ShardState → Transition → Option Refusal
refusal_of s x =
    if not (is_shaped s x) then Some Shape else if s.number == most then Some Spent else refusal_by_kind s x
