-- A member that a client joined as a kind, and didn't leave. Own entries go newest first.
use Rattle.std.specs.Prelude.{◌≡◌, ℕ, ◌+◌, true, Option, Some, List}
use Rattle.std.specs.List.{AllByRecursion}
use Rattle.update_core.specs.declared.updates.Update.{Update}
use Rattle.store_core.specs.declared.shards.ShardId.{ShardId}
use Rattle.store_core.specs.declared.calls.Call.{Call}
use Rattle.store_core.specs.declared.calls.Call.TheVariants as calls
use Rattle.store_core.specs.declared.replies.Reply.{Reply}
use Rattle.store_core.specs.declared.replies.Reply.TheVariants as replies
use Rattle.store_core.specs.Histories.{History, store_after}
use Rattle.store_core.specs.Ports.{Answered}
use Rattle.state_core.specs.Lists.{Among}
use Rattle.state_core.specs.declared.kinds.Kind.{Kind}
use Rattle.state_core.specs.declared.kinds.Kind.TheVariants.{Writer}
use Rattle.state_core.specs.declared.transitions.Transition.{Transition}
use Rattle.state_core.specs.declared.transitions.Transition.TheVariants.{Join, Leave}
use Rattle.state_core.specs.States.{ShardState, is_writer}
use Rattle.state_core.specs.Steps.{Stands}
use Rattle.version_codec.specs.Reading.{version_in}
use Rattle.history_core.specs.Discipline.{Lawful}
use Rattle.history_core.specs.Stands.{StandsFor}
use Rattle.history_core.specs.Laws.{LastIs}
use Rattle.history_core.specs.Answers.{own_of}

-- a version in which this member joined with this kind
abbrev pub KindJoins : Option (ShardState × Transition) → Kind → ℕ → Type 0
KindJoins (Some (s, Join k now lease)) kind member = (k ≡ kind) × (s.next_member ≡ member + 1)
KindJoins _ kind member = ⊥

-- a Cas with the Join of this member with this kind, answered Committed
abbrev pub IsKindJoin : Kind → ShardId → ℕ → Call → Reply → Type 0
IsKindJoin kind shard member (calls.Cas at_shard expected bytes) (replies.Committed n) =
    (at_shard ≡ shard) × KindJoins (version_in shard n bytes) kind member
IsKindJoin _ _ _ _ _ = ⊥

-- a version in which this member left
abbrev pub LeavesIn : Option (ShardState × Transition) → ℕ → Type 0
LeavesIn (Some (s, Leave m)) member = m ≡ member
LeavesIn _ member = ⊥

-- a Cas, committed or not, that leaves the member
abbrev pub IsLeave : ShardId → ℕ → Call → Type 0
IsLeave shard member (calls.Cas at_shard (Some n) bytes) = (at_shard ≡ shard) × LeavesIn (version_in shard (n + 1) bytes) member
IsLeave _ _ _ = ⊥

-- a client's own Join of the member with this kind was answered Committed
abbrev pub JoinedAs : Kind → List Answered → ShardId → ℕ → Type 0
JoinedAs kind own shard member = Among (λ o. IsKindJoin kind shard member o.entry.call o.reply) own

-- A client owns a member as a kind: it joined it with this kind, and never asked to leave it.
pub record OwnsAs (kind : Kind) (own : List Answered) (shard : ShardId) (member : ℕ) : Type 0 where
  pub joined : JoinedAs kind own shard member
  pub unleft : ¬ Among (λ o. IsLeave shard member o.entry.call) own

-- A member that a client owns as a writer stands in the last state, as a writer.
abbrev pub OwnMemberStands : Type 0
OwnMemberStands =
    (shard : ShardId) (list : List Update) (h : History) → StandsFor h.start shard list → Lawful h →
    (c member : ℕ) → OwnsAs Writer (own_of h c) shard member →
    (number : ℕ) (last : ShardState) → LastIs (store_after h) shard number last →
    Stands member (λ m. is_writer m.kind ≡ true) last.members

-- Where a member that a client joined stands in the last state, it has the kind of its Join.
abbrev pub OwnKindStays : Type 0
OwnKindStays =
    (shard : ShardId) (list : List Update) (h : History) → StandsFor h.start shard list → Lawful h →
    (kind : Kind) (c member : ℕ) → JoinedAs kind (own_of h c) shard member →
    (number : ℕ) (last : ShardState) → LastIs (store_after h) shard number last →
    AllByRecursion (λ m. m.number ≡ member → m.kind ≡ kind) last.members

-- Where a client joined a member there is a last state.
abbrev pub OwnStateThere : Type 0
OwnStateThere =
    (shard : ShardId) (list : List Update) (h : History) → StandsFor h.start shard list → Lawful h →
    (kind : Kind) (c member : ℕ) → JoinedAs kind (own_of h c) shard member →
    (number : ℕ) × (last : ShardState) × LastIs (store_after h) shard number last
