-- What the outcomes of a change mean in a history. Entries go newest first.
use Rattle.std.specs.Prelude.{⊤, ◌≡◌, ◌⊎◌, ℕ, ◌+◌, List}
use Rattle.update_core.specs.declared.updates.Update.{Update}
use Rattle.store_core.specs.declared.shards.ShardId.{ShardId}
use Rattle.store_core.specs.declared.calls.Call.{Call}
use Rattle.store_core.specs.declared.replies.Reply.{Reply}
use Rattle.store_core.specs.declared.replies.Reply.TheVariants as replies
use Rattle.store_core.specs.declared.entries.Entry.{Entry}
use Rattle.store_core.specs.Stores.{Stored}
use Rattle.store_core.specs.Newest.{mine_back}
use Rattle.state_core.specs.declared.kinds.Kind.{Kind}
use Rattle.state_core.specs.declared.transitions.Transition.{Transition}
use Rattle.state_core.specs.Lists.{Among}
use Rattle.update_core.specs.Limits.{most}
use Rattle.history_core.specs.Legal.{Absent, AtLast, Full, HasSince}
use Rattle.history_core.specs.Members.{JoinedAs}
use Rattle.history_core.specs.Placing.{AtLastScan, CommittedAs, Placed}
use Rattle.load_core.specs.declared.tryings.Trying.{Trying}
use Rattle.load_core.specs.Effects.{CommitsFirst, CommitsNone, CommitsStep, IsShown}
use Rattle.load_core.specs.Outcomes.{CallsAt}
use Rattle.change_core.specs.declared.outcomes.Outcome.{Outcome}
use Rattle.change_core.specs.declared.outcomes.Outcome.TheVariants as outcomes
use Rattle.change_core.specs.Changes.{AsksBefore, IsChange, IsOfMember}

-- a join of this member was committed as this version, in which the shard has this since
abbrev pub JoinedIn : Stored → ShardId → Transition → ℕ → ℕ → ℕ → Placed → Type 0
JoinedIn start shard step member version since p =
    (c : CommittedAs start shard step version p) × (c.to.next_member ≡ member + 1) × (c.to.since ≡ since)

-- An outcome is legal at the end of a command's entries. Nothing is damaged, and no member is shown otherwise than it was left.
abbrev pub LegalChange : Stored → ShardId → ℕ → Transition → Outcome → List Placed → Type 0
LegalChange start shard member step (outcomes.Joined joined version since) ps = Among (JoinedIn start shard step joined version since) ps
LegalChange start shard member step (outcomes.Full version) ps = Full start shard version ps
LegalChange start shard member step (outcomes.Committed version) ps = Among (CommittedAs start shard step version) ps
LegalChange start shard member step (outcomes.Back since) ps = HasSince start shard member since ps × AsksBefore since step
LegalChange start shard member step (outcomes.Gone version) ps = Absent start shard member version ps
LegalChange start shard member step (outcomes.Strange version) ps = ⊥
LegalChange start shard member step (outcomes.Damaged damage) ps = ⊥
LegalChange start shard member step outcomes.Spent ps = AtLastScan shard (AtLast start shard (λ n s. n ≡ most)) ps
LegalChange start shard member step _ ps = ⊤

-- A client tries a change of its member, which it joined as this kind; or the join of one.
pub record ChangesAt (kind : Kind) (member : ℕ) (t : Trying) (client : ℕ) (list : List Update) (start : Stored) (e : Entry)
    (others es : List Entry) : Type 0 where
  pub at : CallsAt t client list start e others es
  pub change : IsChange kind member t.step
  pub joined : IsOfMember t.step → JoinedAs kind (mine_back start es client) t.loader.shard member

-- what a call has committed, by what its reply comes to
abbrev pub ChangeEffect : ShardId → Transition → Call → Reply → Outcome → Type 0
ChangeEffect shard step call r outcomes.Going = CommitsNone r ⊎ CommitsFirst shard call r
ChangeEffect shard step call r outcomes.Fault = r ≡ replies.Failed
ChangeEffect shard step call r (outcomes.Joined member version since) =
    (c : CommitsStep shard step call r) × (c.to.next_member ≡ member + 1) × (c.to.since ≡ since)
ChangeEffect shard step call r (outcomes.Committed version) = CommitsStep shard step call r
ChangeEffect shard step call r (outcomes.Damaged damage) = CommitsNone r
ChangeEffect shard step call r _ = CommitsNone r × IsShown shard call r
