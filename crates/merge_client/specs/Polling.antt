-- What one poll of a compactor does and costs. Entries go newest first.
use Rattle.std.specs.Prelude.{⊤, ◌≡◌, ◌⊎◌, ℕ, ◌+◌, ◌<◌, Option, Some, None, List, length}
use Rattle.update_core.specs.declared.updates.Update.{Update}
use Rattle.store_core.specs.declared.shards.ShardId.{ShardId}
use Rattle.store_core.specs.declared.calls.Call.{Call}
use Rattle.store_core.specs.declared.replies.Reply.{Reply}
use Rattle.store_core.specs.declared.replies.Reply.TheVariants as replies
use Rattle.store_core.specs.declared.entries.Entry.{Entry}
use Rattle.store_core.specs.Stores.{Stored}
use Rattle.state_core.specs.declared.transitions.Transition.{Transition}
use Rattle.state_core.specs.declared.transitions.Transition.TheVariants.{Init, Merge}
use Rattle.update_core.specs.Limits.{most}
use Rattle.history_core.specs.declared.merge_answers.MergeAnswer.{MergeAnswer}
use Rattle.history_core.specs.declared.merge_answers.MergeAnswer.TheVariants as answers
use Rattle.history_core.specs.Costs.{merge_base, merge_parts}
use Rattle.load_core.specs.declared.polls.Poll.{Poll}
use Rattle.load_core.specs.declared.polls.Poll.TheVariants as polls
use Rattle.load_core.specs.Costing.{CostEnded, CostKept}
use Rattle.load_core.specs.Effects.{CommitsFirst, CommitsNone, CommitsStep, IsShown}
use Rattle.load_core.specs.Trying as trying
use Rattle.read_machine.specs.declared.stages.Stage.{Stage}
use Rattle.read_machine.specs.Following.{OverStage, ReadCost}
use Rattle.merge_client.specs.declared.compactors.Compactor.{Compactor}
use Rattle.merge_client.specs.declared.dues.Due.{Due}
use Rattle.merge_client.specs.declared.pairs.Pair.{Pair}

-- ---- what a poll does

-- the call committed a version after another
abbrev pub CommitsOne : ShardId → Call → Reply → Type 0
CommitsOne shard call reply = (step : Transition) × CommitsStep shard step call reply

-- What a poll's call has committed, by what the poll comes to: while a command goes on at most a shard's first version, an answer that
-- says so one version, unless a call before has, and no other answer anything. That the members are full is what a Scan shows.
abbrev pub Effect : ShardId → Call → Reply → Poll MergeAnswer → Type 0
Effect shard call reply polls.More = CommitsNone reply ⊎ CommitsFirst shard call reply
Effect shard call reply polls.Fault = reply ≡ replies.Failed
Effect shard call reply (polls.Done (answers.Opened member version)) =
    (step : Transition) × (c : CommitsStep shard step call reply) × (c.to.next_member ≡ member + 1)
Effect shard call reply (polls.Done (answers.MembersFull version)) = CommitsNone reply × IsShown shard call reply
Effect shard call reply (polls.Done (answers.Merged version)) = CommitsOne shard call reply ⊎ CommitsNone reply
Effect shard call reply (polls.Done (answers.Renewed version)) = CommitsOne shard call reply
Effect shard call reply (polls.Done (answers.Closed version)) = CommitsOne shard call reply ⊎ CommitsNone reply
Effect shard call reply (polls.Done _) = CommitsNone reply
Effect shard call reply polls.Spent = CommitsNone reply × IsShown shard call reply
Effect shard call reply polls.Busy = ⊥
Effect shard call reply (polls.Damaged damage) = ⊤

-- ---- what it costs

-- the base of what is tried: of a merge two, and one for each part that it got; of a change the one that is given
abbrev pub base_of : ℕ → Transition → ℕ
base_of base (Merge member token left right merged) = merge_base (merge_parts left right) 0
base_of base _ = base

-- The calls made and those that remain are within the bound, by what is read and what is got. While the pair is read they are those
-- of a reading. Once it is got its merge has the calls from an attempt on, and each part that is set is one more.
abbrev pub CostBy : Option Due → Option Pair → ℕ → ℕ → Compactor → Stored → List Entry → Type 0
CostBy (Some q) pair base client c start es = ReadCost client c.reading.course c.reading.course.stage es
CostBy None (Some p) base client c start es =
    CostKept (merge_base (merge_parts p.left p.right) 0) client (trying.resumed c.storing.trying Init) start es
CostBy None None base client c start es =
    CostKept (base_of base c.storing.trying.step + c.storing.setting.place) client c.storing.trying start es

abbrev pub CostAt : ℕ → ℕ → Compactor → Stored → List Entry → List Update → Type 0
CostAt base client c start es list = c.storing.trying.calls < most → CostBy c.reading.asked c.pair base client c start es

-- a command that has ended: at what was read, or with all its parts
abbrev pub OverBy : Option Due → ℕ → ℕ → Stage → Compactor → Stored → List Entry → Type 0
OverBy (Some q) base client stage c start es = OverStage client c.reading.course stage es
OverBy None base client stage c start es =
    CostEnded (base_of base c.storing.trying.step + length c.storing.setting.keys) client c.storing.trying start es

abbrev pub CostOver : ℕ → ℕ → Compactor → Compactor → Stored → List Entry → List Update → Type 0
CostOver base client old new start es list =
    new.storing.trying.calls < most → OverBy old.reading.asked base client old.reading.course.stage new start es
