-- What one poll of a reader does, answers and costs. Entries go newest first.
use Rattle.std.specs.Prelude.{⊤, ◌≡◌, ◌⊎◌, ℕ, ◌+◌, ◌<◌, Option, Some, None, List}
use Rattle.std.specs.List.{AllByRecursion}
use Rattle.update_core.specs.declared.updates.Update.{Update}
use Rattle.store_core.specs.declared.shards.ShardId.{ShardId}
use Rattle.store_core.specs.declared.calls.Call.{Call}
use Rattle.store_core.specs.declared.replies.Reply.{Reply}
use Rattle.store_core.specs.declared.entries.Entry.{Entry}
use Rattle.store_core.specs.Stores.{Stored}
use Rattle.state_core.specs.declared.transitions.Transition.{Transition}
use Rattle.update_core.specs.Limits.{most}
use Rattle.history_core.specs.declared.asked.Asked.{Asked}
use Rattle.history_core.specs.declared.asked.Asked.TheVariants as asks
use Rattle.history_core.specs.declared.read_answers.ReadAnswer.{ReadAnswer}
use Rattle.history_core.specs.declared.read_answers.ReadAnswer.TheVariants as answers
use Rattle.history_core.specs.Legal.{PartsGot, snapshot_keys, step_keys}
use Rattle.history_core.specs.Placing.{places}
use Rattle.load_core.specs.declared.polls.Poll.{Poll}
use Rattle.load_core.specs.declared.polls.Poll.TheVariants as polls
use Rattle.load_core.specs.Costing.{CostKept, CostEnded}
use Rattle.load_core.specs.Effects.{CommitsFirst, CommitsNone, CommitsStep}
use Rattle.read_client.specs.declared.questions.Question.{Question}
use Rattle.read_client.specs.declared.readers.Reader.{Reader}
use Rattle.read_machine.specs.declared.stages.Stage.{Stage}
use Rattle.read_machine.specs.Following.{OverStage, ReadCost}
use Rattle.read_client.specs.Asking.{RowGot}
use Rattle.read_client.specs.Reading.{question}

-- ---- what a poll does

-- what a poll's call has committed, by what the poll comes to: while a command goes on at most a shard's first version, an
-- answer that says so the command's transition, and no other answer anything
abbrev pub Effect : ShardId → Transition → Call → Reply → Poll ReadAnswer → Type 0
Effect shard step call reply polls.More = CommitsNone reply ⊎ CommitsFirst shard call reply
Effect shard step call reply (polls.Done (answers.Opened member version since)) =
    (c : CommitsStep shard step call reply) × (c.to.next_member ≡ member + 1) × (c.to.since ≡ since)
Effect shard step call reply (polls.Done (answers.Advanced version)) = CommitsStep shard step call reply
Effect shard step call reply (polls.Done (answers.Renewed version)) = CommitsStep shard step call reply
Effect shard step call reply (polls.Done (answers.Closed version)) = CommitsStep shard step call reply ⊎ CommitsNone reply
Effect shard step call reply (polls.Done _) = CommitsNone reply
Effect shard step call reply _ = ⊤

-- what was asked isn't done, or there is nothing to give
abbrev pub IsRefusal : Poll ReadAnswer → Type 0
IsRefusal polls.Spent = ⊤
IsRefusal (polls.Done (answers.MembersFull version)) = ⊤
IsRefusal (polls.Done (answers.Early since)) = ⊤
IsRefusal (polls.Done (answers.Late upper)) = ⊤
IsRefusal (polls.Done (answers.Quiet upper)) = ⊤
IsRefusal (polls.Done answers.Ended) = ⊤
IsRefusal (polls.Done (answers.Back since)) = ⊤
IsRefusal (polls.Done (answers.Expired version)) = ⊤
IsRefusal _ = ⊥

-- ---- what it answers

-- Where rows are answered, each part that the question is about was answered with bytes since the command's last Scan, and each
-- row
-- of a step stands in a part that a Get of the command was answered with since then.
abbrev pub ReadsParts : ℕ → ShardId → ℕ → ReadAnswer → Stored → List Entry → Asked → Type 0
ReadsParts client shard calls (answers.Rows rows) start es (asks.Snapshot t) =
    PartsGot start shard (snapshot_keys t) (places client calls es)
ReadsParts client shard calls (answers.Step from to rows) start es asked =
    PartsGot start shard (step_keys from) (places client calls es) × AllByRecursion (RowGot start shard
    (places client calls es)) rows
ReadsParts client shard calls _ start es asked = ⊤

-- ---- what it costs

-- the calls made and those that remain are within the bound
abbrev pub CostBy : Option Question → ℕ → ℕ → Reader → Stored → List Entry → Type 0
CostBy None base client r start es = CostKept base client r.trying start es
CostBy (Some q) base client r start es = ReadCost client r.reading.course r.reading.course.stage es

abbrev pub CostAt : ℕ → ℕ → Reader → Stored → List Entry → List Update → Type 0
CostAt base client r start es list = r.trying.calls < most → CostBy (question r) base client r start es

-- a command that has ended has made no more
abbrev pub OverBy : Option Question → ℕ → ℕ → Stage → Reader → Stored → List Entry → Type 0
OverBy None base client stage r start es = CostEnded base client r.trying start es
OverBy (Some q) base client stage r start es = OverStage client r.reading.course stage es

abbrev pub CostOver : ℕ → ℕ → Reader → Reader → Stored → List Entry → List Update → Type 0
CostOver base client old new start es list = new.trying.calls < most →
    OverBy (question old) base client old.reading.course.stage new start es
