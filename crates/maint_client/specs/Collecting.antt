-- A collector: what it does next, what a reply makes of it, and what its client's own entries say of it. Entries go newest first.
use Rattle.std.specs.Prelude.{⊤, ◌≡◌, ℕ, ◌+◌, ◌-◌, ◌<◌, ◌≤◌, true, false, if◌then◌else◌}
use Rattle.std.specs.Prelude.{Option, Some, None, IsSome, IfSome, Result, Ok, Err, List, length, take}
use Rattle.std.specs.List.{AllByRecursion}
use Rattle.store_core.specs.declared.shards.ShardId.{ShardId}
use Rattle.store_core.specs.declared.versions.Version.{Version}
use Rattle.store_core.specs.declared.calls.Call.{Call}
use Rattle.store_core.specs.declared.calls.Call.TheVariants as calls
use Rattle.store_core.specs.declared.replies.Reply.{Reply}
use Rattle.store_core.specs.declared.replies.Reply.TheVariants as replies
use Rattle.store_core.specs.declared.entries.Entry.{Entry}
use Rattle.store_core.specs.Stores.{Stored}
use Rattle.store_core.specs.Newest.{mine_back, replay_back}
use Rattle.state_core.specs.Lists.{Among}
use Rattle.update_core.specs.Limits.{most}
use Rattle.history_core.specs.declared.asked.Asked.{Asked}
use Rattle.history_core.specs.declared.asked.Asked.TheVariants as asks
use Rattle.history_core.specs.declared.collect_answers.CollectAnswer.{CollectAnswer}
use Rattle.history_core.specs.declared.collect_answers.CollectAnswer.TheVariants as answers
use Rattle.history_core.specs.Costs.{WithinReads, collect_base, failed_calls}
use Rattle.history_core.specs.Discipline.{DeletedBy}
use Rattle.history_core.specs.Legal.{Command}
use Rattle.history_core.specs.Placing.{AtLastScan, places, reply_at}
use Rattle.history_core.specs.Stands.{end_of}
use Rattle.history_core.specs.Upkeep.{LegalCollectBack, deletes_of}
use Rattle.load_core.specs.declared.begin_faults.BeginFault.{BeginFault}
use Rattle.load_core.specs.declared.begin_faults.BeginFault.TheVariants as faults
use Rattle.load_core.specs.declared.damages.Damage.{Damage}
use Rattle.load_core.specs.declared.polls.Poll.{Poll}
use Rattle.load_core.specs.declared.polls.Poll.TheVariants as polls
use Rattle.load_core.specs.Effects.{CommitsNone}
use Rattle.load_core.specs.Trying.{more}
use Rattle.machine_core.specs.Machines.{Words}
use Rattle.maint_client.specs.declared.collectors.Collector.{Collector}
use Rattle.maint_client.specs.declared.sweeps.Sweep.{Sweep}
use Rattle.maint_client.specs.Sweeping.{IsSweep, goes_on, sweep_call, sweep_of, swept}

-- ---- what it does next

-- a command is open
abbrev pub IsOpen : Collector → Type 0
IsOpen c = IsSome c.asked

-- what it holds besides any history: what is asked is a collection, and something is left of it
pub record IsSound (c : Collector) : Type 0 where
  pub asked : IfSome c.asked (λ a. a ≡ asks.Collect)
  pub sweep : IfSome c.sweep IsSweep

-- the call that comes next: the Scan, until it is answered
abbrev pub call_after : ShardId → Option Sweep → Call
call_after shard None = calls.Scan shard 0
call_after shard (Some w) = sweep_call shard w

-- ---- what a reply makes of it

-- with one call more
abbrev pub counted : Collector → Collector
counted c = record c { calls = more c.calls }

-- where something is left the collection goes on with that, else it has ended
abbrev pub left_of : Collector → Sweep → Collector
left_of c w =
    if goes_on w then record c { sweep = Some w; calls = more c.calls }
    else record c { asked = None; sweep = None; calls = more c.calls }

-- and this is what the poll comes to
abbrev pub left_poll : Sweep → Poll CollectAnswer
left_poll w = if goes_on w then polls.More else polls.Done (answers.Collected w.floor w.place)

-- the collection goes on with what is left
abbrev pub GoesTo : Collector → Sweep → Collector → Poll CollectAnswer → Type 0
GoesTo c w new poll = (poll ≡ left_poll w) × (new ≡ left_of c w)

-- the call failed, and comes next again
abbrev pub Fails : Collector → Collector → Poll CollectAnswer → Type 0
Fails c new poll = (poll ≡ polls.Fault) × (new ≡ counted c)

-- what the Scan shows is left, or damaged
abbrev pub GoesByScan : Collector → Result Sweep Damage → Collector → Poll CollectAnswer → Type 0
GoesByScan c (Ok w) new poll = GoesTo c w new poll
GoesByScan c (Err damage) new poll = (poll ≡ polls.Damaged damage) × (new ≡ record c { asked = None; calls = more c.calls })

abbrev pub MovesBy : Collector → Option Sweep → Reply → Collector → Poll CollectAnswer → Type 0
MovesBy c None (replies.Versions vs) new poll = GoesByScan c (sweep_of c.shard vs) new poll
MovesBy c None replies.Failed new poll = Fails c new poll
MovesBy c (Some w) replies.Deleted new poll = GoesTo c (swept w) new poll
MovesBy c (Some w) replies.Truncated new poll = GoesTo c (swept w) new poll
MovesBy c (Some w) replies.Failed new poll = Fails c new poll
MovesBy c sweep _ new poll = ⊥

abbrev pub Moves : Collector → Reply → Collector → Poll CollectAnswer → Type 0
Moves c reply new poll = MovesBy c c.sweep reply new poll

-- want of memory comes only after the Scan, which comes next again
abbrev pub Wants : Collector → Collector → Type 0
Wants old new = (old.sweep ≡ None) × (new ≡ counted old)

-- ---- in a history

pub record CollectKept : Type 0 where
  pub asked : Option Asked
  pub shard : ShardId

abbrev pub kept : Collector → CollectKept
kept c = record { asked = c.asked; shard = c.shard }

-- a call of a collection
abbrev pub IsCollecting : ShardId → Call → Type 0
IsCollecting shard (calls.Scan at_shard from) = (at_shard ≡ shard) × (from ≡ 0)
IsCollecting shard (calls.Delete key) = ⊤
IsCollecting shard (calls.Truncate at_shard below) = at_shard ≡ shard
IsCollecting shard _ = ⊥

-- a call that was answered committed nothing; a collection is never told that no number is left
abbrev pub CommitsNoneBy : Poll CollectAnswer → Reply → Type 0
CommitsNoneBy polls.More reply = CommitsNone reply
CommitsNoneBy (polls.Done answer) reply = CommitsNone reply
CommitsNoneBy polls.Spent reply = ⊥
CommitsNoneBy _ reply = ⊤

-- what its call has done
pub record Did (k : CollectKept) (call : Call) (reply : Reply) (poll : Poll CollectAnswer) : Type 0 where
  pub collects : IsCollecting k.shard call
  pub none : CommitsNoneBy poll reply

-- an answer leaves no command
pub record Ended (k : CollectKept) (c : Collector) : Type 0 where
  pub asked : c.asked ≡ None
  pub shard : c.shard ≡ k.shard

-- a Scan's versions ask for this collection, of which some may be done
pub record AsksFor (shard : ShardId) (w : Sweep) (vs : List Version) : Type 0 where
  pub first : Sweep
  pub asked : sweep_of shard vs ≡ Ok first
  pub floor : first.floor ≡ w.floor
  pub keys : first.keys ≡ w.keys
  pub cuts : w.cut ≡ true → first.cut ≡ true

-- the call was a Scan from 0, answered with versions that ask for this collection
abbrev pub IsScanFor : ShardId → Sweep → Call → Reply → Type 0
IsScanFor shard w call reply =
    (call ≡ calls.Scan shard 0) × ((vs : List Version) × (reply ≡ replies.Versions vs) × AsksFor shard w vs)

-- how many keys a collection has deleted
abbrev pub deleted_by : Option Sweep → ℕ
deleted_by None = 0
deleted_by (Some w) = w.place

-- after its Scan: what that showed, what its client has deleted since, and that the versions below the floor are gone, or are
-- still to be removed
pub record FollowsSweep (client : ℕ) (shard : ShardId) (calls : ℕ) (w : Sweep) (start : Stored) (es : List Entry) : Type 0 where
  pub scan : calls < most → AtLastScan shard (λ p. IsScanFor shard w p.entry.call (reply_at start p)) (places client calls es)
  pub shown : Among (λ o. IsScanFor shard w o.entry.call o.reply) (mine_back start es client)
  pub deleted : AllByRecursion (DeletedBy (mine_back start es client)) (take w.place w.keys)
  pub of_shard : AllByRecursion (λ k. k.shard ≡ shard) w.keys
  pub low : w.cut ≡ false → w.floor ≤ ((replay_back start es).logs shard).first
  pub below : w.cut ≡ true → w.floor < end_of ((replay_back start es).logs shard)

-- what its client's own entries say of an open collection
pub record FollowsCommand (client : ℕ) (c : Collector) (start : Stored) (es : List Entry) : Type 0 where
  pub deletes : c.calls < most → deletes_of (places client c.calls es) ≡ deleted_by c.sweep
  pub sweep : IfSome c.sweep (λ w. FollowsSweep client c.shard c.calls w start es)

abbrev pub Follows : ℕ → Collector → Stored → List Entry → Type 0
Follows client c start es = IfSome c.asked (λ a. FollowsCommand client c start es)

-- its command, of so many calls
abbrev pub command : ℕ → CollectKept → ℕ → Asked → Command
command client k calls asked = record {
  client = client;
  shard = k.shard;
  member = None;
  token = 0;
  listen = None;
  asked = asked;
  calls = calls;
}

-- ---- what it costs

-- how many calls remain, if none fails
abbrev pub remaining : Sweep → ℕ
remaining w = length w.keys - w.place + (if w.cut then 1 else 0)

-- the calls made and those that remain: before the Scan's answer there were only failed ones
abbrev pub CostBy : ℕ → ℕ → Option Sweep → List Entry → Type 0
CostBy client calls None es = calls ≤ failed_calls client calls es
CostBy client calls (Some w) es = WithinReads calls (remaining w) (collect_base (length w.keys)) (failed_calls client calls es)

-- a collection that has ended made no more calls than one of the keys that its Scan showed may
abbrev pub CostEnded : ℕ → ShardId → ℕ → Stored → List Entry → Type 0
CostEnded client shard calls start es = AtLastScan shard (λ p. (w : Sweep) × IsScanFor shard w p.entry.call (reply_at start p) ×
    WithinReads calls 0 (collect_base (length w.keys)) (failed_calls client calls es)) (places client calls es)

-- a collector, as a machine
abbrev pub collecting : Words Collector CollectAnswer
collecting = record {
  Kept = CollectKept;
  kept = kept;
  shard = λ k. k.shard;
  IsOpen = IsOpen;
  IsSound = IsSound;
  IsReady = IsSound;
  calls_of = λ c. c.calls;
  Prepares = λ old new. new ≡ old;
  call_of = λ c. Some (call_after c.shard c.sweep);
  Moves = Moves;
  Wants = Wants;
  Ends = λ k answer c. Ended k c;
  Effect = Did;
  Follows = Follows;
  Spares = λ c call. ⊤;
  Legal = λ client k calls answer start es list.
      IfSome k.asked (λ a. LegalCollectBack start es (command client k calls a) answer);
  least = collect_base 0;
  CostAt = λ base client c start es list. c.calls < most → CostBy client c.calls c.sweep es;
  CostOver = λ base client old new start es list. new.calls < most → CostEnded client new.shard new.calls start es;
}

-- a collection is begun exactly where none is open; else that is told, and all is as it was
abbrev pub Begins : Collector → Collector → Result Unit BeginFault → Type 0
Begins old new (Ok done) =
    (old.asked ≡ None) × (new ≡ record { shard = old.shard; asked = Some asks.Collect; sweep = None; calls = 0 })
Begins old new (Err fault) = (fault ≡ faults.Open) × IsSome old.asked × (new ≡ old)
