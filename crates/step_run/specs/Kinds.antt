-- What a line that has a client polled comes to, for a client of each kind. Entries go newest first.
use Rattle.std.specs.Prelude.{ℕ, Result, Ok, Err, List}
use Rattle.update_core.specs.declared.updates.Update.{Update}
use Rattle.store_core.specs.declared.shards.ShardId.{ShardId}
use Rattle.store_core.specs.declared.entries.Entry.{Entry}
use Rattle.store_core.specs.Stores.{Stored}
use Rattle.write_client.specs.Machining as write
use Rattle.read_client.specs.Machining as read
use Rattle.merge_client.specs.Machining as merge
use Rattle.maint_client.specs.Collecting as collect
use Rattle.maint_client.specs.Expiring as expire
use Rattle.step_run.specs.declared.clients.Client.{Client}
use Rattle.step_run.specs.declared.clients.Client.TheVariants as clients
use Rattle.step_run.specs.declared.sayings.Saying.{Saying}
use Rattle.step_run.specs.declared.step_faults.StepFault.{StepFault}
use Rattle.step_run.specs.declared.stepping.Stepped.{Stepped}
use Rattle.step_run.specs.Faults.{FailedBy}
use Rattle.step_run.specs.Polls.{PollsOrIdles}
use Rattle.step_run.specs.Sayings.{collect_says, expire_says, merge_says, read_says, write_says}

-- a client's open command was polled, or none is open; it stays a client of its kind
abbrev pub ClientPolls : ℕ → ℕ → Client → Client → Stepped Saying → List Update → Stored → List Entry → List Entry → Type 0
ClientPolls client polls (clients.Writer w) (clients.Writer v) s list start es now =
    PollsOrIdles write.machine write_says client polls w v s list start es now
ClientPolls client polls (clients.Reader r) (clients.Reader q) s list start es now =
    PollsOrIdles read.machine read_says client polls r q s list start es now
ClientPolls client polls (clients.Compactor c) (clients.Compactor d) s list start es now =
    PollsOrIdles merge.machine merge_says client polls c d s list start es now
ClientPolls client polls (clients.Collector c) (clients.Collector d) s list start es now =
    PollsOrIdles collect.collecting collect_says client polls c d s list start es now
ClientPolls client polls (clients.Expirer x) (clients.Expirer y) s list start es now =
    PollsOrIdles expire.machine expire_says client polls x.tryer y.tryer s list start es now
ClientPolls client polls _ _ s list start es now = ⊥

-- what has become of a client that is polled so many times
abbrev pub ClientPollsTo : ShardId → ℕ → ℕ → Client → Client → Result (Stepped Saying) StepFault → List Update → Stored → List Entry →
    List Entry → Type 0
ClientPollsTo shard client polls c d (Ok s) list start es now = ClientPolls client polls c d s list start es now
ClientPollsTo shard client polls c d (Err fault) list start es now = FailedBy shard fault start es now
