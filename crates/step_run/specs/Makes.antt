-- What the making of a client comes to. Entries go newest first.
use Rattle.std.specs.Prelude.{◌≡◌, ℕ, None, Result, Ok, Err, List}
use Rattle.update_core.specs.declared.updates.Update.{Update}
use Rattle.store_core.specs.declared.shards.ShardId.{ShardId}
use Rattle.store_core.specs.declared.entries.Entry.{Entry}
use Rattle.store_core.specs.Stores.{Stored}
use Rattle.history_core.specs.declared.write_answers.WriteAnswer.{WriteAnswer}
use Rattle.history_core.specs.declared.read_answers.ReadAnswer.{ReadAnswer}
use Rattle.history_core.specs.declared.merge_answers.MergeAnswer.{MergeAnswer}
use Rattle.driving.specs.Drives.{Answered}
use Rattle.write_client.specs.declared.writers.Writer.{Writer}
use Rattle.write_client.specs.Machining as write
use Rattle.write_client.specs.Writing as writers
use Rattle.read_client.specs.declared.readers.Reader.{Reader}
use Rattle.read_client.specs.Machining as read
use Rattle.read_client.specs.Reading as readers
use Rattle.merge_client.specs.declared.compactors.Compactor.{Compactor}
use Rattle.merge_client.specs.Machining as merge
use Rattle.merge_client.specs.Merging as mergers
use Rattle.maint_client.specs.declared.collectors.Collector.{Collector}
use Rattle.maint_client.specs.declared.expirers.Expirer.{Expirer}
use Rattle.step_text.specs.declared.makes.Made.{Made}
use Rattle.step_text.specs.declared.makes.Made.TheVariants as makes
use Rattle.step_run.specs.declared.clients.Client.TheVariants as clients
use Rattle.step_run.specs.declared.entered.Entered.{Entered}
use Rattle.step_run.specs.declared.step_faults.StepFault.{StepFault}
use Rattle.step_run.specs.Faults.{FailedBy}
use Rattle.step_run.specs.Sayings.{merge_says, read_says, write_says}

-- A writer has joined, or found as many members as can stand: its open was polled to its end, by its own calls alone, and the answer
-- is legal.
pub record WriterOpens (shard : ShardId) (client : ℕ) (made : Entered) (list : List Update) (start : Stored) (es now : List Entry)
    : Type 0 where
  pub writer : Writer
  pub is : made.client ≡ clients.Writer writer
  pub answer : WriteAnswer
  pub answered : Answered write.machine client (write.kept (writers.opened shard)) answer list start es now
  pub ended : write.Ended (write.kept (writers.opened shard)) answer writer
  pub said : made.said ≡ write_says answer

-- the same of a reader, whose lease begins at this moment
pub record ReaderOpens (shard : ShardId) (moment lease client : ℕ) (made : Entered) (list : List Update) (start : Stored)
    (es now : List Entry) : Type 0 where
  pub reader : Reader
  pub is : made.client ≡ clients.Reader reader
  pub answer : ReadAnswer
  pub answered : Answered read.machine client (read.kept (readers.opened shard moment lease)) answer list start es now
  pub ended : read.Ended (read.kept (readers.opened shard moment lease)) answer reader
  pub said : made.said ≡ read_says answer

-- the same of a compactor
pub record CompactorOpens (shard : ShardId) (moment lease client : ℕ) (made : Entered) (list : List Update) (start : Stored)
    (es now : List Entry) : Type 0 where
  pub compactor : Compactor
  pub is : made.client ≡ clients.Compactor compactor
  pub answer : MergeAnswer
  pub answered : Answered merge.machine client (merge.kept (mergers.opened shard moment lease)) answer list start es now
  pub ended : merge.Ended (merge.kept (mergers.opened shard moment lease)) answer compactor
  pub said : made.said ≡ merge_says answer

-- a collector is made without a call
pub record CollectorMade (shard : ShardId) (made : Entered) (es now : List Entry) : Type 0 where
  pub collector : Collector
  pub is : made.client ≡ clients.Collector collector
  pub idle : collector.asked ≡ None
  pub shard_is : collector.shard ≡ shard
  pub none : now ≡ es
  pub silent : made.said ≡ None

-- and so is an expirer
pub record ExpirerMade (shard : ShardId) (made : Entered) (es now : List Entry) : Type 0 where
  pub expirer : Expirer
  pub is : made.client ≡ clients.Expirer expirer
  pub idle : expirer.tryer.asked ≡ None
  pub shard_is : expirer.tryer.trying.loader.shard ≡ shard
  pub none : now ≡ es
  pub silent : made.said ≡ None

-- what has become of a client that was to be made
abbrev pub MakesTo : ShardId → (Entered → List Update → Stored → List Entry → List Entry → Type 0) → Result Entered StepFault → List Update →
    Stored → List Entry → List Entry → Type 0
MakesTo shard how (Ok made) list start es now = how made list start es now
MakesTo shard how (Err fault) list start es now = FailedBy shard fault start es now

-- a client of each kind is made, with this number, at this moment
abbrev pub Makes : ShardId → ℕ → Made → ℕ → Entered → List Update → Stored → List Entry → List Entry → Type 0
Makes shard moment makes.Writer client made list start es now = WriterOpens shard client made list start es now
Makes shard moment (makes.Reader lease) client made list start es now = ReaderOpens shard moment lease client made list start es now
Makes shard moment (makes.Compactor lease) client made list start es now = CompactorOpens shard moment lease client made list start es now
Makes shard moment makes.Collector client made list start es now = CollectorMade shard made es now
Makes shard moment makes.Expirer client made list start es now = ExpirerMade shard made es now
