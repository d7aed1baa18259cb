-- The open inner command of an operator's step is the one that the step names.
use Rattle.std.specs.Prelude.{⊤, ◌≡◌, ℕ, Option, Some, None, IfSome, List}
use Rattle.update_core.specs.declared.updates.Update.{Update}
use Rattle.store_core.specs.declared.shards.ShardId.{ShardId}
use Rattle.history_core.specs.declared.asked.Asked.{Asked}
use Rattle.history_core.specs.declared.asked.Asked.TheVariants as asks
use Rattle.reclock_client.specs.declared.operators.Operator.{Operator}
use Rattle.reclock_client.specs.declared.steps.Part.{Part}
use Rattle.reclock_client.specs.declared.steps.Part.TheVariants as parts
use Rattle.reclock_client.specs.declared.steps.Step.{Step}
use Rattle.reclock_client.specs.declared.steps.Step.TheVariants as steps
use Rattle.reclock_client.specs.Known.{known}
use Rattle.reclock_client.specs.Minting.{mint_rows, slice_rows}
use Rattle.reclock_client.specs.Parts.{part_of}
use Rattle.reclock_client.specs.Turns.{AtStep}

-- what the commands of an operator's machines are about; the rows of a mint and of a publish are those of the bindings with the rows
-- that were read and are still to be bound
pub record Duties : Type 0 where
  pub remap_at : ShardId
  pub data_at : ShardId
  pub moment : ℕ
  pub lease : ℕ
  pub since : ℕ
  pub rises : Option (List Update × Option ℕ)
  pub slice : ℕ → Option (List Update × Option ℕ)

abbrev pub duties : Operator → Duties
duties o = record {
  remap_at = o.remap;
  data_at = o.data_shard;
  moment = o.moment;
  lease = o.lease;
  since = o.course.since;
  rises = mint_rows (known o.course) o.course.errand;
  slice = λ from. slice_rows (known o.course) o.course.synced o.course.errand from;
}

-- an append of these rows from an upper on
abbrev pub IsAppendOf : Option (List Update × Option ℕ) → ℕ → Asked → Type 0
IsAppendOf None from asked = ⊥
IsAppendOf (Some rows) from asked = asked ≡ asks.Append rows.0 from rows.1

abbrev pub AsksRemap : Duties → Step → Asked → Type 0
AsksRemap d steps.JoinRemap asked = asked ≡ asks.OpenWriter d.remap_at
AsksRemap d (steps.AppendRemap from) asked = IsAppendOf d.rises from asked
AsksRemap d steps.LeaveRemap asked = asked ≡ asks.CloseWriter
AsksRemap d other asked = ⊥

abbrev pub AsksReader : Duties → Step → Asked → Type 0
AsksReader d steps.JoinReader asked = asked ≡ asks.OpenReader d.remap_at d.moment d.lease
AsksReader d steps.Snapshot asked = asked ≡ asks.Snapshot d.since
AsksReader d steps.Listen asked = asked ≡ asks.Listen d.since
AsksReader d steps.Next asked = asked ≡ asks.Next
AsksReader d steps.LeaveReader asked = asked ≡ asks.CloseReader
AsksReader d other asked = ⊥

abbrev pub AsksData : Duties → Step → Asked → Type 0
AsksData d steps.JoinData asked = asked ≡ asks.OpenWriter d.data_at
AsksData d (steps.AppendData from) asked = IsAppendOf (d.slice from) from asked
AsksData d steps.LeaveData asked = asked ≡ asks.CloseWriter
AsksData d other asked = ⊥

-- what the three clients are asked
pub record Asks : Type 0 where
  pub remap_writer : Option Asked
  pub reader : Option Asked
  pub data_writer : Option Asked

abbrev pub asks_of : Operator → Asks
asks_of o = record { remap_writer = o.remap_writer.asked; reader = o.reader.asked; data_writer = o.data_writer.asked }

-- the open command of the machine at work is the step's
abbrev pub AsksAt : Asks → Duties → Step → Part → Type 0
AsksAt a d step parts.RemapWriter = IfSome a.remap_writer (AsksRemap d step)
AsksAt a d step parts.Reader = IfSome a.reader (AsksReader d step)
AsksAt a d step parts.DataWriter = IfSome a.data_writer (AsksData d step)
AsksAt a d step parts.Looker = ⊤

-- while a command is open
abbrev pub AsksOwn : Operator → Type 0
AsksOwn o = IfSome o.course.errand (λ errand. AsksAt (asks_of o) (duties o) o.course.step (part_of o.course.step))

-- an operator is in turn: at a step of its command, with that step's inner command
abbrev pub InTurn : Operator → Type 0
InTurn o = AtStep o × AsksOwn o
