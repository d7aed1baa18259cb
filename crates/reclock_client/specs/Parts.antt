-- Which inner machine a step is of.
use Rattle.reclock_client.specs.declared.steps.Part.{Part}
use Rattle.reclock_client.specs.declared.steps.Part.TheVariants as parts
use Rattle.reclock_client.specs.declared.steps.Step.{Step}
use Rattle.reclock_client.specs.declared.steps.Step.TheVariants as steps

abbrev pub part_of : Step → Part
part_of steps.JoinRemap = parts.RemapWriter
part_of (steps.AppendRemap from) = parts.RemapWriter
part_of steps.LeaveRemap = parts.RemapWriter
part_of steps.JoinData = parts.DataWriter
part_of (steps.AppendData from) = parts.DataWriter
part_of steps.LeaveData = parts.DataWriter
part_of steps.Look = parts.Looker
part_of steps.JoinReader = parts.Reader
part_of steps.Snapshot = parts.Reader
part_of steps.Listen = parts.Reader
part_of steps.Next = parts.Reader
part_of steps.LeaveReader = parts.Reader
