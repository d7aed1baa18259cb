-- An operator: four inner machines of one client, and where it stands. Entries go newest first.
use Rattle.std.specs.Prelude.{⊤, ◌≡◌, ◌≢◌, ◌⊎◌, ℕ, ◌≤◌, Bool, true, false}
use Rattle.std.specs.Prelude.{if◌then◌else◌, is_some, ◌+◌, min, Option, Some, None, IfSome, IsSome, []}
use Rattle.store_core.specs.declared.shards.ShardId.{ShardId}
use Rattle.store_core.specs.Histories.{History}
use Rattle.update_core.specs.Limits.{max_weight, most}
use Rattle.state_core.specs.declared.transitions.Transition.TheVariants.{Init}
use Rattle.history_core.specs.declared.asked.Asked.{Asked}
use Rattle.history_core.specs.declared.asked.Asked.TheVariants as asks
use Rattle.load_core.specs.Trying as trying
use Rattle.machine_core.specs.Polling.{FollowsWhere}
use Rattle.remap_core.specs.Reclocking.{weight_of_rows}
use Rattle.try_machine.specs.declared.tryers.Tryer.{Tryer}
use Rattle.try_machine.specs.Tryers as tryers
use Rattle.read_client.specs.declared.readers.Reader.{Reader}
use Rattle.read_client.specs.Machining as reads
use Rattle.read_client.specs.Reading as readers
use Rattle.write_client.specs.declared.writers.Writer.{Writer}
use Rattle.write_client.specs.Machining as writes
use Rattle.write_client.specs.Writing as writers
use Rattle.reclock_client.specs.declared.courses.Course.{Course}
use Rattle.reclock_client.specs.declared.errands.Errand.{Errand}
use Rattle.reclock_client.specs.declared.errands.Errand.TheVariants as errands
use Rattle.reclock_client.specs.declared.intakes.Intake.TheVariants as intakes
use Rattle.reclock_client.specs.declared.looks.Look.{Look}
use Rattle.reclock_client.specs.declared.operators.Operator.{Operator}
use Rattle.reclock_client.specs.declared.steps.Part.{Part}
use Rattle.reclock_client.specs.declared.steps.Part.TheVariants as parts
use Rattle.reclock_client.specs.declared.steps.Step.{Step}
use Rattle.reclock_client.specs.declared.steps.Step.TheVariants as steps
use Rattle.reclock_client.specs.Looking as looks
use Rattle.reclock_client.specs.Looking.{looking}
use Rattle.reclock_client.specs.Parts as by_parts
use Rattle.reclock_client.specs.Reading.{AllRaise, left}

-- nothing is known, and the open has begun
abbrev pub opening : Course
opening = record {
  since = 0;
  bindings = [];
  intake = intakes.Nothing;
  synced = Some 0;
  listens = false;
  errand = Some errands.Open;
  step = steps.JoinRemap;
  joined = false;
}

-- a machine that looks at a shard's upper, before its first look
abbrev pub unlooked : ShardId → Tryer Look
unlooked shard = record { trying = trying.begun (record { shard = shard; cached = None }) Init; asked = None }

-- an operator whose open has begun
abbrev pub opened : ShardId → ShardId → ℕ → ℕ → Operator
opened remap_at data_at now lease = record {
  remap = remap_at;
  data_shard = data_at;
  moment = now;
  lease = lease;
  remap_writer = writers.opened remap_at;
  reader = readers.opened remap_at now lease;
  data_writer = writers.opened data_at;
  looker = unlooked data_at;
  course = opening;
  calls = 0;
}

-- ---- the calls that it has made

abbrev pub part_of : Step → Part
part_of = by_parts.part_of

-- those of the inner command of a machine, where one is open
abbrev pub open_calls : Operator → Part → ℕ
open_calls o parts.RemapWriter = if is_some o.remap_writer.asked then o.remap_writer.storing.trying.calls else 0
open_calls o parts.Reader = if is_some o.reader.asked then o.reader.trying.calls else 0
open_calls o parts.DataWriter = if is_some o.data_writer.asked then o.data_writer.storing.trying.calls else 0
open_calls o parts.Looker = if is_some o.looker.asked then o.looker.trying.calls else 0

abbrev pub calls_of : Operator → ℕ
calls_of o = min (o.calls + open_calls o (part_of o.course.step)) most

-- ---- what it holds

-- a command of an inner machine is open
abbrev pub IsOpen : Operator → Part → Type 0
IsOpen o parts.RemapWriter = IsSome o.remap_writer.asked
IsOpen o parts.Reader = IsSome o.reader.asked
IsOpen o parts.DataWriter = IsSome o.data_writer.asked
IsOpen o parts.Looker = IsSome o.looker.asked

-- a writer isn't at work: no command is open, or it hasn't been polled yet
abbrev pub Rests : Writer → Type 0
Rests w = (w.asked ≡ None) ⊎ (w ≡ writers.opened (writers.shard_of w))

abbrev pub ReaderRests : Operator → Type 0
ReaderRests o = (o.reader.asked ≡ None) ⊎ (o.reader ≡ readers.opened (readers.shard_of o.reader) o.moment o.lease)

-- the machines that aren't the one at work rest
abbrev pub OthersRest : Operator → Part → Type 0
OthersRest o parts.RemapWriter = ReaderRests o × Rests o.data_writer × (o.looker.asked ≡ None)
OthersRest o parts.Reader = Rests o.remap_writer × Rests o.data_writer × (o.looker.asked ≡ None)
OthersRest o parts.DataWriter = Rests o.remap_writer × ReaderRests o × (o.looker.asked ≡ None)
OthersRest o parts.Looker = Rests o.remap_writer × ReaderRests o × Rests o.data_writer

-- where no command is open and one may begin, all of them rest
abbrev pub IdleBy : Operator → Option Errand → Bool → Type 0
IdleBy o None true = Rests o.remap_writer × ReaderRests o × Rests o.data_writer × (o.looker.asked ≡ None)
IdleBy o None false = ⊤
IdleBy o (Some errand) joined = ⊤

-- a command of a reader that changes its member
abbrev pub IsChange : Asked → Type 0
IsChange (asks.Advance to) = ⊤
IsChange (asks.RenewReader now) = ⊤
IsChange asks.CloseReader = ⊤
IsChange _ = ⊥

-- the rows of a publish weigh what a shard can
abbrev pub IsLight : Option Errand → Type 0
IsLight (Some (errands.Publish rows)) = weight_of_rows rows ≤ max_weight
IsLight _ = ⊤

-- the rows that are left raise partitions, and a publish isn't too heavy
pub record IsCourse (c : Course) : Type 0 where
  pub raise : AllRaise c.bindings (left c.since c.intake)
  pub light : IsLight c.errand

-- this stays where it was so and no row is left
abbrev pub Settles : Course → Course → Type 0
Settles old new = old.intake ≡ intakes.Nothing → IsCourse old → IsCourse new

-- the machines, each sound and of its shard
pub record AreSound (remap_at data_at : ShardId) (w : Writer) (r : Reader) (d : Writer) (l : Tryer Look) : Type 0 where
  pub remap_writer : writers.IsSound w
  pub reader : readers.IsSound r
  pub data_writer : writers.IsSound d
  pub looker : tryers.IsSound looking l
  pub writes_remap : writers.shard_of w ≡ remap_at
  pub reads_remap : readers.shard_of r ≡ remap_at
  pub writes_data : writers.shard_of d ≡ data_at
  pub looks_data : l.trying.loader.shard ≡ data_at
  pub apart : remap_at ≢ data_at

pub record IsSound (o : Operator) : Type 0 where
  pub machines : AreSound o.remap o.data_shard o.remap_writer o.reader o.data_writer o.looker
  pub course : IsCourse o.course
  pub rest : OthersRest o (part_of o.course.step)
  pub idle : IdleBy o o.course.errand o.course.joined
  -- while the reader leaves, the remap shard's writer has no member
  pub leaves : IfSome o.reader.asked (λ asked. IsChange asked → o.remap_writer.member ≡ None)

-- ---- in a history

-- each machine follows from its client's own entries, over a front, where it is told, lawful and from a start that stands for a list
-- on the machine's shard
pub record Follows (client : ℕ) (front : Option History) (o : Operator) : Type 0 where
  pub remap_writer : FollowsWhere writes.machine client front o.remap_writer
  pub reader : FollowsWhere reads.machine client front o.reader
  pub data_writer : FollowsWhere writes.machine client front o.data_writer
  pub looker : FollowsWhere looks.machine client front o.looker
