-- What one poll of an operator does: which of its inner machines is polled, and what its answer makes of where it stands.
use Rattle.std.specs.Prelude.{◌≡◌, ◌⊎◌, ℕ, ◌+◌, min, Option, Some, None, IsSome, Result, Ok, List}
use Rattle.std.specs.declared.alloc.AllocError.{AllocError}
use Rattle.update_core.specs.declared.updates.Update.{Update}
use Rattle.update_core.specs.Frontiers.{after}
use Rattle.store_core.specs.Histories.{History}
use Rattle.state_core.specs.declared.transitions.Transition.TheVariants.{Init, Leave}
use Rattle.update_core.specs.Limits.{most}
use Rattle.history_core.specs.declared.asked.Asked.TheVariants as asks
use Rattle.history_core.specs.declared.read_answers.ReadAnswer.{ReadAnswer}
use Rattle.history_core.specs.declared.write_answers.WriteAnswer.{WriteAnswer}
use Rattle.load_core.specs.declared.polls.Poll.{Poll}
use Rattle.load_core.specs.declared.polls.Poll.TheVariants as polls
use Rattle.load_core.specs.Trying as trying
use Rattle.machine_core.specs.Machines.{Words}
use Rattle.machine_core.specs.Polling as machines
use Rattle.machine_core.specs.Polling.{CostGoesOn, LegalWhere}
use Rattle.remap_core.specs.Extending.{with_rows}
use Rattle.read_client.specs.Beginning.{BeginsRead, Changing}
use Rattle.read_client.specs.Machining as reads
use Rattle.read_client.specs.Reading as readers
use Rattle.write_client.specs.declared.writers.Writer.{Writer}
use Rattle.write_client.specs.Beginning.{Closing}
use Rattle.write_client.specs.Machining as writes
use Rattle.write_client.specs.Writing as writers
use Rattle.reclock_client.specs.declared.clock_answers.ClockAnswer.{ClockAnswer}
use Rattle.reclock_client.specs.declared.courses.Course.{Course}
use Rattle.reclock_client.specs.declared.intakes.Intake.TheVariants as intakes
use Rattle.reclock_client.specs.declared.operators.Operator.{Operator}
use Rattle.reclock_client.specs.declared.starting.Begun.{Begun}
use Rattle.reclock_client.specs.declared.starting.Begun.TheVariants as begun
use Rattle.reclock_client.specs.declared.steps.Part.{Part}
use Rattle.reclock_client.specs.declared.steps.Part.TheVariants as parts
use Rattle.reclock_client.specs.declared.steps.Step.{Step}
use Rattle.reclock_client.specs.declared.steps.Step.TheVariants as steps
use Rattle.reclock_client.specs.Asking.{InTurn}
use Rattle.reclock_client.specs.Commands.{Next, after_data_writer, after_poll, after_reader, after_remap_writer, published_from}
use Rattle.reclock_client.specs.Looking as looks
use Rattle.reclock_client.specs.Minting.{mint_rows, slice_rows}
use Rattle.reclock_client.specs.Operators.{IsOpen, IsSound}
use Rattle.reclock_client.specs.Parts.{part_of}
use Rattle.reclock_client.specs.Reading.{Binds, left}
use Rattle.reclock_client.specs.Starting.{StartsAppend}

-- ---- before the call

-- the rows that were read are bound
abbrev pub bound : Course → Course
bound c = record c { bindings = with_rows c.bindings (left c.since c.intake); intake = intakes.Nothing }

-- some of them are, and the others are still to be bound
pub record Halts (old new : Course) : Type 0 where
  pub same : new ≡ record old { bindings = new.bindings; intake = new.intake }
  pub binds : Binds old.since old.bindings (left old.since old.intake) new.bindings new.intake

-- a writer begins to append these rows up to this frontier
abbrev pub BeginsAppend : Option (List Update × Option ℕ) → ℕ → Writer → Writer → Result Begun AllocError → Type 0
BeginsAppend None from old new result = ⊥
BeginsAppend (Some rows) from old new result = StartsAppend rows.0 from rows.1 old new result

-- an append has begun; or, where its tokens are spent, its writer leaves, to be joined again as another
abbrev pub RemapBegun : Begun → Operator → Operator → Type 0
RemapBegun begun.Yes mid new = new ≡ mid
RemapBegun begun.Spent mid new = Closing mid.remap_writer new.remap_writer ×
    (new ≡ record mid { remap_writer = new.remap_writer; course = record mid.course { step = steps.LeaveRemap } })

-- a step of the remap shard's writer begins
abbrev pub RemapStarts : Step → Operator → Operator → Type 0
RemapStarts steps.JoinRemap old new = new ≡ record old { remap_writer = writers.opened old.remap }
RemapStarts (steps.AppendRemap from) old new = (w : Writer) × (b : Begun) ×
    BeginsAppend (mint_rows old.course.bindings old.course.errand) from old.remap_writer w (Ok b) × RemapBegun b
    (record old { remap_writer = w }) new
RemapStarts other old new = Closing old.remap_writer new.remap_writer × (new ≡ record old { remap_writer = new.remap_writer })

-- the same of the data shard's writer
abbrev pub DataBegun : Begun → Operator → Operator → Type 0
DataBegun begun.Yes mid new = new ≡ mid
DataBegun begun.Spent mid new = Closing mid.data_writer new.data_writer ×
    (new ≡ record mid { data_writer = new.data_writer; course = record mid.course { step = steps.LeaveData } })

abbrev pub DataStarts : Step → Operator → Operator → Type 0
DataStarts steps.JoinData old new = new ≡ record old { data_writer = writers.opened old.data_shard }
DataStarts (steps.AppendData from) old new = (w : Writer) × (b : Begun) ×
    BeginsAppend (slice_rows old.course.bindings old.course.synced old.course.errand from) from old.data_writer w (Ok b) × DataBegun b
    (record old { data_writer = w }) new
DataStarts other old new = Closing old.data_writer new.data_writer × (new ≡ record old { data_writer = new.data_writer })

-- a step of the reader
abbrev pub ReadStarts : Step → Operator → Operator → Type 0
ReadStarts steps.JoinReader old new = new ≡ record old { reader = readers.opened old.remap old.moment old.lease }
ReadStarts steps.Snapshot old new =
    BeginsRead old.reader (asks.Snapshot old.course.since) old.reader.listen new.reader × (new ≡ record old { reader = new.reader })
ReadStarts steps.Listen old new =
    BeginsRead old.reader (asks.Listen old.course.since) (Some (after old.course.since)) new.reader ×
    (new ≡ record old { reader = new.reader })
ReadStarts steps.Next old new = BeginsRead old.reader asks.Next old.reader.listen new.reader × (new ≡ record old { reader = new.reader })
-- the remap shard's writer has left: a new one, which isn't polled, takes its place
ReadStarts other old new = Changing old.reader asks.CloseReader (λ member. Leave member) new.reader ×
    (new ≡ record old { remap_writer = writers.opened old.remap; reader = new.reader })

-- a look
abbrev pub LookStarts : Operator → Operator → Type 0
LookStarts old new =
    new ≡ record old { looker = record { trying = trying.begun old.looker.trying.loader Init; asked = Some (record {}) } }

-- the command that is next is open already, or begins
abbrev pub Starts : Part → Operator → Operator → Type 0
Starts parts.RemapWriter old new = (IsSome old.remap_writer.asked × (new ≡ old)) ⊎
    ((old.remap_writer.asked ≡ None) × RemapStarts old.course.step old new)
Starts parts.Reader old new = (IsSome old.reader.asked × (new ≡ old)) ⊎ ((old.reader.asked ≡ None) × ReadStarts old.course.step old new)
Starts parts.DataWriter old new = (IsSome old.data_writer.asked × (new ≡ old)) ⊎
    ((old.data_writer.asked ≡ None) × DataStarts old.course.step old new)
Starts parts.Looker old new = (IsSome old.looker.asked × (new ≡ old)) ⊎ ((old.looker.asked ≡ None) × LookStarts old new)

-- what is ready: the rows that were read are bound, and then the command that is next is open
abbrev pub Readies : Operator → Operator → Type 0
Readies old new = Starts (part_of old.course.step) (record old { course = bound old.course }) new

-- ---- the call

-- an inner machine's poll, over this front: what it does, that what it comes to is legal, and what it costs
pub record Inner {M A : Type 0} (W : Words M A) (client : ℕ) (front front_now : Option History) (old new : M) (poll : Poll A) : Type 0 where
  pub polled : machines.Polled W client front front_now old new poll
  pub legal : LegalWhere W client front_now old new poll
  pub cost : CostGoesOn W client front front_now old new poll

-- the calls of the inner commands that have ended
abbrev pub counted : {A : Type 0} → Poll A → ℕ → ℕ → ℕ
counted polls.Busy ended calls = ended
counted polls.More ended calls = ended
counted polls.Fault ended calls = ended
counted other ended calls = min (ended + calls) most

-- what an inner poll makes of the operator, by what its answer makes of where the operator stands
abbrev pub Comes : Next → ℕ → Operator → Operator → Poll ClockAnswer → Type 0
Comes next calls mid new poll = (new ≡ record mid { course = next.0; calls = calls }) × (poll ≡ next.1)

abbrev pub PolledBy : Part → ℕ → Option History → Option History → Operator → Operator → Poll ClockAnswer → Type 0
PolledBy parts.RemapWriter client front front_now old new poll =
    (p : Poll WriteAnswer) × Inner writes.machine client front front_now old.remap_writer new.remap_writer p ×
    Comes (after_poll (after_remap_writer old.course old.course.step) old.course p)
    (counted p old.calls new.remap_writer.storing.trying.calls) (record old { remap_writer = new.remap_writer }) new poll
PolledBy parts.Reader client front front_now old new poll =
    (p : Poll ReadAnswer) × Inner reads.machine client front front_now old.reader new.reader p ×
    Comes (after_poll (after_reader old.course old.course.step) old.course p)
    (counted p old.calls new.reader.trying.calls) (record old { reader = new.reader }) new poll
PolledBy parts.DataWriter client front front_now old new poll =
    (p : Poll WriteAnswer) × Inner writes.machine client front front_now old.data_writer new.data_writer p ×
    Comes (after_poll (after_data_writer old.course old.course.step) old.course p)
    (counted p old.calls new.data_writer.storing.trying.calls) (record old { data_writer = new.data_writer }) new poll
PolledBy parts.Looker client front front_now old new poll =
    (p : Poll (Option ℕ)) × Inner looks.machine client front front_now old.looker new.looker p ×
    Comes (after_poll (published_from old.course) old.course p)
    (counted p old.calls new.looker.trying.calls) (record old { looker = new.looker }) new poll

-- the inner machine whose step it is is polled
pub record Polled (client : ℕ) (front front_now : Option History) (old new : Operator) (poll : Poll ClockAnswer) : Type 0 where
  pub ready : Operator
  pub readies : Readies old ready
  pub sound : IsSound ready
  pub turn : InTurn ready
  pub is_open : IsOpen ready (part_of ready.course.step)
  pub polled : PolledBy (part_of ready.course.step) client front front_now ready new poll

-- ---- want of memory

-- the inner machine was polled in vain: its command stays open
abbrev pub UnpolledBy : Part → ℕ → Option History → Option History → Operator → Operator → Type 0
UnpolledBy parts.RemapWriter client front front_now old new = (new ≡ record old { remap_writer = new.remap_writer }) ×
    machines.Unpolled writes.machine client front front_now old.remap_writer new.remap_writer
UnpolledBy parts.Reader client front front_now old new = (new ≡ record old { reader = new.reader }) ×
    machines.Unpolled reads.machine client front front_now old.reader new.reader
UnpolledBy parts.DataWriter client front front_now old new = (new ≡ record old { data_writer = new.data_writer }) ×
    machines.Unpolled writes.machine client front front_now old.data_writer new.data_writer
UnpolledBy parts.Looker client front front_now old new = (new ≡ record old { looker = new.looker }) ×
    machines.Unpolled looks.machine client front front_now old.looker new.looker

-- no call was made: some of the rows that were read are bound, or all are and the inner command didn't begin; or one was made in vain
abbrev pub Unpolled : ℕ → Option History → Option History → Operator → Operator → Type 0
Unpolled client front front_now old new =
    ((front_now ≡ front) × Halts old.course new.course × (new ≡ record old { course = new.course })) ⊎
    ((ready : Operator) × Readies old ready × UnpolledBy (part_of ready.course.step) client front front_now ready new)
