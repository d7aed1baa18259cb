-- Which steps an operator's open command may have, and who has a member there: so each inner command can be begun.
use Rattle.std.specs.Prelude.{⊤, ◌≡◌, ℕ, ◌≤◌, Bool, true, false, Option, Some, None, IfSome, IsSome, length}
use Rattle.update_core.specs.Frontiers.{after, covers}
use Rattle.history_core.specs.declared.asked.Asked.{Asked}
use Rattle.reclock_client.specs.declared.courses.Course.{Course}
use Rattle.reclock_client.specs.declared.errands.Errand.{Errand}
use Rattle.reclock_client.specs.declared.errands.Errand.TheVariants as errands
use Rattle.reclock_client.specs.declared.operators.Operator.{Operator}
use Rattle.reclock_client.specs.declared.steps.Step.{Step}
use Rattle.reclock_client.specs.declared.steps.Step.TheVariants as steps

-- ---- who has a member

-- the members of the three clients, what the reader is asked, and where its listen stands
pub record Clients : Type 0 where
  pub remap_member : Option ℕ
  pub reader_member : Option ℕ
  pub data_member : Option ℕ
  pub asked : Option Asked
  pub listen : Option (Option ℕ)

abbrev pub clients : Operator → Clients
clients o = record {
  remap_member = o.remap_writer.member;
  reader_member = o.reader.member;
  data_member = o.data_writer.member;
  asked = o.reader.asked;
  listen = o.reader.listen;
}

abbrev pub HasAll : Clients → Type 0
HasAll k = IsSome k.remap_member × IsSome k.reader_member × IsSome k.data_member

-- ---- the steps of a command

-- what is known of the remap shard: up to where it was read, whether a listen goes on from there, and the reader's since
pub record Heard : Type 0 where
  pub since : ℕ
  pub synced : Option ℕ
  pub listens : Bool

abbrev pub heard : Course → Heard
heard c = record { since = c.since; synced = c.synced; listens = c.listens }

-- the remap shard is read: a content, then a listen from its since, whose steps go on
abbrev pub Reads : Clients → Heard → Step → Type 0
Reads k h steps.Snapshot = HasAll k × (h.listens ≡ false)
Reads k h steps.Listen = HasAll k × (h.listens ≡ false) × (h.synced ≡ after h.since) × IfSome k.asked (λ asked. k.listen ≡ Some h.synced)
Reads k h steps.Next = HasAll k × (h.listens ≡ true)
Reads k h other = ⊥

-- What holds at a step of a command, and that it has no other steps. A mint appends from an upper that isn't above its time, a publish
-- from one below the synced frontier; a writer whose tokens are spent leaves and joins again.
abbrev pub Takes : Clients → Heard → Errand → Step → Type 0
Takes k h errands.Open steps.JoinRemap = h.listens ≡ false
Takes k h errands.Open steps.JoinReader = IsSome k.remap_member × (h.listens ≡ false)
Takes k h errands.Open steps.JoinData = IsSome k.remap_member × IsSome k.reader_member
Takes k h errands.Open other = ⊥
Takes k h errands.Sync step = Reads k h step
Takes k h (errands.Mint t seen) (steps.AppendRemap from) = HasAll k × (from ≤ t)
Takes k h (errands.Mint t seen) steps.LeaveRemap = HasAll k
Takes k h (errands.Mint t seen) steps.JoinRemap = IsSome k.reader_member × IsSome k.data_member
Takes k h (errands.Mint t seen) other = Reads k h other
Takes k h (errands.Publish rows) steps.Look = HasAll k
Takes k h (errands.Publish rows) (steps.AppendData from) = HasAll k × (covers h.synced from ≡ true)
Takes k h (errands.Publish rows) steps.LeaveData = HasAll k
Takes k h (errands.Publish rows) steps.JoinData = IsSome k.remap_member × IsSome k.reader_member
Takes k h (errands.Publish rows) other = ⊥
Takes k h errands.Close steps.LeaveRemap = HasAll k
Takes k h errands.Close steps.LeaveReader = IsSome k.reader_member × IsSome k.data_member
Takes k h errands.Close steps.LeaveData = IsSome k.data_member
Takes k h errands.Close other = ⊥

-- ---- at a step

-- where a listen goes on, it stands at the synced frontier
abbrev pub Listens : Clients → Heard → Type 0
Listens k h = h.listens ≡ true → k.listen ≡ Some h.synced

-- a publish has as many rows as an append may
abbrev pub IsFew : Errand → Type 0
IsFew (errands.Publish rows) = length rows ≤ 65536
IsFew other = ⊤

-- a command is open
pub record Serves (k : Clients) (h : Heard) (errand : Errand) (step : Step) : Type 0 where
  pub takes : Takes k h errand step
  pub listens : Listens k h
  pub few : IsFew errand

-- a command may begin
pub record Waits (k : Clients) (h : Heard) : Type 0 where
  pub all : HasAll k
  pub listens : Listens k h

abbrev pub TurnBy : Clients → Heard → Option Errand → Step → Bool → Type 0
TurnBy k h (Some errand) step joined = Serves k h errand step
TurnBy k h None step true = Waits k h
TurnBy k h None step false = ⊤

abbrev pub Turn : Clients → Course → Type 0
Turn k c = TurnBy k (heard c) c.errand c.step c.joined

-- an operator is at a step of its command, or waits for one
abbrev pub AtStep : Operator → Type 0
AtStep o = Turn (clients o) o.course
