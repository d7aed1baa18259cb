-- What each line of a schedule does. Entries go newest first.
use Rattle.std.specs.Prelude.{◌≡◌, ℕ, Option, Result, Ok, Err, List, [], ◌∷◌, ◌++◌, length, slice_index_or}
use Rattle.update_core.specs.declared.updates.Update.{Update}
use Rattle.store_core.specs.declared.shards.ShardId.{ShardId}
use Rattle.store_core.specs.declared.versions.Version.{Version}
use Rattle.store_core.specs.declared.calls.Call.TheVariants as calls
use Rattle.store_core.specs.declared.replies.Reply.TheVariants as replies
use Rattle.store_core.specs.declared.entries.Entry.{Entry}
use Rattle.store_core.specs.Stores.{Stored}
use Rattle.store_core.specs.Histories.{reply}
use Rattle.store_core.specs.Newest.{replay_back}
use Rattle.step_text.specs.declared.commands.Command.{Command}
use Rattle.step_text.specs.declared.makes.Made.{Made}
use Rattle.step_text.specs.declared.step_lines.StepLine.{StepLine}
use Rattle.step_text.specs.declared.step_lines.StepLine.TheVariants as lines
use Rattle.step_run.specs.declared.clients.Client.{Client}
use Rattle.step_run.specs.declared.entered.Entered.{Entered}
use Rattle.step_run.specs.declared.heard.Heard.{Heard}
use Rattle.step_run.specs.declared.heard.Heard.TheVariants as hears
use Rattle.step_run.specs.declared.sayings.Saying.{Saying}
use Rattle.step_run.specs.declared.scenes.Scene.{Scene}
use Rattle.step_run.specs.declared.step_faults.StepFault.{StepFault}
use Rattle.step_run.specs.declared.stepping.Stepped.{Stepped}
use Rattle.step_run.specs.Begins.{ClientBegins}
use Rattle.step_run.specs.Clients.{Becomes}
use Rattle.step_run.specs.Faults.{FailedBy}
use Rattle.step_run.specs.Makes.{Makes}
use Rattle.step_run.specs.Kinds.{ClientPolls}
use Rattle.step_run.specs.Sayings.{fault_lines, head_text, said_text}

-- the clients and the moment between two lines
pub record Sitting : Type 0 where
  pub clients : List Client
  pub moment : ℕ

abbrev pub sitting : Scene → Sitting
sitting s = record { clients = s.clients.items; moment = s.moment }

-- ---- what is printed

-- a client's name
abbrev pub name_at : List (List ℕ) → ℕ → List ℕ
name_at names n = slice_index_or names n []

abbrev pub heard_text : List (List ℕ) → Heard → List ℕ
heard_text names (hears.Client number faults said) = fault_lines (name_at names number) faults ++ said_text (name_at names number) said
heard_text names (hears.Head last) = head_text last
heard_text names hears.Nothing = []

-- ---- what is done

-- a client is made, and has the next number
pub record MakesAt (shard : ShardId) (moment : ℕ) (made : Made) (cs ds : List Client) (heard : Heard) (list : List Update) (start : Stored)
    (es now : List Entry) : Type 0 where
  pub entered : Entered
  pub makes : Makes shard moment made (length cs) entered list start es now
  pub next : ds ≡ cs ++ entered.client ∷ []
  pub heard_is : heard ≡ hears.Client (length cs) 0 entered.said

-- the client with a number begins a command, without a call
pub record BeginsOne (moment number : ℕ) (what : Command) (heard : Heard) (c d : Client) : Type 0 where
  pub said : Option Saying
  pub begins : ClientBegins moment c what d said
  pub heard_is : heard ≡ hears.Client number 0 said

abbrev pub BeginsAt : ℕ → ℕ → Command → List Client → List Client → Heard → Type 0
BeginsAt moment number what cs ds heard = Becomes (BeginsOne moment number what heard) (heard ≡ hears.Nothing) number cs ds

-- the client with a number is polled, and nobody else
pub record StepsOne (number polls : ℕ) (heard : Heard) (list : List Update) (start : Stored) (es now : List Entry) (c d : Client) : Type 0 where
  pub stepped : Stepped Saying
  pub steps : ClientPolls number polls c d stepped list start es now
  pub heard_is : heard ≡ hears.Client number stepped.faults stepped.answer

abbrev pub StepsAt : ℕ → ℕ → List Client → List Client → Heard → List Update → Stored → List Entry → List Entry → Type 0
StepsAt number polls cs ds heard list start es now =
    Becomes (StepsOne number polls heard list start es now) ((heard ≡ hears.Nothing) × (now ≡ es)) number cs ds

-- one Head has come, and shows this version
pub record Heads (shard : ShardId) (client : ℕ) (heard : Heard) (start : Stored) (es now : List Entry) : Type 0 where
  pub entry : Entry
  pub split : now ≡ entry ∷ es
  pub own : entry.client ≡ client
  pub call : entry.call ≡ calls.Head shard
  pub last : Option Version
  pub answer : reply (replay_back start es) entry ≡ replies.Version last
  pub heard_is : heard ≡ hears.Head last

-- what a line does; a Head is asked as the client `heads`
abbrev pub Does : ShardId → ℕ → StepLine → Sitting → Sitting → Heard → List Update → Stored → List Entry → List Entry → Type 0
Does shard heads (lines.Make made) s t heard list start es now =
    MakesAt shard s.moment made s.clients t.clients heard list start es now × (t.moment ≡ s.moment)
Does shard heads (lines.Moment to) s t heard list start es now =
    (t ≡ record { clients = s.clients; moment = to }) × (heard ≡ hears.Nothing) × (now ≡ es)
Does shard heads (lines.Begin client what) s t heard list start es now =
    BeginsAt s.moment client what s.clients t.clients heard × (t.moment ≡ s.moment) × (now ≡ es)
Does shard heads (lines.Step client polls) s t heard list start es now =
    StepsAt client polls s.clients t.clients heard list start es now × (t.moment ≡ s.moment)
Does shard heads (lines.Stop client) s t heard list start es now = (t ≡ s) × (heard ≡ hears.Nothing) × (now ≡ es)
Does shard heads lines.Head s t heard list start es now = Heads shard heads heard start es now × (t ≡ s)

-- the same where it may have failed
abbrev pub OrFails : ShardId → (Heard → List Update → Stored → List Entry → List Entry → Type 0) → Result Heard StepFault → List Update → Stored →
    List Entry → List Entry → Type 0
OrFails shard how (Ok heard) list start es now = how heard list start es now
OrFails shard how (Err fault) list start es now = FailedBy shard fault start es now

-- how many polls a line asks for
abbrev pub polls_of : StepLine → ℕ
polls_of (lines.Step client polls) = polls
polls_of _ = 0

-- how many clients a line makes
abbrev pub made_of : StepLine → ℕ
made_of (lines.Make made) = 1
made_of _ = 0
