-- Why a reader's command isn't begun, and what begins otherwise.
use Rattle.std.specs.Prelude.{◌≡◌, ℕ, Option, Some, None, Result, Ok, Err}
use Rattle.state_core.specs.declared.transitions.Transition.{Transition}
use Rattle.history_core.specs.declared.asked.Asked.{Asked}
use Rattle.load_core.specs.declared.begin_faults.BeginFault.{BeginFault}
use Rattle.load_core.specs.declared.begin_faults.BeginFault.TheVariants as faults
use Rattle.load_core.specs.Trying as trying
use Rattle.read_client.specs.declared.readers.Reader.{Reader}
use Rattle.read_machine.specs.Courses as courses
use Rattle.read_client.specs.Asking.{question_of}
use Rattle.read_client.specs.Reading.{own_member, shard_of, unknown}

-- A client has no member before it has joined, and none when it has left, wasn't let in or was found to be gone; then nothing
-- can be asked of it any more.
abbrev pub member_fault : Option Asked → Option ℕ → Option BeginFault
member_fault None None = Some faults.Gone
member_fault None (Some member) = None
member_fault (Some asked) member = Some faults.Open

-- where nothing else stands against it, a next step needs a listen
abbrev pub listen_fault : Option BeginFault → Option (Option ℕ) → Option BeginFault
listen_fault (Some fault) listen = Some fault
listen_fault None None = Some faults.NoListen
listen_fault None (Some f) = None

-- the first reason why a next step isn't begun
abbrev pub next_fault : Reader → Option BeginFault
next_fault r = listen_fault (member_fault r.asked r.member) r.listen

-- a reader with a snapshot or a step begun, with this listen
abbrev pub BeginsRead : Reader → Asked → Option (Option ℕ) → Reader → Type 0
BeginsRead old asked listen new =
    new ≡ record old {
      asked = Some asked;
      listen = listen;
      trying = record old.trying { loader = unknown (shard_of old); calls = 0 };
      reading = record {
        course = courses.begun old.reading.course.getting old.trying.loader
            (own_member old);
        asked = question_of (Some asked) listen;
      };
    }

-- a reader with a change of its member begun
abbrev pub Changing : Reader → Asked → (ℕ → Transition) → Reader → Type 0
Changing old asked step new =
    (member : ℕ) × (old.member ≡ Some member) ×
    (new ≡ record old { asked = Some asked; trying = trying.begun old.trying.loader (step member) })

-- a command may be begun for this member, or not for this reason
abbrev pub MayAsk : Reader → Result ℕ BeginFault → Type 0
MayAsk r (Ok member) = (r.asked ≡ None) × (r.member ≡ Some member)
MayAsk r (Err fault) = member_fault r.asked r.member ≡ Some fault

-- a command is begun exactly where nothing stands against it; else that is told, and all is as it was
abbrev pub Begins : Option BeginFault → Reader → Reader → (Reader → Type 0) → Result Unit BeginFault → Type 0
Begins fault old new begun (Ok done) = (fault ≡ None) × begun new
Begins fault old new begun (Err met) = (fault ≡ Some met) × (new ≡ old)
