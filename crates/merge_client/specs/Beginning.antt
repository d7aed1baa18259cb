-- Why a compactor's command isn't begun, and what begins otherwise.
use Rattle.std.specs.Prelude.{◌≡◌, ℕ, ◌+◌, ◌==◌, if◌then◌else◌, Option, Some, None, Result, Ok, Err}
use Rattle.state_core.specs.declared.transitions.Transition.{Transition}
use Rattle.state_core.specs.declared.transitions.Transition.TheVariants.{Init}
use Rattle.update_core.specs.Limits.{most}
use Rattle.history_core.specs.declared.asked.Asked.{Asked}
use Rattle.history_core.specs.declared.asked.Asked.TheVariants as asks
use Rattle.load_core.specs.declared.begin_faults.BeginFault.{BeginFault}
use Rattle.load_core.specs.declared.begin_faults.BeginFault.TheVariants as faults
use Rattle.read_machine.specs.Courses as courses
use Rattle.token_machine.specs.Storings.{begun, no_parts}
use Rattle.merge_client.specs.declared.compactors.Compactor.{Compactor}
use Rattle.merge_client.specs.Merging.{shard_of, unknown}

-- A client has no member before it has joined, and none when it has left, wasn't let in or was found to be gone; then nothing
-- can be asked of it any more.
abbrev pub member_fault : Option Asked → Option ℕ → Option BeginFault
member_fault None None = Some faults.Gone
member_fault None (Some member) = None
member_fault (Some asked) member = Some faults.Open

-- where nothing else stands against it, a merge needs a token
abbrev pub token_fault : Option BeginFault → ℕ → Option BeginFault
token_fault (Some fault) token = Some fault
token_fault None token = if token == most then Some faults.TokensSpent else None

-- the first reason why a merge isn't begun
abbrev pub merge_fault : Compactor → Option BeginFault
merge_fault c = token_fault (member_fault c.asked c.member) c.token

-- a command may be begun for this member, or not for this reason
abbrev pub MayAsk : Compactor → Result ℕ BeginFault → Type 0
MayAsk c (Ok member) = (c.asked ≡ None) × (c.member ≡ Some member)
MayAsk c (Err fault) = member_fault c.asked c.member ≡ Some fault

-- A compactor with a merge begun: its token is drawn, and the pair that is due is read from the newest state that was seen, while
-- nothing is tried.
abbrev pub Merging : Compactor → Compactor → Type 0
Merging old new =
    (member : ℕ) × (old.member ≡ Some member) ×
    (new ≡ record old {
      asked = Some asks.Merge;
      token = old.token + 1;
      storing = begun (unknown (shard_of old)) Init no_parts;
      reading = record {
        course = courses.begun old.reading.course.getting old.storing.trying.loader member;
        asked = Some
            (record {});
      };
    })

-- a compactor with a change of its member begun
abbrev pub Changing : Compactor → Asked → (ℕ → Transition) → Compactor → Type 0
Changing old asked step new =
    (member : ℕ) × (old.member ≡ Some member) ×
    (new ≡ record old { asked = Some asked; storing = begun old.storing.trying.loader (step member) no_parts })

-- a command is begun exactly where nothing stands against it; else that is told, and all is as it was
abbrev pub Begins : Option BeginFault → Compactor → Compactor → (Compactor → Type 0) → Result Unit BeginFault → Type 0
Begins fault old new begun (Ok done) = (fault ≡ None) × begun new
Begins fault old new begun (Err met) = (fault ≡ Some met) × (new ≡ old)
