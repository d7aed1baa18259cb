-- Parts that are set, and then a transition that is tried: what comes next, and what a reply makes of it.
use Rattle.std.specs.Prelude.{◌≡◌, Bool, true, false, nat_lt, if◌then◌else◌, Option, Some, [], length}
use Rattle.store_core.specs.declared.calls.Call.{Call}
use Rattle.store_core.specs.declared.replies.Reply.{Reply}
use Rattle.state_core.specs.declared.transitions.Transition.{Transition}
use Rattle.load_core.specs.declared.nexts.Next.{Next}
use Rattle.load_core.specs.declared.nexts.Next.TheVariants as nexts
use Rattle.load_core.specs.declared.progresses.Progress.{Progress}
use Rattle.load_core.specs.declared.progresses.Progress.TheVariants as progresses
use Rattle.load_core.specs.declared.settings.Setting.{Setting}
use Rattle.load_core.specs.declared.tries.Tried.{Tried}
use Rattle.load_core.specs.declared.tries.Tried.TheVariants as tries
use Rattle.load_core.specs.declared.tryings.Trying.{Trying}
use Rattle.load_core.specs.Loading.{Loading}
use Rattle.load_core.specs.Setting as setting
use Rattle.load_core.specs.Trying as trying
use Rattle.token_machine.specs.declared.storings.Storing.{Storing}

-- no part
abbrev pub no_parts : Setting
no_parts = record { keys = []; parts = []; place = 0 }

-- a transition that hasn't been tried, and its parts
abbrev pub begun : Loading → Transition → Setting → Storing
begun l x parts = record { trying = trying.begun l x; setting = parts }

-- the same within a command
abbrev pub resumed : Storing → Transition → Setting → Storing
resumed s x parts = record { trying = trying.resumed s.trying x; setting = parts }

-- one more call was made, and the transition is to be tried again after a Scan
abbrev pub called : Storing → Storing
called s = record { trying = trying.called s.trying; setting = s.setting }

-- what it holds besides any history
pub record IsSound (s : Storing) : Type 0 where
  pub trying : trying.IsSound s.trying
  pub setting : setting.IsSound s.setting

-- whether a part is left to be set before what comes next
abbrev pub sets_before : Next → Setting → Bool
sets_before nexts.Attempt s = false
sets_before nexts.Scan s = false
sets_before (nexts.Cas r) s = nat_lt s.place (length s.keys)

-- whether a part is set next
abbrev pub sets : Storing → Bool
sets s = sets_before s.trying.next s.setting

-- the call that comes next
abbrev pub call_of : Storing → Option Call
call_of s = if sets s then setting.call_of s.setting else Some (trying.call_of s.trying)

-- the transition was tried on the state that is known, where that comes next
abbrev pub Prepares : Storing → Storing → Type 0
Prepares old new = (t : Trying) × trying.Prepares old.trying t × (new ≡ record { trying = t; setting = old.setting })

-- one more call was made
abbrev pub counted : Trying → Trying
counted t = record t { calls = trying.more t.calls }

-- a part that was set goes on
abbrev pub set_tried : Progress → Tried
set_tried progresses.More = tries.Goes
set_tried progresses.Done = tries.Goes
set_tried progresses.Fault = tries.Fault

-- what a reply to a Set comes to
abbrev pub MovesAfterSet : Storing → Reply → Storing → Tried → Type 0
MovesAfterSet old reply new tried =
    (s : Setting) × (progress : Progress) × setting.Moves old.setting reply s progress ×
    (new ≡ record { trying = counted old.trying; setting = s }) × (tried ≡ set_tried progress)

-- what a reply to a call of the transition comes to
abbrev pub MovesAfterTry : Storing → Reply → Storing → Tried → Type 0
MovesAfterTry old reply new tried =
    (t : Trying) × trying.Moves old.trying reply t tried × (new ≡ record { trying = t; setting = old.setting })

-- what a reply to the next call comes to, a Set or not
abbrev pub MovesBy : Bool → Storing → Reply → Storing → Tried → Type 0
MovesBy true old reply new tried = MovesAfterSet old reply new tried
MovesBy false old reply new tried = MovesAfterTry old reply new tried

abbrev pub Moves : Storing → Reply → Storing → Tried → Type 0
Moves old reply new tried = MovesBy (sets old) old reply new tried
