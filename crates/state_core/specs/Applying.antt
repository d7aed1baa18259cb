-- What applying a transition tells: where it takes memory, and why it is refused.
use Rattle.std.specs.Prelude.{◌≡◌, ◌⊎◌, Bool, true, false, Some, None}
use Rattle.state_core.specs.declared.transitions.Transition.{Transition}
use Rattle.state_core.specs.declared.transitions.Transition.TheVariants.{Join, Append, Merge}
use Rattle.state_core.specs.declared.refusals.Refusal.{Refusal}
use Rattle.state_core.specs.declared.refusals.Refusal.TheVariants.{Memory}
use Rattle.state_core.specs.Refusals.{refusal_of}
use Rattle.state_core.specs.States.{ShardState}

-- whether a transition brings a member or a batch, for which memory is taken
abbrev pub takes_memory : Transition → Bool
takes_memory (Join kind now lease) = true
takes_memory (Append member token expected new parts rows weight) = true
takes_memory (Merge member token left right merged) = true
takes_memory _ = false

-- whether a transition brings a batch
abbrev pub brings_batch : Transition → Bool
brings_batch (Append member token expected new parts rows weight) = true
brings_batch (Merge member token left right merged) = true
brings_batch _ = false

-- the transition meets this refusal, or it meets none and memory for what it brings was refused
abbrev pub IsRefusal : ShardState → Transition → Refusal → Type 0
IsRefusal s x r = (refusal_of s x ≡ Some r) ⊎ ((refusal_of s x ≡ None) × (takes_memory x ≡ true) × (r ≡ Memory))
