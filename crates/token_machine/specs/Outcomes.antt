-- What a command that stores parts under a token comes to.
use Rattle.std.specs.Prelude.{⊤, ◌≡◌, ℕ, ◌==◌, ◌&&◌, if◌then◌else◌, unwrap_or}
use Rattle.state_core.specs.declared.refusals.Refusal.{Refusal}
use Rattle.state_core.specs.declared.refusals.Refusal.TheVariants as refusals
use Rattle.load_core.specs.declared.tries.Tried.{Tried}
use Rattle.load_core.specs.declared.tries.Tried.TheVariants as tries
use Rattle.load_core.specs.declared.tryings.Trying.{Trying}
use Rattle.token_machine.specs.declared.storeds.Stored.{Stored}
use Rattle.token_machine.specs.declared.storeds.Stored.TheVariants as storeds

-- the member's token is this one or a later one
abbrev pub IsTokenOld : Refusal → Type 0
IsTokenOld (refusals.TokenOld last) = ⊤
IsTokenOld _ = ⊥

-- A refusal. Where the member's token is this one already, a call that failed has spent it: the last Cas.
abbrev pub token_outcome : Trying → ℕ → Refusal → Stored
token_outcome t token (refusals.TokenOld last) =
    if (last == token) && t.failed then storeds.Before (unwrap_or t.tried 0) else storeds.Strange
token_outcome t token refusal = storeds.Refused refusal

-- what a try comes to
abbrev pub stored : Trying → ℕ → Tried → Stored
stored t token (tries.Committed version) = storeds.Now version
stored t token tries.Begun = storeds.Going
stored t token tries.Again = storeds.Going
stored t token tries.Goes = storeds.Going
stored t token tries.Fault = storeds.Fault
stored t token (tries.Refused refusal) = token_outcome t token refusal
stored t token tries.Spent = storeds.Spent
stored t token (tries.Damaged damage) = storeds.Damaged damage

-- the transition is in as this version
abbrev pub IsInAs : Stored → ℕ → Type 0
IsInAs (storeds.Now at) version = at ≡ version
IsInAs (storeds.Before at) version = at ≡ version
IsInAs _ version = ⊥
