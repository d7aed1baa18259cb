-- How an append of an operator's inner writer begins.
use Rattle.std.specs.Prelude.{⊤, ◌≡◌, ℕ, Option, Some, None, Result, Ok, Err, List}
use Rattle.std.specs.declared.alloc.AllocError.{AllocError}
use Rattle.update_core.specs.declared.updates.Update.{Update}
use Rattle.load_core.specs.declared.begin_faults.BeginFault.{BeginFault}
use Rattle.load_core.specs.declared.begin_faults.BeginFault.TheVariants as faults
use Rattle.write_client.specs.declared.writers.Writer.{Writer}
use Rattle.write_client.specs.Beginning.{Appending, append_fault}
use Rattle.reclock_client.specs.declared.starting.Begun.{Begun}
use Rattle.reclock_client.specs.declared.starting.Begun.TheVariants as begun

-- nothing stands against an append, or no more than that no token is left
abbrev pub MayAppend : Option BeginFault → Type 0
MayAppend None = ⊤
MayAppend (Some faults.TokensSpent) = ⊤
MayAppend (Some other) = ⊥

-- an append is begun; or no token is left for it, or memory was refused, and all is as it was
abbrev pub StartsAppend : List Update → ℕ → Option ℕ → Writer → Writer → Result Begun AllocError → Type 0
StartsAppend rows from to old new (Ok begun.Yes) = (append_fault old rows from to ≡ None) × Appending old rows from to new
StartsAppend rows from to old new (Ok begun.Spent) = (append_fault old rows from to ≡ Some faults.TokensSpent) × (new ≡ old)
StartsAppend rows from to old new (Err e) = new ≡ old
