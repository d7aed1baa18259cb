-- What the rows of a remap shard make of the bindings that are known.
use Rattle.std.specs.Prelude.{⊤, ◌≡◌, ℕ, ℤ, ◌+◌, ◌^◌, Bool, true, false, ◌&&◌}
use Rattle.std.specs.Prelude.{if◌then◌else◌, Option, Some, None, List, [], ◌∷◌, drop, nat_le, nat_lt}
use Rattle.update_core.specs.declared.updates.Update.{Update}
use Rattle.remap_core.specs.Offsets.{offset}
use Rattle.remap_core.specs.RemapShards.{offset_of}
use Rattle.remap_core.specs.Extending.{partition_of, raised, reached, rows_at, with_row, with_rows, UpToTime}
use Rattle.reclock_client.specs.declared.intakes.Intake.{Intake}
use Rattle.reclock_client.specs.declared.intakes.Intake.TheVariants as intakes

-- the datum is one byte
abbrev pub is_one_byte : List ℕ → Bool
is_one_byte [] = false
is_one_byte (p ∷ []) = nat_lt p 256
is_one_byte (p ∷ q ∷ ps) = false

-- a datum with a difference raises one partition, from these offsets to at most 2^48
abbrev pub is_rise : List ℕ → List ℕ → ℤ → Bool
is_rise f datum diff = is_one_byte datum && (nat_lt 0 (offset_of diff) && nat_le (offset f (partition_of datum) + offset_of diff) (2 ^ 48))

-- the offsets after it
abbrev pub risen : List ℕ → List ℕ → ℤ → List ℕ
risen f datum diff = raised f (partition_of datum) (offset_of diff)

-- the time of the first row that raises none
abbrev pub foreign_time : List ℕ → List Update → Option ℕ
foreign_time f [] = None
foreign_time f (u ∷ us) = if is_rise f u.datum u.diff then foreign_time (risen f u.datum u.diff) us else Some u.time

-- from a time on, times don't fall
abbrev pub in_time : ℕ → List Update → Bool
in_time t [] = true
in_time t (u ∷ us) = if nat_le t u.time then in_time u.time us else false

-- the rows that are still to be bound, where the content was read at a since
abbrev pub left : ℕ → Intake → List Update
left since intakes.Nothing = []
left since (intakes.Content rows) = rows_at since rows
left since (intakes.Changes rows done) = drop done rows

-- each row raises a partition of the bindings before it, at a time that none of these is past
abbrev pub AllRaise : List (ℕ × List ℕ) → List Update → Type 0
AllRaise bs [] = ⊤
AllRaise bs (u ∷ us) = UpToTime u.time bs × (is_rise (reached bs) u.datum u.diff ≡ true) ×
    AllRaise (with_row bs u.time (partition_of u.datum) (offset_of u.diff)) us

-- of these rows those that are left are still to be bound: the bindings and these make what all of them make
pub record Binds (since : ℕ) (old : List (ℕ × List ℕ)) (rows : List Update) (new : List (ℕ × List ℕ)) (intake : Intake) : Type 0 where
  pub same : with_rows new (left since intake) ≡ with_rows old rows
  pub raise : AllRaise new (left since intake)
