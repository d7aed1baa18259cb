-- The rows of a mint, and those of a publish.
use Rattle.std.specs.Prelude.{ℕ, ◌-◌, pos, Option, Some, None, List, [], ◌∷◌, nat_lt, if◌then◌else◌}
use Rattle.std.specs.List.{flat_map}
use Rattle.update_core.specs.declared.updates.Update.{Update}
use Rattle.update_core.specs.Frontiers.{after}
use Rattle.update_core.specs.Updates.{slice_of}
use Rattle.remap_core.specs.Offsets.{offset}
use Rattle.remap_core.specs.Extending.{reached}
use Rattle.remap_core.specs.Reclocking.{reclocked}
use Rattle.remap_core.specs.RemapShards.{partitions}
use Rattle.reclock_client.specs.declared.errands.Errand.{Errand}
use Rattle.reclock_client.specs.declared.errands.Errand.TheVariants as errands

-- the row at a time that raises a partition to the greater of what was reached and what was seen; none where that is reached
abbrev pub rise_of : ℕ → List ℕ → List ℕ → ℕ → List Update
rise_of t had seen p =
    if nat_lt (offset had p) (offset seen p) then record { datum = p ∷ []; time = t; diff = pos (offset seen p - offset had p) } ∷ []
    else []

-- the rows of all partitions
abbrev pub rises : ℕ → List ℕ → List ℕ → List Update
rises t had seen = flat_map (rise_of t had seen) partitions

-- the rows of a mint, under these bindings, and the frontier up to which they are
abbrev pub mint_rows : List (ℕ × List ℕ) → Option Errand → Option (List Update × Option ℕ)
mint_rows bs (Some (errands.Mint t seen)) = Some (rises t (reached bs) seen, after t)
mint_rows bs other = None

-- the same of a publish, from an upper on and up to the synced frontier
abbrev pub slice_rows : List (ℕ × List ℕ) → Option ℕ → Option Errand → ℕ → Option (List Update × Option ℕ)
slice_rows bs synced (Some (errands.Publish rows)) from = Some (slice_of (reclocked rows bs 0) (Some from) synced, synced)
slice_rows bs synced other from = None
