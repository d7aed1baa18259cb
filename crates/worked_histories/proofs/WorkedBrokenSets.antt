-- Calls of broken histories that aren't allowed: Sets, and a first version.
use Rattle.std.proofs.Common.{◌≡◌, ◌∙◌, ℕ, [], ◌∷◌, Option, Some, None, inl, refl, sym, ap, subst, arith}
use Rattle.update_core.specs.declared.updates.Update.{Update}
use Rattle.store_core.specs.declared.calls.Call.TheVariants.{Cas, Set}
use Rattle.state_core.specs.declared.transitions.Transition.{Transition}
use Rattle.state_core.specs.declared.transitions.Transition.TheVariants.{Init}
use Rattle.state_core.specs.States.{ShardState}
use Rattle.version_codec.specs.Reading.{version_in}
use Rattle.history_core.specs.Readings.{rows_in}
use Rattle.history_core.specs.Discipline.{SpendsIn, Lawful}
use Rattle.worked_histories.specs.Worked.{the_shard, key, early_row, late_row, early_part, late_part, state0, version1, version4}
use Rattle.worked_histories.specs.WorkedTrail.{did, first_calls}
use Rattle.worked_histories.specs.WorkedBroken.{first_not_init, set_other_bytes, set_after_cas}
use Rattle.history_core.proofs.OneMore.{last_allowed}
use Rattle.worked_histories.proofs.WorkedParted.{one_value}
use Rattle.worked_histories.proofs.WorkedVersions.{reads4}
use Rattle.worked_histories.proofs.WorkedParts.{reads_early, reads_late}
use Rattle.worked_histories.proofs.WorkedBrokenReadings.{reads_first_join}

no_init : version_in the_shard 0 version1 ≡ Some (state0, Init) → ⊥
no_init e = let f : ◌≡◌ {A = Option (ShardState × Transition)} None (Some (state0, Init)) = sym reads_first_join ∙ e in cc

pub first_is_init : Lawful first_not_init → ⊥
first_is_init l = no_init (last_allowed (first_calls 0) (did 0 (Cas the_shard None version1)) l)

one_not_six : ◌≡◌ {A = ℕ} 1 6 → ⊥
one_not_six e = omega arith

early_part_not_late : early_part ≡ late_part → ⊥
early_part_not_late e =
    let f : early_row ∷ [] ≡ late_row ∷ [] =
    one_value (rows_in early_part) (early_row ∷ []) (late_row ∷ []) reads_early (ap rows_in e ∙ reads_late) in
    let g : early_row ≡ late_row = cc in
    one_not_six (ap (λ (u : Update). u.time) g)

pub sets_same : Lawful set_other_bytes → ⊥
sets_same l = early_part_not_late ((last_allowed (first_calls 8) (did 0 (Set (key 0 1) late_part)) l).same.0 refl)

pub spent : SpendsIn (version_in the_shard 4 version4) 0 1
spent = subst (λ (o : Option (ShardState × Transition)). SpendsIn o 0 1) (sym reads4) (refl, refl)

pub sets_before_cas : Lawful set_after_cas → ⊥
sets_before_cas l = (last_allowed (first_calls 9) (did 0 (Set (key 0 1) early_part)) l).fresh (inl (refl, spent))
