-- What the bytes of the worked parts hold, by computation.
use Rattle.std.proofs.Common.{◌≡◌, Some, [], ◌∷◌, refl}
use Rattle.history_core.specs.Readings.{rows_in}
use Rattle.worked_histories.specs.Worked.{early_row, late_row, early_part, late_part, merged_part}
use Rattle.worked_histories.proofs.Opened.{opened_parts}

pub reads_early : rows_in early_part ≡ Some (early_row ∷ [])
unfolding early_part opened_parts
reads_early = refl

pub reads_late : rows_in late_part ≡ Some (late_row ∷ [])
unfolding late_part opened_parts
reads_late = refl

pub reads_merged : rows_in merged_part ≡ Some (early_row ∷ late_row ∷ [])
unfolding merged_part opened_parts
reads_merged = refl
