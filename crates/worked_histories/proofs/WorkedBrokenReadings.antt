-- What the bytes of broken histories hold, by computation.
use Rattle.std.proofs.Common.{◌≡◌, Some, None, [], ◌∷◌, refl}
use Rattle.version_codec.specs.Reading.{version_in}
use Rattle.history_core.specs.Readings.{rows_in}
use Rattle.worked_histories.specs.Worked.{the_shard, step4, version1}
use Rattle.worked_histories.specs.WorkedBroken.{forgetful_state, forgetful_version, one_row_to, one_row_state, short_version}
use Rattle.worked_histories.specs.WorkedBroken.{few_version}
use Rattle.worked_histories.specs.WorkedBroken.{two_rows, two_rows_state, two_rows_version, falling_part, heavy_row, heavy_part}
use Rattle.worked_histories.specs.WorkedBroken.{dropping, dropping_state, dropping_version}
use Rattle.worked_histories.proofs.Opened.{opened_versions, opened_parts}

pub reads_forgetful : version_in the_shard 4 forgetful_version ≡ Some (forgetful_state, step4)
unfolding forgetful_version opened_versions
reads_forgetful = refl

pub reads_short : version_in the_shard 4 short_version ≡ Some (one_row_state 1 1, one_row_to 1 1)
unfolding short_version opened_versions
reads_short = refl

pub reads_few : version_in the_shard 4 few_version ≡ Some (one_row_state 10 2, one_row_to 10 2)
unfolding few_version opened_versions
reads_few = refl

pub reads_two_rows : version_in the_shard 4 two_rows_version ≡ Some (two_rows_state, two_rows)
unfolding two_rows_version opened_versions
reads_two_rows = refl

pub reads_dropping : version_in the_shard 6 dropping_version ≡ Some (dropping_state, dropping)
unfolding dropping_version opened_versions
reads_dropping = refl

pub reads_first_join : version_in the_shard 0 version1 ≡ None
unfolding version1 opened_versions
reads_first_join = refl

pub reads_falling : rows_in falling_part ≡ None
unfolding falling_part opened_parts
reads_falling = refl

pub reads_heavy : rows_in heavy_part ≡ Some (heavy_row ∷ [])
unfolding heavy_part opened_parts
reads_heavy = refl
