-- Words that open the reading of versions and of parts: to name one on an `unfolding` line lets that reading compute.
use Rattle.std.specs.Prelude.{⊤}
use Rattle.version_codec.specs.Versions.{number_bytes}
use Rattle.version_codec.specs.Reading.{number_at, magic_at, form_at, limited_at, frontier_at, time_at, kind_at, below_at, one_at}
use Rattle.version_codec.specs.Reading.{two_at, join_at}
use Rattle.version_codec.specs.Reading.{head_at, all_members_at, member_count_at, members_at, member_at, joined_at}
use Rattle.version_codec.specs.Reading.{all_batches_at, batch_count_at, batches_at, batch_at, lower_at, upper_at}
use Rattle.version_codec.specs.Reading.{part_count_at, keys_at, key_at, index_at}
use Rattle.version_codec.specs.Reading.{step_at, whole_step_at, fields_at, append_at, merge_at, counted_keys_at}
use Rattle.version_codec.specs.Reading.{step_keys_at, step_key_at, step_batch_at}
use Rattle.version_codec.specs.Reading.{state_at, read_version, version_in}
use Rattle.part_codec.specs.Reading.{magic_at as part_magic_at, form_at as part_form_at, count_at, length_at, datum_at, bits_at}
use Rattle.part_codec.specs.Reading.{fields_at as row_fields_at, row_at, rows_at, all_of}
use Rattle.history_core.specs.Readings.{rows_in}

-- the reading of fields
unfoldable pub opened_fields : ⊤
unfolding number_bytes number_at magic_at form_at limited_at frontier_at time_at kind_at below_at one_at two_at join_at
opened_fields = tt

-- the reading of members
unfoldable pub opened_members : ⊤
unfolding head_at all_members_at member_count_at members_at member_at joined_at
opened_members = tt

-- the reading of batches
unfoldable pub opened_batches : ⊤
unfolding all_batches_at batch_count_at batches_at batch_at lower_at upper_at part_count_at keys_at key_at index_at
opened_batches = tt

-- the reading of transitions
unfoldable pub opened_steps : ⊤
unfolding step_at whole_step_at fields_at append_at merge_at counted_keys_at step_keys_at step_key_at step_batch_at
opened_steps = tt

-- the reading of a version
unfoldable pub opened_versions : ⊤
unfolding version_in read_version state_at opened_fields opened_members opened_batches opened_steps
opened_versions = tt

-- the reading of a part
unfoldable pub opened_parts : ⊤
unfolding rows_in all_of rows_at row_at row_fields_at bits_at datum_at length_at count_at part_form_at part_magic_at
opened_parts = tt
