-- What the bytes of a part hold.
use Rattle.std.specs.Prelude.{ℕ, List, Option, None, if◌then◌else◌}
use Rattle.std.specs.Result.{result_ok}
use Rattle.update_core.specs.declared.updates.Update.{Update}
use Rattle.byte_core.specs.ByteLists.{are_bytes}
use Rattle.part_codec.specs.Reading.{all_of}

-- the rows of a part, where the bytes are one
unfoldable pub rows_in : List ℕ → Option (List Update)
rows_in bytes = if are_bytes bytes then result_ok (all_of bytes) else None
