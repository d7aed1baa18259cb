use Rattle.std.proofs.Common.{◌≡◌, ◌-◌, None}
use Rattle.store_core.specs.Stores.{last_of}
use Rattle.part_codec.specs.Reading.{rows_at}
use Rattle.part_codec.proofs.Loop.{with_front}
use Rattle.part_codec.proofs.decoding.next_rows.Given as goal

abbrev pub invariant-loop : goal.invariant-loop
invariant-loop l = with_front l.rows (rows_at l.total (l.count - l.counter) (last_of l.rows) l.rest) ≡ rows_at l.total l.count None l.bytes
