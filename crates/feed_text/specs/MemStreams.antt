-- What a source and a sink in memory keep.
use Rattle.std.specs.Prelude.{ℕ, List, drop}
use Rattle.feed_text.specs.declared.mem_sources.MemSource.{MemSource}
use Rattle.feed_text.specs.declared.mem_sinks.MemSink.{MemSink}

-- the bytes past its place
abbrev pub bytes_left : MemSource → List ℕ
bytes_left s = drop s.place s.bytes.items

-- the numbers of the reads that fail
abbrev pub failing_reads : MemSource → List ℕ
failing_reads s = s.fails

-- the numbers of the puts that fail, and how many puts there were
abbrev pub failing_puts : MemSink → List ℕ
failing_puts s = s.fails

abbrev pub puts_so_far : MemSink → ℕ
puts_so_far s = s.puts
