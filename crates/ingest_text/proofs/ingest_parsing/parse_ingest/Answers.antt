use Rattle.std.proofs.Common.{◌+◌, ap, length, length-take, arith}
use Rattle.feed_text.specs.declared.limits.TheConstants.{MAX_BYTES}
use Rattle.ingest_text.proofs.ingest_parsing.parse_ingest.Goals as goal

pub read_lines-requires : goal.read_lines-requires
read_lines-requires c = omega (arith, ap length c.looked_at.ensures, length-take (MAX_BYTES + 1) c.args.bytes.now)
