use Rattle.std.proofs.Common.{◌+◌, sym, arith}
use Rattle.std.proofs.lemmas.List.{take_all}
use Rattle.feed_text.specs.declared.limits.TheConstants.{MAX_BYTES}
use Rattle.feed_text.proofs.parsing.looked_at.Goals as goal

pub returns-else-bytes-gt-MAX_BYTES : goal.returns-else-bytes-gt-MAX_BYTES
returns-else-bytes-gt-MAX_BYTES c = sym (take_all (MAX_BYTES + 1) c.args.bytes.now (omega arith))
