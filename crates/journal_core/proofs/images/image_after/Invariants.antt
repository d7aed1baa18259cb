use Rattle.std.proofs.Common.{◌≡◌, drop}
use Rattle.journal_core.specs.Images.{after_image_calls, first_image}
use Rattle.journal_core.specs.Seen.{seen_image}
use Rattle.journal_core.proofs.images.image_after.Given as goal

abbrev pub invariant-loop-call : goal.invariant-loop-call
invariant-loop-call l = after_image_calls l.written (seen_image l.partial) (drop l.call-index l.calls) ≡ after_image_calls l.written
    (first_image l.written l.bytes) l.calls
