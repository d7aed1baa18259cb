use Rattle.std.proofs.Common.{List, ℕ, ◌+◌, ap, subst, length, length-take, arith}
use Rattle.std.proofs.lemmas.Result.{err_from_is_err_and}
use Rattle.feed_text.specs.declared.limits.TheConstants.{MAX_BYTES}
use Rattle.feed_text.specs.Faults.{StopsAt}
use Rattle.feed_text.specs.Lines.{lines_of}
use Rattle.feed_text.proofs.TakenLines.{fault_at_stop}
use Rattle.feed_text.proofs.parsing.parse_feed.Goals as goal

pub read_lines-requires : goal.read_lines-requires
read_lines-requires c = omega (arith, ap length c.looked_at.ensures, length-take (MAX_BYTES + 1) c.args.bytes.now)

pub returns-in_err-reader-clause-fault : goal.returns-in_err-reader-clause-fault
returns-in_err-reader-clause-fault c =
    let fault = c.in_err-reader.field-0.0 in
    let stop = subst (λ (t : List ℕ). StopsAt (lines_of t) fault) c.looked_at.ensures c.in_err-reader.ensures.fault in
    let p = err_from_is_err_and c.from_residual.result c.from_residual.ensures.1 in
    rw (p.1, p.2) (fault_at_stop c.args.bytes.now fault stop)
