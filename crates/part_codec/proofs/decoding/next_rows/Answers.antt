use Rattle.std.proofs.Common.{None}
use Rattle.std.proofs.lemmas.Result.{err_from_is_err_and}
use Rattle.part_codec.specs.Reading.{rows_at}
use Rattle.part_codec.proofs.Loop.{goes_on, ends, is_done}
use Rattle.part_codec.proofs.decoding.next_rows.Goals as goal

pub returns-in_err-row : goal.returns-in_err-row
returns-in_err-row c =
    let p = err_from_is_err_and c.from_residual-in_err-row.result c.from_residual-in_err-row.ensures.1 in
    rw (p.1, p.2) (ends c.args.total c.in_err-row.field-0.0 c.loop.rows c.args.count c.loop.counter c.loop.rest.now (rows_at c.args.total c.args.count None c.args.bytes.now) c.loop-test.true c.in_err-row.ensures c.loop.invariant)

pub loop-preserved : goal.loop-preserved
loop-preserved c =
    let n = c.in_ok-row.row in
    rw c.in_ok-push.ensures.ok (goes_on c.args.total c.loop.rows c.args.count c.loop.counter c.loop.rest.now n c.in_ok-row.after.now (rows_at c.args.total c.args.count None c.args.bytes.now) c.loop-test.true c.in_ok-row.ensures c.loop.invariant)

pub returns : goal.returns
returns c = is_done c.args.total c.loop.rows c.args.count c.loop.counter c.loop.rest.now (rows_at c.args.total c.args.count None c.args.bytes.now) c.loop-test.false c.loop.invariant
