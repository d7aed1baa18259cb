use Rattle.std.proofs.Common.{[]}
use Rattle.std.proofs.lemmas.Result.{err_from_is_err_and}
use Rattle.version_codec.specs.Reading.{step_key_at, step_keys_at}
use Rattle.version_codec.proofs.Loops.{goes_on, ends, is_done}
use Rattle.version_codec.proofs.MemberLoops.{with_key, step_keys_read}
use Rattle.version_codec.proofs.steps.next_keys.Goals as goal

pub returns-in_err-key : goal.returns-in_err-key
returns-in_err-key c =
    let total = c.args.total in
    let shard = c.args.shard in
    let p = err_from_is_err_and c.from_residual.result c.from_residual.ensures.1 in
    rw (p.1, p.2)
    (ends (step_keys_at total shard) (λ ks n bytes. step_key_at total shard bytes) with_key (step_keys_read total shard) c.in_err-key.field-0.0 c.loop.keys c.args.count c.loop.counter c.loop.rest.now
    (step_keys_at total shard [] c.args.count c.args.bytes.now) c.loop-test.true c.in_err-key.ensures c.loop.invariant)

pub loop-preserved : goal.loop-preserved
loop-preserved c =
    let total = c.args.total in
    let shard = c.args.shard in
    rw c.in_ok-push.ensures.ok
    (goes_on (step_keys_at total shard) (λ ks n bytes. step_key_at total shard bytes) with_key (step_keys_read total shard) c.loop.keys c.args.count c.loop.counter c.loop.rest.now c.in_ok-key.key c.in_ok-key.after.now
    (step_keys_at total shard [] c.args.count c.args.bytes.now) c.loop-test.true c.in_ok-key.ensures c.loop.invariant)

pub returns : goal.returns
returns c =
    let total = c.args.total in
    let shard = c.args.shard in
    is_done (step_keys_at total shard) (λ ks n bytes. step_key_at total shard bytes) with_key (step_keys_read total shard) c.loop.keys c.args.count c.loop.counter c.loop.rest.now
    (step_keys_at total shard [] c.args.count c.args.bytes.now) c.loop-test.false c.loop.invariant
