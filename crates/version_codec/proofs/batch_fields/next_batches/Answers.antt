use Rattle.std.proofs.Common.{◌==◌, Bool, sym, ap, subst, ◌∙◌, arith}
use Rattle.std.proofs.lemmas.Result.{err_from_is_err_and}
use Rattle.state_core.specs.Drafts.{drafted}
use Rattle.version_codec.specs.Reading.{Fails, batch_at, batches_at, with_batch}
use Rattle.version_codec.proofs.BatchRules.{rows_of-push, keys_of-push}
use Rattle.version_codec.proofs.Loops.{goes_on, ends, is_done}
use Rattle.version_codec.proofs.MemberLoops.{batches_read, last_test}
use Rattle.version_codec.proofs.batch_fields.next_batches.Goals as goal

pub returns-in_err-batch : goal.returns-in_err-batch
returns-in_err-batch c =
    let total = c.args.total in
    let s = drafted c.loop-i.draft in
    let p = err_from_is_err_and c.from_residual.result c.from_residual.ensures.1 in
    rw (p.1, p.2)
    (ends (batches_at total) (λ s n bytes. batch_at total s (n == 0) bytes) with_batch (batches_read total) c.in_err-batch.field-0.0 s c.args.count c.loop-i.i c.loop-i.rest.now
    (batches_at total (drafted c.args.draft) c.args.count c.args.bytes.now) c.loop-i-test.true
    (subst (λ (b : Bool). Fails c.in_err-batch.field-0.0 (batch_at total s b c.loop-i.rest.now)) (last_test c.loop-i.i c.args.count c.loop-i-test.true) c.in_err-batch.ensures.read) c.loop-i.invariant.read)

pub loop-i-preserved : goal.loop-i-preserved
loop-i-preserved c =
    let total = c.args.total in
    let s = drafted c.loop-i.draft in
    let b = c.in_ok-batch.batch in
    let left = c.loop-i.invariant.left in
    let push = rows_of-push c.loop-i.draft.spine b in
    record {
      read = rw c.in_ok-put_batch.ensures.ok
          (goes_on (batches_at total) (λ s n bytes. batch_at total s (n == 0) bytes) with_batch (batches_read total) s c.args.count c.loop-i.i c.loop-i.rest.now b c.in_ok-batch.after.now
          (batches_at total (drafted c.args.draft) c.args.count c.args.bytes.now) c.loop-i-test.true
          (ap (λ (l : Bool). batch_at total s l c.loop-i.rest.now) (sym (last_test c.loop-i.i c.args.count c.loop-i-test.true)) ∙ c.in_ok-batch.ensures.read) c.loop-i.invariant.read);
      left = rw c.in_ok-put_batch.ensures.ok (omega arith);
      seen = rw c.in_ok-put_batch.ensures.ok (c.in_ok-batch.ensures.seen ∙ sym (keys_of-push c.loop-i.draft.spine b));
    }

pub returns : goal.returns
returns c =
    let total = c.args.total in
    is_done (batches_at total) (λ s n bytes. batch_at total s (n == 0) bytes) with_batch (batches_read total) (drafted c.loop-i.draft) c.args.count c.loop-i.i c.loop-i.rest.now
    (batches_at total (drafted c.args.draft) c.args.count c.args.bytes.now) c.loop-i-test.false c.loop-i.invariant.read
