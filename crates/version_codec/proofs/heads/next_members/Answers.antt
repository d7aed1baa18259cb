use Rattle.std.proofs.Common.{◌∷◌, [], arith, length-append}
use Rattle.std.proofs.lemmas.Result.{err_from_is_err_and}
use Rattle.state_core.specs.Drafts.{drafted}
use Rattle.version_codec.specs.Reading.{member_at, members_at, with_member}
use Rattle.version_codec.proofs.Loops.{goes_on, ends, is_done}
use Rattle.version_codec.proofs.MemberLoops.{members_read}
use Rattle.version_codec.proofs.heads.next_members.Goals as goal

pub returns-in_err-member-clause-read : goal.returns-in_err-member-clause-read
returns-in_err-member-clause-read c =
    let total = c.args.total in
    let p = err_from_is_err_and c.from_residual.result c.from_residual.ensures.1 in
    rw (p.1, p.2)
    (ends (members_at total) (λ s n bytes. member_at total s bytes) with_member (members_read total) c.in_err-member.field-0.0 (drafted c.loop.draft) c.args.count c.loop.counter c.loop.rest.now
    (members_at total (drafted c.args.draft) c.args.count c.args.bytes.now) c.loop-test.true c.in_err-member.ensures c.loop.invariant.read)

pub loop-preserved : goal.loop-preserved
loop-preserved c =
    let total = c.args.total in
    let m = c.in_ok-member.member in
    record {
      read = rw c.in_ok-push.ensures.ok
          (goes_on (members_at total) (λ s n bytes. member_at total s bytes) with_member (members_read total) (drafted c.loop.draft) c.args.count c.loop.counter c.loop.rest.now m c.in_ok-member.after.now
          (members_at total (drafted c.args.draft) c.args.count c.args.bytes.now) c.loop-test.true c.in_ok-member.ensures c.loop.invariant.read);
      count = rw c.in_ok-push.ensures.ok (omega (arith, length-append c.loop.draft.members (m ∷ []), c.loop.invariant.count));
      spine = c.loop.invariant.spine;
    }

pub returns-clause-read : goal.returns-clause-read
returns-clause-read c =
    let total = c.args.total in
    is_done (members_at total) (λ s n bytes. member_at total s bytes) with_member (members_read total) (drafted c.loop.draft) c.args.count c.loop.counter c.loop.rest.now
    (members_at total (drafted c.args.draft) c.args.count c.args.bytes.now) c.loop-test.false c.loop.invariant.read
