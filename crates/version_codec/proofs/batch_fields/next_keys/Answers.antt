use Rattle.std.proofs.Common.{◌≡◌, ◌∷◌, [], ◌++◌, List, Ok, ap, subst, ◌∙◌, append_assoc}
use Rattle.std.proofs.lemmas.Result.{err_from_is_err_and}
use Rattle.store_core.specs.declared.part_keys.PartKey.{PartKey}
use Rattle.state_core.specs.States.{keys_of}
use Rattle.state_core.specs.Drafts.{drafted}
use Rattle.version_codec.specs.Reading.{Fails, key_at, keys_at}
use Rattle.version_codec.proofs.Loops.{goes_on, ends, is_done}
use Rattle.version_codec.proofs.MemberLoops.{with_key, keys_read}
use Rattle.version_codec.proofs.batch_fields.next_keys.Goals as goal

pub returns-in_err-key-clause-read : goal.returns-in_err-key-clause-read
returns-in_err-key-clause-read c =
    let total = c.args.total in
    let s = drafted c.args.draft.now in
    let p = err_from_is_err_and c.from_residual.result c.from_residual.ensures.1 in
    rw (p.1, p.2)
    (ends (keys_at total s) (λ ks n bytes. key_at total s (keys_of s.batches ++ ks) bytes) with_key (keys_read total s) c.in_err-key.field-0.0 c.loop.keys c.args.count c.loop.counter c.loop.rest.now
    (keys_at total s [] c.args.count c.args.bytes.now) c.loop-test.true (subst (λ (us : List PartKey). Fails c.in_err-key.field-0.0 (key_at total s us c.loop.rest.now)) c.loop.invariant.seen c.in_err-key.ensures.read) c.loop.invariant.read)

pub loop-preserved : goal.loop-preserved
loop-preserved c =
    let total = c.args.total in
    let s = drafted c.args.draft.now in
    let k = c.in_ok-key.key in
    record {
      read = rw c.in_ok-push.ensures.ok
          (goes_on (keys_at total s) (λ ks n bytes. key_at total s (keys_of s.batches ++ ks) bytes) with_key (keys_read total s) c.loop.keys c.args.count c.loop.counter c.loop.rest.now k c.in_ok-key.after.now
          (keys_at total s [] c.args.count c.args.bytes.now) c.loop-test.true (subst (λ (us : List PartKey). key_at total s us c.loop.rest.now ≡ Ok (k, c.in_ok-key.after.now)) c.loop.invariant.seen c.in_ok-key.ensures.read) c.loop.invariant.read);
      seen = rw c.in_ok-push.ensures.ok (c.in_ok-key.ensures.seen ∙ ap (λ (us : List PartKey). us ++ k ∷ []) c.loop.invariant.seen ∙ append_assoc (keys_of c.args.draft.now.spine) c.loop.keys (k ∷ []));
    }

pub returns-clause-read : goal.returns-clause-read
returns-clause-read c =
    let total = c.args.total in
    let s = drafted c.args.draft.now in
    is_done (keys_at total s) (λ ks n bytes. key_at total s (keys_of s.batches ++ ks) bytes) with_key (keys_read total s) c.loop.keys c.args.count c.loop.counter c.loop.rest.now
    (keys_at total s [] c.args.count c.args.bytes.now) c.loop-test.false c.loop.invariant.read
