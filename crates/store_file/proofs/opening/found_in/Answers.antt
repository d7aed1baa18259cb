use Rattle.store_core.specs.Contents.{stored_of}
use Rattle.store_file.proofs.Reading.{read_more}
use Rattle.store_file.proofs.opening.found_in.Goals as goal

pub loop-after-preserved : goal.loop-after-preserved
loop-after-preserved c =
    read_more c.args.bytes.now c.loop-after.rest.now c.in-Some-behind_open_gate.after.now c.in-Whole.payload.now c.in-Whole.next.now
    (stored_of c.loop-after.contents) (stored_of c.take_record.new.contents) c.loop-after.invariant
    c.in-Some-behind_open_gate.ensures.open c.in-Whole.ensures (c.in_ok-take_record.ensures.good c.if-not-branch.false)
