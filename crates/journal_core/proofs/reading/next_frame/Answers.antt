use Rattle.journal_core.proofs.Frames.{framed}
use Rattle.journal_core.proofs.reading.next_frame.Goals as goal

pub returns : goal.returns
returns c =
    framed c.args.bytes.now c.split_at.result.0.now c.split_at.result.1.now c.first_number-len.result
    c.type_inv.bytes c.if-bytes-lt8.false c.first_number-len.ensures c.split_at.ensures.front c.split_at.ensures.back c.if-body-len.false
