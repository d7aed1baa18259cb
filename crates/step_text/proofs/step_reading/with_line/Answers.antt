use Rattle.step_text.proofs.Blocks.{block_taken, free_taken}
use Rattle.step_text.proofs.step_reading.with_line.Goals as goal

pub returns-in-Some : goal.returns-in-Some
returns-in-Some c =
    block_taken c.args.so_far c.in-Some.block c.args.line.now c.in-Some.is c.block_line.result c.block_line.ensures

pub returns-in-None : goal.returns-in-None
returns-in-None c = free_taken c.args.so_far c.args.line.now c.in-None.is c.with_room.result c.with_room.ensures
