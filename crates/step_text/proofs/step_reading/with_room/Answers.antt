use Rattle.step_text.proofs.Blocks.{roomy}
use Rattle.step_text.proofs.step_reading.with_room.Goals as goal

pub returns-then-room : goal.returns-then-room
returns-then-room c = roomy c.args.so_far c.args.line.now (c.requires.0 c.if-room.true) c.free_line.result c.free_line.ensures
