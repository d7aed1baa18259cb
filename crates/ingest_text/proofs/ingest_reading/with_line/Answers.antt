use Rattle.std.proofs.Common.{Some, None}
use Rattle.ingest_text.proofs.Blocks.{with_its_block}
use Rattle.ingest_text.proofs.ingest_reading.with_line.Goals as goal

pub returns-in-Some : goal.returns-in-Some
returns-in-Some c =
    with_its_block c.args.so_far.said (Some c.in-Some.block) c.args.line.now c.in-Some.is c.block_line.result c.block_line.ensures

pub returns-in-None : goal.returns-in-None
returns-in-None c = with_its_block c.args.so_far.said None c.args.line.now c.in-None.is c.free_line.result c.free_line.ensures
