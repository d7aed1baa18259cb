use Rattle.reclock_text.proofs.SourceWords.{big_partition}
use Rattle.reclock_text.proofs.source_lines.partition_and_rest.Goals as goal

pub returns-then-partition-gt255 : goal.returns-then-partition-gt255
returns-then-partition-gt255 c =
    let told = c.in_ok-partition.ensures in
    big_partition c.args.line.now c.in_ok-rest.rest.now c.in_ok-partition.rest.now c.in_ok-partition.partition c.in_ok-rest.ensures told.0
    told.1 c.if-partition-gt255.true
