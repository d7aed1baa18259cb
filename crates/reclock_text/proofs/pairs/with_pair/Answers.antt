use Rattle.std.proofs.Common.{◌+◌}
use Rattle.std.proofs.Common.{arith}
use Rattle.reclock_text.proofs.PairWords.{other_pair}
use Rattle.reclock_text.proofs.pairs.with_pair.Goals as goal

pub returns-then-partition-told : goal.returns-then-partition-told
returns-then-partition-told c =
    let told = c.in-Some.ensures in
    other_pair c.args.told.next c.args.word.now c.in-Some.partition c.in-Some.offset told.0 told.1 told.2
    (λ h. let from = h.0 in omega (arith, from, c.if-partition-told.true))

pub returns-then-partition-gt255 : goal.returns-then-partition-gt255
returns-then-partition-gt255 c =
    let told = c.in-Some.ensures in
    other_pair c.args.told.next c.args.word.now c.in-Some.partition c.in-Some.offset told.0 told.1 told.2
    (λ h. let few = h.1 in omega (arith, few, c.if-partition-gt255.true))

pub returns-in-None-with_offset : goal.returns-in-None-with_offset
returns-in-None-with_offset c =
    let told = c.in-Some.ensures in
    other_pair c.args.told.next c.args.word.now c.in-Some.partition c.in-Some.offset told.0 told.1 told.2
    (λ h. let within = h.2 in omega (arith, within, c.in-None-with_offset.ensures))

pub returns-in-Some-with_offset : goal.returns-in-Some-with_offset
returns-in-Some-with_offset c =
    let told = c.in-Some.ensures in
    let set = c.in-Some-with_offset.ensures in (
      (c.in-Some.partition, c.in-Some.offset),
      (omega (arith, c.if-partition-told.false), omega (arith, c.if-partition-gt255.false), set.0),
      told.2,
      λ i. record { frontier = set.1 i; next = c.in-Some.partition + 1 },
    )
