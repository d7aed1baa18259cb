use Rattle.std.proofs.Common.{◌≡◌, Option, subst}
use Rattle.update_core.specs.declared.appends.FeedAppend.{FeedAppend}
use Rattle.feed_text.specs.Grammar.{lines_read}
use Rattle.feed_text.specs.Reading.{taken_lines, IsTaken}
use Rattle.feed_text.proofs.TakenLines.{fault_too_long, fault_in_block, spells_taken}
use Rattle.feed_text.proofs.parsing.finished.Goals as goal

pub returns-then-bytes-gt-MAX_BYTES-clause-fault : goal.returns-then-bytes-gt-MAX_BYTES-clause-fault
returns-then-bytes-gt-MAX_BYTES-clause-fault c =
    let reader = c.args.reader in
    fault_too_long c.args.bytes.now reader.commands reader.block reader.number c.requires.taken c.requires.read c.if-bytes-gt-MAX_BYTES.true

pub returns-in-None-clause-read : goal.returns-in-None-clause-read
returns-in-None-clause-read c =
    let reader = c.args.reader in
    let taken = subst (λ (b : Option FeedAppend). IsTaken reader.commands b reader.number) c.in-None.is c.requires.taken in
    let read = subst (λ (b : Option FeedAppend). taken_lines reader.commands b ≡ lines_read c.args.bytes.now) c.in-None.is c.requires.read in
    spells_taken c.args.bytes.now reader.commands reader.number taken read c.if-bytes-gt-MAX_BYTES.false

pub returns-in-Some-clause-fault : goal.returns-in-Some-clause-fault
returns-in-Some-clause-fault c =
    let reader = c.args.reader in
    let taken = subst (λ (b : Option FeedAppend). IsTaken reader.commands b reader.number) c.in-Some.is c.requires.taken in
    let read = subst (λ (b : Option FeedAppend). taken_lines reader.commands b ≡ lines_read c.args.bytes.now) c.in-Some.is c.requires.read in
    fault_in_block c.args.bytes.now reader.commands c.in-Some.field-0 reader.number taken read c.if-bytes-gt-MAX_BYTES.false
