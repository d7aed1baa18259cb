use Rattle.store_file.proofs.Letters.{has_letters, no_letters}
use Rattle.store_file.proofs.opening.after_letters.Goals as goal

pub returns-then-first_number-ne-LETTERS-clause-none : goal.returns-then-first_number-ne-LETTERS-clause-none
returns-then-first_number-ne-LETTERS-clause-none c =
    no_letters c.args.bytes.now c.first_number.result c.first_number.ensures c.if-first_number-ne-LETTERS.true

pub returns-clause-some : goal.returns-clause-some
returns-clause-some c =
    has_letters c.args.bytes.now c.split_at.result.1.now c.first_number.result c.type_inv.bytes c.if-bytes-lt9.false
    c.first_number.ensures c.if-first_number-ne-LETTERS.false c.split_at.ensures.back
