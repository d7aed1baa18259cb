use Rattle.std.proofs.Common.{refl}
use Rattle.std.proofs.lemmas.Bool.{false≢true}
use Rattle.feed_text.proofs.Spelled.{not_plain, number_some, number_none}
use Rattle.feed_text.proofs.numbers.number.Goals as goal

pub returns-then-not-is_plain-clause-none : goal.returns-then-not-is_plain-clause-none
returns-then-not-is_plain-clause-none c = not_plain c.args.word.now (λ plain. false≢true (c.if-not-is_plain.ensures.1 plain))

pub returns-clause-some : goal.returns-clause-some
returns-clause-some c = number_some c.args.word.now c.digits.result (c.if-not-is_plain.ensures.0 refl) c.digits.ensures.some

pub returns-clause-none : goal.returns-clause-none
returns-clause-none c = number_none c.args.word.now c.digits.result c.digits.ensures.none
