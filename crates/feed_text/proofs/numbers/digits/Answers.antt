use Rattle.std.proofs.Common.{ℕ, ◌*◌, ◌+◌, ◌^◌, ◌≤◌, List, ap, ◌∙◌, subst}
use Rattle.std.proofs.lemmas.List.{take_all}
use Rattle.std.specs.Str.Parse.{AllDigits, digits_value}
use Rattle.feed_text.proofs.Spelled.{digits_stop, digits_full, number_more}
use Rattle.feed_text.proofs.numbers.digits.Goals as goal

pub returns-in_err-digit-clause-none : goal.returns-in_err-digit-clause-none
returns-in_err-digit-clause-none c = rw c.from_residual.ensures (digits_stop c.args.word.now c.loop-byte.byte-index c.loop-byte-test.true c.in_err-digit.ensures)

pub returns-in_err-value-clause-none : goal.returns-in_err-value-clause-none
returns-in_err-value-clause-none c =
    let digit = c.in_ok-digit.ensures in
    let full = subst (λ (d : ℕ). 2 ^ 64 ≤ c.loop-byte.value * 10 + d) digit.0 c.in_err-value.ensures in
    rw c.from_residual-in_err-value.ensures (λ all. digits_full c.args.word.now c.loop-byte.byte-index c.loop-byte.value c.loop-byte-test.true c.loop-byte.invariant.is full)

pub loop-byte-preserved : goal.loop-byte-preserved
loop-byte-preserved c =
    let digit = c.in_ok-digit.ensures in
    let next = c.in_ok-value.ensures in
    let so_far = c.loop-byte.invariant in
    let more = number_more c.args.word.now c.loop-byte.byte-index c.loop-byte.value c.in_ok-digit.digit c.in_ok-value.value c.loop-byte-test.true so_far.all so_far.is digit.0 digit.1 next.1 in
    record { small = next.0; all = more.0; is = more.1 }

pub returns-clause-some : goal.returns-clause-some
returns-clause-some c =
    let so_far = c.loop-byte.invariant in
    let whole = take_all c.loop-byte.byte-index c.args.word.now c.loop-byte-test.false in
    (so_far.small, subst (λ (l : List ℕ). AllDigits 10 l) whole so_far.all, so_far.is ∙ ap (digits_value 10) whole)
