use Rattle.std.proofs.Common.{ap, sym, refl, true≢false, ◌∙◌}
use Rattle.std.specs.Str.{bytes_eq}
use Rattle.command_words.specs.Uses.{dashes}
use Rattle.std.specs.String.{string_bytes}
use Rattle.command_words.proofs.Finding.{dash_at, dash_more}
use Rattle.command_words.proofs.found.has_dashes.Goals as goal

pub returns-then-eq-clause-some : goal.returns-then-eq-clause-some
returns-then-eq-clause-some c =
    λ _ none. true≢false (c.if-eq.ensures
    ∙ (ap (λ t. bytes_eq t dashes) c.as_str.ensures.value
    ∙ dash_at string_bytes c.args.words.now c.loop-word.word-index c.word-item.result none c.loop-word-test.true c.word-item.is))

pub loop-word-preserved : goal.loop-word-preserved
loop-word-preserved c =
    dash_more string_bytes c.args.words.now c.loop-word.word-index _
    c.word-item.result refl c.loop-word.invariant c.loop-word-test.true c.word-item.is
    (sym (c.if-eq.ensures ∙ ap (λ t. bytes_eq t dashes) c.as_str.ensures.value))
