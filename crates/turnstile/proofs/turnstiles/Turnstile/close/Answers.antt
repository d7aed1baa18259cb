use Rattle.std.proofs.Common.{◌≡◌, sym, ap, ◌∙◌, Some}
use mathlib.Core.Option.{some-injective}
use Rattle.turnstile.specs.Passes.{view, first_value}
use Rattle.turnstile.specs.History.{with_more}
use Rattle.turnstile.proofs.Kins.{entries_in}
use Rattle.turnstile.proofs.Steps.{closes, value_or}
use Rattle.turnstile.proofs.turnstiles.Turnstile.close.Goals as goal

pub unreachable-requires : goal.unreachable-requires
unreachable-requires g c =
    let ends = closes g.V.Growing.told g.V.Growing.client (g.V.Growing.told (first_value c.args.self)) _ (view c.args.pass) _ _ c.requires.whole c.requires.pass.free c.requires.pass.start c.close_with-closed.ensures.values.2 in
    let took : c.take-slot.result ≡ Some ends.value = some-injective _ _ (sym c.take-slot.ensures.value ∙ ends.there) in c.in_default.not-Some _ took

pub returns-clause-tells : goal.returns-clause-tells
returns-clause-tells g c =
    let ends = closes g.V.Growing.told g.V.Growing.client (g.V.Growing.told (first_value c.args.self)) _ (view c.args.pass) _ _ c.requires.whole c.requires.pass.free c.requires.pass.start c.close_with-closed.ensures.values.2 in
    let took : c.take-slot.result ≡ Some ends.value = some-injective _ _ (sym c.take-slot.ensures.value ∙ ends.there) in
    let same : c.in-Some.value ≡ ends.value = ap (value_or ends.value) (sym c.in-Some.is ∙ took) in
    ap g.V.Growing.told same ∙ (ends.tells ∙ ap (λ o. with_more o (view c.args.pass).gain) c.requires.pass.start)

pub returns-clause-own : goal.returns-clause-own
returns-clause-own g c =
    let ends = closes g.V.Growing.told g.V.Growing.client (g.V.Growing.told (first_value c.args.self)) _ (view c.args.pass) _ _ c.requires.whole c.requires.pass.free c.requires.pass.start c.close_with-closed.ensures.values.2 in entries_in g.V.Growing.client (view c.args.pass).kin (view c.args.pass).gain ends.covers
