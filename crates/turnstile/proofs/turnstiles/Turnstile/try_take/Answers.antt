use Rattle.std.proofs.Common.{rules, ◌≡◌, ◌∷◌, [], ap, sym, arith, ◌∙◌, Some}
use Rattle.atomic_table.specs.Table.{rest}
use Rattle.turnstile.specs.Plays.{missed}
use Rattle.turnstile.specs.Passes.{view}
use Rattle.turnstile.proofs.Steps.{takes_turn}
use Rattle.turnstile.proofs.Passing.{as_pass}
use Rattle.turnstile.proofs.turnstiles.Turnstile.try_take.Goals as goal

pub compare_exchange-found-requires : goal.compare_exchange-found-requires
compare_exchange-found-requires g c = (
  search rules,
  search rules,
  takes_turn g.V.Growing.told g.V.Growing.client _ _ _ _ (let r = c.requires.room in omega arith) c.requires.free,
)

pub returns-then-found-ne0-clause-missed : goal.returns-then-found-ne0-clause-missed
returns-then-found-ne0-clause-missed g c =
    let p = c.args.pass in
    let r = c.requires in
    let missed_it = c.compare_exchange-found.ensures.2.1 c.if-found-ne0.true in
    let is : c.compare_exchange-found.new.seat.me ≡ (missed (view p), []) = missed_it.1 ∙ ap (λ cs. (missed (view p), cs)) r.empty in (
      as_pass g.V.Growing.told g.V.Growing.client c.args.self.now _ (missed (view p)) (c.compare_exchange-found.ensures.0 ∙ r.table) is r.free r.start r.room r.own r.credited
          record { number = r.carried.number; stock = r.carried.stock; low = r.carried.low; top = r.carried.top; count = r.carried.count },
      ap (λ m. m.0) is,
    )

pub exchange-requires : goal.exchange-requires
exchange-requires g c =
    let took = c.compare_exchange-found.ensures.2.0 c.if-found-ne0.false in
    let carried = ap (λ m. m.1) took.1 in
    (search rules, (Some took.0, carried ∙ ap (λ cs. (0, Some took.0) ∷ rest cs) (sym carried)))
