use Rattle.std.proofs.Common.{rules, ◌≡◌, List, [], ◌∷◌, sym, subst, Option, Some}
use Rattle.atomic_table.specs.Table.{opening}
use Rattle.turnstile.specs.Rule.{Turning, first_view}
use Rattle.turnstile.proofs.Steps.{opens}
use Rattle.turnstile.proofs.turnstiles.Turnstile.new.Goals as goal

pub new-requires : goal.new-requires
new-requires g c =
    let same : c.of-key.result.value ≡ c.args.value = search rules in
    let items : c.push.new.self.items ≡ Some c.of-key.result.value ∷ [] = search rules in
    subst (λ (xs : List (Option g.row.V.Denot)). Turning g.V.Growing.told g.V.Growing.client (g.V.Growing.told c.of-key.result.value) (opening (0 ∷ c.entries-count.result ∷ []) xs (first_view (g.V.Growing.told c.of-key.result.value))))
    (sym items) (opens g.V.Growing.told g.V.Growing.client c.of-key.result.value c.entries-count.result (search rules))
