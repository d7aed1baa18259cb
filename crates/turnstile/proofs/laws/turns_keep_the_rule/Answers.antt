use Rattle.std.proofs.Common.{List, [], ◌≡◌, ◌∙◌, ap, append-nil}
use Rattle.turnstile.specs.History.{with_more}
use Rattle.turnstile.proofs.Steps.{counts_up, gives_turn, joins, opens, settles, splits, takes_turn}
use Rattle.turnstile.proofs.laws.turns_keep_the_rule.Goals as goal

pub returns-clause-opened : goal.returns-clause-opened
returns-clause-opened g c = opens g.V.Growing.told g.V.Growing.client

pub returns-clause-taken : goal.returns-clause-taken
returns-clause-taken g c start = takes_turn g.V.Growing.told g.V.Growing.client start

pub returns-clause-counted : goal.returns-clause-counted
returns-clause-counted g c start = counts_up g.V.Growing.told g.V.Growing.client start

pub returns-clause-given : goal.returns-clause-given
returns-clause-given g c start slots id m y one some_share mine is gains =
    gives_turn g.V.Growing.told g.V.Growing.client start slots id m y one some_share mine is
    (gains.0 ∙ ap (λ l. with_more m.0.start l) (append-nil m.0.gain))

pub returns-clause-settled : goal.returns-clause-settled
returns-clause-settled g c start = settles g.V.Growing.told g.V.Growing.client start

pub returns-clause-split : goal.returns-clause-split
returns-clause-split g c start = splits g.V.Growing.told g.V.Growing.client start

pub returns-clause-joined : goal.returns-clause-joined
returns-clause-joined g c start = joins g.V.Growing.told g.V.Growing.client start
