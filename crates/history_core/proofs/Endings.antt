-- One more call of a lawful history, and what is there at its end.
use Rattle.std.proofs.Common.{◌≡◌, ℕ, inl, inr, subst, sym, ◌∙◌, eqb}
use Rattle.std.proofs.lemmas.Bool.{eqb-true}
use Rattle.store_core.specs.declared.calls.Call.{Call}
use Rattle.store_core.specs.Histories.{store_after, entry_of}
use Rattle.store_core.specs.Newest.{mine_back}
use Rattle.state_core.proofs.ListLemmas.{bool_cases}
use Rattle.history_core.specs.Discipline.{Allows}
use Rattle.history_core.specs.StretchLaws.{OneMoreLawful, OneMoreBack, LastIsOne, EmptyOrLast}
use Rattle.history_core.proofs.OneMore.{one_more}
use Rattle.history_core.proofs.StateFacts.{state_rules, state_shard, last_one}
use Rattle.history_core.proofs.LawfulLaws.{lawful_law}

pub one_more_law : OneMoreLawful
one_more_law h c call o l a = one_more h (entry_of c call o) l a

pub one_more_back : OneMoreBack
one_more_back start es c call e l a mine is d =
    elim (bool_cases (eqb e.client d)) [
      | inl q ↦
          let who : c ≡ d = sym mine ∙ eqb-true e.client d q in
          let here : Allows (mine_back start es d) e.call =
          subst (λ (j : ℕ). Allows (mine_back start es j) e.call) who (subst (λ (w : Call). Allows (mine_back start es c) w) (sym is) a) in
          rw q (here, l d)
      | inr q ↦ rw q (l d)
    ]

pub last_law : LastIsOne
last_law store shard n m s t a b = last_one shard (store.logs shard) n m s t a.0 a.1 b.0 b.1

pub empty_law : EmptyOrLast
empty_law shard list h st l = elim (lawful_law shard list h st l) [
  | inl e ↦ inl (e.no_version, e.no_update)
  | inr c ↦ inr (
    c.number,
    c.last,
    (c.newest, c.state),
    state_rules shard ((store_after h).logs shard) c.number c.last c.state,
    state_shard shard ((store_after h).logs shard) c.number c.last c.state,
  )
]
