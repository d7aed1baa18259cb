use Rattle.std.proofs.Common.{◌≡◌, ℕ, ◌+◌, suc, arith, subst, ◌∷◌, ◌++◌}
use Rattle.store_core.specs.Histories.{faults_of}
use Rattle.history_core.specs.Placing.{placed, places}
use Rattle.history_core.specs.Costs.{commits_among, failed_calls, foreign_commits}
use Rattle.history_core.proofs.laws.one_more_call.Goals as goal
use Rattle.history_core.proofs.Gaining.{places_gained, failed_gained, foreign_first, foreign_gained}

next : (n : ℕ) → suc n ≡ n + 1
next n = omega arith

second : (n : ℕ) → suc (suc n) ≡ n + 2
second n = omega arith

pub returns-clause-entries : goal.returns-clause-entries
returns-clause-entries c client n e others es eq o =
    subst (λ (j : ℕ). places client j (e ∷ (others ++ es)) ≡ placed e (others ++ es) ∷ places client n es) (next n) (places_gained client n e others es eq o)

pub returns-clause-failed : goal.returns-clause-failed
returns-clause-failed c client n e others es eq o =
    subst (λ (j : ℕ). failed_calls client j (e ∷ (others ++ es)) ≡ faults_of e.outcome + failed_calls client n es) (next n) (failed_gained client n e others es eq o)

pub returns-clause-first : goal.returns-clause-first
returns-clause-first c start shard client e others es eq = foreign_first start shard client e others es eq

pub returns-clause-foreign : goal.returns-clause-foreign
returns-clause-foreign c start shard client n e others es eq o =
    subst (λ (j : ℕ). foreign_commits start shard client j (e ∷ (others ++ es)) ≡ commits_among start shard others es + foreign_commits start shard client (n + 1) es) (second n)
    (subst (λ (j : ℕ). foreign_commits start shard client (suc (suc n)) (e ∷ (others ++ es)) ≡ commits_among start shard others es + foreign_commits start shard client j es) (next n)
    (foreign_gained start shard client n e others es eq o))
