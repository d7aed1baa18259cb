-- A pin with no open command follows past all that comes to a history, and the one that a crew leaves follows. Entries go newest first.
use Rattle.std.proofs.Common.{◌≡◌, ◌≢◌, ◌⊎◌, ◌<◌, ℕ, zero, suc, Option, None, true, false, List, [], ◌∷◌, ◌++◌, inl, inr}
use Rattle.std.proofs.Common.{refl, sym, subst, ◌∙◌}
use Rattle.std.proofs.Common.{arith}
use Rattle.std.specs.Prelude.{◌==◌}
use Rattle.store_core.specs.declared.entries.Entry.{Entry}
use Rattle.store_core.specs.Histories.{History}
use Rattle.store_core.specs.Stores.{Stored}
use Rattle.store_core.specs.Ports.{GrowsByOthers}
use Rattle.history_core.specs.declared.read_answers.ReadAnswer.{ReadAnswer}
use Rattle.state_core.proofs.ListLemmas.{bool_cases}
use Rattle.machine_core.proofs.Polls.{others_where}
use Rattle.read_client.specs.declared.readers.Reader.{Reader}
use Rattle.read_client.specs.Following.{Follows, FollowsWhere}
use Rattle.read_client.specs.Machining.{machine}
use Rattle.read_client.proofs.Machining.{keeps, not_open}
use Rattle.crew.specs.declared.plans.Plan.{Plan}
use Rattle.crew.specs.declared.ends.WorkerEnd.{WorkerEnd}
use Rattle.crew.specs.Crews.{LeavesPin}
use Rattle.std.proofs.lemmas.Bool.Decides.{nat_tests}

same : (a b : ℕ) → (a == b) ≡ true → a ≡ b
same a b h = grind (arith, nat_tests)

differs : (a b : ℕ) → (a == b) ≡ false → a ≢ b
differs a b e h = let t : (a == b) ≡ true = itself a b h in let bad : false ≡ true = sym e ∙ t in cc
  where
    itself : (a b : ℕ) → a ≡ b → (a == b) ≡ true
    itself a b h = grind (arith, nat_tests)

module _ (client : ℕ) (pin : Reader) (idle : pin.asked ≡ None) (start : Stored) where
  pub past : (es more : List Entry) → Follows client pin start es → Follows client pin start (more ++ es)
  past es [] f = f
  past es (e ∷ more) f = elim (bool_cases (e.client == client)) [
    | inl t ↦ keeps.spared_follows client pin start e [] (more ++ es) (not_open pin.asked idle) tt (same e.client client t) tt
        (past es more f)
    | inr t ↦ keeps.others_follow client pin start (e ∷ []) (more ++ es) (differs e.client client t, tt) (past es more f)
  ]

-- the pin that a crew leaves follows: where there are no collectors it is the one that was handed in, and else what is left of it does
pub pin_by : (plan : Plan) (pin end : Reader) (before now : Option History) (ends : List WorkerEnd) →
    (plan.collectors ≡ 0 → GrowsByOthers 0 before now) → ((plan.collectors ≡ 0) ⊎ (pin.asked ≢ None) → end ≡ pin) →
    (0 < plan.collectors → pin.asked ≡ None → LeavesPin plan now end ends) →
    (plan.collectors ≡ 0) ⊎ (pin.asked ≡ None) → FollowsWhere 0 before pin → FollowsWhere 0 now end
pin_by plan pin end before now ends others kept left why f = elim why [
  | inl none ↦ unmoved none
  | inr idle ↦ by plan.collectors refl idle
]
  where
    unmoved : plan.collectors ≡ 0 → FollowsWhere 0 now end
    unmoved none = subst (FollowsWhere 0 now) (sym (kept (inl none)))
        (others_where Reader ReadAnswer machine keeps 0 before now pin f (others none))

    by : (n : ℕ) → plan.collectors ≡ n → pin.asked ≡ None → FollowsWhere 0 now end
    by zero e idle = unmoved e
    by (suc n) e idle =
        let some : 0 < plan.collectors = (let is : plan.collectors ≡ suc n = e in omega arith) in
        (left some idle).2.follows.follows
