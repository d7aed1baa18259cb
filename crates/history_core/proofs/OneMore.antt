-- A lawful history and one more call.
use Rattle.std.proofs.Common.{◌≡◌, ◌∙◌, ℕ, Bool, true, false, cond, List, [], ◌∷◌, ◌++◌, ◌==◌, refl, sym, ap, subst, arith}
use Rattle.std.specs.Prelude.{reverse}
use Rattle.std.proofs.lemmas.Bool.Decides.{nat_tests}
use Rattle.std.proofs.lemmas.List.{reverse-append}
use Rattle.store_core.specs.declared.entries.Entry.{Entry}
use Rattle.store_core.specs.Histories.{History, store_after, reply, with_entry}
use Rattle.store_core.specs.Ports.{Answered, answered, mine, mine_from}
use Rattle.store_core.proofs.PortLaws.{mine_from-append}
use Rattle.history_core.specs.Discipline.{Allows, OwnLawful, Lawful}

turned : (h : History) (e : Entry) (c : ℕ) →
    reverse (mine (with_entry h e) c) ≡ reverse (mine_from (store_after h) (e ∷ []) c) ++ reverse (mine h c)
turned h e c = ap reverse (mine_from-append h.start h.trail (e ∷ []) c) ∙ reverse-append (mine h c) (mine_from (store_after h) (e ∷ []) c)

same : (a c : ℕ) → (a == c) ≡ true → a ≡ c
same a c h = grind (arith, nat_tests)

itself : (c : ℕ) → (c == c) ≡ true
itself c = grind (arith, nat_tests)

grown : (b : Bool) (o : Answered) (own : List Answered) → (b ≡ true → Allows own o.entry.call) → OwnLawful own →
    OwnLawful (reverse (cond b (o ∷ []) []) ++ own)
grown true o own f l = (f refl, l)
grown false o own f l = l

newest : (b : Bool) (o : Answered) (own : List Answered) → b ≡ true → OwnLawful (reverse (cond b (o ∷ []) []) ++ own) →
    Allows own o.entry.call
newest true o own e l = l.0
newest false o own e l = absurd (cc)

-- a call that is allowed keeps a history lawful
pub one_more : (h : History) (e : Entry) → Lawful h → Allows (reverse (mine h e.client)) e.call → Lawful (with_entry h e)
one_more h e l a c =
    subst OwnLawful (sym (turned h e c))
    (grown (e.client == c) (answered e (reply (store_after h) e)) (reverse (mine h c)) (λ is. subst (λ (n : ℕ). Allows (reverse (mine h n)) e.call) (same e.client c is) a) (l c))

-- the last call of a lawful history is allowed
pub last_allowed : (h : History) (e : Entry) → Lawful (with_entry h e) → Allows (reverse (mine h e.client)) e.call
last_allowed h e l =
    newest (e.client == e.client) (answered e (reply (store_after h) e)) (reverse (mine h e.client)) (itself e.client) (subst OwnLawful (turned h e e.client) (l e.client))
