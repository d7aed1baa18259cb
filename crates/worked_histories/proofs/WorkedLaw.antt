-- The worked history is lawful, and so is each of its prefixes.
use Rattle.std.proofs.Common.{◌≡◌, ℕ, zero, suc, ◌+◌, ◌<◌, List, [], ◌∷◌, drop, sym, subst, arith}
use Rattle.std.specs.Prelude.{reverse}
use Rattle.std.specs.List.{AllByRecursion}
use Rattle.store_core.specs.declared.entries.Entry.{Entry}
use Rattle.store_core.specs.Stores.{empty_store}
use Rattle.store_core.specs.Histories.{History}
use Rattle.store_core.specs.Ports.{Answered, mine, OfOthers}
use Rattle.store_core.proofs.PortLaws.{mine_from-others}
use Rattle.std.proofs.lemmas.List.{take-append-drop}
use Rattle.history_core.specs.Discipline.{OwnLawful, Lawful}
use Rattle.worked_histories.specs.WorkedTrail.{trail, worked, first_calls}
use Rattle.history_core.proofs.Prefixes.{prefix_lawful}
use Rattle.worked_histories.proofs.WorkedWriter.{writer_lawful}
use Rattle.worked_histories.proofs.WorkedKeeper.{keeper_lawful}
use Rattle.worked_histories.proofs.WorkedReader.{reader_lawful}

others : (es : List Entry) (c : ℕ) → AllByRecursion (λ e. e.client < 3) es → OfOthers (c + 3) es
others [] c h = tt
others (e ∷ es) c h = (λ is. omega (arith, h.0, is), others es c h.1)

-- where clients 0, 1 and 2 alone made calls, each allowed by those before it, the history is lawful
pub three_clients : (h : History) → OwnLawful (reverse (mine h 0)) → OwnLawful (reverse (mine h 1)) →
    OwnLawful (reverse (mine h 2)) → AllByRecursion (λ e. e.client < 3) h.trail → Lawful h
three_clients h a b d all zero = a
three_clients h a b d all (suc zero) = b
three_clients h a b d all (suc (suc zero)) = d
three_clients h a b d all (suc (suc (suc c))) =
    let none : mine h (c + 3) ≡ [] = mine_from-others h.start h.trail (c + 3) (others h.trail c all) in
    let l : OwnLawful (reverse (mine h (c + 3))) = subst (λ (own : List Answered). OwnLawful (reverse own)) (sym none) tt in
    let e : c + 3 ≡ suc (suc (suc c)) = omega arith in
    subst (λ (n : ℕ). OwnLawful (reverse (mine h n))) e l

pub worked_lawful : Lawful worked
worked_lawful = three_clients worked writer_lawful keeper_lawful reader_lawful (search arith)

pub prefixes_lawful : (n : ℕ) → Lawful (first_calls n)
prefixes_lawful n = prefix_lawful (first_calls n) (drop n trail) (subst (λ (es : List Entry). Lawful (record {
  start = empty_store;
  trail = es;
})) (sym (take-append-drop n trail)) worked_lawful)
