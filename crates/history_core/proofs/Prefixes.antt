-- Histories and their prefixes, read with the newest entry first.
use Rattle.std.proofs.Common.{◌≡◌, List, [], ◌∷◌, ◌++◌, ap, subst, ◌∙◌}
use Rattle.std.specs.Prelude.{reverse}
use Rattle.std.proofs.lemmas.List.{reverse-append}
use Rattle.store_core.specs.Histories.{History, store_after}
use Rattle.store_core.specs.Ports.{Answered, mine, mine_from, with_entries}
use Rattle.store_core.proofs.PortLaws.{mine_from-append}
use Rattle.store_core.proofs.NewestLaws.{mine-newest}
use Rattle.history_core.specs.Discipline.{OwnLawful, LawfulBack, Lawful}
use Rattle.history_core.specs.Laws.{LawfulPrefix}

pub lawful_back : (h : History) → Lawful h → LawfulBack h.start (reverse h.trail)
lawful_back h l c = subst OwnLawful (mine-newest h c) (l c)

own_prefix : (newer older : List Answered) → OwnLawful (newer ++ older) → OwnLawful older
own_prefix [] older l = l
own_prefix (o ∷ newer) older l = own_prefix newer older l.1

pub prefix_lawful : LawfulPrefix
prefix_lawful h later l c =
    let parts : reverse (mine (with_entries h later) c) ≡ reverse (mine_from (store_after h) later c) ++ reverse (mine h c) =
    ap reverse (mine_from-append h.start h.trail later c) ∙ reverse-append (mine h c) (mine_from (store_after h) later c) in
    own_prefix (reverse (mine_from (store_after h) later c)) (reverse (mine h c)) (subst OwnLawful parts (l c))
