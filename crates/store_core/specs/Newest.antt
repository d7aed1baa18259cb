-- Entries with the newest first.
use Rattle.std.specs.Prelude.{ℕ, ◌==◌, List, [], ◌∷◌, if◌then◌else◌}
use Rattle.store_core.specs.declared.entries.Entry.{Entry}
use Rattle.store_core.specs.Stores.{Stored}
use Rattle.store_core.specs.Histories.{next, reply}
use Rattle.store_core.specs.Ports.{Answered, answered}

-- the store after entries of which the newest comes first
abbrev pub replay_back : Stored → List Entry → Stored
replay_back s [] = s
replay_back s (e ∷ es) = next (replay_back s es) e

-- the entries of one client, the newest first, each with the reply that it had
abbrev pub mine_back : Stored → List Entry → ℕ → List Answered
mine_back s [] c = []
mine_back s (e ∷ es) c = if e.client == c then answered e (reply (replay_back s es) e) ∷ mine_back s es c else mine_back s es c
