-- What holds of each entry that a client has made since a history, where what came before it was lawful. docs/DEFINITIONS.md, "Crews".
use Rattle.std.specs.Prelude.{◌≡◌, ℕ, List, ◌∷◌, ◌++◌, reverse}
use Rattle.update_core.specs.declared.updates.Update.{Update}
use Rattle.store_core.specs.declared.shards.ShardId.{ShardId}
use Rattle.store_core.specs.declared.entries.Entry.{Entry}
use Rattle.store_core.specs.Stores.{Stored}
use Rattle.store_core.specs.Histories.{History}
use Rattle.store_core.specs.Ports.{with_entries}
use Rattle.history_core.specs.Discipline.{Lawful}
use Rattle.history_core.specs.Stands.{StandsFor}

-- Each entry of the client among those that have come to a history has P at its place, of the start and of the entries before it,
-- newest first, if what came before it is lawful and the start stands for a list.
abbrev pub Keeps : (Stored → List Entry → Entry → Type 0) → ShardId → ℕ → History → List Entry → Type 0
Keeps P shard client h more =
    (before after : List Entry) (e : Entry) → more ≡ before ++ e ∷ after → e.client ≡ client →
    (list : List Update) → StandsFor h.start shard list → Lawful (with_entries h before) → P h.start (reverse (h.trail ++ before)) e
