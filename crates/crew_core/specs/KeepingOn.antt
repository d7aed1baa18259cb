-- What a client keeps while its front grows, and that it goes on. docs/DEFINITIONS.md, "Crews".
use Rattle.std.specs.Prelude.{◌≡◌, ℕ, Option, Some, None, List, ◌++◌, reverse}
use Rattle.update_core.specs.declared.updates.Update.{Update}
use Rattle.store_core.specs.declared.shards.ShardId.{ShardId}
use Rattle.store_core.specs.declared.calls.Call.{Call}
use Rattle.store_core.specs.declared.replies.Reply.{Reply}
use Rattle.store_core.specs.declared.outcomes.Outcome.{Outcome}
use Rattle.store_core.specs.declared.entries.Entry.{Entry}
use Rattle.store_core.specs.Stores.{Stored}
use Rattle.store_core.specs.Histories.{History, entry_of}
use Rattle.store_core.specs.Ports.{GainsWhereTold, GrowsByOthers, OfOthers, with_entries}
use Rattle.history_core.specs.Discipline.{Lawful}
use Rattle.history_core.specs.Stands.{StandsFor}
use Rattle.crew_core.specs.Keeping.{Keeps}
use Rattle.crew_core.specs.Working.{IsWorkersEntry, Role}

-- Where the front was told it has grown, and each new entry of the client has P.
abbrev pub KeepsOn : (Stored → List Entry → Entry → Type 0) → ShardId → ℕ → Option History → Option History → Type 0
KeepsOn P shard client None now = now ≡ None
KeepsOn P shard client (Some h) now = (more : List Entry) × (now ≡ Some (with_entries h more)) × Keeps P shard client h more

-- Where the front is told, the call's entry has P past whatever others have called, if what came before it is lawful and the start
-- stands for a list.
abbrev pub WouldKeep : (Stored → List Entry → Entry → Type 0) → ShardId → ℕ → Option History → Call → Type 0
WouldKeep P shard client front call =
    (h : History) → front ≡ Some h → (others : List Entry) (outcome : Outcome) (list : List Update) → OfOthers client others →
    StandsFor h.start shard list → Lawful (with_entries h others) → P h.start (reverse (h.trail ++ others)) (entry_of client call outcome)

-- ---- laws

-- what a client keeps as a worker it keeps past entries of others
abbrev pub KeptPastOthers : Type 0
KeptPastOthers =
    (role : Role) (shard : ShardId) (client : ℕ) (front now : Option History) → GrowsByOthers client front now →
    KeepsOn (IsWorkersEntry role shard) shard client front now

-- it keeps over both of two stretches what it keeps over each
abbrev pub KeptTwice : Type 0
KeptTwice =
    (role : Role) (shard : ShardId) (client : ℕ) (first then now : Option History) →
    KeepsOn (IsWorkersEntry role shard) shard client first then → KeepsOn (IsWorkersEntry role shard) shard client then now →
    KeepsOn (IsWorkersEntry role shard) shard client first now

-- and past a call of its own whose entry is a worker's
abbrev pub KeptPastACall : Type 0
KeptPastACall =
    (role : Role) (shard : ShardId) (client : ℕ) (front now : Option History) (call : Call) (reply : Reply) →
    GainsWhereTold client front now call reply → WouldKeep (IsWorkersEntry role shard) shard client front call →
    KeepsOn (IsWorkersEntry role shard) shard client front now
