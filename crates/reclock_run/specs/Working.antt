-- What an operator adds to a history, and what holds of it. docs/DEFINITIONS.md, "Reclocks".
use Rattle.std.specs.Prelude.{◌≡◌, ℕ, Option, List}
use Rattle.update_core.specs.declared.updates.Update.{Update}
use Rattle.store_core.specs.declared.shards.ShardId.{ShardId}
use Rattle.store_core.specs.declared.entries.Entry.{Entry}
use Rattle.store_core.specs.Histories.{History}
use Rattle.store_core.specs.Newest.{mine_back}
use Rattle.store_core.specs.Stores.{Stored}
use Rattle.history_core.specs.Discipline.{Allows}
use Rattle.history_core.specs.Stands.{StandsFor}
use Rattle.crew_core.specs.KeepingOn.{KeepsOn}
use Rattle.reclock_client.specs.declared.operators.Operator.{Operator}
use Rattle.reclock_client.specs.Asking.{InTurn}
use Rattle.reclock_client.specs.Knowing.{Knows}
use Rattle.reclock_client.specs.Operators.{Follows, IsSound}

-- an entry of an operator, at its place, where the start stands for a list on the data shard too: a call that its client may make
abbrev pub IsOperatorsEntry : ShardId → Stored → List Entry → Entry → Type 0
IsOperatorsEntry data_shard start es e =
    (list : List Update) → StandsFor start data_shard list → Allows (mine_back start es e.client) e.call

-- What an operator's work has made: it is of the same shards; and where the front is told it has grown, and each new entry of its client
-- is an operator's if what came before it is lawful and the start stands for a list on both shards.
pub record Worked (client : ℕ) (front now : Option History) (old new : Operator) : Type 0 where
  pub remap : new.remap ≡ old.remap
  pub data_shard : new.data_shard ≡ old.data_shard
  pub adds : KeepsOn (IsOperatorsEntry old.data_shard) old.remap client front now

-- as this client and over this front, its machines follow, and it knows no more than its remap shard tells
pub record IsReady (client : ℕ) (front : Option History) (o : Operator) : Type 0 where
  pub sound : IsSound o
  pub turn : InTurn o
  pub follows : Follows client front o
  pub knows : Knows front o
