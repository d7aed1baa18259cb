-- A run over a store: what its view is after entries of a history. Entries go newest first.
use Rattle.std.specs.Prelude.{◌≡◌, ◌⊎◌, ℕ, ◌==◌, ◌&&◌, not, if◌then◌else◌, List, [], ◌∷◌, ◌++◌, length}
use Rattle.std.specs.List.{AllByRecursion}
use Rattle.update_core.specs.declared.updates.Update.{Update}
use Rattle.store_core.specs.declared.shards.ShardId.{ShardId}
use Rattle.store_core.specs.declared.entries.Entry.{Entry}
use Rattle.store_core.specs.Stores.{Stored, no_log}
use Rattle.store_core.specs.Newest.{replay_back}
use Rattle.state_core.specs.declared.kinds.Kind.TheVariants.{Reader}
use Rattle.state_core.specs.declared.members.Member.{Member}
use Rattle.state_core.specs.States.{ShardState, is_reader}
use Rattle.state_core.specs.Steps.{Stands}
use Rattle.history_core.specs.Costs.{commits_among}
use Rattle.history_core.specs.Laws.{LastIs}
use Rattle.history_core.specs.Legal.{collection_in}
use Rattle.history_core.specs.Stands.{accepted}
use Rattle.plain_run.specs.PlainRuns.{View, empty_view}

-- the sinces of the readers that stand
abbrev pub reader_sinces : List Member → List ℕ
reader_sinces [] = []
reader_sinces (m ∷ ms) = if is_reader m.kind then m.since ∷ reader_sinces ms else reader_sinces ms

-- the sinces of the readers that stand, but for one
abbrev pub other_sinces : ℕ → List Member → List ℕ
other_sinces own [] = []
other_sinces own (m ∷ ms) = if is_reader m.kind && not (m.number == own) then m.since ∷ other_sinces own ms else other_sinces own ms

-- the view of a state with these accepted updates, for a reader that joins there
abbrev pub joining_view : List Update → ShardState → View
joining_view updates s = record { collection = collection_in updates s; own = s.since; readers = reader_sinces s.members }

-- the shard has no version, and the view is empty; or the view is that of the last version's state and the accepted updates
abbrev pub StartsAt : ShardId → List Update → Stored → List Entry → View → Type 0
StartsAt shard list start es view =
    (((replay_back start es).logs shard ≡ no_log) × (accepted shard list start es ≡ []) × (view ≡ empty_view)) ⊎
    ((n : ℕ) × (s : ShardState) × LastIs (replay_back start es) shard n s × (view ≡ joining_view (accepted shard list start es) s))

-- the view of a run whose reader is this member: the collection of the last version's state and the accepted updates, the reader's
-- since, and those of the other readers
pub record ViewAt (shard : ShardId) (list : List Update) (start : Stored) (es : List Entry) (reader : ℕ) (view : View) : Type 0 where
  pub number : ℕ
  pub state : ShardState
  pub last : LastIs (replay_back start es) shard number state
  pub collection : view.collection ≡ collection_in (accepted shard list start es) state
  pub own : Stands reader (λ m. (m.kind ≡ Reader) × (m.since ≡ view.own)) state.members
  pub others : other_sinces reader state.members ≡ view.readers

-- entries of one client that have come since others, of which none committed a version of the shard
pub record QuietSince (shard : ShardId) (client : ℕ) (start : Stored) (since es : List Entry) (calls : ℕ) : Type 0 where
  pub more : List Entry
  pub split : es ≡ more ++ since
  pub of_client : AllByRecursion (λ e. e.client ≡ client) more
  pub as_many : length more ≡ calls
  pub quiet : commits_among start shard more since ≡ 0
