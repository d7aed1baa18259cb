-- The entries of one command, each at its place in a history. Entries go newest first.
use Rattle.std.specs.Prelude.{◌≡◌, ℕ, zero, suc, true, List, [], ◌∷◌, Option, Some, ◌==◌, if◌then◌else◌, ◌⊎◌}
use Rattle.store_core.specs.declared.shards.ShardId.{ShardId}
use Rattle.store_core.specs.declared.part_keys.PartKey.{PartKey}
use Rattle.store_core.specs.declared.calls.Call.TheVariants as calls
use Rattle.store_core.specs.declared.replies.Reply.{Reply}
use Rattle.store_core.specs.declared.replies.Reply.TheVariants as replies
use Rattle.store_core.specs.declared.outcomes.Outcome.TheVariants.{Took}
use Rattle.store_core.specs.declared.entries.Entry.{Entry}
use Rattle.store_core.specs.Changes.{commits}
use Rattle.store_core.specs.Stores.{Stored}
use Rattle.store_core.specs.Histories.{reply}
use Rattle.store_core.specs.Newest.{replay_back}
use Rattle.state_core.specs.declared.transitions.Transition.{Transition}
use Rattle.state_core.specs.Lists.{Among}
use Rattle.state_core.specs.States.{ShardState}
use Rattle.version_codec.specs.Reading.{version_in}
use Rattle.history_core.specs.Histories.{took_effect}
use Rattle.history_core.specs.Discipline.{IsCasUnder, IsGot}

-- an entry, and the entries before it
pub record Placed : Type 0 where
  pub entry : Entry
  pub before : List Entry

-- an entry at its place
abbrev pub placed : Entry → List Entry → Placed
placed e es = record { entry = e; before = es }

-- the newest entries of a client, as many as a number says
abbrev pub places : ℕ → ℕ → List Entry → List Placed
places client zero es = []
places client (suc n) [] = []
places client (suc n) (e ∷ es) = if e.client == client then placed e es ∷ places client n es else places client (suc n) es

-- the store that the entry came to
abbrev pub store_at : Stored → Placed → Stored
store_at start p = replay_back start p.before

-- the reply that it had
abbrev pub reply_at : Stored → Placed → Reply
reply_at start p = reply (store_at start p) p.entry

-- P holds of exactly one element, and Q holds of that one
abbrev pub OnlyOne : {A : Type 0} → (A → Type 0) → (A → Type 0) → List A → Type 0
OnlyOne P Q [] = ⊥
OnlyOne P Q (x ∷ xs) = (P x × Q x × (¬ Among P xs)) ⊎ ((¬ P x) × OnlyOne P Q xs)

-- the entry committed a version of the shard: it is a Cas that took effect
pub record Commits (start : Stored) (shard : ShardId) (p : Placed) : Type 0 where
  pub expected : Option ℕ
  pub bytes : List ℕ
  pub call_is : p.entry.call ≡ calls.Cas shard expected bytes
  pub took : took_effect p.entry.outcome ≡ true
  pub commit : commits ((store_at start p).logs shard) expected ≡ true

-- the entry committed a version whose transition spends this token of this member
abbrev pub CommitsUnder : Stored → ShardId → ℕ → ℕ → Placed → Type 0
CommitsUnder start shard member token p = Commits start shard p × IsCasUnder shard member token p.entry.call

-- the entry is a Cas that carries this transition and was answered Committed as this version
pub record CommittedAs (start : Stored) (shard : ShardId) (step : Transition) (version : ℕ) (p : Placed) : Type 0 where
  pub expected : Option ℕ
  pub bytes : List ℕ
  pub to : ShardState
  pub call_is : p.entry.call ≡ calls.Cas shard expected bytes
  pub reply_is : reply_at start p ≡ replies.Committed version
  pub carries : version_in shard version bytes ≡ Some (to, step)

-- the entry is a Scan of the shard that was answered
abbrev pub IsAnsweredScan : ShardId → Placed → Type 0
IsAnsweredScan shard p = ((from : ℕ) × (p.entry.call ≡ calls.Scan shard from)) × (p.entry.outcome ≡ Took)

-- P holds of the last answered Scan
abbrev pub AtLastScan : ShardId → (Placed → Type 0) → List Placed → Type 0
AtLastScan shard P [] = ⊥
AtLastScan shard P (p ∷ ps) = (IsAnsweredScan shard p × P p) ⊎ ((¬ IsAnsweredScan shard p) × AtLastScan shard P ps)

-- the entry is a Get of the key, answered with bytes
abbrev pub GetsBytes : Stored → PartKey → Placed → Type 0
GetsBytes start key p = (b : List ℕ) × IsGot key b p.entry.call (reply_at start p)

-- since the last answered Scan a Get of the key was answered with bytes
abbrev pub GotSinceScan : Stored → ShardId → PartKey → List Placed → Type 0
GotSinceScan start shard key [] = ⊥
GotSinceScan start shard key (p ∷ ps) = (¬ IsAnsweredScan shard p) × (GetsBytes start key p ⊎ GotSinceScan start shard key ps)
