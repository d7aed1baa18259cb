-- What a client's own entries say of a member that spends tokens, and of parts and a transition under one. Entries go newest first.
use Rattle.std.specs.Prelude.{⊤, ◌≡◌, ◌⊎◌, ℕ, ◌+◌, ◌<◌, false, Option, Some, None, List, drop}
use Rattle.std.specs.List.{AllByRecursion}
use Rattle.store_core.specs.declared.shards.ShardId.{ShardId}
use Rattle.store_core.specs.declared.calls.Call.{Call}
use Rattle.store_core.specs.declared.calls.Call.TheVariants as calls
use Rattle.store_core.specs.declared.entries.Entry.{Entry}
use Rattle.store_core.specs.Stores.{Stored}
use Rattle.store_core.specs.Ports.{Answered}
use Rattle.store_core.specs.Newest.{mine_back}
use Rattle.state_core.specs.declared.kinds.Kind.{Kind}
use Rattle.state_core.specs.Lists.{Among}
use Rattle.state_core.specs.States.{ShardState}
use Rattle.state_core.specs.Steps.{Stands}
use Rattle.update_core.specs.Limits.{most}
use Rattle.history_core.specs.Discipline.{IsCasUnder}
use Rattle.history_core.specs.Members.{JoinedAs}
use Rattle.history_core.specs.Placing.{Commits, Placed, places}
use Rattle.history_core.specs.Spending.{own_commits}
use Rattle.load_core.specs.declared.nexts.Next.{Next}
use Rattle.load_core.specs.declared.nexts.Next.TheVariants as nexts
use Rattle.load_core.specs.PartsFollowing.{IsSettable, IsStoredSoFar}
use Rattle.load_core.specs.Runs.{AllCarry}
use Rattle.load_core.specs.Setting as setting
use Rattle.token_machine.specs.declared.storings.Storing.{Storing}

-- a Set of a key under a token of the member
abbrev pub IsSetUnder : ShardId → ℕ → ℕ → Call → Type 0
IsSetUnder shard member token (calls.Set k b) = (k.shard ≡ shard) × (k.member ≡ member) × (k.token ≡ token)
IsSetUnder _ _ _ _ = ⊥

-- a Set or a Cas under a token of the member
abbrev pub UsesToken : ShardId → ℕ → ℕ → Call → Type 0
UsesToken shard member token call = IsSetUnder shard member token call ⊎ IsCasUnder shard member token call

-- a Cas comes after a version
abbrev pub IsAfter : Call → Type 0
IsAfter (calls.Cas shard None bytes) = ⊥
IsAfter _ = ⊤

-- the member stands with a lower token
abbrev pub Lower : ℕ → ℕ → ShardState → Type 0
Lower member token s = Stands member (λ m. m.token < token) s.members

-- A member that spends tokens: the client joined it as this kind, and no Set or Cas was made under a token above the last one drawn.
pub record Draws (kind : Kind) (shard : ShardId) (member token : ℕ) (own : List Answered) : Type 0 where
  pub joined : JoinedAs kind own shard member
  pub drawn : (later : ℕ) → token < later → ¬ Among (λ o. UsesToken shard member later o.entry.call) own

-- by what comes next, and the version for which the last Cas was: a Cas after this version was the last one, and a Scan follows it
abbrev pub IsLastCas : Next → Option ℕ → Option ℕ → Type 0
IsLastCas nexts.Scan tried (Some n) = tried ≡ Some (n + 1)
IsLastCas _ _ _ = ⊥

-- if the entry commits, it is the last Cas
abbrev pub CommitsLast : Stored → ShardId → Next → Option ℕ → Placed → Type 0
CommitsLast start shard next tried p = (c : Commits start shard p) → IsLastCas next tried c.expected

-- Parts and a transition under a token: the parts were stored as far as they are set; until all are, no Cas was made under the token.
-- The newest `calls` entries of the client are the command's: each Cas among them carries the transition and comes after a version,
-- and no entry before them has a Cas under the token.
pub record FollowsStoring (client member token : ℕ) (s : Storing) (start : Stored) (es : List Entry) : Type 0 where
  pub stored : IsStoredSoFar (mine_back start es client) s.setting
  pub settable : setting.IsOpen s.setting → IsSettable (mine_back start es client) s.trying.loader.shard member token s.setting
  pub fresh : s.trying.calls < most →
      ¬ Among (λ o. IsCasUnder s.trying.loader.shard member token o.entry.call) (drop s.trying.calls (mine_back start es client))
  pub carry : s.trying.calls < most → AllCarry s.trying client es
  pub after : s.trying.calls < most → AllByRecursion (λ p. IsAfter p.entry.call) (places client s.trying.calls es)
  -- only its last Cas can have committed, before the Scan that then comes
  pub last : s.trying.calls < most →
      AllByRecursion (CommitsLast start s.trying.loader.shard s.trying.next s.trying.tried) (places client s.trying.calls es)
  -- where no call of it failed, none of the client's entries has committed under the token
  pub unspent : s.trying.failed ≡ false → own_commits start s.trying.loader.shard client member token es ≡ 0
