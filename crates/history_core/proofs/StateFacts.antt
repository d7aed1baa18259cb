-- What is used of the state of a version, wherever it is kept.
use Rattle.std.proofs.Common.{◌≡◌, ℕ, ◌+◌, ◌<◌, ◌≤◌, List, ◌⊎◌, inl, inr, arith, subst, sym, ◌∙◌, Some}
use Rattle.store_core.specs.declared.shards.ShardId.{ShardId}
use Rattle.store_core.specs.Stores.{Log, no_log, committed}
use Rattle.state_core.specs.declared.transitions.Transition.TheVariants.{Init}
use Rattle.state_core.specs.States.{ShardState, IsState}
use Rattle.state_core.specs.Steps.{init}
use Rattle.version_codec.specs.Reading.{version_in}
use Rattle.version_codec.proofs.Facts.{version_in_state, version_in_shard, version_in_number}
use Rattle.history_core.specs.Stands.{StateIn, VersionIs, IsLast, end_of}
use Rattle.history_core.proofs.Logs.{end_of-committed}
use Rattle.history_core.proofs.Chains.{Commit, after_commit, version_below, one_state, bytes_of}
use Rattle.history_core.proofs.KeyChains.{only_first}

-- it keeps the rules of a state
pub state_rules : (shard : ShardId) (log : Log) (n : ℕ) (s : ShardState) → StateIn shard log n s → IsState s
state_rules shard log n s h = let (b, there, reads) = bytes_of shard log n s h.0 h.1 in version_in_state shard n b s h.0 reads

-- it is of the shard
pub state_shard : (shard : ShardId) (log : Log) (n : ℕ) (s : ShardState) → StateIn shard log n s → s.shard ≡ shard
state_shard shard log n s h = let (b, there, reads) = bytes_of shard log n s h.0 h.1 in version_in_shard shard n b s h.0 reads

-- its number is that of the version
pub state_number : (shard : ShardId) (log : Log) (n : ℕ) (s : ShardState) → StateIn shard log n s → s.number ≡ n
state_number shard log n s h = let (b, there, reads) = bytes_of shard log n s h.0 h.1 in version_in_number shard n b s h.0 reads

-- there is one
pub state_one : (shard : ShardId) (log : Log) (n : ℕ) (s t : ShardState) → StateIn shard log n s → StateIn shard log n t → s ≡ t
state_one shard log n s t h g = (one_state shard log n s t h.0 g.0 h.1 g.1).0

-- its version is below the next one
pub state_below : (shard : ShardId) (log : Log) (n : ℕ) (s : ShardState) → StateIn shard log n s →
    (log.first ≤ n) × (n < end_of log)
state_below shard log n s h = version_below shard log n s h.0 h.1

-- after a commit it is what it was, or that of the new version
pub state_after : (shard : ShardId) (log : Log) (bytes : List ℕ) (c : Commit shard log bytes) (n : ℕ) (s : ShardState) →
    StateIn shard (committed log bytes) n s →
    StateIn shard log n s ⊎ ((n ≡ c.n + 1) × (s ≡ c.to))
state_after shard log bytes c n s h = elim (after_commit shard log bytes c n s h.0 h.1) [ inl g ↦ inl (h.0, g) | inr g ↦ inr (g.0, g.1) ]

-- after the first version it is the first state
pub state_first : (shard : ShardId) (bytes : List ℕ) → version_in shard 0 bytes ≡ Some (init shard, Init) →
    (n : ℕ) (s : ShardState) → StateIn shard (committed no_log bytes) n s → init shard ≡ s
state_first shard bytes d n s h = (only_first shard bytes d n s h.0 h.1).0

-- where there is no version there is none
pub state_none : (shard : ShardId) (log : Log) (n : ℕ) (s : ShardState) → log ≡ no_log → StateIn shard log n s → ⊥
state_none shard log n s e h = let g = subst (λ (l : Log). VersionIs shard l n s h.0) e h.1 in cc

-- the last version's is one
pub last_one : (shard : ShardId) (log : Log) (m n : ℕ) (s t : ShardState) → IsLast log m → StateIn shard log m s →
    IsLast log n → StateIn shard log n t → (m ≡ n) × (s ≡ t)
last_one shard log m n s t a h b g =
    let e : n ≡ m = (let a2 : m + 1 ≡ end_of log = a in let b2 : n + 1 ≡ end_of log = b in omega arith) in
    (sym e, state_one shard log m s t h (subst (λ (j : ℕ). StateIn shard log j t) e g))

-- after a commit the last version is the new one
pub last_commit : (shard : ShardId) (log : Log) (bytes : List ℕ) (c : Commit shard log bytes) (number : ℕ)
    (last : ShardState) → IsLast (committed log bytes) number →
    StateIn shard (committed log bytes) number last → (number ≡ c.n + 1) × (last ≡ c.to)
last_commit shard log bytes c number last l st =
    elim (state_after shard log bytes c number last st) [
      | inl g ↦
          let (low, high) = state_below shard log number last g in
          let l2 : number + 1 ≡ end_of log + 1 = l ∙ end_of-committed log bytes in
          absurd (omega arith)
      | inr g ↦ g
    ]
