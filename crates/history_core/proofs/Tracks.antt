-- The versions of a shard that ever were, as a track: by number the state and the transition of each, wherever they are kept.
-- What an entry does to a track, to the bytes of keys and to what is live, is all that the passes on presence and content use.
use Rattle.std.proofs.Common.{◌≡◌, ℕ, ◌+◌, ◌<◌, ◌≤◌, List, [], ◌⊎◌, sym, ap, Some, None, Option, arith, subst}
use Rattle.update_core.specs.declared.updates.Update.{Update}
use Rattle.store_core.specs.declared.shards.ShardId.{ShardId}
use Rattle.store_core.specs.declared.part_keys.PartKey.{PartKey}
use Rattle.store_core.specs.Stores.{Stored}
use Rattle.store_core.specs.Ports.{Answered}
use Rattle.state_core.specs.declared.transitions.Transition.{Transition}
use Rattle.state_core.specs.States.{ShardState, IsState, Names, floor}
use Rattle.state_core.specs.Steps.{Applies, Takes, init}
use Rattle.history_core.specs.Discipline.{StoredAs, GotAs, Holds}
use Rattle.history_core.specs.Stands.{KeysKept, appended_by}

-- the number of the first, that of the next, and what each is
pub record Track : Type 0 where
  pub low : ℕ
  pub next : ℕ
  pub item : ℕ → Option (ShardState × Transition)

-- version n has this state
abbrev pub HasState : Track → ℕ → ShardState → Type 0
HasState t n s = (x : Transition) × (t.item n ≡ Some (s, x))

-- version n takes the key
abbrev pub TakesAt : Track → ℕ → PartKey → Type 0
TakesAt t n k = (s : ShardState) × (x : Transition) × (t.item n ≡ Some (s, x)) × Takes x k

-- n is the number of the last
abbrev pub EndsAt : Track → ℕ → Type 0
EndsAt t n = n + 1 ≡ t.next

-- a version has one state
pub state_one : (t : Track) (n : ℕ) (s s2 : ShardState) → HasState t n s → HasState t n s2 → s ≡ s2
state_one t n s s2 h g = let a = h.1 in let b = g.1 in let e : (s, h.0) ≡ (s2, g.0) = cc in ap (λ (p : ShardState × Transition). p.0) e

-- the last version has one state
pub last_one : (t : Track) (m n : ℕ) (s s2 : ShardState) → EndsAt t m → HasState t m s → EndsAt t n → HasState t n s2 →
    (m ≡ n) × (s ≡ s2)
last_one t m n s s2 a h b g =
    let e : n ≡ m = (let a2 : m + 1 ≡ t.next = a in let b2 : n + 1 ≡ t.next = b in omega arith) in
    (sym e, state_one t m s s2 h (subst (λ (j : ℕ). HasState t j s2) e g))

-- what holds of the track of a lawful history
pub record Sound (shard : ShardId) (t : Track) : Type 0 where
  pub rules : (n : ℕ) (s : ShardState) → HasState t n s → IsState s
  pub of_shard : (n : ℕ) (s : ShardState) → HasState t n s → s.shard ≡ shard
  pub number : (n : ℕ) (s : ShardState) → HasState t n s → s.number ≡ n
  pub below : (n : ℕ) (s : ShardState) → HasState t n s → n < t.next
  -- what no transition lowers is lowered by no version
  pub rises : (f : ShardState → ℕ) → ((a b : ShardState) (x : Transition) → Applies a x b → f a ≤ f b) → (m n : ℕ) → m ≤ n →
      (s s2 : ShardState) → HasState t m s → HasState t n s2 → f s ≤ f s2
  pub keys : (n : ℕ) (s : ShardState) → EndsAt t n → HasState t n s → KeysKept shard (HasState t) (TakesAt t) s

-- one more version, made of the last
pub record Grown (old new : Track) : Type 0 where
  pub n : ℕ
  pub from : ShardState
  pub to : ShardState
  pub step : Transition
  pub last : EndsAt old n
  pub from_is : HasState old n from
  pub applies : Applies from step to
  pub ends : new.next ≡ old.next + 1
  pub after : (m : ℕ) (s : ShardState) → HasState new m s → HasState old m s ⊎ ((m ≡ n + 1) × (s ≡ to))

-- the first version
pub record Begun (shard : ShardId) (old new : Track) : Type 0 where
  pub empty : old.next ≡ 0
  pub ends : new.next ≡ 1
  pub first : (n : ℕ) (s : ShardState) → HasState new n s → init shard ≡ s

-- a number that isn't above a floor that was
pub record Reached (t : Track) (below : ℕ) : Type 0 where
  pub m : ℕ
  pub s : ShardState
  pub state : HasState t m s
  pub low : below ≤ floor s

-- What an entry does to the track and to what is live, and the rows that it appends to the list.
pub data Move (shard : ShardId) (old new : Track) (store store2 : Stored) (own : List Answered) (was is : ℕ → Type 0) (rows : List Update) : Type 0 where
  still : new ≡ old → ((n : ℕ) → was n → is n) → rows ≡ [] → Move shard old new store store2 own was is rows
  cuts : new ≡ old → (below : ℕ) → Reached old below → ((n : ℕ) → below ≤ n → was n → is n) → rows ≡ [] →
      Move shard old new store store2 own was is rows
  begins : Begun shard old new → is 0 → rows ≡ [] → Move shard old new store store2 own was is rows
  grows : (g : Grown old new) → Holds own g.step → ((k : PartKey) → store2.blobs k ≡ store.blobs k) →
      ((n : ℕ) → was n → is n) → is (g.n + 1) → rows ≡ appended_by store (Some (g.to, g.step)) →
      Move shard old new store store2 own was is rows

-- What an entry does to the bytes of a key: none, or no version names the key, or one not above a floor that was took it.
pub data KeyMove (t : Track) (store store2 : Stored) (k : PartKey) : Type 0 where
  same : store2.blobs k ≡ store.blobs k → KeyMove t store store2 k
  unnamed : ((n : ℕ) (s : ShardState) → HasState t n s → ¬ Names s k) → KeyMove t store store2 k
  taken : (n : ℕ) → TakesAt t n k → Reached t n → KeyMove t store store2 k

-- what an entry of a lawful history does, and what its client's own entries before it tell of bytes
pub record Moved (shard : ShardId) (old new : Track) (store store2 : Stored) (own : List Answered) (was is : ℕ → Type 0) (rows : List Update) : Type 0 where
  pub move : Move shard old new store store2 own was is rows
  pub bytes : (k : PartKey) → k.shard ≡ shard → KeyMove old store store2 k
  pub stored : (k : PartKey) (b : List ℕ) → k.shard ≡ shard → StoredAs own k b →
      (store.blobs k ≡ Some b) ⊎ ((n : ℕ) × TakesAt old n k)
  pub got : (k : PartKey) (b : List ℕ) → k.shard ≡ shard → GotAs own k b → (store.blobs k ≡ None) ⊎ (store.blobs k ≡ Some b)
