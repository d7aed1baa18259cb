-- What has come to a history since another.
use Rattle.std.specs.Prelude.{ℕ, ◌+◌, ◌-◌, ◌^◌, ◌≤◌, min, List, [], ◌∷◌, length, drop, Option, Some, None}
use Rattle.store_core.specs.declared.entries.Entry.{Entry}
use Rattle.store_core.specs.Histories.{History, faults_of}
use Rattle.store_core.specs.Ports.{with_entries}

-- the client that an entry is of
abbrev pub entry_client : Entry → ℕ
entry_client e = e.client

-- the history with these entries at its end, where it is told
abbrev pub extended : Option History → List Entry → Option History
extended None es = None
extended (Some h) es = Some (with_entries h es)

-- the entries of a history past those of an older one
abbrev pub gained : Option History → Option History → List Entry
gained None new = []
gained (Some h) None = []
gained (Some h) (Some k) = drop (length h.trail) k.trail

-- the store with the entries that have come since the history that it has, where that is told
abbrev pub since : {S : Type 0} → S → Option History → Option History → Option (S × List Entry)
since store None new = None
since store (Some h) new = Some (store, gained (Some h) new)

-- how many they are, as far as 2^64 - 1; another count where the history isn't told
abbrev pub count_since : Option History → Option History → ℕ → ℕ
count_since None new count = count
count_since (Some h) new count = min (length (gained (Some h) new)) (2 ^ 64 - 1)

-- what a store tells as it is taken in: itself and no entry, where it tells its history
abbrev pub begun : {S : Type 0} → S → Option History → Option (S × List Entry)
begun store None = None
begun store (Some h) = Some (store, [])

-- how many entries failed
abbrev pub failed_in : List Entry → ℕ
failed_in [] = 0
failed_in (e ∷ es) = faults_of e.outcome + failed_in es

-- The count has not fallen, and rose by so much at least. At its last value, 2^64 - 1, it may stand still.
pub record RoseBy (more before now : ℕ) : Type 0 where
  pub later : before ≤ now
  pub rose : min (before + more) (2 ^ 64 - 1) ≤ now
