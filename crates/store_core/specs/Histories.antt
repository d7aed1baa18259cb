-- A history: a store at its start, and the entries since then.
use Rattle.std.specs.Prelude.{◌≡◌, ℕ, ◌+◌, ◌≤◌, Option, Some, None, List, [], ◌∷◌, ◌++◌, ⊤}
use Rattle.store_core.specs.declared.versions.Version.{Version}
use Rattle.store_core.specs.declared.calls.Call.{Call}
use Rattle.store_core.specs.declared.calls.Call.TheVariants as calls
use Rattle.store_core.specs.declared.replies.Reply.{Reply}
use Rattle.store_core.specs.declared.replies.Reply.TheVariants as replies
use Rattle.store_core.specs.declared.outcomes.Outcome.{Outcome}
use Rattle.store_core.specs.declared.outcomes.Outcome.TheVariants.{Took, FailedTook, FailedLost}
use Rattle.store_core.specs.declared.entries.Entry.{Entry}
use Rattle.store_core.specs.Stores.{Stored, reply_of, after_call}

-- the store after a call: one that failed took effect or didn't
abbrev pub after_outcome : Stored → Call → Outcome → Stored
after_outcome s c Took = after_call s c
after_outcome s c FailedTook = after_call s c
after_outcome s c FailedLost = s

-- the store after an entry
abbrev pub next : Stored → Entry → Stored
next s e = after_outcome s e.call e.outcome

-- the reply to a call with an outcome
abbrev pub reply_by : Stored → Call → Outcome → Reply
reply_by s c Took = reply_of s c
reply_by s c FailedTook = replies.Failed
reply_by s c FailedLost = replies.Failed

-- the reply to an entry
abbrev pub reply : Stored → Entry → Reply
reply s e = reply_by s e.call e.outcome

-- the store after entries
abbrev pub replay : Stored → List Entry → Stored
replay s [] = s
replay s (e ∷ es) = replay (next s e) es

-- a store at its start, and what it has been asked since
pub record History : Type 0 where
  pub start : Stored
  pub trail : List Entry

-- the store at the end of a history
abbrev pub store_after : History → Stored
store_after h = replay h.start h.trail

-- the history with one more entry
abbrev pub with_entry : History → Entry → History
with_entry h e = record { start = h.start; trail = h.trail ++ e ∷ [] }

-- the entry of a client's call
abbrev pub entry_of : ℕ → Call → Outcome → Entry
entry_of client call outcome = record { client = client; call = call; outcome = outcome }

-- how many faults an outcome is
abbrev pub faults_of : Outcome → ℕ
faults_of Took = 0
faults_of FailedTook = 1
faults_of FailedLost = 1

-- Where the history is told, the call is its next entry, and the reply is that entry's. Where it isn't, it stays untold.
abbrev pub Adds : Option History → Option History → ℕ → Call → Reply → Type 0
Adds None new client call r = new ≡ None
Adds (Some h) new client call r = (o : Outcome) × (new ≡ Some (with_entry h (entry_of client call o))) × (r ≡ reply (store_after h) (entry_of client call o))

-- numbers that rise by one, from n on
abbrev pub RisesFrom : ℕ → List Version → Type 0
RisesFrom n [] = ⊤
RisesFrom n (v ∷ vs) = (v.number ≡ n) × RisesFrom (n + 1) vs

-- the first number isn't below from, and each is one above the one before
abbrev pub IsScanFrom : ℕ → List Version → Type 0
IsScanFrom from [] = ⊤
IsScanFrom from (v ∷ vs) = (from ≤ v.number) × RisesFrom v.number (v ∷ vs)

-- the reply is of the call's kind, or Failed
abbrev pub IsReplyTo : Call → Reply → Type 0
IsReplyTo c replies.Failed = ⊤
IsReplyTo (calls.Head shard) (replies.Version v) = ⊤
IsReplyTo (calls.Scan shard from) (replies.Versions vs) = IsScanFrom from vs
IsReplyTo (calls.Cas shard expected bytes) (replies.Committed n) = ⊤
IsReplyTo (calls.Cas shard expected bytes) replies.Mismatch = ⊤
IsReplyTo (calls.Cas shard expected bytes) replies.Spent = ⊤
IsReplyTo (calls.Truncate shard below) replies.Truncated = ⊤
IsReplyTo (calls.Get key) (replies.Bytes b) = ⊤
IsReplyTo (calls.Set key bytes) replies.Stored = ⊤
IsReplyTo (calls.Delete key) replies.Deleted = ⊤
IsReplyTo _ _ = ⊥
