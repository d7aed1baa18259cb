-- What one client's way to a store tells.
use Rattle.std.specs.Prelude.{◌≡◌, ◌≢◌, ℕ, ◌==◌, Option, Some, None, List, [], ◌∷◌, ◌++◌, ⊤, if◌then◌else◌}
use Rattle.std.specs.List.{AllByRecursion}
use Rattle.store_core.specs.declared.calls.Call.{Call}
use Rattle.store_core.specs.declared.replies.Reply.{Reply}
use Rattle.store_core.specs.declared.replies.Reply.TheVariants as replies
use Rattle.store_core.specs.declared.outcomes.Outcome.{Outcome}
use Rattle.store_core.specs.declared.entries.Entry.{Entry}
use Rattle.store_core.specs.declared.turns.Turn.{Turn}
use Rattle.store_core.specs.declared.turns.Turn.TheVariants as turns
use Rattle.store_core.specs.Stores.{Stored}
use Rattle.store_core.specs.Histories.{History, store_after, with_entry, entry_of, reply, next, Adds, IsReplyTo}

-- an entry with the reply at its place
pub record Answered : Type 0 where
  pub entry : Entry
  pub reply : Reply

-- an entry with a reply
abbrev pub answered : Entry → Reply → Answered
answered e r = record { entry = e; reply = r }

-- the entries of one client, each with its reply
abbrev pub mine_from : Stored → List Entry → ℕ → List Answered
mine_from s [] c = []
mine_from s (e ∷ es) c = if e.client == c then answered e (reply s e) ∷ mine_from (next s e) es c else mine_from (next s e) es c

-- the entries of one client in a history, each with the reply that it had
abbrev pub mine : History → ℕ → List Answered
mine h c = mine_from h.start h.trail c

-- the history with entries of others at its end
abbrev pub with_entries : History → List Entry → History
with_entries h es = record { start = h.start; trail = h.trail ++ es }

-- none is of the client
abbrev pub OfOthers : ℕ → List Entry → Type 0
OfOthers client es = AllByRecursion (λ e. e.client ≢ client) es

-- where the front is told, nothing but entries of others has come
abbrev pub GrowsByOthers : ℕ → Option History → Option History → Type 0
GrowsByOthers client None new = new ≡ None
GrowsByOthers client (Some h) new = (others : List Entry) × OfOthers client others × (new ≡ Some (with_entries h others))

-- new is h, then entries of others, then the call with the reply that it has there
pub record Gains (client : ℕ) (h new : History) (call : Call) (r : Reply) : Type 0 where
  pub others : List Entry
  pub of_others : OfOthers client others
  pub outcome : Outcome
  pub new_is : new ≡ with_entry (with_entries h others) (entry_of client call outcome)
  pub reply_is : r ≡ reply (store_after (with_entries h others)) (entry_of client call outcome)

-- where the front is told, a reply is one entry
abbrev pub GainsWhereTold : ℕ → Option History → Option History → Call → Reply → Type 0
GainsWhereTold client None new call r = new ≡ None
GainsWhereTold client (Some h) new call r = (k : History) × (new ≡ Some k) × Gains client h k call r

-- what a turn at a port tells of its front
abbrev pub Sees : ℕ → Option History → Option History → Call → Turn → Type 0
Sees client old new call turns.Busy = new ≡ old
Sees client old new call (turns.Reply r) = GainsWhereTold client old new call r

-- a reply is of the call's kind
abbrev pub IsTurnFor : Call → Turn → Type 0
IsTurnFor call turns.Busy = ⊤
IsTurnFor call (turns.Reply r) = IsReplyTo call r

-- the reply is Failed
abbrev pub IsFailure : Turn → Type 0
IsFailure turns.Busy = ⊥
IsFailure (turns.Reply r) = r ≡ replies.Failed

-- the turn is a reply, for one entry and no other
abbrev pub AddsTurn : Option History → Option History → ℕ → Call → Turn → Type 0
AddsTurn old new client call turns.Busy = ⊥
AddsTurn old new client call (turns.Reply r) = Adds old new client call r
