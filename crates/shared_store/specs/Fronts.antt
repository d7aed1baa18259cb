-- What a pass of a shared store has seen.
use Rattle.std.specs.Prelude.{◌≡◌, ℕ, ◌+◌, ◌-◌, ◌^◌, min, List, Option, Some, None}
use mathlib.Core.List.{IsPrefix}
use Rattle.turnstile.specs.declared.views.View.{View}
use Rattle.turnstile.specs.History.{with_more}
use Rattle.turnstile.specs.Plays.{missed, turned, gave_back}
use Rattle.store_core.specs.declared.entries.Entry.{Entry}
use Rattle.store_core.specs.declared.turns.Turn.{Turn}
use Rattle.store_core.specs.declared.turns.Turn.TheVariants as turns
use Rattle.store_core.specs.declared.replies.Reply.TheVariants as replies
use Rattle.store_core.specs.Histories.{History}
use Rattle.shared_store.specs.Trails.{extended}

module _ {S : Type 0} where
  -- the history of the store that is told, with the entries that are told at its end
  abbrev pub told_history : (S → Option History) → Option (S × List Entry) → Option History
  told_history history None = None
  told_history history (Some p) = extended (history p.0) p.1

  -- the history that a pass has seen: that of the store when it was taken in, and the entries since then that the pass has seen
  abbrev pub front_of : (S → Option History) → View S Entry → Option History
  front_of history v = told_history history (with_more v.start v.gain)

  -- after a turn the pass has seen more, and then what it added itself; nothing else of it has changed
  abbrev pub HadTurn : View S Entry → View S Entry → Type 0
  HadTurn v w = (gain : List Entry) × (own : List Entry) × IsPrefix v.gain gain × (w ≡ gave_back (turned v gain) own)

  -- a reply comes in a turn; Busy is one miss more and nothing else
  abbrev pub HadAnswer : View S Entry → View S Entry → Turn → Type 0
  HadAnswer v w turns.Busy = w ≡ missed v
  HadAnswer v w (turns.Reply r) = HadTurn v w

-- the count after a turn: one more for Failed, and at its last value it stands still
abbrev pub faults_after : Turn → ℕ → ℕ
faults_after turns.Busy count = count
faults_after (turns.Reply replies.Failed) count = min (count + 1) (2 ^ 64 - 1)
faults_after (turns.Reply r) count = count
