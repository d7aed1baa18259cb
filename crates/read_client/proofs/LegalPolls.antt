-- What a poll of a reader comes to is legal, taken apart by what was asked. Entries go newest first.
use Rattle.std.proofs.Common.{◌≡◌, ℕ, ◌<◌, Option, Some, List, ◌∷◌, ◌++◌, sym, subst}
use Rattle.std.specs.Prelude.{⊤, IfSome}
use Rattle.update_core.specs.declared.updates.Update.{Update}
use Rattle.store_core.specs.declared.entries.Entry.{Entry}
use Rattle.store_core.specs.Stores.{Stored}
use Rattle.update_core.specs.Limits.{most}
use Rattle.history_core.specs.declared.asked.Asked.{Asked}
use Rattle.history_core.specs.declared.read_answers.ReadAnswer.{ReadAnswer}
use Rattle.history_core.specs.Legal.{AtLast, LegalReadBack}
use Rattle.history_core.specs.Placing.{AtLastScan, places}
use Rattle.load_core.specs.declared.polls.Poll.{Poll}
use Rattle.load_core.specs.declared.polls.Poll.TheVariants as polls
use Rattle.machine_core.specs.Machines as machines
use Rattle.read_client.specs.declared.readers.Reader.{Reader}
use Rattle.read_client.specs.Machining.{command_in, kept, machine}
use Rattle.read_client.specs.Polling.{ReadsParts}
use Rattle.read_client.specs.Reading.{shard_of}

-- what a poll of a reader comes to is legal
abbrev pub LegalPoll : ℕ → Reader → Reader → Poll ReadAnswer → Stored → List Entry → List Update → Type 0
LegalPoll client r new poll start es list = machines.LegalPoll machine client (kept r) new.trying.calls poll start es list

module _ (client : ℕ) (r : Reader) (list : List Update) (start : Stored) (e : Entry) (others es : List Entry) (calls : ℕ) where
  -- the entries with the one that was made last
  abbrev pub all : List Entry
  all = e ∷ (others ++ es)

  -- LegalPoll for this command, after so many calls
  abbrev pub LegalOf : Asked → Poll ReadAnswer → Type 0
  LegalOf asked (polls.Done answer) = calls < most → LegalReadBack list start all (command_in client
      (kept r) asked calls) answer × ReadsParts client (shard_of r) calls answer start all asked
  LegalOf asked polls.Spent = calls < most → AtLastScan (shard_of r) (AtLast start (shard_of r) (λ n s. n ≡ most))
      (places client calls all)
  LegalOf asked (polls.Damaged damage) = ⊥
  LegalOf asked _ = ⊤

  pub legal_poll : (new : Reader) (asked : Asked) (poll : Poll ReadAnswer) → new.trying.calls ≡ calls → r.asked ≡ Some asked →
      LegalOf asked poll → LegalPoll client r new poll start all list
  legal_poll new asked (polls.Done answer) c a h = λ less.
      subst (λ (n : ℕ). IfSome r.asked (λ asked. LegalReadBack list start all (command_in client
      (kept r) asked n) answer × ReadsParts client (shard_of r) n answer start all asked)) (sym c)
      (subst (λ (o : Option Asked). IfSome o (λ asked. LegalReadBack list start all (command_in client
      (kept r) asked calls) answer × ReadsParts client (shard_of r) calls answer start all asked)) (sym a) (h (subst (λ
      (n : ℕ). n < most) c less)))
  legal_poll new asked polls.Spent c a h = λ less.
      subst (λ (n : ℕ). AtLastScan (shard_of r) (AtLast start (shard_of r) (λ n s. n ≡ most)) (places client n all)) (sym c) (h
      (subst (λ (n : ℕ). n < most) c less))
  legal_poll new asked (polls.Damaged damage) c a h = h
  legal_poll new asked polls.Busy c a h = tt
  legal_poll new asked polls.More c a h = tt
  legal_poll new asked polls.Fault c a h = tt
