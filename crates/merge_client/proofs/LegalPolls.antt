-- When an answer of a compactor's poll is legal, after one entry more. Entries go newest first.
use Rattle.std.proofs.Common.{◌≡◌, ℕ, ◌<◌, Option, Some, List, ◌∷◌, ◌++◌}
use Rattle.std.proofs.Common.{sym, ap, subst, ◌∙◌, arith}
use Rattle.std.specs.Prelude.{IfSome, IsSomeAnd}
use Rattle.update_core.specs.declared.updates.Update.{Update}
use Rattle.store_core.specs.declared.replies.Reply.{Reply}
use Rattle.store_core.specs.declared.entries.Entry.{Entry}
use Rattle.store_core.specs.Histories.{reply}
use Rattle.store_core.specs.Stores.{Stored}
use Rattle.store_core.specs.Ports.{OfOthers}
use Rattle.store_core.specs.Newest.{replay_back}
use Rattle.update_core.specs.Limits.{most}
use Rattle.history_core.specs.declared.asked.Asked.{Asked}
use Rattle.history_core.specs.declared.merge_answers.MergeAnswer.{MergeAnswer}
use Rattle.history_core.specs.Discipline.{LawfulBack}
use Rattle.history_core.specs.Placing.{Placed, placed, places}
use Rattle.history_core.specs.Stands.{StandsFor}
use Rattle.history_core.specs.Upkeep.{LegalMergeAt, LegalMergeBack, LegalOfCompactor}
use Rattle.history_core.proofs.Entries.{lawful_older}
use Rattle.history_core.proofs.Gaining.{places_gained, places_others}
use Rattle.load_core.specs.declared.polls.Poll.{Poll}
use Rattle.load_core.specs.declared.polls.Poll.TheVariants as polls
use Rattle.load_core.specs.Trying as trying
use Rattle.load_core.proofs.Runs.{next_calls}
use Rattle.machine_core.specs.Machines as machines
use Rattle.merge_client.specs.declared.compactors.Compactor.{Compactor}
use Rattle.merge_client.specs.Following.{Follows}
use Rattle.merge_client.specs.Machining.{command_in, kept, machine}
use Rattle.merge_client.specs.Merging.{IsReady, call_of}
use Rattle.merge_client.specs.Merging.{shard_of}

module _ (client : ℕ) (c new : Compactor) (start : Stored) (list : List Update) (e : Entry) (others es : List Entry)
    (ready : IsReady c) (own : e.client ≡ client) (call_is : call_of c ≡ Some e.call) (of : OfOthers client others)
    (st : StandsFor start (shard_of c) list) (lawful : LawfulBack start (e ∷ (others ++ es))) (f : Follows client c start es)
    (more_is : new.storing.trying.calls ≡ trying.more c.storing.trying.calls) where
  abbrev pub here : Reply
  here = reply (replay_back start (others ++ es)) e

  abbrev pub now : List Entry
  now = e ∷ (others ++ es)

  abbrev pub Here : List Placed
  Here = places client new.storing.trying.calls now

  abbrev pub Past : List Placed
  Past = places client c.storing.trying.calls (others ++ es)

  abbrev pub Legal : Poll MergeAnswer → Type 0
  Legal poll = machines.LegalPoll machine client (kept c) new.storing.trying.calls poll start now list

  pub older : LawfulBack start (others ++ es)
  older = lawful_older start e (others ++ es) lawful

  pub entries_are : new.storing.trying.calls < most → Here ≡ placed e (others ++ es) ∷ Past
  entries_are lt =
      ap (λ n. places client n now) (next_calls c.storing.trying.calls new.storing.trying.calls more_is lt) ∙
      places_gained client c.storing.trying.calls e others es own of
      ∙ ap (λ (ps : List Placed). placed e (others ++ es) ∷ ps) (sym (places_others client c.storing.trying.calls others es of))

  pub low : new.storing.trying.calls < most → c.storing.trying.calls < most
  low lt = let one = next_calls c.storing.trying.calls new.storing.trying.calls more_is lt in omega (arith, one, lt)

  pub answered : (asked : Asked) → c.asked ≡ Some asked → (answer : MergeAnswer) →
      (new.storing.trying.calls < most → LegalMergeAt start (command_in client (kept c) asked new.storing.trying.calls) Here asked answer) →
      Legal (polls.Done answer)
  answered asked is answer h lt = subst (λ (o : Option Asked). IfSome o (λ a. LegalMergeBack start now
      (command_in client (kept c) a new.storing.trying.calls) answer)) (sym is) (h lt)

  -- to a command of its member
  pub of_member : (m : ℕ) → c.member ≡ Some m → (asked : Asked) → c.asked ≡ Some asked → (answer : MergeAnswer) →
      ((k : ℕ) → LegalMergeAt start (command_in client (kept c) asked k) Here asked answer ≡
      IsSomeAnd c.member (λ n. LegalOfCompactor start (shard_of c) n c.token Here asked answer)) →
      (new.storing.trying.calls < most → LegalOfCompactor start (shard_of c) m c.token Here asked answer) → Legal (polls.Done answer)
  of_member m named asked is answer form h = answered asked is answer (λ lt. subst (λ (T : Type 0). T)
      (sym (form new.storing.trying.calls))
      (subst (λ (o : Option ℕ). IsSomeAnd o (λ n. LegalOfCompactor start (shard_of c) n c.token Here asked answer)) (sym named) (h lt)))
