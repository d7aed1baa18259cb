-- A store that a crash left stands for what the first calls make accepted.
use Rattle.std.proofs.Common.{◌≡◌, ◌⊎◌, inl, inr, ℕ, List, [], ◌∷◌, ◌++◌, refl, sym, ap, subst, ◌∙◌, append_assoc}
use Rattle.update_core.specs.declared.updates.Update.{Update}
use Rattle.store_core.specs.declared.shards.ShardId.{ShardId}
use Rattle.store_core.specs.declared.calls.Call.{Call}
use Rattle.store_core.specs.declared.outcomes.Outcome.{Outcome}
use Rattle.store_core.specs.declared.entries.Entry.{Entry}
use Rattle.store_core.specs.Stores.{Stored, after_call}
use Rattle.store_core.specs.Histories.{History, store_after, replay, with_entry, entry_of}
use Rattle.store_core.specs.Ports.{with_entries}
use Rattle.history_core.specs.Discipline.{Lawful}
use Rattle.history_core.specs.Stands.{StandsFor, accepted_of}
use Rattle.store_file.specs.Replays.{Stands}
use Rattle.store_file.specs.SinceOpening.{StandsForFirst, StandsWithNext}
use Rattle.crash_laws.specs.Accepted.{only, taken, StandsForList, WithNext, KeepsAccepted, CrashKeepsAccepted, CrashInACall, FaultInACall}
use Rattle.history_core.proofs.Prefixes.{prefix_lawful}
use Rattle.history_core.proofs.LawfulLaws.{lawful_law}
use Rattle.history_core.proofs.TakenLaws.{in_progress, either_way}

-- the history is its first calls and the rest
as_first : (h : History) (front rest : List Entry) → h.trail ≡ front ++ rest → h ≡ with_entries (only h front) rest
as_first h front rest trail = λ i. record { start = h.start; trail = trail i }

first_lawful : (h : History) (front rest : List Entry) → h.trail ≡ front ++ rest → Lawful h → Lawful (only h front)
first_lawful h front rest trail lawful = prefix_lawful (only h front) rest (subst Lawful (as_first h front rest trail) lawful)

next_lawful : (h : History) (front rest : List Entry) (e : Entry) → h.trail ≡ front ++ e ∷ rest → Lawful h
    → Lawful (with_entry (only h front) (entry_of e.client e.call e.outcome))
next_lawful h front rest e trail lawful =
    first_lawful h (front ++ e ∷ []) rest (trail ∙ sym (append_assoc front (e ∷ []) rest)) lawful

pub keeps_accepted : CrashKeepsAccepted
keeps_accepted shard list h bytes starts lawful first = record {
  front = first.front;
  rest = first.rest;
  trail = first.trail;
  done = first.done;
  kept = by first.rest first.trail first.stands;
}
  where
    front : List Entry
    front = first.front

    by : (rest : List Entry) → h.trail ≡ front ++ rest → Stands (replay h.start front) bytes ⊎ StandsWithNext (replay h.start front) rest bytes
        → StandsForList shard (accepted_of shard list (only h front)) (replay h.start front) bytes ⊎ WithNext shard list h front rest bytes
    by rest trail (inl stands) = inl (record {
      opened = stands;
      stands = lawful_law shard list (only h front) starts (first_lawful h front rest trail lawful);
    })
    by [] trail (inr none) = absurd none
    by (e ∷ rest) trail (inr stands) = inr (record {
      opened = stands;
      stands = (in_progress shard list (only h front) e.client e.call e.outcome starts (next_lawful h front rest e trail lawful)).1;
    })

pub crash_in_a_call : CrashInACall
crash_in_a_call shard list h client call o bytes starts lawful (inl stands) =
    inl (record { opened = stands; stands = (in_progress shard list h client call o starts lawful).0 })
crash_in_a_call shard list h client call o bytes starts lawful (inr stands) =
    inr (record { opened = stands; stands = (in_progress shard list h client call o starts lawful).1 })

pub fault_in_a_call : FaultInACall
fault_in_a_call shard list h client call lost bytes starts all lawful (inl stands) =
    inl (record { opened = stands; stands = (either_way shard list h client call lost starts all lawful).0 })
fault_in_a_call shard list h client call lost bytes starts all lawful (inr stands) =
    inr (record { opened = stands; stands = (either_way shard list h client call lost starts all lawful).1 })
