-- How a command over a store that was just opened ends.
use Rattle.std.proofs.Common.{not, ◌≡◌, ℕ, ◌≤◌, Bool, true, false, Option, Some, List, [], refl, sym, ap, subst, ◌∙◌}
use Rattle.causes.specs.Causes.{Rose}
use Rattle.store_core.specs.Stores.{Stored}
use Rattle.store_core.specs.Histories.{History}
use Rattle.journal_core.specs.declared.disks.Disk.{Ghosts}
use Rattle.driving.specs.StoreTurns.{EndsInFailure, Extends}
use Rattle.store_file.specs.declared.file_stores.FileStore.{FileStore}
use Rattle.store_core.specs.Contents.{stored_of}
use Rattle.journal_core.specs.Crashes.{LeavesWhereTold}
use Rattle.store_file.specs.FileStores.{disk_of, end_of, history_of, is_shut, opened_disk, store_now}
use Rattle.store_file.specs.SinceOpening.{StandsForFirst, all_done}
use Rattle.store_file.specs.Replays.{Keeps}
use Rattle.store_file.proofs.FirstCalls.{last_done, leaves_first}
use Rattle.store_file.proofs.Keeping.{keeps_stands, leaves_where_told}
use Rattle.crash_laws.specs.Accepted.{KeepsAccepted}
use Rattle.crash_laws.proofs.Keeping.{keeps_accepted}
use Rattle.persist_app.specs.DiskLefts.{KeepsAcceptedFrom, StandsWhereTold}
use Rattle.persist_app.specs.PlainEnds.{EndsPlainly}
use Rattle.persist_app.specs.TopEnds.{EndsTop}
use Rattle.persist_app.proofs.DiskOpenings.{rose_before}

-- the count that is looked at may be an earlier one
ends_since : (words : List (List ℕ)) (status : ℕ) (told told_now : Option History) (early failed failed_now : ℕ)
    (left left_now : Option (List ℕ)) (reads reads_now faults faults_now : ℕ) (taken taken_now : Option (List ℕ)) (puts puts_now : ℕ)
    → early ≤ failed
    → EndsPlainly words status told told_now failed failed_now left left_now reads reads_now faults faults_now taken taken_now puts puts_now
    → EndsPlainly words status told told_now early failed_now left left_now reads reads_now faults faults_now taken taken_now puts puts_now
ends_since words status told told_now early failed failed_now left left_now reads reads_now faults faults_now taken taken_now
    puts puts_now le e =
    record {
      statuses = e.statuses;
      complete = e.complete;
      no_command = e.no_command;
      line = e.line;
      input = e.input;
      output = e.output;
      store_failed = λ six. ((e.store_failed six).0, (rose_before early failed failed_now le (e.store_failed six).1.0, (e.store_failed six).1.1));
      damaged = e.damaged;
      members_full = e.members_full;
      spent = e.spent;
      reading = e.reading;
      store = e.store;
      lawful = e.lawful;
      idle = e.idle;
      untouched = e.untouched;
    }

pub top_since : (words : List (List ℕ)) (status : ℕ) (told told_now : Option History) (early failed failed_now : ℕ)
    (left left_now : Option (List ℕ)) (reads reads_now faults faults_now : ℕ) (taken taken_now : Option (List ℕ)) (puts puts_now : ℕ)
    → early ≤ failed
    → EndsTop words status told told_now failed failed_now left left_now reads reads_now faults faults_now taken taken_now puts puts_now
    → EndsTop words status told told_now early failed_now left left_now reads reads_now faults faults_now taken taken_now puts puts_now
top_since words status told told_now early failed failed_now left left_now reads reads_now faults faults_now taken taken_now
    puts puts_now le e =
    record {
      ingests = e.ingests;
      lawful = e.lawful;
      plain = λ none. ends_since words status told told_now early failed failed_now left left_now reads reads_now faults faults_now taken
          taken_now puts puts_now le (e.plain none);
      statuses = e.statuses;
      store_failed = e.store_failed;
      reading = e.reading;
      store = e.store;
      untouched = e.untouched;
    }

history_is : (h k : History) → Some h ≡ Some k → h ≡ k
history_is h k e = cc

same_history : (s : Stored) (h : History) → h.start ≡ s → h.trail ≡ [] → h ≡ record { start = s; trail = [] }
same_history s h start trail = λ i. record { start = start i; trail = trail i }

-- a history without calls is the start of one that has grown from it
pub started : (h k : History) → h.trail ≡ [] → Extends (Some h) (Some k) → Some h ≡ Some (record { start = k.start; trail = [] })
started h k trail (after, is, grown) =
    ap Some (same_history k.start h (sym (ap (λ (x : History). x.start) (history_is k after is) ∙ grown.start)) trail)

unshut : (shut : Bool) (before now : ℕ) → (shut ≡ true → Rose before now) → (Rose before now → ⊥) → shut ≡ false
unshut true before now rose none = absurd (none (rose refl))
unshut false before now rose none = refl

-- where a call failed, not each was done
not_each : (h : History) → EndsInFailure h → all_done h.trail ≡ true → ⊥
not_each h failure done =
    failure.failed (last_done failure.front failure.last (ap all_done (sym failure.trail) ∙ done))

-- so the store is shut
pub shut_by : (shut : Bool) (h : History) → EndsInFailure h → all_done h.trail ≡ not shut → shut ≡ true
shut_by true h failure done = refl
shut_by false h failure done = absurd (not_each h failure done)

module _ {D : Type 0} {G : Ghosts D} where
  -- a store whose disk hasn't failed is what the disk's bytes stand for
  pub stands_now : (s : FileStore D G) (before now : ℕ) → (is_shut s ≡ true → Rose before now) → (Rose before now → ⊥)
      → StandsWhereTold (disk_of s) (store_now s)
  stands_now s before now rose none h is =
      let shut = unshut (is_shut s) before now rose none in
      keeps_stands (store_now s) (end_of s) h (subst (λ (t : Stored). Keeps t (end_of s) h) (s.replayed shut) (s.kept h is shut))

  -- whatever a crash left since a store was opened stands for the store after its first calls
  pub first_calls : (s : FileStore D G) → LeavesWhereTold (StandsForFirst (history_of s)) (opened_disk s) (disk_of s)
  first_calls s = leaves_first (opened_disk s) (disk_of s) (stored_of s.start.value) s.trail.items s.told s.made s.spelled s.safe

  -- and that store for what those calls make accepted
  pub first_accepted : (s : FileStore D G) → KeepsAcceptedFrom (opened_disk s) (history_of s) (disk_of s)
  first_accepted s shard list starts lawful =
      leaves_where_told (StandsForFirst (history_of s)) (KeepsAccepted shard list (history_of s)) (opened_disk s) (disk_of s)
      (λ c first. keeps_accepted shard list (history_of s) c starts lawful first) (first_calls s)
