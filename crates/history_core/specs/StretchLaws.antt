-- What a stretch of later entries leaves as it was, and what is there after a lawful history.
use Rattle.std.specs.Prelude.{◌≡◌, ℕ, ◌≤◌, ◌⊎◌, false, List, [], ◌∷◌, ◌++◌, reverse, Option, None}
use Rattle.std.specs.List.{AllByRecursion}
use Rattle.update_core.specs.declared.updates.Update.{Update}
use Rattle.update_core.specs.Collections.{listen_answer, step}
use Rattle.store_core.specs.declared.shards.ShardId.{ShardId}
use Rattle.store_core.specs.declared.part_keys.PartKey.{PartKey}
use Rattle.store_core.specs.declared.calls.Call.{Call}
use Rattle.store_core.specs.declared.outcomes.Outcome.{Outcome}
use Rattle.store_core.specs.declared.entries.Entry.{Entry}
use Rattle.store_core.specs.Stores.{Stored, no_log}
use Rattle.store_core.specs.Histories.{History, store_after, with_entry, entry_of}
use Rattle.store_core.specs.Ports.{with_entries}
use Rattle.store_core.specs.Newest.{mine_back}
use Rattle.state_core.specs.Lists.{Among}
use Rattle.state_core.specs.States.{ShardState, IsState, Names, is_writer, keys_of}
use Rattle.state_core.specs.Steps.{Stands}
use Rattle.history_core.specs.Discipline.{Allows, Lawful, LawfulBack, Owns, GotAs, Hold}
use Rattle.history_core.specs.Stands.{StandsFor, accepted_of}
use Rattle.history_core.specs.Questions.{ending_past}
use Rattle.history_core.specs.Accepting.{is_cas}
use Rattle.history_core.specs.Laws.{LastIs}
use Rattle.history_core.specs.Answers.{own_of, own_past}
use Rattle.history_core.specs.Legal.{collection_in}
use Rattle.history_core.specs.Costs.{commits_among}

-- no entry of the client is a Cas
abbrev pub NoCasOf : ℕ → List Entry → Type 0
NoCasOf c es = AllByRecursion (λ e. e.client ≡ c → is_cas e.call ≡ false) es

-- While its owner makes no Cas, a member's hold doesn't rise above the number that was the last one at the beginning.
abbrev pub HoldStays : Type 0
HoldStays =
    (shard : ShardId) (list : List Update) (h : History) (later : List Entry) → StandsFor h.start shard list →
    Lawful (with_entries h later) → (n : ℕ) (s : ShardState) → LastIs (store_after h) shard n s →
    (c member : ℕ) → Owns (own_of h c) shard member → NoCasOf c later →
    (number : ℕ) (last : ShardState) → LastIs (store_after (with_entries h later)) shard number last →
    AllByRecursion (λ m. m.number ≡ member → m.hold ≤ n) last.members

-- And where meanwhile a key that the state at the beginning names was absent, the member stands no more as one that holds.
abbrev pub MissingIsGone : Type 0
MissingIsGone =
    (shard : ShardId) (list : List Update) (h : History) (later : List Entry) → StandsFor h.start shard list →
    Lawful (with_entries h later) → (n : ℕ) (s : ShardState) → LastIs (store_after h) shard n s →
    (c member : ℕ) → Owns (own_of h c) shard member → NoCasOf c later →
    (mid rest : List Entry) → later ≡ mid ++ rest →
    (k : PartKey) → Names s k → (store_after (with_entries h mid)).blobs k ≡ None →
    (number : ℕ) (last : ShardState) → LastIs (store_after (with_entries h later)) shard number last →
    ¬ Stands member (λ m. is_writer m.kind ≡ false) last.members

-- Where none of the later entries commits a version of the shard, its last version and the accepted list stay.
abbrev pub QuietStays : Type 0
QuietStays =
    (shard : ShardId) (list : List Update) (h : History) (later : List Entry) → StandsFor h.start shard list →
    Lawful (with_entries h later) → commits_among h.start shard (reverse later) (reverse h.trail) ≡ 0 →
    ((n : ℕ) (s : ShardState) → LastIs (store_after h) shard n s → LastIs (store_after (with_entries h later)) shard n s) ×
    (accepted_of shard list (with_entries h later) ≡ accepted_of shard list h) ×
    ((store_after h).logs shard ≡ no_log → (store_after (with_entries h later)).logs shard ≡ no_log)

-- One more call that its client's own entries allow keeps a history lawful.
abbrev pub OneMoreLawful : Type 0
OneMoreLawful =
    (h : History) (c : ℕ) (call : Call) (o : Outcome) → Lawful h → Allows (own_of h c) call → Lawful (with_entry h (entry_of c call o))

-- the same of entries that go newest first
abbrev pub OneMoreBack : Type 0
OneMoreBack =
    (start : Stored) (es : List Entry) (c : ℕ) (call : Call) (e : Entry) → LawfulBack start es →
    Allows (mine_back start es c) call → e.client ≡ c → e.call ≡ call → LawfulBack start (e ∷ es)

-- The number and the state of a shard's last version are one.
abbrev pub LastIsOne : Type 0
LastIsOne =
    (store : Stored) (shard : ShardId) (n m : ℕ) (s t : ShardState) → LastIs store shard n s → LastIs store shard m t → (n ≡ m) × (s ≡ t)

-- After a lawful history a shard has no version and nothing is accepted, or it has a last version, with a state of the shard.
abbrev pub EmptyOrLast : Type 0
EmptyOrLast =
    (shard : ShardId) (list : List Update) (h : History) → StandsFor h.start shard list → Lawful h →
    (((store_after h).logs shard ≡ no_log) × (accepted_of shard list h ≡ [])) ⊎
    ((n : ℕ) × (s : ShardState) × LastIs (store_after h) shard n s × IsState s × (s.shard ≡ shard))

-- Each row of a step that the collection gives a listen stands among the updates that were got.
abbrev pub StepRowsStand : Type 0
StepRowsStand =
    (shard : ShardId) (list : List Update) (h : History) (later : List Entry) →
    StandsFor h.start shard list → Lawful (with_entries h later) →
    (n : ℕ) (s : ShardState) → LastIs (store_after h) shard n s → (f to : Option ℕ) (rows : List Update) →
    listen_answer (collection_in (accepted_of shard list h) s) f ≡ step rows to → (client : ℕ) (updates : List Update) →
    Hold (GotAs (own_past h later client)) (keys_of (ending_past f s.batches)) updates →
    (u : Update) → Among (λ v. v ≡ u) rows → Among (λ v. v ≡ u) updates
