-- What legal answers rest on, in histories alone.
use Rattle.std.specs.Prelude.{◌≡◌, ℕ, ◌+◌, ◌<◌, false, List, ◌++◌, reverse, drop, Option, Some, ⊤}
use Rattle.std.specs.Ordering.{is_gt}
use Rattle.update_core.specs.declared.rows.Row.{Row}
use Rattle.update_core.specs.declared.updates.Update.{Update}
use Rattle.update_core.specs.Frontiers.{frontier_cmp}
use Rattle.update_core.specs.Updates.{cons, weight_of, sum_of, slice_of, OutOf}
use Rattle.update_core.specs.Collections.{snapshot_answer, listen_answer, content, step}
use Rattle.store_core.specs.declared.shards.ShardId.{ShardId}
use Rattle.store_core.specs.declared.part_keys.PartKey.{PartKey}
use Rattle.store_core.specs.declared.entries.Entry.{Entry}
use Rattle.store_core.specs.Histories.{History, reply, store_after, with_entry}
use Rattle.store_core.specs.Ports.{with_entries}
use Rattle.state_core.specs.declared.transitions.Transition.TheVariants.{Append}
use Rattle.state_core.specs.Lists.{Among}
use Rattle.state_core.specs.States.{ShardState, keys_of}
use Rattle.state_core.specs.Steps.{Stands}
use Rattle.version_codec.specs.Reading.{version_in}
use Rattle.history_core.specs.declared.asked.Asked.{Asked}
use Rattle.history_core.specs.declared.asked.Asked.TheVariants as asks
use Rattle.history_core.specs.declared.write_answers.WriteAnswer.{WriteAnswer}
use Rattle.history_core.specs.declared.read_answers.ReadAnswer.{ReadAnswer}
use Rattle.history_core.specs.Discipline.{Lawful, IsJoin, Owns, IsCasUnder, GotAs, Hold}
use Rattle.history_core.specs.Stands.{StandsFor, accepted_of, rows_under}
use Rattle.history_core.specs.Questions.{begun_by, ending_past}
use Rattle.history_core.specs.Laws.{LastIs}
use Rattle.history_core.specs.Answers.{own_of, own_past}
use Rattle.history_core.specs.Placing.{placed, places, OnlyOne, Commits, CommitsUnder}
use Rattle.history_core.specs.Legal.{collection_in, AcceptedAt, Command, LegalWrite, LegalRead}

-- Where an owned member's token in the last version is the command's and isn't 0, and each own Cas under them is the command's,
-- exactly one of these committed.
abbrev pub CommittedOnce : Type 0
CommittedOnce =
    (shard : ShardId) (list : List Update) (h : History) → StandsFor h.start shard list → Lawful h →
    (client calls member token n : ℕ) (s : ShardState) → Owns (own_of h client) shard member → LastIs (store_after h) shard n s →
    0 < token → Stands member (λ m. m.token ≡ token) s.members →
    (¬ Among (λ o. IsCasUnder shard member token o.entry.call) (drop calls (own_of h client))) →
    OnlyOne (CommitsUnder h.start shard member token) (λ p. ⊤) (places client calls (reverse h.trail))

-- Where the collection gives a snapshot rows at a place, whether a member stands there or not, the bytes that a client's later
-- Gets gave for all parts of the last version's batches that begin at the time or before hold updates with that content.
abbrev pub RowsGot : Type 0
RowsGot =
    (shard : ShardId) (list : List Update) (h : History) (later : List Entry) →
    StandsFor h.start shard list → Lawful (with_entries h later) →
    (n : ℕ) (s : ShardState) → LastIs (store_after h) shard n s → (t : ℕ) (rows : List Row) →
    snapshot_answer (collection_in (accepted_of shard list h) s) t ≡ content rows → (client : ℕ) (updates : List Update) →
    Hold (GotAs (own_past h later client)) (keys_of (begun_by t s.batches)) updates → sum_of updates t ≡ rows

-- Where it gives a listen a step there, the bytes for all parts of the batches that end past the frontier hold that slice.
abbrev pub StepGot : Type 0
StepGot =
    (shard : ShardId) (list : List Update) (h : History) (later : List Entry) →
    StandsFor h.start shard list → Lawful (with_entries h later) →
    (n : ℕ) (s : ShardState) → LastIs (store_after h) shard n s → (f to : Option ℕ) (rows : List Update) →
    listen_answer (collection_in (accepted_of shard list h) s) f ≡ step rows to → (client : ℕ) (updates : List Update) →
    Hold (GotAs (own_past h later client)) (keys_of (ending_past f s.batches)) updates → slice_of updates f to ≡ rows

-- What is accepted later lies past the upper.
abbrev pub AcceptedGrows : Type 0
AcceptedGrows =
    (shard : ShardId) (list : List Update) (h : History) (later : List Entry) →
    StandsFor h.start shard list → Lawful (with_entries h later) →
    (n : ℕ) (s : ShardState) → LastIs (store_after h) shard n s →
    (more : List Update) × (accepted_of shard list (with_entries h later) ≡ accepted_of shard list h ++ more) × OutOf s.upper more

-- Where a listen is at the upper of a place, with the slice from f up to there, its next step, at whatever later place, makes of
-- it the slice from f up to the upper there.
abbrev pub StepsJoin : Type 0
StepsJoin =
    (shard : ShardId) (list : List Update) (h : History) (later : List Entry) →
    StandsFor h.start shard list → Lawful (with_entries h later) →
    (n : ℕ) (s : ShardState) → LastIs (store_after h) shard n s →
    (m : ℕ) (last : ShardState) → LastIs (store_after (with_entries h later)) shard m last →
    (f to : Option ℕ) (rows : List Update) → is_gt (frontier_cmp f s.upper) ≡ false →
    listen_answer (collection_in (accepted_of shard list (with_entries h later)) last) s.upper ≡ step rows to →
    slice_of (accepted_of shard list h) f s.upper ++ rows ≡ slice_of (accepted_of shard list (with_entries h later)) f to

-- An entry that commits an Append of rows, whose parts hold their consolidation and whose weight is theirs, is accepted by the
-- collection at its place, and extends it by the rows.
abbrev pub AppendsAccepted : Type 0
AppendsAccepted =
    (shard : ShardId) (list : List Update) (h : History) (e : Entry) → StandsFor h.start shard list → Lawful (with_entry h e) →
    (c : Commits h.start shard (placed e (reverse h.trail))) (n : ℕ) → c.expected ≡ Some n →
    (to : ShardState) (member token expected : ℕ) (new : Option ℕ) (parts : List PartKey) (count : ℕ) (rows : List Update) →
    version_in shard (n + 1) c.bytes ≡ Some (to, Append member token expected new parts count (weight_of rows)) →
    rows_under (store_after h) parts ≡ cons rows → AcceptedAt list h.start shard rows expected new (placed e (reverse h.trail))

-- The member of a Join that is answered Committed was owned by nobody before.
abbrev pub MemberNew : Type 0
MemberNew =
    (shard : ShardId) (list : List Update) (h : History) (e : Entry) → StandsFor h.start shard list → Lawful (with_entry h e) →
    (member : ℕ) → IsJoin shard member e.call (reply (store_after h) e) → (client : ℕ) → ¬ Owns (own_of h client) shard member

-- a snapshot or a step of a listen
abbrev pub IsRead : Asked → Type 0
IsRead (asks.Snapshot t) = ⊤
IsRead (asks.Listen as_of) = ⊤
IsRead asks.Next = ⊤
IsRead _ = ⊥

-- An append has one legal answer.
abbrev pub OneAppendAnswer : Type 0
OneAppendAnswer =
    (list : List Update) (h : History) (c : Command) (rows : List Update) (expected : ℕ) (new : Option ℕ) →
    c.asked ≡ asks.Append rows expected new → (a b : WriteAnswer) → LegalWrite list h c a → LegalWrite list h c b → a ≡ b

-- A snapshot and a step of a listen have one legal answer.
abbrev pub OneReadAnswer : Type 0
OneReadAnswer =
    (list : List Update) (h : History) (c : Command) → IsRead c.asked → (a b : ReadAnswer) → LegalRead list h c a → LegalRead list h c b → a ≡ b
