-- The laws of histories that a reader's rows rest on, with the newest entry first.
use Rattle.std.proofs.Common.{◌≡◌, ℕ, Option, List, ◌++◌, sym, subst}
use Rattle.update_core.specs.declared.rows.Row.{Row}
use Rattle.update_core.specs.declared.updates.Update.{Update}
use Rattle.update_core.specs.Updates.{sum_of, slice_of}
use Rattle.update_core.specs.Collections.{snapshot_answer, listen_answer, content, step}
use Rattle.store_core.specs.declared.shards.ShardId.{ShardId}
use Rattle.store_core.specs.declared.entries.Entry.{Entry}
use Rattle.store_core.specs.Stores.{Stored}
use Rattle.store_core.specs.Ports.{Answered}
use Rattle.store_core.specs.Newest.{mine_back, replay_back}
use Rattle.state_core.specs.Lists.{Among}
use Rattle.state_core.specs.States.{ShardState, keys_of}
use Rattle.history_core.specs.Discipline.{GotAs, Hold, LawfulBack}
use Rattle.history_core.specs.Laws.{LastIs}
use Rattle.history_core.specs.Legal.{collection_in}
use Rattle.history_core.specs.Questions.{begun_by, ending_past}
use Rattle.history_core.specs.Stands.{StandsFor, accepted}
use Rattle.history_core.proofs.GotRows.{rows_law, step_law}
use Rattle.history_core.proofs.StepStands.{rows_stand_law}
use Rattle.read_machine.proofs.Places.{after, back_is, lawful_is, own_past_is, past, store_is}

module _ (start : Stored) (es later : List Entry) where
  -- what is got later of a snapshot's parts has the content that the collection answers
  pub rows_back : (shard : ShardId) (list : List Update) → StandsFor start shard list → LawfulBack start (later ++ es) →
      (n : ℕ) (s : ShardState) → LastIs (replay_back start es) shard n s → (t : ℕ) (rows : List Row) →
      snapshot_answer (collection_in (accepted shard list start es) s) t ≡ content rows → (client : ℕ) (updates : List Update) →
      Hold (GotAs (mine_back (replay_back start es) later client)) (keys_of (begun_by t s.batches)) updates →
      sum_of updates t ≡ rows
  rows_back shard list st l n s is t rows answer client updates held =
      rows_law shard list (past start es) (after start es later) st (lawful_is start es later l) n s (subst (λ
      (q : Stored). LastIs q shard n s) (sym (store_is start es)) is) t rows
      (subst (λ (q : List Entry). snapshot_answer (collection_in (accepted shard list start q) s) t ≡ content rows) (sym
      (back_is start es)) answer) client updates
      (subst (λ (own : List Answered). Hold (GotAs own) (keys_of (begun_by t s.batches)) updates) (sym
      (own_past_is start es later client)) held)

  -- and of a step's parts the slice
  pub step_back : (shard : ShardId) (list : List Update) → StandsFor start shard list → LawfulBack start (later ++ es) →
      (n : ℕ) (s : ShardState) → LastIs (replay_back start es) shard n s → (f to : Option ℕ) (rows : List Update) →
      listen_answer (collection_in (accepted shard list start es) s) f ≡ step rows to → (client : ℕ) (updates : List Update) →
      Hold (GotAs (mine_back (replay_back start es) later client)) (keys_of (ending_past f s.batches)) updates →
      slice_of updates f to ≡ rows
  step_back shard list st l n s is f to rows answer client updates held =
      step_law shard list (past start es) (after start es later) st (lawful_is start es later l) n s (subst (λ
      (q : Stored). LastIs q shard n s) (sym (store_is start es)) is) f to rows
      (subst (λ (q : List Entry). listen_answer (collection_in (accepted shard list start q) s) f ≡ step rows to) (sym
      (back_is start es)) answer) client updates
      (subst (λ (own : List Answered). Hold (GotAs own) (keys_of (ending_past f s.batches)) updates) (sym
      (own_past_is start es later client)) held)

  -- each row of which is one that was got
  pub stand_back : (shard : ShardId) (list : List Update) → StandsFor start shard list → LawfulBack start (later ++ es) →
      (n : ℕ) (s : ShardState) → LastIs (replay_back start es) shard n s → (f to : Option ℕ) (rows : List Update) →
      listen_answer (collection_in (accepted shard list start es) s) f ≡ step rows to → (client : ℕ) (updates : List Update) →
      Hold (GotAs (mine_back (replay_back start es) later client)) (keys_of (ending_past f s.batches)) updates →
      (row : Update) → Among (λ other. other ≡ row) rows → Among (λ other. other ≡ row) updates
  stand_back shard list st l n s is f to rows answer client updates held =
      rows_stand_law shard list (past start es) (after start es later) st (lawful_is start es later l) n s (subst (λ
      (q : Stored). LastIs q shard n s) (sym (store_is start es)) is) f to rows
      (subst (λ (q : List Entry). listen_answer (collection_in (accepted shard list start q) s) f ≡ step rows to) (sym
      (back_is start es)) answer) client updates
      (subst (λ (own : List Answered). Hold (GotAs own) (keys_of (ending_past f s.batches)) updates) (sym
      (own_past_is start es later client)) held)
