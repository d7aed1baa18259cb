-- Each row of a step stands in a part that was got since the command's last Scan. Entries go newest first.
use Rattle.std.proofs.Common.{◌≡◌, ℕ, ◌<◌, Some, List, [], ◌∷◌, ◌++◌, ◌⊎◌, inl, inr, subst}
use Rattle.update_core.specs.declared.updates.Update.{Update}
use Rattle.store_core.specs.declared.shards.ShardId.{ShardId}
use Rattle.store_core.specs.declared.part_keys.PartKey.{PartKey}
use Rattle.store_core.specs.declared.entries.Entry.{Entry}
use Rattle.store_core.specs.Stores.{Stored}
use Rattle.store_core.specs.Newest.{mine_back, replay_back}
use Rattle.state_core.specs.Lists.{Among}
use Rattle.state_core.proofs.ListLemmas.{among_split}
use Rattle.history_core.specs.Discipline.{GotAs, Hold, IsGot}
use Rattle.history_core.specs.Placing.{Placed, places, reply_at}
use Rattle.history_core.specs.Readings.{rows_in}
use Rattle.read_machine.specs.Questions.{NoScanOf, own_count}
use Rattle.read_machine.proofs.Places.{since_got}
use Rattle.read_client.specs.Asking.{GetsRow, RowGot}

-- the row stands in the part that P gives bytes of
pub record RowIn (P : PartKey → List ℕ → Type 0) (row : Update) : Type 0 where
  pub key : PartKey
  pub bytes : List ℕ
  pub part : List Update
  pub given : P key bytes
  pub reads : rows_in bytes ≡ Some part
  pub stands : Among (λ other. other ≡ row) part

-- each row that parts hold stands in one of them
pub row_in : (P : PartKey → List ℕ → Type 0) (keys : List PartKey) (rows : List Update) (row : Update) → Hold P keys rows →
    Among (λ other. other ≡ row) rows → RowIn P row
row_in P [] rows row none among = absurd (subst (Among (λ other. other ≡ row)) none among)
row_in P (k ∷ ks) rows row (b, first, rest, given, reads, parted, others) among =
    elim (among_split (λ other. other ≡ row) first rest (subst (Among (λ other. other ≡ row)) parted among)) [
      | inl here ↦ record { key = k; bytes = b; part = first; given = given; reads = reads; stands = here }
      | inr there ↦ row_in P ks rest row others there
    ]

-- and where the bytes were got since a Scan, the row was got since the last answered Scan
pub row_since : (client n : ℕ) (start : Stored) (shard : ShardId) (row : Update) (later : List Entry) (scan : Entry)
    (before : List Entry) →
    NoScanOf client shard later → own_count client later < n →
    RowIn (GotAs (mine_back (replay_back start (scan ∷ before)) later client)) row →
    RowGot start shard (places client n (later ++ (scan ∷ before))) row
row_since client n start shard row later scan before quiet few h =
    since_got client n start shard h.key h.bytes (λ ps. RowGot start shard ps row) (λ p ps still got.
    (still, by p ps got)) later scan before quiet few
    h.given
  where
    by : (p : Placed) (ps : List Placed) → IsGot h.key h.bytes p.entry.call (reply_at start p) ⊎ RowGot start shard ps row →
        GetsRow start row p ⊎ RowGot start shard ps row
    by p ps (inl here) = inl (h.key, h.bytes, h.part, here, h.reads, h.stands)
    by p ps (inr older) = inr older
