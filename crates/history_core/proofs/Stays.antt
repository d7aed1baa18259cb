-- The bytes of a key stay, or go.
use Rattle.std.proofs.Common.{◌≡◌, ℕ, List, [], ◌∷◌, ◌++◌, ◌⊎◌, inl, inr, sym, ap, ◌∙◌, Some, None}
use Rattle.store_core.specs.declared.shards.ShardId.{ShardId}
use Rattle.store_core.specs.declared.part_keys.PartKey.{PartKey}
use Rattle.store_core.specs.declared.entries.Entry.{Entry}
use Rattle.store_core.specs.Stores.{Stored}
use Rattle.store_core.specs.Newest.{replay_back}
use Rattle.history_core.specs.Discipline.{LawfulBack}
use Rattle.history_core.proofs.Entries.{BlobStep, same, set, gone, blob_step, lawful_older}
use Rattle.history_core.proofs.Blobs.{Begins, allowed_set, Origin, origins, origin_older, origin_same}

module _ (start : Stored) (shard : ShardId) (start_member : ℕ) (begin : Begins start shard start_member) where
  -- from some place on a key holds the bytes that it held there, or none
  pub bytes_stay : (fs es : List Entry) → LawfulBack start (fs ++ es) → (k : PartKey) (b : List ℕ) → k.shard ≡ shard → (replay_back start es).blobs k ≡ Some b →
      Origin start shard start_member begin (fs ++ es) k b × (((replay_back start (fs ++ es)).blobs k ≡ None) ⊎ ((replay_back start (fs ++ es)).blobs k ≡ Some b))
  bytes_stay [] es l k b here h = (origins start shard start_member begin es l k b here h, inr h)
  bytes_stay (f ∷ fs) es l k b here h =
      let before = lawful_older start f (fs ++ es) l in
      let (o, holds) = bytes_stay fs es before k b here h in
      (origin_older start shard start_member begin f (fs ++ es) k b o, step f (fs ++ es) l before k b here o holds (blob_step k (replay_back start (fs ++ es)) f.call f.outcome))
    where
      step : (e : Entry) (ds : List Entry) → LawfulBack start (e ∷ ds) → LawfulBack start ds → (k : PartKey) (b : List ℕ) → k.shard ≡ shard → Origin start shard start_member begin ds k b →
          (((replay_back start ds).blobs k ≡ None) ⊎ ((replay_back start ds).blobs k ≡ Some b)) → BlobStep k (replay_back start ds) e.call e.outcome → ((replay_back start (e ∷ ds)).blobs k ≡ None) ⊎ ((replay_back start (e ∷ ds)).blobs k ≡ Some b)
      step e ds l2 before k b here o holds (same q) = elim holds [ inl n ↦ inl (q ∙ n) | inr n ↦ inr (q ∙ n) ]
      step e ds l2 before k b here o holds (set bytes c q) =
          inr (q ∙ ap Some (sym (origin_same start shard start_member begin ds before e.client k b bytes here o (allowed_set start shard start_member begin e ds k bytes l2 c))))
      step e ds l2 before k b here o holds (gone c q) = inl q
