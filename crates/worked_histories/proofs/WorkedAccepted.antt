-- What the worked history appends, step by step, and the store that it leaves.
use Rattle.std.proofs.Common.{◌≡◌, Some, None, [], ◌∷◌, refl}
use Rattle.store_core.specs.Histories.{reply, store_after}
use Rattle.store_core.specs.declared.calls.Call.TheVariants.{Get}
use Rattle.store_core.specs.declared.replies.Reply.TheVariants.{Bytes}
use Rattle.history_core.specs.Stands.{accepted_of}
use Rattle.worked_histories.specs.Worked.{the_shard, key, early_row, late_row, early_part, late_part, merged_part, version8}
use Rattle.worked_histories.specs.WorkedTrail.{did, worked, first_calls}
use Rattle.worked_histories.proofs.WorkedVersions.{reads1, reads2, reads3, reads4, reads5, reads6, reads7, reads8}
use Rattle.worked_histories.proofs.WorkedParts.{reads_early, reads_late}

pub accepted_before : accepted_of the_shard [] (first_calls 8) ≡ []
accepted_before = simp (reads1, reads2, reads3)

pub accepted_early : accepted_of the_shard [] (first_calls 9) ≡ early_row ∷ []
accepted_early = simp (reads1, reads2, reads3, reads4, reads_early)

pub accepted_late : accepted_of the_shard [] (first_calls 11) ≡ early_row ∷ late_row ∷ []
accepted_late = simp (reads1, reads2, reads3, reads4, reads5, reads_early, reads_late)

pub accepted_all : accepted_of the_shard [] worked ≡ early_row ∷ late_row ∷ []
accepted_all = simp (reads1, reads2, reads3, reads4, reads5, reads6, reads7, reads8, reads_early, reads_late)

pub last_alone : (store_after worked).logs the_shard ≡ record { first = 8; versions = version8 ∷ [] }
last_alone = refl

pub early_gone : (store_after worked).blobs (key 0 1) ≡ None
early_gone = refl

pub late_gone : (store_after worked).blobs (key 0 2) ≡ None
late_gone = refl

pub merged_there : (store_after worked).blobs (key 1 1) ≡ Some merged_part
merged_there = refl

-- the reader, whose hold stands, still gets what the merge has taken
pub early_held : reply (store_after (first_calls 17)) (did 2 (Get (key 0 1))) ≡ Bytes (Some early_part)
early_held = refl

pub late_held : reply (store_after (first_calls 17)) (did 2 (Get (key 0 2))) ≡ Bytes (Some late_part)
late_held = refl
