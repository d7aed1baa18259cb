-- A worked history over one shard: a writer, a keeper and a reader join; two appends; a merge; the reader leaves; the keeper
-- renews its hold; the merged parts are collected.
use Rattle.std.specs.Prelude.{ℕ, pos, List, [], ◌∷◌, Some}
use Rattle.update_core.specs.declared.updates.Update.{Update}
use Rattle.store_core.specs.declared.shards.ShardId.{ShardId}
use Rattle.store_core.specs.declared.part_keys.PartKey.{PartKey}
use Rattle.spine_core.specs.declared.batches.Batch.{Batch}
use Rattle.part_codec.specs.Parts.{spelling}
use Rattle.state_core.specs.declared.kinds.Kind.TheVariants.{Writer, Reader, Keeper}
use Rattle.state_core.specs.declared.members.Member.{Member}
use Rattle.state_core.specs.declared.transitions.Transition.{Transition}
use Rattle.state_core.specs.declared.transitions.Transition.TheVariants.{Init, Join, Leave, Renew, Append, Merge}
use Rattle.state_core.specs.States.{ShardState}
use Rattle.state_core.specs.Steps.{init}
use Rattle.version_codec.specs.Versions.{version_spelling}

-- the shard
abbrev pub the_shard : ShardId
the_shard = record { 0 = 1 }

-- a key of the shard
abbrev pub key : ℕ → ℕ → PartKey
key member token = record { shard = the_shard; member = member; token = token; index = 0 }

-- member 0, which writes
abbrev pub writer : ℕ → Member
writer token = record { number = 0; kind = Writer; since = 0; hold = 0; beat = 0; lease = 0; token = token }

-- member 1, which merges
abbrev pub keeper : ℕ → ℕ → ℕ → Member
keeper hold beat token = record { number = 1; kind = Keeper; since = 0; hold = hold; beat = beat; lease = 100; token = token }

-- member 2, which reads
abbrev pub reader : Member
reader = record { number = 2; kind = Reader; since = 0; hold = 3; beat = 0; lease = 100; token = 0 }

-- a batch of one part, from a time to another
abbrev pub batch : ℕ → ℕ → PartKey → ℕ → Batch
batch lower upper k rows = record { desc = record { lower = lower; upper = Some upper; since = 0 }; parts = k ∷ []; rows = rows }

-- the batches of the two appends, and of the merge
abbrev pub early_batch : Batch
early_batch = batch 0 5 (key 0 1) 1

abbrev pub late_batch : Batch
late_batch = batch 5 10 (key 0 2) 1

abbrev pub merged_batch : Batch
merged_batch = batch 0 10 (key 1 1) 2

-- the rows of the two appends: a from 1 on, and b from 6 on
abbrev pub early_row : Update
early_row = record { datum = 97 ∷ []; time = 1; diff = pos 1 }

abbrev pub late_row : Update
late_row = record { datum = 98 ∷ []; time = 6; diff = pos 1 }

-- the parts of the two appends, and of the merge
unfoldable pub early_part : List ℕ
early_part = spelling (early_row ∷ [])

unfoldable pub late_part : List ℕ
late_part = spelling (late_row ∷ [])

unfoldable pub merged_part : List ℕ
merged_part = spelling (early_row ∷ late_row ∷ [])

-- the states of versions 0 to 8
abbrev pub state0 : ShardState
state0 = init the_shard

abbrev pub state1 : ShardState
state1 = record state0 { number = 1; next_member = 1; members = writer 0 ∷ [] }

abbrev pub state2 : ShardState
state2 = record state0 { number = 2; next_member = 2; members = writer 0 ∷ keeper 2 0 0 ∷ [] }

abbrev pub state3 : ShardState
state3 = record state0 { number = 3; next_member = 3; members = writer 0 ∷ keeper 2 0 0 ∷ reader ∷ [] }

abbrev pub state4 : ShardState
state4 = record state3 {
  number = 4;
  members = writer 1 ∷ keeper 2 0 0 ∷ reader ∷ [];
  upper = Some 5;
  weight = 1;
  batches =
      early_batch ∷ [];
}

abbrev pub state5 : ShardState
state5 = record state3 {
  number = 5;
  members = writer 2 ∷ keeper 2 0 0 ∷ reader ∷ [];
  upper = Some 10;
  weight = 2;
  batches =
      early_batch ∷ late_batch ∷ [];
}

abbrev pub state6 : ShardState
state6 = record state5 { number = 6; members = writer 2 ∷ keeper 6 0 1 ∷ reader ∷ []; batches = merged_batch ∷ [] }

abbrev pub state7 : ShardState
state7 = record state6 { number = 7; members = writer 2 ∷ keeper 6 0 1 ∷ [] }

abbrev pub state8 : ShardState
state8 = record state7 { number = 8; members = writer 2 ∷ keeper 8 50 1 ∷ [] }

-- the transitions that make them
abbrev pub step1 : Transition
step1 = Join Writer 0 0

abbrev pub step2 : Transition
step2 = Join Keeper 0 100

abbrev pub step3 : Transition
step3 = Join Reader 0 100

abbrev pub step4 : Transition
step4 = Append 0 1 0 (Some 5) (key 0 1 ∷ []) 1 1

abbrev pub step5 : Transition
step5 = Append 0 2 5 (Some 10) (key 0 2 ∷ []) 1 1

abbrev pub step6 : Transition
step6 = Merge 1 1 early_batch late_batch merged_batch

abbrev pub step7 : Transition
step7 = Leave 2

abbrev pub step8 : Transition
step8 = Renew 1 50

-- the bytes of versions 0 to 8
unfoldable pub version0 : List ℕ
version0 = version_spelling state0 Init

unfoldable pub version1 : List ℕ
version1 = version_spelling state1 step1

unfoldable pub version2 : List ℕ
version2 = version_spelling state2 step2

unfoldable pub version3 : List ℕ
version3 = version_spelling state3 step3

unfoldable pub version4 : List ℕ
version4 = version_spelling state4 step4

unfoldable pub version5 : List ℕ
version5 = version_spelling state5 step5

unfoldable pub version6 : List ℕ
version6 = version_spelling state6 step6

unfoldable pub version7 : List ℕ
version7 = version_spelling state7 step7

unfoldable pub version8 : List ℕ
version8 = version_spelling state8 step8
