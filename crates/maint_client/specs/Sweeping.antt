-- What a collection's Scan shows, and what is left of a collection after it.
use Rattle.std.specs.Prelude.{◌≡◌, ⊤, ℕ, ◌+◌, ◌<◌, ◌≤◌, ◌^◌, Bool, true, false, nat_le, nat_lt, ◌||◌, if◌then◌else◌}
use Rattle.std.specs.Prelude.{Option, Some, None, Result, Ok, Err, List, [], ◌∷◌, ◌++◌, length}
use Rattle.std.specs.List.{list_any, slice_get}
use Rattle.std.specs.Ordering.{is_eq}
use Rattle.store_core.specs.declared.shards.ShardId.{ShardId}
use Rattle.store_core.specs.declared.part_keys.PartKey.{PartKey}
use Rattle.store_core.specs.declared.versions.Version.{Version}
use Rattle.store_core.specs.declared.calls.Call.{Call}
use Rattle.store_core.specs.declared.calls.Call.TheVariants as calls
use Rattle.store_core.specs.Stores.{key_cmp}
use Rattle.state_core.specs.declared.transitions.Transition.{Transition}
use Rattle.version_codec.specs.declared.version_faults.VersionFault.{VersionFault}
use Rattle.state_core.specs.States.{ShardState, floor}
use Rattle.state_core.specs.Steps.{taken_by}
use Rattle.version_codec.specs.Reading.{read_version}
use Rattle.load_core.specs.declared.damages.Damage.{Damage}
use Rattle.load_core.specs.declared.damages.Damage.TheVariants as damages
use Rattle.load_core.specs.declared.readings.Unread.{Unread}
use Rattle.load_core.specs.declared.readings.Unread.TheVariants as unread
use Rattle.load_core.specs.Loading.{newest_after}
use Rattle.maint_client.specs.declared.sweeps.Sweep.{Sweep}

-- ---- what a Scan shows

-- whether the key is among these
abbrev pub has_key : List PartKey → PartKey → Bool
has_key keys k = list_any (λ q. is_eq (key_cmp q k)) keys

-- the keys with one more at the end, unless it is among them
abbrev pub with_key : List PartKey → PartKey → List PartKey
with_key keys k = if has_key keys k then keys else keys ++ k ∷ []

-- the same with more keys, one after the other
abbrev pub with_keys : List PartKey → List PartKey → List PartKey
with_keys keys [] = keys
with_keys keys (k ∷ ks) = with_keys (with_key keys k) ks

-- the next step with the transition of the version that was read, unless it can't be read
abbrev pub with_step : {A : Type 0} → ℕ → Result (ShardState × Transition) VersionFault → (Transition → Result A Damage) →
    Result A Damage
with_step number (Ok read) next = next read.1
with_step number (Err fault) next = Err (damages.Version number fault)

-- the keys that were found, and then those that the versions up to a number take, each once; but the first of these versions that
-- can't be read
abbrev pub taken_after : ShardId → ℕ → List PartKey → List Version → Result (List PartKey) Damage
taken_after shard top found [] = Ok found
taken_after shard top found (v ∷ vs) =
    if nat_le v.number top
    then with_step v.number (read_version shard v.number v.bytes) (λ x. taken_after shard top (with_keys found (taken_by x)) vs)
    else taken_after shard top found vs

-- whether the first of the versions has a number below this one
abbrev pub begins_below : ℕ → List Version → Bool
begins_below at [] = false
begins_below at (v ∷ vs) = nat_lt v.number at

-- a collection of which nothing is done: of these keys, with the versions below the floor, where there are any
abbrev pub sweep_from : ℕ → List Version → Result (List PartKey) Damage → Result Sweep Damage
sweep_from at vs (Ok keys) = Ok (record { floor = at; keys = keys; place = 0; cut = begins_below at vs })
sweep_from at vs (Err damage) = Err damage

-- the collection of a shard whose newest state is this one
abbrev pub sweep_under : ShardId → List Version → Result (Option ShardState) Damage → Result Sweep Damage
sweep_under shard vs (Ok None) = Ok (record { floor = 0; keys = []; place = 0; cut = false })
sweep_under shard vs (Ok (Some s)) = sweep_from (floor s) vs (taken_after shard (floor s) [] vs)
sweep_under shard vs (Err damage) = Err damage

-- the collection that a Scan's versions ask for; but the first version that can't be read
abbrev pub sweep_of : ShardId → List Version → Result Sweep Damage
sweep_of shard vs = sweep_under shard vs (newest_after shard None vs)

-- ---- what is left

-- whether anything is left: a key, or versions below the floor
abbrev pub goes_on : Sweep → Bool
goes_on w = nat_lt w.place (length w.keys) || w.cut

-- no more keys are deleted than there are, which are at most 2^62, and something is left
pub record IsSweep (w : Sweep) : Type 0 where
  pub within : w.place ≤ length w.keys
  pub few : length w.keys ≤ 2 ^ 62
  pub left : goes_on w ≡ true

-- the Delete of a key, or the Truncate below the floor where none is left
abbrev pub call_by : ShardId → ℕ → Option PartKey → Call
call_by shard at (Some key) = calls.Delete key
call_by shard at None = calls.Truncate shard at

-- the call that comes next
abbrev pub sweep_call : ShardId → Sweep → Call
sweep_call shard w = call_by shard w.floor (slice_get w.keys w.place)

-- what is left once that call is answered
abbrev pub swept : Sweep → Sweep
swept w = if nat_lt w.place (length w.keys) then record w { place = w.place + 1 } else record w { cut = false }

-- ---- what reading gives, unless memory runs out

-- what stands in place of a result is the damage that reading meets, or want of memory
abbrev pub Gives : {A : Type 0} → Result A Unread → Result A Damage → Type 0
Gives (Ok found) read = read ≡ Ok found
Gives (Err unread.Memory) read = ⊤
Gives (Err (unread.Damaged damage)) read = read ≡ Err damage

-- what goes on with the transition of one version
abbrev pub GoesOnWith : Result Transition Unread → ℕ → Result (ShardState × Transition) VersionFault → Type 0
GoesOnWith (Ok x) number read = (next : Transition → Result (List PartKey) Damage) → with_step number read next ≡ next x
GoesOnWith (Err unread.Memory) number read = ⊤
GoesOnWith (Err (unread.Damaged damage)) number read =
    (next : Transition → Result (List PartKey) Damage) → with_step number read next ≡ Err damage

-- what goes on with one version more that is looked at
abbrev pub AddsVersion : ShardId → ℕ → Version → List PartKey → List PartKey → Result Unit Unread → Type 0
AddsVersion shard top v old new (Ok done) =
    (vs : List Version) → taken_after shard top old (v ∷ vs) ≡ taken_after shard top new vs
AddsVersion shard top v old new (Err unread.Memory) = ⊤
AddsVersion shard top v old new (Err (unread.Damaged damage)) =
    (vs : List Version) → taken_after shard top old (v ∷ vs) ≡ Err damage
