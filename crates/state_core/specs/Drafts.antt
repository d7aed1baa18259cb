-- The fields of a state that are known so far, as a state.
use Rattle.state_core.specs.States.{ShardState}
use Rattle.state_core.specs.declared.drafts.Draft.{Draft}

-- the state with these fields
abbrev pub drafted : Draft → ShardState
drafted d = record { shard = d.shard; number = d.number; next_member = d.next_member; since = d.since; upper = d.upper; weight = d.weight; members = d.members; batches = d.spine }
