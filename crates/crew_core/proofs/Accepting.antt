-- A commit of an append by the client that stored its parts is accepted. Entries go newest first.
use Rattle.std.proofs.Common.{◌≡◌, ◌+◌, Some, subst}
use Rattle.state_core.specs.declared.transitions.Transition.{Transition}
use Rattle.version_codec.specs.Reading.{version_in}
use Rattle.store_core.specs.Newest.{mine_back}
use Rattle.history_core.specs.Discipline.{StoredAs}
use Rattle.history_core.proofs.Entries.{lawful_older}
use Rattle.write_client.proofs.Accepting.{accepted_at, stored_once}
use Rattle.crew_core.specs.Competing.{StorersCommitAccepted}

pub storers_law : StorersCommitAccepted
storers_law appends shard list start e es st l k n to x expected written o =
    accepted_at start shard list st e es l k n expected to o.member o.token o.append.lower o.append.upper
    o.parts o.count o.append.rows
    (subst (λ (y : Transition). version_in shard (n + 1) k.bytes ≡ Some (to, y)) o.step_is written)
    (StoredAs (mine_back start es e.client))
    (λ q b d. stored_once (mine_back start es e.client) q b d (lawful_older start e es l e.client)) (λ q b h. h) o.holds
