-- What lasts along a lawful history.
use Rattle.std.proofs.Common.{◌≡◌, ℕ, List, ◌++◌, inl, inr, refl, subst, Some, None, Option}
use Rattle.std.specs.Prelude.{reverse}
use Rattle.update_core.specs.declared.updates.Update.{Update}
use Rattle.store_core.specs.declared.shards.ShardId.{ShardId}
use Rattle.store_core.specs.declared.part_keys.PartKey.{PartKey}
use Rattle.store_core.specs.Stores.{Stored}
use Rattle.store_core.specs.Histories.{History}
use Rattle.store_core.specs.Ports.{Answered}
use Rattle.store_core.specs.Newest.{replay_back}
use Rattle.store_core.proofs.NewestLaws.{replay-newest, mine-newest}
use Rattle.state_core.specs.declared.transitions.Transition.{Transition}
use Rattle.state_core.specs.States.{ShardState}
use Rattle.state_core.specs.Steps.{Takes}
use Rattle.version_codec.specs.Reading.{version_in}
use Rattle.history_core.specs.Histories.{Shows, version_at, ever}
use Rattle.history_core.specs.Discipline.{Owns, TakesIn}
use Rattle.history_core.specs.Stands.{StandsFor}
use Rattle.history_core.specs.Answers.{own_of}
use Rattle.history_core.specs.Lasting.{NumberOnce, OneOwner, TakenGone, BytesLast}
use Rattle.history_core.proofs.Prefixes.{lawful_back}
use Rattle.history_core.proofs.Versions.{shows_ever}
use Rattle.history_core.proofs.Chains.{version_is}
use Rattle.history_core.proofs.Blobs.{owners_at}
use Rattle.history_core.proofs.Presence.{kept_at}
use Rattle.history_core.proofs.Bases.{base_of}
use Rattle.history_core.proofs.Stays.{bytes_stay}
use Rattle.history_core.proofs.LawfulLaws.{lawful_both, store_both}

-- what entries show is the version that ever was
shown_ever : (shard : ShardId) (list : List Update) (h : History) → StandsFor h.start shard list → (c n : ℕ) (b : List ℕ) →
    Shows (own_of h c) shard n b → version_at (ever h.start shard (reverse h.trail)) n ≡ Some b
shown_ever shard list h st c n b s =
    shows_ever h.start shard (base_of h.start shard list st).begin.first (reverse h.trail) c n b
    (subst (λ (own : List Answered). Shows own shard n b) (mine-newest h c) s)

pub number_law : NumberOnce
number_law shard list h st l c d n a b s t =
    let x = shown_ever shard list h st c n a s in
    let y = shown_ever shard list h st d n b t in
    cc

pub owner_law : OneOwner
owner_law shard list h st l c d m o p =
    let base = base_of h.start shard list st in
    (owners_at h.start shard base.start_member base.begin (reverse h.trail) (lawful_back h l)).one c d m
    (subst (λ (own : List Answered). Owns own shard m) (mine-newest h c) o)
    (subst (λ (own : List Answered). Owns own shard m) (mine-newest h d) p)

takes_of : (o : Option (ShardState × Transition)) (k : PartKey) → TakesIn o k → (s : ShardState) × (x : Transition) × (o ≡ Some (s, x)) × Takes x k
takes_of (Some (s, x)) k h = (s, x, refl, h)
takes_of None k h = absurd h

pub gone_law : TakenGone
gone_law shard list h st l c d m n b s k shown takes le state named =
    let base = base_of h.start shard list st in
    let es = reverse h.trail in
    let there = shown_ever shard list h st c m b shown in
    let (t, x, reads, takes2) = takes_of (version_in shard m b) k takes in
    let (b2, y, shown2, reads2) = state in
    let at_n = version_is shard (ever h.start shard es) n b2 s y (shown_ever shard list h st d n b2 shown2) reads2 in
    let kept = kept_at h.start shard base.start_member base.begin es (lawful_back h l) n s (y, at_n) in
    kept.keys.gone m n s k (t, x, version_is shard (ever h.start shard es) m b t x there reads, takes2) le (y, at_n) named

pub bytes_law : BytesLast
bytes_law shard list h later st l k a b here was is =
    let base = base_of h.start shard list st in
    let was2 : (replay_back h.start (reverse h.trail)).blobs k ≡ Some a = subst (λ (s : Stored). s.blobs k ≡ Some a) (replay-newest h.start h.trail) was in
    let is2 : (replay_back h.start (reverse later ++ reverse h.trail)).blobs k ≡ Some b = subst (λ (s : Stored). s.blobs k ≡ Some b) (store_both h later) is in
    let (o, holds) = bytes_stay h.start shard base.start_member base.begin (reverse later) (reverse h.trail) (lawful_both h later l) k a here was2 in
    elim holds [ inl none ↦ absurd (cc) | inr some ↦ cc ]
