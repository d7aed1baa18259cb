-- What rises by a transition.
use Rattle.std.proofs.Common.{◌≡◌, ◌+◌, ◌≤◌, refl, arith}
use Rattle.state_core.specs.declared.transitions.Transition.{Transition}
use Rattle.state_core.specs.declared.transitions.Transition.TheVariants.{Init, Join, Leave, Renew, Advance, Expire, Append, Merge}
use Rattle.state_core.specs.States.{ShardState, least_since}
use Rattle.state_core.specs.Steps.{Applies, without, unexpired, changed}
use Rattle.state_core.proofs.Rules.{above_raised}

-- since never falls
pub since_rises : (s s2 : ShardState) (x : Transition) → Applies s x s2 → s.since ≤ s2.since
since_rises s s2 Init a = absurd a.makes
since_rises s s2 (Join kind now lease) a = rw a.makes.effect (omega arith)
since_rises s s2 (Leave member) a = rw a.makes.effect (above_raised (least_since (without member s.members)) s.since)
since_rises s s2 (Renew member now) a = rw a.makes.effect (omega arith)
since_rises s s2 (Advance member to) a = rw a.makes.effect (above_raised (least_since (changed member (λ m. record m { since = to }) s.members)) s.since)
since_rises s s2 (Expire now) a = rw a.makes.effect (above_raised (least_since (unexpired now s.members)) s.since)
since_rises s s2 (Append member token expected new parts rows weight) a = rw a.makes.effect (omega arith)
since_rises s s2 (Merge member token left right merged) a = rw a.makes.effect (omega arith)

-- the number rises by one
pub number_rises : (s s2 : ShardState) (x : Transition) → Applies s x s2 → s2.number ≡ s.number + 1
number_rises s s2 Init a = absurd a.makes
number_rises s s2 (Join kind now lease) a = rw a.makes.effect refl
number_rises s s2 (Leave member) a = rw a.makes.effect refl
number_rises s s2 (Renew member now) a = rw a.makes.effect refl
number_rises s s2 (Advance member to) a = rw a.makes.effect refl
number_rises s s2 (Expire now) a = rw a.makes.effect refl
number_rises s s2 (Append member token expected new parts rows weight) a = rw a.makes.effect refl
number_rises s s2 (Merge member token left right merged) a = rw a.makes.effect refl

-- the shard stays
pub shard_stays : (s s2 : ShardState) (x : Transition) → Applies s x s2 → s2.shard ≡ s.shard
shard_stays s s2 Init a = absurd a.makes
shard_stays s s2 (Join kind now lease) a = rw a.makes.effect refl
shard_stays s s2 (Leave member) a = rw a.makes.effect refl
shard_stays s s2 (Renew member now) a = rw a.makes.effect refl
shard_stays s s2 (Advance member to) a = rw a.makes.effect refl
shard_stays s s2 (Expire now) a = rw a.makes.effect refl
shard_stays s s2 (Append member token expected new parts rows weight) a = rw a.makes.effect refl
shard_stays s s2 (Merge member token left right merged) a = rw a.makes.effect refl
