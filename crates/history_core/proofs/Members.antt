-- A member that joins is new.
use Rattle.std.proofs.Common.{◌≡◌, ℕ, ◌+◌, List, ◌∷◌, ◌⊎◌, inl, inr, arith, subst, ap, Some, Option}
use Rattle.std.specs.Prelude.{reverse}
use Rattle.update_core.specs.declared.updates.Update.{Update}
use Rattle.store_core.specs.declared.shards.ShardId.{ShardId}
use Rattle.store_core.specs.declared.calls.Call.{Call}
use Rattle.store_core.specs.declared.entries.Entry.{Entry}
use Rattle.store_core.specs.Stores.{Stored, next_number}
use Rattle.store_core.specs.Histories.{reply, with_entry}
use Rattle.store_core.specs.Ports.{Answered}
use Rattle.store_core.specs.Newest.{replay_back, mine_back}
use Rattle.store_core.proofs.NewestLaws.{newest-first, replay-newest, mine-newest}
use Rattle.state_core.specs.declared.transitions.Transition.{Transition}
use Rattle.state_core.specs.declared.transitions.Transition.TheVariants.{Init, Join, Leave, Renew, Advance, Expire, Append, Merge}
use Rattle.state_core.specs.States.{ShardState}
use Rattle.state_core.specs.Steps.{Applies}
use Rattle.version_codec.specs.Reading.{version_in}
use Rattle.history_core.specs.Histories.{ever}
use Rattle.history_core.specs.Discipline.{JoinsAs, IsJoin, Owns, Allows, LawfulBack}
use Rattle.history_core.specs.Stands.{StandsFor}
use Rattle.history_core.specs.AnswerLaws.{MemberNew}
use Rattle.history_core.proofs.Prefixes.{lawful_back}
use Rattle.history_core.proofs.Entries.{lawful_newest, lawful_older}
use Rattle.history_core.proofs.StateFacts.{last_one}
use Rattle.history_core.proofs.Owners.{CommitBy, CommitsFirst, commit_of, joined}
use Rattle.history_core.proofs.Standing.{owns_below}
use Rattle.history_core.proofs.Presence.{kept_at}
use Rattle.history_core.proofs.Bases.{Base, base_of}

-- a Join that makes a state gives the next member's number
joins_next : (from to : ShardState) (x : Transition) (member : ℕ) → Applies from x to → JoinsAs (Some (to, x)) member → from.next_member ≡ member
joins_next from to (Join kind now lease) member a h =
    let up : to.next_member ≡ from.next_member + 1 = ap (λ (s : ShardState). s.next_member) a.makes.effect in
    let is : to.next_member ≡ member + 1 = h in
    omega arith
joins_next from to Init member a h = absurd h
joins_next from to (Leave m) member a h = absurd h
joins_next from to (Renew m n) member a h = absurd h
joins_next from to (Advance m n) member a h = absurd h
joins_next from to (Expire n) member a h = absurd h
joins_next from to (Append b c d e f g i) member a h = absurd h
joins_next from to (Merge b c d e f) member a h = absurd h

-- nobody owned the member of a Join that is answered Committed
pub member_new : (start : Stored) (shard : ShardId) (list : List Update) → StandsFor start shard list → (e : Entry) (es : List Entry) → LawfulBack start (e ∷ es) → (member : ℕ) →
    IsJoin shard member e.call (reply (replay_back start es) e) → (client : ℕ) → ¬ Owns (mine_back start es client) shard member
member_new start shard list st e es l member join client owns =
    let j = joined shard (replay_back start es) e.call e.outcome member join in
    go j.expected j.bytes j.joins
    (commit_of start shard base.begin.first es e.client j.expected j.bytes j.commit (subst (λ (q : Call). Allows (mine_back start es e.client) q) j.call_is (lawful_newest start e es l)))
  where
    base : Base start shard list
    base = base_of start shard list st

    go : (expected : Option ℕ) (bytes : List ℕ) → JoinsAs (version_in shard (next_number expected) bytes) member →
        CommitsFirst shard (ever start shard es) expected bytes ⊎ CommitBy (mine_back start es e.client) shard (ever start shard es) expected bytes → ⊥
    go expected bytes joins (inl f) =
        let at : JoinsAs (version_in shard 0 bytes) member = subst (λ (o : Option ℕ). JoinsAs (version_in shard (next_number o) bytes) member) f.none joins in
        subst (λ (o : Option (ShardState × Transition)). JoinsAs o member) f.first at
    go expected bytes joins (inr b) =
        let m = b.commit in
        let at : JoinsAs (version_in shard (m.n + 1) bytes) member = subst (λ (o : Option ℕ). JoinsAs (version_in shard (next_number o) bytes) member) b.number joins in
        let next = joins_next m.from m.to m.step member m.applies (subst (λ (o : Option (ShardState × Transition)). JoinsAs o member) m.written at) in
        let kept = kept_at start shard base.start_member base.begin es (lawful_older start e es l) m.n m.from m.from_is in
        let below = owns_below start shard base.begin.first base.start_member es kept client member owns in
        let (same_number, same) = last_one shard (ever start shard es) kept.number m.n kept.last m.from kept.newest kept.state m.last m.from_is in
        let next2 : kept.last.next_member ≡ m.from.next_member = ap (λ (s : ShardState). s.next_member) same in
        omega arith

pub new_law : MemberNew
new_law shard list h e st l member join client owns =
    member_new h.start shard list st e (reverse h.trail) (subst (LawfulBack h.start) (newest-first h.trail e) (lawful_back (with_entry h e) l)) member
    (subst (λ (s : Stored). IsJoin shard member e.call (reply s e)) (replay-newest h.start h.trail) join) client
    (subst (λ (own : List Answered). Owns own shard member) (mine-newest h client) owns)
