-- The member that an open is answered has joined among the entries of the open. Entries go newest first.
use Rattle.std.proofs.Common.{◌≡◌, ℕ, ◌+◌, ◌-◌, ◌≤◌, zero, suc, true, false, Option, Some, List, [], ◌∷◌, inl, inr}
use Rattle.std.proofs.Common.{refl, sym, subst, length, arith}
use Rattle.std.specs.Prelude.{◌==◌, take}
use Rattle.store_core.specs.declared.shards.ShardId.{ShardId}
use Rattle.store_core.specs.declared.calls.Call.{Call}
use Rattle.store_core.specs.declared.calls.Call.TheVariants as calls
use Rattle.store_core.specs.declared.replies.Reply.{Reply}
use Rattle.store_core.specs.declared.replies.Reply.TheVariants as replies
use Rattle.store_core.specs.declared.entries.Entry.{Entry}
use Rattle.store_core.specs.Histories.{reply}
use Rattle.store_core.specs.Ports.{Answered, answered}
use Rattle.store_core.specs.Stores.{Stored}
use Rattle.store_core.specs.Newest.{mine_back, replay_back}
use Rattle.state_core.specs.Lists.{Among}
use Rattle.state_core.specs.declared.kinds.Kind.TheVariants.{Reader}
use Rattle.state_core.specs.declared.transitions.Transition.{Transition}
use Rattle.state_core.specs.declared.transitions.Transition.TheVariants.{Join}
use Rattle.state_core.specs.States.{ShardState}
use Rattle.version_codec.specs.Reading.{version_in}
use Rattle.state_core.proofs.ListLemmas.{bool_cases}
use Rattle.history_core.specs.Legal.{ReaderJoined}
use Rattle.history_core.specs.Members.{IsKindJoin, JoinedAs, KindJoins}
use Rattle.history_core.specs.Placing.{CommittedAs, Placed, placed, places, reply_at}
use Rattle.crew_core.specs.Working.{JoinsSince, past_first}

-- what holds of some of a client's newest entries at their places holds of some of them
among_newest : (P : Placed → Type 0) (Q : Answered → Type 0) (start : Stored) (client : ℕ) →
    ((e : Entry) (es : List Entry) → P (placed e es) → Q (answered e (reply (replay_back start es) e))) → (n : ℕ) (es : List Entry) →
    Among P (places client n es) → Among Q (take n (mine_back start es client))
among_newest P Q start client so zero es h = absurd h
among_newest P Q start client so (suc n) [] h = absurd h
among_newest P Q start client so (suc n) (e ∷ es) h = elim (bool_cases (e.client == client)) [
  | inl t ↦ rw t (elim (first t h) [
    | inl p ↦ inl (so e es p)
    | inr p ↦ inr (among_newest P Q start client so n es p)
  ])
  | inr t ↦ rw t (among_newest P Q start client so (suc n) es (rw t at h))
]
  where
    first : (e.client == client) ≡ true → Among P (places client (suc n) (e ∷ es)) → Among P (placed e es ∷ places client n es)
    first t h = rw t at h

-- of the first few of a list
take_more : (Q : Answered → Type 0) (n m : ℕ) (xs : List Answered) → n ≤ m → Among Q (take n xs) → Among Q (take m xs)
take_more Q zero m xs le h = absurd h
take_more Q (suc n) m [] le h = absurd h
take_more Q (suc n) zero (x ∷ xs) le h = absurd (omega arith)
take_more Q (suc n) (suc m) (x ∷ xs) le h = elim h [ inl p ↦ inl p | inr p ↦ inr (take_more Q n m xs (omega arith) p) ]

-- a Cas that carries the join, and was answered so
joins_by : (shard : ShardId) (start : Stored) (member version now lease : ℕ) (e : Entry) (es : List Entry) →
    (c : CommittedAs start shard (Join Reader now lease) version (placed e es)) → c.to.next_member ≡ member + 1 →
    IsKindJoin Reader shard member e.call (reply (replay_back start es) e)
joins_by shard start member version now lease e es c next =
    subst (λ (q : Call). IsKindJoin Reader shard member q (reply (replay_back start es) e)) (sym c.call_is)
    (subst (λ (r : Reply). IsKindJoin Reader shard member (calls.Cas shard c.expected c.bytes) r) (sym c.reply_is)
    (refl, subst (λ (o : Option (ShardState × Transition)). KindJoins o Reader member) (sym c.carries) (refl, next)))

pub joins_since : JoinsSince
joins_since start shard client count calls es member version now lease since joined room =
    take_more (λ o. IsKindJoin Reader shard member o.entry.call o.reply) calls (length own - count) own (fits calls count (length own) room)
    (among_newest
    (λ p. (c : CommittedAs start shard (Join Reader now lease) version p) × (c.to.next_member ≡ member + 1) × (c.to.since ≡ since))
    (λ o. IsKindJoin Reader shard member o.entry.call o.reply) start client
    (λ e es k. joins_by shard start member version now lease e es k.0 k.1) calls es joined)
  where
    own : List Answered
    own = mine_back start es client

    fits : (n k m : ℕ) → k + n ≤ m → n ≤ m - k
    fits n k m h = omega arith

pub stays_since : (count : ℕ) (shard : ShardId) (member : ℕ) (o : Answered) (own : List Answered) →
    JoinedAs Reader (past_first count own) shard member → JoinedAs Reader (past_first count (o ∷ own)) shard member
stays_since count shard member o own h = by (length own - count) refl h
  where
    Q : Answered → Type 0
    Q a = IsKindJoin Reader shard member a.entry.call a.reply

    more : (n k m : ℕ) → n - k ≡ suc m → suc n - k ≡ suc (suc m)
    more n k m e = omega arith

    by : (n : ℕ) → length own - count ≡ n → Among Q (take (length own - count) own) → Among Q (take (length (o ∷ own) - count) (o ∷ own))
    by zero e k = absurd (subst (λ (n : ℕ). Among Q (take n own)) e k)
    by (suc m) e k = subst (λ (n : ℕ). Among Q (take n (o ∷ own))) (sym (more (length own) count m e))
        (inr (subst (λ (n : ℕ). Among Q (take n own)) e k))
