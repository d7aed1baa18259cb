-- What a transition that is tried prepares, carries and has seen.
use Rattle.std.proofs.Common.{◌≡◌, ℕ, ◌+◌, true, false, Result, Ok, Option, Some, None, refl, sym, ap, subst, ◌∙◌}
use Rattle.std.specs.Prelude.{IsSome}
use Rattle.store_core.specs.declared.shards.ShardId.{ShardId}
use Rattle.store_core.specs.declared.calls.Call.TheVariants as calls
use Rattle.store_core.specs.declared.replies.Reply.{Reply}
use Rattle.store_core.specs.declared.replies.Reply.TheVariants as replies
use Rattle.state_core.specs.States.{ShardState}
use Rattle.version_codec.specs.Reading.{version_in}
use Rattle.version_codec.proofs.Facts.{version_in_shard}
use Rattle.load_core.specs.declared.attempts.Attempt.TheVariants as attempts
use Rattle.load_core.specs.declared.damages.Damage.{Damage}
use Rattle.load_core.specs.declared.nexts.Next.{Next}
use Rattle.load_core.specs.declared.nexts.Next.TheVariants as nexts
use Rattle.load_core.specs.declared.readies.Ready.{Ready}
use Rattle.load_core.specs.declared.tries.Tried.{Tried}
use Rattle.load_core.specs.declared.tries.Tried.TheVariants as tries
use Rattle.load_core.specs.declared.tryings.Trying.{Trying}
use Rattle.load_core.specs.Costing.{IsPrepared}
use Rattle.load_core.specs.Loading.{newest_after}
use Rattle.load_core.specs.Runs.{OnlyCarries}
use Rattle.load_core.specs.Trying as trying
use Rattle.load_core.proofs.Causes.{newest_none}
use Rattle.load_core.proofs.Outcomes.{HowMoved, scanned, failed, cased, how_moved}

-- ---- before a call

-- what preparing changes is what comes next
pub prepares_is : (t new : Trying) → trying.Prepares t new → new ≡ trying.going t new.next
prepares_is t new prepares = go t.next refl prepares
  where
    by : (next : Next) → new ≡ trying.going t next → new ≡ trying.going t new.next
    by next e = e ∙ ap (λ (n : Next). trying.going t n) (sym (ap (λ (z : Trying). z.next) e))

    on : (c : Option ShardState) → trying.PreparesOn c t new → new ≡ trying.going t new.next
    on None e = by nexts.Scan e
    on (Some s) (a, attempts, e) = by (trying.next_by a) e

    go : (next : Next) → t.next ≡ next → trying.PreparesBy next t new → new ≡ trying.going t new.next
    go nexts.Attempt e h = on t.loader.cached h
    go nexts.Scan e h = by t.next h
    go (nexts.Cas r) e h = by t.next h

-- once it is prepared no attempt comes before the call
pub prepared_next : (t new : Trying) → trying.Prepares t new → IsPrepared new.next
prepared_next t new prepares = go t.next refl prepares
  where
    going_to : (next : Next) → new ≡ trying.going t next → IsPrepared next → IsPrepared new.next
    going_to next e is = subst (λ (z : Trying). IsPrepared z.next) (sym e) is

    same : IsPrepared t.next → new ≡ t → IsPrepared new.next
    same is e = subst (λ (z : Trying). IsPrepared z.next) (sym e) is

    on : (c : Option ShardState) → trying.PreparesOn c t new → IsPrepared new.next
    on None e = going_to nexts.Scan e tt
    on (Some s) (attempts.Refused refusal, a, e) = going_to nexts.Scan e tt
    on (Some s) (attempts.Spent, a, e) = going_to nexts.Scan e tt
    on (Some s) (attempts.Ready r, a, e) = going_to (nexts.Cas r) e tt

    go : (n : Next) → t.next ≡ n → trying.PreparesBy n t new → IsPrepared new.next
    go nexts.Attempt e p = on t.loader.cached p
    go nexts.Scan e p = same (subst IsPrepared (sym e) tt) p
    go (nexts.Cas r) e p = same (subst IsPrepared (sym e) tt) p

-- ---- what it carries

-- what is ready is of the shard
ready_carries : (t : Trying) (r : Ready) (c : Option ShardState) → t.loader.cached ≡ c → trying.IsReadyAfter t.loader.shard c t.step r →
    r.after.shard ≡ t.loader.shard → OnlyCarries t.loader.shard t.step (calls.Cas t.loader.shard r.expected r.bytes)
ready_carries t r None cached first same = subst (λ (n : Option ℕ). OnlyCarries t.loader.shard t.step
    (calls.Cas t.loader.shard n r.bytes)) (sym first.expected_is) tt
ready_carries t r (Some s) cached ready same =
    let shard_is : s.shard ≡ t.loader.shard = sym (version_in_shard s.shard (s.number + 1) r.bytes r.after t.step ready.written) ∙ same in
    let written = subst (λ (d : ShardId). version_in d (s.number + 1) r.bytes ≡ Some (r.after, t.step)) shard_is ready.written in
    subst (λ (n : Option ℕ). OnlyCarries t.loader.shard t.step (calls.Cas t.loader.shard n r.bytes)) (sym ready.expected_is)
    (refl, (r.after, written))

pub tried_carries : (t : Trying) → trying.IsSound t → OnlyCarries t.loader.shard t.step (trying.call_of t)
tried_carries t sound = go t.next sound
  where
    go : (next : Next) → trying.IsReadyNext t.loader t.step next → OnlyCarries t.loader.shard t.step (trying.call_by t.loader next)
    go nexts.Attempt h = tt
    go nexts.Scan h = tt
    go (nexts.Cas r) h = ready_carries t r t.loader.cached refl h.0 h.1.shard_is

-- ---- what it has seen

-- a state that was seen isn't forgotten
pub seen_on : (t new : Trying) (r : Reply) (tried : Tried) → trying.Moves t r new tried → IsSome t.loader.cached → IsSome new.loader.cached
seen_on t new r tried moves some = by (how_moved t new r tried moves)
  where
    same : new.loader.cached ≡ t.loader.cached → IsSome new.loader.cached
    same e = subst IsSome (sym e) some

    is_now : (s : ShardState) → new.loader.cached ≡ Some s → IsSome new.loader.cached
    is_now s e = subst IsSome (sym e) refl

    after_cas : (rd : Ready) (tried : Tried) → trying.MovesAfterCas (trying.asked (trying.called t) rd) rd r new tried → IsSome new.loader.cached
    after_cas rd (tries.Committed version) (answer, after, now) = is_now rd.after (ap (λ (z : Trying). z.loader.cached) now)
    after_cas rd tries.Begun (answer, none, now) = is_now rd.after (ap (λ (z : Trying). z.loader.cached) now)
    after_cas rd tries.Again (nf, nc, now) = same (ap (λ (z : Trying). z.loader.cached) now)
    after_cas rd tries.Fault (answer, now) = same (ap (λ (z : Trying). z.loader.cached) now)
    after_cas rd tries.Goes n = absurd n
    after_cas rd (tries.Refused refusal) n = absurd n
    after_cas rd tries.Spent n = absurd n
    after_cas rd (tries.Damaged damage) n = absurd n

    newest : (read : Result (Option ShardState) Damage) → (read ≡ Ok None → ⊥) → (n : Option ShardState) → read ≡ Ok n → new.loader.cached ≡ n → IsSome new.loader.cached
    newest read none None e now = absurd (none e)
    newest read none (Some s) e now = is_now s now

    none_read : (read : Result (Option ShardState) Damage) (tried : Tried) → (read ≡ Ok None → ⊥) → trying.ComesTo read (trying.called t) new tried → IsSome new.loader.cached
    none_read read tries.Goes none (n, rd, reads, ready, now) = newest read none n reads (ap (λ (z : Trying). z.loader.cached) now)
    none_read read (tries.Refused refusal) none (s, reads, refused, now) = is_now s (ap (λ (z : Trying). z.loader.cached) now)
    none_read read tries.Spent none (s, reads, free, last, now) = is_now s (ap (λ (z : Trying). z.loader.cached) now)
    none_read read (tries.Damaged damage) none (reads, now) = same (ap (λ (z : Trying). z.loader.cached) now)
    none_read read (tries.Committed version) none n = absurd n
    none_read read tries.Begun none n = absurd n
    none_read read tries.Again none n = absurd n
    none_read read tries.Fault none n = absurd n

    by : HowMoved t new r tried → IsSome new.loader.cached
    by (scanned vs idle answer m) =
        none_read (newest_after t.loader.shard t.loader.cached vs) tried (λ e. let is_none = (newest_none t.loader.shard t.loader.cached vs e).1 in let bad : false ≡ true = subst IsSome is_none some in cc) m
    by (failed idle answer is now) = same (ap (λ (z : Trying). z.loader.cached) now)
    by (cased rd next m) = after_cas rd tried m

-- a Cas that is in was seen
pub committed_seen : (t new : Trying) (r : Reply) (version : ℕ) → trying.Moves t r new (tries.Committed version) → IsSome new.loader.cached
committed_seen t new r version moves = by (how_moved t new r (tries.Committed version) moves)
  where
    by : HowMoved t new r (tries.Committed version) → IsSome new.loader.cached
    by (scanned vs idle answer m) = absurd m
    by (failed idle answer is now) = absurd (let bad : tries.Committed version ≡ tries.Fault = is in cc)
    by (cased rd next (answer, after, now)) = subst IsSome (sym (ap (λ (z : Trying). z.loader.cached) now)) refl

-- ---- a failed call

-- a failed call alone comes to a fault
pub tried_fault : (t new : Trying) (r : Reply) → trying.Moves t r new tries.Fault → r ≡ replies.Failed
tried_fault t new r m = by (how_moved t new r tries.Fault m)
  where
    by : HowMoved t new r tries.Fault → r ≡ replies.Failed
    by (scanned vs idle is n) = absurd n
    by (failed idle is bad now) = is
    by (cased rd next n) = n.0
