-- What an allowed Cas that commits is, and who owns a member.
use Rattle.std.proofs.Common.{◌≡◌, ℕ, ◌+◌, true, List, [], ◌∷◌, ◌⊎◌, inl, inr, refl, subst, sym, ap, ◌∙◌, Some, None, Option}
use Rattle.state_core.proofs.ListLemmas.{bool_cases}
use Rattle.store_core.specs.declared.shards.ShardId.{ShardId}
use Rattle.store_core.specs.declared.calls.Call.{Call}
use Rattle.store_core.specs.declared.calls.Call.TheVariants as calls
use Rattle.store_core.specs.declared.replies.Reply.{Reply}
use Rattle.store_core.specs.declared.replies.Reply.TheVariants as replies
use Rattle.store_core.specs.declared.outcomes.Outcome.{Outcome}
use Rattle.store_core.specs.declared.outcomes.Outcome.TheVariants.{Took, FailedTook, FailedLost}
use Rattle.store_core.specs.declared.entries.Entry.{Entry}
use Rattle.store_core.specs.Changes.{commits}
use Rattle.store_core.specs.Stores.{Log, Stored, no_log, same_number, last_number, is_last_number, next_number, reply_of}
use Rattle.store_core.specs.Histories.{reply_by}
use Rattle.store_core.specs.Ports.{Answered}
use Rattle.store_core.specs.Newest.{mine_back}
use Rattle.state_core.specs.declared.kinds.Kind.{Kind}
use Rattle.state_core.specs.declared.transitions.Transition.{Transition}
use Rattle.state_core.specs.declared.transitions.Transition.TheVariants.{Init, Join, Leave, Renew, Advance, Expire, Append, Merge}
use Rattle.state_core.specs.States.{ShardState}
use Rattle.state_core.specs.Steps.{acts_for, init}
use Rattle.version_codec.specs.Reading.{version_in}
use Rattle.history_core.specs.Histories.{version_at, Told, Shows, ever}
use Rattle.history_core.specs.Discipline.{JoinsAs, IsJoin, Owns, OwnsSome, Holds, Allows}
use Rattle.history_core.specs.Stands.{VersionIs, end_of}
use Rattle.history_core.proofs.Versions.{logs_agree, live, shows_ever}
use Rattle.history_core.proofs.Chains.{Commit, version_is}
use Rattle.history_core.proofs.Logs.{commits_some, commits_none_last, last_none_empty}

-- a client's bytes commit, and what allowed them
pub record CommitBy (mine : List Answered) (shard : ShardId) (log : Log) (expected : Option ℕ) (bytes : List ℕ) : Type 0 where
  pub commit : Commit shard log bytes
  pub number : expected ≡ Some commit.n
  pub owned : OwnsSome mine shard (acts_for commit.step)
  pub holds : Holds mine commit.step

-- the first version of a shard
pub record CommitsFirst (shard : ShardId) (log : Log) (expected : Option ℕ) (bytes : List ℕ) : Type 0 where
  pub none : expected ≡ None
  pub empty : log ≡ no_log
  pub first : version_in shard 0 bytes ≡ Some (init shard, Init)

make_log : ℕ → List (List ℕ) → Log
make_log n vs = record { first = n; versions = vs }

made : (n n2 : ℕ) (vs vs2 : List (List ℕ)) → n ≡ n2 → vs ≡ vs2 → make_log n vs ≡ make_log n2 vs2
made n n2 vs vs2 a b = cc

pub log_is : (log : Log) → log.versions ≡ [] → log.first ≡ 0 → log ≡ no_log
unfolding make_log
log_is log v f = made log.first 0 log.versions [] f v

-- what an allowed Cas that commits is
pub commit_of : (start : Stored) (shard : ShardId) → ((start.logs shard).versions ≡ [] → (start.logs shard).first ≡ 0) →
    (es : List Entry) (c : ℕ) (expected : Option ℕ) (bytes : List ℕ) →
    commits (live start shard es) expected ≡ true → Allows (mine_back start es c) (calls.Cas shard expected bytes) →
    CommitsFirst shard (ever start shard es) expected bytes ⊎ CommitBy (mine_back start es c) shard (ever start shard es) expected bytes
commit_of start shard z es c None bytes k a =
    let agree = logs_agree start shard z es in
    let none : last_number (live start shard es) ≡ None = commits_none_last (live start shard es) k in
    let empty = last_none_empty (ever start shard es) (sym agree.last ∙ none) in
    inl (record { none = refl; empty = log_is (ever start shard es) empty (agree.first empty); first = a })
commit_of start shard z es c (Some n) bytes k a =
    let agree = logs_agree start shard z es in
    let at_last : (n + 1) ≡ end_of (ever start shard es) = commits_some (live start shard es) n k ∙ agree.next in
    let (b, x, shown, reads) = a.shown in
    inr (record {
      commit = record {
        n = n;
        from = a.from;
        to = a.to;
        step = a.step;
        last = at_last;
        from_is = (x, version_is shard (ever start shard es) n b a.from x (shows_ever start shard z es c n b shown) reads);
        written = a.written;
        applies = a.applies;
      };
      number = refl;
      owned = a.owned;
      holds = a.holds;
    })

pub joins-of : (o : Option (ShardState × Transition)) (m : ℕ) → JoinsAs o m →
    (s : ShardState) × (kind : Kind) × (now : ℕ) × (lease : ℕ) × (o ≡ Some (s, Join kind now lease)) × (s.next_member ≡ (m + 1))
joins-of (Some (s, Join kind now lease)) m h = (s, kind, now, lease, refl, h)
joins-of (Some (s, Init)) m h = absurd h
joins-of (Some (s, Leave a)) m h = absurd h
joins-of (Some (s, Renew a b)) m h = absurd h
joins-of (Some (s, Advance a b)) m h = absurd h
joins-of (Some (s, Expire a)) m h = absurd h
joins-of (Some (s, Append a b c d e f g)) m h = absurd h
joins-of (Some (s, Merge a b c d e)) m h = absurd h
joins-of None m h = absurd h

-- a Join that is answered Committed commits
pub record Joined (shard : ShardId) (store : Stored) (call : Call) (member : ℕ) : Type 0 where
  pub expected : Option ℕ
  pub bytes : List ℕ
  pub call_is : call ≡ calls.Cas shard expected bytes
  pub commit : commits (store.logs shard) expected ≡ true
  pub joins : JoinsAs (version_in shard (next_number expected) bytes) member

joined-cas : (shard s : ShardId) (store : Stored) (expected : Option ℕ) (bytes : List ℕ) (member : ℕ) →
    IsJoin shard member (calls.Cas s expected bytes) (reply_of store (calls.Cas s expected bytes)) → Joined shard store (calls.Cas s expected bytes) member
joined-cas shard s store expected bytes member t =
    elim (bool_cases (same_number expected (last_number (store.logs s)))) [
      | inl e ↦ elim (bool_cases (is_last_number expected)) [
        | inl f ↦ absurd (rw (e, f) at t)
        | inr f ↦
            let t2 : (s ≡ shard) × JoinsAs (version_in shard (next_number expected) bytes) member = rw (e, f) at t in
            let k : commits (store.logs s) expected ≡ true = rw (e, f) refl in
            record {
              expected = expected;
              bytes = bytes;
              call_is = ap (λ (q : ShardId). calls.Cas q expected bytes) t2.0;
              commit = subst (λ (q : ShardId). commits (store.logs q) expected ≡ true) t2.0 k;
              joins = t2.1;
            }
      ]
      | inr e ↦ absurd (rw e at t)
    ]

pub joined : (shard : ShardId) (store : Stored) (call : Call) (outcome : Outcome) (member : ℕ) →
    IsJoin shard member call (reply_by store call outcome) → Joined shard store call member
joined shard store (calls.Cas s expected bytes) Took member t = joined-cas shard s store expected bytes member t
joined shard store (calls.Cas s expected bytes) FailedTook member t = absurd t
joined shard store (calls.Cas s expected bytes) FailedLost member t = absurd t
joined shard store (calls.Head s) outcome member t = absurd t
joined shard store (calls.Scan s from) outcome member t = absurd t
joined shard store (calls.Truncate s below) outcome member t = absurd t
joined shard store (calls.Get k) outcome member t = absurd t
joined shard store (calls.Set k b) outcome member t = absurd t
joined shard store (calls.Delete k) outcome member t = absurd t

is_join-told : (shard : ShardId) (member : ℕ) (call : Call) (r : Reply) → IsJoin shard member call r →
    (n : ℕ) × (b : List ℕ) × Told shard n b call r × JoinsAs (version_in shard n b) member
is_join-told shard member (calls.Cas s expected bytes) (replies.Committed n) h = (n, bytes, (h.0, refl, refl), h.1)
is_join-told shard member (calls.Cas s expected bytes) (replies.Version v) h = absurd h
is_join-told shard member (calls.Cas s expected bytes) (replies.Versions v) h = absurd h
is_join-told shard member (calls.Cas s expected bytes) replies.Mismatch h = absurd h
is_join-told shard member (calls.Cas s expected bytes) replies.Spent h = absurd h
is_join-told shard member (calls.Cas s expected bytes) replies.Truncated h = absurd h
is_join-told shard member (calls.Cas s expected bytes) (replies.Bytes v) h = absurd h
is_join-told shard member (calls.Cas s expected bytes) replies.Stored h = absurd h
is_join-told shard member (calls.Cas s expected bytes) replies.Deleted h = absurd h
is_join-told shard member (calls.Cas s expected bytes) replies.Failed h = absurd h
is_join-told shard member (calls.Head s) r h = absurd h
is_join-told shard member (calls.Scan s from) r h = absurd h
is_join-told shard member (calls.Truncate s below) r h = absurd h
is_join-told shard member (calls.Get k) r h = absurd h
is_join-told shard member (calls.Set k b) r h = absurd h
is_join-told shard member (calls.Delete k) r h = absurd h

-- an owned member joined in a version that ever was
pub owned_version : (start : Stored) (shard : ShardId) → ((start.logs shard).versions ≡ [] → (start.logs shard).first ≡ 0) →
    (es : List Entry) (c m : ℕ) →
    Owns (mine_back start es c) shard m → (n : ℕ) × (s : ShardState) × (x : Transition) × VersionIs shard (ever start shard es) n s x × (s.next_member ≡ (m + 1))
owned_version start shard z es c m o = go (mine_back start es c) (λ n b h. shows_ever start shard z es c n b h) o
  where
    go : (own : List Answered) → ((n : ℕ) (b : List ℕ) → Shows own shard n b → version_at (ever start shard es) n ≡ Some b) →
        Owns own shard m →
        (n : ℕ) × (s : ShardState) × (x : Transition) × VersionIs shard (ever start shard es) n s x × (s.next_member ≡ (m + 1))
    go [] there h = absurd h
    go (p ∷ ps) there (inl h) =
        let (n, b, told, joins) = is_join-told shard m p.entry.call p.reply h in
        let (s, kind, now, lease, reads, number) = joins-of (version_in shard n b) m joins in
        (n, s, Join kind now lease, version_is shard (ever start shard es) n b s (Join kind now lease) (there n b (inl told)) reads, number)
    go (p ∷ ps) there (inr h) = go ps (λ n b g. there n b (inr g)) h
