-- A member that has just joined is none that stood before. Entries go newest first.
use Rattle.std.proofs.Common.{◌≡◌, ◌≢◌, ℕ, ◌+◌, ◌-◌, ◌≤◌, ◌<◌, suc, true, false, Bool, cond, Option, Some, List, [], ◌∷◌, inl, inr}
use Rattle.std.proofs.Common.{refl, sym, ap, subst, ◌∙◌, arith, length}
use Rattle.std.specs.Prelude.{⊤, ◌==◌, take}
use Rattle.std.specs.List.{AllByRecursion}
use Rattle.update_core.specs.declared.updates.Update.{Update}
use Rattle.update_core.specs.declared.appends.FeedAppend.{FeedAppend}
use Rattle.store_core.specs.declared.shards.ShardId.{ShardId}
use Rattle.store_core.specs.declared.calls.Call.{Call}
use Rattle.store_core.specs.declared.calls.Call.TheVariants as calls
use Rattle.store_core.specs.declared.outcomes.Outcome.{Outcome}
use Rattle.store_core.specs.declared.outcomes.Outcome.TheVariants.{Took, FailedTook, FailedLost}
use Rattle.store_core.specs.declared.entries.Entry.{Entry}
use Rattle.store_core.specs.Changes.{commits}
use Rattle.store_core.specs.Stores.{Stored, is_last_number, last_number, next_number, reply_of, same_number}
use Rattle.store_core.specs.Histories.{reply, reply_by}
use Rattle.store_core.specs.Ports.{Answered, answered}
use Rattle.store_core.specs.Newest.{mine_back, replay_back}
use Rattle.state_core.specs.Lists.{Among}
use Rattle.state_core.specs.declared.kinds.Kind.{Kind}
use Rattle.state_core.specs.declared.kinds.Kind.TheVariants.{Reader}
use Rattle.state_core.specs.declared.members.Member.{Member}
use Rattle.state_core.specs.declared.transitions.Transition.{Transition}
use Rattle.state_core.specs.declared.transitions.Transition.TheVariants.{Join}
use Rattle.state_core.specs.States.{ShardState}
use Rattle.state_core.specs.Steps.{Applies}
use Rattle.version_codec.specs.Reading.{version_in}
use Rattle.state_core.proofs.ListLemmas.{bool_cases}
use Rattle.history_core.specs.Discipline.{LawfulBack}
use Rattle.history_core.specs.Histories.{took_effect}
use Rattle.history_core.specs.Members.{IsKindJoin, JoinedAs, KindJoins}
use Rattle.history_core.specs.Placing.{Commits, placed}
use Rattle.history_core.specs.Stands.{StandsFor}
use Rattle.history_core.proofs.Endings.{last_law}
use Rattle.history_core.proofs.StateFacts.{state_rules}
use Rattle.crew_core.specs.Competing.{HasReader, SuitsCrew}
use Rattle.crew_core.specs.Working.{Role, as_collector, as_compactor, as_follower, as_pin, as_writer, past_first}
use Rattle.crew_core.proofs.Commits.{Stepped, what_commits}

-- ---- a Join that is answered Committed commits

record KindJoined (kind : Kind) (shard : ShardId) (store : Stored) (call : Call) (outcome : Outcome) (member : ℕ) : Type 0 where
  pub expected : Option ℕ
  pub bytes : List ℕ
  pub call_is : call ≡ calls.Cas shard expected bytes
  pub took : took_effect outcome ≡ true
  pub commit : commits (store.logs shard) expected ≡ true
  pub joins : KindJoins (version_in shard (next_number expected) bytes) kind member

joined_cas : (kind : Kind) (shard s : ShardId) (store : Stored) (expected : Option ℕ) (bytes : List ℕ) (member : ℕ) →
    IsKindJoin kind shard member (calls.Cas s expected bytes) (reply_of store (calls.Cas s expected bytes)) →
    KindJoined kind shard store (calls.Cas s expected bytes) Took member
joined_cas kind shard s store expected bytes member t =
    elim (bool_cases (same_number expected (last_number (store.logs s)))) [
      | inl e ↦ elim (bool_cases (is_last_number expected)) [
        | inl f ↦ absurd (rw (e, f) at t)
        | inr f ↦
            let t2 : (s ≡ shard) × KindJoins (version_in shard (next_number expected) bytes) kind member = rw (e, f) at t in
            let k : commits (store.logs s) expected ≡ true = rw (e, f) refl in
            record {
              expected = expected;
              bytes = bytes;
              call_is = ap (λ (q : ShardId). calls.Cas q expected bytes) t2.0;
              took = refl;
              commit = subst (λ (q : ShardId). commits (store.logs q) expected ≡ true) t2.0 k;
              joins = t2.1;
            }
      ]
      | inr e ↦ absurd (rw e at t)
    ]

kind_joined : (kind : Kind) (shard : ShardId) (store : Stored) (call : Call) (outcome : Outcome) (member : ℕ) →
    IsKindJoin kind shard member call (reply_by store call outcome) → KindJoined kind shard store call outcome member
kind_joined kind shard store (calls.Cas s expected bytes) Took member t = joined_cas kind shard s store expected bytes member t
kind_joined kind shard store (calls.Cas s expected bytes) FailedTook member t = absurd t
kind_joined kind shard store (calls.Cas s expected bytes) FailedLost member t = absurd t
kind_joined kind shard store (calls.Head s) outcome member t = absurd t
kind_joined kind shard store (calls.Scan s from) outcome member t = absurd t
kind_joined kind shard store (calls.Truncate s below) outcome member t = absurd t
kind_joined kind shard store (calls.Get k) outcome member t = absurd t
kind_joined kind shard store (calls.Set k b) outcome member t = absurd t
kind_joined kind shard store (calls.Delete k) outcome member t = absurd t

-- ---- it joins a member that none before it was

joins_next : (kind : Kind) (from to : ShardState) (x : Transition) (left : ℕ) → KindJoins (Some (to, x)) kind left → Applies from x to →
    left ≡ from.next_member
joins_next kind from to (Join k now lease) left joins a =
    let next : to.next_member ≡ left + 1 = joins.1 in
    let made : to.next_member ≡ from.next_member + 1 = ap (λ (s : ShardState). s.next_member) a.makes.effect in
    omega arith
joins_next kind from to other left joins a = absurd joins

below_all : (n : ℕ) (ms : List Member) (P : Member → Type 0) (bound : ℕ) → AllByRecursion (λ m. m.number < bound) ms →
    Among (λ m. (m.number ≡ n) × P m) ms → n < bound
below_all n [] P bound all h = absurd h
below_all n (m ∷ ms) P bound all h = elim h [
  | inl k ↦ let is : m.number ≡ n = k.0 in let less : m.number < bound = all.0 in omega arith
  | inr k ↦ below_all n ms P bound all.1 k
]

module _ (shard : ShardId) (list : List Update) (start : Stored) (es : List Entry) (e : Entry) (st : StandsFor start shard list)
    (l : LawfulBack start (e ∷ es)) (member since : ℕ) where
  joined_new : (kind : Kind) (left : ℕ) → IsKindJoin kind shard left e.call (reply_by (replay_back start es) e.call e.outcome) →
      HasReader shard member since start es → left ≢ member
  joined_new kind left h (n, t, last, there) =
      let j = kind_joined kind shard (replay_back start es) e.call e.outcome left h in
      let k : Commits start shard (placed e es) = record {
        expected = j.expected;
        bytes = j.bytes;
        call_is = j.call_is;
        took = j.took;
        commit = j.commit;
      } in
      elim (what_commits shard list start st e es l k) [
        | inl b ↦ absurd (b.none n t last)
        | inr s ↦ by s j.expected j.bytes j.call_is j.joins
      ]
    where
      expected_same : (a b : Option ℕ) (x y : List ℕ) → calls.Cas shard a x ≡ calls.Cas shard b y → a ≡ b
      expected_same a b x y same = cc

      bytes_same : (a b : Option ℕ) (x y : List ℕ) → calls.Cas shard a x ≡ calls.Cas shard b y → x ≡ y
      bytes_same a b x y same = cc

      by : (s : Stepped shard list start e es) (expected : Option ℕ) (bytes : List ℕ) → e.call ≡ calls.Cas shard expected bytes →
          KindJoins (version_in shard (next_number expected) bytes) kind left → left ≢ member
      by s expected bytes call_is joins same =
          let cas = sym call_is ∙ s.commit.call_is in
          let number : expected ≡ Some s.number = expected_same expected s.commit.expected bytes s.commit.bytes cas ∙ s.expected in
          let written : version_in shard (next_number expected) bytes ≡ Some (s.to, s.step) =
          ap (λ (o : Option ℕ). version_in shard (next_number o) bytes) number
          ∙ ap (λ (b : List ℕ). version_in shard (s.number + 1) b) (bytes_same expected s.commit.expected bytes s.commit.bytes cas)
          ∙ s.written in
          let next : left ≡ s.from.next_member = joins_next kind s.from s.to s.step left
          (subst (λ (o : Option (ShardState × Transition)). KindJoins o kind left) written joins) s.applies in
          let from : t ≡ s.from = (last_law (replay_back start es) shard n s.number t s.from last s.last).1 in
          let known = (state_rules shard ((replay_back start es).logs shard) s.number s.from s.last.1).known in
          let less : member < s.from.next_member = below_all member s.from.members (λ m. (m.kind ≡ Reader) × (m.since ≡ since))
          s.from.next_member known
          (subst (λ (u : ShardState). Among (λ m. (m.number ≡ member) × ((m.kind ≡ Reader) × (m.since ≡ since))) u.members) from there) in
          omega arith

-- ---- what a client has made past its first entries

past_more : (count : ℕ) (o : Answered) (own : List Answered) → count ≤ length own → past_first count (o ∷ own) ≡ o ∷ past_first count own
past_more count o own few = ap (λ (n : ℕ). take n (o ∷ own)) (more count (length own) few)
  where
    more : (k n : ℕ) → k ≤ n → suc n - k ≡ suc (n - k)
    more k n few = omega arith

past_none : (own : List Answered) → past_first (length own) own ≡ []
past_none own = ap (λ (n : ℕ). take n own) (none (length own))
  where
    none : (n : ℕ) → n - n ≡ 0
    none n = omega arith

-- None of the members that clients have joined past their first entries is this one; the entries have come since.
pub record IsSpared (counts : ℕ → ℕ) (shard : ShardId) (member : ℕ) (start : Stored) (es : List Entry) : Type 0 where
  pub many : (c : ℕ) → counts c ≤ length (mine_back start es c)
  pub spared : (c left : ℕ) → JoinedAs Reader (past_first (counts c) (mine_back start es c)) shard left → left ≢ member

pub spared_first : (shard : ShardId) (member : ℕ) (start : Stored) (es : List Entry) →
    IsSpared (λ c. length (mine_back start es c)) shard member start es
spared_first shard member start es = record {
  many = λ c. itself (length (mine_back start es c));
  spared = λ c left h same.
      absurd (subst (λ (own : List Answered). JoinedAs Reader own shard left) (past_none (mine_back start es c)) h);
}
  where
    itself : (n : ℕ) → n ≤ n
    itself n = omega arith

pub spared_on : (counts : ℕ → ℕ) (shard : ShardId) (list : List Update) (start : Stored) (es : List Entry) (e : Entry) →
    StandsFor start shard list → LawfulBack start (e ∷ es) → (member since : ℕ) → HasReader shard member since start es →
    IsSpared counts shard member start es → IsSpared counts shard member start (e ∷ es)
spared_on counts shard list start es e st l member since reads k = record { many = many; spared = spared }
  where
    new : Answered
    new = answered e (reply (replay_back start es) e)

    longer : (k n : ℕ) → k ≤ n → k ≤ suc n
    longer k n h = omega arith

    many : (c : ℕ) → counts c ≤ length (mine_back start (e ∷ es) c)
    many c = elim (bool_cases (e.client == c)) [
      | inl t ↦ rw t (longer (counts c) (length (mine_back start es c)) (k.many c))
      | inr t ↦ rw t (k.many c)
    ]

    newest : (c left : ℕ) → JoinedAs Reader (past_first (counts c) (new ∷ mine_back start es c)) shard left → left ≢ member
    newest c left h =
        let split : JoinedAs Reader (new ∷ past_first (counts c) (mine_back start es c)) shard left =
        subst (λ (own : List Answered). JoinedAs Reader own shard left) (past_more (counts c) new (mine_back start es c) (k.many c)) h in
        elim split [
          | inl p ↦ joined_new shard list start es e st l member since Reader left p reads
          | inr p ↦ k.spared c left p
        ]

    by : (c left : ℕ) (b : Bool) →
        JoinedAs Reader (past_first (counts c) (cond b (new ∷ mine_back start es c) (mine_back start es c))) shard left → left ≢ member
    by c left true h = newest c left h
    by c left false h = k.spared c left h

    spared : (c left : ℕ) → JoinedAs Reader (past_first (counts c) (mine_back start (e ∷ es) c)) shard left → left ≢ member
    spared c left h = by c left (e.client == c) h

-- the role of a follower counts from there
abbrev pub CountsFrom : (ℕ → ℕ) → ℕ → Role → Type 0
CountsFrom counts c (as_follower count) = count ≡ counts c
CountsFrom counts c _ = ⊤

pub counts_from : (appends : List FeedAppend) (counts : ℕ → ℕ) (c : ℕ) (own : List Answered) (role : Role) → counts c ≡ length own →
    SuitsCrew appends own role → CountsFrom counts c role
counts_from appends counts c own (as_follower count) is suits = suits ∙ sym is
counts_from appends counts c own (as_writer mine) is suits = tt
counts_from appends counts c own as_compactor is suits = tt
counts_from appends counts c own as_collector is suits = tt
counts_from appends counts c own as_pin is suits = tt
