-- A standing member's token was spent once, by its owner.
use Rattle.std.proofs.Common.{◌≡◌, ◌≢◌, ◌&&◌, ℕ, ◌+◌, ◌<◌, ◌≤◌, Bool, true, false, cond, List, [], ◌∷◌, refl, subst, sym, ap, ◌∙◌, eqb, Some, None, Option}
use Rattle.std.specs.Prelude.{reverse}
use Rattle.std.proofs.lemmas.Bool.{eq-eqb}
use Rattle.state_core.specs.Lists.{Among}
use Rattle.update_core.specs.declared.updates.Update.{Update}
use Rattle.store_core.specs.declared.shards.ShardId.{ShardId}
use Rattle.store_core.specs.declared.calls.Call.{Call}
use Rattle.store_core.specs.declared.calls.Call.TheVariants as calls
use Rattle.store_core.specs.declared.entries.Entry.{Entry}
use Rattle.store_core.specs.Changes.{commits}
use Rattle.store_core.specs.Stores.{Stored}
use Rattle.store_core.specs.Ports.{Answered}
use Rattle.store_core.specs.Newest.{replay_back, mine_back}
use Rattle.store_core.proofs.NewestLaws.{replay-newest, mine-newest}
use Rattle.state_core.specs.declared.members.Member.{Member}
use Rattle.state_core.specs.declared.transitions.Transition.{Transition}
use Rattle.state_core.specs.declared.transitions.Transition.TheVariants.{Init, Join, Leave, Renew, Advance, Expire, Append, Merge}
use Rattle.state_core.specs.States.{ShardState}
use Rattle.state_core.specs.Steps.{Spends, acts_for}
use Rattle.version_codec.specs.Reading.{version_in}
use Rattle.history_core.specs.Histories.{took_effect, same_shard, ever}
use Rattle.history_core.specs.Discipline.{IsJoin, Owns, OwnsSome, CasAllowed, Allows, LawfulBack}
use Rattle.history_core.specs.Stands.{StandsFor, StateIn, end_of}
use Rattle.history_core.specs.Spending.{is_spending, is_commit_under, commits_under, own_commits}
use Rattle.history_core.specs.Answers.{TokenSpentOnce}
use Rattle.history_core.specs.Laws.{LastIs}
use Rattle.history_core.proofs.Prefixes.{lawful_back}
use Rattle.history_core.proofs.Logs.{and_true}
use Rattle.history_core.proofs.Entries.{shard_eq, mine_older, lawful_newest, lawful_older}
use Rattle.history_core.proofs.Blobs.{owners_at}
use Rattle.history_core.proofs.Bases.{base_of}
use Rattle.history_core.proofs.StandsAfter.{agree_at, live_ever}
use Rattle.history_core.proofs.Once.{true_spends, counted}

spends_acts : (x : Transition) (m t : ℕ) → Spends x m t → acts_for x ≡ Some m
spends_acts (Append a b c d e f g) m t h = ap Some h.0
spends_acts (Merge a b c d e) m t h = ap Some h.0
spends_acts Init m t h = absurd h
spends_acts (Join a b c) m t h = absurd h
spends_acts (Leave a) m t h = absurd h
spends_acts (Renew a b) m t h = absurd h
spends_acts (Advance a b) m t h = absurd h
spends_acts (Expire a) m t h = absurd h

-- what commits under a member's token is its owner's
cas_owned : (own : List Answered) (shard : ShardId) (m t n : ℕ) (bytes : List ℕ) → CasAllowed own shard n bytes →
    is_spending (version_in shard (n + 1) bytes) m t ≡ true → Owns own shard m
cas_owned own shard m t n bytes a h =
    let spends : Spends a.step m t = true_spends a.to a.step m t (ap (λ (o : Option (ShardState × Transition)). is_spending o m t) (sym a.written) ∙ h) in
    subst (OwnsSome own shard) (spends_acts a.step m t spends) a.owned

under_owned : (own : List Answered) (store : Stored) (shard : ShardId) (m t : ℕ) (e : Entry) (call : Call) → Allows own call →
    is_commit_under store shard m t e call ≡ true → Owns own shard m
under_owned own store shard m t e (calls.Cas s (Some n) bytes) a h =
    let (p, q) = and_true (took_effect e.outcome && (same_shard s shard && commits (store.logs shard) (Some n))) (is_spending (version_in shard (n + 1) bytes) m t) h in
    let (p1, p2) = and_true (took_effect e.outcome) (same_shard s shard && commits (store.logs shard) (Some n)) p in
    let (p3, p4) = and_true (same_shard s shard) (commits (store.logs shard) (Some n)) p2 in
    cas_owned own shard m t n bytes (subst (λ (d : ShardId). CasAllowed own d n bytes) (shard_eq s shard p3) a) q
under_owned own store shard m t e (calls.Cas s None bytes) a h = cc
under_owned own store shard m t e (calls.Head s) a h = cc
under_owned own store shard m t e (calls.Scan s from) a h = cc
under_owned own store shard m t e (calls.Truncate s below) a h = cc
under_owned own store shard m t e (calls.Get k) a h = cc
under_owned own store shard m t e (calls.Set k b) a h = cc
under_owned own store shard m t e (calls.Delete k) a h = cc

same_counts : (a b : Bool) (x y : ℕ) → (b ≡ true → a ≡ true) → x ≡ y → cond (a && b) 1 0 + x ≡ cond b 1 0 + y
same_counts true b x y f e = ap (λ j. cond b 1 0 + j) e
same_counts false true x y f e = absurd (let g = f refl in cc)
same_counts false false x y f e = ap (λ j. 0 + j) e

-- all that commits under a member's token is of the one client that owns the member
all_own : (start : Stored) (shard : ShardId) (c m t : ℕ) (es : List Entry) → LawfulBack start es →
    ((d : ℕ) → Owns (mine_back start es d) shard m → d ≡ c) →
    own_commits start shard c m t es ≡ commits_under start shard m t es
all_own start shard c m t [] l one = refl
all_own start shard c m t (e ∷ es) l one =
    same_counts (eqb e.client c) (is_commit_under (replay_back start es) shard m t e e.call) (own_commits start shard c m t es) (commits_under start shard m t es)
    (λ is.
    let owned = under_owned (mine_back start es e.client) (replay_back start es) shard m t e e.call (lawful_newest start e es l) is in
    eq-eqb e.client c (one e.client (mine_older (λ (w : Answered). IsJoin shard m w.entry.call w.reply) start e es e.client owned)))
    (all_own start shard c m t es (lawful_older start e es l) (λ d o. one d (mine_older (λ (w : Answered). IsJoin shard m w.entry.call w.reply) start e es d o)))

spent_back : (start : Stored) (shard : ShardId) (list : List Update) (es : List Entry) → StandsFor start shard list →
    LawfulBack start es → (number : ℕ) (last : ShardState) → LastIs (replay_back start es) shard number last →
    (m : Member) → Among (λ u. u ≡ m) last.members → (c : ℕ) → Owns (mine_back start es c) shard m.number →
    (m.token ≢ 0 → (commits_under start shard m.number m.token es ≡ 1) × (own_commits start shard c m.number m.token es ≡ 1)) × ((t : ℕ) → m.token < t → commits_under start shard m.number t es ≡ 0)
spent_back start shard list es st l number last is m among c owned =
    let base = base_of start shard list st in
    let owners = owners_at start shard base.start_member base.begin es l in
    let agree = agree_at start shard list base es l in
    let new : base.start_member ≤ m.number = owners.new c m.number owned in
    let newest : number + 1 ≡ end_of (ever start shard es) = is.0 ∙ agree.next in
    let at_ever : StateIn shard (ever start shard es) number last = (is.1.0, live_ever start shard list base es l number last is.1.0 is.1.1) in
    let counts = counted start shard base.start_member base.begin m.number new base.known es l in
    let told = counts.standing number last newest at_ever m among refl in
    let own_is = all_own start shard c m.number m.token es l (λ d o. owners.one d c m.number o owned) in
    ((λ some. (told.at_token some, own_is ∙ told.at_token some)), told.above)

pub spent_law : TokenSpentOnce
spent_law shard list h st l number last is m among c owned =
    spent_back h.start shard list (reverse h.trail) st (lawful_back h l) number last (subst (λ (s : Stored). LastIs s shard number last) (replay-newest h.start h.trail) is) m among c
    (subst (λ (own : List Answered). Owns own shard m.number) (mine-newest h c) owned)
