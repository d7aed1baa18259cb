-- In a lawful history the versions that ever were make a chain, and each member has one owner at most.
use Rattle.std.proofs.Common.{◌≡◌, ℕ, ◌+◌, ◌<◌, ◌≤◌, true, List, [], ◌∷◌, ◌⊎◌, inl, inr, refl, arith, subst, sym, ap, ◌∙◌, Some, Option}
use Rattle.store_core.specs.declared.shards.ShardId.{ShardId}
use Rattle.store_core.specs.declared.calls.Call.TheVariants as calls
use Rattle.store_core.specs.declared.entries.Entry.{Entry}
use Rattle.store_core.specs.Changes.{commits}
use Rattle.store_core.specs.Stores.{Log, Stored, no_log, next_number, committed}
use Rattle.store_core.specs.Histories.{reply_by}
use Rattle.store_core.specs.Ports.{Answered}
use Rattle.store_core.specs.Newest.{replay_back, mine_back}
use Rattle.state_core.specs.declared.transitions.Transition.{Transition}
use Rattle.state_core.specs.declared.transitions.Transition.TheVariants.{Init, Join}
use Rattle.state_core.specs.States.{ShardState}
use Rattle.state_core.specs.Steps.{Applies, init}
use Rattle.version_codec.specs.Reading.{version_in}
use Rattle.history_core.specs.Histories.{ever}
use Rattle.history_core.specs.Discipline.{IsJoin, Owns, Allows, LawfulBack}
use Rattle.history_core.specs.Stands.{VersionIs, StateIn, end_of, IsLast, IsChain, KeysIn}
use Rattle.state_core.proofs.Keys.{next_rises}
use Rattle.history_core.proofs.Entries.{LogStep, idle, cuts, adds, log_step, among_mine, lawful_newest, lawful_older}
use Rattle.history_core.proofs.Versions.{live}
use Rattle.history_core.proofs.Chains.{Commit, newest_is, version_below, one_state, chain_commit, chain_first, chain_rises}
use Rattle.history_core.proofs.KeyChains.{keys_commit, keys_first}
use Rattle.history_core.proofs.Owners.{commit_of, joins-of, joined, owned_version}
use Rattle.history_core.proofs.Logs.{end_of-committed}

-- the versions that ever were, with the newest of them, and a bound on the members at the start
pub record Kept (shard : ShardId) (log : Log) (start_member : ℕ) : Type 0 where
  pub number : ℕ
  pub last : ShardState
  pub newest : IsLast log number
  pub state : StateIn shard log number last
  pub chain : IsChain shard log
  pub keys : KeysIn shard log last
  pub bound : start_member ≤ last.next_member

-- no version yet, or a chain of them
abbrev pub Standing : ShardId → Log → ℕ → Type 0
Standing shard log start_member = ((log ≡ no_log) × (start_member ≡ 0)) ⊎ Kept shard log start_member

-- the version before a commit is the newest
pub from_last : (shard : ShardId) (log : Log) (start_member : ℕ) (bytes : List ℕ) (k : Kept shard log start_member)
    (c : Commit shard log bytes) → (c.n ≡ k.number) × (k.last ≡ c.from)
from_last shard log start_member bytes k c =
    let e : c.n ≡ k.number = (let a : (c.n + 1) ≡ end_of log = c.last in let b : (k.number + 1) ≡ end_of log = k.newest in omega arith) in
    let s2 = subst (λ (j : ℕ). StateIn shard log j c.from) e c.from_is in
    (e, (one_state shard log k.number k.last c.from k.state.0 s2.0 k.state.1 s2.1).0)

pub kept_commit : (shard : ShardId) (log : Log) (start_member : ℕ) (bytes : List ℕ) → Kept shard log start_member →
    Commit shard log bytes → Kept shard (committed log bytes) start_member
kept_commit shard log start_member bytes k c =
    let (e, same) = from_last shard log start_member bytes k c in
    let up : c.from.next_member ≤ c.to.next_member = next_rises c.from c.to c.step c.applies in
    let bound = k.bound in
    let low : start_member ≤ c.from.next_member = subst (λ (s : ShardState). start_member ≤ s.next_member) same bound in
    record {
      number = (c.n + 1);
      last = c.to;
      newest = ap (λ (j : ℕ). j + 1) c.last ∙ sym (end_of-committed log bytes);
      state = (c.step, newest_is shard log bytes c);
      chain = chain_commit shard log bytes c k.chain;
      keys = keys_commit shard log bytes c (subst (KeysIn shard log) same k.keys);
      bound = omega arith;
    }

pub kept_first : (shard : ShardId) (start_member : ℕ) (bytes : List ℕ) → start_member ≡ 0 →
    version_in shard 0 bytes ≡ Some (init shard, Init) → Kept shard (committed no_log bytes) start_member
kept_first shard start_member bytes zero_start d = record {
  number = 0;
  last = init shard;
  newest = refl;
  state = (Init, d);
  chain = chain_first shard bytes d;
  keys = keys_first shard bytes d;
  bound = omega arith;
}

module _ (start : Stored) (shard : ShardId) (z : (start.logs shard).versions ≡ [] → (start.logs shard).first ≡ 0) (start_member : ℕ) where
  -- an empty log holds no version
  pub no_version : (log : Log) (n : ℕ) (s : ShardState) (x : Transition) → log ≡ no_log → VersionIs shard log n s x → ⊥
  no_version log n s x e h = let g = subst (λ (l : Log). VersionIs shard l n s x) e h in cc

  pub standing_step : (e : Entry) (es : List Entry) → LawfulBack start (e ∷ es) →
      Standing shard (ever start shard es) start_member → Standing shard (ever start shard (e ∷ es)) start_member
  standing_step e es l st = go (log_step shard (replay_back start es) e.call e.outcome)
    where
      add : (expected : Option ℕ) (bytes : List ℕ) → e.call ≡ calls.Cas shard expected bytes →
          commits (live start shard es) expected ≡ true → Standing shard (committed (ever start shard es) bytes) start_member
      add expected bytes c k =
          elim (commit_of start shard z es e.client expected bytes k (subst (Allows (mine_back start es e.client)) c (lawful_newest start e es l))) [
            | inl f ↦ elim st [
              | inl p ↦ inr (subst (λ (q : Log). Kept shard (committed q bytes) start_member) (sym f.empty) (kept_first shard start_member bytes p.1 f.first))
              | inr k2 ↦ absurd (no_version (ever start shard es) k2.number k2.last k2.state.0 f.empty k2.state.1)
            ]
            | inr b ↦ elim st [
              | inl p ↦ absurd (no_version (ever start shard es) b.commit.n b.commit.from b.commit.from_is.0 p.0 b.commit.from_is.1)
              | inr k2 ↦ inr (kept_commit shard (ever start shard es) start_member bytes k2 b.commit)
            ]
          ]

      go : LogStep shard (replay_back start es) e.call e.outcome → Standing shard (ever start shard (e ∷ es)) start_member
      go (idle q g) = subst (λ (q : Log). Standing shard q start_member) (sym (g (ever start shard es))) st
      go (cuts below c q g) = subst (λ (q : Log). Standing shard q start_member) (sym (g (ever start shard es))) st
      go (adds expected bytes c t k q g) = subst (λ (q : Log). Standing shard q start_member) (sym (g (ever start shard es))) (add expected bytes c k)

  -- in each lawful history the versions make a chain, and its keys are kept
  pub standing : (es : List Entry) → LawfulBack start es → Standing shard (start.logs shard) start_member →
      Standing shard (ever start shard es) start_member
  standing [] l st = st
  standing (e ∷ es) l st = standing_step e es l (standing es (lawful_older start e es l) st)

  pub owns_below : (es : List Entry) (k : Kept shard (ever start shard es) start_member) (c m : ℕ) →
      Owns (mine_back start es c) shard m → m < k.last.next_member
  owns_below es k c m o =
      let (n, s, x, is, number) = owned_version start shard z es c m o in
      let (low, high) = version_below shard (ever start shard es) n s x is in
      let last : (k.number + 1) ≡ end_of (ever start shard es) = k.newest in
      let up : s.next_member ≤ k.last.next_member =
      chain_rises shard (ever start shard es) k.chain (λ t. t.next_member) (λ t t2 y a. next_rises t t2 y a) n k.number (omega arith) s k.last (x, is) k.state in
      let eq : s.next_member ≡ (m + 1) = number in
      omega arith

  -- who joins takes the newest state's next member
  new_owner : (e : Entry) (es : List Entry) → LawfulBack start (e ∷ es) →
      (st : Standing shard (ever start shard es) start_member) (m : ℕ) →
      IsJoin shard m e.call (reply_by (replay_back start es) e.call e.outcome) →
      (k : Kept shard (ever start shard es) start_member) × (k.last.next_member ≡ m)
  new_owner e es l st m j =
      let w = joined shard (replay_back start es) e.call e.outcome m j in
      let (s, kind, now, lease, reads, number) = joins-of (version_in shard (next_number w.expected) w.bytes) m w.joins in
      elim (commit_of start shard z es e.client w.expected w.bytes w.commit (subst (Allows (mine_back start es e.client)) w.call_is (lawful_newest start e es l))) [
        | inl f ↦
            let at_zero : next_number w.expected ≡ 0 = ap next_number f.none in
            let r2 : version_in shard 0 w.bytes ≡ Some (s, Join kind now lease) = subst (λ (j2 : ℕ). version_in shard j2 w.bytes ≡ Some (s, Join kind now lease)) at_zero reads in
            let r3 = f.first in
            let e2 : ◌≡◌ {A = ShardState × Transition} (init shard, Init) (s, Join kind now lease) = cc in
            absurd (let e3 : Init ≡ Join kind now lease = ap (λ (p : ShardState × Transition). p.1) e2 in cc)
        | inr b ↦ elim st [
          | inl p ↦ absurd (no_version (ever start shard es) b.commit.n b.commit.from b.commit.from_is.0 p.0 b.commit.from_is.1)
          | inr k ↦
              let c = b.commit in
              let (e5, same) = from_last shard (ever start shard es) start_member w.bytes k c in
              let at_end : next_number w.expected ≡ c.n + 1 = ap next_number b.number in
              let r2 : version_in shard (c.n + 1) w.bytes ≡ Some (s, Join kind now lease) = subst (λ (j2 : ℕ). version_in shard j2 w.bytes ≡ Some (s, Join kind now lease)) at_end reads in
              let r3 = c.written in
              let e2 : ◌≡◌ {A = ShardState × Transition} (c.to, c.step) (s, Join kind now lease) = cc in
              let e3 : c.to ≡ s = ap (λ (p : ShardState × Transition). p.0) e2 in
              let e4 : c.step ≡ Join kind now lease = ap (λ (p : ShardState × Transition). p.1) e2 in
              let a : Applies c.from (Join kind now lease) c.to = subst (λ (y : Transition). Applies c.from y c.to) e4 c.applies in
              let up : c.to.next_member ≡ c.from.next_member + 1 = ap (λ (t : ShardState). t.next_member) a.makes.effect in
              let up2 : c.to.next_member ≡ s.next_member = ap (λ (t : ShardState). t.next_member) e3 in
              let up3 : k.last.next_member ≡ c.from.next_member = ap (λ (t : ShardState). t.next_member) same in
              let up4 : s.next_member ≡ (m + 1) = number in
              (k, omega arith)
        ]
      ]

  -- each member has one owner at most, and none of the start's has one
  pub record Owners (es : List Entry) : Type 0 where
    pub one : (c d m : ℕ) → Owns (mine_back start es c) shard m → Owns (mine_back start es d) shard m → c ≡ d
    pub new : (c m : ℕ) → Owns (mine_back start es c) shard m → start_member ≤ m

  pub owners : (es : List Entry) → LawfulBack start es → Standing shard (start.logs shard) start_member → Owners es
  owners [] l st = record { one = λ c d m o p. absurd o; new = λ c m o. absurd o }
  owners (e ∷ es) l st =
      let older = lawful_older start e es l in
      let stands = standing es older st in
      let before = owners es older st in
      record {
        one = λ c d m o p. elim (among_mine (λ (w : Answered). IsJoin shard m w.entry.call w.reply) start e es c o) [
          | inl a ↦ elim (among_mine (λ (w : Answered). IsJoin shard m w.entry.call w.reply) start e es d p) [
            | inl b ↦ sym a.0 ∙ b.0
            | inr b ↦ let (k, eq) = new_owner e es l stands m a.1 in let lt : m < k.last.next_member = owns_below es k d m b in absurd (omega arith)
          ]
          | inr a ↦ elim (among_mine (λ (w : Answered). IsJoin shard m w.entry.call w.reply) start e es d p) [
            | inl b ↦ let (k, eq) = new_owner e es l stands m b.1 in let lt : m < k.last.next_member = owns_below es k c m a in absurd (omega arith)
            | inr b ↦ before.one c d m a b
          ]
        ];
        new = λ c m o. elim (among_mine (λ (w : Answered). IsJoin shard m w.entry.call w.reply) start e es c o) [
          | inl a ↦ let (k, eq) = new_owner e es l stands m a.1 in let low : start_member ≤ k.last.next_member = k.bound in omega arith
          | inr a ↦ before.new c m a
        ];
      }
