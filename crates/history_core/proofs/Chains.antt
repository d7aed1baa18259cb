-- Versions that make a chain, and a commit after them.
use Rattle.std.proofs.Common.{◌≡◌, ℕ, zero, suc, ◌+◌, ◌-◌, ◌<◌, ◌≤◌, List, ◌⊎◌, inl, inr, refl, arith, subst, sym, ap, ◌∙◌, Some, None, Option}
use Rattle.store_core.specs.declared.shards.ShardId.{ShardId}
use Rattle.store_core.specs.Stores.{Log, no_log, committed}
use Rattle.state_core.specs.declared.transitions.Transition.{Transition}
use Rattle.state_core.specs.declared.transitions.Transition.TheVariants.{Init}
use Rattle.state_core.specs.States.{ShardState, floor}
use Rattle.state_core.specs.Steps.{Applies, init}
use Rattle.version_codec.specs.Reading.{version_in}
use Rattle.history_core.specs.Histories.{version_at}
use Rattle.history_core.specs.Stands.{read_version, VersionIs, StateIn, end_of, IsLast, IsChain}
use Rattle.state_core.proofs.Floors.{floor_rises}
use Rattle.history_core.proofs.Logs.{committed_either, committed_old, committed_new, version_bounds, version_there}

pub version_is : (shard : ShardId) (log : Log) (n : ℕ) (b : List ℕ) (s : ShardState) (x : Transition) →
    version_at log n ≡ Some b → version_in shard n b ≡ Some (s, x) → VersionIs shard log n s x
version_is shard log n b s x h d = rw h d

bytes-of : (shard : ShardId) (n : ℕ) (o : Option (List ℕ)) (s : ShardState) (x : Transition) →
    read_version shard n o ≡ Some (s, x) → (b : List ℕ) × (o ≡ Some b) × (version_in shard n b ≡ Some (s, x))
bytes-of shard n None s x h = cc
bytes-of shard n (Some b) s x h = (b, refl, h)

pub bytes_of : (shard : ShardId) (log : Log) (n : ℕ) (s : ShardState) (x : Transition) → VersionIs shard log n s x →
    (b : List ℕ) × (version_at log n ≡ Some b) × (version_in shard n b ≡ Some (s, x))
bytes_of shard log n s x h = bytes-of shard n (version_at log n) s x h

pub one_state : (shard : ShardId) (log : Log) (n : ℕ) (s s2 : ShardState) (x x2 : Transition) → VersionIs shard log n s x →
    VersionIs shard log n s2 x2 → (s ≡ s2) × (x ≡ x2)
one_state shard log n s s2 x x2 h g = let e : (s, x) ≡ (s2, x2) = cc in (ap (λ (p : ShardState × Transition). p.0) e, ap (λ (p : ShardState × Transition). p.1) e)

-- a version of a log is old, or the newest
pub either_version : (shard : ShardId) (log : Log) (bytes : List ℕ) (n : ℕ) (s : ShardState) (x : Transition) →
    VersionIs shard (committed log bytes) n s x →
    VersionIs shard log n s x ⊎ ((n ≡ end_of log) × (version_in shard n bytes ≡ Some (s, x)))
either_version shard log bytes n s x h =
    let (b, there, reads) = bytes_of shard (committed log bytes) n s x h in
    elim (committed_either log bytes n b there) [
      | inl g ↦ inl (version_is shard log n b s x g reads)
      | inr g ↦ inr (g.0, subst (λ (c : List ℕ). version_in shard n c ≡ Some (s, x)) g.1 reads)
    ]

pub version_on : (shard : ShardId) (log : Log) (bytes : List ℕ) (n : ℕ) (s : ShardState) (x : Transition) →
    VersionIs shard log n s x → VersionIs shard (committed log bytes) n s x
version_on shard log bytes n s x h =
    let (b, there, reads) = bytes_of shard log n s x h in
    version_is shard (committed log bytes) n b s x (committed_old log bytes n b there) reads

pub version_below : (shard : ShardId) (log : Log) (n : ℕ) (s : ShardState) (x : Transition) → VersionIs shard log n s x →
    (log.first ≤ n) × (n < end_of log)
version_below shard log n s x h = let (b, there, reads) = bytes_of shard log n s x h in version_bounds log n b there

-- bytes that commit after version n
pub record Commit (shard : ShardId) (log : Log) (bytes : List ℕ) : Type 0 where
  pub n : ℕ
  pub from : ShardState
  pub to : ShardState
  pub step : Transition
  pub last : IsLast log n
  pub from_is : StateIn shard log n from
  pub written : version_in shard (n + 1) bytes ≡ Some (to, step)
  pub applies : Applies from step to

-- in the longer log a version is old, or is the one committed
pub after_commit : (shard : ShardId) (log : Log) (bytes : List ℕ) (k : Commit shard log bytes) (m : ℕ) (s : ShardState)
    (x : Transition) → VersionIs shard (committed log bytes) m s x →
    VersionIs shard log m s x ⊎ ((m ≡ (k.n + 1)) × (s ≡ k.to) × (x ≡ k.step))
after_commit shard log bytes k m s x h =
    elim (either_version shard log bytes m s x h) [
      | inl g ↦ inl g
      | inr g ↦
          let at_end : m ≡ (k.n + 1) = g.0 ∙ sym k.last in
          let reads : version_in shard (k.n + 1) bytes ≡ Some (s, x) = subst (λ (j : ℕ). version_in shard j bytes ≡ Some (s, x)) at_end g.1 in
          let written = k.written in
          let e : (s, x) ≡ (k.to, k.step) = cc in
          inr (at_end, ap (λ (p : ShardState × Transition). p.0) e, ap (λ (p : ShardState × Transition). p.1) e)
    ]

pub newest_is : (shard : ShardId) (log : Log) (bytes : List ℕ) (k : Commit shard log bytes) →
    VersionIs shard (committed log bytes) (k.n + 1) k.to k.step
newest_is shard log bytes k =
    version_is shard (committed log bytes) (k.n + 1) bytes k.to k.step
    (subst (λ (j : ℕ). version_at (committed log bytes) j ≡ Some bytes) (sym k.last) (committed_new log bytes)) k.written

pub chain_commit : (shard : ShardId) (log : Log) (bytes : List ℕ) → Commit shard log bytes → IsChain shard log →
    IsChain shard (committed log bytes)
chain_commit shard log bytes k ch = record {
  each = λ n b h. elim (committed_either log bytes n b h) [
    | inl g ↦ ch.each n b g
    | inr g ↦ let at_end : n ≡ (k.n + 1) = g.0 ∙ sym k.last in (k.to, k.step, subst (λ (j : ℕ). version_in shard j b ≡ Some (k.to, k.step)) (sym at_end) (subst (λ (c : List ℕ). version_in shard (k.n + 1) c ≡ Some (k.to, k.step)) (sym g.1) k.written))
  ];
  first = λ s x h. elim (after_commit shard log bytes k 0 s x h) [ inl g ↦ ch.first s x g | inr g ↦ let e : 0 ≡ (k.n + 1) = g.0 in absurd (omega arith) ];
  step = λ n s s2 x x2 h h2. elim (after_commit shard log bytes k (n + 1) s2 x2 h2) [
    | inl g2 ↦ elim (after_commit shard log bytes k n s x h) [
      | inl g ↦ ch.step n s s2 x x2 g g2
      | inr g ↦ let (low, high) = version_below shard log (n + 1) s2 x2 g2 in let e : n ≡ (k.n + 1) = g.0 in let l : (k.n + 1) ≡ end_of log = k.last in absurd (omega arith)
    ]
    | inr g2 ↦ elim (after_commit shard log bytes k n s x h) [
      | inl g ↦
          let e : n ≡ k.n = (let e2 : (n + 1) ≡ (k.n + 1) = g2.0 in omega arith) in
          let g3 = subst (λ (j : ℕ). VersionIs shard log j s x) e g in
          let (e3, e4) = one_state shard log k.n s k.from x k.from_is.0 g3 k.from_is.1 in
          subst (λ (t : ShardState). Applies t x2 s2) (sym e3) (subst (λ (t : ShardState). Applies k.from x2 t) (sym g2.1) (subst (λ (y : Transition). Applies k.from y k.to) (sym g2.2) k.applies))
      | inr g ↦ let e : n ≡ (k.n + 1) = g.0 in let e2 : (n + 1) ≡ (k.n + 1) = g2.0 in absurd (omega arith)
    ]
  ];
}

pub chain_first : (shard : ShardId) (bytes : List ℕ) → version_in shard 0 bytes ≡ Some (init shard, Init) →
    IsChain shard (committed no_log bytes)
chain_first shard bytes d = record {
  each = λ n b h. elim (committed_either no_log bytes n b h) [
    | inl g ↦ cc
    | inr g ↦ (init shard, Init, subst (λ (j : ℕ). version_in shard j b ≡ Some (init shard, Init)) (sym g.0) (subst (λ (c : List ℕ). version_in shard 0 c ≡ Some (init shard, Init)) (sym g.1) d))
  ];
  first = λ s x h. let e : (s, x) ≡ (init shard, Init) = cc in (ap (λ (p : ShardState × Transition). p.0) e, ap (λ (p : ShardState × Transition). p.1) e);
  step = λ n s s2 x x2 h h2. let (low, high) = version_below shard (committed no_log bytes) (n + 1) s2 x2 h2 in absurd (omega arith);
}

-- what no transition lowers is lowered by no version
chain-rises : (shard : ShardId) (log : Log) → IsChain shard log → (f : ShardState → ℕ) →
    ((s s2 : ShardState) (x : Transition) → Applies s x s2 → f s ≤ f s2) →
    (d m n : ℕ) → n ≡ m + d → (s s2 : ShardState) (x x2 : Transition) → VersionIs shard log m s x → VersionIs shard log n s2 x2 → f s ≤ f s2
chain-rises shard log ch f up zero m n e s s2 x x2 h g =
    let e2 : m ≡ n = omega arith in
    let (same, other) = one_state shard log n s s2 x x2 (subst (λ (j : ℕ). VersionIs shard log j s x) e2 h) g in
    let e3 : f s ≡ f s2 = ap f same in omega arith
chain-rises shard log ch f up (suc d) m n e s s2 x x2 h g =
    let (low, high) = version_below shard log m s x h in
    let (low2, high2) = version_below shard log n s2 x2 g in
    let e2 : n ≡ m + d + 1 = omega arith in
    let (b, there) = version_there log (m + d) (omega arith) (omega arith) in
    let (t, y, reads) = ch.each (m + d) b there in
    let mid = version_is shard log (m + d) b t y there reads in
    let below : f s ≤ f t = chain-rises shard log ch f up d m (m + d) refl s t x y h mid in
    let above : f t ≤ f s2 = up t s2 x2 (ch.step (m + d) t s2 y x2 mid (subst (λ (j : ℕ). VersionIs shard log j s2 x2) e2 g)) in
    omega arith

pub chain_rises : (shard : ShardId) (log : Log) → IsChain shard log → (f : ShardState → ℕ) →
    ((s s2 : ShardState) (x : Transition) → Applies s x s2 → f s ≤ f s2) →
    (m n : ℕ) → m ≤ n → (s s2 : ShardState) → StateIn shard log m s → StateIn shard log n s2 → f s ≤ f s2
chain_rises shard log ch f up m n le s s2 h g = chain-rises shard log ch f up (n - m) m n (omega arith) s s2 h.0 g.0 h.1 g.1

-- the floor never falls along the versions
pub floors_rise : (shard : ShardId) (log : Log) → IsChain shard log → (m n : ℕ) → m ≤ n → (s s2 : ShardState) →
    StateIn shard log m s → StateIn shard log n s2 → floor s ≤ floor s2
floors_rise shard log ch m n le s s2 h g = chain_rises shard log ch floor (λ t t2 y a. floor_rises t t2 y a) m n le s s2 h g
