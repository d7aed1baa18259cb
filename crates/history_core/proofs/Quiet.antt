-- Entries that commit no version of a shard leave its last version and the accepted list as they were.
use Rattle.std.proofs.Common.{◌≡◌, ℕ, ◌+◌, Bool, true, false, cond, List, [], ◌∷◌, ◌++◌, drop, inl, inr, refl, arith, subst, sym, ap, ◌∙◌, Some, None}
use Rattle.std.specs.Prelude.{reverse}
use Rattle.update_core.specs.declared.updates.Update.{Update}
use Rattle.store_core.specs.declared.shards.ShardId.{ShardId}
use Rattle.store_core.specs.declared.calls.Call.{Call}
use Rattle.store_core.specs.declared.calls.Call.TheVariants as calls
use Rattle.store_core.specs.declared.outcomes.Outcome.{Outcome}
use Rattle.store_core.specs.declared.entries.Entry.{Entry}
use Rattle.store_core.specs.Stores.{Log, Stored, no_log, gone, truncated}
use Rattle.store_core.specs.Histories.{store_after, after_outcome}
use Rattle.store_core.specs.Ports.{with_entries}
use Rattle.store_core.specs.Newest.{replay_back}
use Rattle.store_core.proofs.NewestLaws.{replay-newest}
use Rattle.state_core.specs.States.{ShardState}
use Rattle.version_codec.specs.Reading.{version_in}
use Rattle.state_core.proofs.ListLemmas.{bool_cases, append-nil}
use Rattle.history_core.specs.Histories.{version_at}
use Rattle.history_core.specs.Stands.{IsLast, end_of, appended, appended_by, accepted}
use Rattle.history_core.specs.Laws.{LastIs}
use Rattle.history_core.specs.Costs.{commits_on, commits_among}
use Rattle.history_core.specs.StretchLaws.{QuietStays}
use Rattle.history_core.proofs.Entries.{LogStep, idle, cuts, adds, log_step, shard_same}
use Rattle.history_core.proofs.Logs.{version_bounds, version_there, truncated_old, end_of-truncated}
use Rattle.history_core.proofs.Chains.{bytes_of, version_is}
use Rattle.history_core.proofs.Owners.{log_is}
use Rattle.history_core.proofs.LawfulLaws.{turned, store_both}

-- the last version of a log, or that there is none, goes on to be so in another
pub record KeepsLast (old new : Log) : Type 0 where
  pub last : (n : ℕ) (v : List ℕ) → IsLast old n → version_at old n ≡ Some v → IsLast new n × (version_at new n ≡ Some v)
  pub none : old ≡ no_log → new ≡ no_log

keeps_same : (old new : Log) → new ≡ old → KeepsLast old new
keeps_same old new e =
    subst (λ (w : Log). KeepsLast old w) (sym e) (record { last = λ n v at there. (at, there); none = λ h. h })

keeps_on : (a b c : Log) → KeepsLast a b → KeepsLast b c → KeepsLast a c
keeps_on a b c x y = record {
  last = λ n v at there. let p = x.last n v at there in y.last n v p.0 p.1;
  none = λ h. y.none (x.none h);
}

-- a Truncate leaves the last version
cut_last : (log : Log) (below n : ℕ) (v : List ℕ) → IsLast log n → version_at log n ≡ Some v →
    IsLast (truncated log below) n × (version_at (truncated log below) n ≡ Some v)
cut_last log below n v at there =
    let (low, high) = version_bounds log n v there in
    let end : n + 1 ≡ end_of log = at in
    let same : end_of (truncated log below) ≡ end_of log = end_of-truncated log below in
    let (w, there2) = version_there (truncated log below) n (omega arith) (omega arith) in
    let old = truncated_old log below n w there2 in
    (end ∙ sym same, there2 ∙ sym old ∙ there)

-- and where there is none it leaves none
cut_none : (below : ℕ) → truncated no_log below ≡ no_log
cut_none below =
    let zero : gone no_log below ≡ 0 = omega arith in
    log_is (truncated no_log below) (ap (λ (k : ℕ). drop k no_log.versions) zero) (omega arith)

keeps_cut : (log : Log) (below : ℕ) → KeepsLast log (truncated log below)
keeps_cut log below = record {
  last = cut_last log below;
  none = λ e. ap (λ (w : Log). truncated w below) e ∙ cut_none below;
}

-- an entry that commits no version of the shard leaves the last one
keeps_step : (shard : ShardId) (store : Stored) (call : Call) (outcome : Outcome) → commits_on shard store call outcome ≡ false →
    KeepsLast (store.logs shard) ((after_outcome store call outcome).logs shard)
keeps_step shard store call outcome quiet = go (log_step shard store call outcome)
  where
    go : LogStep shard store call outcome → KeepsLast (store.logs shard) ((after_outcome store call outcome).logs shard)
    go (idle q g) = keeps_same (store.logs shard) ((after_outcome store call outcome).logs shard) q
    go (cuts below c q g) = subst (λ (w : Log). KeepsLast (store.logs shard) w) (sym q) (keeps_cut (store.logs shard) below)
    go (adds expected bytes c t k q g) =
        let yes : commits_on shard store call outcome ≡ true =
        subst (λ (w : Call). commits_on shard store w outcome ≡ true) (sym c) (rw (t, shard_same shard, k) refl) in
        absurd (cc)

-- and appends nothing
appended_quiet : (store : Stored) (shard : ShardId) (e : Entry) (call : Call) → commits_on shard store call e.outcome ≡ false →
    appended store shard e call ≡ []
appended_quiet store shard e (calls.Cas d (Some n) bytes) h =
    ap (λ (b : Bool). cond b (appended_by store (version_in shard (n + 1) bytes)) []) h
appended_quiet store shard e (calls.Cas d None bytes) h = refl
appended_quiet store shard e (calls.Head d) h = refl
appended_quiet store shard e (calls.Scan d from) h = refl
appended_quiet store shard e (calls.Truncate d below) h = refl
appended_quiet store shard e (calls.Get q) h = refl
appended_quiet store shard e (calls.Set q bytes) h = refl
appended_quiet store shard e (calls.Delete q) h = refl

-- what entries that commit no version of a shard leave as it was; they may be of a history that isn't lawful
pub record Quiet (start : Stored) (shard : ShardId) (list : List Update) (fs es : List Entry) : Type 0 where
  pub keeps : KeepsLast ((replay_back start es).logs shard) ((replay_back start (fs ++ es)).logs shard)
  pub accepts : accepted shard list start (fs ++ es) ≡ accepted shard list start es

pub quiet_back : (start : Stored) (shard : ShardId) (list : List Update) (fs es : List Entry) →
    commits_among start shard fs es ≡ 0 → Quiet start shard list fs es
quiet_back start shard list [] es h = record {
  keeps = keeps_same ((replay_back start es).logs shard) ((replay_back start es).logs shard) refl;
  accepts = refl;
}
quiet_back start shard list (e ∷ fs) es h =
    elim (bool_cases (commits_on shard (replay_back start (fs ++ es)) e.call e.outcome)) [
      | inl p ↦
          let h2 : 1 + commits_among start shard fs es ≡ 0 =
          subst (λ (b : Bool). cond b 1 0 + commits_among start shard fs es ≡ 0) p h in
          absurd (omega arith)
      | inr p ↦
          let h2 : 0 + commits_among start shard fs es ≡ 0 =
          subst (λ (b : Bool). cond b 1 0 + commits_among start shard fs es ≡ 0) p h in
          let before = quiet_back start shard list fs es (omega arith) in
          record {
            keeps = keeps_on ((replay_back start es).logs shard) ((replay_back start (fs ++ es)).logs shard)
                ((replay_back start (e ∷ (fs ++ es))).logs shard) before.keeps
                (keeps_step shard (replay_back start (fs ++ es)) e.call e.outcome p);
            accepts = ap (λ (us : List Update). accepted shard list start (fs ++ es) ++ us)
                (appended_quiet (replay_back start (fs ++ es)) shard e e.call p)
                ∙ append-nil (accepted shard list start (fs ++ es)) ∙ before.accepts;
          }
    ]

-- the last version's state stays with its bytes
pub last_stays : (shard : ShardId) (a b : Stored) → KeepsLast (a.logs shard) (b.logs shard) → (n : ℕ) (s : ShardState) →
    LastIs a shard n s → LastIs b shard n s
last_stays shard a b keeps n s is =
    let (bytes, there, reads) = bytes_of shard (a.logs shard) n s is.1.0 is.1.1 in
    let p = keeps.last n bytes is.0 there in
    (p.0, (is.1.0, version_is shard (b.logs shard) n bytes s is.1.0 p.1 reads))

pub quiet_law : QuietStays
quiet_law shard list h later st l none =
    let q = quiet_back h.start shard list (reverse later) (reverse h.trail) none in
    let before = replay-newest h.start h.trail in
    let after = store_both h later in
    let keeps : KeepsLast ((store_after h).logs shard) ((store_after (with_entries h later)).logs shard) =
    subst (λ (a : Stored). KeepsLast (a.logs shard) ((store_after (with_entries h later)).logs shard)) (sym before)
    (subst (λ (b : Stored). KeepsLast ((replay_back h.start (reverse h.trail)).logs shard) (b.logs shard)) (sym after) q.keeps) in (
      last_stays shard (store_after h) (store_after (with_entries h later)) keeps,
      ap (λ (es : List Entry). accepted shard list h.start es) (turned h later) ∙ q.accepts,
      keeps.none,
    )
