-- What a Scan that reaches past what was shown tells of the last version.
use Rattle.std.proofs.Common.{◌≡◌, ℕ, ◌+◌, ◌<◌, ◌≤◌, List, [], ◌∷◌, ◌⊎◌, inl, inr, refl, arith, subst, sym, ap, ◌∙◌, Some, None, length}
use Rattle.store_core.specs.declared.shards.ShardId.{ShardId}
use Rattle.store_core.specs.declared.calls.Call.{Call}
use Rattle.store_core.specs.declared.calls.Call.TheVariants as calls
use Rattle.store_core.specs.declared.outcomes.Outcome.{Outcome}
use Rattle.store_core.specs.declared.outcomes.Outcome.TheVariants.{Took, FailedTook, FailedLost}
use Rattle.store_core.specs.declared.entries.Entry.{Entry}
use Rattle.store_core.specs.Stores.{Log, Stored, last_number}
use Rattle.store_core.specs.Histories.{after_outcome, reply_by}
use Rattle.store_core.specs.Ports.{Answered}
use Rattle.store_core.specs.Newest.{replay_back, mine_back}
use Rattle.history_core.specs.Histories.{version_at, Told, Shows, ever}
use Rattle.history_core.specs.Discipline.{LawfulBack}
use Rattle.history_core.specs.Stands.{end_of, IsLast}
use Rattle.std.proofs.Common.{pred}
use Rattle.history_core.specs.Histories.{bytes_from}
use Rattle.history_core.proofs.Logs.{empty_last}
use Rattle.history_core.proofs.Entries.{mine_newest}
use Rattle.history_core.proofs.Versions.{Agree, logs_agree, live, shows_ever}
use Rattle.history_core.proofs.Logs.{last_none_empty, version_bounds}
use Rattle.history_core.proofs.Logs.{scan_shows, version_there}

module _ (start : Stored) (shard : ShardId) (first : (start.logs shard).versions ≡ [] → (start.logs shard).first ≡ 0) where
  -- a Scan that began at most one above the greatest number shown shows that this is the last version's
  pub newest_shown : (es : List Entry) (e : Entry) (from n : ℕ) (b : List ℕ) → LawfulBack start (e ∷ es) →
      e.call ≡ calls.Scan shard from → e.outcome ≡ Took → from ≤ n + 1 → Shows (mine_back start (e ∷ es) e.client) shard n b →
      ((m : ℕ) (v : List ℕ) → Shows (mine_back start (e ∷ es) e.client) shard m v → m ≤ n) → IsLast (live start shard (e ∷ es)) n
  newest_shown es e from n b l c t le shown greatest =
      let agree = logs_agree start shard first (e ∷ es) in
      let ever_there = shows_ever start shard first (e ∷ es) e.client n b shown in
      let (low, high) = version_bounds (ever start shard (e ∷ es)) n b ever_there in
      let same_log : live start shard (e ∷ es) ≡ live start shard es = scan_same e.call e.outcome c in
      elim (below_or (end_of (live start shard (e ∷ es))) (n + 1)) [
        | inl small ↦ (let nx = agree.next in omega arith)
        | inr big ↦ absurd (more agree same_log big ever_there)
      ]
    where
      below_or : (a d : ℕ) → (a ≤ d) ⊎ (d < a)
      below_or a d = grind arith

      scan_same : (call : Call) (outcome : Outcome) → call ≡ calls.Scan shard from →
          (after_outcome (replay_back start es) call outcome).logs shard ≡ (replay_back start es).logs shard
      scan_same call outcome q = subst (λ (w : Call). (after_outcome (replay_back start es) w outcome).logs shard ≡ (replay_back start es).logs shard) (sym q) (kept outcome)
        where
          kept : (o : Outcome) → (after_outcome (replay_back start es) (calls.Scan shard from) o).logs shard ≡ (replay_back start es).logs shard
          kept Took = refl
          kept FailedTook = refl
          kept FailedLost = refl

      told : (j : ℕ) (v : List ℕ) → from ≤ j → version_at (live start shard es) j ≡ Some v →
          Told shard j v e.call (reply_by (replay_back start es) e.call e.outcome)
      told j v le2 h = subst (λ (w : Call). Told shard j v w (reply_by (replay_back start es) w e.outcome)) (sym c)
          (subst (λ (o : Outcome). Told shard j v (calls.Scan shard from) (reply_by (replay_back start es) (calls.Scan shard from) o)) (sym t)
          (refl, scan_shows from (live start shard es) j v le2 h))

      more : Agree (live start shard (e ∷ es)) (ever start shard (e ∷ es)) → live start shard (e ∷ es) ≡ live start shard es →
          (n + 1) < end_of (live start shard (e ∷ es)) → version_at (ever start shard (e ∷ es)) n ≡ Some b → ⊥
      more agree same_log big there =
          let last : ℕ = pred (end_of (live start shard es)) in
          let e1 : end_of (live start shard (e ∷ es)) ≡ end_of (live start shard es) = ap end_of same_log in
          elim (last_live (live start shard es) (let z : 0 < end_of (live start shard es) = omega arith in z) (some_last agree same_log)) [
            | inl x ↦ x
            | inr x ↦
                let (j, v, at_end, h) = x in
                let end : (j + 1) ≡ end_of (live start shard es) = at_end in
                let j_low = greatest j v (mine_newest (λ (o : Answered). Told shard j v o.entry.call o.reply) start e es (told j v (omega arith) h)) in
                omega arith
          ]
        where
          -- a log with a last version has it
          last_live : (log : Log) → 0 < end_of log → ((log.versions ≡ []) → ⊥) →
              ⊥ ⊎ ((j : ℕ) × (v : List ℕ) × ((j + 1) ≡ end_of log) × (version_at log j ≡ Some v))
          last_live log pos ne = elim (below_or (length log.versions) 0) [
            | inl z ↦ inl (ne (empty log.versions z))
            | inr z ↦ let (v, h) = version_there log (log.first + pred (length log.versions)) (omega arith) (omega arith) in inr (log.first + pred (length log.versions), v, omega arith, h)
          ]
            where
              empty : (vs : List (List ℕ)) → length vs ≤ 0 → vs ≡ []
              empty [] le0 = refl
              empty (v ∷ vs) le0 = absurd (omega arith)

          some_last : Agree (live start shard (e ∷ es)) (ever start shard (e ∷ es)) →
              live start shard (e ∷ es) ≡ live start shard es → (live start shard es).versions ≡ [] → ⊥
          some_last agree2 same2 nil =
              let a : last_number (live start shard es) ≡ None = empty_last (live start shard es) nil in
              let a2 : last_number (live start shard (e ∷ es)) ≡ None = ap last_number same2 ∙ a in
              let vs = last_none_empty (ever start shard (e ∷ es)) (sym agree2.last ∙ a2) in
              let g = subst (λ (w : List (List ℕ)). bytes_from (ever start shard (e ∷ es)).first w n ≡ Some b) vs there in cc
