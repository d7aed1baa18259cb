-- Entries of a client that commit no version of a shard: what a run has for its view stays. Entries go newest first.
use Rattle.std.specs.Prelude.{◌&&◌}
use Rattle.std.proofs.Common.{◌≡◌, ℕ, suc, ◌+◌, true, false, List, [], ◌∷◌, ◌++◌, length, inl, inr, refl, arith, subst, sym, ap, ◌∙◌}
use Rattle.std.specs.List.{AllByRecursion}
use Rattle.std.proofs.lemmas.Bool.{eq-eqb}
use Rattle.update_core.specs.declared.updates.Update.{Update}
use Rattle.store_core.specs.declared.shards.ShardId.{ShardId}
use Rattle.store_core.specs.declared.calls.Call.{Call}
use Rattle.store_core.specs.declared.calls.Call.TheVariants as calls
use Rattle.store_core.specs.declared.outcomes.Outcome.{Outcome}
use Rattle.store_core.specs.declared.outcomes.Outcome.TheVariants.{Took, FailedTook, FailedLost}
use Rattle.store_core.specs.declared.entries.Entry.{Entry}
use Rattle.store_core.specs.Changes.{commits}
use Rattle.store_core.specs.Stores.{Stored, no_log, same_number, last_number, is_last_number, next_number}
use Rattle.store_core.specs.Histories.{reply, reply_by}
use Rattle.store_core.specs.Newest.{replay_back}
use Rattle.state_core.specs.Lists.{Among}
use Rattle.state_core.specs.States.{ShardState}
use Rattle.state_core.proofs.ListLemmas.{bool_cases}
use Rattle.history_core.specs.Histories.{same_shard}
use Rattle.history_core.specs.Stands.{accepted}
use Rattle.history_core.specs.Laws.{LastIs}
use Rattle.history_core.specs.Legal.{collection_in}
use Rattle.history_core.specs.Costs.{commits_on, commits_among}
use Rattle.history_core.specs.Placing.{Placed, placed, places, Commits, OnlyOne, AtLastScan}
use Rattle.history_core.proofs.Entries.{shard_eq, shard_same}
use Rattle.history_core.proofs.Quiet.{quiet_back, last_stays}
use Rattle.load_core.specs.Effects.{CommitsNone}
use Rattle.plain_run.specs.PlainRuns.{View}
use Rattle.plain_run.specs.Sessions.{StartsAt, ViewAt, QuietSince, joining_view}

-- ---- what stays

-- what is as it was some entries ago
pub record Stays (shard : ShardId) (list : List Update) (start : Stored) (since es : List Entry) : Type 0 where
  pub last : (n : ℕ) (s : ShardState) → LastIs (replay_back start since) shard n s → LastIs (replay_back start es) shard n s
  pub none : (replay_back start since).logs shard ≡ no_log → (replay_back start es).logs shard ≡ no_log
  pub accepts : accepted shard list start es ≡ accepted shard list start since

-- entries that commit nothing leave it so
pub quiet_stays : (shard : ShardId) (list : List Update) (start : Stored) (client : ℕ) (since es : List Entry) (calls : ℕ) →
    QuietSince shard client start since es calls → Stays shard list start since es
quiet_stays shard list start client since es calls q =
    let kept = quiet_back start shard list q.more since q.quiet in
    subst (λ (fs : List Entry). Stays shard list start since fs) (sym q.split) (record {
      last = last_stays shard (replay_back start since) (replay_back start (q.more ++ since)) kept.keeps;
      none = kept.keeps.none;
      accepts = kept.accepts;
    })

-- the view that a run starts from stays
pub quiet_starts : (shard : ShardId) (list : List Update) (start : Stored) (client : ℕ) (since es : List Entry) (calls : ℕ) (view : View) →
    QuietSince shard client start since es calls → StartsAt shard list start since view → StartsAt shard list start es view
quiet_starts shard list start client since es calls view q at = go at
  where
    stays : Stays shard list start since es
    stays = quiet_stays shard list start client since es calls q

    go : StartsAt shard list start since view → StartsAt shard list start es view
    go (inl h) = inl (stays.none h.0, stays.accepts ∙ h.1, h.2)
    go (inr h) = inr (h.0, h.1, stays.last h.0 h.1 h.2, h.3 ∙ ap (λ (us : List Update). joining_view us h.1) (sym stays.accepts))

-- and so does that of a reader
pub quiet_view : (shard : ShardId) (list : List Update) (start : Stored) (client : ℕ) (since es : List Entry) (calls reader : ℕ) (view : View) →
    QuietSince shard client start since es calls → ViewAt shard list start since reader view → ViewAt shard list start es reader view
quiet_view shard list start client since es calls reader view q v =
    let stays = quiet_stays shard list start client since es calls q in
    record {
      number = v.number;
      state = v.state;
      last = stays.last v.number v.state v.last;
      collection = v.collection ∙ ap (λ (us : List Update). collection_in us v.state) (sym stays.accepts);
      own = v.own;
      others = v.others;
    }

-- ---- one more entry

-- no entry has come yet
pub quiet_start : (shard : ShardId) (client : ℕ) (start : Stored) (es : List Entry) → QuietSince shard client start es es 0
quiet_start shard client start es = record { more = []; split = refl; of_client = tt; as_many = refl; quiet = refl }

-- a call that was answered, but for a commit, committed nothing
pub answered_none : (shard : ShardId) (store : Stored) (call : Call) (outcome : Outcome) → CommitsNone (reply_by store call outcome) →
    commits_on shard store call outcome ≡ false
answered_none shard store call FailedTook c = absurd (c.answered refl)
answered_none shard store call FailedLost c = absurd (c.answered refl)
answered_none shard store (calls.Cas d expected bytes) Took c = elim (bool_cases (same_shard d shard)) [
  | inl here ↦ elim (bool_cases (same_number expected (last_number (store.logs d)))) [
    | inl e ↦ elim (bool_cases (is_last_number expected)) [
      | inl u ↦ subst (λ (w : ShardId). (same_shard d w && commits (store.logs w) expected) ≡ false) (shard_eq d shard here) (rw (shard_same d, e, u) refl)
      | inr u ↦ absurd (c.none (next_number expected) (rw (e, u) refl))
    ]
    | inr e ↦ subst (λ (w : ShardId). (same_shard d w && commits (store.logs w) expected) ≡ false) (shard_eq d shard here) (rw (shard_same d, e) refl)
  ]
  | inr other ↦ rw other refl
]
answered_none shard store (calls.Head d) Took c = refl
answered_none shard store (calls.Scan d from) Took c = refl
answered_none shard store (calls.Truncate d below) Took c = refl
answered_none shard store (calls.Get key) Took c = refl
answered_none shard store (calls.Set key bytes) Took c = refl
answered_none shard store (calls.Delete key) Took c = refl

-- entries that committed nothing, and one more
pub quiet_none : (shard : ShardId) (start : Stored) (client : ℕ) (since es : List Entry) (calls : ℕ) (e : Entry) →
    QuietSince shard client start since es calls → e.client ≡ client → CommitsNone (reply (replay_back start es) e) →
    QuietSince shard client start since (e ∷ es) (calls + 1)
quiet_none shard start client since es calls e q mine c =
    let none : commits_on shard (replay_back start (q.more ++ since)) e.call e.outcome ≡ false =
    subst (λ (fs : List Entry). commits_on shard (replay_back start fs) e.call e.outcome ≡ false) q.split
    (answered_none shard (replay_back start es) e.call e.outcome c) in
    let many : length q.more ≡ calls = q.as_many in
    let quiet : commits_among start shard q.more since ≡ 0 = q.quiet in
    record {
      more = e ∷ q.more;
      split = ap (λ (fs : List Entry). e ∷ fs) q.split;
      of_client = (mine, q.of_client);
      as_many = omega arith;
      quiet = rw none (omega arith);
    }

-- one entry that committed nothing leaves the view that a run starts from
pub none_starts : (shard : ShardId) (list : List Update) (start : Stored) (es : List Entry) (view : View) (e : Entry) → StartsAt shard list start es view →
    CommitsNone (reply (replay_back start es) e) → StartsAt shard list start (e ∷ es) view
none_starts shard list start es view e at c =
    quiet_starts shard list start e.client es (e ∷ es) 1 view (quiet_none shard start e.client es es 0 e (quiet_start shard e.client start es) refl c) at

-- and what is accepted
pub none_keeps : (shard : ShardId) (list : List Update) (start : Stored) (es : List Entry) (e : Entry) → CommitsNone (reply (replay_back start es) e) →
    accepted shard list start (e ∷ es) ≡ accepted shard list start es
none_keeps shard list start es e c =
    (quiet_stays shard list start e.client es (e ∷ es) 1 (quiet_none shard start e.client es es 0 e (quiet_start shard e.client start es) refl c)).accepts

-- ---- the places of the command's entries

-- a place of one of the entries: those before it are quiet too, and P holds of it
pub record QuietPlace (shard : ShardId) (client : ℕ) (start : Stored) (since : List Entry) (P : Placed → Type 0) : Type 0 where
  pub place : Placed
  pub calls : ℕ
  pub before : QuietSince shard client start since place.before calls
  pub holds : P place

-- some element has P where exactly one has
only_among : {A : Type 0} (P Q : A → Type 0) (xs : List A) → OnlyOne P Q xs → Among P xs
only_among P Q [] h = absurd h
only_among P Q (x ∷ xs) (inl h) = inl h.0
only_among P Q (x ∷ xs) (inr h) = inr (only_among P Q xs h.1)

-- an entry that commits is counted
commits_counts : (start : Stored) (shard : ShardId) (e : Entry) (es : List Entry) → Commits start shard (placed e es) →
    commits_on shard (replay_back start es) e.call e.outcome ≡ true
commits_counts start shard e es k =
    subst (λ (w : Call). commits_on shard (replay_back start es) w e.outcome ≡ true) (sym k.call_is) (rw (k.took, shard_same shard, k.commit) refl)

module _ (shard : ShardId) (client : ℕ) (start : Stored) (since : List Entry) where
  -- the newest of quiet entries commits nothing, and the others are quiet
  newest_quiet : (e : Entry) (more : List Entry) → commits_among start shard (e ∷ more) since ≡ 0 →
      (commits_on shard (replay_back start (more ++ since)) e.call e.outcome ≡ false) × (commits_among start shard more since ≡ 0)
  newest_quiet e more h = elim (bool_cases (commits_on shard (replay_back start (more ++ since)) e.call e.outcome)) [
    | inl p ↦ absurd (let bad : 1 + commits_among start shard more since ≡ 0 = rw p at h in omega arith)
    | inr p ↦ (p, (let same : 0 + commits_among start shard more since ≡ 0 = rw p at h in omega arith))
  ]

  scan_among : (P : Placed → Type 0) (more : List Entry) → AllByRecursion (λ e. e.client ≡ client) more →
      commits_among start shard more since ≡ 0 → AtLastScan shard P (places client (length more) (more ++ since)) →
      QuietPlace shard client start since P
  scan_among P [] own quiet h = absurd h
  scan_among P (e ∷ more) own quiet h =
      let older = newest_quiet e more quiet in
      elim (rw (eq-eqb e.client client own.0) at h) [
        | inl k ↦ record {
          place = placed e (more ++ since);
          calls = length more;
          before = record { more = more; split = refl; of_client = own.1; as_many = refl; quiet = older.1 };
          holds = k.1;
        }
        | inr k ↦ scan_among P more own.1 older.1 k.1
      ]

  none_among : (more : List Entry) → AllByRecursion (λ e. e.client ≡ client) more → commits_among start shard more since ≡ 0 →
      Among (Commits start shard) (places client (length more) (more ++ since)) → ⊥
  none_among [] own quiet h = h
  none_among (e ∷ more) own quiet h =
      let older = newest_quiet e more quiet in
      elim (rw (eq-eqb e.client client own.0) at h) [
        | inl k ↦ let counted = commits_counts start shard e (more ++ since) k in let none = older.0 in cc
        | inr k ↦ none_among more own.1 older.1 k
      ]

-- where P holds of the last Scan of a command whose entries are quiet, it holds at some place with the view of the command's begin
pub scan_place : (shard : ShardId) (client : ℕ) (start : Stored) (since es : List Entry) (calls : ℕ) (P : Placed → Type 0) →
    QuietSince shard client start since es calls → AtLastScan shard P (places client calls es) → QuietPlace shard client start since P
scan_place shard client start since es calls P q h =
    scan_among shard client start since P q.more q.of_client q.quiet
    (subst (λ (n : ℕ). AtLastScan shard P (places client n (q.more ++ since))) (sym q.as_many)
    (subst (λ (fs : List Entry). AtLastScan shard P (places client calls fs)) q.split h))

-- no entry of such a command commits
pub quiet_commits : (shard : ShardId) (client : ℕ) (start : Stored) (since es : List Entry) (calls : ℕ) →
    QuietSince shard client start since es calls → Among (Commits start shard) (places client calls es) → ⊥
quiet_commits shard client start since es calls q h =
    none_among shard client start since q.more q.of_client q.quiet
    (subst (λ (n : ℕ). Among (Commits start shard) (places client n (q.more ++ since))) (sym q.as_many)
    (subst (λ (fs : List Entry). Among (Commits start shard) (places client calls fs)) q.split h))

-- where exactly one entry commits, and all but the newest are quiet, it is the newest, whose reply says so
pub only_newest : (shard : ShardId) (client : ℕ) (start : Stored) (since es : List Entry) (calls : ℕ) (e : Entry) (Q : Placed → Type 0) →
    QuietSince shard client start since es calls → e.client ≡ client →
    OnlyOne (Commits start shard) Q (places client (calls + 1) (e ∷ es)) → Q (placed e es) × (CommitsNone (reply (replay_back start es) e) → ⊥)
only_newest shard client start since es calls e Q q mine h = (here, λ c. none c)
  where
    one_more : calls + 1 ≡ suc calls
    one_more = omega arith

    here : Q (placed e es)
    here =
        let h2 = subst (λ (n : ℕ). OnlyOne (Commits start shard) Q (places client n (e ∷ es))) one_more h in
        elim (rw (eq-eqb e.client client mine) at h2) [
          | inl k ↦ k.1
          | inr k ↦ absurd (quiet_commits shard client start since es calls q (only_among (Commits start shard) Q (places client calls es) k.1))
        ]

    none : CommitsNone (reply (replay_back start es) e) → ⊥
    none c =
        quiet_commits shard client start since (e ∷ es) (calls + 1) (quiet_none shard start client since es calls e q mine c)
        (only_among (Commits start shard) Q (places client (calls + 1) (e ∷ es)) h)
