-- What the reader's legal answers tell of the updates accepted by now. Entries go newest first.
use Rattle.std.proofs.Common.{◌≡◌, ℕ, zero, suc, Bool, true, false, cond, Option, Some, None, List, [], ◌∷◌, ◌++◌, refl, sym}
use Rattle.std.proofs.Common.{ap, subst, ◌∙◌, inl, inr, arith, eqb}
use Rattle.std.proofs.lemmas.Bool.Decides.{nat_tests}
use Rattle.std.specs.Ordering.{is_gt}
use Rattle.std.specs.Prelude.{⊤, map}
use Rattle.update_core.specs.declared.rows.Row.{Row}
use Rattle.update_core.specs.declared.updates.Update.{Update}
use Rattle.update_core.specs.Collections.{content, listen_answer, snapshot_answer, step}
use Rattle.update_core.specs.Frontiers.{covers, frontier_cmp}
use Rattle.update_core.specs.Totals.{consolidated}
use Rattle.update_core.specs.Updates.{between, slice_of, sum_of, time_cmp, time_entry, update_in_time}
use Rattle.update_core.proofs.SliceLaws.{between-more}
use Rattle.store_core.specs.declared.entries.Entry.{Entry}
use Rattle.store_core.specs.declared.shards.ShardId.{ShardId}
use Rattle.store_core.specs.Newest.{replay_back}
use Rattle.store_core.specs.Stores.{Stored}
use Rattle.state_core.specs.States.{ShardState}
use Rattle.history_core.specs.declared.read_answers.ReadAnswer.{ReadAnswer}
use Rattle.history_core.specs.declared.read_answers.ReadAnswer.TheVariants as reads
use Rattle.history_core.specs.Discipline.{LawfulBack}
use Rattle.history_core.specs.Laws.{LastIs}
use Rattle.history_core.specs.Legal.{Listens, ReadsAt, Snapshots, collection_in}
use Rattle.history_core.specs.Placing.{AtLastScan, Placed, placed, places}
use Rattle.history_core.specs.Stands.{StandsFor, accepted}
use Rattle.history_core.proofs.GotRows.{listen_step, snapshot_rows}
use Rattle.reclock_client.specs.declared.courses.Course.{Course}
use Rattle.reclock_client.specs.declared.steps.Step.{Step}
use Rattle.reclock_client.specs.declared.steps.Step.TheVariants as steps
use Rattle.reclock_client.proofs.Growing.{gained, later, sum_stays}

-- ---- the last Scan's place

-- an entry at its place among some, of which P holds
pub record Found (P : Placed → Type 0) (es : List Entry) : Type 0 where
  pub place : Placed
  pub newer : List Entry
  pub split : es ≡ newer ++ place.before
  pub has : P place

found_later : (P : Placed → Type 0) (e : Entry) (es : List Entry) → Found P es → Found P (e ∷ es)
found_later P e es f = record { place = f.place; newer = e ∷ f.newer; split = ap (λ (l : List Entry). e ∷ l) f.split; has = f.has }

pub found : (shard : ShardId) (P : Placed → Type 0) (client calls : ℕ) (es : List Entry) → AtLastScan shard P (places client calls es) → Found P es
found shard P client zero es h = absurd h
found shard P client (suc n) [] h = absurd h
found shard P client (suc n) (e ∷ es) h =
    by (eqb e.client client) (λ k. found shard P client n es k) (λ k. found shard P client (suc n) es k) h
  where
    by : (b : Bool) → (AtLastScan shard P (places client n es) → Found P es) → (AtLastScan shard P (places client (suc n) es) → Found P es) →
        AtLastScan shard P (cond b (placed e es ∷ places client n es) (places client (suc n) es)) → Found P (e ∷ es)
    by true older same (inl p) = record { place = placed e es; newer = e ∷ []; split = refl; has = p.1 }
    by true older same (inr p) = found_later P e es (older p.1)
    by false older same h = found_later P e es (same h)

-- ---- what an answer tells

-- the content at a time, of the updates accepted by now, of which the upper covers that time
pub record ContentTold (shard : ShardId) (start : Stored) (es : List Entry) (list : List Update) (t : ℕ) (rows : List Row) : Type 0 where
  pub number : ℕ
  pub state : ShardState
  pub last : LastIs (replay_back start es) shard number state
  pub covered : covers state.upper t ≡ true
  pub rows_are : rows ≡ sum_of (accepted shard list start es) t

-- the slice of them from a frontier on up to another, which the upper isn't before
pub record StepTold (shard : ShardId) (start : Stored) (es : List Entry) (list : List Update) (f to : Option ℕ) (rows : List Update) : Type 0 where
  pub number : ℕ
  pub state : ShardState
  pub last : LastIs (replay_back start es) shard number state
  pub within : (t : ℕ) → covers to t ≡ true → covers state.upper t ≡ true
  pub time : ℕ
  pub at : f ≡ Some time
  pub forward : is_gt (frontier_cmp f to) ≡ false
  pub rows_are : rows ≡ slice_of (accepted shard list start es) f to

not_past : (upper : Option ℕ) (time : ℕ) → covers upper time ≡ true → is_gt (frontier_cmp (Some time) upper) ≡ false
not_past None time h = refl
not_past (Some u) time h = grind (arith, nat_tests)

module _ (shard : ShardId) (start : Stored) (es : List Entry) (list : List Update) (st : StandsFor start shard list)
    (l : LawfulBack start es) (client calls member : ℕ) where
  content_found : (t : ℕ) (rows : List Row) → Found (ReadsAt list start shard member (λ c. snapshot_answer c t ≡ content rows)) es →
      ContentTold shard start es list t rows
  content_found t rows f =
      let (n, s, last, both) = f.has in
      let answer = both.1 in
      let back : LawfulBack start (f.newer ++ f.place.before) = subst (LawfulBack start) f.split l in
      let up = later start shard list st f.newer f.place.before back n s last in
      let grown = gained start shard list st f.newer f.place.before back n s last in
      let (low, known, same) = snapshot_rows (collection_in (accepted shard list start f.place.before) s) t rows answer in
      subst (λ (xs : List Entry). ContentTold shard start xs list t rows) (sym f.split) (record {
        number = up.number;
        state = up.state;
        last = up.last;
        covered = up.covered t known;
        rows_are = sym same ∙ sym (sum_stays (accepted shard list start f.place.before) grown.more s.upper t grown.out known)
            ∙ ap (λ (us : List Update). sum_of us t) (sym grown.is);
      })

  step_found : (from to : Option ℕ) (rows : List Update) →
      Found (ReadsAt list start shard member (λ c. listen_answer c from ≡ step rows to)) es → StepTold shard start es list from to rows
  step_found from to rows f =
      let (n, s, last, both) = f.has in
      let answer = both.1 in
      let back : LawfulBack start (f.newer ++ f.place.before) = subst (LawfulBack start) f.split l in
      let up = later start shard list st f.newer f.place.before back n s last in
      let grown = gained start shard list st f.newer f.place.before back n s last in
      let told = listen_step (collection_in (accepted shard list start f.place.before) s) from to rows answer in
      let ends : to ≡ s.upper = told.end in
      let stays : slice_of (accepted shard list start (f.newer ++ f.place.before)) from s.upper ≡
      slice_of (accepted shard list start f.place.before) from s.upper =
      ap (λ (us : List Update). map update_in_time (consolidated time_cmp (map time_entry us)))
      (ap (λ (us : List Update). between from s.upper us) grown.is
      ∙ between-more (accepted shard list start f.place.before) grown.more from s.upper grown.out) in
      subst (λ (xs : List Entry). StepTold shard start xs list from to rows) (sym f.split) (record {
        number = up.number;
        state = up.state;
        last = up.last;
        within = λ t c. up.covered t (subst (λ (g : Option ℕ). covers g t ≡ true) ends c);
        time = told.time;
        at = told.at;
        forward = subst (λ (g : Option ℕ). is_gt (frontier_cmp from g) ≡ false) (sym ends)
            (subst (λ (g : Option ℕ). is_gt (frontier_cmp g s.upper) ≡ false) (sym told.at)
            (not_past s.upper told.time told.before_upper));
        rows_are = sym told.slice ∙ sym stays
            ∙ ap (λ (g : Option ℕ). slice_of (accepted shard list start (f.newer ++ f.place.before)) from g) (sym ends);
      })

  pub content_told : (t : ℕ) (rows : List Row) → Snapshots list start shard member t (content rows) (places client calls es) →
      ContentTold shard start es list t rows
  content_told t rows h = content_found t rows
      (found shard (ReadsAt list start shard member (λ c. snapshot_answer c t ≡ content rows)) client calls es h)

  pub step_told : (from to : Option ℕ) (rows : List Update) → Listens list start shard member from (step rows to) (places client calls es) →
      StepTold shard start es list from to rows
  step_told from to rows h = step_found from to rows
      (found shard (ReadsAt list start shard member (λ c. listen_answer c from ≡ step rows to)) client calls es h)

-- ---- a reader's answer at a step of an operator

-- what it tells an operator that stands so
abbrev pub Tells : ShardId → Stored → List Entry → List Update → Course → Step → ReadAnswer → Type 0
Tells shard start es list c steps.Snapshot (reads.Rows rows) = ContentTold shard start es list c.since rows
Tells shard start es list c steps.Listen (reads.Step from to rows) = StepTold shard start es list c.synced to rows
Tells shard start es list c steps.Next (reads.Step from to rows) = StepTold shard start es list c.synced to rows
Tells shard start es list c other answer = ⊤
