-- What later Gets give of a snapshot's or a listen's parts is what the plain collection answers.
use Rattle.std.proofs.Common.{◌≡◌, ◌&&◌, ℕ, suc, ◌<◌, ◌≤◌, Bool, true, false, cond, List, Option, Some, None, inl, inr, refl, arith, subst, sym, ◌∙◌, ltb, leb}
use Rattle.std.proofs.lemmas.Bool.Decides.{leb_tells}
use Rattle.update_core.specs.declared.rows.Row.{Row}
use Rattle.update_core.specs.declared.updates.Update.{Update}
use Rattle.update_core.specs.Frontiers.{covers}
use Rattle.update_core.specs.Updates.{sum_of, slice_of}
use Rattle.update_core.specs.Collections.{Collection as PlainCollection, content, early, late, snapshot_answer, ListenAnswer, behind, ended, quiet, step, listen_answer, is_closed}
use Rattle.state_core.proofs.ListLemmas.{bool_cases}
use Rattle.state_core.specs.States.{keys_of}
use Rattle.history_core.specs.Discipline.{GotAs, Hold}
use Rattle.history_core.specs.Questions.{ending_past}
use Rattle.history_core.specs.Answers.{own_past}
use Rattle.history_core.specs.Stands.{accepted_of}
use Rattle.history_core.specs.Legal.{collection_in}
use Rattle.history_core.specs.AnswerLaws.{RowsGot, StepGot}
use Rattle.history_core.proofs.GotLaws.{content_law, slice_law}

not_before : (t since : ℕ) → ltb t since ≡ false → since ≤ t
not_before t since h = elim (leb_tells (suc t) since) [ inl p ↦ absurd (let e = p.0 in cc) | inr p ↦ (let lt : since < suc t = p.1 in omega arith) ]

-- where a snapshot is answered with rows, the time is in range, and they are the content there
pub snapshot_rows : (c : PlainCollection) (t : ℕ) (rows : List Row) → snapshot_answer c t ≡ content rows → (c.since ≤ t) × (covers c.upper t ≡ true) × (sum_of c.updates t ≡ rows)
snapshot_rows c t rows h =
    elim (bool_cases (ltb t c.since)) [
      | inl e ↦ absurd (let h2 : early c.since ≡ content rows = subst (λ (b : Bool). cond b (early c.since) (cond (covers c.upper t) (content (sum_of c.updates t)) (late c.upper)) ≡ content rows) e h in cc)
      | inr e ↦
          let h2 = subst (λ (b : Bool). cond b (early c.since) (cond (covers c.upper t) (content (sum_of c.updates t)) (late c.upper)) ≡ content rows) e h in
          elim (bool_cases (covers c.upper t)) [
            | inl f ↦
                let h3 : content (sum_of c.updates t) ≡ content rows = subst (λ (b : Bool). cond b (content (sum_of c.updates t)) (late c.upper) ≡ content rows) f h2 in
                (not_before t c.since e, f, cc)
            | inr f ↦ absurd (let h3 : late c.upper ≡ content rows = subst (λ (b : Bool). cond b (content (sum_of c.updates t)) (late c.upper) ≡ content rows) f h2 in cc)
          ]
    ]

-- what a listen from a frontier is answered, by what is looked at
answer_by : PlainCollection → Option ℕ → Bool → Bool → Bool → ListenAnswer
answer_by c f from closed past = cond from (behind c.since) (cond closed ended (cond past (step (slice_of c.updates f c.upper) c.upper) (quiet c.upper)))

step_by : (c : PlainCollection) (f to : Option ℕ) (rows : List Update) (from closed past : Bool) → answer_by c f from closed past ≡ step rows to →
    (from ≡ false) × (past ≡ true) × (to ≡ c.upper) × (slice_of c.updates f c.upper ≡ rows)
unfolding answer_by
step_by c f to rows true closed past h = absurd (cc)
step_by c f to rows false true past h = absurd (cc)
step_by c f to rows false false true h = (refl, refl, cc, cc)
step_by c f to rows false false false h = absurd (cc)

-- a step of a listen from a frontier
pub record IsStepOf (c : PlainCollection) (f to : Option ℕ) (rows : List Update) : Type 0 where
  pub time : ℕ
  pub at : f ≡ Some time
  pub past_since : c.since < time
  pub before_upper : covers c.upper time ≡ true
  pub end : to ≡ c.upper
  pub slice : slice_of c.updates f c.upper ≡ rows

-- where a listen is answered with a step, its frontier is a time past the since, and the step is the slice up to the upper
pub listen_step : (c : PlainCollection) (f to : Option ℕ) (rows : List Update) → listen_answer c f ≡ step rows to → IsStepOf c f to rows
unfolding answer_by
listen_step c None to rows h = absurd (let p = step_by c None to rows false (is_closed None && is_closed c.upper) false h in let no : false ≡ true = p.1 in cc)
listen_step c (Some time) to rows h =
    let p = step_by c (Some time) to rows (leb time c.since) (is_closed (Some time) && is_closed c.upper) (covers c.upper time) h in
    record { time = time; at = refl; past_since = after_since time p.0; before_upper = p.1; end = p.2; slice = p.3 }
  where
    after_since : (t : ℕ) → leb t c.since ≡ false → c.since < t
    after_since t e = elim (leb_tells t c.since) [ inl q ↦ absurd (let e2 = q.0 in cc) | inr q ↦ q.1 ]

pub rows_law : RowsGot
rows_law shard list h later st l n s is t rows answer client updates held =
    let (low, known, same) = snapshot_rows (collection_in (accepted_of shard list h) s) t rows answer in
    content_law shard list h later st l n s is client t updates low known held ∙ same

pub step_law : StepGot
step_law shard list h later st l n s is f to rows answer client updates held =
    let found = listen_step (collection_in (accepted_of shard list h) s) f to rows answer in
    let held2 = subst (λ (g : Option ℕ). Hold (GotAs (own_past h later client)) (keys_of (ending_past g s.batches)) updates) found.at held in
    let slice2 = subst (λ (g : Option ℕ). slice_of (accepted_of shard list h) g s.upper ≡ rows) found.at found.slice in
    subst (λ (g : Option ℕ). slice_of updates f g ≡ rows) (sym found.end)
    (subst (λ (g : Option ℕ). slice_of updates g s.upper ≡ rows) (sym found.at) (slice_law shard list h later st l n s is client found.time updates found.past_since held2 ∙ slice2))
