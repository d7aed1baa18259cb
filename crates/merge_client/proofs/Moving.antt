-- What a reply to a compactor's call comes to.
use Rattle.std.proofs.Common.{◌≡◌, ℕ, true, false, Option, Some, None, length, refl, ap, subst, ◌∙◌}
use Rattle.std.specs.Prelude.{IsSome, IfSome}
use Rattle.store_core.specs.declared.part_keys.PartKey.{PartKey}
use Rattle.store_core.specs.declared.replies.Reply.{Reply}
use Rattle.history_core.specs.declared.asked.Asked.{Asked}
use Rattle.history_core.specs.declared.merge_answers.MergeAnswer.{MergeAnswer}
use Rattle.load_core.specs.declared.polls.Poll.{Poll}
use Rattle.load_core.specs.declared.tries.Tried.{Tried}
use Rattle.read_machine.specs.declared.readings.Reading.{Reading}
use Rattle.read_machine.specs.Readings as readings
use Rattle.token_machine.specs.declared.storings.Storing.{Storing}
use Rattle.token_machine.specs.Storings as storing
use Rattle.merge_client.specs.declared.compactors.Compactor.{Compactor}
use Rattle.merge_client.specs.declared.dues.Due.{Due}
use Rattle.merge_client.specs.declared.founds.Found.{Found}
use Rattle.merge_client.specs.declared.pair_bounds.PairBound.{PairBound}
use Rattle.merge_client.specs.Finding.{finding}
use Rattle.merge_client.specs.Fitting.{bound_at, misfit_by}
use Rattle.merge_client.specs.Merging.{IsOpen, MovesAfterRead, MovesAfterTry, after_poll, given_after, left_fit, misfit, read_poll, reading_on, taken_back, told_fit, verdict, with_pair}

-- what a reply to a call of a transition comes to
pub tried_moves : (old : Compactor) (reply : Reply) (s : Storing) (tried : Tried) (poll : Poll MergeAnswer) → IsOpen old →
    storing.Moves old.storing reply s tried → IfSome old.asked (λ asked. poll ≡ verdict (record old { storing = s }) asked
    tried) →
    MovesAfterTry old reply (after_poll (record old { storing = s }) poll) poll
tried_moves old reply s tried poll is_open moves told = go old.asked refl is_open told
  where
    go : (a : Option Asked) → old.asked ≡ a → IsSome a → IfSome a (λ asked. poll ≡ verdict (record old { storing = s })
        asked tried) →
        MovesAfterTry old reply (after_poll (record old { storing = s }) poll) poll
    go None e some h = absurd (let bad : false ≡ true = some in cc)
    go (Some asked) e some h = (s, tried, asked, moves, e, h, refl)

-- what a reply to a call of the reading comes to, step by step
pub read_moves : (old : Compactor) (reply : Reply) (r : Reading Due) (read : Poll Found) (bound : Option PairBound)
    (m : Option PartKey) (count : ℕ) (v1 v2 v3 v4 : Compactor) (told : Poll Found) (poll : Poll MergeAnswer) →
    readings.Moves finding v1.reading reply r read → bound ≡ bound_at old.reading.course old.reading.course.stage →
    count ≡ length old.reading.course.getting.rows → v1 ≡ reading_on old old.reading →
    m ≡ misfit_by bound v1.left_rows old.reading.course.getting.place count r.course.getting →
    v2 ≡ record v1 { reading = left_fit m r } → told ≡ told_fit m read → v3 ≡ given_after v2 told → v4 ≡ with_pair v3 told →
    poll ≡ read_poll told → MovesAfterRead old reply (after_poll v4 poll) poll
read_moves old reply r read bound m count v1 v2 v3 v4 told poll moves bound_is count_is v1_is m_is v2_is told_is v3_is v4_is poll_is =
    (r, read, subst (λ (v : Compactor). readings.Moves finding v.reading reply r read) v1_is moves, (poll_is ∙ ap read_poll all_told, ap (λ (v : Compactor). after_poll v poll) all_left))
  where
    now : m ≡ misfit old r
    now = m_is ∙ ap (λ (b : Option PairBound). misfit_by b v1.left_rows old.reading.course.getting.place count r.course.getting) bound_is
        ∙ ap (λ (v : Compactor). misfit_by (bound_at old.reading.course old.reading.course.stage) v.left_rows
        old.reading.course.getting.place count r.course.getting) v1_is
        ∙ ap (λ (n : ℕ). misfit_by (bound_at old.reading.course old.reading.course.stage) old.left_rows
        old.reading.course.getting.place n r.course.getting) count_is

    all_told : told ≡ told_fit (misfit old r) read
    all_told = told_is ∙ ap (λ (o : Option PartKey). told_fit o read) now

    reading_is : v2 ≡ reading_on old (left_fit (misfit old r) r)
    reading_is = v2_is ∙ ap (λ (v : Compactor). let w : Compactor = record v { reading = left_fit m r } in w) v1_is
        ∙ ap (λ (o : Option PartKey). reading_on old (left_fit o r)) now

    all_left : v4 ≡ taken_back (reading_on old (left_fit (misfit old r) r)) (told_fit (misfit old r) read)
    all_left = v4_is ∙ ap (λ (v : Compactor). with_pair v told) v3_is ∙ ap (λ (v : Compactor). taken_back v told) reading_is
        ∙ ap (taken_back (reading_on old (left_fit (misfit old r) r))) all_told
