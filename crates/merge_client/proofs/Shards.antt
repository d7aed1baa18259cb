-- No reply changes the shard of a compactor.
use Rattle.std.proofs.Common.{◌≡◌, Option, Some, None, refl, sym, ap, subst, ◌∙◌}
use Rattle.std.specs.Prelude.{IfSome}
use Rattle.store_core.specs.declared.part_keys.PartKey.{PartKey}
use Rattle.store_core.specs.declared.replies.Reply.{Reply}
use Rattle.history_core.specs.declared.merge_answers.MergeAnswer.{MergeAnswer}
use Rattle.load_core.specs.declared.polls.Poll.{Poll}
use Rattle.load_core.specs.declared.polls.Poll.TheVariants as polls
use Rattle.read_machine.proofs.Replied.{read_stays}
use Rattle.token_machine.specs.declared.storings.Storing.{Storing}
use Rattle.token_machine.proofs.Ways.{same}
use Rattle.merge_client.specs.declared.compactors.Compactor.{Compactor}
use Rattle.merge_client.specs.declared.dues.Due.{Due}
use Rattle.merge_client.specs.declared.founds.Found.{Found}
use Rattle.merge_client.specs.Finding.{finding}
use Rattle.merge_client.specs.Machining as machining
use Rattle.merge_client.specs.Merging.{IsLent, IsReady, Moves, MovesBy, after_poll, left_fit, misfit, noted, reading_on, shard_of, taken_back, told_fit}
use Rattle.merge_client.proofs.Sound.{kept_storing}

pub shard_after : (c : Compactor) (poll : Poll MergeAnswer) → shard_of (after_poll c poll) ≡ shard_of c
shard_after c poll = ap (λ (s : Storing). s.trying.loader.shard) (kept_storing c poll)

moved_shard : (old new : Compactor) (reply : Reply) (poll : Poll MergeAnswer) → IsReady old → Moves old reply new poll →
    shard_of new ≡ shard_of old
moved_shard old new reply poll ready moves = go old.reading.asked refl moves
  where
    go : (o : Option Due) → old.reading.asked ≡ o → MovesBy o old reply new poll → shard_of new ≡ shard_of old
    go None none (s, tried, asked, m, asked_is, poll_is, now) =
        ap (λ (c : Compactor). shard_of c) now ∙ shard_after (record old { storing = s }) poll ∙ (same old.storing s reply tried m).shard
    go (Some q) some (r, p, m, (poll_is, now)) =
        ap (λ (c : Compactor). shard_of c) now
        ∙ shard_after (taken_back (reading_on (noted old) (left_fit (misfit (noted old) r) r)) (told_fit (misfit (noted old) r) p)) poll
        ∙ each (misfit (noted old) r)
      where
        lent : IsLent old
        lent = (let h = ready.sound.lent in subst (λ (o : Option Due). IfSome o (λ x. IsLent old)) some h)

        back : r.course.loader.shard ≡ shard_of old
        back = (read_stays finding old.reading r reply p m).shard ∙ lent.shard

        by : (x : Poll Found) → shard_of (taken_back (reading_on (noted old) r) x) ≡ shard_of old
        by polls.Busy = refl
        by polls.More = refl
        by polls.Fault = refl
        by polls.Spent = back
        by (polls.Damaged damage) = back
        by (polls.Done found) = back

        each : (o : Option PartKey) → shard_of (taken_back (reading_on (noted old) (left_fit o r)) (told_fit o p)) ≡ shard_of old
        each None = by p
        each (Some key) = back

-- after it has settled by a poll
pub settled_moves : (old mid new : Compactor) (reply : Reply) (poll : Poll MergeAnswer) → IsReady old →
    Moves old reply (after_poll mid poll) poll → new ≡ after_poll mid poll → machining.Moves old reply new poll
settled_moves old mid new reply poll ready m e = subst (λ (z : Compactor). machining.Moves old reply z poll) (sym e)
    (m, moved_shard old (after_poll mid poll) reply poll ready m)
