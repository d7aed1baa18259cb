-- What the code of a reader needs of its words.
use Rattle.std.proofs.Common.{◌≡◌, Bool, true, false, Option, Some, None, refl, sym, ap, subst, ◌∙◌}
use Rattle.std.specs.Prelude.{IsSome, IfSome, is_some, not}
use Rattle.store_core.specs.declared.replies.Reply.{Reply}
use Rattle.history_core.specs.declared.asked.Asked.{Asked}
use Rattle.history_core.specs.declared.read_answers.ReadAnswer.{ReadAnswer}
use Rattle.load_core.specs.declared.polls.Poll.{Poll}
use Rattle.load_core.specs.declared.tries.Tried.{Tried}
use Rattle.load_core.specs.declared.tryings.Trying.{Trying}
use Rattle.load_core.specs.Trying as trying
use Rattle.read_machine.specs.declared.readings.Reading.{Reading}
use Rattle.read_machine.specs.Readings as readings
use Rattle.read_client.specs.declared.questions.Question.{Question}
use Rattle.read_client.specs.declared.readers.Reader.{Reader}
use Rattle.read_client.specs.Asking.{asking}
use Rattle.read_client.specs.Reading.{IsOpen, IsSound, MovesAfterRead, MovesAfterTry, after_poll, question, reading_on, shard_of}
use Rattle.read_client.specs.Reading.{taken_back, verdict}
use Rattle.read_client.proofs.Questioning.{read_keeps}

-- what a reply to a call of a transition comes to
pub tried_moves : (old : Reader) (reply : Reply) (t : Trying) (tried : Tried) (poll : Poll ReadAnswer) → IsOpen old →
    trying.Moves old.trying reply t tried →
    IfSome old.asked (λ asked. poll ≡ verdict (record old { trying = t }) asked tried) →
    MovesAfterTry old reply (after_poll (record old { trying = t }) poll) poll
tried_moves old reply t tried poll is_open moves told = go old.asked refl is_open told
  where
    go : (a : Option Asked) → old.asked ≡ a → IsSome a → IfSome a (λ asked. poll ≡ verdict
        (record old { trying = t }) asked tried) → MovesAfterTry old reply (after_poll (record old { trying = t }) poll) poll
    go None e some h = absurd (let bad : false ≡ true = some in cc)
    go (Some asked) e some h = (t, tried, asked, moves, e, h, refl)

-- no question is asked where it is told so
pub unasked : (r : Reader) (b : Bool) → IsSound r → is_some r.reading.asked ≡ not b → b ≡ true → question r ≡ None
unasked r b s e t = sym s.asks ∙ go r.reading.asked e
  where
    go : (o : Option Question) → is_some o ≡ not b → o ≡ None
    go None e = refl
    go (Some q) e = absurd (let bad : true ≡ false = e ∙ ap not t in cc)

-- what a reply to a call of a question comes to
pub read_moves : (old mid : Reader) (w : Reading Question) (reply : Reply) (poll : Poll ReadAnswer) (new : Reader) →
    mid ≡ reading_on old old.reading → readings.Moves asking mid.reading reply w poll →
    old.reading.course.loader.shard ≡ shard_of old →
    new ≡ taken_back (record mid { reading = w }) poll → MovesAfterRead old reply (after_poll new poll) poll
read_moves old mid w reply poll new is moves shard now =
    let moved : readings.Moves asking old.reading reply w poll = subst (λ
    (r : Reader). readings.Moves asking r.reading reply w poll) is moves in (
      w,
      moved,
      read_keeps.moved_shard old.reading w reply poll moved ∙ shard,
      ap (λ (r : Reader). after_poll r poll) now ∙
          ap (λ (r : Reader). let x : Reader = record r { reading = w } in after_poll (taken_back x poll) poll) is,
    )
