-- Each poll of a reader is legal at the end of a lawful history. Entries go newest first.
use Rattle.std.proofs.Common.{◌≡◌, ℕ, Option, Some, None, List, ◌∷◌, ◌++◌, refl}
use Rattle.update_core.specs.declared.updates.Update.{Update}
use Rattle.store_core.specs.declared.entries.Entry.{Entry}
use Rattle.store_core.specs.Histories.{reply}
use Rattle.store_core.specs.Newest.{replay_back}
use Rattle.store_core.specs.Ports.{OfOthers}
use Rattle.store_core.specs.Stores.{Stored}
use Rattle.history_core.specs.declared.read_answers.ReadAnswer.{ReadAnswer}
use Rattle.history_core.specs.Discipline.{LawfulBack}
use Rattle.history_core.specs.Stands.{StandsFor}
use Rattle.load_core.specs.declared.polls.Poll.{Poll}
use Rattle.read_client.specs.declared.questions.Question.{Question}
use Rattle.read_client.specs.declared.readers.Reader.{Reader}
use Rattle.read_client.specs.Following.{Follows}
use Rattle.read_client.specs.Reading.{IsOpen, IsSound, Moves, MovesBy, call_of, question, shard_of}
use Rattle.read_client.proofs.ChangeLegality.{change_legal}
use Rattle.read_client.proofs.Effects.{counted_more}
use Rattle.read_client.proofs.LegalPolls.{LegalPoll}
use Rattle.read_client.proofs.QuestionLegality.{read_legal}

-- A reader that follows makes its call after entries of others. What a reply comes to is then legal: each answer is the
-- collection's
-- at its place, where rows are answered each part was got since the Scan, Spent has its cause, and nothing is damaged.
pub legal_step : (client : ℕ) (r new : Reader) (poll : Poll ReadAnswer) (list : List Update) (start : Stored) (e : Entry)
    (others es : List Entry) →
    IsOpen r → IsSound r → Follows client r start es → e.client ≡ client → call_of r ≡ Some e.call → OfOthers client others →
    StandsFor start (shard_of r) list → LawfulBack start (e ∷ (others ++ es)) →
    Moves r (reply (replay_back start (others ++ es)) e) new poll →
    LegalPoll client r new poll start (e ∷ (others ++ es)) list
legal_step client r new poll list start e others es is_open sound f own call of st lawful moves = by (question r) refl moves
  where
    by : (q : Option Question) → question r ≡ q → MovesBy q r (reply (replay_back start (others ++ es)) e) new poll →
        LegalPoll client r new poll start (e ∷ (others ++ es)) list
    by None none m = change_legal client r new poll list start e others es sound f own call of st lawful none m
    by (Some q) some m = read_legal client r new poll list start e others es is_open sound f own call of st lawful q some
        (counted_more r new (reply (replay_back start (others ++ es)) e) poll moves) m
