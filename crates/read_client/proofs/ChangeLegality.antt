-- Each answer to a command that changes the reader's member is legal. Entries go newest first.
use Rattle.std.proofs.Common.{◌≡◌, ℕ, ◌<◌, Option, Some, None, List, ◌∷◌, ◌++◌, inl, inr, refl, sym, ap, subst, ◌∙◌}
use Rattle.std.specs.Prelude.{IfSome, IsSomeAnd, unwrap_or}
use Rattle.update_core.specs.declared.updates.Update.{Update}
use Rattle.store_core.specs.declared.shards.ShardId.{ShardId}
use Rattle.store_core.specs.declared.entries.Entry.{Entry}
use Rattle.store_core.specs.Histories.{reply}
use Rattle.store_core.specs.Ports.{OfOthers}
use Rattle.store_core.specs.Stores.{Stored}
use Rattle.store_core.specs.Newest.{replay_back}
use Rattle.state_core.specs.declared.kinds.Kind.TheVariants.{Reader as AsReader}
use Rattle.state_core.specs.declared.transitions.Transition.{Transition}
use Rattle.state_core.specs.declared.transitions.Transition.TheVariants.{Join, Leave, Renew, Advance}
use Rattle.state_core.specs.Lists.{Among}
use Rattle.update_core.specs.Limits.{most}
use Rattle.history_core.specs.declared.asked.Asked.{Asked}
use Rattle.history_core.specs.declared.asked.Asked.TheVariants as asks
use Rattle.history_core.specs.declared.read_answers.ReadAnswer.{ReadAnswer}
use Rattle.history_core.specs.Discipline.{LawfulBack}
use Rattle.history_core.specs.Legal.{Absent, HasSince, Left}
use Rattle.history_core.specs.Placing.{CommittedAs, Placed, places}
use Rattle.history_core.specs.Stands.{StandsFor}
use Rattle.load_core.specs.declared.polls.Poll.{Poll}
use Rattle.load_core.specs.declared.tries.Tried.{Tried}
use Rattle.load_core.specs.declared.tryings.Trying.{Trying}
use Rattle.load_core.specs.Trying as trying
use Rattle.change_core.specs.declared.outcomes.Outcome.{Outcome}
use Rattle.change_core.specs.declared.outcomes.Outcome.TheVariants as outcomes
use Rattle.change_core.specs.Changes.{IsAnswerTo, outcome}
use Rattle.change_core.specs.Legality.{ChangesAt, LegalChange}
use Rattle.change_core.proofs.Coming.{change_answered, change_legal as legal_of}
use Rattle.read_client.specs.declared.questions.Question.{Question}
use Rattle.read_client.specs.declared.readers.Reader.{Reader}
use Rattle.read_client.specs.Asking.{question_of}
use Rattle.read_client.specs.Following.{Follows}
use Rattle.read_client.specs.Reading.{AsksAs, IsSound, MovesAfterTry, call_by, call_of, change_poll, own_member, question}
use Rattle.read_client.specs.Reading.{shard_of}
use Rattle.read_client.proofs.Changing.{Changed, opens, advances, renews, closes, changed, changed_at}
use Rattle.read_client.proofs.LegalPolls.{LegalOf, LegalPoll, legal_poll}
use Rattle.read_client.proofs.Sound.{kept_trying}

-- ---- what the outcomes mean

module _ (client : ℕ) (r : Reader) (list : List Update) (start : Stored) (e : Entry) (others es : List Entry) (calls : ℕ) where
  abbrev Legal : Asked → Poll ReadAnswer → Type 0
  Legal asked poll = LegalOf client r list start e others es calls asked poll

  abbrev Here : List Placed
  Here = places client calls (e ∷ (others ++ es))

  -- what an outcome of a transition means for a member
  abbrev Means : ℕ → Transition → Outcome → Type 0
  Means member step o = calls < most → LegalChange start (shard_of r) member step o Here

  -- what the command's member has
  at_member : (member : ℕ) → r.member ≡ Some member → (P : ℕ → Type 0) → P member → IsSomeAnd r.member P
  at_member member is P p = subst (λ (o : Option ℕ). IsSomeAnd o P) (sym is) p

  pub open_means : (member now lease : ℕ) (v : Reader) (o : Outcome) → IsAnswerTo (Join AsReader now lease) o →
      Means member (Join AsReader now lease) o →
      Legal (asks.OpenReader (shard_of r) now lease) (change_poll v (asks.OpenReader (shard_of r) now lease) o)
  open_means member now lease v outcomes.Going fit legal = tt
  open_means member now lease v outcomes.Fault fit legal = tt
  open_means member now lease v outcomes.Spent fit legal = legal
  open_means member now lease v (outcomes.Damaged damage) fit legal = absurd fit
  open_means member now lease v (outcomes.Joined joined_one version since) fit legal = λ less. (legal less, tt)
  open_means member now lease v (outcomes.Full version) fit legal = λ less. (legal less, tt)
  open_means member now lease v (outcomes.Committed version) fit legal = absurd fit
  open_means member now lease v (outcomes.Gone version) fit legal = absurd fit
  open_means member now lease v (outcomes.Back since) fit legal = absurd fit
  open_means member now lease v (outcomes.Strange version) fit legal = absurd fit

  pub advance_means : (member to : ℕ) → r.member ≡ Some member → (v : Reader) (o : Outcome) → IsAnswerTo (Advance member to) o →
      Means member (Advance member to) o → Legal (asks.Advance to) (change_poll v (asks.Advance to) o)
  advance_means member to is v outcomes.Going fit legal = tt
  advance_means member to is v outcomes.Fault fit legal = tt
  advance_means member to is v outcomes.Spent fit legal = legal
  advance_means member to is v (outcomes.Damaged damage) fit legal = absurd fit
  advance_means member to is v (outcomes.Joined joined_one version since) fit legal = absurd fit
  advance_means member to is v (outcomes.Full version) fit legal = absurd fit
  advance_means member to is v (outcomes.Committed version) fit legal = λ less.
      (at_member member is (λ n. Among (CommittedAs start (shard_of r) (Advance n to) version) Here) (legal less), tt)
  advance_means member to is v (outcomes.Gone version) fit legal = λ less.
      (at_member member is (λ n. Absent start (shard_of r) n version Here) (legal less), tt)
  advance_means member to is v (outcomes.Back since) fit legal = λ less.
      (at_member member is (λ n. HasSince start (shard_of r) n since Here × (to < since)) (legal less), tt)
  advance_means member to is v (outcomes.Strange version) fit legal = absurd fit

  pub renew_means : (member now : ℕ) → r.member ≡ Some member → (v : Reader) (o : Outcome) → IsAnswerTo (Renew member now) o →
      Means member (Renew member now) o → Legal (asks.RenewReader now) (change_poll v (asks.RenewReader now) o)
  renew_means member now is v outcomes.Going fit legal = tt
  renew_means member now is v outcomes.Fault fit legal = tt
  renew_means member now is v outcomes.Spent fit legal = legal
  renew_means member now is v (outcomes.Damaged damage) fit legal = absurd fit
  renew_means member now is v (outcomes.Joined joined_one version since) fit legal = absurd fit
  renew_means member now is v (outcomes.Full version) fit legal = absurd fit
  renew_means member now is v (outcomes.Committed version) fit legal = λ less.
      (at_member member is (λ n. Among (CommittedAs start (shard_of r) (Renew n now) version) Here) (legal less), tt)
  renew_means member now is v (outcomes.Gone version) fit legal = λ less.
      (at_member member is (λ n. Absent start (shard_of r) n version Here) (legal less), tt)
  renew_means member now is v (outcomes.Back since) fit legal = absurd fit
  renew_means member now is v (outcomes.Strange version) fit legal = absurd fit

  pub close_means : (member : ℕ) → r.member ≡ Some member → (v : Reader) (o : Outcome) → IsAnswerTo (Leave member) o →
      Means member (Leave member) o →
      Legal asks.CloseReader (change_poll v asks.CloseReader o)
  close_means member is v outcomes.Going fit legal = tt
  close_means member is v outcomes.Fault fit legal = tt
  close_means member is v outcomes.Spent fit legal = legal
  close_means member is v (outcomes.Damaged damage) fit legal = absurd fit
  close_means member is v (outcomes.Joined joined_one version since) fit legal = absurd fit
  close_means member is v (outcomes.Full version) fit legal = absurd fit
  close_means member is v (outcomes.Committed version) fit legal = λ less.
      (at_member member is (λ n. Left start (shard_of r) n version Here) (inl (legal less)), tt)
  close_means member is v (outcomes.Gone version) fit legal = λ less.
      (at_member member is (λ n. Left start (shard_of r) n version Here) (inr (legal less)), tt)
  close_means member is v (outcomes.Back since) fit legal = absurd fit
  close_means member is v (outcomes.Strange version) fit legal = absurd fit

-- ---- at its place

module _ (client : ℕ) (r : Reader) (list : List Update) (start : Stored) (e : Entry) (others es : List Entry) (sound : IsSound r)
    (f : Follows client r start es) (own : e.client ≡ client)
    (call : e.call ≡ trying.call_of r.trying) (of : OfOthers client others) (st : StandsFor start (shard_of r) list)
    (lawful : LawfulBack start (e ∷ (others ++ es)))
    (t : Trying) (tried : Tried) (moves : trying.Moves r.trying (reply (replay_back start (others ++ es)) e) t tried) where
  -- the machine with what it tries
  abbrev now : Reader
  now = record r { trying = t }

  abbrev Came : Outcome
  Came = outcome t (own_member r) tried

  abbrev LegalAs : Asked → Type 0
  LegalAs asked = LegalOf client r list start e others es t.calls asked (change_poll now asked Came)

  changed_legal : (asked : Asked) → Changed r asked → LegalAs asked
  changed_legal asked h = by h
    where
      at : ChangesAt AsReader (own_member r) r.trying client list start e others es
      at = changed_at client r list start e others es sound f own call of st lawful asked h

      fits : (step : Transition) → r.trying.step ≡ step → IsAnswerTo step Came
      fits step is = subst (λ (x : Transition). IsAnswerTo x Came) is
          (change_answered AsReader (own_member r) r.trying t client list start e others es at tried moves)

      means : (member : ℕ) (step : Transition) → own_member r ≡ member → r.trying.step ≡ step →
          Means client r list start e others es t.calls member step Came
      means member step is step_is less =
          subst (λ (n : ℕ). LegalChange start (shard_of r) n step Came (places client t.calls (e ∷ (others ++ es)))) is
          (subst (λ (x : Transition). LegalChange start (shard_of r) (own_member r) x Came
          (places client t.calls (e ∷ (others ++ es)))) step_is
          (legal_of AsReader (own_member r) r.trying t client list start e others es at tried moves less))

      named : (member : ℕ) → r.member ≡ Some member → own_member r ≡ member
      named member is = ap (λ (o : Option ℕ). unwrap_or o 0) is

      by : Changed r asked → LegalAs asked
      by (opens shard start_at lease is same step) = subst LegalAs (sym (is
          ∙ ap (λ (d : ShardId). asks.OpenReader d start_at lease) same))
          (open_means client r list start e others es t.calls (own_member r) start_at lease now Came
          (fits (Join AsReader start_at lease) step)
          (means (own_member r) (Join AsReader start_at lease) refl step))
      by (advances to member is own_is step) = subst LegalAs (sym is)
          (advance_means client r list start e others es t.calls member to own_is now Came (fits (Advance member to) step)
          (means member (Advance member to) (named member own_is) step))
      by (renews moment member is own_is step) = subst LegalAs (sym is)
          (renew_means client r list start e others es t.calls member moment own_is now Came (fits (Renew member moment) step)
          (means member (Renew member moment) (named member own_is) step))
      by (closes member is own_is step) = subst LegalAs (sym is)
          (close_means client r list start e others es t.calls member own_is now Came (fits (Leave member) step)
          (means member (Leave member) (named member own_is) step))

-- each poll of a command that changes the member is legal
pub change_legal : (client : ℕ) (r new : Reader) (poll : Poll ReadAnswer) (list : List Update) (start : Stored) (e : Entry)
    (others es : List Entry) → IsSound r → Follows client r start es → e.client ≡ client →
    call_of r ≡ Some e.call → OfOthers client others → StandsFor start (shard_of r) list → LawfulBack start (e ∷ (others ++ es)) →
    question r ≡ None →
    MovesAfterTry r (reply (replay_back start (others ++ es)) e) new poll →
    LegalPoll client r new poll start (e ∷ (others ++ es)) list
change_legal client r new poll list start e others es sound f own call of st lawful none (t, tried, asked, moves, is, told, now) =
    let call2 : Some (trying.call_of r.trying) ≡ Some e.call = subst (λ
    (q : Option Question). call_by r q ≡ Some e.call) none call in
    let made : e.call ≡ trying.call_of r.trying = cc in
    let asks : AsksAs (shard_of r) r.member r.trying.step r.listen asked =
    subst (λ (o : Option Asked). IfSome o (λ a. AsksAs (shard_of r) r.member r.trying.step r.listen a)) is sound.asked in
    let none2 : question_of (Some asked) r.listen ≡ None = subst (λ (o : Option Asked). question_of o r.listen ≡ None) is none in
    let counts : new.trying.calls ≡ t.calls = ap (λ (x : Reader). x.trying.calls) now
    ∙ ap (λ (x : Trying). x.calls) (kept_trying (record r { trying = t }) poll) in
    legal_poll client r list start e others es t.calls new asked poll counts is
    (subst (LegalOf client r list start e others es t.calls asked) (sym told)
    (changed_legal client r list start e others es sound f own made of st lawful t tried moves asked
    (changed r asked none2 asks)))
