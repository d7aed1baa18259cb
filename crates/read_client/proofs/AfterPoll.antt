-- What a poll leaves of a reader's member and question, and which polls open.
use Rattle.std.proofs.Common.{◌≡◌, ℕ, Option, Some, None, refl, sym, ap, ◌∙◌}
use Rattle.std.specs.Prelude.{IfSome}
use Rattle.state_core.specs.declared.refusals.Refusal.{Refusal}
use Rattle.history_core.specs.declared.asked.Asked.{Asked}
use Rattle.history_core.specs.declared.asked.Asked.TheVariants as asks
use Rattle.history_core.specs.declared.read_answers.ReadAnswer.{ReadAnswer}
use Rattle.history_core.specs.declared.read_answers.ReadAnswer.TheVariants as answers
use Rattle.load_core.specs.declared.polls.Poll.{Poll}
use Rattle.load_core.specs.declared.polls.Poll.TheVariants as polls
use Rattle.load_core.specs.declared.tries.Tried.TheVariants as tries
use Rattle.change_core.proofs.Forms.{refused_as}
use Rattle.read_machine.proofs.Sound.{Ends}
use Rattle.read_client.specs.declared.readers.Reader.{Reader}
use Rattle.read_client.specs.Reading.{after_poll, change_poll, gone_answer}
use Rattle.read_client.specs.Reading.{own_member, question, verdict}

-- ---- after a poll

-- the member after a poll, where the one of an answered open is one of those too
pub member_so : (J : ℕ → Type 0) (r : Reader) (poll : Poll ReadAnswer) → ((joined version since : ℕ) →
    poll ≡ polls.Done (answers.Opened joined version since) → J joined) → IfSome r.member J → IfSome (after_poll r poll).member J
member_so J r polls.Busy open_so h = h
member_so J r polls.More open_so h = h
member_so J r polls.Fault open_so h = h
member_so J r (polls.Damaged damage) open_so h = h
member_so J r polls.Spent open_so h = h
member_so J r (polls.Done (answers.Opened joined version since)) open_so h = open_so joined version since refl
member_so J r (polls.Done (answers.MembersFull version)) open_so h = h
member_so J r (polls.Done (answers.Rows rows)) open_so h = h
member_so J r (polls.Done (answers.Early since)) open_so h = h
member_so J r (polls.Done (answers.Late upper)) open_so h = h
member_so J r (polls.Done (answers.Step from to rows)) open_so h = h
member_so J r (polls.Done (answers.Quiet upper)) open_so h = h
member_so J r (polls.Done answers.Ended) open_so h = h
member_so J r (polls.Done (answers.Advanced version)) open_so h = h
member_so J r (polls.Done (answers.Back since)) open_so h = h
member_so J r (polls.Done (answers.Renewed version)) open_so h = h
member_so J r (polls.Done (answers.Closed version)) open_so h = tt
member_so J r (polls.Done (answers.Expired version)) open_so h = tt

-- no question stands after a poll that ends, and none comes up
pub question_ended : (r : Reader) (poll : Poll ReadAnswer) → Ends poll → question (after_poll r poll) ≡ None
question_ended r polls.Busy e = absurd e
question_ended r polls.More e = absurd e
question_ended r polls.Fault e = absurd e
question_ended r (polls.Damaged damage) e = refl
question_ended r polls.Spent e = refl
question_ended r (polls.Done answer) e = refl

pub question_after : (r : Reader) (poll : Poll ReadAnswer) → question r ≡ None → question (after_poll r poll) ≡ None
question_after r polls.Busy e = e
question_after r polls.More e = e
question_after r polls.Fault e = e
question_after r (polls.Damaged damage) e = refl
question_after r polls.Spent e = refl
question_after r (polls.Done answer) e = refl

-- the member of an answered open
abbrev pub opened_of : Poll ReadAnswer → Option ℕ
opened_of (polls.Done (answers.Opened joined version since)) = Some joined
opened_of _ = None

pub not_open : (poll p : Poll ReadAnswer) → poll ≡ p → opened_of p ≡ None → (joined version since : ℕ) →
    poll ≡ polls.Done (answers.Opened joined version since) → ⊥
not_open poll p is none joined version since h = let bad : Some joined ≡ None = sym (ap opened_of h) ∙ ap opened_of is
    ∙ none in cc

pub gone_opens : (asked : Asked) (version : ℕ) → opened_of (polls.Done (gone_answer asked version)) ≡ None
gone_opens (asks.Advance to) version = refl
gone_opens (asks.RenewReader now) version = refl
gone_opens _ version = refl

pub refused_opens : (r : Reader) (asked : Asked) (refusal : Refusal) → opened_of (verdict r asked (tries.Refused refusal)) ≡ None
refused_opens r asked refusal = refused_as (λ o. opened_of (change_poll r asked o) ≡ None) r.trying.loader.cached
    (own_member r) r.trying.step refusal refl
    (λ v. refl) (λ v. gone_opens asked v) (λ v. refl) (λ v. refl)
