-- What a writer's commands come to in a session. Entries go newest first.
use Rattle.std.proofs.Common.{◌≡◌, ℕ, ◌+◌, Option, Some, Result, Ok, List, ◌∷◌, refl, sym, ap, subst, ◌∙◌}
use Rattle.update_core.specs.declared.updates.Update.{Update}
use Rattle.update_core.specs.Collections.{AppendAnswer, append_answer, after_append, after_answer}
use Rattle.update_core.specs.Collections.{accepted as append_accepted, mismatch, heavy, extended}
use Rattle.update_core.specs.Updates.{weight_of}
use Rattle.store_core.specs.declared.entries.Entry.{Entry}
use Rattle.store_core.specs.declared.part_keys.PartKey.{PartKey}
use Rattle.store_core.specs.Stores.{Stored}
use Rattle.store_core.specs.Histories.{History, reply}
use Rattle.store_core.specs.Newest.{replay_back}
use Rattle.state_core.specs.declared.transitions.Transition.{Transition}
use Rattle.state_core.specs.declared.transitions.Transition.TheVariants.{Append, Leave}
use Rattle.history_core.specs.declared.asked.Asked.{Asked}
use Rattle.history_core.specs.declared.asked.Asked.TheVariants as asks
use Rattle.history_core.specs.declared.write_answers.WriteAnswer.{WriteAnswer}
use Rattle.history_core.specs.declared.write_answers.WriteAnswer.TheVariants as writes
use Rattle.history_core.specs.Legal.{AcceptedAt, AnswersAppend}
use Rattle.history_core.specs.Placing.{AtLastScan, Commits, OnlyOne, places}
use Rattle.history_core.specs.Stands.{accepted}
use Rattle.load_core.specs.Effects.{CommitsNone}
use Rattle.write_client.specs.Machining as write
use Rattle.feed_text.specs.declared.replies.RunReply.{RunReply}
use Rattle.driving.specs.Drives.{Answered, Going}
use Rattle.driving.specs.Goings.{Goes}
use Rattle.driving.proofs.GoingLaws.{Between, going_so}
use Rattle.plain_run.specs.declared.session_faults.SessionFault.{SessionFault}
use Rattle.plain_run.specs.Answering.{Closed, Replies, write_reply}
use Rattle.plain_run.specs.PlainRuns.{View, append_text, view_with}
use Rattle.plain_run.specs.Sessions.{ViewAt}
use Rattle.plain_run.proofs.DriveLaws.{lawful_last, unmoved}
use Rattle.plain_run.proofs.Quietly.{quiet_view}
use Rattle.plain_run.proofs.Refused.{scan_append}
use Rattle.plain_run.proofs.SettledLaws.{leave_closes}
use Rattle.plain_run.proofs.Views.{append_ok}
use Rattle.plain_run.proofs.SessionLaws.{all_quiet}
use Rattle.store_core.specs.declared.shards.ShardId.{ShardId}

module _ (shard : ShardId) where
  -- ---- appends

  -- an append that is answered is answered as the view's collection answers it
  abbrev pub AnswersAppendOf : ℕ → List Update → ℕ → Option ℕ → Result RunReply SessionFault → List Update → Stored → List Entry →
      List Entry → Type 0
  AnswersAppendOf reader rows lower upper result list start es now =
      Replies shard reader (λ view. append_text (append_answer view.collection lower (weight_of rows)))
      (λ view. view_with view (after_append view.collection rows lower upper (weight_of rows))) result list start es now

  -- a member's command of the run's writer, under the last token
  abbrev pub writing : ℕ → ℕ → Transition → Asked → write.Kept
  writing number token tried asked = record { asked = Some asked; member = Some number; token = token; shard = shard; step = tried }

module _ (shard : ShardId) (client : ℕ) where
  pub appends : (a d : Option History) (number token : ℕ) (parts : List PartKey) (count weight reader : ℕ) (rows : List Update) (lower : ℕ)
      (upper : Option ℕ) (answer : WriteAnswer) →
      Goes shard a d (Answered write.machine client (writing shard number token (Append number token lower upper parts count weight)
      (asks.Append rows lower upper)) answer) →
      Goes shard a d (AnswersAppendOf shard reader rows lower upper (write_reply answer))
  appends a d number token parts count weight reader rows lower upper answer went =
      going_so shard a d (Wrote answer) (AnswersAppendOf shard reader rows lower upper (write_reply answer)) went
      (λ list start es now b x. go answer list start es now b x)
    where
      Wrote : WriteAnswer → List Update → Stored → List Entry → List Entry → Type 0
      Wrote answer list start es now =
          Answered write.machine client (writing shard number token (Append number token lower upper parts count weight)
          (asks.Append rows lower upper)) answer list start es now

      after_accepted : (view : View) → append_answer view.collection lower (weight_of rows) ≡ append_accepted →
          view_with view (extended view.collection rows upper (weight_of rows)) ≡ view_with view
          (after_append view.collection rows lower upper (weight_of rows))
      after_accepted view is = ap (λ (x : AppendAnswer). view_with view (after_answer x view.collection rows upper (weight_of rows))) (sym is)

      refused : (x : AppendAnswer) (list : List Update) (start : Stored) (es now before : List Entry) (e : Entry) (calls : ℕ) →
          Between shard list start es now →
          Going shard client start es before calls → e.client ≡ client → now ≡ e ∷ before →
          CommitsNone (reply (replay_back start before) e) → AtLastScan shard (AnswersAppend list start shard rows lower x)
          (places client (calls + 1) now) →
          ((view : View) → view_with view (after_answer x view.collection rows upper (weight_of rows)) ≡ view) → (view : View) →
          ViewAt shard list start es reader view →
          (append_text x ≡ append_text (append_answer view.collection lower (weight_of rows))) ×
          ViewAt shard list start now reader (view_with view (after_append view.collection rows lower upper (weight_of rows)))
      refused x list start es now before e calls b g own split none scan same view v =
          let q = all_quiet shard client list start es now before e calls reader view b g own split none v in
          let is = scan_append shard list start client es now (calls + 1) reader view q v rows lower x scan in
          let there : view_with view (after_append view.collection rows lower upper (weight_of rows)) ≡ view =
          ap (λ (y : AppendAnswer). view_with view (after_answer y view.collection rows upper (weight_of rows))) is ∙ same view in (
            sym (ap append_text is),
            subst (λ (z : View). ViewAt shard list start now reader z) (sym there)
                (quiet_view shard list start client es now (calls + 1) reader view q v),
          )

      go : (answer : WriteAnswer) (list : List Update) (start : Stored) (es now : List Entry) → Between shard list start es now →
          Wrote answer list start es now →
          AnswersAppendOf shard reader rows lower upper (write_reply answer) list start es now
      go writes.Ok list start es now b x = λ view v.
          let only = subst (λ (fs : List Entry). OnlyOne (Commits start shard) (AcceptedAt list start shard rows lower upper)
          (places client (x.calls + 1) fs)) x.split x.legal in
          let ok = append_ok shard list start client es x.before x.calls x.entry b.stands
          (lawful_last shard list start es now x.before x.entry b x.split) reader view number token lower upper parts count weight rows lower upper
          ((unmoved shard client list start es now x.before x.entry x.calls b x.split x.going).quiet v.number v.state v.last) v x.own x.effect.effect only in (
            sym (ap append_text ok.0),
            subst (λ (z : View). ViewAt shard list start now reader z) (after_accepted view ok.0)
                (subst (λ (fs : List Entry). ViewAt shard list start fs reader
                (view_with view (extended view.collection rows upper (weight_of rows)))) (sym x.split) ok.1),
          )
      go (writes.Mismatch current) list start es now b x =
          refused (mismatch current) list start es now x.before x.entry x.calls b x.going x.own x.split x.effect.effect x.legal.at_scan
          (λ view. refl)
      go (writes.Heavy weight) list start es now b x =
          refused (heavy weight) list start es now x.before x.entry x.calls b x.going x.own x.split x.effect.effect x.legal.at_scan
          (λ view. refl)
      go (writes.Opened member version) list start es now b x = absurd x.legal
      go (writes.MembersFull version) list start es now b x = absurd x.legal
      go (writes.Closed version) list start es now b x = absurd x.legal

  -- ---- the writer leaves

  pub leaves_writer : (a d : Option History) (number token : ℕ) (answer : WriteAnswer) →
      Goes shard a d (Answered write.machine client (writing shard number token (Leave number) asks.CloseWriter) answer) →
      Goes shard a d (Closed shard (Ok tt))
  leaves_writer a d number token answer went =
      going_so shard a d (Wrote answer) (Closed shard (Ok tt)) went (λ list start es now b x. go answer list start es now b x)
    where
      Wrote : WriteAnswer → List Update → Stored → List Entry → List Entry → Type 0
      Wrote answer list start es now = Answered write.machine client (writing shard number token
          (Leave number) asks.CloseWriter) answer list start es now

      go : (answer : WriteAnswer) (list : List Update) (start : Stored) (es now : List Entry) → Between shard list start es now →
          Wrote answer list start es now → Closed shard (Ok tt) list start es now
      go (writes.Closed version) list start es now b x =
          leave_closes shard client list start es now x.before x.entry x.calls b x.going x.split number x.effect.effect
      go writes.Ok list start es now b x = absurd x.legal
      go (writes.Mismatch current) list start es now b x = absurd x.legal
      go (writes.Heavy weight) list start es now b x = absurd x.legal
      go (writes.Opened member version) list start es now b x = absurd x.legal
      go (writes.MembersFull version) list start es now b x = absurd x.legal
