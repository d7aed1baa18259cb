-- A session's calls as its code makes them.
use Rattle.std.proofs.Common.{◌≡◌, ◌≢◌, ℕ, ◌+◌, arith, true, false, Option, Some, None, Result, Ok, Err, List, length, refl, sym, ap, subst, ◌∙◌}
use Rattle.std.specs.Prelude.{IsSome, OnOk, position, unwrap_or}
use Rattle.update_core.specs.declared.updates.Update.{Update}
use Rattle.store_core.specs.declared.entries.Entry.{Entry}
use Rattle.store_core.specs.Stores.{Stored}
use Rattle.store_core.specs.Histories.{History}
use Rattle.state_core.specs.declared.transitions.Transition.{Transition}
use Rattle.store_core.specs.declared.part_keys.PartKey.{PartKey}
use Rattle.state_core.specs.declared.transitions.Transition.TheVariants.{Append, Leave}
use Rattle.history_core.specs.declared.asked.Asked.TheVariants as asks
use Rattle.update_core.specs.Limits.{most}
use Rattle.write_client.specs.Drafting.{counted_weight}
use Rattle.history_core.specs.declared.asked.Asked.{Asked}
use Rattle.history_core.specs.declared.write_answers.WriteAnswer.{WriteAnswer}
use Rattle.history_core.specs.declared.read_answers.ReadAnswer.{ReadAnswer}
use Rattle.feed_text.specs.declared.replies.RunReply.{RunReply}
use Rattle.write_client.specs.declared.writers.Writer.{Writer}
use Rattle.write_client.proofs.Machining as write_machine
use Rattle.write_client.specs.Machining as write
use Rattle.write_client.specs.Following as writer_following
use Rattle.write_client.specs.Beginning as writer_beginning
use Rattle.write_client.specs.Writing as writers
use Rattle.read_client.specs.declared.readers.Reader.{Reader}
use Rattle.read_client.proofs.Machining as read_machine
use Rattle.read_client.specs.Machining as read
use Rattle.read_client.specs.Following as reader_following
use Rattle.read_client.specs.Beginning as reader_beginning
use Rattle.read_client.specs.Reading as readers
use Rattle.plain_run.specs.declared.session_faults.SessionFault.{SessionFault}
use Rattle.plain_run.specs.declared.session_faults.SessionFault.TheVariants as faults
use Rattle.plain_run.specs.Answering.{AreApart, Closed, Opens, OpensReader, OpensWriter, ReaderReady, Ready, Replies, WriterReady, number_of, read_reply, write_reply}
use Rattle.driving.specs.Drives.{Answered}
use Rattle.plain_run.specs.Drives.{Driven, Failed}
use Rattle.driving.specs.Goings.{Goes, GrowsBy}
use Rattle.update_core.specs.declared.appends.FeedAppend.{FeedAppend}
use Rattle.update_core.specs.Collections.{append_answer, after_append}
use Rattle.update_core.specs.Frontiers.{covers}
use Rattle.update_core.specs.Updates.{weight_of}
use Rattle.plain_run.specs.PlainRuns.{View, append_reply, append_text, collection_after, is_outside, view_with}
use Rattle.plain_run.proofs.DriveLaws.{scanned_before}
use Rattle.driving.proofs.GoingLaws.{Between, going_so, more_going}
use Rattle.plain_run.proofs.ReadLaws.{reading}
use Rattle.plain_run.proofs.SessionLaws.{read_keeps, waits, write_keeps}
use Rattle.plain_run.proofs.WriteLaws.{writing}
use Rattle.plain_run.specs.declared.places.Place.{Place}

module _ (place : Place) where
  -- ---- faults

  -- a fault is no reply
  pub failed_replies : (a d : Option History) (reader : ℕ) (wanted : View → RunReply) (after : View → View) (fault : SessionFault) →
      Goes place.shard a d (λ list start es now. Failed place.shard fault start es now) → Goes place.shard a d (Replies place.shard reader wanted after (Err fault))
  failed_replies a d reader wanted after faults.Damaged went = going_so place.shard a d (λ list start es now. ⊥)
      (Replies place.shard reader wanted after (Err faults.Damaged)) went (λ list start es now b x. absurd x)
  failed_replies a d reader wanted after faults.Memory went = went
  failed_replies a d reader wanted after faults.Store went = went
  failed_replies a d reader wanted after faults.MembersFull went = went
  failed_replies a d reader wanted after faults.Spent went = went

  -- a fault after earlier entries
  failed_later : (fault : SessionFault) (list : List Update) (start : Stored) (es mid now : List Entry) →
      Between place.shard list start es mid → Failed place.shard fault start mid now → Failed place.shard fault start es now
  failed_later faults.Memory list start es mid now b h = tt
  failed_later faults.Store list start es mid now b h = tt
  failed_later faults.Damaged list start es mid now b h = h
  failed_later faults.MembersFull list start es mid now b h = scanned_before place.shard (λ n s. length s.members ≡ 256) list start es mid now b h
  failed_later faults.Spent list start es mid now b h = scanned_before place.shard (λ n s. n ≡ most) list start es mid now b h

  pub failed_more : (a b d : Option History) (first : List Update → Stored → List Entry → List Entry → Type 0) (fault : SessionFault) →
      Goes place.shard a b first → Goes place.shard b d (λ list start es now. Failed place.shard fault start es now) →
      Goes place.shard a d (λ list start es now. Failed place.shard fault start es now)
  failed_more a b d first fault x y =
      more_going place.shard a b d first (λ list start es now. Failed place.shard fault start es now) (λ list start es now. Failed place.shard fault start es now) x y
      (λ list start es mid now b1 b2 f h. failed_later fault list start es mid now b1 h)

-- where there is a reply
pub on_reply : {A E : Type 0} → (r : Result A E) (P : Type 0) → ((x : A) → r ≡ Ok x → P) → OnOk r P
on_reply (Ok x) P go = go x refl
on_reply (Err e) P go = tt

pub the_some : (m : Option ℕ) → IsSome m → (n : ℕ) × (m ≡ Some n)
the_some None h = absurd (let bad : false ≡ true = h in cc)
the_some (Some n) h = (n, refl)

module _ (place : Place) where
  -- ---- while the other client works

  pub writer_waits : place.writer ≢ place.reader → (a d : Option History) (w : Writer) → GrowsBy place.reader a d → WriterReady place.shard place.writer a w → WriterReady place.shard place.writer d w
  writer_waits apart a d w by ready = record {
    shard = ready.shard;
    sound = ready.sound;
    follows = waits write.machine write_machine.keeps place.writer place.reader apart w a d by ready.follows;
    free = ready.free;
    member = ready.member;
  }

  pub reader_waits : place.writer ≢ place.reader → (a d : Option History) (r : Reader) → GrowsBy place.writer a d → ReaderReady place.shard place.reader a r → ReaderReady place.shard place.reader d r
  reader_waits apart a d r by ready = record {
    shard = ready.shard;
    sound = ready.sound;
    follows = waits read.machine read_machine.keeps place.reader place.writer (λ is. apart (sym is)) r a d by ready.follows;
    free = ready.free;
    member = ready.member;
  }

  -- ---- readers

  -- a reader with a command begun, of a member
  pub record Begun (old new : Reader) (listen : Option (Option ℕ)) (asked : Asked) : Type 0 where
    pub number : ℕ
    pub had : old.member ≡ Some number
    pub kept : read.kept new ≡ reading place.shard number listen new.trying.step asked

  pub read_begun : (front : Option History) (old new : Reader) (asked : Asked) (listen : Option (Option ℕ)) → ReaderReady place.shard place.reader front old →
      reader_beginning.BeginsRead old asked listen new → Begun old new listen asked
  read_begun front old new asked listen ready is =
      let (n, has) = the_some old.member ready.member in
      subst (λ (r : Reader). Begun old r listen asked) (sym is) (record {
        number = n;
        had = has;
        kept = λ i. record { asked = Some asked; member = has i; listen = listen; shard = ready.shard i; step = old.trying.step };
      })

  pub change_begun : (front : Option History) (old new : Reader) (asked : Asked) (step : ℕ → Transition) → ReaderReady place.shard place.reader front old →
      reader_beginning.Changing old asked step new → (b : Begun old new old.listen asked) × (new.trying.step ≡ step b.number)
  change_begun front old new asked step ready (n, has, is) =
      subst (λ (r : Reader). (b : Begun old r old.listen asked) × (r.trying.step ≡ step b.number)) (sym is) (
        record {
          number = n;
          had = has;
          kept = λ i. record { asked = Some asked; member = has i; listen = old.listen; shard = ready.shard i; step = step n };
        },
        refl,
      )

  -- what its command has come to, of the member's number
  pub asked_told : (a d : Option History) (old new : Reader) (listen : Option (Option ℕ)) (asked : Asked) (step : Transition)
      (answer : ReadAnswer) →
      (b : Begun old new listen asked) → new.trying.step ≡ step → Goes place.shard a d (Driven place.shard read.machine place.reader (read.kept new) (Ok answer)) →
      Goes place.shard a d (Answered read.machine place.reader (reading place.shard b.number listen step asked) answer)
  asked_told a d old new listen asked step answer b is went =
      subst (λ (k : read.Kept). Goes place.shard a d (Answered read.machine place.reader k answer))
      (b.kept ∙ ap (λ (t : Transition). reading place.shard b.number listen t asked) is) went

  pub member_read : (old begun new : Reader) (listen : Option (Option ℕ)) (asked : Asked) (answer : ReadAnswer) (reply : RunReply) →
      Begun old begun listen asked →
      read.Ended (read.kept begun) answer new → read_reply answer ≡ Ok reply → new.member ≡ old.member
  member_read old begun new listen asked answer reply b over is =
      over.member ∙ read_keeps begun.member answer reply is ∙ ap (λ (k : read.Kept). k.member) b.kept ∙ sym b.had

  -- a reader after a command that was answered with a reply
  pub reader_read : (a d : Option History) (old begun new : Reader) (listen : Option (Option ℕ)) (asked : Asked) (answer : ReadAnswer)
      (reply : RunReply) → ReaderReady place.shard place.reader a old → Begun old begun listen asked → read.Ended (read.kept begun) answer new →
      readers.IsSound new → reader_following.FollowsWhere place.reader d new → read_reply answer ≡ Ok reply →
      ReaderReady place.shard place.reader d new
  reader_read a d old begun new listen asked answer reply ready b over sound follows is = record {
    shard = over.shard ∙ ap (λ (k : read.Kept). k.shard) b.kept;
    sound = sound;
    follows = follows;
    free = over.asked;
    member = subst (λ (m : Option ℕ). IsSome m) (sym (member_read old begun new listen asked answer reply b over is)) ready.member;
  }

  -- a session whose reader has made the entries that came, and is ready again
  pub ready_again : (now next : ℕ) (a d : Option History) (writer : Writer) (old new : Reader) →
      Ready a (record { place = place; writer = writer; reader = old; now = now; next = next }) → GrowsBy place.reader a d →
      ReaderReady place.shard place.reader d new → Ready d (record { place = place; writer = writer; reader = new; now = now; next = next })
  ready_again now next a d writer old new ready by again = record {
    apart = ready.apart;
    above_writer = ready.above_writer;
    above_reader = ready.above_reader;
    writer = writer_waits ready.apart a d writer by ready.writer;
    reader = again;
  }

  -- a reply of a reader's command
  pub read_told : (a d : Option History) (old begun : Reader) (listen : Option (Option ℕ)) (asked : Asked) (wanted : View → RunReply)
      (after : View → View)
      (answer : ReadAnswer) (result : Result RunReply SessionFault) → (b : Begun old begun listen asked) → result ≡ read_reply answer →
      Goes place.shard a d (Replies place.shard b.number wanted after (read_reply answer)) →
      Goes place.shard a d (Replies place.shard (number_of old) wanted after result)
  read_told a d old begun listen asked wanted after answer result b is went =
      let number : b.number ≡ number_of old = ap (λ (m : Option ℕ). unwrap_or m 0) (sym b.had) in
      subst (λ (r : Result RunReply SessionFault). Goes place.shard a d (Replies place.shard (number_of old) wanted after r)) (sym is)
      (subst (λ (n : ℕ). Goes place.shard a d (Replies place.shard n wanted after (read_reply answer))) number went)

  -- ---- writers

  -- a writer with a close begun, of a member
  pub record BegunClose (new : Writer) : Type 0 where
    pub number : ℕ
    pub kept : write.kept new ≡ writing place.shard number new.token (Leave number) asks.CloseWriter

  pub close_begun : (front : Option History) (old new : Writer) → WriterReady place.shard place.writer front old → writer_beginning.Closing old new → BegunClose new
  close_begun front old new ready (n, has, is) = subst BegunClose (sym is) (record {
    number = n;
    kept = λ i. record { asked = Some asks.CloseWriter; member = has i; token = old.token; shard = ready.shard i; step = Leave n };
  })

  -- a writer with an append begun
  pub record BegunAppend (old new : Writer) (rows : List Update) (lower : ℕ) (upper : Option ℕ) : Type 0 where
    pub number : ℕ
    pub had : old.member ≡ Some number
    pub token : ℕ
    pub parts : List PartKey
    pub count : ℕ
    pub weight : ℕ
    pub kept : write.kept new ≡ writing place.shard number token (Append number token lower upper parts count weight) (asks.Append rows lower upper)

  pub append_begun : (front : Option History) (old new : Writer) (rows : List Update) (lower : ℕ) (upper : Option ℕ) → WriterReady place.shard place.writer front old →
      writer_beginning.Appending old rows lower upper new → BegunAppend old new rows lower upper
  append_begun front old new rows lower upper ready k =
      subst (λ (w : Writer). BegunAppend old w rows lower upper) (sym k.after) (record {
        number = k.member;
        had = k.member_is;
        token = old.token + 1;
        parts = k.setting.keys;
        count = length k.draft.updates;
        weight = counted_weight rows;
        kept = λ i. record {
          asked = Some (asks.Append rows lower upper);
          member = k.member_is i;
          token = old.token + 1;
          shard = ready.shard i;
          step = k.draft.step_is i;
        };
      })

  pub ready_written : (now next : ℕ) (a d : Option History) (old begun new : Writer) (reader : Reader) (rows : List Update) (lower : ℕ) (upper : Option ℕ)
      (answer : WriteAnswer) (reply : RunReply) → Ready a (record { place = place; writer = old; reader = reader; now = now; next = next }) →
      BegunAppend old begun rows lower upper → GrowsBy place.writer a d →
      write.Ended (write.kept begun) answer new → writers.IsSound new → writer_following.FollowsWhere place.writer d new →
      write_reply answer ≡ Ok reply →
      Ready d (record { place = place; writer = new; reader = reader; now = now; next = next })
  ready_written now next a d old begun new reader rows lower upper answer reply ready b by over sound follows is = record {
    apart = ready.apart;
    above_writer = ready.above_writer;
    above_reader = ready.above_reader;
    writer = record {
      shard = over.shard ∙ ap (λ (k : write.Kept). k.shard) b.kept;
      sound = sound;
      follows = follows;
      free = over.asked;
      member =
          let member = over.member ∙ write_keeps begun.member answer reply is ∙ ap (λ (k : write.Kept). k.member) b.kept ∙ sym b.had in
          subst (λ (m : Option ℕ). IsSome m) (sym member) ready.writer.member;
    };
    reader = reader_waits ready.apart a d reader by ready.reader;
  }

  -- ---- both

  -- both have left
  pub closes : (a b d : Option History) (result : Result Unit SessionFault) → Goes place.shard a b (Closed place.shard (Ok tt)) →
      Goes place.shard b d (Closed place.shard result) → Goes place.shard a d (Closed place.shard result)
  closes a b d (Ok done) x y = more_going place.shard a b d (Closed place.shard (Ok tt)) (Closed place.shard (Ok done)) (Closed place.shard (Ok done)) x y
      (λ list start es mid now b1 b2 f s. (s.0 ∙ f.0, λ settled. s.1 (f.1 settled)))
  closes a b d (Err fault) x y = failed_more place a b d (Closed place.shard (Ok tt)) fault x y

  -- both have joined
  pub opens_both : (now : ℕ) (a b d : Option History) (writer : Writer) (reader : Reader) → Goes place.shard a b (OpensWriter place.shard (Ok writer)) →
      Goes place.shard b d (OpensReader place.shard (Ok reader)) → Goes place.shard a d (Opens place.shard (Ok (record { place = place; writer = writer; reader = reader; now = now; next = place.others })))
  opens_both now a b d writer reader x y =
      more_going place.shard a b d (OpensWriter place.shard (Ok writer)) (OpensReader place.shard (Ok reader))
      (Opens place.shard (Ok (record { place = place; writer = writer; reader = reader; now = now; next = place.others }))) x y (λ list start es mid fs b1 b2 f s. λ view at. s view (f view at))

  pub ready_both : (now : ℕ) → AreApart place → (a d : Option History) (writer : Writer) (reader : Reader) → GrowsBy place.reader a d → WriterReady place.shard place.writer a writer → ReaderReady place.shard place.reader d reader →
      Ready d (record { place = place; writer = writer; reader = reader; now = now; next = place.others })
  ready_both now apart a d writer reader by w r = record {
    apart = apart.apart;
    above_writer = apart.writer;
    above_reader = apart.reader;
    writer = writer_waits apart.apart a d writer by w;
    reader = r;
  }

  -- ---- an append in range

  -- what is asked of an append in range is what the collection answers
  pub in_range_told : (a d : Option History) (reader : ℕ) (x : FeedAppend) (result : Result RunReply SessionFault) →
      covers x.upper x.lower ≡ true → position (is_outside x) x.rows ≡ None →
      Goes place.shard a d (Replies place.shard reader (λ view. append_text (append_answer view.collection x.lower (weight_of x.rows)))
      (λ view. view_with view (after_append view.collection x.rows x.lower x.upper (weight_of x.rows))) result) →
      Goes place.shard a d (Replies place.shard reader (λ view. append_reply view.collection x)
      (λ view. view_with view (collection_after view.collection x)) result)
  in_range_told a d reader x result forward within went =
      subst (λ (after : View → View). Goes place.shard a d (Replies place.shard reader (λ view. append_reply view.collection x) after result))
      (λ i view. view_with view (moved view i))
      (subst (λ (wanted : View → RunReply). Goes place.shard a d (Replies place.shard reader wanted
      (λ view. view_with view (after_append view.collection x.rows x.lower x.upper (weight_of x.rows))) result))
      (λ i view. replied view i) went)
    where
      replied : (view : View) → append_text (append_answer view.collection x.lower (weight_of x.rows)) ≡ append_reply view.collection x
      replied view = rw (forward, within) refl

      moved : (view : View) → after_append view.collection x.rows x.lower x.upper (weight_of x.rows) ≡ collection_after view.collection x
      moved view = rw (forward, within) refl
