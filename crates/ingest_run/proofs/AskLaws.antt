-- Questions that are asked in turn. Entries go newest first.
use Rattle.std.proofs.Common.{◌≡◌, ℕ, ◌+◌, ◌<◌, Option, Ok, Err, List, [], ◌∷◌, ◌++◌, length, slice_index_or, drop, refl, sym, ap, ◌∙◌}
use Rattle.std.proofs.Common.{append_assoc, append-nil}
use Rattle.std.specs.List.{AllByRecursion, flat_map}
use Rattle.std.proofs.lemmas.List.{drop_more}
use Rattle.std.proofs.lemmas.List.Concat.{flat_map-cons}
use Rattle.update_core.specs.declared.updates.Update.{Update}
use Rattle.update_core.specs.Collections.{Collection, listen_answer, snapshot_answer}
use Rattle.update_core.specs.Frontiers.{after}
use Rattle.store_core.specs.declared.shards.ShardId.{ShardId}
use Rattle.store_core.specs.declared.entries.Entry.{Entry}
use Rattle.store_core.specs.Stores.{Stored}
use Rattle.store_core.specs.Histories.{History}
use Rattle.store_core.specs.Newest.{replay_back}
use Rattle.feed_text.specs.declared.feed_lines.FeedLine.{FeedLine}
use Rattle.feed_text.specs.declared.feed_lines.FeedLine.TheVariants.{Append, Snapshot, Listen, Since, Compact}
use Rattle.feed_text.specs.declared.replies.RunReply.{RunReply}
use Rattle.feed_text.specs.Replies.{reply_text}
use Rattle.ingest_text.specs.Feeds.{IsQuery}
use Rattle.driving.specs.Goings.{Goes}
use Rattle.driving.proofs.GoingLaws.{going_so, more_going, no_going}
use Rattle.plain_run.specs.declared.session_faults.SessionFault.{SessionFault}
use Rattle.plain_run.specs.declared.session_faults.SessionFault.TheVariants as outside
use Rattle.read_client.specs.declared.readers.Reader.{Reader}
use Rattle.plain_run.specs.Answering.{Replies, StillSettled, number_of}
use Rattle.plain_run.specs.PlainRuns.{View, listen_text, plain_replies, plain_run, reply_to, snapshot_text, view_after}
use Rattle.plain_run.specs.Sessions.{ViewAt}
use Rattle.plain_run.specs.Settling.{StaysSettled}
use Rattle.ingest_run.specs.Ends.{Asks, AsksAll}
use Rattle.ingest_run.proofs.FaultLaws.{fault_later, going_both}

-- ---- replies to questions

-- a question leaves the view
leaves_view : (view : View) (q : FeedLine) → IsQuery q → view_after view q ≡ view
leaves_view view (Snapshot t) is = refl
leaves_view view (Listen t) is = refl
leaves_view view (Append a) is = absurd is
leaves_view view (Since to) is = absurd is
leaves_view view Compact is = absurd is

-- and its reply is by the collection alone
same_reply : (v w : View) (q : FeedLine) → IsQuery q → v.collection ≡ w.collection → reply_to v q ≡ reply_to w q
same_reply v w (Snapshot t) is same = ap (λ (c : Collection). snapshot_text (snapshot_answer c t)) same
same_reply v w (Listen t) is same = ap (λ (c : Collection). listen_text (listen_answer c (after t))) same
same_reply v w (Append a) is same = absurd is
same_reply v w (Since to) is same = absurd is
same_reply v w Compact is same = absurd is

cons_replies : (view : View) (q : FeedLine) (more : List FeedLine) → IsQuery q →
    plain_replies view (q ∷ more) ≡ reply_to view q ∷ plain_replies view more
cons_replies view q more is = ap (λ (w : View). reply_to view q ∷ plain_replies w more) (leaves_view view q is)

same_replies : (v w : View) (qs : List FeedLine) → AllByRecursion IsQuery qs → v.collection ≡ w.collection →
    plain_replies v qs ≡ plain_replies w qs
same_replies v w [] all same = refl
same_replies v w (q ∷ qs) all same =
    let first : reply_to v q ≡ reply_to w q = same_reply v w q all.0 same in
    let rest : plain_replies v qs ≡ plain_replies w qs = same_replies v w qs all.1 same in
    cons_replies v q qs all.0 ∙ both (reply_to v q) (reply_to w q) (plain_replies v qs) (plain_replies w qs) first rest
    ∙ sym (cons_replies w q qs all.0)
  where
    both : (a b : RunReply) (rs ss : List RunReply) → a ≡ b → rs ≡ ss → (a ∷ rs) ≡ (b ∷ ss)
    both a b rs ss x y = cc

-- the text of questions is by the collection alone
pub same_run : (v w : View) (qs : List FeedLine) → AllByRecursion IsQuery qs → v.collection ≡ w.collection → plain_run v qs ≡ plain_run w qs
same_run v w qs all same = ap (λ (rs : List RunReply). flat_map reply_text rs) (same_replies v w qs all same)

cons_run : (view : View) (q : FeedLine) (more : List FeedLine) → IsQuery q →
    plain_run view (q ∷ more) ≡ reply_text (reply_to view q) ++ plain_run view more
cons_run view q more is = ap (λ (rs : List RunReply). flat_map reply_text rs) (cons_replies view q more is)
    ∙ flat_map-cons reply_text (reply_to view q) (plain_replies view more)

-- ---- one after the other

-- the next question
pub next_question : (qs : List FeedLine) (i : ℕ) (q : FeedLine) → i < length qs → q ≡ slice_index_or qs i q →
    drop i qs ≡ q ∷ drop (i + 1) qs
next_question qs i q lt is = drop_more qs i q lt ∙ ap (λ (x : FeedLine). x ∷ drop (i + 1) qs) (sym is)

-- a reader that keeps its member keeps its number
pub same_number : (old new : Reader) → new.member ≡ old.member → number_of new ≡ number_of old
same_number old new same = cc

module _ (shard : ShardId) (reader : ℕ) where
  -- so many are answered: with those that are left the text is that of all
  abbrev pub AsksSome : List FeedLine → List FeedLine → List ℕ → List ℕ → List Update → Stored → List Entry → List Entry → Type 0
  AsksSome all left text text_now list start es now =
      (view : View) → ViewAt shard list start es reader view →
      (text_now ++ plain_run view left ≡ text ++ plain_run view all) × ViewAt shard list start now reader view ×
      StaysSettled shard (replay_back start es) (replay_back start now)

  pub some_starts : (a : Option History) (all : List FeedLine) (text : List ℕ) → Goes shard a a (AsksSome all all text text)
  some_starts a all text = no_going shard a (AsksSome all all text text) (λ list start es view v. (refl, v, λ h. h))

  pub some_more : (a b d : Option History) (all left : List FeedLine) (q : FeedLine) (text then now : List ℕ) → IsQuery q →
      Goes shard a b (AsksSome all (q ∷ left) text then) → Goes shard b d (Asks shard reader q then now (Ok tt)) →
      Goes shard a d (AsksSome all left text now)
  some_more a b d all left q text then now is x y =
      more_going shard a b d (AsksSome all (q ∷ left) text then) (Asks shard reader q then now (Ok tt)) (AsksSome all left text now) x y
      (λ list start es mid fs b1 b2 f g view v.
      let (so_far, at, first) = f view v in
      let (more, there, second) = g view at in
      (grown view more so_far, there, λ h. second (first h)))
    where
      grown : (view : View) → now ≡ then ++ reply_text (reply_to view q) →
          then ++ plain_run view (q ∷ left) ≡ text ++ plain_run view all →
          now ++ plain_run view left ≡ text ++ plain_run view all
      grown view more so_far =
          ap (λ (t : List ℕ). t ++ plain_run view left) more
          ∙ append_assoc then (reply_text (reply_to view q)) (plain_run view left)
          ∙ ap (λ (t : List ℕ). then ++ t) (sym (cons_run view q left is)) ∙ so_far

  pub some_not : (a b d : Option History) (all left : List FeedLine) (q : FeedLine) (text then now : List ℕ) (fault : SessionFault) →
      Goes shard a b (AsksSome all left text then) → Goes shard b d (Asks shard reader q then now (Err fault)) →
      Goes shard a d (AsksAll shard reader all text now (Err fault))
  some_not a b d all left q text then now fault x y =
      fault_later shard a b d reader (AsksSome all left text then) fault
      (λ list start es mid b1 f view v. (view, (f view v).1)) x y

  pub some_all : (a b : Option History) (all left : List FeedLine) (text now : List ℕ) → left ≡ [] →
      Goes shard a b (AsksSome all left text now) → Goes shard a b (AsksAll shard reader all text now (Ok tt))
  some_all a b all left text now none x =
      going_so shard a b (AsksSome all left text now) (AsksAll shard reader all text now (Ok tt)) x
      (λ list start es fs bt f view v.
      let (is, at, settled) = f view v in
      (sym (append-nil now) ∙ ap (λ (qs : List FeedLine). now ++ plain_run view qs) (sym none) ∙ is, at, settled))

  -- ---- one question

  pub asked_into : (a d : Option History) (q : FeedLine) (reply : RunReply) (text now : List ℕ) → now ≡ text ++ reply_text reply →
      Goes shard a d (Replies shard reader (λ view. reply_to view q) (λ view. view) (Ok reply)) →
      Goes shard a d (StillSettled shard reader) → Goes shard a d (Asks shard reader q text now (Ok tt))
  asked_into a d q reply text now is went still =
      going_both shard a d (Replies shard reader (λ view. reply_to view q) (λ view. view) (Ok reply)) (StillSettled shard reader)
      (Asks shard reader q text now (Ok tt)) went still
      (λ list start es fs f h view v.
      let (same, at) = f view v in (is ∙ ap (λ (r : RunReply). text ++ reply_text r) same, at, h view v))

  pub asked_short : (a d : Option History) (q : FeedLine) (reply : RunReply) (text now : List ℕ) →
      Goes shard a d (Replies shard reader (λ view. reply_to view q) (λ view. view) (Ok reply)) →
      Goes shard a d (Asks shard reader q text now (Err outside.Memory))
  asked_short a d q reply text now went =
      going_so shard a d (Replies shard reader (λ view. reply_to view q) (λ view. view) (Ok reply))
      (Asks shard reader q text now (Err outside.Memory)) went (λ list start es fs bt f. tt)
