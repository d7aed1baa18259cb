-- A call of which it isn't known whether it took effect.
use Rattle.std.proofs.Common.{◌≡◌, ℕ, ◌==◌, Bool, true, false, cond, List, [], ◌∷◌, ◌++◌, refl, sym, ap, subst, ◌∙◌}
use Rattle.std.specs.Prelude.{reverse}
use Rattle.std.proofs.lemmas.List.{reverse-append}
use Rattle.store_core.specs.declared.calls.Call.{Call}
use Rattle.store_core.specs.declared.replies.Reply.TheVariants as replies
use Rattle.store_core.specs.declared.outcomes.Outcome.{Outcome}
use Rattle.store_core.specs.declared.outcomes.Outcome.TheVariants.{Took, FailedTook, FailedLost}
use Rattle.store_core.specs.declared.entries.Entry.{Entry}
use Rattle.store_core.specs.Stores.{Stored}
use Rattle.store_core.specs.Histories.{History, store_after, with_entry, entry_of, replay, next, after_outcome, reply, reply_by}
use Rattle.store_core.specs.Ports.{Answered, answered, mine}
use Rattle.store_core.specs.Newest.{replay_back, mine_back}
use Rattle.store_core.proofs.HistoryLaws.{replay-push}
use Rattle.store_core.proofs.NewestLaws.{newest-first, mine-newest}
use Rattle.store_core.proofs.PortLaws.{replay-append}
use Rattle.history_core.specs.Discipline.{OwnLawful}
use Rattle.history_core.specs.Stands.{StandsFor, accepted_of}
use Rattle.history_core.specs.TakenAfterAll.{AllLost, ended_by, AnyLastOutcome, TakenAfterAll, StandsInProgress, StandsEitherWay}
use Rattle.history_core.proofs.LawfulLaws.{lawful_law}
use Rattle.history_core.proofs.OneMore.{one_more, last_allowed}
use Rattle.history_core.proofs.Prefixes.{prefix_lawful}
use Rattle.history_core.proofs.Walking.{all_back}
use Rattle.history_core.proofs.SameCalls.{SameCalls, same_itself, own_lawful}

pub any_outcome : AnyLastOutcome
any_outcome h client call o p l =
    one_more h (entry_of client call p) (prefix_lawful h (entry_of client call o ∷ []) l) (last_allowed h (entry_of client call o) l)

-- ---- lost calls are answered Failed and change nothing

lost_reply : (s : Stored) (e : Entry) → e.outcome ≡ FailedLost → reply s e ≡ replies.Failed
lost_reply s e lost = ap (λ (o : Outcome). reply_by s e.call o) lost

lost_stays : (s : Stored) (es : List Entry) → AllLost es → replay s es ≡ s
lost_stays s [] lost = refl
lost_stays s (e ∷ es) lost = lost_stays (next s e) es lost.1 ∙ ap (λ (o : Outcome). after_outcome s e.call o) lost.0

-- ---- each client's calls and replies are the same, lost or taken

one : (b : Bool) (o p : Answered) (os ps : List Answered) → p.entry.call ≡ o.entry.call → p.reply ≡ o.reply → SameCalls os ps →
    SameCalls (cond b (o ∷ os) os) (cond b (p ∷ ps) ps)
one true o p os ps call rep same = (call, rep, same)
one false o p os ps call rep same = same

module _ (start : Stored) (es : List Entry) (client : ℕ) (call : Call) where
  same_mine : (ls : List Entry) (c : ℕ) → AllLost ls →
      SameCalls (mine_back start (ls ++ entry_of client call FailedLost ∷ es) c)
      (mine_back start (ls ++ entry_of client call FailedTook ∷ es) c)
  same_mine [] c lost =
      one (client == c) (answered (entry_of client call FailedLost) replies.Failed)
      (answered (entry_of client call FailedTook) replies.Failed) (mine_back start es c) (mine_back start es c) refl refl (same_itself (mine_back start es c))
  same_mine (l ∷ ls) c lost =
      let s = replay_back start (ls ++ entry_of client call FailedLost ∷ es) in
      let t = replay_back start (ls ++ entry_of client call FailedTook ∷ es) in
      one (l.client == c) (answered l (reply s l)) (answered l (reply t l)) (mine_back start (ls ++ entry_of client call FailedLost ∷ es) c)
      (mine_back start (ls ++ entry_of client call FailedTook ∷ es) c) refl (lost_reply t l lost.0 ∙ sym (lost_reply s l lost.0))
      (same_mine ls c lost.1)

-- the entries of a client, the newest first
ended_back : (h : History) (client : ℕ) (call : Call) (o : Outcome) (lost : List Entry) (c : ℕ) →
    reverse (mine (ended_by h client call o lost) c) ≡ mine_back h.start (reverse lost ++ entry_of client call o ∷ reverse h.trail) c
ended_back h client call o lost c =
    mine-newest (ended_by h client call o lost) c
    ∙ ap (λ (l : List Entry). mine_back h.start l c) (reverse-append (h.trail ++ entry_of client call o ∷ []) lost)
    ∙ ap (λ (l : List Entry). mine_back h.start (reverse lost ++ l) c) (newest-first h.trail (entry_of client call o))

pub taken_law : TakenAfterAll
taken_law h client call lost all_lost l c =
    let lost_back = all_back (λ (e : Entry). e.outcome ≡ FailedLost) lost all_lost in
    let same = same_mine h.start (reverse h.trail) client call (reverse lost) c lost_back in
    subst OwnLawful (sym (ended_back h client call FailedTook lost c))
    (own_lawful (mine_back h.start (reverse lost ++ entry_of client call FailedLost ∷ reverse h.trail) c)
    (mine_back h.start (reverse lost ++ entry_of client call FailedTook ∷ reverse h.trail) c) same
    (subst OwnLawful (ended_back h client call FailedLost lost c) (l c)))

-- ---- and so the store stands for what is accepted

-- the store at the end
store_ended : (h : History) (client : ℕ) (call : Call) (o : Outcome) (lost : List Entry) → AllLost lost →
    store_after (ended_by h client call o lost) ≡ after_outcome (store_after h) call o
store_ended h client call o lost all_lost =
    replay-append h.start (h.trail ++ entry_of client call o ∷ []) lost
    ∙ lost_stays (replay h.start (h.trail ++ entry_of client call o ∷ [])) lost all_lost
    ∙ replay-push h.start h.trail (entry_of client call o)

pub in_progress : StandsInProgress
in_progress shard list h client call o st l = (
  lawful_law shard list h st (prefix_lawful h (entry_of client call o ∷ []) l),
  subst (λ (s : Stored). StandsFor s shard (accepted_of shard list (with_entry h (entry_of client call Took))))
      (replay-push h.start h.trail (entry_of client call Took))
      (lawful_law shard list (with_entry h (entry_of client call Took)) st (any_outcome h client call o Took l)),
)

pub either_way : StandsEitherWay
either_way shard list h client call lost st all_lost l = (
  subst (λ (s : Stored). StandsFor s shard (accepted_of shard list (ended_by h client call FailedLost lost)))
      (store_ended h client call FailedLost lost all_lost)
      (lawful_law shard list (ended_by h client call FailedLost lost) st l),
  subst (λ (s : Stored). StandsFor s shard (accepted_of shard list (ended_by h client call FailedTook lost)))
      (store_ended h client call FailedTook lost all_lost)
      (lawful_law shard list (ended_by h client call FailedTook lost) st (taken_law h client call lost all_lost l)),
)
