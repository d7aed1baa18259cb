-- Commands outside of the crew that have no answer. Entries go newest first.
use Rattle.std.proofs.Common.{◌≡◌, ℕ, Option, Some, None, Result, Err, List, sym, subst, ◌∙◌}
use Rattle.std.specs.Prelude.{reverse}
use Rattle.update_core.specs.declared.updates.Update.{Update}
use Rattle.store_core.specs.declared.shards.ShardId.{ShardId}
use Rattle.store_core.specs.declared.entries.Entry.{Entry}
use Rattle.store_core.specs.Stores.{Stored}
use Rattle.store_core.specs.Histories.{History}
use Rattle.feed_text.specs.declared.replies.RunReply.{RunReply}
use Rattle.driving.specs.Goings.{Goes}
use Rattle.driving.proofs.GoingLaws.{Between, going_so, more_going}
use Rattle.plain_run.specs.declared.session_faults.SessionFault.{SessionFault}
use Rattle.plain_run.specs.declared.session_faults.SessionFault.TheVariants as outside
use Rattle.plain_run.specs.Answering.{Replies, TendsTo}
use Rattle.plain_run.specs.Drives.{Failed}
use Rattle.plain_run.specs.PlainRuns.{View}
use Rattle.plain_run.specs.Sessions.{StartsAt, ViewAt}
use Rattle.plain_run.proofs.ReplyLaws.{failed_more}
use Rattle.plain_run.proofs.TendLaws.{somewhere}
use Rattle.plain_run.proofs.Views.{starts_somehow}
use Rattle.ingest_run.specs.Ends.{FaultAt}

module _ (shard : ShardId) where
  -- what is so of a command of a run
  pub replies_fault : (a d : Option History) (reader : ℕ) (wanted : View → RunReply) (after : View → View) (fault : SessionFault) →
      Goes shard a d (Replies shard reader wanted after (Err fault)) → Goes shard a d (FaultAt shard reader fault)
  replies_fault a d reader wanted after outside.Memory went = went
  replies_fault a d reader wanted after outside.Store went = went
  replies_fault a d reader wanted after outside.Damaged went = went
  replies_fault a d reader wanted after outside.MembersFull went = went
  replies_fault a d reader wanted after outside.Spent went = went

  pub tends_fault : (a d : Option History) (reader : ℕ) (how : Stored → Stored → Type 0) (fault : SessionFault) →
      Goes shard a d (TendsTo shard reader how (Err fault)) → Goes shard a d (FaultAt shard reader fault)
  tends_fault a d reader how outside.Memory went = went
  tends_fault a d reader how outside.Store went = went
  tends_fault a d reader how outside.Damaged went = went
  tends_fault a d reader how outside.MembersFull went = went
  tends_fault a d reader how outside.Spent went = went

  pub failed_fault : (a d : Option History) (reader : ℕ) (fault : SessionFault) →
      Goes shard a d (λ list start es now. Failed shard fault start es now) → Goes shard a d (FaultAt shard reader fault)
  failed_fault a d reader outside.Memory went = went
  failed_fault a d reader outside.Store went = went
  failed_fault a d reader outside.Damaged went =
      going_so shard a d (λ list start es now. ⊥) (FaultAt shard reader outside.Damaged) went (λ list start es now b x. absurd x)
  failed_fault a d reader outside.MembersFull went = went
  failed_fault a d reader outside.Spent went = went

  -- the reader stands after what comes first
  abbrev pub KeepsReader : ℕ → (List Update → Stored → List Entry → List Entry → Type 0) → Type 0
  KeepsReader reader first =
      (list : List Update) (start : Stored) (es mid : List Entry) → Between shard list start es mid → first list start es mid →
      (view : View) → ViewAt shard list start es reader view → (next : View) × ViewAt shard list start mid reader next

  -- another stands after what comes first
  abbrev pub LeadsTo : ℕ → ℕ → (List Update → Stored → List Entry → List Entry → Type 0) → Type 0
  LeadsTo reader other first =
      (list : List Update) (start : Stored) (es mid : List Entry) → Between shard list start es mid → first list start es mid →
      (view : View) → ViewAt shard list start es reader view → (next : View) × ViewAt shard list start mid other next

  -- after earlier entries, with another reader
  pub fault_over : (a b d : Option History) (reader other : ℕ) (first : List Update → Stored → List Entry → List Entry → Type 0)
      (fault : SessionFault) → LeadsTo reader other first → Goes shard a b first → Goes shard b d (FaultAt shard other fault) →
      Goes shard a d (FaultAt shard reader fault)
  fault_over a b d reader other first outside.Memory leads x y = failed_more (somewhere shard) a b d first outside.Memory x y
  fault_over a b d reader other first outside.Store leads x y = failed_more (somewhere shard) a b d first outside.Store x y
  fault_over a b d reader other first outside.Damaged leads x y =
      more_going shard a b d first (FaultAt shard other outside.Damaged) (FaultAt shard reader outside.Damaged) x y
      (λ list start es mid now b1 b2 f g view v. let (next, at) = leads list start es mid b1 f view v in g next at)
  fault_over a b d reader other first outside.MembersFull leads x y = failed_more (somewhere shard) a b d first outside.MembersFull x y
  fault_over a b d reader other first outside.Spent leads x y = failed_more (somewhere shard) a b d first outside.Spent x y

  -- after earlier entries
  pub fault_later : (a b d : Option History) (reader : ℕ) (first : List Update → Stored → List Entry → List Entry → Type 0)
      (fault : SessionFault) → KeepsReader reader first → Goes shard a b first → Goes shard b d (FaultAt shard reader fault) →
      Goes shard a d (FaultAt shard reader fault)
  fault_later a b d reader first fault keeps x y = fault_over a b d reader reader first fault keeps x y

  -- the reader stands after what comes first, from a run's start on
  abbrev pub BringsReader : ℕ → (List Update → Stored → List Entry → List Entry → Type 0) → Type 0
  BringsReader reader first =
      (list : List Update) (start : Stored) (es mid : List Entry) → Between shard list start es mid → first list start es mid →
      (view : View) → StartsAt shard list start es view → (next : View) × ViewAt shard list start mid reader next

  -- after entries from a run's start on nothing is damaged
  pub fault_since : (a b d : Option History) (reader : ℕ) (first : List Update → Stored → List Entry → List Entry → Type 0)
      (fault : SessionFault) → BringsReader reader first → Goes shard a b first → Goes shard b d (FaultAt shard reader fault) →
      Goes shard a d (λ list start es now. Failed shard fault start es now)
  fault_since a b d reader first outside.Memory brings x y = failed_more (somewhere shard) a b d first outside.Memory x y
  fault_since a b d reader first outside.Store brings x y = failed_more (somewhere shard) a b d first outside.Store x y
  fault_since a b d reader first outside.Damaged brings x y =
      more_going shard a b d first (FaultAt shard reader outside.Damaged) (λ list start es now. ⊥) x y
      (λ list start es mid now b1 b2 f g.
      let (view, at) = starts_somehow shard list start es b1.stands b1.lawful in
      let (next, there) = brings list start es mid b1 f view at in g next there)
  fault_since a b d reader first outside.MembersFull brings x y = failed_more (somewhere shard) a b d first outside.MembersFull x y
  fault_since a b d reader first outside.Spent brings x y = failed_more (somewhere shard) a b d first outside.Spent x y

-- two things that are so of the same entries
pub going_both : (shard : ShardId) (a b : Option History) (first second how : List Update → Stored → List Entry → List Entry → Type 0) →
    Goes shard a b first → Goes shard a b second →
    ((list : List Update) (start : Stored) (es now : List Entry) → first list start es now → second list start es now →
    how list start es now) → Goes shard a b how
going_both shard None b first second how x y go = x
going_both shard (Some h) b first second how (k, is, grown, f) (k2, is2, grown2, g) go = (
  k,
  is,
  grown,
  λ list st l.
      let (lawful, one) = f list st l in
      let (lawful2, two) = g list st l in
      let same : k2 ≡ k = some_is k2 k (sym is2 ∙ is) in
      let two_too = subst (λ (q : History). second list h.start (reverse h.trail) (reverse q.trail)) same two in
      (lawful, go list h.start (reverse h.trail) (reverse k.trail) one two_too),
)
  where
    some_is : (p q : History) → Some p ≡ Some q → p ≡ q
    some_is p q e = cc

-- where there is a fault
pub on_fault : {A E : Type 0} → (r : Result A E) (e f : E) → r ≡ Err e → r ≡ Err f → e ≡ f
on_fault r e f x y = cc
