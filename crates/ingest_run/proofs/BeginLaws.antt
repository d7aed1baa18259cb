-- What is done before a crew. Entries go newest first.
use Rattle.std.proofs.Common.{◌≡◌, ℕ, ◌+◌, ◌≤◌, ◌^◌, ◌<◌, Option, Some, None, Ok, Err, List, sym, subst, ◌∙◌}
use Rattle.update_core.specs.declared.appends.FeedAppend.{FeedAppend}
use Rattle.update_core.specs.Collections.{Collection}
use Rattle.store_core.specs.declared.shards.ShardId.{ShardId}
use Rattle.store_core.specs.Histories.{History}
use Rattle.appends_core.specs.Feeds.{from_upper, weight_of_all}
use Rattle.crew_core.specs.Completing.{IsBound}
use Rattle.feed_text.specs.declared.replies.RunReply.{RunReply}
use Rattle.ingest_text.specs.declared.feeds.IngestFeed.{IngestFeed}
use Rattle.read_client.specs.declared.readers.Reader.{Reader}
use Rattle.driving.specs.Goings.{Goes}
use Rattle.driving.proofs.GoingLaws.{going_so, more_going, no_going}
use Rattle.plain_run.specs.declared.session_faults.SessionFault.{SessionFault}
use Rattle.plain_run.specs.Answering.{OpensReader, Replies, number_of}
use Rattle.plain_run.specs.PlainRuns.{since_reply, view_since}
use Rattle.plain_run.specs.Sessions.{ViewAt}
use Rattle.plain_run.proofs.ReplyLaws.{failed_more}
use Rattle.plain_run.proofs.TendLaws.{somewhere}
use Rattle.ingest_run.specs.declared.extents.Extent.{Extent}
use Rattle.ingest_run.specs.declared.faults.IngestFault.{IngestFault}
use Rattle.ingest_run.specs.declared.faults.IngestFault.TheVariants as faults
use Rattle.ingest_run.specs.Bounds.{SuitsFeed, Unsuited}
use Rattle.ingest_run.specs.Ends.{Advances, Begins, Joins, Suits, Unfit}
use Rattle.ingest_run.specs.Looking.{Looks, Reaches}
use Rattle.ingest_run.specs.PlainIngests.{since_done}
use Rattle.ingest_run.proofs.FaultLaws.{fault_since, replies_fault}

module _ (shard : ShardId) where
  -- ---- the feed's since

  pub no_since : (a : Option History) (reader : ℕ) → Goes shard a a (Advances shard reader None (Ok tt))
  no_since a reader = no_going shard a (Advances shard reader None (Ok tt)) (λ list start es view v. v)

  pub since_taken : (a d : Option History) (reader to : ℕ) (reply : RunReply) →
      Goes shard a d (Replies shard reader (λ view. since_reply view.own to) (λ view. view_since view to) (Ok reply)) →
      Goes shard a d (Advances shard reader (Some to) (Ok tt))
  since_taken a d reader to reply went =
      going_so shard a d (Replies shard reader (λ view. since_reply view.own to) (λ view. view_since view to) (Ok reply))
      (Advances shard reader (Some to) (Ok tt)) went (λ list start es now b f view v. (f view v).1)

  pub since_failed : (a d : Option History) (reader to : ℕ) (since : Option ℕ) (fault : SessionFault) →
      Goes shard a d (Replies shard reader (λ view. since_reply view.own to) (λ view. view_since view to) (Err fault)) →
      Goes shard a d (Advances shard reader since (Err fault))
  since_failed a d reader to since fault went =
      replies_fault shard a d reader (λ view. since_reply view.own to) (λ view. view_since view to) fault went

  -- ---- the reader

  pub joined : (a b d : Option History) (old new : Reader) (since : Option ℕ) → new.member ≡ old.member →
      Goes shard a b (OpensReader shard (Ok old)) → Goes shard b d (Advances shard (number_of old) since (Ok tt)) →
      Goes shard a d (Joins shard since (Ok new))
  joined a b d old new since same x y =
      more_going shard a b d (OpensReader shard (Ok old)) (Advances shard (number_of old) since (Ok tt)) (Joins shard since (Ok new)) x y
      (λ list start es mid now b1 b2 f g view at.
      subst (λ (n : ℕ). ViewAt shard list start now n (since_done view since)) (sym (numbers old new same)) (g view (f view at)))
    where
      numbers : (old new : Reader) → new.member ≡ old.member → number_of new ≡ number_of old
      numbers old new same = cc

  pub joined_not : (a b d : Option History) (reader : Reader) (since : Option ℕ) (fault : SessionFault) →
      Goes shard a b (OpensReader shard (Ok reader)) → Goes shard b d (Advances shard (number_of reader) since (Err fault)) →
      Goes shard a d (Joins shard since (Err fault))
  joined_not a b d reader since fault x y =
      fault_since shard a b d (number_of reader) (OpensReader shard (Ok reader)) fault
      (λ list start es mid b f view at. (view, f view at)) x y

  -- ---- the whole

  -- what a look tells of the collection
  suits_there : (appends : List FeedAppend) (x : Extent) (c : Collection) → Reaches c x → SuitsFeed appends x → Suits appends c
  suits_there appends x c r s = record {
    bound = subst (IsBound appends) r.upper s.bound;
    light = subst (λ (w : ℕ). w + weight_of_all (from_upper c.upper appends) ≤ 2 ^ 62) r.weight
        (subst (λ (u : Option ℕ). x.weight + weight_of_all (from_upper u appends) ≤ 2 ^ 62) r.upper s.light);
  }

  unfit_there : (appends : List FeedAppend) (x : Extent) (c : Collection) (fault : IngestFault) → Reaches c x → Unsuited appends x fault →
      Unfit appends c fault
  unfit_there appends x c (faults.Misfit upper) r (is, not) = (is ∙ r.upper, not)
  unfit_there appends x c (faults.Heavy weight) r (is, bound, more) = (
    is ∙ r.weight,
    subst (IsBound appends) r.upper bound,
    subst (λ (u : Option ℕ). 2 ^ 62 < weight + weight_of_all (from_upper u appends)) r.upper more,
  )
  unfit_there appends x c (faults.Outside fault) r h = absurd h
  unfit_there appends x c faults.Memory r h = absurd h
  unfit_there appends x c faults.Damaged r h = absurd h
  unfit_there appends x c faults.Spent r h = absurd h
  unfit_there appends x c faults.MembersFull r h = absurd h
  unfit_there appends x c (faults.Upper upper) r h = absurd h

  pub begun : (a b d : Option History) (feed : IngestFeed) (x : Extent) (reader : Reader) → SuitsFeed feed.appends x →
      Goes shard a b (Looks shard (Ok x)) → Goes shard b d (Joins shard feed.since (Ok reader)) →
      Goes shard a d (Begins shard feed (Ok reader))
  begun a b d feed x reader suits went next =
      more_going shard a b d (Looks shard (Ok x)) (Joins shard feed.since (Ok reader)) (Begins shard feed (Ok reader)) went next
      (λ list start es mid now b1 b2 f g view at.
      let (there, reaches) = f.starts view at in (suits_there feed.appends x view.collection reaches suits, g view there))

  -- a shard that doesn't suit
  pub begun_unfit : (a b : Option History) (feed : IngestFeed) (x : Extent) (fault : IngestFault) → Unsuited feed.appends x fault →
      Goes shard a b (Looks shard (Ok x)) → Goes shard a b (Begins shard feed (Err fault))
  begun_unfit a b feed x (faults.Misfit upper) unfit went =
      going_so shard a b (Looks shard (Ok x)) (Begins shard feed (Err (faults.Misfit upper))) went
      (λ list start es now bt f view at.
      let (there, reaches) = f.starts view at in (unfit_there feed.appends x view.collection (faults.Misfit upper) reaches unfit, there))
  begun_unfit a b feed x (faults.Heavy weight) unfit went =
      going_so shard a b (Looks shard (Ok x)) (Begins shard feed (Err (faults.Heavy weight))) went
      (λ list start es now bt f view at.
      let (there, reaches) = f.starts view at in (unfit_there feed.appends x view.collection (faults.Heavy weight) reaches unfit, there))
  begun_unfit a b feed x (faults.Outside fault) h went = absurd h
  begun_unfit a b feed x faults.Memory h went = absurd h
  begun_unfit a b feed x faults.Damaged h went = absurd h
  begun_unfit a b feed x faults.Spent h went = absurd h
  begun_unfit a b feed x faults.MembersFull h went = absurd h
  begun_unfit a b feed x (faults.Upper upper) h went = absurd h

  pub begun_not : (a b d : Option History) (feed : IngestFeed) (x : Extent) (fault : SessionFault) → Goes shard a b (Looks shard (Ok x)) →
      Goes shard b d (Joins shard feed.since (Err fault)) → Goes shard a d (Begins shard feed (Err (faults.Outside fault)))
  begun_not a b d feed x fault went next = failed_more (somewhere shard) a b d (Looks shard (Ok x)) fault went next
