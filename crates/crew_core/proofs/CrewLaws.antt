-- The laws of what workers do together.
use Rattle.std.proofs.Common.{◌≡◌, ℕ, ◌<◌, Option, Some, List, [], ◌∷◌, ◌++◌, refl, sym, ap, subst, ◌∙◌}
use Rattle.std.specs.Prelude.{⊤, reverse}
use Rattle.std.specs.List.{AllByRecursion}
use Rattle.update_core.specs.declared.appends.FeedAppend.{FeedAppend}
use Rattle.update_core.specs.declared.updates.Update.{Update}
use Rattle.update_core.specs.Collections.{Collection as PlainCollection}
use Rattle.store_core.specs.declared.shards.ShardId.{ShardId}
use Rattle.store_core.specs.declared.entries.Entry.{Entry}
use Rattle.store_core.specs.Stores.{Stored}
use Rattle.store_core.specs.Histories.{History}
use Rattle.store_core.specs.Ports.{Answered}
use Rattle.store_core.specs.Newest.{mine_back}
use Rattle.history_core.specs.Discipline.{LawfulBack}
use Rattle.history_core.specs.Stands.{StandsFor}
use Rattle.appends_core.specs.Feeds.{FollowOn}
use Rattle.turnstile.specs.Plays.{EachIn}
use Rattle.turnstile.specs.Rule.{times}
use Rattle.shared_store.specs.Trails.{entry_client}
use Rattle.crew_core.specs.Competing.{CompetingAppends, FromWorkers, HasReader, MergesLeave, ReadersStay, SuitsCrew, WorkersLawful}
use Rattle.crew_core.specs.KeepingOn.{KeptPastACall, KeptPastOthers, KeptTwice}
use Rattle.crew_core.specs.Keeping.{Keeps}
use Rattle.crew_core.specs.Working.{IsWorkersEntry, Role, as_collector, as_compactor, as_follower, as_pin, as_writer}
use Rattle.crew_core.proofs.Along.{goes}
use Rattle.crew_core.proofs.Anchoring.{Anchored, anchored_on, first_anchor, holds_since, made_by}
use Rattle.crew_core.proofs.Commits.{Stepped}
use Rattle.crew_core.proofs.Competing.{Come, IsFeeds, Spares, before_step, come_none, come_on, merges_stay}
use Rattle.crew_core.proofs.Joining.{CountsFrom, IsSpared, counts_from, spared_first, spared_on}
use Rattle.crew_core.proofs.Readers.{reads_on}
use Rattle.crew_core.proofs.Keeping.{on_both, on_gains, on_others}

each_in : (clients : List (ℕ × List Entry)) (gain : List Entry) → EachIn entry_client clients gain →
    AllByRecursion (λ e. 0 < times e.client clients) gain
each_in clients [] h = tt
each_in clients (e ∷ gain) h = (h.0, each_in clients gain h.1)

-- an entry of a client in its role, which is one of this crew
abbrev IsCrewsEntry : (ℕ → Role) → ShardId → Stored → List Entry → Entry → Type 0
IsCrewsEntry roles shard start es e = IsWorkersEntry (roles e.client) shard start es e

keeps_as : (roles : ℕ → Role) (shard : ShardId) (n : ℕ) (h : History) (gain : List Entry) →
    Keeps (IsWorkersEntry (roles n) shard) shard n h gain → Keeps (IsCrewsEntry roles shard) shard n h gain
keeps_as roles shard n h gain k before after e split own list st l =
    subst (λ (m : ℕ). IsWorkersEntry (roles m) shard h.start (reverse (h.trail ++ before)) e) (sym own)
    (k before after e split own list st l)

pub lawful_law : WorkersLawful
lawful_law roles appends shard list clients h gain st l w =
    (goes (IsCrewsEntry roles shard) shard list (λ n. 0 < times n clients) (λ start es. ⊤) (λ start es e p. p.allowed)
    (λ start es e s b p inv. tt) gain h st l (λ n k. keeps_as roles shard n h gain (w.each_keeps n k))
    (each_in clients gain w.each_of) tt).lawful

-- the same of a client among these, whose role is one of this crew
pub record IsSuited (roles : ℕ → Role) (appends : List FeedAppend) (counts : ℕ → ℕ) (shard : ShardId) (start : Stored) (es : List Entry)
    (e : Entry) : Type 0 where
  pub entry : IsWorkersEntry (roles e.client) shard start es e
  pub feeds : IsFeeds appends (roles e.client)
  pub counts_from : CountsFrom counts e.client (roles e.client)

feeds_of : (appends : List FeedAppend) (own : List Answered) (role : Role) → SuitsCrew appends own role → IsFeeds appends role
feeds_of appends own (as_writer mine) suits = suits
feeds_of appends own (as_follower count) suits = tt
feeds_of appends own as_compactor suits = tt
feeds_of appends own as_collector suits = tt
feeds_of appends own as_pin suits = tt

module _ (roles : ℕ → Role) (appends : List FeedAppend) (shard : ShardId) (clients : List (ℕ × List Entry)) (h : History)
    (gain : List Entry) (w : FromWorkers roles appends shard clients h gain) where
  abbrev counts : ℕ → ℕ
  counts c = made_by h.start (reverse h.trail) c

  suited : (n : ℕ) → 0 < times n clients → Keeps (IsSuited roles appends counts shard) shard n h gain
  suited n mine before after e split own list st l = record {
    entry = keeps_as roles shard n h gain (w.each_keeps n mine) before after e split own list st l;
    feeds = subst (λ (m : ℕ). IsFeeds appends (roles m)) (sym own)
        (feeds_of appends (mine_back h.start (reverse h.trail) n) (roles n) (w.each_suits n mine));
    counts_from = subst (λ (m : ℕ). CountsFrom counts m (roles m)) (sym own)
        (counts_from appends counts n (mine_back h.start (reverse h.trail) n) (roles n) refl (w.each_suits n mine));
  }

-- how the collection has grown, and what holds its since
record ComeOn (appends : List FeedAppend) (follow : FollowOn (Some 0) appends) (counts : ℕ → ℕ) (shard : ShardId)
    (list : List Update) (first : PlainCollection) (anchor : Option ℕ) (start : Stored) (es : List Entry) : Type 0 where
  pub come : Come appends follow shard list first start es
  pub holds : Anchored counts shard first.since anchor start es

module _ (roles : ℕ → Role) (appends : List FeedAppend) (follow : FollowOn (Some 0) appends) (counts : ℕ → ℕ) (shard : ShardId)
    (list : List Update) (first : PlainCollection) (anchor : Option ℕ) (start : Stored) (es : List Entry) (e : Entry)
    (st : StandsFor start shard list) (l : LawfulBack start (e ∷ es)) where
  step_on : IsSuited roles appends counts shard start es e → ComeOn appends follow counts shard list first anchor start es →
      ComeOn appends follow counts shard list first anchor start (e ∷ es)
  step_on p k = record {
    come = come_on appends follow shard list first start es e st l (roles e.client) p.feeds (λ s. spares s (roles e.client) p.counts_from)
        p.entry k.come;
    holds = anchored_on counts shard first.since list start es e st l anchor (roles e.client) p.counts_from p.entry since_is k.holds;
  }
    where
      since_is : (s : Stepped shard list start e es) → s.from.since ≡ first.since
      since_is s =
          sym (ap (λ (c : PlainCollection). c.since) (before_step shard list start es s.number s.from s.last k.come.now k.come.has))
          ∙ k.come.appended.since

      spares : (s : Stepped shard list start e es) (role : Role) → CountsFrom counts e.client role →
          Spares shard list start e es s role
      spares s (as_follower count) from = λ left joined.
          holds_since counts shard first.since list start es e st l anchor k.holds s (since_is s) count from left joined
      spares s (as_writer mine) from = tt
      spares s as_compactor from = tt
      spares s as_collector from = tt
      spares s as_pin from = tt

pub competing_law : CompetingAppends
competing_law roles appends shard list clients h gain follow st l w before has =
    let (anchor, held) = first_anchor shard list h.start (reverse h.trail) before has in
    let counts = made_by h.start (reverse h.trail) in
    let c = (goes (IsSuited roles appends counts shard) shard list (λ n. 0 < times n clients)
    (ComeOn appends follow counts shard list before anchor)
    (λ start es e p. p.entry.allowed)
    (λ start es e s b p come. step_on roles appends follow counts shard list before anchor start es e s b p come)
    gain h st l (λ n k. suited roles appends shard clients h gain w n k) (each_in clients gain w.each_of)
    (record { come = come_none appends follow shard list before h.start (reverse h.trail) has; holds = held })).along.come in
    (c.now, c.has, c.appended)

-- a reader that stands, and that none of these clients has joined since
record StandsOn (counts : ℕ → ℕ) (shard : ShardId) (member since : ℕ) (start : Stored) (es : List Entry) : Type 0 where
  pub reads : HasReader shard member since start es
  pub spared : IsSpared counts shard member start es

pub readers_law : ReadersStay
readers_law roles appends shard list clients h gain st l w member since there =
    let counts = made_by h.start (reverse h.trail) in
    (goes (IsSuited roles appends counts shard) shard list (λ n. 0 < times n clients) (StandsOn counts shard member since)
    (λ start es e p. p.entry.allowed)
    (λ start es e s b p k. record {
      reads = reads_on member since counts shard list start es e s b k.spared (roles e.client) p.counts_from p.entry k.reads;
      spared = spared_on counts shard list start es e s b member since k.reads k.spared;
    })
    gain h st l (λ n k. suited roles appends shard clients h gain w n k) (each_in clients gain w.each_of)
    (record { reads = there; spared = spared_first shard member h.start (reverse h.trail) })).along.reads

pub others_law : KeptPastOthers
others_law role shard client front now g = on_others (IsWorkersEntry role shard) shard client front now g

pub twice_law : KeptTwice
twice_law role shard client first then now a b = on_both (IsWorkersEntry role shard) shard client first then now a b

pub call_law : KeptPastACall
call_law role shard client front now call reply g would =
    on_gains (IsWorkersEntry role shard) shard client front now call reply g would

pub merges_law : MergesLeave
merges_law shard list start e es st l k n to member token left right merged expected written =
    merges_stay shard list start e es st l k n to member token left right merged expected written
