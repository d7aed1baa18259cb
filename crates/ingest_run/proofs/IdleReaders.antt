-- A reader with no open command follows past all that comes to a history. Entries go newest first.
use Rattle.std.proofs.Common.{◌≡◌, ◌≢◌, ℕ, zero, suc, Option, Some, None, true, false, List, [], ◌∷◌, ◌++◌, inl, inr, refl, sym, ap, subst, ◌∙◌, arith}
use Rattle.std.specs.Prelude.{◌==◌, ◌<◌, ◌⊎◌, IfSome, IsSome, reverse}
use Rattle.std.proofs.lemmas.Bool.Decides.{nat_tests}
use Rattle.store_core.specs.declared.shards.ShardId.{ShardId}
use Rattle.store_core.specs.declared.entries.Entry.{Entry}
use Rattle.store_core.specs.Histories.{History}
use Rattle.store_core.specs.Ports.{with_entries}
use Rattle.store_core.specs.Stores.{Stored}
use Rattle.update_core.specs.declared.updates.Update.{Update}
use Rattle.history_core.proofs.LawfulLaws.{turned}
use Rattle.history_core.proofs.Prefixes.{prefix_lawful}
use Rattle.state_core.proofs.ListLemmas.{bool_cases}
use Rattle.read_client.specs.declared.readers.Reader.{Reader}
use Rattle.read_client.specs.Following.{Follows, FollowsWhere}
use Rattle.read_client.proofs.Machining.{keeps, not_open}
use Rattle.state_core.specs.declared.transitions.Transition.TheVariants.{Leave}
use Rattle.history_core.specs.declared.asked.Asked.TheVariants as asks
use Rattle.read_client.specs.Beginning.{Changing}
use Rattle.read_client.specs.Reading.{IsSound, shard_of}
use Rattle.crew.specs.declared.ends.WorkerEnd.{WorkerEnd}
use Rattle.crew.specs.declared.plans.Plan.{Plan}
use Rattle.crew.specs.Crews.{LeavesPin}
use Rattle.crew.specs.Pinning.{IsPinOf}
use Rattle.driving.specs.Goings.{Goes}
use Rattle.driving.specs.StoreTurns.{Grown}
use Rattle.plain_run.specs.Answering.{ReaderReady}
use Rattle.ingest_run.specs.Idling.{IsIdle}

same : (a b : ℕ) → (a == b) ≡ true → a ≡ b
same a b h = grind (arith, nat_tests)

differs : (a b : ℕ) → (a == b) ≡ false → a ≢ b
differs a b e h = let t : (a == b) ≡ true = itself a b h in let bad : false ≡ true = sym e ∙ t in cc
  where
    itself : (a b : ℕ) → a ≡ b → (a == b) ≡ true
    itself a b h = grind (arith, nat_tests)

module _ (client : ℕ) (r : Reader) (idle : r.asked ≡ None) (start : Stored) where
  past : (es more : List Entry) → Follows client r start es → Follows client r start (more ++ es)
  past es [] f = f
  past es (e ∷ more) f = elim (bool_cases (e.client == client)) [
    | inl t ↦ keeps.spared_follows client r start e [] (more ++ es) (not_open r.asked idle) tt (same e.client client t) tt
        (past es more f)
    | inr t ↦ keeps.others_follow client r start (e ∷ []) (more ++ es) (differs e.client client t, tt) (past es more f)
  ]

as_entries : (h k : History) (g : Grown h k) → k ≡ with_entries h g.more
as_entries h k g = λ i. record { start = g.start i; trail = g.trail i }

idle_follows : (shard : ShardId) (client : ℕ) (r : Reader) (a b : Option History)
    (how : List Update → Stored → List Entry → List Entry → Type 0) → r.asked ≡ None → Goes shard a b how → FollowsWhere client a r →
    FollowsWhere client b r
idle_follows shard client r None b how idle went f = subst (λ (h : Option History). FollowsWhere client h r) (sym went) tt
idle_follows shard client r (Some h) b how idle (k, is, grown, so) f =
    subst (λ (q : Option History). FollowsWhere client q r) (sym (is ∙ ap Some (as_entries h k grown))) (λ list st l.
    subst (Follows client r h.start) (sym (turned h grown.more))
    (past client r idle h.start (reverse h.trail) (reverse grown.more) (f list st (prefix_lawful h grown.more l))))

-- so it is ready still
pub idle_ready : (shard : ShardId) (client : ℕ) (r : Reader) (a b : Option History)
    (how : List Update → Stored → List Entry → List Entry → Type 0) → Goes shard a b how → ReaderReady shard client a r →
    ReaderReady shard client b r
idle_ready shard client r a b how went ready = record {
  shard = ready.shard;
  sound = ready.sound;
  follows = idle_follows shard client r a b how ready.free went ready.follows;
  free = ready.free;
  member = ready.member;
}

pub idle_past : (shard : ShardId) (client : ℕ) (r : Reader) (a b : Option History)
    (how : List Update → Stored → List Entry → List Entry → Type 0) → Goes shard a b how → IsIdle shard client a r → IsIdle shard client b r
idle_past shard client r a b how went idle = record {
  shard = idle.shard;
  sound = idle.sound;
  follows = idle_follows shard client r a b how idle.free went idle.follows;
  free = idle.free;
}

pub some_idle_past : (shard : ShardId) (client : ℕ) (pin : Option Reader) (a b : Option History)
    (how : List Update → Stored → List Entry → List Entry → Type 0) → Goes shard a b how → IfSome pin (IsIdle shard client a) →
    IfSome pin (IsIdle shard client b)
some_idle_past shard client None a b how went idle = tt
some_idle_past shard client (Some r) a b how went idle = idle_past shard client r a b how went idle

-- a pin that isn't busy is idle
pub kept_idle : (shard : ShardId) (client : ℕ) (front : Option History) (pin : Reader) (kept : Option Reader) →
    IfSome kept (λ r. (r ≡ pin) × (r.asked ≡ None)) → IsPinOf shard client front pin → IfSome kept (IsIdle shard client front)
kept_idle shard client front pin None is pinned = tt
kept_idle shard client front pin (Some r) (same, free) pinned = record {
  shard = subst (λ (q : Reader). shard_of q ≡ shard) (sym same) pinned.of_shard;
  sound = subst IsSound (sym same) pinned.sound;
  follows = subst (λ (q : Reader). FollowsWhere client front q) (sym same) pinned.follows;
  free = free;
}

-- what a crew leaves of a pin that was ready
pub pin_after : (plan : Plan) (shard : ShardId) (a b : Option History) (old new : Reader) (ends : List WorkerEnd) → plan.shard ≡ shard →
    ReaderReady shard 0 a old → ((plan.collectors ≡ 0) ⊎ (old.asked ≢ None) → new ≡ old) →
    (0 < plan.collectors → old.asked ≡ None → LeavesPin plan b new ends) →
    ((plan.collectors ≡ 0) ⊎ (old.asked ≡ None) → FollowsWhere 0 a old → FollowsWhere 0 b new) → IsPinOf shard 0 b new
pin_after plan shard a b old new ends here ready same left follows = by (some_or_none plan.collectors)
  where
    some_or_none : (n : ℕ) → (n ≡ 0) ⊎ (0 < n)
    some_or_none zero = inl refl
    some_or_none (suc n) = inr (omega arith)

    by : (plan.collectors ≡ 0) ⊎ (0 < plan.collectors) → IsPinOf shard 0 b new
    by (inl none) =
        let is = same (inl none) in
        record {
          of_shard = subst (λ (q : Reader). shard_of q ≡ shard) (sym is) ready.shard;
          sound = subst IsSound (sym is) ready.sound;
          follows = follows (inr ready.free) ready.follows;
        }
    by (inr some) = subst (λ (s : ShardId). IsPinOf s 0 b new) here (left some ready.free).2.follows

-- and what a crew asks of one
pub pin_of : (plan : Plan) (shard : ShardId) (client : ℕ) (front : Option History) (r : Reader) → plan.shard ≡ shard → client ≡ 0 →
    ReaderReady shard client front r → IsPinOf plan.shard 0 front r
pin_of plan shard client front r here first ready = record {
  of_shard = ready.shard ∙ sym here;
  sound = ready.sound;
  follows = subst (λ (n : ℕ). FollowsWhere n front r) first ready.follows;
}

-- ---- a reader that begins to leave

pub closing_shard : (old new : Reader) → Changing old asks.CloseReader (λ m. Leave m) new → shard_of new ≡ shard_of old
closing_shard old new (n, has, is) = ap shard_of is

-- it had joined
pub joined_ready : (shard : ShardId) (client : ℕ) (front : Option History) (old new : Reader) → IsIdle shard client front old →
    Changing old asks.CloseReader (λ m. Leave m) new → ReaderReady shard client front old
joined_ready shard client front old new idle (n, has, is) = record {
  shard = idle.shard;
  sound = idle.sound;
  follows = idle.follows;
  free = idle.free;
  member = subst (λ (m : Option ℕ). IsSome m) (sym has) refl;
}
