-- Preparing the next call, and calls of others, keep what is said of the machine. Entries go newest first.
use Rattle.std.proofs.Common.{◌≡◌, ℕ, ◌<◌, Option, Some, None, List, ◌∷◌, ◌++◌, refl, sym, ap, subst, ◌∙◌}
use Rattle.std.specs.Prelude.{IfSome, IsSome}
use Rattle.std.specs.Option.{option_map}
use Rattle.store_core.specs.declared.shards.ShardId.{ShardId}
use Rattle.store_core.specs.declared.entries.Entry.{Entry}
use Rattle.store_core.specs.Stores.{Stored}
use Rattle.store_core.specs.Ports.{Answered, OfOthers, answered}
use Rattle.store_core.specs.Newest.{mine_back}
use Rattle.state_core.specs.States.{ShardState}
use Rattle.update_core.specs.Limits.{most}
use Rattle.history_core.proofs.Gaining.{mine_gained, mine_others}
use Rattle.load_core.specs.declared.tryings.Trying.{Trying}
use Rattle.load_core.specs.Costing.{CostKept}
use Rattle.load_core.specs.Following.{FollowsTrying}
use Rattle.load_core.proofs.Following as following
use Rattle.load_core.proofs.Remaining.{prepared_cost}
use Rattle.machine_core.specs.Machines.{reply_there}
use Rattle.load_core.proofs.TryFacts.{prepares_is}
use Rattle.try_machine.specs.declared.tryers.Tryer.{Tryer}
use Rattle.try_machine.specs.Rules.{IsRule, Rules}
use Rattle.try_machine.specs.Tryers.{Follows, Prepares, kept, looked_asked}

module _ {R A : Type 0} (Q : Rules R A) (L : IsRule Q) where
  fixed_looked : (o : Option R) (newest : Option ShardState) → option_map Q.fixed (looked_asked Q o newest) ≡ option_map Q.fixed o
  fixed_looked None newest = refl
  fixed_looked (Some r) newest = ap (λ (f : Q.Fixed). Some f) (L.same r newest).0

  pub prepared_kept : (old new : Tryer R) → Prepares Q old new → kept Q new ≡ kept Q old
  prepared_kept old new (t, p, is) =
      let same = prepares_is old.trying t p in
      ap (kept Q) is ∙ (λ i. record {
        fixed = fixed_looked old.asked old.trying.loader.cached i;
        shard = (same i).loader.shard;
        step = (same i).step;
      })

  pub prepared_calls : (old new : Tryer R) → Prepares Q old new → new.trying.calls ≡ old.trying.calls
  prepared_calls old new (t, p, is) = ap (λ (m : Tryer R). m.trying.calls) is ∙ ap (λ (z : Trying). z.calls) (prepares_is old.trying t p)

  pub open_looked : (o : Option R) (newest : Option ShardState) → IsSome o → IsSome (looked_asked Q o newest)
  open_looked None newest h = h
  open_looked (Some r) newest h = refl

  knows_looked : (o : Option R) (newest : Option ShardState) (a b : ShardId) (own : List Answered) → b ≡ a →
      IfSome o (λ r. Q.Knows (Q.fixed r) a own) → IfSome (looked_asked Q o newest) (λ r. Q.Knows (Q.fixed r) b own)
  knows_looked None newest a b own e h = tt
  knows_looked (Some r) newest a b own e h = subst (λ (f : Q.Fixed). Q.Knows f b own) (sym (L.same r newest).0)
      (subst (λ (d : ShardId). Q.Knows (Q.fixed r) d own) (sym e) h)

  pub prepared_follows : (client : ℕ) (old new : Tryer R) (start : Stored) (es : List Entry) → Prepares Q old new →
      Follows Q client old start es → Follows Q client new start es
  prepared_follows client old new start es (t, p, is) f = subst (λ (m : Tryer R). Follows Q client m start es) (sym is) (record {
    trying = following.prepared_follows old.trying t (mine_back start es client) f.trying p;
    asked = knows_looked old.asked old.trying.loader.cached old.trying.loader.shard t.loader.shard (mine_back start es client)
        (ap (λ (z : Trying). z.loader.shard) (prepares_is old.trying t p)) f.asked;
  })

  pub prepared_costs : (base client : ℕ) (old new : Tryer R) (start : Stored) (es : List Entry) → Prepares Q old new →
      (old.trying.calls < most → CostKept base client old.trying start es) → new.trying.calls < most →
      CostKept base client new.trying start es
  prepared_costs base client old new start es (t, p, is) at =
      subst (λ (m : Tryer R). m.trying.calls < most → CostKept base client m.trying start es) (sym is)
      (λ lt. (prepared_cost base client old.trying t start es p
      (at (subst (λ (n : ℕ). n < most) (ap (λ (z : Trying). z.calls) (prepares_is old.trying t p)) lt))).0)

  pub others_follow : (client : ℕ) (m : Tryer R) (start : Stored) (others es : List Entry) → OfOthers client others →
      Follows Q client m start es → Follows Q client m start (others ++ es)
  others_follow client m start others es of f =
      let mine = mine_others start client others es of in
      record {
        trying = subst (λ (os : List Answered). FollowsTrying m.trying os) (sym mine) f.trying;
        asked = subst (λ (os : List Answered). IfSome m.asked (λ r. Q.Knows (Q.fixed r) m.trying.loader.shard os)) (sym mine) f.asked;
      }

  pub spared_follows : (client : ℕ) (m : Tryer R) (start : Stored) (e : Entry) (others es : List Entry) → e.client ≡ client →
      OfOthers client others → Follows Q client m start es → Follows Q client m start (e ∷ (others ++ es))
  spared_follows client m start e others es own of f =
      let o : Answered = answered e (reply_there start e others es) in
      let mine = mine_gained start client e others es own of in
      record {
        trying = subst (λ (os : List Answered). FollowsTrying m.trying os) (sym mine)
            (following.with_newest m.trying m.trying o (mine_back start es client) f.trying refl refl
            (following.shows_on o (mine_back start es client) m.trying.loader.shard m.trying.loader.cached f.trying.shown));
        asked = subst (λ (os : List Answered). IfSome m.asked (λ r. Q.Knows (Q.fixed r) m.trying.loader.shard os)) (sym mine)
            (on o m.asked f.asked);
      }
    where
      on : (o : Answered) (q : Option R) → IfSome q (λ r. Q.Knows (Q.fixed r) m.trying.loader.shard (mine_back start es client)) →
          IfSome q (λ r. Q.Knows (Q.fixed r) m.trying.loader.shard (o ∷ mine_back start es client))
      on o None h = tt
      on o (Some r) h = L.knows_on (Q.fixed r) m.trying.loader.shard o (mine_back start es client) h
