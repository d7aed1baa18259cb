-- A compactor follows from its client's own entries where it begins a command. Entries go newest first.
use Rattle.std.proofs.Common.{◌≡◌, ℕ, ◌+◌, ◌<◌, Option, Some, None, List, refl, sym, ap, subst, arith}
use Rattle.std.specs.Prelude.{IfSome, IsSomeAnd}
use Rattle.store_core.specs.declared.entries.Entry.{Entry}
use Rattle.store_core.specs.declared.shards.ShardId.{ShardId}
use Rattle.store_core.specs.Histories.{History}
use Rattle.store_core.specs.Stores.{Stored}
use Rattle.store_core.specs.Ports.{Answered, GrowsByOthers}
use Rattle.store_core.specs.Newest.{mine_back}
use Rattle.state_core.specs.declared.kinds.Kind.TheVariants.{Keeper}
use Rattle.state_core.specs.declared.transitions.Transition.{Transition}
use Rattle.state_core.specs.declared.transitions.Transition.TheVariants.{Init, Leave, Renew}
use Rattle.state_core.specs.Steps.{acts_for}
use Rattle.history_core.specs.declared.asked.Asked.{Asked}
use Rattle.history_core.specs.declared.asked.Asked.TheVariants as asks
use Rattle.history_core.specs.Discipline.{OwnsSome}
use Rattle.load_core.specs.Fronts.{Backwards, WhereLawful}
use Rattle.machine_core.proofs.Fronts.{everywhere, past_others, there_too}
use Rattle.read_machine.specs.Courses as courses
use Rattle.token_machine.specs.Following.{Draws}
use Rattle.token_machine.specs.Storings.{begun, no_parts}
use Rattle.token_machine.proofs.Members.{joined_owns}
use Rattle.merge_client.specs.declared.compactors.Compactor.{Compactor}
use Rattle.merge_client.specs.Beginning.{Changing, Merging}
use Rattle.merge_client.specs.Following.{Counts, Follows, FollowsAll, FollowsAsked, FollowsMerge, FollowsWhere, Tries}
use Rattle.merge_client.specs.Merging.{opened, shard_of, unknown}
use Rattle.merge_client.proofs.Counts.{counts_past}
use Rattle.merge_client.proofs.Following.{follows_past}

opened_on : (client : ℕ) (shard : ShardId) (now lease : ℕ) (start : Stored) (es : List Entry) →
    Follows client (opened shard now lease) start es
opened_on client shard now lease start es = record {
  trying = record { shown = tt; owned = tt };
  member = tt;
  asked = (refl, record { step = refl; no_keys = refl; undrafted = refl });
}

draws_of : (client : ℕ) (c : Compactor) (start : Stored) (es : List Entry) (m : ℕ) → c.member ≡ Some m → Follows client c start es →
    Draws Keeper (shard_of c) m c.token (mine_back start es client)
draws_of client c start es m is f =
    let h = f.member in
    subst (λ (o : Option ℕ). IfSome o (λ n. Draws Keeper (shard_of c) n c.token (mine_back start es client))) is h

-- with its merge begun
abbrev begun_of : Compactor → ℕ → Compactor
begun_of old m = record old {
  asked = Some asks.Merge;
  token = old.token + 1;
  storing = begun (unknown (shard_of old)) Init no_parts;
  reading = record {
    course = courses.begun old.reading.course.getting old.storing.trying.loader m;
    asked = Some (record {});
  };
}

merging_on : (client : ℕ) (old new : Compactor) (start : Stored) (es : List Entry) → Merging old new → Follows client old start es →
    Follows client new start es
merging_on client old new start es (m, named, is) f = subst (λ (c : Compactor). Follows client c start es) (sym is) (record {
  trying = record { shown = tt; owned = tt };
  member = more old.member f.member;
  asked = subst (λ (o : Option ℕ). IsSomeAnd o (λ n. (0 < old.token + 1) × FollowsMerge client (begun_of old m) start es n
      (begun_of old m).reading.asked old.pair)) (sym named) (
        omega arith,
        record {
          reading = record { shown = f.trying.shown; asked = record { member = draws.joined; reading = tt } };
          member_is = refl;
          calls = refl;
          so_far = record { reads = λ lt. tt; fresh = draws.drawn (old.token + 1) (omega arith) };
        },
      );
})
  where
    own : List Answered
    own = mine_back start es client

    draws : Draws Keeper (shard_of old) m old.token own
    draws = draws_of client old start es m named f

    more : (o : Option ℕ) → IfSome o (λ n. Draws Keeper (shard_of old) n old.token own) →
        IfSome o (λ n. Draws Keeper (shard_of old) n (old.token + 1) own)
    more None h = tt
    more (Some n) h = record { joined = h.joined; drawn = λ later lt. h.drawn later (omega (arith, lt)) }

changing_on : (client : ℕ) (old new : Compactor) (asked : Asked) (step : ℕ → Transition) (start : Stored) (es : List Entry) →
    old.asked ≡ None → ((m : ℕ) → acts_for (step m) ≡ Some m) →
    ((c : Compactor) (m : ℕ) → c.member ≡ Some m → c.storing.trying.step ≡ step m → c.storing.setting.keys ≡ no_parts.keys →
    c.pair ≡ None → FollowsAsked client c start es (Some asked)) →
    Changing old asked step new → Follows client old start es → Follows client new start es
changing_on client old new asked step start es idle acts told (m, named, is) f =
    subst (λ (c : Compactor). Follows client c start es) (sym is) (record {
      trying = record {
        shown = f.trying.shown;
        owned = subst (OwnsSome (mine_back start es client) (shard_of old)) (sym (acts m))
            (joined_owns Keeper (mine_back start es client) (shard_of old) m (draws_of client old start es m named f).joined);
      };
      member = f.member;
      asked = told (record old { asked = Some asked; storing = begun old.storing.trying.loader (step m) no_parts }) m named refl refl
          (subst (FollowsAsked client old start es) idle f.asked);
    })

-- ---- over fronts

pub opened_where : (client : ℕ) (front : Option History) (shard : ShardId) (now lease : ℕ) →
    FollowsWhere client front (opened shard now lease)
opened_where client front shard now lease = everywhere shard front (λ start es list. FollowsAll client (opened shard now lease) start es)
    (λ start es list. record { follows = opened_on client shard now lease start es; counts = tt })

with_shard : (client : ℕ) (front : Option History) (old new : Compactor) → shard_of new ≡ shard_of old →
    ((start : Stored) (es : List Entry) → FollowsAll client old start es → FollowsAll client new start es) →
    FollowsWhere client front old → FollowsWhere client front new
with_shard client front old new same h f =
    subst (λ (d : ShardId). WhereLawful d front (Backwards (λ start es list. FollowsAll client new start es))) (sym same)
    (there_too (shard_of old) front (λ start es list. FollowsAll client old start es) (λ start es list. FollowsAll client new start es)
    (λ start es list. h start es) f)

-- nothing is got yet
merging_counts : (own : List Answered) (old new : Compactor) → Merging old new → Counts own new
merging_counts own old new (m, named, is) = subst (Counts own) (sym is) tt

pub merging_where : (client : ℕ) (front : Option History) (old new : Compactor) → Merging old new →
    FollowsWhere client front old → FollowsWhere client front new
merging_where client front old new b = with_shard client front old new (ap (λ (c : Compactor). shard_of c) b.2)
    (λ start es f. record {
      follows = merging_on client old new start es b f.follows;
      counts = merging_counts (mine_back start es client) old new b;
    })

changing_counts : (own : List Answered) (old new : Compactor) (asked : Asked) (step : ℕ → Transition) → Changing old asked step new →
    Counts own old → Counts own new
changing_counts own old new asked step (m, named, is) h = subst (Counts own) (sym is) h

pub renewing_where : (client now : ℕ) (front : Option History) (old new : Compactor) → old.asked ≡ None →
    Changing old (asks.RenewCompactor now) (λ member. Renew member now) new → FollowsWhere client front old →
    FollowsWhere client front new
renewing_where client now front old new idle b = with_shard client front old new (ap (λ (c : Compactor). shard_of c) b.2)
    (λ start es f. record {
      follows = changing_on client old new (asks.RenewCompactor now) (λ m. Renew m now) start es idle (λ m. refl)
          (λ c m named step keys pair. subst (λ (o : Option ℕ). IsSomeAnd o (λ n. Tries c (Renew n now))) (sym named)
          (record { step = step; no_keys = keys; undrafted = pair })) b f.follows;
      counts = changing_counts (mine_back start es client) old new (asks.RenewCompactor now) (λ m. Renew m now) b f.counts;
    })

pub closing_where : (client : ℕ) (front : Option History) (old new : Compactor) → old.asked ≡ None →
    Changing old asks.CloseCompactor (λ member. Leave member) new → FollowsWhere client front old → FollowsWhere client front new
closing_where client front old new idle b = with_shard client front old new (ap (λ (c : Compactor). shard_of c) b.2)
    (λ start es f. record {
      follows = changing_on client old new asks.CloseCompactor (λ m. Leave m) start es idle (λ m. refl)
          (λ c m named step keys pair. subst (λ (o : Option ℕ). IsSomeAnd o (λ n. Tries c (Leave n))) (sym named)
          (record { step = step; no_keys = keys; undrafted = pair })) b f.follows;
      counts = changing_counts (mine_back start es client) old new asks.CloseCompactor (λ m. Leave m) b f.counts;
    })

pub others_where : (client : ℕ) (front now : Option History) (c : Compactor) → FollowsWhere client front c →
    GrowsByOthers client front now → FollowsWhere client now c
others_where client front now c = past_others (shard_of c) client front now (λ start es list. FollowsAll client c start es)
    (λ start others es list of f. record {
      follows = follows_past client start others es of c f.follows;
      counts = counts_past client start others es of c f.counts;
    })
