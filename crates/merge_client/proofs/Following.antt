-- What a compactor follows by goes on where nothing of it changes but what comes next. Entries go newest first.
use Rattle.std.proofs.Common.{◌≡◌, ℕ, ◌<◌, Option, Some, None, List, ◌∷◌, ◌++◌, inl, inr, refl, sym, subst, ◌∙◌}
use Rattle.std.specs.Prelude.{IfSome, IsSome, IsSomeAnd}
use Rattle.std.specs.List.{AllByRecursion}
use Rattle.store_core.specs.declared.shards.ShardId.{ShardId}
use Rattle.store_core.specs.declared.entries.Entry.{Entry}
use Rattle.store_core.specs.Histories.{reply}
use Rattle.store_core.specs.Stores.{Stored}
use Rattle.store_core.specs.Ports.{Answered, OfOthers, answered}
use Rattle.store_core.specs.Newest.{mine_back, replay_back}
use Rattle.state_core.specs.declared.kinds.Kind.TheVariants.{Keeper}
use Rattle.state_core.specs.declared.transitions.Transition.{Transition}
use Rattle.state_core.specs.declared.transitions.Transition.TheVariants.{Join, Leave, Renew}
use Rattle.state_core.specs.Lists.{Among}
use Rattle.state_core.specs.States.{ShardState}
use Rattle.history_core.specs.declared.asked.Asked.{Asked}
use Rattle.history_core.specs.declared.asked.Asked.TheVariants as asks
use Rattle.history_core.specs.Discipline.{GotAs}
use Rattle.history_core.specs.Placing.{Placed}
use Rattle.history_core.specs.Upkeep.{TriesMerge}
use Rattle.history_core.proofs.Gaining.{mine_gained, mine_others, places_others}
use Rattle.load_core.specs.declared.nexts.Next.{Next}
use Rattle.load_core.specs.declared.nexts.Next.TheVariants as nexts
use Rattle.load_core.specs.Following.{FollowsTrying}
use Rattle.load_core.proofs.Following.{hold_on, shows_on, with_newest}
use Rattle.read_machine.specs.Following.{IsRead}
use Rattle.token_machine.specs.Following.{Draws, UsesToken}
use Rattle.token_machine.proofs.Following.{storing_past}
use Rattle.merge_client.specs.declared.compactors.Compactor.{Compactor}
use Rattle.merge_client.specs.declared.dues.Due.{Due}
use Rattle.merge_client.specs.declared.pairs.Pair.{Pair}
use Rattle.merge_client.specs.Following.{Follows, FollowsAsked, FollowsMerge, IsPairOf}
use Rattle.merge_client.specs.Following.{OnlyReads, Spares, Tries, WasTried}
use Rattle.merge_client.specs.Merging.{shard_of}
use Rattle.merge_client.proofs.Asking.{read_keeps}

pub some_map : (o : Option ℕ) (P Q : ℕ → Type 0) → ((m : ℕ) → P m → Q m) → IsSomeAnd o P → IsSomeAnd o Q
some_map None P Q f h = absurd h
some_map (Some m) P Q f h = f m h

pub if_map : (o : Option ℕ) (P Q : ℕ → Type 0) → ((m : ℕ) → P m → Q m) → IfSome o P → IfSome o Q
if_map None P Q f h = tt
if_map (Some m) P Q f h = f m h

-- what stays of a compactor where its command goes on
pub record Alike (c v : Compactor) : Type 0 where
  pub shard : shard_of v ≡ shard_of c
  pub step : v.storing.trying.step ≡ c.storing.trying.step
  pub keys : v.storing.setting.keys ≡ c.storing.setting.keys
  pub member : v.member ≡ c.member
  pub token : v.token ≡ c.token
  pub undrafted : c.pair ≡ None → v.pair ≡ None

pub tries_on : (c v : Compactor) (x : Transition) → Alike c v → Tries c x → Tries v x
tries_on c v x a h = record {
  step = a.step ∙ h.step;
  no_keys = a.keys ∙ h.no_keys;
  undrafted = a.undrafted h.undrafted;
}

-- what is asked goes on, where that of a merge does
pub asked_on : (client : ℕ) (c v : Compactor) (start : Stored) (es es2 : List Entry) → Alike c v → (o : Option Asked) →
    (o ≡ Some asks.Merge → (m : ℕ) → 0 < c.token → FollowsMerge client c start es m c.reading.asked c.pair →
    FollowsMerge client v start es2 m v.reading.asked v.pair) →
    FollowsAsked client c start es o → FollowsAsked client v start es2 o
asked_on client c v start es es2 a None f h = a.undrafted h
asked_on client c v start es es2 a (Some (asks.OpenCompactor shard now lease)) f h =
    (h.0 ∙ sym a.shard, tries_on c v (Join Keeper now lease) a h.1)
asked_on client c v start es es2 a (Some asks.Merge) f h =
    subst (λ (o : Option ℕ). IsSomeAnd o (λ m. (0 < v.token) × FollowsMerge client v start es2 m v.reading.asked v.pair))
    (sym a.member)
    (some_map c.member (λ m. (0 < c.token) × FollowsMerge client c start es m c.reading.asked c.pair)
    (λ m. (0 < v.token) × FollowsMerge client v start es2 m v.reading.asked v.pair)
    (λ m g. (subst (λ (n : ℕ). 0 < n) (sym a.token) g.0, f refl m g.0 g.1)) h)
asked_on client c v start es es2 a (Some (asks.RenewCompactor now)) f h =
    subst (λ (o : Option ℕ). IsSomeAnd o (λ m. Tries v (Renew m now))) (sym a.member)
    (some_map c.member (λ m. Tries c (Renew m now)) (λ m. Tries v (Renew m now)) (λ m. tries_on c v (Renew m now) a) h)
asked_on client c v start es es2 a (Some asks.CloseCompactor) f h =
    subst (λ (o : Option ℕ). IsSomeAnd o (λ m. Tries v (Leave m))) (sym a.member)
    (some_map c.member (λ m. Tries c (Leave m)) (λ m. Tries v (Leave m)) (λ m. tries_on c v (Leave m) a) h)
asked_on client c v start es es2 a (Some other) f h = absurd h

-- ---- a pair

-- with more own entries
pub pair_more : (shard : ShardId) (member token : ℕ) (o : Answered) (own : List Answered) (p : Pair) (s : ShardState) →
    IsPairOf shard member token own p s → IsPairOf shard member token (o ∷ own) p s
pair_more shard member token o own p s h = record {
  shown = (h.shown.0, h.shown.1, inr h.shown.2, h.shown.3);
  due = h.due;
  keys = h.keys;
  got = hold_on (GotAs own) (GotAs (o ∷ own)) (λ k b a. inr a) (p.left.parts ++ p.right.parts) p.rows h.got;
  few = h.few;
  found = h.found;
  found_is = h.found_is;
  kind = h.kind;
  lower = h.lower;
}

-- ---- past entries of others

module _ (client : ℕ) (start : Stored) (others es : List Entry) (of : OfOthers client others) where
  mine : mine_back start (others ++ es) client ≡ mine_back start es client
  mine = mine_others start client others es of

  of_mine : (P : List Answered → Type 0) → P (mine_back start es client) → P (mine_back start (others ++ es) client)
  of_mine P h = subst P (sym mine) h

  so_far : (c : Compactor) (m : ℕ) → OnlyReads client m c start es → OnlyReads client m c start (others ++ es)
  so_far c m h = record {
    reads = λ lt. subst (λ (ps : List Placed). AllByRecursion (λ p. IsRead p.entry.call) ps)
        (sym (places_others client c.storing.trying.calls others es of)) (h.reads lt);
    fresh = of_mine (λ os. ¬ Among (λ o. UsesToken (shard_of c) m c.token o.entry.call) os) h.fresh;
  }

  tried : (c : Compactor) (m : ℕ) (p : Pair) (s : ShardState) (next : Next) → WasTried client c es m p s next →
      WasTried client c (others ++ es) m p s next
  tried c m p s nexts.Attempt h = absurd h
  tried c m p s nexts.Scan (inl h) = inl (λ lt. subst (λ (ps : List Placed). Among (λ q. TriesMerge (shard_of c) m c.token p.left p.right
      q.entry.call) ps) (sym (places_others client c.storing.trying.calls others es of)) (h lt))
  tried c m p s nexts.Scan (inr h) = inr h
  tried c m p s (nexts.Cas r) h = tt

  merge_on : (c : Compactor) (m : ℕ) (q : Option Due) (p : Option Pair) → FollowsMerge client c start es m q p →
      FollowsMerge client c start (others ++ es) m q p
  merge_on c m (Some q) p h = record {
    reading = read_keeps.others_follow client c.reading start others es of h.reading;
    member_is = h.member_is;
    calls = h.calls;
    so_far = so_far c m h.so_far;
  }
  merge_on c m None (Some p) h = record {
    state = h.state;
    known = h.known;
    pair = of_mine (λ os. IsPairOf (shard_of c) m c.token os p h.state) h.pair;
    called = h.called;
    so_far = so_far c m h.so_far;
  }
  merge_on c m None None h = record {
    state = h.state;
    of_pair = h.of_pair;
    draft = h.draft;
    pair = of_mine (λ os. IsPairOf (shard_of c) m c.token os h.of_pair h.state) h.pair;
    is_draft = h.is_draft;
    step = h.step;
    keys = h.keys;
    parts = h.parts;
    called = h.called;
    storing = storing_past client m c.token c.storing start others es of h.storing;
    tried = tried c m h.of_pair h.state c.storing.trying.next h.tried;
  }

  pub follows_past : (c : Compactor) → Follows client c start es → Follows client c start (others ++ es)
  follows_past c f = record {
    trying = of_mine (λ os. FollowsTrying c.storing.trying os) f.trying;
    member = of_mine (λ os. IfSome c.member (λ m. Draws Keeper (shard_of c) m c.token os)) f.member;
    asked = asked_on client c c start es (others ++ es) (record {
      shard = refl;
      step = refl;
      keys = refl;
      member = refl;
      token = refl;
      undrafted = λ z. z;
    }) c.asked (λ is m some h. merge_on c m c.reading.asked c.pair h) f.asked;
  }

-- ---- past an entry of another machine of the same client

not_open : (o : Option Asked) → ¬ IsSome o → o ≡ None
not_open None closed = refl
not_open (Some a) closed = absurd (closed refl)

pub follows_spared : (client : ℕ) (c : Compactor) (start : Stored) (e : Entry) (others es : List Entry) → ¬ IsSome c.asked →
    Spares c e.call → e.client ≡ client → OfOthers client others → Follows client c start es →
    Follows client c start (e ∷ (others ++ es))
follows_spared client c start e others es closed spares own of f = record {
  trying = subst (λ (os : List Answered). FollowsTrying c.storing.trying os) (sym gained)
      (with_newest c.storing.trying c.storing.trying This (mine_back start es client) f.trying refl refl
      (shows_on This (mine_back start es client) (shard_of c) c.storing.trying.loader.cached f.trying.shown));
  member = subst (λ (os : List Answered). IfSome c.member (λ m. Draws Keeper (shard_of c) m c.token os)) (sym gained)
      (go c.member spares f.member);
  asked = subst (FollowsAsked client c start (e ∷ (others ++ es))) (sym (not_open c.asked closed))
      (subst (FollowsAsked client c start es) (not_open c.asked closed) f.asked);
}
  where
    This : Answered
    This = answered e (reply (replay_back start (others ++ es)) e)

    gained : mine_back start (e ∷ (others ++ es)) client ≡ This ∷ mine_back start es client
    gained = mine_gained start client e others es own of

    go : (o : Option ℕ) → IfSome o (λ m. (token : ℕ) → c.token < token → ¬ UsesToken (shard_of c) m token e.call) →
        IfSome o (λ m. Draws Keeper (shard_of c) m c.token (mine_back start es client)) →
        IfSome o (λ m. Draws Keeper (shard_of c) m c.token (This ∷ mine_back start es client))
    go None s h = tt
    go (Some m) s h = record {
      joined = inr h.joined;
      drawn = λ later lt k. elim k [ inl here ↦ s later lt here | inr there ↦ h.drawn later lt there ];
    }
