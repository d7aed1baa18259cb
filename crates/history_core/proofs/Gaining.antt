-- What one more entry of a client adds, after entries of others. Entries go newest first.
use Rattle.std.proofs.Common.{◌≡◌, ◌≢◌, ℕ, zero, suc, ◌+◌, true, false, cond, List, [], ◌∷◌, ◌++◌, refl, arith, subst, sym, ap, ◌∙◌, eqb}
use Rattle.std.specs.Prelude.{reverse}
use Rattle.std.proofs.lemmas.Bool.{eq-eqb, ne_eqb}
use Rattle.store_core.specs.declared.shards.ShardId.{ShardId}
use Rattle.store_core.specs.declared.calls.Call.{Call}
use Rattle.store_core.specs.declared.replies.Reply.{Reply}
use Rattle.store_core.specs.declared.entries.Entry.{Entry}
use Rattle.store_core.specs.Stores.{Stored}
use Rattle.store_core.specs.Histories.{History, entry_of, reply, faults_of}
use Rattle.store_core.specs.Ports.{answered, Gains, OfOthers, with_entries}
use Rattle.store_core.specs.Newest.{replay_back, mine_back}
use Rattle.store_core.proofs.NewestLaws.{newest-first, oldest-last, replay-newest}
use Rattle.state_core.proofs.ListLemmas.{each_append}
use Rattle.history_core.specs.Placing.{placed, places}
use Rattle.history_core.specs.Costs.{commits_on, failed_calls, foreign_commits, commits_among}
use Rattle.history_core.proofs.LawfulLaws.{turned}

not_mine : (client : ℕ) (e : Entry) → e.client ≢ client → eqb e.client client ≡ false
not_mine client e ne = ne_eqb e.client client ne

is_mine : (client : ℕ) (e : Entry) → e.client ≡ client → eqb e.client client ≡ true
is_mine client e eq = eq-eqb e.client client eq

-- ---- a client's own entries

pub mine_others : (start : Stored) (client : ℕ) (others es : List Entry) → OfOthers client others → mine_back start (others ++ es) client ≡ mine_back start es client
mine_others start client [] es o = refl
mine_others start client (e ∷ others) es o = rw (not_mine client e o.0) (mine_others start client others es o.1)

pub mine_gained : (start : Stored) (client : ℕ) (e : Entry) (others es : List Entry) → e.client ≡ client → OfOthers client others →
    mine_back start (e ∷ (others ++ es)) client ≡ answered e (reply (replay_back start (others ++ es)) e) ∷ mine_back start es client
mine_gained start client e others es eq o =
    rw (is_mine client e eq) (ap (λ own. answered e (reply (replay_back start (others ++ es)) e) ∷ own) (mine_others start client others es o))

-- ---- the entries of its command

pub places_others : (client n : ℕ) (others es : List Entry) → OfOthers client others → places client n (others ++ es) ≡ places client n es
places_others client zero others es o = refl
places_others client (suc n) [] es o = refl
places_others client (suc n) (e ∷ others) es o = rw (not_mine client e o.0) (places_others client (suc n) others es o.1)

pub places_gained : (client n : ℕ) (e : Entry) (others es : List Entry) → e.client ≡ client → OfOthers client others →
    places client (suc n) (e ∷ (others ++ es)) ≡ placed e (others ++ es) ∷ places client n es
places_gained client n e others es eq o = rw (is_mine client e eq) (ap (λ ps. placed e (others ++ es) ∷ ps) (places_others client n others es o))

-- ---- its failed calls, and the commits of others

pub failed_others : (client n : ℕ) (others es : List Entry) → OfOthers client others → failed_calls client n (others ++ es) ≡ failed_calls client n es
failed_others client zero others es o = refl
failed_others client (suc n) [] es o = refl
failed_others client (suc n) (e ∷ others) es o = rw (not_mine client e o.0) (failed_others client (suc n) others es o.1)

pub failed_gained : (client n : ℕ) (e : Entry) (others es : List Entry) → e.client ≡ client → OfOthers client others →
    failed_calls client (suc n) (e ∷ (others ++ es)) ≡ faults_of e.outcome + failed_calls client n es
failed_gained client n e others es eq o = rw (is_mine client e eq) (ap (λ j. faults_of e.outcome + j) (failed_others client n others es o))

pub foreign_others : (start : Stored) (shard : ShardId) (client n : ℕ) (others es : List Entry) → OfOthers client others →
    foreign_commits start shard client (suc n) (others ++ es) ≡ commits_among start shard others es + foreign_commits start shard client (suc n) es
foreign_others start shard client n [] es o = sym (nothing_more (foreign_commits start shard client (suc n) es))
  where
    nothing_more : (j : ℕ) → 0 + j ≡ j
    nothing_more j = omega arith
foreign_others start shard client n (e ∷ others) es o =
    rw (not_mine client e o.0)
    (ap (λ j. cond (commits_on shard (replay_back start (others ++ es)) e.call e.outcome) 1 0 + j) (foreign_others start shard client n others es o.1)
    ∙ joined (cond (commits_on shard (replay_back start (others ++ es)) e.call e.outcome) 1 0) (commits_among start shard others es) (foreign_commits start shard client (suc n) es))
  where
    joined : (a b c : ℕ) → a + (b + c) ≡ a + b + c
    joined a b c = omega arith

-- the first call of a command has none of others before it
pub foreign_first : (start : Stored) (shard : ShardId) (client : ℕ) (e : Entry) (others es : List Entry) → e.client ≡ client → foreign_commits start shard client 1 (e ∷ (others ++ es)) ≡ 0
foreign_first start shard client e others es eq = rw (is_mine client e eq) refl

-- a later call adds those of others since the call before
pub foreign_gained : (start : Stored) (shard : ShardId) (client n : ℕ) (e : Entry) (others es : List Entry) → e.client ≡ client → OfOthers client others →
    foreign_commits start shard client (suc (suc n)) (e ∷ (others ++ es)) ≡ commits_among start shard others es + foreign_commits start shard client (suc n) es
foreign_gained start shard client n e others es eq o = rw (is_mine client e eq) (foreign_others start shard client n others es o)

-- ---- a port's front after a reply

-- the entry that a reply adds, and the entries of others before it, newest first
pub record GainsBack (client : ℕ) (h k : History) (call : Call) (r : Reply) : Type 0 where
  pub entry : Entry
  pub others : List Entry
  pub own : entry.client ≡ client
  pub call_is : entry.call ≡ call
  pub of_others : OfOthers client others
  pub start_is : k.start ≡ h.start
  pub trail_is : reverse k.trail ≡ entry ∷ (others ++ reverse h.trail)
  pub reply_is : r ≡ reply (replay_back h.start (others ++ reverse h.trail)) entry

others_back : (client : ℕ) (es : List Entry) → OfOthers client es → OfOthers client (reverse es)
others_back client [] o = tt
others_back client (e ∷ es) o =
    subst (OfOthers client) (sym (oldest-last e es)) (each_append (λ w. w.client ≢ client) (reverse es) (e ∷ []) (others_back client es o.1) (o.0, tt))

pub gains_back : (client : ℕ) (h k : History) (call : Call) (r : Reply) → Gains client h k call r → GainsBack client h k call r
gains_back client h k call r g =
    let e = entry_of client call g.outcome in
    let before = with_entries h g.others in
    record {
      entry = e;
      others = reverse g.others;
      own = refl;
      call_is = refl;
      of_others = others_back client g.others g.of_others;
      start_is = ap (λ (q : History). q.start) g.new_is;
      trail_is = ap (λ (q : History). reverse q.trail) g.new_is ∙ newest-first before.trail e ∙ ap (λ es. e ∷ es) (turned h g.others);
      reply_is = g.reply_is ∙ ap (λ (s : Stored). reply s e) (replay-newest h.start before.trail ∙ ap (replay_back h.start) (turned h g.others));
    }
