-- Where no call of a compactor's command failed and nobody else committed meanwhile, it has made few while it goes on.
use Rattle.std.proofs.Common.{◌≡◌, ◌+◌, ◌*◌, ◌<◌, ◌≤◌, ◌^◌, ℕ, Option, Some, None, List, [], ◌∷◌, ◌++◌, length}
use Rattle.std.proofs.Common.{refl, sym, ap, subst, arith}
use Rattle.std.specs.Prelude.{IfSome, IsSome, IsSomeAnd}
use Rattle.std.proofs.lemmas.List.Sums.{sum_by-cons}
use Rattle.store_core.specs.declared.shards.ShardId.{ShardId}
use Rattle.store_core.specs.declared.part_keys.PartKey.{PartKey}
use Rattle.store_core.specs.declared.entries.Entry.{Entry}
use Rattle.store_core.specs.Stores.{Stored}
use Rattle.store_core.specs.Ports.{Answered}
use Rattle.store_core.specs.Newest.{mine_back}
use Rattle.spine_core.specs.declared.batches.Batch.{Batch}
use Rattle.spine_core.specs.Spines.{rows_of}
use Rattle.state_core.specs.declared.kinds.Kind.TheVariants.{Keeper}
use Rattle.state_core.specs.States.{ShardState}
use Rattle.version_codec.proofs.Facts.{version_in_state}
use Rattle.state_core.specs.declared.transitions.Transition.{Transition}
use Rattle.state_core.specs.declared.transitions.Transition.TheVariants.{Init, Join, Leave, Renew}
use Rattle.update_core.specs.Updates.{moved}
use Rattle.history_core.specs.Costs.{Within, failed_calls, foreign_commits, merge_base, merge_parts}
use Rattle.history_core.specs.declared.asked.Asked.{Asked}
use Rattle.history_core.specs.declared.asked.Asked.TheVariants as asks
use Rattle.load_core.specs.declared.tryings.Trying.{Trying}
use Rattle.load_core.specs.Costing.{CostKept, log_after, remaining}
use Rattle.load_core.specs.Trying as trying
use Rattle.merge_core.proofs.Lengths.{length-cons, length-moved}
use Rattle.read_machine.proofs.Keeping.{few_calls as few_read}
use Rattle.read_machine.proofs.Parts.{few_keys, some_is}
use Rattle.merge_client.specs.declared.compactors.Compactor.{Compactor}
use Rattle.merge_client.specs.declared.dues.Due.{Due}
use Rattle.merge_client.specs.declared.pairs.Pair.{Pair}
use Rattle.merge_client.specs.Finding.{finding}
use Rattle.merge_client.specs.Following.{Follows, FollowsAsked, FollowsGot, FollowsMerge, FollowsRead, IsPairOf, Tries}
use Rattle.merge_client.specs.Merging as merging
use Rattle.merge_client.specs.Merging.{IsOpen, IsReady, MovesBy, Prepares, Wants, WantsBy, after_poll, call_by, call_of, given_back, pair_after}
use Rattle.merge_client.specs.Merging.{reading_on, shard_of, taken_back}
use Rattle.merge_client.specs.Polling.{CostBy, base_of}
use Rattle.merge_client.proofs.Asking.{is_question}
use Rattle.merge_client.proofs.DuePairs.{found_so}
use Rattle.merge_client.proofs.DueParts.{due_parts}
use Rattle.merge_client.proofs.Moved.{is_there}
use Rattle.merge_client.proofs.Going.{Asks, asks_of, closes, merges, opens, renews, step_of}

two_rows : (before behind : List Batch) (l r : Batch) → l.rows + r.rows ≤ rows_of (before ++ l ∷ r ∷ behind)
two_rows [] behind l r = omega (
  arith,
  sum_by-cons (λ (b : Batch). b.rows) l (r ∷ behind),
  sum_by-cons (λ (b : Batch). b.rows) r behind,
)
two_rows (b ∷ before) behind l r = omega (
  arith,
  two_rows before behind l r,
  sum_by-cons (λ (b : Batch). b.rows) b (before ++ l ∷ r ∷ behind),
)

-- a pair's parts, and its rows
few_of_pair : (client : ℕ) (c : Compactor) (own : List Answered) (m : ℕ) (p : Pair) (s : ShardState) →
    IsPairOf (shard_of c) m c.token own p s → (merge_parts p.left p.right ≤ 2 ^ 62) × (p.left.rows + p.right.rows ≤ 2 ^ 62)
few_of_pair client c own m p s h =
    let (b, x, shows, written) = h.shown in
    let rules = version_in_state (shard_of c) s.number b s x written in
    let some = due_parts s (p.left.parts ++ p.right.parts) rules h.keys in
    let found = found_so p s p.rows h.due in
    let many = ap (λ (ks : List PartKey). length ks) some.keys_are in
    let rows = ap rows_of found.stands.batches in (
      omega (arith, many, few_keys some.test s.batches rules.parts, rules.rows, rules.light),
      omega (arith, rows, two_rows found.stands.before found.stands.behind p.left p.right, rules.rows, rules.light),
    )

-- within a bound that nothing has moved
at_most : (made rem base foreign failed : ℕ) → Within made rem base foreign failed → failed ≡ 0 → foreign ≡ 0 → made ≤ base
at_most made rem base foreign failed h no_failure no_other =
    let k : made + rem ≤ base + 2 * (foreign + failed) = h in omega (arith, k, no_failure, no_other)

-- a change sets no part
of_change : (c : Compactor) (x : Transition) → base_of 3 x ≡ 3 → Tries c x →
    c.storing.trying.calls ≤ base_of 3 c.storing.trying.step + c.storing.setting.place →
    c.storing.setting.place ≤ length c.storing.setting.keys → c.storing.trying.calls < 9223372036854775808
of_change c x three t le within =
    let base_is : base_of 3 c.storing.trying.step ≡ base_of 3 x = ap (base_of 3) t.step in
    let none : length c.storing.setting.keys ≡ 0 = ap (λ (ks : List PartKey). length ks) t.no_keys in
    omega (arith, le, within, base_is, three, none)

-- where no call of a command failed and nobody else committed meanwhile, it has made few while it goes on
pub few : (client : ℕ) (c : Compactor) (start : Stored) (es : List Entry) → IsOpen c → merging.IsSound c → Follows client c start es →
    CostBy c.reading.asked c.pair 3 client c start es → failed_calls client c.storing.trying.calls es ≡ 0 →
    foreign_commits start (shard_of c) client c.storing.trying.calls es ≡ 0 → c.storing.trying.calls < 9223372036854775808
few client c start es is_open sound f at failed foreign = go c.reading.asked refl at
  where
    of_merge : c.asked ≡ Some asks.Merge → IsSomeAnd c.member (λ m. (0 < c.token) × FollowsMerge client c start es m c.reading.asked c.pair)
    of_merge is = subst (FollowsAsked client c start es) is f.asked

    low : (base : ℕ) (t : Trying) → t.calls ≡ c.storing.trying.calls → t.loader.shard ≡ shard_of c → CostKept base client t start es →
        c.storing.trying.calls ≤ base
    low base t calls_are shard h =
        let k : Within t.calls (remaining (log_after t start es) t.step t.loader.cached t.next) base
        (foreign_commits start t.loader.shard client t.calls es) (failed_calls client t.calls es) = h in
        let le = at_most t.calls (remaining (log_after t start es) t.step t.loader.cached t.next) base
        (foreign_commits start t.loader.shard client t.calls es) (failed_calls client t.calls es) k
        (subst (λ (n : ℕ). failed_calls client n es ≡ 0) (sym calls_are) failed)
        (subst (λ (d : ShardId). foreign_commits start d client t.calls es ≡ 0) (sym shard)
        (subst (λ (n : ℕ). foreign_commits start (shard_of c) client n es ≡ 0) (sym calls_are) foreign)) in
        omega (arith, le, calls_are)

    by_asked : (none : c.reading.asked ≡ None) (undrafted : c.pair ≡ None) (asked : Asked) →
        CostKept (base_of 3 c.storing.trying.step + c.storing.setting.place) client c.storing.trying start es →
        Asks client c start es asked → c.storing.trying.calls < 9223372036854775808
    by_asked none undrafted asked cost (opens shard now lease is here_is t) = of_change c (Join Keeper now lease) refl t
        (low (base_of 3 c.storing.trying.step + c.storing.setting.place) c.storing.trying refl refl cost) sound.storing.setting.within
    by_asked none undrafted asked cost (renews now m is named t) = of_change c (Renew m now) refl t
        (low (base_of 3 c.storing.trying.step + c.storing.setting.place) c.storing.trying refl refl cost) sound.storing.setting.within
    by_asked none undrafted asked cost (closes m is named t) = of_change c (Leave m) refl t
        (low (base_of 3 c.storing.trying.step + c.storing.setting.place) c.storing.trying refl refl cost) sound.storing.setting.within
    by_asked none undrafted asked cost (merges m is named pos h) =
        let step = step_of client c start es m named h in
        let le = low (base_of 3 c.storing.trying.step + c.storing.setting.place) c.storing.trying refl refl cost in
        let base_is : base_of 3 c.storing.trying.step ≡ merge_base (merge_parts h.of_pair.left h.of_pair.right) 0 = ap (base_of 3) step.1 in
        let small = few_of_pair client c (mine_back start es client) m h.of_pair h.state h.pair in
        let keys_are : length c.storing.setting.keys ≡ length h.draft.setting.keys = ap (λ (ks : List PartKey). length ks) h.keys in
        let merged = length-cons (moved h.of_pair.rows h.of_pair.since) in
        let same_many = length-moved h.of_pair.rows h.of_pair.since in
        omega (
          arith,
          le,
          base_is,
          small.0,
          small.1,
          keys_are,
          merged,
          same_many,
          h.pair.few,
          h.is_draft.count.0,
          h.is_draft.count.1,
          sound.storing.setting.within,
        )

    at_pair : c.reading.asked ≡ None → (o : Option Pair) → c.pair ≡ o → CostBy None o 3 client c start es →
        c.storing.trying.calls < 9223372036854775808
    at_pair none (Some p) is cost =
        let got = (let h = sound.got in subst (λ (o : Option Pair). IfSome o (merging.IsGot c)) is h) in
        let (m, named, both) = some_is (λ m. (0 < c.token) × FollowsMerge client c start es m c.reading.asked c.pair) c.member
        (of_merge got.asked) in
        let g : FollowsGot client c start es m p = subst (λ (o : Option Pair). FollowsMerge client c start es m None o) is
        (subst (λ (o : Option Due). FollowsMerge client c start es m o c.pair) none both.1) in
        let small = few_of_pair client c (mine_back start es client) m p g.state g.pair in
        let le = low (merge_base (merge_parts p.left p.right) 0) (trying.resumed c.storing.trying Init) refl refl cost in
        omega (arith, le, small.0)
    at_pair none None is cost =
        let (asked, busy) = is_there c.asked is_open in
        by_asked none is asked cost (asks_of client c start es asked busy none is f)

    go : (o : Option Due) → c.reading.asked ≡ o → CostBy o c.pair 3 client c start es → c.storing.trying.calls < 9223372036854775808
    go None none cost = at_pair none c.pair refl cost
    go (Some q) some cost =
        let lent = (let h = sound.lent in subst (λ (o : Option Due). IfSome o (λ x. merging.IsLent c)) some h) in
        let (m, named, both) = some_is (λ m. (0 < c.token) × FollowsMerge client c start es m c.reading.asked c.pair) c.member
        (of_merge lent.asked) in
        let g : FollowsRead client c start es m = subst (λ (o : Option Due). FollowsMerge client c start es m o c.pair) some both.1 in
        let n = few_read finding is_question client c.reading start es (subst (λ (o : Option Due). IsSome o) (sym some) refl) sound.reading
        g.reading cost (subst (λ (k : ℕ). failed_calls client k es ≡ 0) (sym g.calls) failed) in
        omega (arith, n, g.calls)
