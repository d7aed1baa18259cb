-- Each client's open command keeps to its bound past entries of others.
use Rattle.std.proofs.Common.{◌≡◌, ℕ, ◌+◌, ◌<◌, ◌≤◌, Option, Some, None, List, ◌++◌, length, refl, sym, subst, arith}
use Rattle.std.specs.Prelude.{IfSome}
use Rattle.update_core.specs.declared.updates.Update.{Update}
use Rattle.store_core.specs.declared.entries.Entry.{Entry}
use Rattle.store_core.specs.Ports.{OfOthers}
use Rattle.store_core.specs.Stores.{Stored}
use Rattle.state_core.specs.declared.transitions.Transition.{Transition}
use Rattle.state_core.specs.declared.transitions.Transition.TheVariants.{Init}
use Rattle.history_core.specs.declared.asked.Asked.{Asked}
use Rattle.history_core.specs.declared.asked.Asked.TheVariants as asks
use Rattle.history_core.specs.Costs.{WithinReads, collect_base, merge_base, merge_parts}
use Rattle.history_core.proofs.Gaining.{failed_others}
use Rattle.load_core.specs.Trying as trying
use Rattle.machine_core.specs.Machines.{Words}
use Rattle.read_machine.proofs.Parts.{some_is}
use Rattle.write_client.specs.Machining as write
use Rattle.read_client.specs.declared.questions.Question.{Question}
use Rattle.read_client.specs.Machining as read
use Rattle.read_client.specs.Polling as reading
use Rattle.read_client.specs.Reading.{question}
use Rattle.merge_client.specs.declared.dues.Due.{Due}
use Rattle.merge_client.specs.declared.pairs.Pair.{Pair}
use Rattle.merge_client.specs.Following.{FollowsAsked, FollowsMerge}
use Rattle.merge_client.specs.Machining as merge
use Rattle.merge_client.specs.Merging.{IsGot}
use Rattle.merge_client.specs.Polling as merging
use Rattle.merge_client.proofs.Going.{Asks, asks_of, closes, merges, opens, renews}
use Rattle.merge_client.proofs.Moved.{is_there}
use Rattle.maint_client.specs.declared.sweeps.Sweep.{Sweep}
use Rattle.maint_client.specs.Collecting as collect
use Rattle.maint_client.specs.Expiring as expire
use Rattle.step_run.proofs.Past.{kept_past, read_past}

-- the calls made and those that remain stay within the bound
abbrev pub KeepsPast : {M A : Type 0} → Words M A → Type 0
KeepsPast W = (client : ℕ) (m : _) (start : Stored) (others es : List Entry) (list : List Update) → OfOthers client others → W.IsOpen m →
    W.IsSound m → W.Follows client m start es → W.CostAt W.least client m start es list → W.CostAt W.least client m start (others ++ es) list

pub writes_past : KeepsPast write.machine
writes_past client w start others es list of is_open sound follows cost = λ lt.
    kept_past start client (3 + w.storing.setting.place) w.storing.trying others es of (λ z. omega arith) (cost lt)

pub reads_past : KeepsPast read.machine
reads_past client r start others es list of is_open sound follows cost = λ lt. by (question r) (cost lt)
  where
    by : (q : Option Question) → reading.CostBy q 3 client r start es → reading.CostBy q 3 client r start (others ++ es)
    by None w = kept_past start client 3 r.trying others es of (λ z. omega arith) w
    by (Some q) w = read_past client r.reading.course r.reading.course.stage others es of w

pub expires_past : KeepsPast expire.machine
expires_past client t start others es list of is_open sound follows cost = λ lt.
    kept_past start client 3 t.trying others es of (λ z. omega arith) (cost lt)

pub collects_past : KeepsPast collect.collecting
collects_past client c start others es list of is_open sound follows cost = λ lt. by c.sweep (cost lt)
  where
    by : (s : Option Sweep) → collect.CostBy client c.calls s es → collect.CostBy client c.calls s (others ++ es)
    by None w = subst (λ (k : ℕ). c.calls ≤ k) (sym (failed_others client c.calls others es of)) w
    by (Some s) w =
        subst (λ (k : ℕ). WithinReads c.calls (collect.remaining s) (collect_base (length s.keys)) k) (sym (failed_others client c.calls others es of)) w

pub merges_past : KeepsPast merge.machine
merges_past client c start others es list of is_open sound follows cost = λ lt. by c.reading.asked refl c.pair refl (cost lt)
  where
    -- a pair that is got was read
    got_called : (p : Pair) → c.reading.asked ≡ None → c.pair ≡ Some p → 0 < c.storing.trying.calls
    got_called p none got =
        let g = subst (λ (o : Option Pair). IfSome o (λ x. merging_of x)) got (had c.pair sound.got) in
        called g none got
      where
        merging_of : Pair → Type 0
        merging_of x = (c.asked ≡ Some asks.Merge)

        had : (o : Option Pair) → IfSome o (IsGot c) → IfSome o (λ x. merging_of x)
        had None h = tt
        had (Some x) h = h.asked

        called : (c.asked ≡ Some asks.Merge) → c.reading.asked ≡ None → c.pair ≡ Some p → 0 < c.storing.trying.calls
        called asked none got =
            let (m, named, both) = some_is (λ m. (0 < c.token) × FollowsMerge client c start es m c.reading.asked c.pair) c.member
            (subst (FollowsAsked client c start es) asked follows.follows.asked) in
            let f = subst (λ (o : Option Pair). FollowsMerge client c start es m None o) got
            (subst (λ (o : Option Due). FollowsMerge client c start es m o c.pair) none both.1) in
            f.called

    base_of : Transition → ℕ
    base_of x = merging.base_of 3 x + c.storing.setting.place

    -- what is tried before a call isn't a merge
    three : c.reading.asked ≡ None → c.pair ≡ None → c.storing.trying.calls ≡ 0 → 3 ≤ base_of c.storing.trying.step
    three none undrafted begun =
        let (asked, busy) = is_there c.asked is_open in
        at asked (asks_of client c start es asked busy none undrafted follows.follows)
      where
        at : (asked : Asked) → Asks client c start es asked → 3 ≤ base_of c.storing.trying.step
        at asked (opens shard now lease is here_is t) = subst (λ (x : Transition). 3 ≤ base_of x) (sym t.step) (omega arith)
        at asked (renews now m is named t) = subst (λ (x : Transition). 3 ≤ base_of x) (sym t.step) (omega arith)
        at asked (closes m is named t) = subst (λ (x : Transition). 3 ≤ base_of x) (sym t.step) (omega arith)
        at asked (merges m is named pos h) = let some = h.called in absurd (omega (arith, some, begun))

    by : (q : Option Due) → c.reading.asked ≡ q → (p : Option Pair) → c.pair ≡ p → merging.CostBy q p 3 client c start es →
        merging.CostBy q p 3 client c start (others ++ es)
    by (Some q) lent p got w = read_past client c.reading.course c.reading.course.stage others es of w
    by None none (Some p) got w =
        let some = got_called p none got in
        kept_past start client (merge_base (merge_parts p.left p.right) 0) (trying.resumed c.storing.trying Init) others es of
        (λ z. absurd (omega (arith, some, z))) w
    by None none None undrafted w = kept_past start client (base_of c.storing.trying.step) c.storing.trying others es of (three none undrafted) w
