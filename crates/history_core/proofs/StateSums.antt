-- What the batches of a state hold: the sums and the slices of the list.
use Rattle.std.proofs.Common.{◌≡◌, ℕ, ℤ, pos, ◌+ℤ◌, ◌≤◌, ◌<◌, Bool, true, false, cond, ◌&&◌, ◌||◌, Option, Some, None, List, [], ◌∷◌, ◌++◌, map, filter, max, refl, sym, ap, subst, ◌∙◌, arith, inl, inr}
use Rattle.std.proofs.Math.IntN.{+ℤ_idl}
use Rattle.std.proofs.lemmas.Int.{ints}
use Rattle.std.proofs.lemmas.Bool.Decides.{nat_tests}
use Rattle.std.proofs.lemmas.List.Elements.{filter-append}
use Rattle.std.specs.List.{AllByRecursion}
use Rattle.std.specs.Ordering.{nat_cmp, is_gt, is_lt}
use Rattle.std.specs.Cmp.Lexicographic.{slice_cmp}
use Rattle.std.specs.Prelude.{nat_le}
use Rattle.update_core.specs.declared.updates.Update.{Update}
use Rattle.update_core.specs.Frontiers.{covers, is_from, frontier_cmp}
use Rattle.update_core.specs.Totals.{total, consolidated}
use Rattle.update_core.specs.Updates.{until, between, cons, moved, moved_by, sum_of, slice_of, datum_entry, time_cmp, time_entry, update_in_time}
use Rattle.update_core.proofs.Consolidated.{consolidated_is, consolidated_from_totals, total-append}
use Rattle.update_core.proofs.UpdateLaws.{times_total, times_exact}
use Rattle.update_core.proofs.SliceLaws.{covered_on, from_before, apart, parts_of, exclusive, shared}
use Rattle.update_core.proofs.TallyLaws.{tally_of, tally_of-cons, tally_of-append, at_datum, total-until, same_content, tally_of-at_datum-moved, sum_of-covered, slice_of-cons, between_itself}
use Rattle.spine_core.specs.declared.batches.Batch.{Batch}
use Rattle.spine_core.specs.declared.descs.Desc.{Desc}
use Rattle.spine_core.specs.Contents.{span_of, batch_of, held, IsMovedUpTo}
use Rattle.spine_core.specs.Spines.{Follows, upper_from, spine_upper}
use Rattle.state_core.proofs.ListLemmas.{bool_cases, each_map}
use Rattle.state_core.specs.States.{ShardState, IsState}
use Rattle.history_core.specs.Questions.{begun_by, ending_past}

-- a sum over updates that consolidation keeps, and moves up to a time
pub record IsMeasure (since : ℕ) (sum : List Update → ℤ) : Type 0 where
  pub none : sum [] ≡ pos 0
  pub joined : (us vs : List Update) → sum (us ++ vs) ≡ sum us +ℤ sum vs
  pub consolidated : (us : List Update) → sum (cons us) ≡ sum us
  pub moved : (us : List Update) (s : ℕ) → s ≤ since → sum (moved us s) ≡ sum us

upwards : (f : Option ℕ) (t : ℕ) → covers f t ≡ true → is_gt (frontier_cmp (Some t) f) ≡ false
upwards None t h = refl
upwards (Some u) t h = grind (arith, nat_tests)

never_past : (f : Option ℕ) → is_gt (frontier_cmp f f) ≡ false
never_past None = refl
never_past (Some u) = grind (arith, nat_tests)

on_upwards : (f g h : Option ℕ) → is_gt (frontier_cmp f g) ≡ false → is_gt (frontier_cmp g h) ≡ false
    → is_gt (frontier_cmp f h) ≡ false
on_upwards None None h p q = q
on_upwards None (Some g) h p q = cc
on_upwards (Some f) None None p q = refl
on_upwards (Some f) None (Some h) p q = cc
on_upwards (Some f) (Some g) None p q = refl
on_upwards (Some f) (Some g) (Some h) p q = grind (arith, nat_tests)

ends_upwards : (f : Option ℕ) (bs : List Batch) → Follows f bs → is_gt (frontier_cmp f (upper_from f bs)) ≡ false
ends_upwards f [] ok = never_past f
ends_upwards f (b ∷ bs) ok =
    let low : is_gt (frontier_cmp f b.desc.upper) ≡ false = subst (λ (g : Option ℕ). is_gt (frontier_cmp g b.desc.upper) ≡ false) (sym ok.0) (upwards b.desc.upper b.desc.lower ok.1) in
    on_upwards f b.desc.upper (upper_from b.desc.upper bs) low (ends_upwards b.desc.upper bs ok.2)

module _ (since : ℕ) (sum : List Update → ℤ) (m : IsMeasure since sum) where
  opened : (b : Bool) (u : Update) (us : List Update) → sum (cond b (u ∷ us) us) ≡ cond b (sum (u ∷ [])) (pos 0) +ℤ sum us
  opened true u us = m.joined (u ∷ []) us
  opened false u us = sym (+ℤ_idl _)

  sum_parts : (v w r : Update → Bool) → ((x : Update) → r x ≡ v x || w x) → ((x : Update) → v x && w x ≡ false)
      → (us : List Update) → sum (filter r us) ≡ sum (filter v us) +ℤ sum (filter w us)
  sum_parts v w r either both [] = m.none ∙ sym (+ℤ_idl (pos 0)) ∙ (λ i. sym m.none i +ℤ sym m.none i)
  sum_parts v w r either both (u ∷ us) =
      opened (r u) u (filter r us)
      ∙ ap (λ (t : ℤ). cond (r u) (sum (u ∷ [])) (pos 0) +ℤ t) (sum_parts v w r either both us)
      ∙ shared (v u) (w u) (r u) (sum (u ∷ [])) (sum (filter v us)) (sum (filter w us)) (either u) (both u)
      ∙ (λ i. sym (opened (v u) u (filter v us)) i +ℤ sym (opened (w u) u (filter w us)) i)

  -- what stands before a frontier and from it on
  sum_between : (us : List Update) (f g h : Option ℕ) → is_gt (frontier_cmp f g) ≡ false → is_gt (frontier_cmp g h) ≡ false
      → sum (between f h us) ≡ sum (between f g us) +ℤ sum (between g h us)
  sum_between us f g h fg gh =
      sum_parts (λ u. is_from f u.time && covers g u.time) (λ u. is_from g u.time && covers h u.time) (λ u. is_from f u.time && covers h u.time)
      (λ u. parts_of (is_from f u.time) (covers g u.time) (covers h u.time) (is_from g u.time) (apart g u.time) (covered_on g h u.time gh) (from_before f g u.time fg))
      (λ u. exclusive (is_from f u.time) (covers g u.time) (covers h u.time) (is_from g u.time) (apart g u.time)) us

  -- a batch has the sum of its span
  sum_of_batch : (us : List Update) (d : Desc) → d.since ≤ since → sum (batch_of us d) ≡ sum (between (Some d.lower) d.upper us)
  sum_of_batch us d le = m.consolidated (span_of us d) ∙ m.moved (between (Some d.lower) d.upper us) d.since le

  -- batches that follow one another have the sum of what stands between their ends
  pub sum_of_held : (us : List Update) (f : Option ℕ) (bs : List Batch) → Follows f bs → IsMovedUpTo since bs
      → sum (held us bs) ≡ sum (between f (upper_from f bs) us)
  sum_of_held us f [] ok up = ap sum (sym (between_itself f us))
  sum_of_held us f (b ∷ bs) ok up =
      let first : sum (batch_of us b.desc) ≡ sum (between f b.desc.upper us) = sum_of_batch us b.desc up.0 ∙ ap (λ (g : Option ℕ). sum (between g b.desc.upper us)) (sym ok.0) in
      let rest = sum_of_held us b.desc.upper bs ok.2 up.1 in
      let low : is_gt (frontier_cmp f b.desc.upper) ≡ false = subst (λ (g : Option ℕ). is_gt (frontier_cmp g b.desc.upper) ≡ false) (sym ok.0) (upwards b.desc.upper b.desc.lower ok.1) in
      m.joined (batch_of us b.desc) (held us bs) ∙ (λ i. first i +ℤ rest i)
      ∙ sym (sum_between us f b.desc.upper (upper_from b.desc.upper bs) low (ends_upwards b.desc.upper bs ok.2))

  -- batches without a sum may be left out
  pub sum_of_some : (p : Batch → Bool) (us : List Update) (bs : List Batch) → IsMovedUpTo since bs
      → ((b : Batch) → p b ≡ false → sum (between (Some b.desc.lower) b.desc.upper us) ≡ pos 0)
      → sum (held us (filter p bs)) ≡ sum (held us bs)
  sum_of_some p us [] up out = refl
  sum_of_some p us (b ∷ bs) up out =
      let rest = sum_of_some p us bs up.1 out in
      elim (bool_cases (p b)) [
        | inl e ↦ rw e (m.joined (batch_of us b.desc) (held us (filter p bs)) ∙ ap (λ (z : ℤ). sum (batch_of us b.desc) +ℤ z) rest ∙ sym (m.joined (batch_of us b.desc) (held us bs)))
        | inr e ↦
            let nothing : sum (batch_of us b.desc) ≡ pos 0 = sum_of_batch us b.desc up.0 ∙ out b e in
            rw e (rest ∙ sym (+ℤ_idl (sum (held us bs))) ∙ ap (λ (z : ℤ). z +ℤ sum (held us bs)) (sym nothing) ∙ sym (m.joined (batch_of us b.desc) (held us bs)))
      ]

-- ---- sums

without_zero : (z : ℤ) → z ≡ z +ℤ z → z ≡ pos 0
without_zero z h = omega (arith, ints)

-- the sum at a datum up to a time
at_time : (t : ℕ) (d : List ℕ) → IsMeasure t (tally_of (at_datum t d))
at_time t d = record {
  none = without_zero (tally_of (at_datum t d) []) (tally_of-append (at_datum t d) [] []);
  joined = tally_of-append (at_datum t d);
  consolidated = tally_of-cons (at_datum t d);
  moved = λ us s le. tally_of-at_datum-moved us s t d le;
}

-- what begins after a time has nothing up to it
none_until : (us : List Update) (lower : ℕ) (g : Option ℕ) (t : ℕ) → nat_le lower t ≡ false
    → until t (between (Some lower) g us) ≡ []
none_until [] lower g t h = refl
none_until (u ∷ us) lower g t h = left_out (nat_le lower u.time) (covers g u.time) (nat_le u.time t) (late u.time) (none_until us lower g t h) refl
  where
    late : (n : ℕ) → nat_le lower n ≡ true → nat_le n t ≡ false
    late n e = grind (arith, nat_tests)

    left_out : (a b c : Bool) → (a ≡ true → c ≡ false) → until t (between (Some lower) g us) ≡ [] → nat_le u.time t ≡ c
        → until t (cond (a && b) (u ∷ between (Some lower) g us) (between (Some lower) g us)) ≡ []
    left_out true true c out rest is = ap (λ (x : Bool). cond x (u ∷ until t (between (Some lower) g us)) (until t (between (Some lower) g us))) (is ∙ out refl) ∙ rest
    left_out true false c out rest is = rest
    left_out false b c out rest is = rest

-- what the batches that begin at a time or before it hold has at that time the content of all batches
pub held_until : (us : List Update) (bs : List Batch) (t : ℕ) → IsMovedUpTo t bs
    → sum_of (held us (begun_by t bs)) t ≡ sum_of (held us bs) t
held_until us bs t up = same_content (held us (begun_by t bs)) (held us bs) t (λ d.
    sum_of_some t (tally_of (at_datum t d)) (at_time t d) (λ b. nat_le b.desc.lower t) us bs up (λ b late.
    sym (total-until (between (Some b.desc.lower) b.desc.upper us) t d)
    ∙ ap (λ vs. total (slice_cmp nat_cmp) (map datum_entry vs) d) (none_until us b.desc.lower b.desc.upper t late)))

all_between : (us : List Update) (g : Option ℕ) → AllByRecursion (λ u. covers g u.time ≡ true) us → between (Some 0) g us ≡ us
all_between [] g h = refl
all_between (u ∷ us) g h = ap (λ (b : Bool). cond b (u ∷ between (Some 0) g us) (between (Some 0) g us)) (kept (nat_le 0 u.time) (covers g u.time) (from_0 u.time) h.0) ∙ (λ i. u ∷ all_between us g h.1 i)
  where
    from_0 : (n : ℕ) → nat_le 0 n ≡ true
    from_0 n = grind (arith, nat_tests)

    kept : (a b : Bool) → a ≡ true → b ≡ true → a && b ≡ true
    kept true b p q = q
    kept false b p q = cc

moved_to : (s : ShardState) (t : ℕ) → IsState s → s.since ≤ t → IsMovedUpTo t s.batches
moved_to s t rules le = each_map (λ b. b.desc.since ≤ s.since) (λ b. b.desc.since ≤ t) s.batches (λ b h. omega arith) rules.sinces

-- at a time from its since on, the batches of a state that begin there or before have the content of the list
pub state_sum : (list : List Update) (t : ℕ) (s : ShardState) → IsState s → s.since ≤ t
    → AllByRecursion (λ u. covers s.upper u.time ≡ true) list → sum_of (held list (begun_by t s.batches)) t ≡ sum_of list t
state_sum list t s rules le before_upper =
    let up = moved_to s t rules le in
    let all : between (Some 0) (spine_upper s.batches) list ≡ list = subst (λ (g : Option ℕ). between (Some 0) g list ≡ list) rules.upper_is (all_between list s.upper before_upper) in
    held_until list s.batches t up
    ∙ same_content (held list s.batches) list t (λ d. sum_of_held t (tally_of (at_datum t d)) (at_time t d) list (Some 0) s.batches rules.spine up ∙ ap (tally_of (at_datum t d)) all)

-- and so have those of an older state, at a time that its upper covers
pub state_sum_known : (list : List Update) (t : ℕ) (s : ShardState) → IsState s → s.since ≤ t → covers s.upper t ≡ true
    → sum_of (held list (begun_by t s.batches)) t ≡ sum_of list t
state_sum_known list t s rules le known =
    let up = moved_to s t rules le in
    held_until list s.batches t up
    ∙ same_content (held list s.batches) (between (Some 0) (spine_upper s.batches) list) t (λ d. sum_of_held t (tally_of (at_datum t d)) (at_time t d) list (Some 0) s.batches rules.spine up)
    ∙ sum_of-covered list (spine_upper s.batches) t (subst (λ (g : Option ℕ). covers g t ≡ true) rules.upper_is known)

-- ---- slices

entries : ℕ → Option ℕ → List Update → List ((ℕ × List ℕ) × ℤ)
entries f g us = map time_entry (between (Some f) g us)

in_time : (es : List ((ℕ × List ℕ) × ℤ)) → map time_entry (map update_in_time es) ≡ es
in_time [] = refl
in_time (e ∷ es) = λ i. e ∷ in_time es i

entries-append : (us vs : List Update) → map time_entry (us ++ vs) ≡ map time_entry us ++ map time_entry vs
entries-append [] vs = refl
entries-append (u ∷ us) vs = λ i. time_entry u ∷ entries-append us vs i

-- a slice's sums are those of what it consolidates
slice_totals : (us : List Update) (f : ℕ) (g : Option ℕ) (k : ℕ × List ℕ)
    → total time_cmp (map time_entry (slice_of us (Some f) g)) k ≡ total time_cmp (entries f g us) k
unfolding entries
slice_totals us f g k = ap (λ es. total time_cmp es k) (in_time (consolidated time_cmp (map time_entry (between (Some f) g us))))
    ∙ (consolidated_is times_total (map time_entry (between (Some f) g us))).same k

-- a move to before a frontier changes nothing from it on
moved_before : (us : List Update) (s f : ℕ) (g : Option ℕ) → s < f → between (Some f) g (moved us s) ≡ between (Some f) g us
moved_before [] s f g lt = refl
moved_before (u ∷ us) s f g lt = elim (bool_cases (nat_le s u.time)) [
  | inl e ↦
      let same : max u.time s ≡ u.time = later u.time e in
      (λ i. cond (nat_le f (same i) && covers g (same i)) (record u { time = same i } ∷ moved_before us s f g lt i) (moved_before us s f g lt i))
  | inr e ↦
      let early : nat_le f u.time ≡ false = before u.time e in
      let still : nat_le f (max u.time s) ≡ false = after u.time e in
      ap (λ (b : Bool). cond (b && covers g (max u.time s)) (moved_by s u ∷ between (Some f) g (moved us s)) (between (Some f) g (moved us s))) still
      ∙ moved_before us s f g lt
      ∙ ap (λ (b : Bool). cond (b && covers g u.time) (u ∷ between (Some f) g us) (between (Some f) g us)) (sym early)
]
  where
    later : (n : ℕ) → nat_le s n ≡ true → max n s ≡ n
    later n e = grind (arith, nat_tests)

    before : (n : ℕ) → nat_le s n ≡ false → nat_le f n ≡ false
    before n e = grind (arith, nat_tests)

    after : (n : ℕ) → nat_le s n ≡ false → nat_le f (max n s) ≡ false
    after n e = grind (arith, nat_tests)

-- the sum at a datum and time, of what stands from f on before g
in_slice : (since f : ℕ) (g : Option ℕ) (k : ℕ × List ℕ) → since < f → IsMeasure since (λ us. total time_cmp (entries f g us) k)
unfolding entries
in_slice since f g k lt = record {
  none = refl;
  joined = λ us vs.
      ap (λ es. total time_cmp es k) (ap (map time_entry) (filter-append (λ (u : Update). nat_le f u.time && covers g u.time) us vs) ∙ entries-append (between (Some f) g us) (between (Some f) g vs))
      ∙ total-append time_cmp (map time_entry (between (Some f) g us)) (map time_entry (between (Some f) g vs)) k;
  consolidated = λ us. sym (slice_totals (cons us) f g k)
      ∙ ap (λ vs. total time_cmp (map time_entry vs) k) (slice_of-cons us (Some f) g) ∙ slice_totals us f g k;
  moved = λ us s le. ap (λ vs. total time_cmp (map time_entry vs) k) (moved_before us s f g (omega arith));
}

-- what ends by a frontier has nothing from it on
none_past : (us : List Update) (lower f : ℕ) (upper g : Option ℕ) → is_lt (frontier_cmp (Some f) upper) ≡ false
    → between (Some f) g (between (Some lower) upper us) ≡ []
none_past [] lower f upper g h = refl
none_past (u ∷ us) lower f upper g h = left_out (nat_le lower u.time) (covers upper u.time) (nat_le f u.time) (early upper u.time h) (none_past us lower f upper g h) refl
  where
    early : (q : Option ℕ) (n : ℕ) → is_lt (frontier_cmp (Some f) q) ≡ false → covers q n ≡ true → nat_le f n ≡ false
    early None n e c = cc
    early (Some v) n e c = grind (arith, nat_tests)

    left_out : (a b c : Bool) → (b ≡ true → c ≡ false) → between (Some f) g (between (Some lower) upper us) ≡ []
        → nat_le f u.time ≡ c
        → between (Some f) g (cond (a && b) (u ∷ between (Some lower) upper us) (between (Some lower) upper us)) ≡ []
    left_out true true c out rest is = ap (λ (x : Bool). cond (x && covers g u.time) (u ∷ between (Some f) g (between (Some lower) upper us)) (between (Some f) g (between (Some lower) upper us))) (is ∙ out refl) ∙ rest
    left_out true false c out rest is = rest
    left_out false b c out rest is = rest

-- a part of a list cut to a part of it
cut_twice : (us : List Update) (f : ℕ) (g : Option ℕ) → between (Some f) g (between (Some 0) g us) ≡ between (Some f) g us
cut_twice [] f g = refl
cut_twice (u ∷ us) f g = step (nat_le 0 u.time) (covers g u.time) (from_0 u.time) refl (cut_twice us f g)
  where
    from_0 : (n : ℕ) → nat_le 0 n ≡ true
    from_0 n = grind (arith, nat_tests)

    off : (c : Bool) → c && false ≡ false
    off true = refl
    off false = refl

    step : (a b : Bool) → a ≡ true → covers g u.time ≡ b → between (Some f) g (between (Some 0) g us) ≡ between (Some f) g us
        → between (Some f) g (cond (a && b) (u ∷ between (Some 0) g us) (between (Some 0) g us)) ≡ cond (nat_le f u.time && covers g u.time) (u ∷ between (Some f) g us) (between (Some f) g us)
    step true true p is rest = ap (λ (vs : List Update). cond (nat_le f u.time && covers g u.time) (u ∷ vs) vs) rest
    step true false p is rest = rest
        ∙ ap (λ (x : Bool). cond x (u ∷ between (Some f) g us) (between (Some f) g us)) (sym (off (nat_le f u.time)) ∙ ap (λ (x : Bool). nat_le f u.time && x) (sym is))
    step false b p is rest = cc

-- cut from a frontier past its since on, the batches of a state that end past it have the slice of the list up to its upper
pub state_slice : (list : List Update) (f : ℕ) (s : ShardState) → IsState s → s.since < f
    → slice_of (held list (ending_past (Some f) s.batches)) (Some f) s.upper ≡ slice_of list (Some f) s.upper
unfolding entries
state_slice list f s rules lt = ap (map update_in_time) (consolidated_from_totals times_total times_exact (entries f s.upper (held list (ending_past (Some f) s.batches))) (entries f s.upper list) (λ k.
    let m = in_slice s.since f s.upper k lt in
    sum_of_some s.since (λ us. total time_cmp (entries f s.upper us) k) m (λ b. is_lt (frontier_cmp (Some f) b.desc.upper)) list s.batches rules.sinces
    (λ b early. ap (λ us. total time_cmp (map time_entry us) k) (none_past list b.desc.lower f b.desc.upper s.upper early))
    ∙ sum_of_held s.since (λ us. total time_cmp (entries f s.upper us) k) m list (Some 0) s.batches rules.spine rules.sinces
    ∙ ap (λ us. total time_cmp (entries f s.upper us) k) (ap (λ (g : Option ℕ). between (Some 0) g list) (sym rules.upper_is))
    ∙ ap (λ us. total time_cmp (map time_entry us) k) (cut_twice list f s.upper)))
