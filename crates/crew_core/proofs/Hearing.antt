-- The steps of a listen add up to one slice.
use Rattle.std.proofs.Common.{◌≡◌, ℕ, true, false, Option, Some, None, List, [], ◌++◌, inl, inr, refl, sym, ap, subst, ◌∙◌}
use Rattle.std.proofs.Common.{arith, append_assoc}
use Rattle.std.proofs.lemmas.Bool.Decides.{nat_tests}
use Rattle.std.specs.Ordering.{is_gt}
use Rattle.update_core.specs.declared.updates.Update.{Update}
use Rattle.update_core.specs.Collections.{listen_answer, step}
use Rattle.update_core.specs.Frontiers.{after, covers, frontier_cmp}
use Rattle.update_core.specs.Updates.{slice_of}
use Rattle.store_core.specs.declared.entries.Entry.{Entry}
use Rattle.store_core.specs.Histories.{History, store_after}
use Rattle.store_core.specs.Ports.{with_entries}
use Rattle.history_core.specs.Discipline.{Lawful}
use Rattle.history_core.specs.Laws.{LastIs}
use Rattle.history_core.specs.Legal.{collection_in}
use Rattle.history_core.specs.Stands.{accepted_of}
use Rattle.history_core.proofs.GotRows.{listen_step}
use Rattle.history_core.proofs.Steps.{joined_law}
use Rattle.crew_core.specs.Hearing.{HasHeard, HasHeardOnce, HeardStays, HearsOn}
use Rattle.crew_core.proofs.Keeping.{of_entries}

not_past : (upper : Option ℕ) (time : ℕ) → covers upper time ≡ true → is_gt (frontier_cmp (Some time) upper) ≡ false
not_past None time h = refl
not_past (Some u) time h = grind (arith, nat_tests)

through : (f : Option ℕ) (time : ℕ) (g : Option ℕ) → is_gt (frontier_cmp f (Some time)) ≡ false → covers g time ≡ true →
    is_gt (frontier_cmp f g) ≡ false
through None time g a b = absurd (let bad : true ≡ false = a in cc)
through (Some f) time None a b = refl
through (Some f) time (Some g) a b = grind (arith, nat_tests)

pub stays_law : HeardStays
stays_law shard list as_of rows frontier h later (inl k) = inl k
stays_law shard list as_of rows frontier h later (inr k) = inr (record {
  older = k.older;
  newer = k.newer ++ later;
  split = ap (λ (es : List Entry). es ++ later) k.split ∙ append_assoc k.older k.newer later;
  heard = k.heard;
})

pub on_law : HearsOn
on_law shard list h st l as_of rows frontier heard number state last more to answer = elim heard [
  | inl k ↦ first k.0 k.1
  | inr k ↦ next k
]
  where
    -- the first step
    first : rows ≡ [] → frontier ≡ after as_of → HasHeard shard list as_of (rows ++ more) to h
    first none at =
        let found = listen_step (collection_in (accepted_of shard list h) state) frontier to more answer in
        record {
          number = number;
          state = state;
          last = last;
          upper = found.end;
          past = subst (λ (f : Option ℕ). is_gt (frontier_cmp f to) ≡ false) (sym found.at ∙ at)
              (subst (λ (u : Option ℕ). is_gt (frontier_cmp (Some found.time) u) ≡ false) (sym found.end)
              (not_past state.upper found.time found.before_upper));
          slice = ap (λ (us : List Update). us ++ more) none ∙ sym found.slice
              ∙ ap (λ (f : Option ℕ). slice_of (accepted_of shard list h) f state.upper) at
              ∙ ap (slice_of (accepted_of shard list h) (after as_of)) (sym found.end);
        }

    -- a further one
    next : HasHeardOnce shard list as_of rows frontier h → HasHeard shard list as_of (rows ++ more) to h
    next k =
        let before = of_entries h.start k.older in
        let whole : with_entries before k.newer ≡ h = ap (of_entries h.start) (sym k.split) in
        let found = listen_step (collection_in (accepted_of shard list h) state) frontier to more answer in
        let at_upper : k.heard.state.upper ≡ frontier = sym k.heard.upper in
        let joined = joined_law shard list before k.newer st (subst Lawful (sym whole) l) k.heard.number k.heard.state k.heard.last
        number state (subst (λ (g : History). LastIs (store_after g) shard number state) (sym whole) last) (after as_of) to more
        (subst (λ (f : Option ℕ). is_gt (frontier_cmp (after as_of) f) ≡ false) k.heard.upper k.heard.past)
        (subst (λ (f : Option ℕ).
        listen_answer (collection_in (accepted_of shard list (with_entries before k.newer)) state) f ≡ step more to) k.heard.upper
        (subst (λ (g : History). listen_answer (collection_in (accepted_of shard list g) state) frontier ≡ step more to) (sym whole)
        answer)) in
        record {
          number = number;
          state = state;
          last = last;
          upper = found.end;
          past = subst (λ (u : Option ℕ). is_gt (frontier_cmp (after as_of) u) ≡ false) (sym found.end)
              (through (after as_of) found.time state.upper
              (subst (λ (f : Option ℕ). is_gt (frontier_cmp (after as_of) f) ≡ false) found.at k.heard.past) found.before_upper);
          slice = ap (λ (us : List Update). us ++ more)
              (k.heard.slice ∙ ap (slice_of (accepted_of shard list before) (after as_of)) k.heard.upper)
              ∙ joined ∙ ap (λ (g : History). slice_of (accepted_of shard list g) (after as_of) to) whole;
        }
