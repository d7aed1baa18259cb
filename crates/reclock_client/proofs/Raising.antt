-- Rows of which none is foreign raise partitions of the bindings, one after the other.
use Rattle.std.proofs.Common.{◌≡◌, ℕ, ◌≤◌, Bool, true, false, cond, Option, Some, None, List, [], ◌∷◌, ◌++◌, refl, sym, subst, ◌∙◌, arith}
use Rattle.std.proofs.lemmas.Bool.Decides.{nat_tests}
use Rattle.std.specs.Prelude.{nat_le, nat_lt}
use Rattle.update_core.specs.declared.rows.Row.{Row}
use Rattle.update_core.specs.declared.updates.Update.{Update}
use Rattle.remap_core.specs.Offsets.{unset}
use Rattle.remap_core.specs.RemapShards.{offset_of}
use Rattle.remap_core.specs.Extending.{UpToTime, before, partition_of, raised, reached, rows_at, with_row}
use Rattle.reclock_client.specs.Reading.{AllRaise, foreign_time, in_time, is_rise}

later : (s t : ℕ) (bs : List (ℕ × List ℕ)) → s ≤ t → UpToTime s bs → UpToTime t bs
later s t [] le up = tt
later s t (b ∷ bs) le up = (omega (arith, up.0), later s t bs le up.1)

-- after a row at a time no binding is past it
put_up : (t : ℕ) (bs : List (ℕ × List ℕ)) (f : List ℕ) → UpToTime t (before t bs ++ (t, f) ∷ [])
put_up t [] f = (omega arith, tt)
put_up t (b ∷ bs) f = pick (nat_lt b.0 t) refl (put_up t bs f)
  where
    pick : (q : Bool) → nat_lt b.0 t ≡ q → UpToTime t (before t bs ++ (t, f) ∷ []) →
        UpToTime t (cond q (b ∷ before t bs) (before t bs) ++ (t, f) ∷ [])
    pick true e rest = (grind (arith, nat_tests), rest)
    pick false e rest = rest

put_reached : (bs : List (ℕ × List ℕ)) (b : ℕ × List ℕ) → reached (bs ++ b ∷ []) ≡ b.1
put_reached [] b = refl
put_reached (a ∷ []) b = refl
put_reached (a ∷ c ∷ bs) b = put_reached (c ∷ bs) b

raise_step : (u : Update) (us : List Update) (t : ℕ) (bs : List (ℕ × List ℕ)) → UpToTime t bs → (in_time u.time us ≡ true →
    foreign_time (reached (with_row bs u.time (partition_of u.datum) (offset_of u.diff))) us ≡ None →
    AllRaise (with_row bs u.time (partition_of u.datum) (offset_of u.diff)) us) →
    in_time t (u ∷ us) ≡ true → foreign_time (reached bs) (u ∷ us) ≡ None → AllRaise bs (u ∷ us)
raise_step u us t bs up rest order none = pick (nat_le t u.time) refl order (is_rise (reached bs) u.datum u.diff) refl none
  where
    next : List ℕ
    next = raised (reached bs) (partition_of u.datum) (offset_of u.diff)

    pick : (a : Bool) → nat_le t u.time ≡ a → cond a (in_time u.time us) false ≡ true → (b : Bool) →
        is_rise (reached bs) u.datum u.diff ≡ b → cond b (foreign_time next us) (Some u.time) ≡ None → AllRaise bs (u ∷ us)
    pick true le o true rise n = (
      later t u.time bs (grind (arith, nat_tests)) up,
      rise,
      rest o (subst (λ (f : List ℕ). foreign_time f us ≡ None) (sym (put_reached (before u.time bs) (u.time, next))) n),
    )
    pick false le o b rise n = absurd (let bad : false ≡ true = o in cc)
    pick true le o false rise n = absurd (let bad : Some u.time ≡ None = n in cc)

pub all_raise : (us : List Update) (t : ℕ) (bs : List (ℕ × List ℕ)) → UpToTime t bs → in_time t us ≡ true →
    foreign_time (reached bs) us ≡ None → AllRaise bs us
all_raise [] t bs up order none = tt
all_raise (u ∷ us) t bs up order none = raise_step u us t bs up (all_raise us u.time
    (with_row bs u.time (partition_of u.datum) (offset_of u.diff))
    (put_up u.time bs (raised (reached bs) (partition_of u.datum) (offset_of u.diff)))) order none

at_once : (t : ℕ) (rows : List Row) → in_time t (rows_at t rows) ≡ true
at_once t [] = refl
at_once t (r ∷ rows) = pick (nat_le t t) (grind (arith, nat_tests)) (at_once t rows)
  where
    pick : (q : Bool) → q ≡ true → in_time t (rows_at t rows) ≡ true → cond q (in_time t (rows_at t rows)) false ≡ true
    pick true e h = h
    pick false e h = e

-- the rows of a content
pub content_raises : (since : ℕ) (rows : List Row) → foreign_time unset (rows_at since rows) ≡ None → AllRaise [] (rows_at since rows)
content_raises since rows none = all_raise (rows_at since rows) since [] tt (at_once since rows) none

-- the same, as the code tests it
pub content_rises : (since : ℕ) (rows shown : List Row) (f : List ℕ) (r : Option ℕ) (bs : List (ℕ × List ℕ)) →
    r ≡ foreign_time f (rows_at since shown) → f ≡ unset → shown ≡ rows → r ≡ None → bs ≡ [] → AllRaise bs (rows_at since rows)
content_rises since rows shown f r bs told unset_is same none empty =
    let one = subst (λ (x : List ℕ). r ≡ foreign_time x (rows_at since shown)) unset_is told in
    let two = subst (λ (xs : List Row). r ≡ foreign_time unset (rows_at since xs)) same one in
    subst (λ (b : List (ℕ × List ℕ)). AllRaise b (rows_at since rows)) (sym empty) (content_raises since rows (sym two ∙ none))

pub step_rises : (t : ℕ) (bs : List (ℕ × List ℕ)) (rows shown again : List Update) (f : List ℕ) (q : Bool) (r : Option ℕ) →
    UpToTime t bs → q ≡ in_time t shown → shown ≡ rows → q ≡ true → r ≡ foreign_time f again → f ≡ reached bs → again ≡ rows →
    r ≡ None → AllRaise bs rows
step_rises t bs rows shown again f q r up told same order foreign reached_is same_again none =
    let in_order = subst (λ (us : List Update). q ≡ in_time t us) same told in
    let one = subst (λ (x : List ℕ). r ≡ foreign_time x again) reached_is foreign in
    let two = subst (λ (us : List Update). r ≡ foreign_time (reached bs) us) same_again one in
    all_raise rows t bs up (sym in_order ∙ order) (sym two ∙ none)
