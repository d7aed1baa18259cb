-- Reading keeps what an operator knows right.
use Rattle.std.proofs.Common.{◌≡◌, ℕ, ◌+◌, ◌-◌, ◌<◌, ◌^◌, ℤ, pos, negsuc, Bool, true, false}
use Rattle.std.proofs.Common.{◌&&◌, cond, Option, Some, None, List, [], ◌∷◌, refl, sym, subst, arith}
use Rattle.std.proofs.lemmas.Bool.Decides.{nat_tests}
use Rattle.std.specs.List.{AllByRecursion}
use Rattle.std.specs.Prelude.{nat_le, nat_lt}
use Rattle.update_core.specs.declared.rows.Row.{Row}
use Rattle.update_core.specs.declared.updates.Update.{Update}
use Rattle.update_core.specs.Frontiers.{after, covers}
use Rattle.update_core.specs.Updates.{slice_of, sum_of}
use Rattle.update_core.proofs.SliceLaws.{covered_on}
use Rattle.remap_core.specs.Offsets.{offset, unset}
use Rattle.remap_core.specs.Extending.{Raises, partition_of, reached, rows_at, with_rows}
use Rattle.remap_core.specs.RemapShards.{IsBindingsOf, offset_of}
use Rattle.remap_core.proofs.StartLaws.{snapshot_starts}
use Rattle.remap_core.proofs.StepLaws.{listen_extends}
use Rattle.reclock_client.specs.declared.intakes.Intake.{Intake}
use Rattle.reclock_client.specs.Commands.{Next, strange, with_changes, with_content}
use Rattle.reclock_client.specs.Known.{ContentIsKnown, IsKnown, StepIsKnown}
use Rattle.reclock_client.specs.Reading.{foreign_time, is_one_byte, is_rise, left, risen}

-- a row that isn't foreign raises a partition
raises_one : (datum : List ℕ) (time : ℕ) (diff : ℤ) (room : Bool) →
    is_one_byte datum && (nat_lt 0 (offset_of diff) && room) ≡ true → Raises (record { datum = datum; time = time; diff = diff })
raises_one [] t d r e = cc
raises_one (p ∷ []) t (pos n) r e =
    record { partition = p; amount = n; known = byte (nat_lt p 256) refl e; some = positive (nat_lt p 256) (nat_lt 0 n) r refl e; is = refl }
  where
    byte : (a : Bool) → nat_lt p 256 ≡ a → a && (nat_lt 0 n && r) ≡ true → p < 256
    byte true f e = grind (arith, nat_tests)
    byte false f e = cc

    positive : (z a b : Bool) → nat_lt 0 n ≡ a → z && (a && b) ≡ true → 0 < n
    positive true true b f e = grind (arith, nat_tests)
    positive true false b f e = cc
    positive false a b f e = cc
raises_one (p ∷ []) t (negsuc n) r e = none (nat_lt p 256) e
  where
    none : (z : Bool) → z && false ≡ true → Raises (record { datum = p ∷ []; time = t; diff = negsuc n })
    none true e = cc
    none false e = cc
raises_one (p ∷ q ∷ ps) t d r e = cc

none_foreign : (f : List ℕ) (us : List Update) → foreign_time f us ≡ None → AllByRecursion Raises us
none_foreign f [] e = tt
none_foreign f (u ∷ us) e = pick (is_rise f u.datum u.diff) refl e (none_foreign (risen f u.datum u.diff) us)
  where
    pick : (b : Bool) → is_rise f u.datum u.diff ≡ b → cond b (foreign_time (risen f u.datum u.diff) us) (Some u.time) ≡ None →
        (foreign_time (risen f u.datum u.diff) us ≡ None → AllByRecursion Raises us) → AllByRecursion Raises (u ∷ us)
    pick true h e rest =
        (raises_one u.datum u.time u.diff (nat_le (offset f (partition_of u.datum) + offset_of u.diff) (2 ^ 48)) h, rest e)
    pick false h e rest = cc

pub after_covers : (s : ℕ) → covers (after s) s ≡ true
after_covers s = pick (nat_lt s (2 ^ 64 - 1)) refl
  where
    itself : nat_lt s (s + 1) ≡ true
    itself = grind (arith, nat_tests)

    pick : (b : Bool) → nat_lt s (2 ^ 64 - 1) ≡ b → covers (cond b (Some (s + 1)) None) s ≡ true
    pick true e = itself
    pick false e = refl

pub content_is_known : ContentIsKnown
content_is_known us c rows is beyond none =
    subst (λ (f : Option ℕ). IsKnown us (with_content c rows f).0) (sym none) there
  where
    here : List Update
    here = rows_at c.since (sum_of us c.since)

    raise : AllByRecursion Raises here
    raise = subst (λ (rs : List Row). AllByRecursion Raises (rows_at c.since rs)) is (none_foreign unset (rows_at c.since rows) none)

    there : IsKnown us (with_content c rows None).0
    there =
        let both = snapshot_starts us c.since (after c.since) (after_covers c.since) beyond raise in
        subst (λ (rs : List Row). IsKnown us (with_content c rs None).0) (sym is)
        (record { bindings = both.0; rises = both.1; past = after_covers c.since })

pub step_is_known : StepIsKnown
step_is_known us c from to rows k taken le is order none =
    subst (λ (b : Bool). IsKnown us (by b (foreign_time (reached c.bindings) rows)).0) (sym order)
    (subst (λ (f : Option ℕ). IsKnown us (with_changes c rows to f).0) (sym none) there)
  where
    by : Bool → Option ℕ → Next
    by b f = cond b (with_changes c rows to f) (strange c)

    before : IsBindingsOf us c.since c.synced c.bindings
    before = subst (λ (i : Intake). IsBindingsOf us c.since c.synced (with_rows c.bindings (left c.since i))) taken k.bindings

    raise : AllByRecursion Raises (slice_of us c.synced to)
    raise = subst (λ (rs : List Update). AllByRecursion Raises rs) is (none_foreign (reached c.bindings) rows none)

    there : IsKnown us (with_changes c rows to None).0
    there =
        let both = listen_extends us c.since c.synced to c.bindings before k.rises k.past le raise in
        subst (λ (rs : List Update). IsKnown us (with_changes c rs to None).0) (sym is)
        (record { bindings = both.0; rises = both.1; past = covered_on c.synced to c.since le k.past })
