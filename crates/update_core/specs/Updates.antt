-- What a list of updates comes to.
use Rattle.std.specs.Prelude.{◌≡◌, false, ℕ, ℤ, ◌&&◌, nat_le, max, Option, List, map, filter, sum_by}
use Rattle.std.specs.declared.cmp.Ordering.{Ordering}
use Rattle.std.specs.Borrow.{Bor}
use Rattle.std.specs.List.{AllByRecursion}
use Rattle.std.specs.Ordering.{nat_cmp, ordering_then}
use Rattle.std.specs.Cmp.Lexicographic.{slice_cmp}
use Rattle.std.specs.Int.RustNames.{unsigned_abs}
use Rattle.update_core.specs.declared.updates.Update.{Update}
use Rattle.update_core.specs.declared.rows.Row.{Row}
use Rattle.update_core.specs.Frontiers.{covers, is_from}
use Rattle.update_core.specs.Totals.{IsConsolidation, consolidated}

-- by datum, and then by time
abbrev pub moment_cmp : List ℕ × ℕ → List ℕ × ℕ → Ordering
moment_cmp a b = ordering_then (slice_cmp nat_cmp a.0 b.0) (nat_cmp a.1 b.1)

-- an update's difference, by its datum and time
abbrev pub moment_entry : Update → (List ℕ × ℕ) × ℤ
moment_entry u = ((u.datum, u.time), u.diff)

-- by time, and then by datum
abbrev pub time_cmp : ℕ × List ℕ → ℕ × List ℕ → Ordering
time_cmp a b = ordering_then (nat_cmp a.0 b.0) (slice_cmp nat_cmp a.1 b.1)

-- an update's difference, by its time and datum
abbrev pub time_entry : Update → (ℕ × List ℕ) × ℤ
time_entry u = ((u.time, u.datum), u.diff)

-- an update's difference, by its datum
abbrev pub datum_entry : Update → List ℕ × ℤ
datum_entry u = (u.datum, u.diff)

-- an entry by its borrowed datum
abbrev pub seen_datum : Bor (List ℕ) × ℤ → List ℕ × ℤ
seen_datum e = (e.0.now, e.1)

-- an entry by its time and borrowed datum
abbrev pub seen_time : (ℕ × Bor (List ℕ)) × ℤ → (ℕ × List ℕ) × ℤ
seen_time e = ((e.0.0, e.0.1.now), e.1)

-- a row's sum, by its datum
abbrev pub row_entry : Row → List ℕ × ℤ
row_entry r = (r.datum, r.diff)

-- the sum of the absolute differences
abbrev pub weight_of : List Update → ℕ
weight_of us = sum_by (λ u. unsigned_abs u.diff) us

-- cs has, for each pair of datum and time, the sum of its differences in us, zeros left out, by datum and time
abbrev pub IsCons : List Update → List Update → Type 0
IsCons us cs = IsConsolidation moment_cmp (map moment_entry us) (map moment_entry cs)

-- the updates up to a time
abbrev pub until : ℕ → List Update → List Update
until t us = filter (λ u. nat_le u.time t) us

-- rows has, for each datum, the sum of its differences in us up to t, zeros left out, by datum
abbrev pub IsSum : List Update → ℕ → List Row → Type 0
IsSum us t rows = IsConsolidation (slice_cmp nat_cmp) (map datum_entry (until t us)) (map row_entry rows)

-- the updates from f on that g covers
abbrev pub between : Option ℕ → Option ℕ → List Update → List Update
between f g us = filter (λ u. is_from f u.time && covers g u.time) us

-- the consolidation of the updates from f on that g covers, by time and datum
abbrev pub IsSlice : List Update → Option ℕ → Option ℕ → List Update → Type 0
IsSlice us f g cs = IsConsolidation time_cmp (map time_entry (between f g us)) (map time_entry cs)

-- each time below s is s
abbrev pub moved_by : ℕ → Update → Update
moved_by s u = record u { time = max u.time s }

-- each update moved up to s
abbrev pub moved : List Update → ℕ → List Update
moved us s = map (moved_by s) us

-- the update of an entry
abbrev pub update_at : (List ℕ × ℕ) × ℤ → Update
update_at e = record { datum = e.0.0; time = e.0.1; diff = e.1 }

-- the consolidation of a list
abbrev pub cons : List Update → List Update
cons us = map update_at (consolidated moment_cmp (map moment_entry us))

-- the row of an entry
abbrev pub row_at : List ℕ × ℤ → Row
row_at e = record { datum = e.0; diff = e.1 }

-- the content at a time
abbrev pub sum_of : List Update → ℕ → List Row
sum_of us t = map row_at (consolidated (slice_cmp nat_cmp) (map datum_entry (until t us)))

-- the update of an entry by time
abbrev pub update_in_time : (ℕ × List ℕ) × ℤ → Update
update_in_time e = record { datum = e.0.1; time = e.0.0; diff = e.1 }

-- the consolidation, in time, of the updates from f on that g covers
abbrev pub slice_of : List Update → Option ℕ → Option ℕ → List Update
slice_of us f g = map update_in_time (consolidated time_cmp (map time_entry (between f g us)))

-- g covers no time of the list
pub record OutOf (g : Option ℕ) (us : List Update) : Type 0 where
  pub all : AllByRecursion (λ u. covers g u.time ≡ false) us
