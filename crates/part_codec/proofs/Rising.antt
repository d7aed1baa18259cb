-- Rows that rise one by one rise all.
use Rattle.std.proofs.Common.{◌≡◌, ℕ, true, Option, Some, None, List, [], ◌∷◌, refl, ap}
use Rattle.std.specs.declared.cmp.Ordering.{Ordering}
use Rattle.std.specs.declared.cmp.Ordering.TheVariants.{Less, Equal, Greater}
use Rattle.std.specs.Ordering.{is_lt}
use Rattle.std.specs.List.{AllByRecursion}
use Rattle.std.specs.List.Sorted.{IsStrictlySortedBy}
use Rattle.update_core.proofs.UpdateLaws.{moments_total}
use Rattle.update_core.specs.declared.updates.Update.{Update}
use Rattle.update_core.specs.Updates.{moment_cmp}
use Rattle.part_codec.specs.Parts.{moments, Rising}
use Rattle.part_codec.specs.Reading.{follows}

-- each row may follow the one before it
abbrev pub RisesAfter : Option Update → List Update → Type 0
RisesAfter before [] = Unit {0}
RisesAfter before (u ∷ us) = (follows before u ≡ true) × RisesAfter (Some u) us

less : (r : Ordering) → is_lt r ≡ true → r ≡ Less
less Less h = refl
less Equal h = cc
less Greater h = cc

further : (a b : List ℕ × ℕ) (ms : List (List ℕ × ℕ)) → moment_cmp a b ≡ Less → AllByRecursion (λ m. moment_cmp b m ≡ Less) ms → AllByRecursion (λ m. moment_cmp a m ≡ Less) ms
further a b [] h all = tt
further a b (m ∷ ms) h all = (moments_total.trans a b m h all.0, further a b ms h all.1)

all_above : (b : Update) (us : List Update) → RisesAfter (Some b) us → AllByRecursion (λ m. moment_cmp (b.datum, b.time) m ≡ Less) (moments us)
all_above b [] h = tt
all_above b (u ∷ us) h =
    let first = less (moment_cmp (b.datum, b.time) (u.datum, u.time)) h.0 in (first, further (b.datum, b.time) (u.datum, u.time) (moments us) first (all_above u us h.1))

pub all_rise : (before : Option Update) (us : List Update) → RisesAfter before us → Rising us
unfolding IsStrictlySortedBy
all_rise before [] h = tt
all_rise before (u ∷ us) h = (all_above u us h.1, all_rise (Some u) us h.1)

each_follows : (b : Update) (us : List Update) → AllByRecursion (λ m. moment_cmp (b.datum, b.time) m ≡ Less) (moments us) → Rising us → RisesAfter (Some b) us
unfolding IsStrictlySortedBy
each_follows b [] all h = tt
each_follows b (u ∷ us) all h = (ap is_lt all.0, each_follows u us h.0 h.1)

pub each_rises : (us : List Update) → Rising us → RisesAfter None us
unfolding IsStrictlySortedBy
each_rises [] h = tt
each_rises (u ∷ us) h = (refl, each_follows u us h.0 h.1)
