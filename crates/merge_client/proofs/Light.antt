-- A pair that was got isn't too heavy.
use Rattle.std.proofs.Common.{◌≡◌, ◌≤◌, ◌^◌, ◌++◌, ℕ, Bool, true, false, if◌then◌else◌, Option, Some, None, List, [], ◌∷◌, refl, sym, subst, arith}
use Rattle.std.specs.Prelude.{⊤}
use Rattle.std.specs.List.{slice_get}
use Rattle.update_core.specs.declared.updates.Update.{Update}
use Rattle.update_core.specs.Updates.{weight_of}
use Rattle.spine_core.specs.declared.batches.Batch.{Batch}
use Rattle.store_core.specs.declared.part_keys.PartKey.{PartKey}
use Rattle.store_core.specs.declared.replies.Reply.{Reply}
use Rattle.state_core.specs.declared.members.Member.{Member}
use Rattle.state_core.specs.Refusals.{is_keeper, member_of}
use Rattle.state_core.specs.States.{ShardState}
use Rattle.load_core.specs.declared.fetches.Fetched.{Fetched}
use Rattle.load_core.specs.declared.fetches.Fetched.TheVariants as fetches
use Rattle.load_core.specs.declared.gettings.Getting.{Getting}
use Rattle.load_core.specs.declared.polls.Poll.{Poll}
use Rattle.load_core.specs.declared.polls.Poll.TheVariants as polls
use Rattle.load_core.specs.declared.damages.Damage.TheVariants as damages
use Rattle.load_core.specs.Getting as getting
use Rattle.change_core.specs.Changes.{is_gone}
use Rattle.read_machine.specs.declared.courses.Course.{Course}
use Rattle.read_machine.specs.declared.looks.Look.TheVariants as looks
use Rattle.read_machine.specs.declared.readings.Reading.{Reading}
use Rattle.read_machine.specs.declared.sights.Sight.TheVariants as sights
use Rattle.read_machine.specs.Courses.{MovesByFetched, counted, expired, holding, look_sight, member_sight, rows_by, sight_poll}
use Rattle.read_machine.specs.Readings as readings
use Rattle.read_machine.proofs.HowRead.{HowRead, unscanned, damaged, scanned, checked, got}
use Rattle.read_machine.proofs.Replied.{read_so}
use Rattle.merge_client.specs.declared.dues.Due.{Due}
use Rattle.merge_client.specs.declared.founds.Found.{Found}
use Rattle.merge_client.specs.declared.founds.Found.TheVariants as founds
use Rattle.merge_client.specs.Finding.{finding, found_at, found_by, look_at, look_by, places_in}

-- where a poll tells a pair, its rows aren't too heavy
abbrev pub IsLight : Poll Found → Type 0
IsLight (polls.Done (founds.Due p)) = weight_of p.rows ≤ 2 ^ 62
IsLight _ = ⊤

both_light : (s : ShardState) (rows : List Update) (l r : Option Batch) → weight_of rows ≤ 2 ^ 62 →
    IsLight (polls.Done (found_at s rows l r))
both_light s rows (Some l) (Some r) h = h
both_light s rows (Some l) None h = tt
both_light s rows None r h = tt

found_light : (s : ShardState) (rows : List Update) (o : Option (ℕ × ℕ)) → weight_of rows ≤ 2 ^ 62 →
    IsLight (polls.Done (found_by s rows o))
found_light s rows None h = tt
found_light s rows (Some p) h = both_light s rows (slice_get s.batches p.0) (slice_get s.batches p.1) h

none_light : weight_of [] ≤ 2 ^ 62
none_light = let none : weight_of [] ≡ 0 = refl in omega arith

module _ (c : Course) (q : Due) (s : ShardState) where
  parts_light : (ks : List PartKey) → IsLight (sight_poll finding c q (look_sight finding q s (looks.Parts ks)))
  parts_light [] = found_light s [] (places_in s) none_light
  parts_light (k ∷ ks) = tt

  both_looked : (l r : Option Batch) → IsLight (sight_poll finding c q (look_sight finding q s (look_at s l r)))
  both_looked (Some l) (Some r) = parts_light (l.parts ++ r.parts)
  both_looked (Some l) None = tt
  both_looked None r = tt

  looked_light : (o : Option (ℕ × ℕ)) → IsLight (sight_poll finding c q (look_sight finding q s (look_by s o)))
  looked_light None = tt
  looked_light (Some p) = both_looked (slice_get s.batches p.0) (slice_get s.batches p.1)

  taken_light : (b : Bool) → IsLight (sight_poll finding c q (if b then look_sight finding q s (look_by s (places_in s))
      else sights.Strange))
  taken_light true = looked_light (places_in s)
  taken_light false = tt

  seen_light : (m : Option Member) → IsLight (sight_poll finding c q (member_sight finding m q s))
  seen_light None = tt
  seen_light (Some m) = taken_light (is_keeper m.kind)

rows_light : (o : Option ShardState) (q : Due) (rows : List Update) → weight_of rows ≤ 2 ^ 62 → IsLight (rows_by finding o q rows)
rows_light None q rows h = tt
rows_light (Some s) q rows h = found_light s rows (places_in s) h

either_light : (b : Bool) (p r : Poll Found) → IsLight p → IsLight r → IsLight (if b then p else r)
either_light true p r h k = h
either_light false p r h k = k

module _ (old : Course) (q : Due) (reply : Reply) (new : Course) (poll : Poll Found) (sound : getting.IsSound new.getting) where
  tells : (p : Poll Found) → poll ≡ p → IsLight p → IsLight poll
  tells p e h = subst IsLight (sym e) h

  of_rows : (g : Getting) → new ≡ record old { getting = g } → weight_of g.rows ≤ 2 ^ 62
  of_rows g now =
      let s : getting.IsSound g = subst (λ (c : Course). getting.IsSound c.getting) now sound in
      let is = s.weight_is in
      let light = s.light in
      omega arith

  fetched_light : (g : Getting) (f : Fetched) → MovesByFetched finding old q g f new poll → IsLight poll
  fetched_light g fetches.More m = tells polls.More m.0 tt
  fetched_light g fetches.Fault m = tells polls.Fault m.0 tt
  fetched_light g (fetches.Missing key) m = tells polls.More m.0 tt
  fetched_light g (fetches.Damaged damage) m = tells (polls.Damaged damage) m.0 tt
  fetched_light g fetches.Done m = tells _ m.0 (rows_light old.loader.cached q g.rows (of_rows g m.1))

  how_light : HowRead finding old q reply new poll → IsLight poll
  how_light (unscanned st r p n) = tells polls.Fault p tt
  how_light (damaged vs damage st r e p n) = tells (polls.Damaged damage) p tt
  how_light (scanned vs s st r e by) = tells _ by.0 (seen_light (holding old s) q s (member_of old.member s.members))
  how_light (checked key vs s st r e p n) =
      tells _ p (either_light (is_gone old.member (Some s)) (expired finding (holding old s) q) (polls.Damaged
      (damages.Missing key)) tt tt)
  how_light (got g f st m how by) = fetched_light g f by

-- what a reading comes to
pub read_light : (m new : Reading Due) (reply : Reply) (poll : Poll Found) → readings.Moves finding m reply new poll →
    readings.IsSound finding new → IsLight poll
read_light m new reply poll moves sound =
    let x = read_so finding m new reply poll moves in
    how_light (counted m.course) x.q reply x.course poll (subst (λ (r : Reading Due). getting.IsSound r.course.getting)
    x.now sound.getting) x.how
