use Rattle.std.proofs.Common.{◌≡◌, ℕ, ◌+◌, ◌≤◌, min, false, cond, List, [], ◌∷◌, inl, inr, refl, arith, eqb}
use Rattle.std.specs.List.{AllByRecursion}
use Rattle.state_core.proofs.ListLemmas.{each_map, each_append, bool_cases}
use Rattle.state_core.specs.declared.kinds.Kind.{Kind}
use Rattle.state_core.specs.declared.kinds.Kind.TheVariants.{Writer, Reader, Keeper}
use Rattle.state_core.specs.declared.members.Member.{Member}
use Rattle.state_core.specs.declared.transitions.Transition.{Transition}
use Rattle.state_core.specs.declared.transitions.Transition.TheVariants.{Init, Join, Leave, Renew, Advance, Expire, Append, Merge}
use Rattle.std.specs.Prelude.{Option, Some, None, unwrap_or}
use Rattle.state_core.specs.States.{ShardState, least_hold, floor, is_writer, or_least}
use Rattle.state_core.specs.Steps.{Applies, without, unexpired, changed, is_out, beat_of}

-- the member doesn't hold back versions from n on
abbrev Holds : ℕ → Member → Type 0
Holds n m = is_writer m.kind ≡ false → n ≤ m.hold

floor_greatest : (n top : ℕ) (ms : List Member) → n ≤ top → AllByRecursion (Holds n) ms → n ≤ least_hold top ms
floor_greatest n top [] a h = a
floor_greatest n top (m ∷ ms) a h =
    let rest : n ≤ least_hold top ms = floor_greatest n top ms a h.1 in
    elim (bool_cases (is_writer m.kind)) [
      | inl e ↦ rw e rest
      | inr e ↦ let own : n ≤ m.hold = h.0 e in rw e (omega arith)
    ]

pub floor_top : (top : ℕ) (ms : List Member) → least_hold top ms ≤ top
floor_top top [] = omega arith
floor_top top (m ∷ ms) =
    let rest : least_hold top ms ≤ top = floor_top top ms in
    elim (bool_cases (is_writer m.kind)) [ inl e ↦ rw e rest | inr e ↦ rw e (omega arith) ]

least_falls : (top : ℕ) (m : Member) (ms : List Member) → least_hold top (m ∷ ms) ≤ least_hold top ms
least_falls top m ms = elim (bool_cases (is_writer m.kind)) [ inl e ↦ rw e (omega arith) | inr e ↦ rw e (omega arith) ]

least_of_head : (top : ℕ) (m : Member) (ms : List Member) → Holds (least_hold top (m ∷ ms)) m
least_of_head top m ms e = rw e (omega arith)

floor_holds : (top : ℕ) (ms : List Member) → AllByRecursion (Holds (least_hold top ms)) ms
floor_holds top [] = tt
floor_holds top (m ∷ ms) = (
  least_of_head top m ms,
  each_map (Holds (least_hold top ms)) (Holds (least_hold top (m ∷ ms))) ms
      (λ x h g. let k : least_hold top ms ≤ x.hold = h g in let low : least_hold top (m ∷ ms) ≤ least_hold top ms = least_falls top m ms in omega arith) (floor_holds top ms),
)

holds_without : (n member : ℕ) (ms : List Member) → AllByRecursion (Holds n) ms → AllByRecursion (Holds n) (without member ms)
holds_without n member [] h = h
holds_without n member (m ∷ ms) h =
    let rest : AllByRecursion (Holds n) (without member ms) = holds_without n member ms h.1 in
    elim (bool_cases (eqb m.number member)) [ inl e ↦ rw e rest | inr e ↦ rw e (h.0, rest) ]

holds_unexpired : (n now : ℕ) (ms : List Member) → AllByRecursion (Holds n) ms → AllByRecursion (Holds n) (unexpired now ms)
holds_unexpired n now [] h = h
holds_unexpired n now (m ∷ ms) h =
    let rest : AllByRecursion (Holds n) (unexpired now ms) = holds_unexpired n now ms h.1 in
    elim (bool_cases (is_out now m)) [ inl e ↦ rw e rest | inr e ↦ rw e (h.0, rest) ]

holds_changed : (n member : ℕ) (f : Member → Member) (ms : List Member) → ((m : Member) → Holds n m → Holds n (f m)) → AllByRecursion (Holds n) ms → AllByRecursion (Holds n) (changed member f ms)
holds_changed n member f [] g h = h
holds_changed n member f (m ∷ ms) g h =
    let rest : AllByRecursion (Holds n) (changed member f ms) = holds_changed n member f ms g h.1 in
    elim (bool_cases (eqb m.number member)) [ inl e ↦ rw e (g m h.0, rest) | inr e ↦ rw e (h.0, rest) ]

-- the floor never falls
pub floor_rises : (s s2 : ShardState) (x : Transition) → Applies s x s2 → floor s ≤ floor s2
floor_rises s s2 Init a = absurd a.makes
floor_rises s s2 (Join kind now lease) a =
    let top : floor s ≤ s.number = floor_top s.number s.members in
    let up : floor s ≤ s.number + 1 = omega arith in
    let new : (k : Kind) → is_writer k ≡ false → floor s ≤ beat_of k (s.number + 1) = elim [ Writer ↦ (λ e. cc) | Reader ↦ (λ e. up) | Keeper ↦ (λ e. up) ] in
    rw a.makes.effect (floor_greatest (floor s) (s.number + 1) _ up
    (each_append (Holds (floor s)) s.members _ (floor_holds s.number s.members) (new kind, tt)))
floor_rises s s2 (Leave member) a =
    let top : floor s ≤ s.number = floor_top s.number s.members in
    let up : floor s ≤ s.number + 1 = omega arith in
    rw a.makes.effect (floor_greatest (floor s) (s.number + 1) _ up (holds_without (floor s) member s.members (floor_holds s.number s.members)))
floor_rises s s2 (Renew member now) a =
    let top : floor s ≤ s.number = floor_top s.number s.members in
    let up : floor s ≤ s.number + 1 = omega arith in
    rw a.makes.effect (floor_greatest (floor s) (s.number + 1) _ up (holds_changed (floor s) member _ s.members (λ m h g. up) (floor_holds s.number s.members)))
floor_rises s s2 (Advance member to) a =
    let top : floor s ≤ s.number = floor_top s.number s.members in
    let up : floor s ≤ s.number + 1 = omega arith in
    rw a.makes.effect (floor_greatest (floor s) (s.number + 1) _ up (holds_changed (floor s) member _ s.members (λ m h g. h g) (floor_holds s.number s.members)))
floor_rises s s2 (Expire now) a =
    let top : floor s ≤ s.number = floor_top s.number s.members in
    let up : floor s ≤ s.number + 1 = omega arith in
    rw a.makes.effect (floor_greatest (floor s) (s.number + 1) _ up (holds_unexpired (floor s) now s.members (floor_holds s.number s.members)))
floor_rises s s2 (Append member token expected new parts rows weight) a =
    let top : floor s ≤ s.number = floor_top s.number s.members in
    let up : floor s ≤ s.number + 1 = omega arith in
    rw a.makes.effect (floor_greatest (floor s) (s.number + 1) _ up (holds_changed (floor s) member _ s.members (λ m h g. h g) (floor_holds s.number s.members)))
floor_rises s s2 (Merge member token left right merged) a =
    let top : floor s ≤ s.number = floor_top s.number s.members in
    let up : floor s ≤ s.number + 1 = omega arith in
    rw a.makes.effect (floor_greatest (floor s) (s.number + 1) _ up (holds_changed (floor s) member _ s.members (λ m h g. up) (floor_holds s.number s.members)))

-- the floor is the least hold of those that hold, or the number where none does
pub held : List Member → Option ℕ
held [] = None
held (m ∷ ms) = cond (is_writer m.kind) (held ms) (or_least (held ms) m.hold)

pub floor_exact : (top : ℕ) (ms : List Member) → AllByRecursion (λ m. m.hold ≤ top) ms → least_hold top ms ≡ unwrap_or (held ms) top
unfolding held
floor_exact top [] h = refl
floor_exact top (m ∷ ms) h =
    let rest = floor_exact top ms h.1 in
    let le : m.hold ≤ top = h.0 in
    elim (bool_cases (is_writer m.kind)) [ inl e ↦ rw e rest | inr e ↦ rw (e, rest) (both (held ms)) ]
  where
    both : (o : Option ℕ) → min m.hold (unwrap_or o top) ≡ unwrap_or (or_least o m.hold) top
    both None = let le : m.hold ≤ top = h.0 in omega arith
    both (Some n) = omega arith
