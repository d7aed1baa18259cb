use Rattle.std.proofs.Common.{◌≡◌, ℕ, suc, ◌<◌, ◌≤◌, true, List, [], ◌∷◌, ◌++◌, refl, arith, subst, sym, Some, None, Option}
use Rattle.std.proofs.lemmas.Bool.{ltb-true, le-leb}
use Rattle.std.specs.List.{AllByRecursion}
use Rattle.update_core.specs.Frontiers.{covers}
use Rattle.state_core.proofs.ListLemmas.{each_front, each_back}
use Rattle.store_core.specs.declared.part_keys.PartKey.{PartKey}
use Rattle.spine_core.specs.Spines.{Follows, upper_from}
use Rattle.spine_core.specs.declared.batches.Batch.{Batch}
use Rattle.state_core.specs.declared.transitions.Transition.{Transition}
use Rattle.state_core.specs.declared.transitions.Transition.TheVariants.{Init, Join, Leave, Renew, Advance, Expire, Append, Merge}
use Rattle.state_core.specs.States.{ShardState, IsState, keys_of}
use Rattle.state_core.specs.Steps.{Applies}

-- a frontier that covers a time covers each earlier one
pub covers_earlier : (f : Option ℕ) (a t : ℕ) → t ≤ a → covers f a ≡ true → covers f t ≡ true
covers_earlier None a t le h = refl
covers_earlier (Some n) a t le h = let lt : a < n = ltb-true a n h in le-leb (suc t) n (omega arith)

pub covers_open : (n t : ℕ) → covers (Some n) t ≡ true → t < n
covers_open n t h = ltb-true t n h

-- the batches run from one frontier to another without a gap
abbrev pub Runs : Option ℕ → List Batch → Option ℕ → Type 0
Runs from [] to = from ≡ to
Runs from (b ∷ bs) to = (from ≡ Some b.desc.lower) × (covers b.desc.upper b.desc.lower ≡ true) × Runs b.desc.upper bs to

pub runs_of : (f : Option ℕ) (bs : List Batch) → Follows f bs → Runs f bs (upper_from f bs)
runs_of f [] h = refl
runs_of f (b ∷ bs) h = (h.0, h.1, runs_of b.desc.upper bs h.2)

pub runs_follow : (f : Option ℕ) (bs : List Batch) (to : Option ℕ) → Runs f bs to → Follows f bs
runs_follow f [] to h = tt
runs_follow f (b ∷ bs) to h = (h.0, h.1, runs_follow b.desc.upper bs to h.2)

pub runs_upper : (f : Option ℕ) (bs : List Batch) (to : Option ℕ) → Runs f bs to → to ≡ upper_from f bs
runs_upper f [] to h = sym h
runs_upper f (b ∷ bs) to h = runs_upper b.desc.upper bs to h.2

pub runs_state : (s : ShardState) → IsState s → Runs (Some 0) s.batches s.upper
runs_state s r = subst (λ (g : Option ℕ). Runs (Some 0) s.batches g) (sym r.upper_is) (runs_of (Some 0) s.batches r.spine)

-- the batches run to a frontier that covers what their start covers
pub runs_cover : (f : Option ℕ) (bs : List Batch) (to : Option ℕ) (t : ℕ) → Runs f bs to → covers f t ≡ true → covers to t ≡ true
runs_cover f [] to t r h = subst (λ (g : Option ℕ). covers g t ≡ true) r h
runs_cover f (b ∷ bs) to t r h =
    let lt : t < b.desc.lower = covers_open b.desc.lower t (subst (λ (g : Option ℕ). covers g t ≡ true) r.0 h) in
    runs_cover b.desc.upper bs to t r.2 (covers_earlier b.desc.upper b.desc.lower t (omega arith) r.1)

-- no batch covers more than the frontier to which they run
pub runs_each : (f : Option ℕ) (bs : List Batch) (to : Option ℕ) → Runs f bs to → AllByRecursion (λ b. (t : ℕ) → covers b.desc.upper t ≡ true → covers to t ≡ true) bs
runs_each f [] to r = tt
runs_each f (b ∷ bs) to r = ((λ t h. runs_cover b.desc.upper bs to t r.2 h), runs_each b.desc.upper bs to r.2)

-- two batches that follow one another
pub runs_pair : (f : Option ℕ) (before behind : List Batch) (l r : Batch) (to : Option ℕ) → Runs f (before ++ l ∷ r ∷ behind) to → (l.desc.upper ≡ Some r.desc.lower) × (covers l.desc.upper l.desc.lower ≡ true) × (covers r.desc.upper r.desc.lower ≡ true)
runs_pair f [] behind l r to h = (h.2.0, h.1, h.2.1)
runs_pair f (b ∷ before) behind l r to h = runs_pair b.desc.upper before behind l r to h.2

-- upper never falls
pub upper_rises : (t : ℕ) (s s2 : ShardState) (x : Transition) → Applies s x s2 → covers s.upper t ≡ true → covers s2.upper t ≡ true
upper_rises t s s2 Init a h = absurd a.makes
upper_rises t s s2 (Join kind now lease) a h = rw a.makes.effect h
upper_rises t s s2 (Leave member) a h = rw a.makes.effect h
upper_rises t s s2 (Renew member now) a h = rw a.makes.effect h
upper_rises t s s2 (Advance member to) a h = rw a.makes.effect h
upper_rises t s s2 (Expire now) a h = rw a.makes.effect h
upper_rises t s s2 (Append member token expected new parts rows weight) a h =
    let lt : t < expected = covers_open expected t (subst (λ (g : Option ℕ). covers g t ≡ true) a.makes.fits h) in
    rw a.makes.effect (covers_earlier new expected t (omega arith) a.makes.shape.forward)
upper_rises t s s2 (Merge member token left right merged) a h = rw a.makes.effect h

-- while upper is at 0 nothing weighs
abbrev pub Unweighed : ShardState → Type 0
Unweighed s = s.upper ≡ Some 0 → s.weight ≡ 0

pub unweighed_on : (s s2 : ShardState) (x : Transition) → Applies s x s2 → Unweighed s → Unweighed s2
unweighed_on s s2 Init a h = absurd a.makes
unweighed_on s s2 (Join kind now lease) a h = rw a.makes.effect h
unweighed_on s s2 (Leave member) a h = rw a.makes.effect h
unweighed_on s s2 (Renew member now) a h = rw a.makes.effect h
unweighed_on s s2 (Advance member to) a h = rw a.makes.effect h
unweighed_on s s2 (Expire now) a h = rw a.makes.effect h
unweighed_on s s2 (Append member token expected new parts rows weight) a h =
    rw a.makes.effect (λ e. let c : expected < 0 = covers_open 0 expected (subst (λ (g : Option ℕ). covers g expected ≡ true) e a.makes.shape.forward) in absurd (omega arith))
unweighed_on s s2 (Merge member token left right merged) a h = rw a.makes.effect h

-- what holds of each key of the batches holds of each part of each
pub each_part : (P : PartKey → Type 0) (bs : List Batch) → AllByRecursion P (keys_of bs) → AllByRecursion (λ b. AllByRecursion P b.parts) bs
each_part P [] h = tt
each_part P (b ∷ bs) h = (each_front P b.parts (keys_of bs) h, each_part P bs (each_back P b.parts (keys_of bs) h))
