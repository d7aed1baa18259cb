-- How a run of disk calls goes on.
use Rattle.std.proofs.Common.{◌≡◌, inl, inr, ℕ, List, [], ◌∷◌, ◌++◌, Option, Some, None, refl, sym, ap, ◌∙◌, subst}
use Rattle.std.specs.List.{AllByRecursion}
use Rattle.journal_core.specs.Disks.{DiskState, DiskHistory, with_state, states}
use Rattle.journal_core.specs.Calls.{Steps, MayStep}
use Rattle.journal_core.specs.Crashes.{LeavesNow, Leaves}

-- before the first call
pub leaves_first : (P : List ℕ → Type 0) (h : DiskHistory) → LeavesNow P h.now → Leaves P h h
leaves_first P h here = record { later = []; grown = refl; first = here; each = tt }

-- one call more, after which a crash leaves what has P
pub leaves_more : (P : List ℕ → Type 0) (h k : DiskHistory) (s : DiskState) → Leaves P h k → LeavesNow P s → Leaves P h (with_state k s)
leaves_more P h k s so_far here = record {
  later = s ∷ so_far.later;
  grown = ap (λ (l : List DiskState). s ∷ l) so_far.grown;
  first = so_far.first;
  each = (here, so_far.each);
}

-- where the disk is told, old and new are so
abbrev pub Told : (DiskHistory → DiskHistory → Type 0) → Option DiskHistory → Option DiskHistory → Type 0
Told R None new = new ≡ None
Told R (Some h) new = (k : DiskHistory) × (new ≡ Some k) × R h k

some_is : (h k : DiskHistory) → Some h ≡ Some k → h ≡ k
some_is h k e = cc

-- one call more
pub told_step : (R R2 : DiskHistory → DiskHistory → Type 0) (step : DiskState → DiskState → Type 0) (old mid new : Option DiskHistory)
    → Told R old mid → Steps step mid new → ((h k : DiskHistory) (s : DiskState) → R h k → step k.now s → R2 h (with_state k s))
    → Told R2 old new
told_step R R2 step None None new so_far steps on = steps
told_step R R2 step None (Some m) new so_far steps on = absurd cc
told_step R R2 step (Some h) None new so_far steps on = let e : None ≡ Some so_far.0 = so_far.1 in absurd cc
told_step R R2 step (Some h) (Some m) new so_far steps on = (
  with_state m steps.0,
  steps.2,
  on h m steps.0 (subst (λ (k : DiskHistory). R h k) (sym (some_is m so_far.0 so_far.1)) so_far.2)
      steps.1,
)

-- the same for one that failed
pub told_may_step : (R R2 : DiskHistory → DiskHistory → Type 0) (step : DiskState → DiskState → Type 0) (old mid new : Option DiskHistory)
    → Told R old mid → MayStep step mid new → ((h k : DiskHistory) → R h k → R2 h k)
    → ((h k : DiskHistory) (s : DiskState) → R h k → step k.now s → R2 h (with_state k s)) → Told R2 old new
told_may_step R R2 step old mid new so_far (inr steps) stay on = told_step R R2 step old mid new so_far steps on
told_may_step R R2 step None mid new so_far (inl same) stay on = same ∙ so_far
told_may_step R R2 step (Some h) mid new so_far (inl same) stay on = (so_far.0, same ∙ so_far.1, stay h so_far.0 so_far.2)

-- no call yet
pub told_first : (R : DiskHistory → DiskHistory → Type 0) (old : Option DiskHistory) → ((h : DiskHistory) → old ≡ Some h → R h h)
    → Told R old old
told_first R None here = refl
told_first R (Some h) here = (h, refl, here h refl)

-- what follows of it
pub told_so : (R R2 : DiskHistory → DiskHistory → Type 0) (old new : Option DiskHistory) → Told R old new
    → ((h k : DiskHistory) → R h k → R2 h k) → Told R2 old new
told_so R R2 None new so_far on = so_far
told_so R R2 (Some h) new so_far on = (so_far.0, so_far.1, on h so_far.0 so_far.2)

head_is : (s t : DiskState) (ss ts : List DiskState) → s ∷ ss ≡ t ∷ ts → s ≡ t
head_is s t ss ts e = cc

last_leaves : (P : List ℕ → Type 0) (h k : DiskHistory) (later : List DiskState) → states k ≡ later ++ states h → LeavesNow P h.now
    → AllByRecursion (LeavesNow P) later → LeavesNow P k.now
last_leaves P h k [] grown first each = subst (LeavesNow P) (sym (head_is k.now h.now k.past h.past grown)) first
last_leaves P h k (s ∷ later) grown first each = subst (LeavesNow P) (sym (head_is k.now s k.past (later ++ states h) grown)) each.0

-- so it is of the disk as it is
pub leaves_now : (P : List ℕ → Type 0) (h k : DiskHistory) → Leaves P h k → LeavesNow P k.now
leaves_now P h k safe = last_leaves P h k safe.later safe.grown safe.first safe.each

-- a call that changed nothing
pub leaves_same : (P : List ℕ → Type 0) (h k : DiskHistory) (s : DiskState) → Leaves P h k → s ≡ k.now → Leaves P h (with_state k s)
leaves_same P h k s safe same = leaves_more P h k s safe (subst (LeavesNow P) (sym same) (leaves_now P h k safe))
