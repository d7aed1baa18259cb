-- A store that is created or opened on a disk after a look at its length.
use Rattle.std.proofs.Common.{◌≡◌, ◌≢◌, ℕ, ◌≤◌, Option, Some, None, Result, Ok, Err, IfOk, IfErr, List, [], ◌∷◌, length}
use Rattle.std.proofs.Common.{ap, subst, ◌∙◌, arith}
use Rattle.std.specs.Option.{ForSome}
use Rattle.causes.specs.Causes.{Rose}
use Rattle.store_core.specs.Stores.{Stored, empty_store}
use Rattle.journal_core.specs.Disks.{DiskState, DiskHistory, with_state}
use Rattle.journal_core.specs.Calls.{Same, Steps, HasLength}
use Rattle.store_file.specs.declared.open_faults.OpenFault.{OpenFault}
use Rattle.store_file.specs.declared.open_faults.OpenFault.TheVariants as faults
use Rattle.store_file.specs.Causes.{IsCauseOf}
use Rattle.store_file.specs.Replays.{Stands}
use Rattle.persist_app.specs.DiskLefts.{Begins, BeginsWhereTold}

history_is : (h k : DiskHistory) → Some h ≡ Some k → h ≡ k
history_is h k e = cc

-- what the bytes are after a look they were before it
told_before : (P : List ℕ → Type 0) (old new : Option DiskHistory) → Steps Same old new → ForSome new (λ h. P h.now.bytes)
    → ForSome old (λ h. P h.now.bytes)
told_before P None new same holds h is = absurd cc
told_before P (Some k) new same holds h is =
    subst P (ap (λ (d : DiskState). d.bytes) same.1 ∙ ap (λ (d : DiskHistory). d.now.bytes) (history_is k h is))
    (holds (with_state k same.0) same.2)

pub rose_before : (early before now : ℕ) → early ≤ before → Rose before now → Rose early now
rose_before early before now le rose = omega arith

pub cause_before : (old new : Option DiskHistory) (before mid now : ℕ) (why : OpenFault) → Steps Same old new → before ≤ mid
    → IsCauseOf new mid now why → IsCauseOf old before now why
cause_before old new before mid now faults.DiskFault same later cause = rose_before before mid now later cause
cause_before old new before mid now faults.NotAStore same later cause = told_before _ old new same cause
cause_before old new before mid now (faults.Damaged at) same later cause = told_before _ old new same cause
cause_before old new before mid now faults.Memory same later cause = tt

pub if_err_so : {A E : Type 0} (P Q : E → Type 0) (r : Result A E) → ((e : E) → P e → Q e) → IfErr r P → IfErr r Q
if_err_so P Q (Ok x) so p = tt
if_err_so P Q (Err e) so p = so e p

pub if_ok_so : {A E : Type 0} (P Q : A → Type 0) (r : Result A E) → ((x : A) → P x → Q x) → IfOk r P → IfOk r Q
if_ok_so P Q (Ok x) so p = so x p
if_ok_so P Q (Err e) so p = tt

begins_none : (bytes : List ℕ) (s : Stored) → 0 ≡ length bytes → s ≡ empty_store → Begins bytes s
begins_none [] s len empty = empty
begins_none (b ∷ bs) s len empty = absurd (grind arith)

begins_some : (bytes : List ℕ) (s : Stored) (n : ℕ) → n ≡ length bytes → n ≢ 0 → Stands s bytes → Begins bytes s
begins_some [] s n len some stands = absurd (some len)
begins_some (b ∷ bs) s n len some stands = stands

told_length : (old : Option DiskHistory) (n : ℕ) → HasLength old n → ForSome old (λ h. n ≡ length h.now.bytes)
told_length None n len h is = absurd cc
told_length (Some k) n len h is = len ∙ ap (λ (d : DiskHistory). length d.now.bytes) (history_is k h is)

-- a disk without bytes gets an empty store
pub begins_made : (old : Option DiskHistory) (s : Stored) → HasLength old 0 → s ≡ empty_store → BeginsWhereTold old s
begins_made old s len empty h is = begins_none h.now.bytes s (told_length old 0 len h is) empty

-- one with bytes begins the store that they stand for
pub begins_held : (old new : Option DiskHistory) (n : ℕ) (s : Stored) → HasLength old n → n ≢ 0 → Steps Same old new
    → ForSome new (λ h. Stands s h.now.bytes) → BeginsWhereTold old s
begins_held old new n s len some same stands h is =
    begins_some h.now.bytes s n (told_length old n len h is) some (told_before (Stands s) old new same stands h is)
