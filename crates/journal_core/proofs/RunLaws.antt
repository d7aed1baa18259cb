-- A run of records that are added.
use Rattle.std.proofs.Common.{◌≡◌, inl, inr, ℕ, suc, List, [], ◌∷◌, ◌++◌, take, Some, refl, sym, ap}
use Rattle.std.proofs.Common.{◌∙◌, subst, arith, append_assoc}
use Rattle.std.specs.List.{AllByRecursion}
use Rattle.std.proofs.lemmas.List.{append-nil}
use Rattle.journal_core.specs.Disks.{DiskState, DiskHistory, states}
use Rattle.journal_core.specs.Crashes.{LeavesNow, Leaves}
use Rattle.journal_core.specs.Records.{IsJournal, IsBeforeOrAfter, payloads_of, HasAdded}
use Rattle.journal_core.specs.Runs.{Added, IsRun, IsSure, after_run, payloads_in, HasFirstOf}
use Rattle.journal_core.proofs.Adding.{rests_leave}
use Rattle.journal_core.proofs.Moments.{leaves_first}

both : (P : DiskState → Type 0) (xs ys : List DiskState) → AllByRecursion P xs → AllByRecursion P ys → AllByRecursion P (xs ++ ys)
both P [] ys all more = more
both P (x ∷ xs) ys all more = (all.0, both P xs ys all.1 more)

each_so : (P Q : List ℕ → Type 0) (xs : List DiskState) → ((c : List ℕ) → P c → Q c) → AllByRecursion (LeavesNow P) xs
    → AllByRecursion (LeavesNow Q) xs
each_so P Q [] so all = tt
each_so P Q (x ∷ xs) so all = (λ c left. so c (all.0 c left), each_so P Q xs so all.1)

-- what holds over two parts of a time holds over both
joined : (P Q R : List ℕ → Type 0) (h k m : DiskHistory) → ((c : List ℕ) → P c → R c) → ((c : List ℕ) → Q c → R c) → Leaves P h k
    → Leaves Q k m → Leaves R h m
joined P Q R h k m first_so then_so one two = record {
  later = two.later ++ one.later;
  grown = two.grown ∙ ap (λ (l : List DiskState). two.later ++ l) one.grown ∙ sym (append_assoc two.later one.later (states h));
  first = λ c left. first_so c (one.first c left);
  each = both (LeavesNow R) two.later one.later (each_so Q R two.later then_so two.each) (each_so P R one.later first_so one.each);
}

some_is : (h k : DiskHistory) → Some h ≡ Some k → h ≡ k
some_is h k e = cc

-- once a record was answered, the disk is sure, with it
added_sure : (h : DiskHistory) (a : Added) → HasAdded a.payload (Some h) (Some a.disk) a.end
    → IsSure a.disk × (payloads_of a.disk.now.bytes ≡ payloads_of h.now.bytes ++ a.payload ∷ [])
added_sure h a added =
    let same : added.0 ≡ a.disk = sym (some_is a.disk added.0 added.1) in
    let ps = payloads_of h.now.bytes ++ a.payload ∷ [] in
    let sure : IsSure added.0 = λ c left. subst (λ (l : List (List ℕ)). IsJournal l c) (sym added.3)
    (rests_leave added.0.now added.0.now a.end ps added.2 refl added.2.apart c left) in
    (subst IsSure same sure, ap (λ (d : DiskHistory). payloads_of d.now.bytes) (sym same) ∙ added.3)

one_of : (h : DiskHistory) (a : Added) (run : List Added) (c : List ℕ) → IsBeforeOrAfter (payloads_of h.now.bytes) a.payload c
    → HasFirstOf h (a ∷ run) c
one_of h a run c (inl before) = (
  0,
  omega arith,
  subst (λ (l : List (List ℕ)). IsJournal l c) (sym (append-nil (payloads_of h.now.bytes)))
      before,
)
one_of h a run c (inr after) = (1, omega arith, after)

more_of : (h : DiskHistory) (a : Added) (run : List Added) (c : List ℕ)
    → payloads_of a.disk.now.bytes ≡ payloads_of h.now.bytes ++ a.payload ∷ [] → HasFirstOf a.disk run c → HasFirstOf h (a ∷ run) c
more_of h a run c is found = (
  suc found.0,
  omega arith,
  subst (λ (l : List (List ℕ)). IsJournal l c)
      (ap (λ (l : List (List ℕ)). l ++ take found.0 (payloads_in run)) is
      ∙ append_assoc (payloads_of h.now.bytes) (a.payload ∷ []) (take found.0 (payloads_in run))) found.2,
)

pub prefix_left : (h : DiskHistory) (run : List Added) → IsSure h → IsRun h run → Leaves (HasFirstOf h run) h (after_run h run)
prefix_left h [] sure runs = leaves_first (HasFirstOf h []) h
    (λ c left. (0, omega arith, subst (λ (l : List (List ℕ)). IsJournal l c) (sym (append-nil (payloads_of h.now.bytes))) (sure c left)))
prefix_left h (a ∷ run) sure runs =
    let now = added_sure h a runs.1 in
    let safe = subst (λ (k : DiskHistory). Leaves (IsBeforeOrAfter (payloads_of h.now.bytes) a.payload) h k)
    (sym (some_is a.disk runs.0.0 runs.0.1)) runs.0.2 in
    joined (IsBeforeOrAfter (payloads_of h.now.bytes) a.payload) (HasFirstOf a.disk run) (HasFirstOf h (a ∷ run)) h a.disk
    (after_run a.disk run)
    (one_of h a run) (λ c. more_of h a run c now.1) safe (prefix_left a.disk run now.0 runs.2)

pub all_there : (h : DiskHistory) (run : List Added) → IsSure h → IsRun h run
    → (payloads_of (after_run h run).now.bytes ≡ payloads_of h.now.bytes ++ payloads_in run) × IsSure (after_run h run)
all_there h [] sure runs = (sym (append-nil (payloads_of h.now.bytes)), sure)
all_there h (a ∷ run) sure runs =
    let now = added_sure h a runs.1 in
    let more = all_there a.disk run now.0 runs.2 in (
      more.0 ∙ ap (λ (l : List (List ℕ)). l ++ payloads_in run) now.1
          ∙ append_assoc (payloads_of h.now.bytes) (a.payload ∷ []) (payloads_in run),
      more.1,
    )
