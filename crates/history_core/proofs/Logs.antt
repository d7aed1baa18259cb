-- The versions of a log, by their numbers.
use Rattle.std.proofs.Common.{◌≡◌, ◌&&◌, ℕ, zero, suc, ◌+◌, ◌-◌, ◌<◌, ◌≤◌, min, Bool, true, false, cond, List, [], ◌∷◌, ◌++◌, ◌⊎◌, inl, inr, refl, arith, subst, sym, ap, ◌∙◌, eqb, Some, None, Option, length, drop, length-append}
use Rattle.std.specs.Prelude.{nat_le, nat_lt, filter}
use Rattle.std.proofs.lemmas.Bool.{eqb-true, eqb-false, eq-eqb, ne_eqb}
use Rattle.std.proofs.lemmas.Bool.Decides.{nat_tests}
use Rattle.state_core.specs.Lists.{Among}
use Rattle.state_core.proofs.ListLemmas.{bool_cases}
use Rattle.store_core.specs.declared.versions.Version.{Version}
use Rattle.store_core.specs.Changes.{commits}
use Rattle.store_core.specs.Stores.{Log, last_number, same_number, next_number, last_of, numbered, live, committed, truncated, gone}
use Rattle.history_core.specs.Histories.{bytes_from, version_at}
use Rattle.history_core.specs.Stands.{end_of}

bounds-from : (first : ℕ) (vs : List (List ℕ)) (n : ℕ) (v : List ℕ) → bytes_from first vs n ≡ Some v →
    (first ≤ n) × (n < first + length vs)
bounds-from first [] n v h = cc
bounds-from first (w ∷ vs) n v h =
    elim (bool_cases (eqb n first)) [
      | inl e ↦ let eq : n ≡ first = eqb-true n first e in (omega arith, omega arith)
      | inr e ↦ let (low, high) = bounds-from (first + 1) vs n v (rw e at h) in (omega arith, omega arith)
    ]

there-from : (first : ℕ) (vs : List (List ℕ)) (n : ℕ) → first ≤ n → n < first + length vs →
    (v : List ℕ) × (bytes_from first vs n ≡ Some v)
there-from first [] n low high = absurd (omega arith)
there-from first (w ∷ vs) n low high =
    elim (bool_cases (eqb n first)) [
      | inl e ↦ (w, rw e)
      | inr e ↦
          let ne : n ≡ first → ⊥ = eqb-false n first e in
          let (v, h) = there-from (first + 1) vs n (omega arith) (omega arith) in (v, rw e h)
    ]

-- past the first one
past : (first n : ℕ) (w : List ℕ) (vs : List (List ℕ)) → first < n → bytes_from first (w ∷ vs) n ≡ bytes_from (first + 1) vs n
past first n w vs lt = let ne : n ≡ first → ⊥ = λ q. omega arith in rw (ne_eqb n first ne) refl

append-old : (first : ℕ) (vs ws : List (List ℕ)) (n : ℕ) (v : List ℕ) → bytes_from first vs n ≡ Some v →
    bytes_from first (vs ++ ws) n ≡ Some v
append-old first [] ws n v h = cc
append-old first (w ∷ vs) ws n v h =
    elim (bool_cases (eqb n first)) [ inl e ↦ rw e (rw e at h) | inr e ↦ rw e (append-old (first + 1) vs ws n v (rw e at h)) ]

append-new : (first : ℕ) (vs : List (List ℕ)) (b : List ℕ) (n : ℕ) → n ≡ first + length vs →
    bytes_from first (vs ++ b ∷ []) n ≡ Some b
append-new first [] b n h = let e : eqb n first ≡ true = eq-eqb n first (omega arith) in rw e
append-new first (w ∷ vs) b n h =
    let ne : n ≡ first → ⊥ = λ q. omega arith in
    let e : eqb n first ≡ false = ne_eqb n first ne in
    rw e (append-new (first + 1) vs b n (omega arith))

append-either : (first : ℕ) (vs : List (List ℕ)) (b : List ℕ) (n : ℕ) (v : List ℕ) →
    bytes_from first (vs ++ b ∷ []) n ≡ Some v → (bytes_from first vs n ≡ Some v) ⊎ ((n ≡ first + length vs) × (v ≡ b))
append-either first [] b n v h =
    elim (bool_cases (eqb n first)) [
      | inl e ↦ let h2 = rw e at h in let eq : n ≡ first = eqb-true n first e in inr (omega arith, cc)
      | inr e ↦ let h2 = rw e at h in cc
    ]
append-either first (w ∷ vs) b n v h =
    elim (bool_cases (eqb n first)) [
      | inl e ↦ inl (rw e (rw e at h))
      | inr e ↦
          elim (append-either (first + 1) vs b n v (rw e at h)) [
            | inl g ↦ inl (rw e g)
            | inr g ↦ let eq : n ≡ (first + 1) + length vs = g.0 in inr (omega arith, g.1)
          ]
    ]

pub version_bounds : (log : Log) (n : ℕ) (v : List ℕ) → version_at log n ≡ Some v → (log.first ≤ n) × (n < end_of log)
version_bounds log n v h = bounds-from log.first log.versions n v h

-- there is no gap
pub version_there : (log : Log) (n : ℕ) → log.first ≤ n → n < end_of log → (v : List ℕ) × (version_at log n ≡ Some v)
version_there log n low high = there-from log.first log.versions n low high

pub committed_old : (log : Log) (b : List ℕ) (n : ℕ) (v : List ℕ) → version_at log n ≡ Some v →
    version_at (committed log b) n ≡ Some v
committed_old log b n v h = append-old log.first log.versions (b ∷ []) n v h

pub committed_new : (log : Log) (b : List ℕ) → version_at (committed log b) (end_of log) ≡ Some b
committed_new log b = append-new log.first log.versions b (end_of log) refl

pub committed_either : (log : Log) (b : List ℕ) (n : ℕ) (v : List ℕ) → version_at (committed log b) n ≡ Some v →
    (version_at log n ≡ Some v) ⊎ ((n ≡ end_of log) × (v ≡ b))
committed_either log b n v h = append-either log.first log.versions b n v h

pub end_of-committed : (log : Log) (b : List ℕ) → end_of (committed log b) ≡ end_of log + 1
end_of-committed log b = omega (arith, length-append log.versions (b ∷ []))

-- ---- cutting

drop-old : (k first : ℕ) (vs : List (List ℕ)) (n : ℕ) (v : List ℕ) → bytes_from (first + k) (drop k vs) n ≡ Some v →
    bytes_from first vs n ≡ Some v
drop-old zero first vs n v h = let e : first + 0 ≡ first = omega arith in subst (λ (j : ℕ). bytes_from j vs n ≡ Some v) e h
drop-old (suc k) first [] n v h = cc
drop-old (suc k) first (w ∷ vs) n v h =
    let e : first + suc k ≡ first + 1 + k = omega arith in
    let rest = drop-old k (first + 1) vs n v (subst (λ (j : ℕ). bytes_from j (drop k vs) n ≡ Some v) e h) in
    let (low, high) = bounds-from (first + 1) vs n v rest in
    past first n w vs (omega arith) ∙ rest

drop-kept : (k first : ℕ) (vs : List (List ℕ)) (n : ℕ) (v : List ℕ) → first + k ≤ n → bytes_from first vs n ≡ Some v →
    bytes_from (first + k) (drop k vs) n ≡ Some v
drop-kept zero first vs n v le h = let e : first ≡ first + 0 = omega arith in subst (λ (j : ℕ). bytes_from j vs n ≡ Some v) e h
drop-kept (suc k) first [] n v le h = cc
drop-kept (suc k) first (w ∷ vs) n v le h =
    let e : first + 1 + k ≡ first + suc k = omega arith in
    subst (λ (j : ℕ). bytes_from j (drop k vs) n ≡ Some v) e (drop-kept k (first + 1) vs n v (omega arith) (sym (past first n w vs (omega arith)) ∙ h))

drop-length : (k : ℕ) (vs : List (List ℕ)) → k ≤ length vs → k + length (drop k vs) ≡ length vs
drop-length zero vs le = let e : length (drop 0 vs) ≡ length vs = refl in omega arith
drop-length (suc k) [] le = absurd (omega arith)
drop-length (suc k) (w ∷ vs) le = let rest = drop-length k vs (omega arith) in omega arith

few : (a n : ℕ) → min a (n - 1) ≤ n
few a n = omega arith

pub truncated_old : (log : Log) (below n : ℕ) (v : List ℕ) → version_at (truncated log below) n ≡ Some v →
    version_at log n ≡ Some v
truncated_old log below n v h = drop-old (gone log below) log.first log.versions n v h

pub truncated_kept : (log : Log) (below n : ℕ) (v : List ℕ) → below ≤ n → version_at log n ≡ Some v →
    version_at (truncated log below) n ≡ Some v
truncated_kept log below n v le h =
    let (low, high) = version_bounds log n v h in
    drop-kept (gone log below) log.first log.versions n v (omega arith) h

pub end_of-truncated : (log : Log) (below : ℕ) → end_of (truncated log below) ≡ end_of log
end_of-truncated log below = let e = drop-length (gone log below) log.versions (few (below - log.first) (length log.versions)) in omega arith

-- ---- the last number

last_some : (n : ℕ) (log : Log) → length log.versions ≡ suc n → last_number log ≡ Some (log.first + n)
last_some n log h = let t : nat_lt 0 (length log.versions) ≡ true = grind (arith, nat_tests) in rw t (ap Some (omega arith))

last_none : (log : Log) → length log.versions ≡ 0 → last_number log ≡ None
last_none log h = let t : nat_lt 0 (length log.versions) ≡ false = grind (arith, nat_tests) in rw t refl

pub last_number-committed : (log : Log) (b : List ℕ) → last_number (committed log b) ≡ Some (end_of log)
last_number-committed log b = last_some (length log.versions) (committed log b) (omega (arith, length-append log.versions (b ∷ [])))

pub empty_last : (log : Log) → log.versions ≡ [] → last_number log ≡ None
empty_last log h = last_none log (ap length h)

-- the last number is told by the end, and by whether there is a version
same_last : (k n : ℕ) (a b : Log) → length a.versions ≡ suc k → length b.versions ≡ suc n → end_of a ≡ end_of b →
    last_number a ≡ last_number b
same_last k n a b x y e = last_some k a x ∙ ap Some (omega arith) ∙ sym (last_some n b y)

pub last_number-truncated : (log : Log) (below : ℕ) → last_number (truncated log below) ≡ last_number log
last_number-truncated log below = go (length log.versions) refl
  where
    go : (l : ℕ) → length log.versions ≡ l → last_number (truncated log below) ≡ last_number log
    go zero e =
        let d = drop-length (gone log below) log.versions (few (below - log.first) (length log.versions)) in
        last_none (truncated log below) (omega arith) ∙ sym (last_none log e)
    go (suc n) e =
        let d = drop-length (gone log below) log.versions (few (below - log.first) (length log.versions)) in
        let small : gone log below ≤ n = omega arith in
        same_last (n - gone log below) n (truncated log below) log (omega arith) e (end_of-truncated log below)

nothing : (vs : List (List ℕ)) → length vs ≡ 0 → vs ≡ []
nothing [] h = refl
nothing (v ∷ vs) h = absurd (omega arith)

pub last_none_empty : (log : Log) → last_number log ≡ None → log.versions ≡ []
last_none_empty log h = go (length log.versions) refl
  where
    go : (l : ℕ) → length log.versions ≡ l → log.versions ≡ []
    go zero e = nothing log.versions e
    go (suc n) e = let g = last_some n log e in cc

-- ---- what commits

same_number-eq : (a b : Option ℕ) → same_number a b ≡ true → a ≡ b
same_number-eq None None h = refl
same_number-eq (Some m) (Some n) h = ap Some (eqb-true m n h)
same_number-eq None (Some n) h = cc
same_number-eq (Some m) None h = cc

pub and_true : (a b : Bool) → (a && b) ≡ true → (a ≡ true) × (b ≡ true)
and_true true b h = (refl, h)
and_true false b h = cc

-- a Cas commits at the last number alone
pub commits_last : (log : Log) (expected : Option ℕ) → commits log expected ≡ true → expected ≡ last_number log
commits_last log expected h = same_number-eq expected (last_number log) (and_true _ _ h).0

pub commits_some : (log : Log) (n : ℕ) → commits log (Some n) ≡ true → n + 1 ≡ end_of log
commits_some log n h = go (length log.versions) refl
  where
    go : (l : ℕ) → length log.versions ≡ l → n + 1 ≡ end_of log
    go zero e = let a = commits_last log (Some n) h in let b = last_none log e in cc
    go (suc m) e =
        let a = commits_last log (Some n) h in
        let b = last_some m log e in
        let same : n ≡ log.first + m = cc in
        omega arith

pub commits_none_last : (log : Log) → commits log None ≡ true → last_number log ≡ None
commits_none_last log h = sym (commits_last log None h)

-- the number that a commit is answered with
pub commits_next : (log : Log) (expected : Option ℕ) → (log.versions ≡ [] → log.first ≡ 0) → commits log expected ≡ true →
    next_number expected ≡ end_of log
commits_next log None z h =
    let e : log.versions ≡ [] = last_none_empty log (commits_none_last log h) in
    let f : log.first ≡ 0 = z e in
    let l : length log.versions ≡ 0 = ap length e in
    omega arith
commits_next log (Some n) z h = commits_some log n h

-- ---- what is shown

numbered-there : (first : ℕ) (vs : List (List ℕ)) (n : ℕ) (b : List ℕ) →
    Among (λ v. (v.number ≡ n) × (v.bytes ≡ b)) (numbered first vs) → bytes_from first vs n ≡ Some b
numbered-there first [] n b h = absurd h
numbered-there first (w ∷ vs) n b (inl h) = rw (eq-eqb n first (sym h.0)) (ap Some h.1)
numbered-there first (w ∷ vs) n b (inr h) =
    let rest = numbered-there (first + 1) vs n b h in
    let (low, high) = bounds-from (first + 1) vs n b rest in
    past first n w vs (omega arith) ∙ rest

among-filter : {A : Type 0} (P : A → Type 0) (p : A → Bool) (xs : List A) → Among P (filter p xs) → Among P xs
among-filter P p [] h = h
among-filter P p (x ∷ xs) h =
    elim (bool_cases (p x)) [
      | inl e ↦
          let h2 : Among P (x ∷ filter p xs) = subst (λ (t : Bool). Among P (cond t (x ∷ filter p xs) (filter p xs))) e h in
          elim h2 [ inl a ↦ inl a | inr a ↦ inr (among-filter P p xs a) ]
      | inr e ↦ inr (among-filter P p xs (subst (λ (t : Bool). Among P (cond t (x ∷ filter p xs) (filter p xs))) e h))
    ]

-- what a Scan shows is there
pub scan_there : (from : ℕ) (log : Log) (n : ℕ) (b : List ℕ) → Among (λ v. (v.number ≡ n) × (v.bytes ≡ b))
    (filter (λ v. nat_le from v.number) (live log)) → version_at log n ≡ Some b
scan_there from log n b h = numbered-there log.first log.versions n b (among-filter (λ v. (v.number ≡ n) × (v.bytes ≡ b)) (λ v. nat_le from v.number) (live log) h)

numbered-shows : (first : ℕ) (vs : List (List ℕ)) (n : ℕ) (b : List ℕ) → bytes_from first vs n ≡ Some b →
    Among (λ v. (v.number ≡ n) × (v.bytes ≡ b)) (numbered first vs)
numbered-shows first [] n b h = cc
numbered-shows first (w ∷ vs) n b h =
    elim (bool_cases (eqb n first)) [
      | inl e ↦ let h2 : Some w ≡ Some b = rw e at h in let eq : n ≡ first = eqb-true n first e in let eq2 : w ≡ b = cc in inl (sym eq, eq2)
      | inr e ↦ inr (numbered-shows (first + 1) vs n b (rw e at h))
    ]

filter-among : {A : Type 0} (P : A → Type 0) (p : A → Bool) (xs : List A) → ((x : A) → P x → p x ≡ true) → Among P xs →
    Among P (filter p xs)
filter-among P p [] f h = h
filter-among P p (x ∷ xs) f (inl h) = subst (λ (t : Bool). Among P (cond t (x ∷ filter p xs) (filter p xs))) (sym (f x h)) (inl h)
filter-among P p (x ∷ xs) f (inr h) =
    let rest = filter-among P p xs f h in
    elim (bool_cases (p x)) [
      | inl e ↦ subst (λ (t : Bool). Among P (cond t (x ∷ filter p xs) (filter p xs))) (sym e) (inr rest)
      | inr e ↦ subst (λ (t : Bool). Among P (cond t (x ∷ filter p xs) (filter p xs))) (sym e) rest
    ]

at_least : (a b : ℕ) → a ≤ b → nat_le a b ≡ true
at_least a b h = grind (arith, nat_tests)

-- a Scan shows each version from its number on
pub scan_shows : (from : ℕ) (log : Log) (n : ℕ) (b : List ℕ) → from ≤ n → version_at log n ≡ Some b →
    Among (λ v. (v.number ≡ n) × (v.bytes ≡ b)) (filter (λ v. nat_le from v.number) (live log))
scan_shows from log n b le h =
    filter-among (λ v. (v.number ≡ n) × (v.bytes ≡ b)) (λ v. nat_le from v.number) (live log) (λ v p. let e : v.number ≡ n = p.0 in at_least from v.number (omega arith))
    (numbered-shows log.first log.versions n b h)

last-there : (first : ℕ) (vs : List (List ℕ)) (v : Version) → last_of (numbered first vs) ≡ Some v →
    bytes_from first vs v.number ≡ Some v.bytes
last-there first [] v h = cc
last-there first (w ∷ []) v h =
    let e : record { number = first; bytes = w } ≡ v = cc in
    subst (λ (u : Version). bytes_from first (w ∷ []) u.number ≡ Some u.bytes) e (rw (eq-eqb first first refl))
last-there first (w ∷ x ∷ vs) v h =
    let rest = last-there (first + 1) (x ∷ vs) v h in
    let (low, high) = bounds-from (first + 1) (x ∷ vs) v.number v.bytes rest in
    past first v.number w (x ∷ vs) (omega arith) ∙ rest

-- what a Head shows is there
pub last_there : (log : Log) (v : Version) → last_of (live log) ≡ Some v → version_at log v.number ≡ Some v.bytes
last_there log v h = last-there log.first log.versions v h
