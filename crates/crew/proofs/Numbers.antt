-- Which client each worker of a plan is, and that the seats' passes are numbered so.
use Rattle.std.proofs.Common.{◌≡◌, ℕ, ◌+◌, ◌-◌, ◌<◌, ◌≤◌, true, false, Option, Some, None, inl, inr, List, [], ◌∷◌}
use Rattle.std.proofs.Common.{length, refl, sym, ap, subst, ◌∙◌, arith}
use Rattle.std.specs.Prelude.{◌==◌, IfSome, if◌then◌else◌, nat_le, nat_lt}
use Rattle.std.specs.List.{AllByRecursion}
use Rattle.std.proofs.lemmas.Bool.Decides.{nat_tests}
use Rattle.state_core.proofs.ListLemmas.{bool_cases}
use Rattle.turnstile.specs.declared.passes.Pass.{Pass}
use Rattle.turnstile.specs.Passes.{view}
use Rattle.store_core.specs.declared.entries.Entry.{Entry}
use Rattle.shared_store.specs.declared.counted_stores.CountedStore.{CountedStore}
use Rattle.store_core.specs.declared.stores.Store.{Ghosts}
use Rattle.crew_core.specs.declared.jobs.Job.{Job}
use Rattle.crew_core.specs.Working.{is_pin}
use Rattle.crew.specs.declared.plans.Plan.{Plan}
use Rattle.crew.specs.declared.seats.Seat.{Seat}
use Rattle.crew.specs.Plans.{client_of, first_of, job_in, job_of, worker_of}
use Rattle.crew.specs.Seats.{HasNumber, IsPlaceFor, NoPin, NumberedFrom, OnePin, PlacedFrom, Suits, next_number, own_number}

-- the number of the pass that is split off next when it is a worker's turn
abbrev pub next_of : Plan → ℕ → ℕ
next_of plan worker = if nat_le worker (first_of plan) then worker + 1 else worker

-- ---- tests of numbers

apart : (a b : ℕ) → nat_lt a b ≡ true → (a == b) ≡ false
apart a b h = grind (arith, nat_tests)

below : (a b : ℕ) → nat_lt a b ≡ true → nat_le a b ≡ true
below a b h = grind (arith, nat_tests)

next_below : (a b : ℕ) → nat_lt a b ≡ true → nat_le (a + 1) b ≡ true
next_below a b h = grind (arith, nat_tests)

some_next : (a : ℕ) → ((a + 1) == 0) ≡ false
some_next a = grind (arith, nat_tests)

itself : (a b : ℕ) → (a == b) ≡ true → nat_le a b ≡ true
itself a b h = grind (arith, nat_tests)

not_past : (a b : ℕ) → (a == b) ≡ true → nat_le (a + 1) b ≡ false
not_past a b h = grind (arith, nat_tests)

beyond : (a b : ℕ) → nat_lt a b ≡ false → (a == b) ≡ false → nat_le a b ≡ false
beyond a b h g = grind (arith, nat_tests)

beyond_next : (a b : ℕ) → nat_lt a b ≡ false → (a == b) ≡ false → nat_le (a + 1) b ≡ false
beyond_next a b h g = grind (arith, nat_tests)

beyond_none : (a b : ℕ) → nat_lt a b ≡ false → (a == b) ≡ false → (a == 0) ≡ false
beyond_none a b h g = grind (arith, nat_tests)

same : (a b : ℕ) → (a == b) ≡ true → a ≡ b
same a b h = grind (arith, nat_tests)

less : (a b : ℕ) → nat_lt a b ≡ true → a < b
less a b h = grind (arith, nat_tests)

at_least : (a b : ℕ) → nat_lt a b ≡ false → b ≤ a
at_least a b h = grind (arith, nat_tests)

equal : (a b : ℕ) → a ≡ b → (a == b) ≡ true
equal a b h = grind (arith, nat_tests)

not_same : (a b : ℕ) → a ≡ b → nat_lt a b ≡ true → ⊥
not_same a b e h = grind (arith, nat_tests)

not_apart : (a b : ℕ) → a ≡ b → (a == b) ≡ false → ⊥
not_apart a b e h = let t : (a == b) ≡ true = equal a b e in cc

not_least : (a : ℕ) → nat_le 0 a ≡ true
not_least a = grind (arith, nat_tests)

not_short : (a b c : ℕ) → nat_lt a (b + c) ≡ false → nat_lt a b ≡ false
not_short a b c h = grind (arith, nat_tests)

back : (n : ℕ) → (n + 1) - 1 ≡ n
back n = omega arith

-- ---- a worker

-- what is so of a worker before the first collector, of it, and of one past it
data Place (plan : Plan) (worker : ℕ) : Type 0 where
  before : nat_lt worker (first_of plan) ≡ true → Place plan worker
  at : nat_lt worker (first_of plan) ≡ false → (worker == first_of plan) ≡ true → Place plan worker
  past : nat_lt worker (first_of plan) ≡ false → (worker == first_of plan) ≡ false → Place plan worker

place_of : (plan : Plan) (worker : ℕ) → Place plan worker
place_of plan worker = elim (bool_cases (nat_lt worker (first_of plan))) [
  | inl t ↦ before t
  | inr t ↦ elim (bool_cases (worker == first_of plan)) [ inl u ↦ at t u | inr u ↦ past t u ]
]

module _ (plan : Plan) (worker : ℕ) where
  own_is : own_number (job_of plan worker) (next_of plan worker) ≡ client_of plan worker
  own_is = by (place_of plan worker)
    where
      by : Place plan worker → own_number (job_of plan worker) (next_of plan worker) ≡ client_of plan worker
      by (before h) = elim (bool_cases (nat_lt worker plan.writers)) [
        | inl t ↦ rw (t, h, apart worker (first_of plan) h, below worker (first_of plan) h) refl
        | inr t ↦ rw (t, h, apart worker (first_of plan) h, below worker (first_of plan) h) refl
      ]
      by (at h g) = rw (not_short worker plan.writers plan.compactors h, h, g) refl
      by (past h g) = rw (not_short worker plan.writers plan.compactors h, h, g, beyond worker (first_of plan) h g) refl

  next_is : next_number (job_of plan worker) (next_of plan worker) ≡ next_of plan (worker + 1)
  next_is = by (place_of plan worker)
    where
      by : Place plan worker → next_number (job_of plan worker) (next_of plan worker) ≡ next_of plan (worker + 1)
      by (before h) = elim (bool_cases (nat_lt worker plan.writers)) [
        | inl t ↦ rw (t, below worker (first_of plan) h, next_below worker (first_of plan) h) refl
        | inr t ↦ rw (t, h, below worker (first_of plan) h, next_below worker (first_of plan) h) refl
      ]
      by (at h g) = rw (
        not_short worker plan.writers plan.compactors h,
        h,
        g,
        itself worker (first_of plan) g,
        not_past worker (first_of plan) g,
      ) refl
      by (past h g) = rw (
        not_short worker plan.writers plan.compactors h,
        h,
        g,
        beyond worker (first_of plan) h g,
        beyond_next worker (first_of plan) h g,
      ) refl

  worker_is : worker_of plan (client_of plan worker) ≡ worker
  worker_is = by (place_of plan worker)
    where
      by : Place plan worker → worker_of plan (client_of plan worker) ≡ worker
      by (before h) = rw (apart worker (first_of plan) h, h) (rw (some_next worker, next_below worker (first_of plan) h) (back worker))
      by (at h g) = rw g (sym (same worker (first_of plan) g))
      by (past h g) = rw (g, h) (rw (beyond_none worker (first_of plan) h g, beyond worker (first_of plan) h g) refl)

  pub pin_at : is_pin (job_of plan worker) ≡ true → worker ≡ first_of plan
  pin_at e = by (place_of plan worker)
    where
      by : Place plan worker → worker ≡ first_of plan
      by (before h) = elim (bool_cases (nat_lt worker plan.writers)) [
        | inl t ↦ absurd (let bad : false ≡ true = rw t at e in cc)
        | inr t ↦ absurd (let bad : false ≡ true = rw (t, h) at e in cc)
      ]
      by (at h g) = same worker (first_of plan) g
      by (past h g) =
          absurd (let bad : false ≡ true = rw (not_short worker plan.writers plan.compactors h, h, g) at e in cc)

  pub pin_job : worker ≡ first_of plan → is_pin (job_of plan worker) ≡ true
  pin_job is = by (place_of plan worker)
    where
      by : Place plan worker → is_pin (job_of plan worker) ≡ true
      by (before h) = absurd (not_same worker (first_of plan) is h)
      by (at h g) = rw (not_short worker plan.writers plan.compactors h, h, g) refl
      by (past h g) = absurd (not_apart worker (first_of plan) is g)

  pub client_first : worker ≡ first_of plan → client_of plan worker ≡ 0
  client_first is = rw (equal worker (first_of plan) is) refl

pub next_first : (plan : Plan) → next_of plan 0 ≡ 1
next_first plan = rw (not_least (first_of plan)) refl

-- ---- seats

module _ {S : Type 0} {G : Ghosts S} (plan : Plan) (worker : ℕ) (s : Seat S G) (place : IsPlaceFor plan worker s) where
  pub is_client : HasNumber (own_number s.job (next_of plan worker)) s → HasNumber (client_of plan worker) s
  is_client has = subst (λ (n : ℕ). HasNumber n s)
      (ap (λ (j : Job). own_number j (next_of plan worker)) place.job ∙ own_is plan worker) has

  pub is_next : (ss : List (Seat S G)) → NumberedFrom (next_number s.job (next_of plan worker)) ss →
      NumberedFrom (next_of plan (worker + 1)) ss
  is_next ss numbered = subst (λ (n : ℕ). NumberedFrom n ss)
      (ap (λ (j : Job). next_number j (next_of plan worker)) place.job ∙ next_is plan worker) numbered

-- the seats suit the plan once their passes are numbered
pub all_suit : {S : Type 0} {G : Ghosts S} (plan : Plan) (worker : ℕ) (ss : List (Seat S G)) → NumberedFrom (next_of plan worker) ss →
    PlacedFrom plan worker ss → AllByRecursion (Suits plan) ss
all_suit plan worker [] numbered placed = tt
all_suit {S = S} {G = G} plan worker (s ∷ ss) numbered placed = (
  one s.pass (is_client plan worker s placed.0 numbered.0),
  all_suit plan (worker + 1) ss (is_next plan worker s placed.0 ss numbered.1) placed.1,
)
  where
    one : (o : Option (Pass (CountedStore S G) S Entry)) → IfSome o (λ p. (view p).number ≡ client_of plan worker) →
        IfSome o (λ p. s.job ≡ job_in plan (view p).number)
    one None k = tt
    one (Some p) k =
        placed.0.job ∙ ap (job_of plan) (sym (worker_is plan worker)) ∙ ap (λ (n : ℕ). job_of plan (worker_of plan n)) (sym k)

-- past the first collector's seat there is no other
past_pin : {S : Type 0} {G : Ghosts S} (plan : Plan) (worker : ℕ) (ss : List (Seat S G)) → first_of plan < worker →
    PlacedFrom plan worker ss → NoPin ss
past_pin plan worker [] lt placed = tt
past_pin plan worker (s ∷ ss) lt placed =
    (not_it, past_pin plan (worker + 1) ss (omega arith) placed.1)
  where
    not_it : is_pin s.job ≡ false
    not_it = elim (bool_cases (is_pin s.job)) [
      | inl e ↦ absurd (let k : worker ≡ first_of plan = pin_at plan worker (ap is_pin (sym placed.0.job) ∙ e) in omega arith)
      | inr e ↦ e
    ]

pub one_pin : {S : Type 0} {G : Ghosts S} (plan : Plan) (worker : ℕ) (ss : List (Seat S G)) → PlacedFrom plan worker ss → OnePin ss
one_pin plan worker [] placed = tt
one_pin plan worker (s ∷ ss) placed = (
  (λ e. let k : worker ≡ first_of plan = pin_at plan worker (ap is_pin (sym placed.0.job) ∙ e) in
      past_pin plan (worker + 1) ss (omega arith) placed.1),
  one_pin plan (worker + 1) ss placed.1,
)

-- nor before it
pub no_pin : {S : Type 0} {G : Ghosts S} (plan : Plan) (worker : ℕ) (ss : List (Seat S G)) → worker + length ss ≤ first_of plan →
    PlacedFrom plan worker ss → NoPin ss
no_pin plan worker [] few placed = tt
no_pin plan worker (s ∷ ss) few placed =
    (not_it, no_pin plan (worker + 1) ss (omega arith) placed.1)
  where
    not_it : is_pin s.job ≡ false
    not_it = elim (bool_cases (is_pin s.job)) [
      | inl e ↦ absurd (let k : worker ≡ first_of plan = pin_at plan worker (ap is_pin (sym placed.0.job) ∙ e) in omega arith)
      | inr e ↦ e
    ]
