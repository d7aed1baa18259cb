-- The rule of the table: what the words, the slot and the views are between any two steps.
use Rattle.std.specs.Prelude.{◌≡◌, ◌⊎◌, ℕ, ◌+◌, ◌-◌, ◌<◌, ◌≤◌, Bool, true, false, ◌==◌, if◌then◌else◌, List, [], ◌∷◌, ◌++◌, length, min, Option, Some, None, ◌^◌}
use mathlib.Core.List.{IsPrefix}
use mathlib.Core.Option.{some}
use lib.ListN.{get_elem?}
use Rattle.atomic_table.specs.Table.{State}
use Rattle.turnstile.specs.declared.views.View.{View}
use Rattle.turnstile.specs.History.{entries_of, with_more, IsTold}

-- a fact's place in a sum: 1 or 0
abbrev pub once : Bool → ℕ
once true = 1
once false = 0

-- f of each, added up
abbrev pub total : {A : Type 0} → (A → ℕ) → List A → ℕ
total f [] = 0
total f (x ∷ xs) = f x + total f xs

module _ {I : Type 0} (client : I → ℕ) where
  -- the entries of the client n
  abbrev pub entries_by : ℕ → List I → List I
  entries_by n [] = []
  entries_by n (e ∷ es) = if client e == n then e ∷ entries_by n es else entries_by n es

-- how often n is among the numbers
abbrev pub times : {I : Type 0} → ℕ → List (ℕ × List I) → ℕ
times n [] = 0
times n (k ∷ ks) = once (k.0 == n) + times n ks

-- each number has P with its entries
abbrev pub Each : {I : Type 0} → (ℕ → List I → Type 0) → List (ℕ × List I) → Type 0
Each P [] = Unit {0}
Each P (k ∷ ks) = P k.0 k.1 × Each P ks

module _ {B I : Type 0} where
  -- 1 where n is in the stock
  abbrev pub stocked : ℕ → View B I → ℕ
  stocked n v = min 1 (n + 1 - v.low) - min 1 (n + 1 - (v.low + v.stock))

  -- how often n is among the numbers that a view answers for
  abbrev pub kin_times : ℕ → View B I → ℕ
  kin_times n v = times n v.kin

  abbrev pub turn_of : View B I → ℕ
  turn_of v = v.turn

  abbrev pub share_of : View B I → ℕ
  share_of v = v.share

  -- a view that was joined away
  abbrev pub spent_view : View B I
  spent_view = record { number = 0; low = 0; stock = 0; share = 0; kin = []; start = None; gain = []; beside = []; turn = 0; misses = 0; looked = 0 }

  -- the view of the first pass
  abbrev pub first_view : Option (B × List I) → View B I
  first_view start = record {
    number = 0;
    low = 1;
    stock = 2 ^ 64 - 1;
    share = 2 ^ 64;
    kin = (0, []) ∷ [];
    start = start;
    gain = [];
    beside = [];
    turn = 0;
    misses = 0;
    looked = 0;
  }

  -- A standing pass, where start is what the value told at the beginning, and since the history past that:
  pub record Stands (client : I → ℕ) (start : Option (B × List I)) (since : List I) (v : View B I) : Type 0 where
    -- it knows what the value told
    pub same : v.start ≡ start
    -- what it has seen is the beginning of the history, and all of it while it has the turn
    pub begins : IsPrefix v.gain since
    pub short : IsPrefix v.beside since
    pub holder : 0 < v.turn → v.gain ≡ since
    -- it answers for its own number
    pub own : 0 < times v.number v.kin
    -- its share has a part for each number of its stock and one for itself, and 0 is in no stock
    pub room : v.stock < v.share
    pub above : 0 < v.low
    -- it has seen each entry of the numbers that it answers for
    pub kin_all : Each (λ n es. entries_by client n since ≡ es) v.kin
    pub kin_seen : Each (λ n es. entries_by client n v.gain ≡ es) v.kin

-- Between any two steps, where told is what a value tells, and start what it told at the beginning:
pub record Turning {V B I : Type 0} (told : V → Option (B × List I)) (client : I → ℕ) (start : Option (B × List I))
    (s : State (Option V) (View B I)) : Type 0 where
  -- the two words are the turn and the count, and the history has grown by since
  pub turn : ℕ
  pub count : ℕ
  pub since : List I
  pub words : s.words ≡ turn ∷ count ∷ []
  -- the turn is 1 exactly where one pass has it, and no two have it
  pub held : turn ≡ total turn_of s.views
  pub one : turn ≤ 1
  -- the count is the length of the history, where that is told
  pub counted : IsTold start → count ≡ min (length (entries_of start ++ since)) (2 ^ 64 - 1)
  -- where nobody has the turn, the value lies in the slot and tells the history
  pub home : turn ≡ 0 → (y : V) × (s.homes ≡ some (Some y) ∷ []) × (told y ≡ with_more start since)
  -- each pass stands, or was joined away
  pub each : (j : ℕ) (v : View B I) → get_elem? s.views j ≡ some v → (v ≡ spent_view) ⊎ Stands client start since v
  -- some standing pass has seen all
  pub whole : (j : ℕ) × (v : View B I) × (get_elem? s.views j ≡ some v) × (0 < v.share) × (v.gain ≡ since)
  -- the numbers that passes answer for, and those in their stocks, are all different
  pub apart : (n : ℕ) → total (kin_times n) s.views + total (stocked n) s.views ≤ 1
  -- each entry is of a number that some pass answers for
  pub covers : (n : ℕ) → total (kin_times n) s.views ≡ 0 → entries_by client n since ≡ []
  -- the shares make 2 ^ 64
  pub shares : total share_of s.views ≡ 2 ^ 64
