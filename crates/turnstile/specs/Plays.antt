-- What each step tells its pass.
use Rattle.std.specs.Prelude.{◌<◌, ◌≡◌, ◌≢◌, ℕ, ◌+◌, ◌-◌, ◌/◌, ◌≤◌, ◌==◌, leb, if◌then◌else◌, List, [], ◌∷◌, ◌++◌, length, drop, Option, Some}
use mathlib.Core.List.{IsPrefix}
use Rattle.atomic_table.specs.Table.{Me, Step}
use Rattle.turnstile.specs.declared.views.View.{View}
use Rattle.turnstile.specs.History.{entries_of, with_more}
use Rattle.turnstile.specs.Rule.{Each, entries_by, times}

-- every entry is of the client n
abbrev pub EachBy : {I : Type 0} → (I → ℕ) → ℕ → List I → Type 0
EachBy client n [] = Unit {0}
EachBy client n (e ∷ es) = (client e ≡ n) × EachBy client n es

-- every entry is of a number of the kin
abbrev pub EachIn : {I : Type 0} → (I → ℕ) → List (ℕ × List I) → List I → Type 0
EachIn client kin [] = Unit {0}
EachIn client kin (e ∷ es) = (0 < times (client e) kin) × EachIn client kin es

-- the entries go to the number n
abbrev pub credit : {I : Type 0} → ℕ → List I → List (ℕ × List I) → List (ℕ × List I)
credit n es [] = []
credit n es (k ∷ ks) = (k.0, if k.0 == n then k.1 ++ es else k.1) ∷ credit n es ks

-- of two lists the longer, the first where they are as long
abbrev pub longer : {I : Type 0} → List I → List I → List I
longer xs ys = if leb (length ys) (length xs) then xs else ys

-- and the other
abbrev pub shorter : {I : Type 0} → List I → List I → List I
shorter xs ys = if leb (length ys) (length xs) then ys else xs

module _ {B I : Type 0} where
  -- the view that has added the entries
  abbrev pub grown : View B I → List I → View B I
  grown v es = record v { gain = v.gain ++ es; kin = credit v.number es v.kin }

  -- the half of the other numbers of a stock, rounded down
  abbrev pub upper_half : View B I → ℕ
  upper_half v = (v.stock - 1) / 2

  -- the old pass after a split
  abbrev pub left_of : View B I → View B I
  left_of v = record v { low = v.low + 1; stock = v.stock - 1 - upper_half v; share = v.share - (upper_half v + 1) }

  -- the pass that a split made
  abbrev pub right_of : View B I → View B I
  right_of v = record {
    number = v.low;
    low = v.low + 1 + (v.stock - 1 - upper_half v);
    stock = upper_half v;
    share = upper_half v + 1;
    kin = (v.low, []) ∷ [];
    start = v.start;
    gain = v.gain;
    beside = [];
    turn = 0;
    misses = 0;
    looked = 0;
  }

  -- a pass that took in another
  abbrev pub both_of : View B I → View B I → View B I
  both_of v w = record v { share = v.share + w.share; kin = v.kin ++ w.kin; gain = longer v.gain w.gain; beside = shorter v.gain w.gain }

  -- a pass whose take found the turn held
  abbrev pub missed : View B I → View B I
  missed v = record v { misses = v.misses + 1 }

  -- the view of a pass that took a turn, in which it has seen these entries
  abbrev pub turned : View B I → List I → View B I
  turned v gain = record v { gain = gain; turn = 1 }

  -- the view of a pass whose turn added the entries
  abbrev pub gave_back : View B I → List I → View B I
  gave_back v es = record (grown v es) { turn = 0 }

  -- each number of the kin has the entries that the pass has seen of it
  abbrev pub Credited : (I → ℕ) → View B I → Type 0
  Credited client v = Each (λ n es. entries_by client n v.gain ≡ es) v.kin

  -- all that the pass has seen
  abbrev pub seen : View B I → List I
  seen v = entries_of v.start ++ v.gain

module _ {V B I : Type 0} (told : V → Option (B × List I)) (client : I → ℕ) where
  abbrev Knows : Type 0
  Knows = Me (Option V) (View B I)

  -- where the turn was free the pass has it, with the value in hand, and has seen all that this tells; else it has missed it
  abbrev pub taken : Step (Option V) → Knows → ℕ → Knows → Type 0
  taken s m n w =
      (n ≡ 0 → (y : V) × (w ≡ (record m.0 { gain = w.0.gain; turn = 1 }, (0, Some y) ∷ m.1))
      × (told y ≡ with_more m.0.start w.0.gain) × IsPrefix m.0.gain w.0.gain × Credited client w.0)
      × (n ≢ 0 → (n ≡ 1) × (w ≡ (record m.0 { misses = m.0.misses + 1 }, m.1)))

  -- the value tells these entries more than the view has seen, all of the pass's own number
  abbrev pub Gains : View B I → V → List I → Type 0
  Gains v y es = (told y ≡ with_more v.start (v.gain ++ es)) × EachBy client v.number es

  -- what the value tells past what the view has seen
  abbrev pub gained_by : View B I → V → List I
  gained_by v y = drop (length (entries_of v.start ++ v.gain)) (entries_of (told y))

  -- these entries took their places
  abbrev pub counted_as : List I → Step (Option V) → Knows → ℕ → Knows → Type 0
  counted_as es s m n w = (w ≡ (grown m.0 es, m.1)) × Credited client w.0

  -- the turn is given back
  abbrev pub gave : Step (Option V) → Knows → ℕ → Knows → Type 0
  gave s m n w = w ≡ (record m.0 { turn = 0 }, [])

  -- after a join: the shorter list begins the longer, and each number has its entries
  abbrev pub settled : Step (Option V) → Knows → ℕ → Knows → Type 0
  settled s m n w = (w ≡ m) × (length m.0.beside ≤ length m.0.gain → IsPrefix m.0.beside m.0.gain) × Credited client m.0
