-- The lines of what operators have seen.
use Rattle.std.specs.Prelude.{◌≡◌, ⊤, ℕ, ◌+◌, ◌^◌, ◌<◌, ◌≤◌, List, [], ◌∷◌, ◌++◌, slice_set, codes}
use Rattle.std.specs.Fmt.{decimal}
use Rattle.std.specs.List.{flat_map}
use Rattle.remap_core.specs.Offsets.{unset}
use Rattle.reclock_text.specs.declared.saws.Saw.{Saw}

-- `P:O`
abbrev pub pair_word : ℕ × ℕ → List ℕ
pair_word a = decimal a.0 ++ 58 ∷ decimal a.1

-- ` P:O`
abbrev pub pair_text : ℕ × ℕ → List ℕ
pair_text a = 32 ∷ pair_word a

-- a partition from n on, and an offset within its limit
abbrev pub IsPair : ℕ → ℕ × ℕ → Type 0
IsPair n a = (n ≤ a.0) × (a.0 < 256) × (a.1 ≤ 2 ^ 48)

-- such pairs, whose partitions rise
abbrev pub RisesFrom : ℕ → List (ℕ × ℕ) → Type 0
RisesFrom n [] = ⊤
RisesFrom n (a ∷ as_) = IsPair n a × RisesFrom (a.0 + 1) as_

-- a frontier with the offsets of some pairs
abbrev pub with_pairs : List ℕ → List (ℕ × ℕ) → List ℕ
with_pairs f [] = f
with_pairs f (a ∷ as_) = with_pairs (slice_set f a.0 a.1) as_

-- the text is pairs, of partitions from n on, that make a frontier g of a frontier f
pub record Tells (text : List ℕ) (n : ℕ) (f g : List ℕ) : Type 0 where
  pub pairs : List (ℕ × ℕ)
  pub text_is : text ≡ flat_map pair_text pairs
  pub rises : RisesFrom n pairs
  pub gives : g ≡ with_pairs f pairs

-- `saw K T`, a space, and what follows it
abbrev pub saw_head : ℕ → ℕ → List ℕ → List ℕ
saw_head k t rest = codes "saw" ++ 32 ∷ (decimal k ++ 32 ∷ (decimal t ++ 32 ∷ rest))

-- `saw K T P:O P:O ..`: one of the operators has seen one pair or more. A pair with offset 0 may stand there, or not.
pub record IsSawLine (operators : ℕ) (line : List ℕ) (s : Saw) : Type 0 where
  pub operator : s.operator < operators
  pub time : s.time < 2 ^ 64
  pub pairs : List ℕ
  pub tells : Tells (32 ∷ pairs) 0 unset s.frontier
  pub is : line ≡ saw_head s.operator s.time pairs
