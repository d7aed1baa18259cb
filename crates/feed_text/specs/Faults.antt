-- What a fault says of a text, and of the lines of one.
use Rattle.std.specs.Prelude.{◌≡◌, ⊤, ℕ, ◌+◌, List, [], ◌∷◌, ◌++◌, length}
use Rattle.feed_text.specs.declared.line_faults.LineFault.{LineFault}
use Rattle.feed_text.specs.declared.line_faults.LineFault.TheVariants.{Memory, Line}
use Rattle.feed_text.specs.Grammar.{Begins, IsFirstFault}

-- the line is the first at fault
abbrev pub IsFaultOf : List ℕ → LineFault → Type 0
IsFaultOf text Memory = ⊤
IsFaultOf text (Line number) = IsFirstFault text number

-- no feed begins with these lines, and the last of them has this number
abbrev pub IsRefusal : List (List ℕ) → ℕ → LineFault → Type 0
IsRefusal lines at Memory = ⊤
IsRefusal lines at (Line number) = (number ≡ at) × (Begins lines → ⊥)

-- some feed begins with the lines before a line, and none goes on with it
pub record IsStop (lines : List (List ℕ)) (number : ℕ) : Type 0 where
  pub taken : List (List ℕ)
  pub line : List ℕ
  pub rest : List (List ℕ)
  pub parts : lines ≡ taken ++ line ∷ rest
  pub counted : number ≡ length taken + 1
  pub before : Begins taken
  pub here : Begins (taken ++ line ∷ []) → ⊥

abbrev pub StopsAt : List (List ℕ) → LineFault → Type 0
StopsAt lines Memory = ⊤
StopsAt lines (Line number) = IsStop lines number
