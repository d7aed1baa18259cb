-- The texts that are lists of stop numbers.
use Rattle.std.specs.Prelude.{⊤, ◌≡◌, ℕ, ◌^◌, ◌<◌, Option, None, Result, Ok, Err, List, [], ◌∷◌, ◌++◌}
use Rattle.std.specs.Fmt.{decimal}
use Rattle.std.specs.List.{flat_map}
use Rattle.stops_core.specs.declared.stops.Stop.{Stop}
use Rattle.stops_core.specs.Stops.{stop_of}

-- `w:k`
abbrev pub stop_word : Stop → List ℕ
stop_word s = decimal s.worker ++ 58 ∷ decimal s.calls

-- `,w:k`
abbrev pub stop_text : Stop → List ℕ
stop_text s = 44 ∷ stop_word s

-- a stop number of one of so many workers, which none of those before names
pub record IsNext (workers : ℕ) (before : List Stop) (s : Stop) : Type 0 where
  pub worker : s.worker < workers
  pub calls : s.calls < 2 ^ 64
  pub fresh : stop_of before s.worker ≡ None

-- each is one of so many workers, and no worker is named twice
abbrev pub AreOnce : ℕ → List Stop → List Stop → Type 0
AreOnce workers before [] = ⊤
AreOnce workers before (s ∷ more) = IsNext workers before s × AreOnce workers (before ++ s ∷ []) more

-- the text is stops, each behind a comma, that make all of those before
pub record Tells (workers : ℕ) (text : List ℕ) (before all : List Stop) : Type 0 where
  pub stops : List Stop
  pub text_is : text ≡ flat_map stop_text stops
  pub once : AreOnce workers before stops
  pub gives : all ≡ before ++ stops

-- the text is these stops, one or more, with a comma between two
abbrev pub Spells : ℕ → List ℕ → List Stop → Type 0
Spells workers text stops = Tells workers (44 ∷ text) [] stops
