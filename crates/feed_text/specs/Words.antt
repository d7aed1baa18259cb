-- The words of a line.
use Rattle.std.specs.Prelude.{◌≡◌, ℕ, ◌<◌, List, length, slice_index}

-- a word with a first byte, which is a zero only where it is alone
pub record IsPlain (word : List ℕ) : Type 0 where
  pub some : 0 < length word
  pub alone : slice_index word 0 ≡ 48 → length word ≡ 1
