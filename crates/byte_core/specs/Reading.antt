-- Reading bytes and numbers from left to right.
use Rattle.std.specs.Prelude.{◌≡◌, ℕ, ◌-◌, List, [], ◌∷◌, length, take, drop, Result, Ok, Err, nat_lt, if◌then◌else◌}
use Rattle.std.specs.Int.{Width, byte_len, from_be_bytes}
use Rattle.byte_core.specs.declared.shorts.Short.{Short}

-- the place of the next byte, where these of `total` bytes are left
abbrev pub place : ℕ → List ℕ → ℕ
place total rest = total - length rest

-- the bytes end before the field that begins here is whole
abbrev pub short : ℕ → List ℕ → Short
short total rest = record { place = place total rest }

-- a byte, and what is left after it
abbrev pub byte_at : ℕ → List ℕ → Result (ℕ × List ℕ) Short
byte_at total [] = Err (short total [])
byte_at total (b ∷ rest) = Ok (b, rest)

-- a number in this many bytes, the highest first, and what is left after it
abbrev pub wide_at : Width → ℕ → List ℕ → Result (ℕ × List ℕ) Short
wide_at w total bytes =
    if nat_lt (length bytes) (byte_len w) then Err (short total bytes) else Ok (from_be_bytes w (take (byte_len w) bytes), drop (byte_len w) bytes)

-- what was answered, seen by view, is what reading gives
abbrev pub Reads : {X Y : Type 0} → (X → Y) → Result X Short → Result Y Short → Type 0
Reads view (Ok x) read = read ≡ Ok (view x)
Reads view (Err e) read = read ≡ Err e
