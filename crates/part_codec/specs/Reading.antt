-- Reading a part from left to right, with the first fault that is met.
use Rattle.std.specs.Prelude.{◌≡◌, ℕ, zero, suc, ◌-◌, Bool, true, List, [], ◌∷◌, length, take, drop, Option, Some, None, Result, Ok, Err, nat_lt, ◌==◌, if◌then◌else◌, ⊤}
use Rattle.std.specs.Int.{Width, w32, w64, byte_len, from_be_bytes, cast_signed}
use Rattle.std.specs.Ordering.{is_lt}
use Rattle.update_core.specs.Limits.{max_part_rows}
use Rattle.update_core.specs.declared.updates.Update.{Update}
use Rattle.update_core.specs.Updates.{moment_cmp}
use Rattle.byte_core.specs.declared.shorts.Short.{Short}
use Rattle.byte_core.specs.Reading.{place}
use Rattle.byte_core.specs.Reading as numbers
use Rattle.part_codec.specs.declared.part_faults.PartFault.{PartFault}
use Rattle.part_codec.specs.declared.part_faults.PartFault.TheVariants as faults

-- the next step, unless there is a fault
infixl 10 ◌>>=◌
abbrev pub ◌>>=◌ : {A B : Type 0} → Result A PartFault → (A → Result B PartFault) → Result B PartFault
(Ok x) >>= f = f x
(Err e) >>= f = Err e

-- what was answered in place of a value is the fault that reading meets, or want of memory
abbrev pub Fails : {Y : Type 0} → PartFault → Result Y PartFault → Type 0
Fails faults.Memory read = ⊤
Fails e read = read ≡ Err e

-- what was answered, seen by view, is what reading gives, unless memory ran out
abbrev pub Gives : {X Y : Type 0} → (X → Y) → Result X PartFault → Result Y PartFault → Type 0
Gives view (Ok x) read = read ≡ Ok (view x)
Gives view (Err e) read = Fails e read

-- what is read, unless the bytes end too soon
abbrev pub whole : {A : Type 0} → Result A Short → Result A PartFault
whole (Ok x) = Ok x
whole (Err e) = Err (faults.Short e.place)

-- a byte, and what is left after it
abbrev pub byte_at : ℕ → List ℕ → Result (ℕ × List ℕ) PartFault
byte_at total bytes = whole (numbers.byte_at total bytes)

-- a number in this many bytes, and what is left after it
abbrev pub number_at : Width → ℕ → List ℕ → Result (ℕ × List ℕ) PartFault
number_at w total bytes = whole (numbers.wide_at w total bytes)

-- the letters PART as a number
abbrev pub magic : ℕ
magic = 1346458196

-- what is left after the letters PART
unfoldable pub magic_at : ℕ → List ℕ → Result (List ℕ) PartFault
magic_at total bytes = do
  n ← number_at w32 total bytes
  if n.0 == magic then Ok n.1 else Err (faults.Magic (place total bytes))

-- what is left after form 1
unfoldable pub form_at : ℕ → List ℕ → Result (List ℕ) PartFault
form_at total bytes = do
  b ← byte_at total bytes
  if b.0 == 1 then Ok b.1 else Err (faults.Form (place total bytes))

-- the count of the rows
unfoldable pub count_at : ℕ → List ℕ → Result (ℕ × List ℕ) PartFault
count_at total bytes = do
  n ← number_at w32 total bytes
  if nat_lt max_part_rows n.0 then Err (faults.Size (place total bytes)) else Ok n

-- the length of a datum
unfoldable pub length_at : ℕ → List ℕ → Result (ℕ × List ℕ) PartFault
length_at total bytes = do
  n ← byte_at total bytes
  if n.0 == 0 then Err (faults.Size (place total bytes)) else Ok n

-- a datum with its length
unfoldable pub datum_at : ℕ → List ℕ → Result (List ℕ × List ℕ) PartFault
datum_at total bytes = do
  n ← length_at total bytes
  if nat_lt (length n.1) n.0 then Err (faults.Short (place total n.1)) else Ok (take n.0 n.1, drop n.0 n.1)

-- the bits of a difference, which aren't all 0
unfoldable pub bits_at : ℕ → List ℕ → Result (ℕ × List ℕ) PartFault
bits_at total bytes = do
  n ← number_at w64 total bytes
  if n.0 == 0 then Err (faults.Zero (place total bytes)) else Ok n

-- a row, wherever it stands
unfoldable pub fields_at : ℕ → List ℕ → Result (Update × List ℕ) PartFault
fields_at total bytes = do
  datum ← datum_at total bytes
  time ← number_at w64 total datum.1
  bits ← bits_at total time.1
  Ok (record { datum = datum.0; time = time.0; diff = cast_signed w64 bits.0 }, bits.1)

-- whether a row may follow another, or none
abbrev pub follows : Option Update → Update → Bool
follows None u = true
follows (Some before) u = is_lt (moment_cmp (before.datum, before.time) (u.datum, u.time))

-- a row that may follow the one before
unfoldable pub row_at : ℕ → Option Update → List ℕ → Result (Update × List ℕ) PartFault
row_at total before bytes = do
  row ← fields_at total bytes
  if follows before row.0 then Ok row else Err (faults.Order (place total bytes))

-- this many rows
unfoldable pub rows_at : ℕ → ℕ → Option Update → List ℕ → Result (List Update × List ℕ) PartFault
rows_at total zero before bytes = Ok ([], bytes)
rows_at total (suc n) before bytes = do
  first ← row_at total before bytes
  others ← rows_at total n (Some first.0) first.1
  Ok (first.0 ∷ others.0, others.1)

-- all of the bytes
unfoldable pub all_of : List ℕ → Result (List Update) PartFault
all_of bytes = do
  letters ← magic_at (length bytes) bytes
  form ← form_at (length bytes) letters
  count ← count_at (length bytes) form
  rows ← rows_at (length bytes) count.0 None count.1
  if length rows.1 == 0 then Ok rows.0 else Err (faults.Trailing (place (length bytes) rows.1))
