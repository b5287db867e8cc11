-- What reading and writing promise together: document 01, "Step bytes", and demand 2's last sentence.
-- Assumes nothing.
use Rattle.std.specs.Prelude.{◌≡◌, List, ◌++◌, ℕ, ◌+◌, ◌≤◌, ◌<◌, length, take, drop, Ok}
use Rattle.fields.specs.Num.{Bytes}
use Rattle.fields.specs.Row.{Fit}
use Rattle.steps.specs.declared.Step.{Step}
use Rattle.steps.specs.declared.Cursor.{Cursor}
use Rattle.steps.specs.Step.{length_of, row, kind_of, values_of, bytes_of, read_at, written}

-- the fields of a step have their kind's widths
abbrev pub Fits : Step → Type 0
Fits s = Fit (row (kind_of s)) (values_of s)

-- a step written and read is the same step, with the cursor just past it
abbrev pub WrittenRead : Type 0
WrittenRead =
    (s : Step) (out : List ℕ) (at : ℕ) → Fits s → at + length (bytes_of s) ≤ length out
    → read_at (written s out at) at ≡ Ok (s, record { at = at + length (bytes_of s) })

-- what holds of a step that was read at a place of some bytes, and of the cursor after it
pub record WasRead (s : List ℕ) (at : ℕ) (st : Step) (c : Cursor) : Type 0 where
  -- written at its place it gives the same bytes
  pub same : written st s at ≡ s
  -- its bytes are those that stand there
  pub own : bytes_of st ≡ take (length (bytes_of st)) (drop at s)
  -- its fields have their widths
  pub fits : Fits st
  -- the cursor moves forward by 1 plus the body length, and stays within the bytes
  pub next : c.at ≡ at + 1 + length_of (kind_of st)
  pub forward : at < c.at
  pub inside : c.at ≤ length s
  -- appended bytes change nothing
  pub more : (t : List ℕ) → read_at (s ++ t) at ≡ Ok (st, c)

abbrev pub ReadWritten : Type 0
ReadWritten = (s : List ℕ) (at : ℕ) (st : Step) (c : Cursor) → Bytes s → read_at s at ≡ Ok (st, c) → WasRead s at st c
