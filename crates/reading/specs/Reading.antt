-- What the functions that read traces promise.
-- Assumes nothing.
use Rattle.std.specs.Prelude.{◌≡◌, ◌⊎◌, List, [], ◌++◌, IsUtf8, Bool, true, false, ◌≤◌, ℕ, length, Result, Ok, Err}
use Rattle.std.specs.IoError.{error_kind}
use Rattle.std.specs.declared.io.Error.{Error}
use Rattle.std.specs.declared.io.ErrorKind.{ErrorKind}
use Rattle.trace_text.specs.Text.{text_of}
use Rattle.reading.specs.declared.Read.{Read}
use Rattle.reading.specs.declared.Failure.{Failure}
use Rattle.reading.specs.declared.Cause.{Cause}
use Rattle.reading.specs.declared.Cause.TheVariants.{Name, Call}

-- the bytes that were read
abbrev pub read_of : Read → List ℕ
read_of read = read.bytes.now

-- what an input may have after the bytes that were read does not change their text
abbrev pub Settled : List ℕ → Type 0
Settled s = (more : List ℕ) → text_of (s ++ more) ≡ text_of s

-- a trace can't be read since a call failed
abbrev pub called : Cause → Bool
called (Name reason) = false
called (Call reason) = true

-- the error that tells of it
abbrev pub reason_of : Cause → Error
reason_of (Name reason) = reason
reason_of (Call reason) = reason

-- a trace can't be read for its name, with an error of this kind
abbrev pub NameOfKind : ErrorKind → Cause → Type 0
NameOfKind kind (Name reason) = error_kind reason ≡ kind
NameOfKind kind (Call reason) = ⊥

-- a name that no file is opened by: none, one that fills so many bytes of room, or no text
abbrev pub Unnamed : List ℕ → ℕ → Type 0
Unnamed name room = (name ≡ []) ⊎ (length name ≡ room) ⊎ ¬ (IsUtf8 name)

-- reading a trace into so much room: which one was asked for, and no more bytes than there is room; where they fill it, the input may have more, and the text is settled all the same
pub record Reads (number room : ℕ) (read : Read) : Type 0 where
  pub asked : read.number ≡ number
  pub counts : length (read_of read) ≤ room
  pub full : length (read_of read) ≡ room → Settled (read_of read)

-- a trace that can't be read: which one was asked for
pub record Fails (number : ℕ) (failure : Failure) : Type 0 where
  pub asked : failure.number ≡ number

-- the path of what was read, or the name of what can't be read
abbrev pub name_of : Result Read Failure → List ℕ
name_of (Ok read) = read.path.now
name_of (Err failure) = failure.name.now

-- the trace that an argument names, or standard input where the number is 0, is read into so much room or can't be read
abbrev pub Fills : ℕ → ℕ → Result Read Failure → Type 0
Fills number room (Ok read) = Reads number room read
Fills number room (Err failure) = Fails number failure
