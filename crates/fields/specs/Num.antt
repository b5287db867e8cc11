-- Little-endian numbers of so many bytes.
-- Assumes nothing.
use Rattle.std.specs.Prelude.{cond, List, [], ◌∷◌, ◌++◌, ℕ, zero, suc, ◌+◌, ◌*◌, ◌/◌, ◌%◌, ◌<◌, leb, length, take, drop, get_or}

-- how many numbers there are of w bytes
abbrev pub room : ℕ → ℕ
room zero = 1
room (suc w) = 256 * room w

-- the number in the first w bytes of a list, the lowest first; a missing byte counts as 0
abbrev pub num : ℕ → List ℕ → ℕ
num zero s = 0
num (suc w) s = get_or s 0 0 + 256 * num w (drop 1 s)

-- the w lowest bytes of a number, the lowest first
abbrev pub bytes : ℕ → ℕ → List ℕ
bytes zero v = []
bytes (suc w) v = (v % 256) ∷ bytes w (v / 256)

-- every element is a byte
abbrev pub Bytes : List ℕ → Type 0
Bytes s = (i : ℕ) → get_or s i 0 < 256

-- a list with bytes laid in from a place on, the others as they were; where they do not fit, all as they were
abbrev pub laid : List ℕ → ℕ → List ℕ → List ℕ
laid out at bs = cond (leb (at + length bs) (length out)) (take at out ++ bs ++ drop (at + length bs) out) out
