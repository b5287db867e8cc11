-- What the check answers to C: a number alone.
-- Assumes nothing.
use Rattle.std.specs.Prelude.{ℕ, Option, Some, None}

-- SIZE_MAX: the text doesn't fit
abbrev pub no_room : ℕ
no_room = 18446744073709551615

-- the length of the text that was laid, or that there is no room
abbrev pub number_of : Option ℕ → ℕ
number_of (Some n) = n
number_of None = no_room
