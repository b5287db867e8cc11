-- Sets of warps as masks of 32 digits, warp 0 lowest.
-- Assumes nothing.
use Rattle.std.specs.Prelude.{Bool, cond, ℕ, zero, suc, ◌+◌, ◌-◌, ◌*◌, ◌/◌, ◌%◌, ◌^◌, eqb, ltb}
use Rattle.std.specs.Int.Bits.{bit_and, bit_or}
pub use Rattle.folds.specs.Folds.{digit}

-- the set has warp w: digit w of the mask is 1
abbrev pub has : ℕ → ℕ → Bool
has set w = eqb (set / 2 ^ w % 2) 1

-- the set with warp w in it; a mask has no place above 31
abbrev pub put : ℕ → ℕ → ℕ
put set w = cond (ltb w 32) (bit_or set (2 ^ w)) set

-- the set without warp w
abbrev pub less : ℕ → ℕ → ℕ
less set w = cond (has set w) (set - 2 ^ w) set

-- each warp of a is one of b
abbrev pub part : ℕ → ℕ → Bool
part a b = eqb (bit_and a b) a

-- the set names only warps below n
abbrev pub within : ℕ → ℕ → Bool
within n set = ltb set (2 ^ n)

-- how many of the n lowest digits of a mask are 1
unfoldable pub size_below : ℕ → ℕ → ℕ
size_below zero set = 0
size_below (suc n) set = size_below n set + set / 2 ^ n % 2

-- how many warps a set has, and how many lanes of a mask are true
abbrev pub size : ℕ → ℕ
size set = size_below 32 set

-- the set of the numbers below n of which the test holds
unfoldable pub set_of : ℕ → (ℕ → Bool) → ℕ
set_of zero p = 0
set_of (suc n) p = set_of n p + digit (p n) * 2 ^ n
