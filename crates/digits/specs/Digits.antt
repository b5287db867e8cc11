-- Numbers and sets of warps as ASCII digits: document 01, "What the program prints".
-- Assumes nothing.
use Rattle.std.specs.Prelude.{List, ℕ, ◌+◌, ◌^◌, ltb}
use Rattle.folds.specs.Folds.{first}
use Rattle.io.specs.Digits.{last_digits}

-- how many decimal digits a number takes: the fewest that hold it, 1 at least; 20 hold every u64
abbrev pub places : ℕ → ℕ
places n = 1 + first 19 (λ k. ltb n (10 ^ (k + 1)))

-- a number in decimal
unfoldable pub decimal : ℕ → List ℕ
decimal n = last_digits 10 (places n) n

-- a set of warps as 8 lowercase hex digits, warp 0 lowest
abbrev pub warps : ℕ → List ℕ
warps m = last_digits 16 8 m
