-- A count that is not refused, and a transaction count within its range.
-- Assumes nothing.
use mathlib.Core.Path.{◌≡◌}
use mathlib.Core.Bool.{Bool, true, false}
use Prim.Native.Nat.{ℕ, ◌≤◌, ◌<◌, ◌^◌}
use native.Mathlib.Omega.{arith}
use lib.IntN.{ℤ, pos, negsuc}
use lib.Signed.{mag}
use Rattle.object.specs.declared.Object.{Object}
use Rattle.object.specs.Row.{bad_arrival, outside}

pub count_within : (o : Object) (n : ℕ) (drop : Bool) → bad_arrival o n drop ≡ false → n ≤ o.pending
count_within o n drop h = grind arith

pub count_below : (o : Object) (n : ℕ) → bad_arrival o n true ≡ false → n < o.expected
count_below o n h = grind arith

pub inside_fits : (z : ℤ) → outside z ≡ false → mag z < 2 ^ 31
inside_fits (pos n) h = grind arith
inside_fits (negsuc n) h = grind arith
