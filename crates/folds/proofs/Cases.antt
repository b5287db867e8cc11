-- What holds at each number below a numeral, by a proof for each.
-- Assumes nothing.
use Prim.Native.Nat.{ℕ, zero, suc, ◌+◌, ◌<◌}
use native.Mathlib.Nat.{add-zero, zero-add, add-suc, suc-add, le_of_suc-le-suc, not-suc-le-zero}

infixr 20 ◌&◌
-- P at i and at the n - 1 numbers after it
abbrev pub All : (ℕ → Type 0) → ℕ → ℕ → Type 0
All P i zero = Unit {0}
All P i (suc n) = P i × All P (suc i) n

abbrev pub ◌&◌ : {A B : Type 0} → A → B → A × B
a & b = (a, b)

from : (P : ℕ → Type 0) (i n : ℕ) → All P i n → (k : ℕ) → k < n → P (k + i)
from P i zero a k h = absurd (not-suc-le-zero h)
from P i (suc n) a zero h = rw zero-add a.0
from P i (suc n) a (suc k) h = rw (suc-add, ← add-suc) (from P (suc i) n a.1 k (le_of_suc-le-suc h))

pub cases : (P : ℕ → Type 0) (n : ℕ) → All P 0 n → (k : ℕ) → k < n → P k
cases P n a k h = rw add-zero at (from P 0 n a k h)
