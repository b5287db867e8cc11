-- Laws of the tables: rows past a list's end.
-- Assumes nothing.
use mathlib.Core.Path.{◌≡◌, sym}
use mathlib.Core.List.{List}
use Prim.Native.Nat.{ℕ, ◌≤◌}
use lib.ListN.{length, get_or, get_or-eq_default}

-- past the end of a list of n stands the default
pub past : {A : Type 0} (l : List A) (d : A) (n k : ℕ) → length l ≡ n → n ≤ k → d ≡ get_or l k d
past l d n k e h = sym (get_or-eq_default l d {n = k} (rw e h))
