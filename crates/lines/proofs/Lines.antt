-- Laws of the lines: their words one after the other, and how long a line is.
-- Assumes nothing.
use mathlib.Core.Path.{◌≡◌}
use mathlib.Core.List.{[], ◌∷◌, ◌++◌, append_assoc}
use Prim.Native.Nat.{ℕ, ◌≤◌}
use native.Mathlib.Omega.{arith}
use lib.ListN.{length, length-append}
use Rattle.digits.specs.Digits.{decimal, warps}
use Rattle.digits.proofs.Digits.{decimal_most, length_warps}
use Rattle.std.specs.Prelude.{Ok, Err}
use Rattle.refusals.specs.declared.Refusal.{Refusal}
use Rattle.refusals.specs.Refusals.{number}
use Rattle.block.specs.declared.Accepted.{Accepted}
use Rattle.block.specs.Verdicts.{Verdict}
use Rattle.lines.specs.Lines.{flag, line_of, end_of, most_line}

-- what is laid of a line, one after the other
pub ok_line : (n : ℕ) (a : Accepted)
    → ((((decimal n ++ 32 ∷ 111 ∷ 107 ∷ 32 ∷ []) ++ decimal a.value) ++ (32 ∷ flag a.done ∷ 32 ∷ [])) ++ warps a.released) ++ (10 ∷ [])
    ≡ line_of n (Ok a)
unfolding line_of
ok_line n a = simp append_assoc

pub no_line : (n : ℕ) (r : Refusal) → ((decimal n ++ 32 ∷ 110 ∷ 111 ∷ 32 ∷ []) ++ decimal (number r)) ++ (10 ∷ []) ≡ line_of n (Err r)
unfolding line_of
no_line n r = simp append_assoc

pub end_line : (a b : ℕ) → ((((101 ∷ 110 ∷ 100 ∷ 32 ∷ []) ++ decimal a) ++ (32 ∷ [])) ++ decimal b) ++ (10 ∷ []) ≡ end_of a b
unfolding end_of
end_line a b = simp append_assoc

-- a line has at most 56 bytes
pub line_most : (n : ℕ) (v : Verdict) → length (line_of n v) ≤ most_line
line_most n (Ok a) =
    rw (← ok_line n a) (simp length-append (omega (arith, decimal_most n, decimal_most a.value, length_warps a.released)))
line_most n (Err r) = rw (← no_line n r) (simp length-append (omega (arith, decimal_most n, decimal_most (number r))))

pub end_most : (a b : ℕ) → length (end_of a b) ≤ most_line
end_most a b = rw (← end_line a b) (simp length-append (omega (arith, decimal_most a, decimal_most b)))
