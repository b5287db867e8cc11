-- `digits::spell` meets its contract: where the digits fit, they are stored one by one from the last on, and else nothing is.
-- The invariant: what is left to store, stored, gives what all of it gives.
-- Assumes nothing.
use mathlib.Core.Path.{◌≡◌}
use lib.Seq.{sets}
use Rattle.io.specs.Digits.{last_digits}
use Rattle.digits.proofs.spell.Given as goal

abbrev pub invariant-loop-i : goal.invariant-loop-i
invariant-loop-i l = sets l.out l.at (last_digits l.base l.i l.left) ≡ sets l.initial.out l.at (last_digits l.base l.k l.n)
