-- `fields::number_in` meets its contract. The invariant: v is the number in the bytes from i on that were read, and fits as many.
-- Assumes nothing.
use Prim.Native.Nat.{◌-◌, ◌<◌}
use mathlib.Core.Path.{◌≡◌}
use lib.ListN.{drop}
use Rattle.fields.specs.Num.{room, num}
use Rattle.fields.proofs.number_in.Given as goal

abbrev pub invariant-loop-i : goal.invariant-loop-i
invariant-loop-i l = (l.v ≡ num (l.width - l.i) (drop l.i l.s)) × (l.v < room (l.width - l.i))
