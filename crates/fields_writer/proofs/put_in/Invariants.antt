-- `fields_writer::put_in` meets its contract. The invariant: the bytes that are laid, and those of what is left.
-- Assumes nothing.
use Prim.Native.Nat.{◌-◌}
use mathlib.Core.Path.{◌≡◌}
use mathlib.Core.List.{◌++◌}
use lib.ListN.{length, take}
use Rattle.fields.specs.Num.{bytes}
use Rattle.fields_writer.proofs.put_in.Given as goal

abbrev pub invariant-loop-b : goal.invariant-loop-b
invariant-loop-b l = take l.b-index l.field ++ bytes (length l.field - l.b-index) l.left ≡ bytes (length l.field) l.v
