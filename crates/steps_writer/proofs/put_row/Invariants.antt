-- `steps_writer::put_row` meets its contract. The invariant: what is left of the row, stored, gives what all of it gives.
-- Assumes nothing.
use Prim.Native.Nat.{◌+◌}
use mathlib.Core.Path.{◌≡◌}
use lib.ListN.{drop}
use lib.Seq.{sets}
use Rattle.fields.specs.Row.{total, encode}
use Rattle.steps_writer.proofs.put_row.Given as goal

abbrev pub invariant-loop-i : goal.invariant-loop-i
invariant-loop-i l =
    record {
      fits : l.place + total (drop l.i l.fn.widths) ≡ l.at + total l.fn.widths;
      left : sets l.out l.place (encode (drop l.i l.fn.widths) (drop l.i l.values)) ≡ sets l.initial.out l.at (encode l.fn.widths l.values);
    }
