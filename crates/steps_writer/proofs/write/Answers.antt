-- `steps_writer::write` meets its contract: at each return the tests that led there say whether there is room.
-- Assumes nothing.
use Prim.Native.Nat.{ℕ, ◌+◌, ◌≤◌}
use mathlib.Core.Path.{◌≡◌, ap, ◌∙◌}
use mathlib.Core.List.{List}
use native.Mathlib.Omega.{arith}
use native.Mathlib.Numerals.{add-one}
use lib.ListN.{length, set, length-set}
use lib.Seq.{sets, length-sets}
use Rattle.std.specs.Prelude.{Ok}
use Rattle.fields.specs.Row.{total, encode}
use Rattle.steps.specs.declared.Step.{Step}
use Rattle.steps.specs.Step.{length_of, row, kind_of, values_of, bytes_of, write_at, written}
use Rattle.steps.proofs.Writing.{has_room}
use Rattle.steps_writer.proofs.Room.{size_is}
use Rattle.steps_writer.proofs.write.Goals as goal

-- the byte, the widths and the values are those of the step, whose body has so many bytes
module _ (s : Step) (byte n : ℕ) (ws vs out : List ℕ) (at : ℕ) (eb : byte ≡ kind_of s) (en : n ≡ length_of byte) (ew : ws ≡ row (kind_of s)) where
  fits : at + 1 + n ≤ length out → at + 1 + total ws ≤ length (set out at byte)
  fits h = simp length-set (omega (arith, ap total ew, en ∙ ap length_of eb))

  module _ (left : List ℕ) (ev : vs ≡ values_of s) (put : left ≡ sets (set out at byte) (at + 1) (encode ws vs)) where
    stored : left ≡ sets out at (bytes_of s)
    stored = put ∙ (λ i. sets (set out at (eb i)) (add-one at i) (encode (ew i) (ev i)))

    long : length left ≡ length out
    long = ap length stored ∙ length-sets out at (bytes_of s)

    laid_in : at + 1 + n ≤ length out → (Ok (at + 1 + n) ≡ write_at s out at) × (left ≡ written s out at)
    laid_in h =
        let z = size_is s byte n eb en in
        let room = has_room s out at (omega (arith, z)) in
        let place : at + 1 + n ≡ at + length (bytes_of s) = omega (arith, z) in
        (ap Ok place ∙ room.0, stored ∙ room.1)

pub put_row-requires : goal.put_row-requires
put_row-requires c =
    let a = c.args in
    let p = c.parts_of-kind.ensures in
    fits a.step _ _ c.widths_of.result a.out.now a.out.now a.at (c.from-byte.ensures ∙ p.0) c.length_of-n.ensures (c.widths_of.ensures ∙ ap row p.0) (omega arith)

pub shape_of-out : goal.shape_of-out
shape_of-out c =
    let a = c.args in
    let p = c.parts_of-kind.ensures in
    long a.step _ _ _ _ a.out.now a.at (c.from-byte.ensures ∙ p.0) c.length_of-n.ensures (c.widths_of.ensures ∙ ap row p.0) _ p.1 c.put_row.ensures

pub returns : goal.returns
returns c =
    let a = c.args in
    let p = c.parts_of-kind.ensures in
    laid_in a.step _ _ _ _ a.out.now a.at (c.from-byte.ensures ∙ p.0) c.length_of-n.ensures (c.widths_of.ensures ∙ ap row p.0) _ p.1 c.put_row.ensures (omega arith)
