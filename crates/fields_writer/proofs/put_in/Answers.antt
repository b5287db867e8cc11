-- `fields_writer::put_in` meets its contract. The invariant: the bytes that are laid, and those of what is left.
-- Assumes nothing.
use Prim.Native.Nat.{ℕ, suc, ◌+◌, ◌-◌, ◌/◌, ◌%◌, ◌<◌}
use mathlib.Core.Path.{◌≡◌, ◌∙◌, ap}
use mathlib.Core.List.{List, ◌++◌, append_assoc}
use native.Mathlib.Omega.{arith}
use native.Mathlib.Numerals.{add-one}
use lib.ListN.{length, take, set, length-set}
use lib.Seq.{take-suc-set}
use Rattle.fields.specs.Num.{bytes}
use Rattle.fields_writer.proofs.put_in.Goals as goal

-- a turn lays the lowest byte of what is left
turn : (l all : List ℕ) (i left : ℕ) → i < length l → take i l ++ bytes (length l - i) left ≡ all
    → take (i + 1) (set l i (left % 256)) ++ bytes (length (set l i (left % 256)) - (i + 1)) (left / 256) ≡ all
turn l all i left lt e =
    let n : length l - i ≡ suc (length l - suc i) = omega arith in
    rw (length-set, add-one, take-suc-set l i (left % 256) lt, append_assoc (take i l)) (rw n at e)

pub loop-b-preserved : goal.loop-b-preserved
loop-b-preserved c =
    let l = c.loop-b in
    turn l.field _ l.b-index l.left (omega arith) l.invariant
    ∙ ap (λ (n : ℕ). bytes n c.args.v) (simp length-set)
