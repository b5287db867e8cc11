-- `object_phases::complete` meets its contract: line 15, or what settling answers of the row with the transactions taken off.
-- Assumes nothing.
use Rattle.std.proofs.lemmas.Grind.{common_steps}
use native.Mathlib.Omega.{arith}
use lib.IntN.{pos, ◌+ℤ◌, ◌-ℤ◌}
use mathlib.Core.Path.{◌≡◌, refl}
use mir.Syntax.{w64}
use mir.Val.{to_z, of_z}
use Rattle.std.proofs.lemmas.Int.{ints}
use Rattle.folds.specs.Folds.{lowest}
use Rattle.object.specs.Row.{step_row}
use Rattle.object_phases.proofs.Settling.{kept, settles}
use Rattle.object_phases.proofs.complete.Goals as goal

pub returns-in_err-row : goal.returns-in_err-row
unfolding step_row lowest
returns-in_err-row c =
    let e : c.args.o.tx +ℤ to_z w64 (of_z w64 (pos 0 -ℤ to_z w64 (of_z w64 c.from.result))) ≡ c.args.o.tx -ℤ pos c.args.x = omega (arith, ints) in
    let k = rw e at c.in_err-row.ensures in
    grind (arith, common_steps, k)

pub returns : goal.returns
returns c =
    let e : c.args.o.tx +ℤ to_z w64 (of_z w64 (pos 0 -ℤ to_z w64 (of_z w64 c.from.result))) ≡ c.args.o.tx -ℤ pos c.args.x = omega (arith, ints) in
    let k = kept _ _ _ _ (rw e at c.in_ok-row.ensures) in
    settles _ _ _ c.if-not-o.false refl refl k.0 refl refl refl refl (rw k.1 at c.settle.ensures)
