-- `object_phases::arrive` meets its contract: what settling answers of the row that the count and the expectation left.
-- Assumes nothing.
use native.Mathlib.Omega.{arith}
use lib.IntN.{pos}
use mathlib.Core.Path.{◌≡◌, refl}
use mir.Syntax.{w64}
use mir.Val.{to_z, of_z}
use Rattle.std.proofs.lemmas.Int.{ints}
use Rattle.object_phases.proofs.Settling.{kept, settles}
use Rattle.object_phases.proofs.arrive.Goals as goal

pub returns : goal.returns
returns c =
    let e : to_z w64 (of_z w64 c.from.result) ≡ pos c.args.expects = omega (arith, ints) in
    let k = kept _ _ _ _ c.in_ok-left.ensures in
    let m = kept _ _ _ _ (rw (e, k.1) at c.in_ok-row.ensures) in
    settles _ _ _ c.if-not-o.false refl k.0 m.0 c.if-not-o-2.false refl refl refl (rw (m.1, c.token.ensures) at c.settle.ensures)
