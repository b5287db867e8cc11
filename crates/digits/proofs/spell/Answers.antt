-- `digits::spell` meets its contract: where the digits fit, they are stored one by one from the last on, and else nothing is.
-- Assumes nothing.
use mathlib.Core.Path.{◌≡◌, sym, ◌∙◌}
use Prim.Native.Nat.{◌+◌}
use native.Mathlib.Omega.{arith}
use borrow.Author.Tests.{leb-true}
use lib.ListN.{length}
use Rattle.fields.proofs.Num.{laid_fits}
use Rattle.io.specs.Digits.{last_digits}
use Rattle.digits.proofs.Digits.{length_digits, digit_stored}
use Rattle.digits.proofs.spell.Goals as goal

pub returns-then-not-fits : goal.returns-then-not-fits
returns-then-not-fits c = rw (length_digits c.args.base c.args.k c.args.n, ← c.if-not-fits.ensures)

pub loop-i-preserved : goal.loop-i-preserved
loop-i-preserved c =
    let l = c.loop-i in
    rw c.glyph.ensures (digit_stored l.out _ c.args.at l.i c.args.base l.left c.loop-i-test.true l.invariant)

pub returns : goal.returns
returns c =
    let l = c.loop-i in
    let a = c.args in
    let none : l.i ≡ 0 = omega arith in
    let fits = leb-true (a.at + a.k) (length a.out.now) (sym c.if-not-fits.ensures) in
    rw none at l.invariant ∙ laid_fits a.out.now a.at (last_digits a.base a.k a.n) (rw (length_digits a.base a.k a.n) fits)
