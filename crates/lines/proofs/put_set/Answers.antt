-- `lines::put_set` meets its contract: a set of warps is laid as eight digits.
-- Assumes nothing.
use mathlib.Core.Path.{sym, ◌∙◌}
use native.Mathlib.Omega.{arith}
use Rattle.fields.proofs.Num.{laid_fits}
use Rattle.digits.specs.Digits.{warps}
use Rattle.digits.proofs.Digits.{length_warps}
use Rattle.lines.proofs.put_set.Goals as goal

pub returns : goal.returns
returns c =
    let a = c.args in
    (rw (length_warps a.set), c.put_warps.ensures ∙ sym (laid_fits a.line.now a.at (warps a.set) (omega arith)))
