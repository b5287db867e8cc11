-- `steps::lengths::length_of` meets its contract: the table's rule.
-- Assumes nothing.
use native.Mathlib.Omega.{arith}
use Rattle.steps.proofs.LengthTable.{rule, small}
use Rattle.steps.proofs.lengths.length_of.Goals as goal

pub overflow_cast-result-2 : goal.overflow_cast-result-2
overflow_cast-result-2 c = omega (arith, small c.args.kind (omega arith))

pub returns : goal.returns
returns c = rule c.args.kind (omega arith)
