-- `fields_writer::put` meets its contract: where the end is past the bytes, or past all places, they do not fit.
-- Assumes nothing.
use native.Mathlib.Omega.{arith}
use Rattle.fields.specs.Num.{bytes}
use Rattle.fields.proofs.Num.{length_bytes, laid_short}
use Rattle.fields_writer.proofs.put.Goals as goal

pub returns-in_default : goal.returns-in_default
returns-in_default c =
    let a = c.args in
    laid_short a.out.now a.at (bytes a.width a.v) (omega (arith, length_bytes a.width a.v, c.in_default.ensures))

pub returns-else-end-out : goal.returns-else-end-out
returns-else-end-out c =
    let a = c.args in
    laid_short a.out.now a.at (bytes a.width a.v) (omega (arith, length_bytes a.width a.v, c.in-Some.ensures))
