-- `lines::put_line` meets its contract: where any line fits it is made where it is to lie, and else apart.
-- Assumes nothing.
use mathlib.Core.Path.{ap, ◌∙◌}
use mathlib.Core.List.{List, ◌++◌}
use Prim.Native.Nat.{ℕ, ◌-◌}
use native.Mathlib.Omega.{arith}
use lib.ListN.{length, take, drop}
use Rattle.fields.proofs.Num.{laid_fits}
use Rattle.lines.specs.Lines.{line_of}
use Rattle.lines.proofs.Stores.{part_sets}
use Rattle.lines.proofs.Lines.{line_most}
use Rattle.lines.proofs.put_line.Goals as goal

pub returns : goal.returns
returns c =
    let a = c.args in
    let l = a.out.now in
    let line = line_of a.n a.verdict in
    let k = length l - a.at in (
      c.put_first.ensures.0,
      ap (λ (m : List ℕ). take a.at l ++ (m ++ drop k (drop a.at l))) c.put_first.ensures.1
          ∙ part_sets l line a.at k (omega arith) (omega (arith, line_most a.n a.verdict))
          ∙ laid_fits l a.at line (omega (arith, line_most a.n a.verdict)),
    )
