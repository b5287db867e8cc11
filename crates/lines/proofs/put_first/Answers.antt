-- `lines::put_first` meets its contract: what is lent of the buffer is as long as the longest line, and the rest stays.
-- Assumes nothing.
use mathlib.Core.Path.{ap, ◌∙◌}
use mathlib.Core.List.{List, ◌++◌}
use Prim.Native.Nat.{ℕ}
use native.Mathlib.Omega.{arith}
use lib.ListN.{drop}
use lib.Seq.{sets}
use Rattle.lines.specs.Lines.{most_line, line_of}
use Rattle.lines.proofs.Stores.{part_sets}
use Rattle.lines.proofs.Lines.{line_most}
use Rattle.lines.proofs.put_first.Goals as goal

pub returns : goal.returns
returns c =
    let a = c.args in
    let line = line_of a.n a.verdict in (
      c.spell.ensures.0,
      ap (λ (m : List ℕ). m ++ drop most_line a.out.now) (c.spell.ensures.1 ∙ ap (λ (m : List ℕ). sets m 0 line) c.in-Some.ensures.cases.same)
          ∙ part_sets a.out.now line 0 most_line (omega arith) (line_most a.n a.verdict),
    )
