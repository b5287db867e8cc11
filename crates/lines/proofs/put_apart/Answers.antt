-- `lines::put_apart` meets its contract: the line is made apart, and laid where it fits.
-- Assumes nothing.
use mathlib.Core.Path.{sym, ap, ◌∙◌}
use native.Mathlib.Omega.{arith}
use lib.ListN.{length}
use Rattle.fields.specs.Num.{laid}
use Rattle.lines.specs.Lines.{line_of}
use Rattle.lines.proofs.Stores.{made}
use Rattle.lines.proofs.Lines.{line_most}
use Rattle.lines.proofs.put_apart.Goals as goal

pub slice_bounds-line-end : goal.slice_bounds-line-end
slice_bounds-line-end c = omega (arith, c.spell-k.ensures.0, line_most c.args.n c.args.verdict)

pub slice_bounds-put-end : goal.slice_bounds-put-end
slice_bounds-put-end c =
    let a = c.args in
    c.spell-k.ensures.0 ∙ ap length (sym (made (line_of a.n a.verdict) (line_most a.n a.verdict) c.spell-k.ensures))

pub returns : goal.returns
returns c =
    let a = c.args in
    (c.spell-k.ensures.0, c.put.ensures ∙ ap (laid a.out.now a.at) (made (line_of a.n a.verdict) (line_most a.n a.verdict) c.spell-k.ensures))
