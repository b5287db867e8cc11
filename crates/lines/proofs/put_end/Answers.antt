-- `lines::put_end` meets its contract: the line is made apart, and laid where it fits.
-- Assumes nothing.
use mathlib.Core.Path.{sym, ap, ◌∙◌}
use native.Mathlib.Omega.{arith}
use lib.ListN.{length}
use Rattle.fields.specs.Num.{laid}
use Rattle.lines.specs.Lines.{end_of}
use Rattle.lines.proofs.Stores.{made}
use Rattle.lines.proofs.Lines.{end_most}
use Rattle.lines.proofs.put_end.Goals as goal

pub slice_bounds-line-end : goal.slice_bounds-line-end
slice_bounds-line-end c = omega (arith, c.spell_end-k.ensures.0, end_most c.args.accepted c.args.refused)

pub slice_bounds-put-end : goal.slice_bounds-put-end
slice_bounds-put-end c =
    let a = c.args in
    c.spell_end-k.ensures.0 ∙ ap length (sym (made (end_of a.accepted a.refused) (end_most a.accepted a.refused) c.spell_end-k.ensures))

pub returns : goal.returns
returns c =
    let a = c.args in
    (c.spell_end-k.ensures.0, c.put.ensures ∙ ap (laid a.out.now a.at) (made (end_of a.accepted a.refused) (end_most a.accepted a.refused) c.spell_end-k.ensures))
