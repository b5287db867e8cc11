use mathlib.Core.Path.{refl, sym, ◌∙◌}
use native.Mathlib.Omega.{arith}
use Rattle.folds.proofs.Folds.{all_none, all_more, all_fails, all_end}
use Rattle.block_sound.proofs.agrees.Goals as goal

pub rows-init : goal.rows-init
rows-init c = (refl, all_none _)

pub loop-w-init : goal.loop-w-init
loop-w-init c = (c.rows.invariant.0, all_none _)

pub loop-w-preserved : goal.loop-w-preserved
loop-w-preserved c =
    let same = c.if-not-ok.false in
    (same, all_more _ _ c.loop-w.invariant.1 (rw (c.has.ensures, c.waits_at.ensures) at same))

pub rows-preserved : goal.rows-preserved
rows-preserved c =
    let inv = c.loop-w.invariant in
    (inv.0, all_more _ _ c.rows.invariant.1 (all_end _ 32 _ (omega arith) c.loop-w-test.false inv.1))

pub returns-then-not-ok : goal.returns-then-not-ok
returns-then-not-ok c =
    let other = c.if-not-ok.true in
    other
    ∙ sym
    (all_fails _ 16 c.rows.k (omega arith)
    (all_fails _ 32 c.loop-w.w (omega arith) (rw (c.has.ensures, c.waits_at.ensures) at other)))
