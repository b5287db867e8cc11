use mathlib.Core.Path.{sym, ◌∙◌}
use native.Mathlib.Omega.{arith}
use Rattle.folds.proofs.Folds.{all_fails}
use Rattle.block_sound.proofs.rows_sound.Goals as goal

pub returns-then-not-row_sound : goal.returns-then-not-row_sound
returns-then-not-row_sound c =
    rw (← c.live-alive.ensures)
    (sym (all_fails _ 16 c.loop-k.k (omega arith) (sym c.row_sound.ensures ∙ c.if-not-row_sound.true)))
