use mathlib.Core.Path.{sym, ◌∙◌}
use native.Mathlib.Omega.{arith}
use Rattle.folds.proofs.Folds.{all_fails}
use Rattle.block_sound.proofs.warps_sound.Goals as goal

pub returns-then-not-warp_sound : goal.returns-then-not-warp_sound
returns-then-not-warp_sound c =
    sym (all_fails _ 32 c.loop-w.w (omega arith) (sym c.warp_sound.ensures ∙ c.if-not-warp_sound.true))
