use mathlib.Core.Path.{◌≡◌}
use mathlib.Core.Bool.{true}
use Rattle.folds.specs.Folds.{all}
use Rattle.block.specs.Tables.{warp_at, warp_sound}
use Rattle.block_sound.proofs.warps_sound.Given as goal

abbrev pub invariant-loop-w : goal.invariant-loop-w
invariant-loop-w l = all l.w (λ v. warp_sound l.b.warps v (warp_at l.b v)) ≡ true
