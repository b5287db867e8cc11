use mathlib.Core.Path.{◌≡◌}
use mathlib.Core.Bool.{not, ◌&&◌}
use lib.Dec.{ltb}
use Rattle.sets.specs.Sets.{set_of}
use Rattle.block.specs.Tables.{is_exited, warp_at}
use Rattle.block_sound.proofs.live.Given as goal

abbrev pub invariant-loop-w : goal.invariant-loop-w
invariant-loop-w l = l.set ≡ set_of l.w (λ v. ltb v l.b.warps && not (is_exited (warp_at l.b v).status))
