use mathlib.Core.Path.{◌≡◌}
use mathlib.Core.Bool.{true, beq}
use Rattle.folds.specs.Folds.{all}
use Rattle.sets.specs.Sets.{has}
use Rattle.block.specs.Tables.{warp_at, waits_at, agrees_at}
use Rattle.block_sound.proofs.agrees.Given as goal

abbrev pub invariant-loop-w : goal.invariant-loop-w
invariant-loop-w l =
    (l.ok ≡ true) × (all l.w (λ v. beq (has l.barrier.waiting v) (waits_at (warp_at l.b v).status l.k)) ≡ true)

abbrev pub invariant-rows : goal.invariant-rows
invariant-rows l = (l.ok ≡ true) × (all l.k (λ j. all 32 (agrees_at l.b j)) ≡ true)
