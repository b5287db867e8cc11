use mathlib.Core.Path.{◌≡◌}
use mathlib.Core.Bool.{true}
use Rattle.folds.specs.Folds.{all}
use Rattle.block.specs.Tables.{barrier_at, row_sound}
use Rattle.block_sound.proofs.rows_sound.Given as goal

abbrev pub invariant-loop-k : goal.invariant-loop-k
invariant-loop-k l = all l.k (λ j. row_sound l.b.warps l.alive (barrier_at l.b j)) ≡ true
