use mathlib.Core.Path.{◌≡◌}
use lib.ListN.{get_or}
use Rattle.folds.specs.Folds.{first}
use Rattle.block.specs.Tables.{idle}
use Rattle.block_steps.specs.Changes.{opens_for}
use Rattle.block_exit.proofs.opened.Given as goal

abbrev pub invariant-loop-k : goal.invariant-loop-k
invariant-loop-k l = first l.k (λ j. opens_for (get_or l.barriers j idle) l.alive l.w) ≡ l.k
