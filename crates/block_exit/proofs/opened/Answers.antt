use mathlib.Core.Path.{refl, sym, ◌∙◌}
use Rattle.folds.specs.Folds.{first}
use Rattle.folds.proofs.Folds.{first_found}
use Rattle.block_exit.proofs.opened.Goals as goal

pub loop-k-init : goal.loop-k-init
unfolding first
loop-k-init c = refl

pub returns-then-opens_for : goal.returns-then-opens_for
returns-then-opens_for c =
    sym (first_found _ _ 16 c.loop-k-test.true c.loop-k.invariant (sym c.opens_for.ensures ∙ c.if-opens_for.true))
