use mathlib.Core.Path.{ap, ◌∙◌}
use mathlib.Core.Bool.{true}
use Rattle.lent_run.specs.Run.{known}
use Rattle.lent_run.proofs.Fresh.{fresh_unsound, fresh_sound}
use Rattle.lent_run.proofs.fresh_checked.Goals as goal

pub returns-then-warps : goal.returns-then-warps
returns-then-warps c = fresh_unsound _ c.if-warps.true

pub returns : goal.returns
returns c = ap (known true) c.below.ensures ∙ fresh_sound _ c.if-warps.false
