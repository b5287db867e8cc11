-- Going on with what the check finds is the checked step.
use Rattle.std.proofs.Common.{◌≡◌, List, sym, subst}
use Rattle.steps.specs.declared.Step.{Step}
use Rattle.object.specs.declared.Object.{Object}
use Rattle.block.specs.declared.Block.{Block}
use Rattle.block_laws.specs.Sound.{Shaped}
use Rattle.tables.specs.declared.Tally.{Tally}
use Rattle.lent.specs.Entries.{tables_of, state_of, Stepped}
use Rattle.lent_run.specs.declared.Checked.{Checked}
use Rattle.lent_run.specs.declared.Gone.{Gone}
use Rattle.lent_run.specs.Run.{checked_of, GoneOn}
use Rattle.lent_run_laws.specs.Laws.{Fits}
use Rattle.lent_run_laws.proofs.Laws.{check_fits, gone_is_stepped}
use Rattle.lent_step.proofs.step.Goals as goal

-- what is known is what a check of this block finds, and going on was with a block that is the same
stepped : (d e d' : Block) (ys zs : List Object) (h h' : Tally) (s : Step) (k : Checked) (g : Gone) → Shaped d → k ≡ checked_of (tables_of d ys) → e ≡ d
    → GoneOn (state_of e ys h) k s g d' zs h' → Stepped (state_of d ys h) s g.verdict d' zs h'
stepped d e d' ys zs h h' s k g shaped found same gone =
    let fits : Fits k (tables_of d ys) = subst (λ (c : Checked). Fits c (tables_of d ys)) (sym found) (check_fits (tables_of d ys)) in
    let on : GoneOn (state_of d ys h) k s g d' zs h' = subst (λ (b : Block). GoneOn (state_of b ys h) k s g d' zs h') same gone in
    (gone_is_stepped (state_of d ys h) k s g d' zs h' shaped fits on).0

pub returns : goal.returns
returns c =
    let found = c.check-c.ensures in
    stepped c.args.b.now c.check-c.new.b c.go_on-g.new.b c.args.objects.now c.go_on-g.new.objects c.args.tally.now c.go_on-g.new.tally c.args.s c.check-c.result c.go_on-g.result
    found.shaped found.known.0 found.known.1 c.go_on-g.ensures
