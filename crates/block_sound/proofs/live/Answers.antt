use mathlib.Core.Path.{refl, sym, ap, ◌∙◌}
use mathlib.Core.Bool.{Bool, not, ◌&&◌}
use native.Mathlib.Omega.{arith}
use lib.Dec.{ltb}
use Rattle.sets.specs.Sets.{set_of}
use Rattle.sets.proofs.Sets.{set_of_put, set_of_pass}
use Rattle.block.specs.Tables.{is_exited, warp_at}
use Rattle.block_sound.proofs.live.Goals.{then-here, else-here}
use Rattle.block_sound.proofs.live.Goals as goal

pub loop-w-init : goal.loop-w-init
unfolding set_of
loop-w-init c = refl

pub loop-w-preserved : goal.loop-w-preserved
loop-w-preserved c =
    let n = c.args.b.warps in
    let e = ap (λ (g : Bool). ltb c.loop-w.w n && not g) c.is_exited.ensures in
    elim c.if-here.branch [
      | then-here w ↦ rw (w.set-is, w.put-set.ensures, c.loop-w.invariant) (set_of_put (λ v. ltb v n && not (is_exited (warp_at c.args.b v).status)) c.loop-w.w (omega arith) (sym e ∙ w.if-here.true))
      | else-here w ↦ rw (w.set-is, c.loop-w.invariant) (set_of_pass (λ v. ltb v n && not (is_exited (warp_at c.args.b v).status)) c.loop-w.w (sym e ∙ w.if-here.false))
    ]
