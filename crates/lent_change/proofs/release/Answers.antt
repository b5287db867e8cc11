-- An empty set releases none; else one row more is released each turn, and past the last row all are.
use Rattle.std.proofs.Common.{◌≡◌, sym, ap, ◌∙◌, arith, length}
use Rattle.folds.proofs.Folds.{firsts_none, firsts_next}
use Rattle.block.specs.Tables.{fresh_warp}
use Rattle.lent_change.proofs.Rows.{released_row, released_to, released_all, none_released}
use Rattle.lent_change.proofs.release.Goals as goal

pub returns-then-f-eq0 : goal.returns-then-f-eq0
returns-then-f-eq0 c = none_released c.args.f c.args.rows.now c.if-f-eq0.true

pub loop-i-init : goal.loop-i-init
loop-i-init c = sym (firsts_none (released_row c.args.f) c.args.rows.now 0)

pub loop-i-preserved : goal.loop-i-preserved
loop-i-preserved c =
    rw (c.released_at.ensures, c.loop-i.invariant) (firsts_next (released_row c.args.f) c.args.rows.now c.loop-i.i fresh_warp c.loop-i-test.true)

pub returns : goal.returns
returns c =
    let all : c.loop-i.i ≡ length c.args.rows.now = omega arith in
    c.loop-i.invariant ∙ ap (released_to c.args.f c.args.rows.now) all ∙ released_all c.args.f c.args.rows.now
