-- `step_decides::decide` meets its contract: 3, 4 and 5 come first, and the kind decides the rest.
-- Assumes nothing.
use mathlib.Core.Path.{◌≡◌, sym, ◌∙◌}
use mathlib.Core.Bool.{not, true, false}
use native.Mathlib.Omega.{arith}
use Rattle.std.proofs.lemmas.Result.{err_from_is_err_and}
use Rattle.step_decides.proofs.Decides.{decided_unsound, decided_no_warp, decided_kind}
use Rattle.step_decides.proofs.decide.Goals as goal

pub returns-then-not-seen : goal.returns-then-not-seen
returns-then-not-seen c =
    let unsound : not c.args.seen.sound ≡ true = grind (arith, c.if-not-seen.true) in
    decided_unsound _ _ _ unsound

pub returns-in_err-warp_refusal : goal.returns-in_err-warp_refusal
returns-in_err-warp_refusal c =
    let sound : not c.args.seen.sound ≡ false = grind (arith, c.if-not-seen.false) in
    let p = err_from_is_err_and c.from_residual.result c.from_residual.ensures.1 in
    rw (p.1, p.2) (decided_no_warp _ _ _ sound _ (sym c.in_err-warp_refusal.was ∙ c.warp_refusal.ensures))

pub returns : goal.returns
returns c =
    let sound : not c.args.seen.sound ≡ false = grind (arith, c.if-not-seen.false) in
    c.of_kind.ensures ∙ decided_kind _ _ _ sound (sym c.in_ok-warp_refusal.was ∙ c.warp_refusal.ensures)
