-- `step_decides::on_object` meets its contract: the address, and the object's own answer.
-- Assumes nothing.
use mathlib.Core.Path.{sym, ap, ◌∙◌}
use native.Mathlib.Omega.{arith}
use Rattle.std.specs.Prelude.{Ok}
use Rattle.std.proofs.lemmas.Result.{err_from_is_err_and}
use Rattle.object.specs.Row.{step_row}
use Rattle.tables.proofs.Chains.{place_below}
use Rattle.step_decides.proofs.Decides.{object_off_place, object_refused, object_answered}
use Rattle.step_decides.proofs.on_object.Goals as goal

pub returns-then-a : goal.returns-then-a
returns-then-a c = object_off_place _ _ _ c.if-a.true

pub overflow_cast-slot : goal.overflow_cast-slot
overflow_cast-slot c = omega (arith, place_below c.args.a c.if-a.false)

pub returns-in_err-answer : goal.returns-in_err-answer
returns-in_err-answer c =
    let p = err_from_is_err_and c.from_residual.result c.from_residual.ensures.1 in
    rw (p.1, p.2) (object_refused _ _ _ _ c.if-a.false (sym c.in_err-answer.was ∙ c.step.ensures ∙ ap (step_row c.args.row _) c.act_of.ensures))

pub returns : goal.returns
returns c =
    ap Ok c.in_object.ensures
    ∙ object_answered _ _ _ _ c.if-a.false (sym c.in_ok-answer.was ∙ c.step.ensures ∙ ap (step_row c.args.row _) c.act_of.ensures)
