-- `step_decides::of_kind` meets its contract: each kind is decided by its own functions.
-- Assumes nothing.
use mathlib.Core.Path.{sym, ap, ◌∙◌}
use Rattle.std.specs.Prelude.{Ok}
use Rattle.std.proofs.lemmas.Result.{err_from_is_err_and}
use Rattle.step_decides.proofs.Decides.{kind_exit, kind_refused, kind_arrives, kind_object, kind_pending}
use Rattle.step_decides.proofs.of_kind.Goals as goal

pub returns-in-Exit : goal.returns-in-Exit
returns-in-Exit c = ap Ok c.in_block.ensures ∙ kind_exit _ _ _ _ _ c.exit.ensures c.in-Exit.is

pub returns-in_err-moved-in-Barrier : goal.returns-in_err-moved-in-Barrier
returns-in_err-moved-in-Barrier c =
    let p = err_from_is_err_and c.from_residual.result c.from_residual.ensures.1 in
    rw (p.1, p.2) (kind_refused _ _ _ _ _ _ c.in-Barrier.is _ c.call_of-call.ensures _ (sym c.in_err-moved-in-Barrier.was ∙ c.arrival.ensures))

pub returns-in_ok-moved-in-Barrier : goal.returns-in_ok-moved-in-Barrier
returns-in_ok-moved-in-Barrier c =
    ap Ok c.in_block-in-Barrier.ensures
    ∙ kind_arrives _ _ _ _ _ _ c.in-Barrier.is _ c.call_of-call.ensures _ (sym c.in_ok-moved-in-Barrier.was ∙ c.arrival.ensures)

pub returns-in-Object : goal.returns-in-Object
returns-in-Object c = c.on_object.ensures ∙ kind_object _ _ _ _ _ _ c.in-Object.is

pub returns-in-PendingCount : goal.returns-in-PendingCount
returns-in-PendingCount c = c.pending.ensures ∙ kind_pending _ _ _ _ _ c.in-PendingCount.is
