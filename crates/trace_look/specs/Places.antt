-- What stands at a place in a trace.
-- Assumes nothing.
use Rattle.std.specs.Prelude.{cond, List, ℕ, leb, length, Option, Some, None, Result}
use Rattle.refusals.specs.declared.Refusal.{Refusal}
use Rattle.steps.specs.declared.Step.{Step}
use Rattle.steps.specs.declared.Cursor.{Cursor}
use Rattle.steps.specs.Step.{read_at}

-- what is read at the place: a step, and the place after it; or a 1 or 2; where no byte is left, nothing
unfoldable pub looked : List ℕ → ℕ → Option (Result (Step × Cursor) Refusal)
looked s at = cond (leb (length s) at) None (Some (read_at s at))
