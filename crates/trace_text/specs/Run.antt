-- A run over a trace: its steps are read one after the other and taken. What is printed is made of it.
-- Assumes nothing.
use Rattle.std.specs.Prelude.{cond, List, [], ◌∷◌, ℕ, zero, suc, leb, length, get_or, Option, Some, None, Result, Ok, Err}
use Rattle.refusals.specs.declared.Refusal.{Refusal}
use Rattle.steps.specs.declared.Step.{Step}
use Rattle.steps.specs.declared.Cursor.{Cursor}
use Rattle.steps.specs.Step.{read_at}
use Rattle.block.specs.Verdicts.{Verdict}
use Rattle.tables.specs.Tables.{fresh_tables, fresh_tally}
use Rattle.tables.specs.Effect.{State, run, verdicts}

-- ---- the steps that are read

-- the steps from a place on, the place after them, and why no other was read: nothing where no byte is left, else 1 or 2
pub record StepsRead : Type 0 where
  pub steps : List Step
  pub at : ℕ
  pub stop : Option Refusal

-- none
abbrev pub no_step : ℕ → Option Refusal → StepsRead
no_step at why = record { steps = []; at = at; stop = why }

-- one before others
abbrev pub step_then : Step → StepsRead → StepsRead
step_then st r = record { steps = st ∷ r.steps; at = r.at; stop = r.stop }

-- what is read at a place: a step, and it goes on after it; or a 1 or 2, and it stops there
abbrev pub read_on : ℕ → (ℕ → StepsRead) → Result (Step × Cursor) Refusal → StepsRead
read_on at rest (Ok (st, c)) = step_then st (rest c.at)
read_on at rest (Err r) = no_step at (Some r)

-- the steps from a place on; a trace that ends between steps is finished.
-- The first number is the most steps that are read: as many as there are bytes are always enough
unfoldable pub steps_from : ℕ → List ℕ → ℕ → StepsRead
steps_from zero s at = no_step at None
steps_from (suc more) s at = cond (leb (length s) at) (no_step at None) (read_on at (λ place. steps_from more s place) (read_at s at))

-- ---- the run

-- the verdicts of the steps, tables and tally after them, the place reached, and why it stopped there: nothing where no byte is left, else 1 or 2
pub record Run : Type 0 where
  pub verdicts : List Verdict
  pub state : State
  pub at : ℕ
  pub stop : Option Refusal

-- the steps that were read, taken one after the other
abbrev pub taking : State → StepsRead → Run
taking x r = record { verdicts = verdicts x r.steps; state = run x r.steps; at = r.at; stop = r.stop }

-- the run from a place on, of at most so many steps
abbrev pub run_from : ℕ → List ℕ → State → ℕ → Run
run_from most s x at = taking x (steps_from most s at)

-- fresh tables for so many warps, and no step counted
abbrev pub fresh_state : ℕ → State
fresh_state w = record { tables = fresh_tables w; tally = fresh_tally }

-- the run over a trace, whose first byte is the number of warps
abbrev pub run_of : List ℕ → Run
run_of s = run_from (length s) s (fresh_state (get_or s 0 0)) 1
