-- The conditions can be met: five arrivals on the object at 16, two of them drops, with two attached expectations and two completions, in two orders.
-- Assumes nothing.
use Rattle.std.specs.Prelude.{◌≡◌, true, false, pos, take}
use mathlib.Core.List.{List, [], ◌∷◌, Perm}
use Rattle.steps.specs.declared.ObjectStep.TheVariants.{Init, Arrive, ArriveExpect, Drop, DropExpect, Complete, TestToken, TestParity}
use Rattle.steps.specs.declared.Step.{Step}
use Rattle.block.specs.Verdicts.{accepted}
use Rattle.tables.specs.Tables.{fresh_tables, fresh_tally}
use Rattle.tables.specs.Effect.{verdict, State, run, verdicts}
use Rattle.orders.specs.Due.{Due}
use Rattle.orders.specs.Finishes.{with_row, step_on}

-- three warps, and an init of 5
abbrev pub started : State
started = run (record { tables = fresh_tables 3; tally = fresh_tally }) (step_on 0 16 (Init 5) ∷ [])

-- a completion comes before any expectation, and an arrival is last
abbrev pub one : List Step
one =
    step_on 1 16 (Complete 64)
    ∷ step_on 0 16 (Arrive 1)
    ∷ step_on 2 16 (DropExpect 96)
    ∷ step_on 0 16 (Complete 64)
    ∷ step_on 0 16 (Drop 1)
    ∷ step_on 1 16 (ArriveExpect 32)
    ∷ step_on 2 16 (Arrive 1)
    ∷ []

-- the same steps with a completion last
abbrev pub other : List Step
other =
    step_on 2 16 (Arrive 1)
    ∷ step_on 1 16 (ArriveExpect 32)
    ∷ step_on 0 16 (Drop 1)
    ∷ step_on 0 16 (Complete 64)
    ∷ step_on 2 16 (DropExpect 96)
    ∷ step_on 0 16 (Arrive 1)
    ∷ step_on 1 16 (Complete 64)
    ∷ []

-- phase 1, with pending at 5 less 2
abbrev pub ending : State
ending = record {
  tables = with_row (fresh_tables 3) 16 (record { live = true; expected = 3; pending = 3; tx = pos 0; phase = 1; seen = false });
  tally = record { accepted = 8; refused = 0 };
}

-- both orders are due, accepted throughout, and end alike
pub record Example : Type 0 where
  pub due : Due started.tables 16 one
  pub reordered : Perm one other
  pub answers : verdicts started one
      ≡ (accepted 0 false 0
      ∷ accepted 2097157 false 0
      ∷ accepted 2097156 false 0
      ∷ accepted 0 false 0
      ∷ accepted 2097155 false 0
      ∷ accepted 2097154 false 0
      ∷ accepted 2097153 true 0
      ∷ [])
  pub other_answers : verdicts started other
      ≡ (accepted 2097157 false 0
      ∷ accepted 2097156 false 0
      ∷ accepted 2097155 false 0
      ∷ accepted 0 false 0
      ∷ accepted 2097154 false 0
      ∷ accepted 2097153 false 0
      ∷ accepted 0 true 0
      ∷ [])
  pub end : run started one ≡ ending
  pub other_end : run started other ≡ ending
  -- the first arrival's token, and the parity, tested before the last step and straight after it
  pub token_no : verdict (run started (take 6 one)).tables (step_on 2 16 (TestToken 2097157)) ≡ accepted 0 false 0
  pub token_yes : verdict ending.tables (step_on 2 16 (TestToken 2097157)) ≡ accepted 1 false 0
  pub parity_no : verdict (run started (take 6 other)).tables (step_on 0 16 (TestParity 0)) ≡ accepted 0 false 0
  pub parity_yes : verdict ending.tables (step_on 0 16 (TestParity 0)) ≡ accepted 1 false 0
