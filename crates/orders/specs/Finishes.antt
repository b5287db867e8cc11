-- Demand 3, what it comes to: the phase completes once, at the last step.
-- Assumes nothing.
use Rattle.std.specs.Prelude.{◌≡◌, Bool, true, false, ℕ, ◌+◌, ◌-◌, ◌*◌, ◌/◌, ◌%◌, ◌<◌, pos, set}
use mathlib.Core.List.{List, [], ◌∷◌, ◌++◌, foldr}
use Rattle.steps.specs.declared.ObjectStep.{ObjectStep}
use Rattle.steps.specs.declared.ObjectStep.TheVariants.{TestToken, TestParity}
use Rattle.steps.specs.declared.Op.{Op}
use Rattle.steps.specs.declared.Op.TheVariants as op
use Rattle.steps.specs.declared.Step.{Step}
use Rattle.object.specs.declared.Object.{Object}
use Rattle.object.specs.Tokens.{slot_unit, phase_unit}
use Rattle.object.specs.Row.{value_of}
use Rattle.block.specs.Verdicts.{accepted}
use Rattle.tables.specs.Tables.{Tables, counted}
use Rattle.tables.specs.Refusals.{act_of}
use Rattle.tables.specs.Effect.{verdict, after, State, run}
use Rattle.orders.specs.Due.{object_at, drops, ready}

-- no step is left
abbrev pub none : List Step → Bool
none [] = true
none (s ∷ l) = false

-- the value of a step: an arrival's or a drop's token of the row o, which is the state before it; 0 of a completion
abbrev pub answer_of : Object → Op → ℕ
answer_of o op.Exit = 0
answer_of o (op.Barrier k b) = 0
answer_of o (op.Object a y) = value_of o (a / 8) (act_of y)
answer_of o (op.PendingCount t) = 0

-- ---- the end

-- the next phase: "pending at expected less drops", and expected with it; transactions 0, unseen
abbrev pub finished : Object → ℕ → Object
finished o n = record { live = true; expected = o.expected - n; pending = o.expected - n; tx = pos 0; phase = o.phase + 1; seen = false }

-- the tables with another row at an address: the block, its warps and every other row as they were
abbrev pub with_row : Tables → ℕ → Object → Tables
with_row t a o = record { block = t.block; objects = set t.objects (a / 8) o }

-- the state at the end, in which the tally has counted each step as accepted
abbrev pub ended : State → ℕ → List Step → State
ended x a l = record {
  tables = with_row x.tables a (finished (object_at x.tables a) (drops l));
  tally = record { accepted = foldr (λ s n. counted n) x.tally.accepted l; refused = x.tally.refused };
}

-- ---- tests

-- a step of warp w on the object at a
abbrev pub step_on : ℕ → ℕ → ObjectStep → Step
step_on w a o = record { warp = w; op = op.Object a o }

-- a test of phase ph of the object at a: by any token of it, with any pending part, or by its parity
pub data TestOf (a ph : ℕ) : ObjectStep → Type 0 where
  by_token : (p : ℕ) → p < slot_unit → TestOf a ph (TestToken (ph * phase_unit + a / 8 * slot_unit + p))
  by_parity : TestOf a ph (TestParity (ph % 2))

-- ---- the conclusion

-- from the state x on the steps l, in this order, finish the phase of the object at a
pub record Finishes (x : State) (a : ℕ) (l : List Step) : Type 0 where
  -- "every step is accepted, the phase completes once, at the last step": done where no step is left, and released none
  pub steps : (pre : List Step) (s : Step) (post : List Step) → l ≡ pre ++ (s ∷ post)
      → verdict (run x pre).tables s ≡ accepted (answer_of (object_at (run x pre).tables a) s.op) (none post) 0
  -- "the end tables are equal, with pending at expected less drops"
  pub end : run x l ≡ ended x a l
  -- "A test of that phase by a ready warp says no anywhere before the last step", and changes no table
  pub no : (pre : List Step) (s : Step) (post : List Step) → l ≡ pre ++ (s ∷ post)
      → (w : ℕ) → ready x.tables.block w ≡ true → (o : ObjectStep) → TestOf a (object_at x.tables a).phase o
      → (verdict (run x pre).tables (step_on w a o) ≡ accepted 0 false 0) × (after (run x pre).tables (step_on w a o) ≡ (run x pre).tables)
  -- "and yes straight after it"
  pub yes : (w : ℕ) → ready x.tables.block w ≡ true → (o : ObjectStep) → TestOf a (object_at x.tables a).phase o
      → verdict (run x l).tables (step_on w a o) ≡ accepted 1 false 0
