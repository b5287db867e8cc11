-- The three demands, to be read first: a record to each, a field to each of its sentences, in the demand's order and words.
-- Assumes nothing.
use Rattle.std.specs.Prelude.{◌≡◌, ◌↔◌, ◌⊎◌, true, false, ℕ, ◌+◌, ◌-◌, ◌≤◌, length, Ok, Err}
use mathlib.Core.List.{List, ◌∷◌, ◌++◌, Perm}
use mir.Val.{Val}
use denote.Laws.{Is}
use Rattle.folds.specs.Lowest.{Lowest}
use Rattle.fields.specs.Num.{Bytes}
use Rattle.steps.specs.declared.ObjectStep.{ObjectStep}
use Rattle.steps.specs.declared.Step.{Step}
use Rattle.steps.specs.declared.Cursor.{Cursor}
use Rattle.refusals.specs.declared.Refusal.{Refusal}
use Rattle.refusals.specs.Refusals.{number}
use Rattle.steps.specs.Step.{bytes_of, read_lines, read_refusal, read_at, written}
use Rattle.steps.specs.Laws.{Fits}
use Rattle.steps.specs.contracts.Step as code
use Rattle.block.specs.Verdicts as said
use Rattle.tables.specs.Tables.{Tables, view_of, number_of, is_accepted, done_of}
use Rattle.tables.specs.Refusals.{lines}
use Rattle.tables.specs.Effect.{verdict, State, run}
use Rattle.tables.specs.Laws.{AcceptedExactly, AcceptedDoes}
use Rattle.orders.specs.Due.{object_at, drops, ready, Due}
use Rattle.orders.specs.Finishes.{none, step_on, TestOf}
use Rattle.lent.specs.Entries.{fresh_lines, fresh_refusal}
use Rattle.lent.specs.Laws as lent

-- ---- demand 1

pub record Demand1 : Type 0 where
  -- "Any bytes .. get an answer": at any place of any bytes there is a step, or the lowest of lines 1 and 2 that applies
  pub bytes : (s : List ℕ) (at : ℕ) → (read_refusal s at ≡ 0) ⊎ Lowest (read_lines s at) (read_refusal s at)
  -- "tables or step get an answer from document 01's refusal table or are accepted"
  pub tables : (t : Tables) (s : Step) → (is_accepted (verdict t s) ≡ true) ⊎ Lowest (lines (view_of t s) s) (number_of (verdict t s))
  -- fresh tables too, for any number of warps over a list of any length
  pub fresh : (rows w : ℕ) → (fresh_refusal rows w ≡ 0) ⊎ Lowest (fresh_lines rows w) (fresh_refusal rows w)
  -- "no entry relies on its caller": none has a condition, and whatever it is given, its promise allows one answer
  pub step_alone : lent.OneAnswer
  pub fresh_alone : lent.OneFreshAnswer
  -- "A refused step changes no table; only the tally counts it"
  pub refused : lent.RefusedLeaves

-- ---- demand 2

-- a step of the code's type, which has a machine value
abbrev pub InCode : Step → Type 0
InCode s = (v : List Val) × Is code.the_row s v

-- its fields have their kind's widths
abbrev pub EveryStepFits : Type 0
EveryStepFits = (s : Step) → InCode s → Fits s

pub record Demand2 : Type 0 where
  -- "A step is refused exactly when a line of that table applies, with the lowest such number": lines 1 and 2
  pub unread : (s : List ℕ) (at : ℕ) (r : Refusal) → (read_at s at ≡ Err r) ↔ Lowest (read_lines s at) (number r)
  -- and 3 to 20, of whatever the step over lent tables promises
  pub refused : lent.RefusedExactly
  -- "Otherwise": accepted exactly when no line applies
  pub accepted : AcceptedExactly
  -- "the new tables, value and released warps are those of the PTX barrier and mbarrier rules as 01 reads them"
  pub effect : AcceptedDoes
  -- "A step written and read is the same step", with the place after it
  pub written_read : (s : Step) (out : List ℕ) (at : ℕ) → InCode s → at + length (bytes_of s) ≤ length out
      → read_at (written s out at) at ≡ Ok (s, record { at = at + length (bytes_of s) })
  -- "a step read and written, the same bytes"
  pub read_written : (s : List ℕ) (at : ℕ) (st : Step) (c : Cursor) → Bytes s → read_at s at ≡ Ok (st, c) → written st s at ≡ s

-- ---- demand 3

-- "In sound tables take .. at most 1,048,575" is `Due`, field by field; "in every order" is every permutation l' of its steps l
pub record Demand3 : Type 0 where
  -- "every step is accepted": wherever the order is cut, the next one
  pub accepted : (x : State) (a : ℕ) (l l' : List Step) → Due x.tables a l → Perm l l'
      → (pre : List Step) (s : Step) (post : List Step) → l' ≡ pre ++ (s ∷ post) → is_accepted (verdict (run x pre).tables s) ≡ true
  -- "the phase completes once, at the last step": done where no step is left, and nowhere else
  pub once : (x : State) (a : ℕ) (l l' : List Step) → Due x.tables a l → Perm l l'
      → (pre : List Step) (s : Step) (post : List Step) → l' ≡ pre ++ (s ∷ post) → done_of (verdict (run x pre).tables s) ≡ none post
  -- and the phase goes up by one
  pub phase : (x : State) (a : ℕ) (l l' : List Step) → Due x.tables a l → Perm l l'
      → (object_at (run x l').tables a).phase ≡ (object_at x.tables a).phase + 1
  -- "and the end tables are equal", whichever two orders are taken
  pub end : (x : State) (a : ℕ) (l l' l'' : List Step) → Due x.tables a l → Perm l l' → Perm l l'' → (run x l').tables ≡ (run x l'').tables
  -- "with pending at expected less drops"
  pub pending : (x : State) (a : ℕ) (l l' : List Step) → Due x.tables a l → Perm l l'
      → (object_at (run x l').tables a).pending ≡ (object_at x.tables a).expected - drops l
  -- "A test of that phase by a ready warp says no anywhere before the last step"
  pub no : (x : State) (a : ℕ) (l l' : List Step) → Due x.tables a l → Perm l l'
      → (pre : List Step) (s : Step) (post : List Step) → l' ≡ pre ++ (s ∷ post)
      → (w : ℕ) → ready x.tables.block w ≡ true → (o : ObjectStep) → TestOf a (object_at x.tables a).phase o
      → verdict (run x pre).tables (step_on w a o) ≡ said.accepted 0 false 0
  -- "and yes straight after it"
  pub yes : (x : State) (a : ℕ) (l l' : List Step) → Due x.tables a l → Perm l l'
      → (w : ℕ) → ready x.tables.block w ≡ true → (o : ObjectStep) → TestOf a (object_at x.tables a).phase o
      → verdict (run x l').tables (step_on w a o) ≡ said.accepted 1 false 0
