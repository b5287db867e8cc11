-- What is claimed of going on: where what is known of the tables is so, it is the checked step, and so is a run of any length.
-- Assumes nothing.
use Rattle.std.specs.Prelude.{◌≡◌, true, List, [], ◌∷◌, length, replicate, Some, None, is_some}
use Rattle.steps.specs.declared.Step.{Step}
use Rattle.object.specs.declared.Object.{Object}
use Rattle.block.specs.declared.Block.{Block}
use Rattle.block.specs.Verdicts.{Verdict, refused}
use Rattle.block.specs.Tables.{live_of}
use Rattle.block_laws.specs.Sound.{Shaped}
use Rattle.tables.specs.declared.Tally.{Tally}
use Rattle.tables.specs.Tables.{Tables, sound_tables}
use Rattle.tables.specs.Effect.{State, verdict, next, run, verdicts}
use Rattle.lent.specs.Entries.{tables_of, Stepped}
use Rattle.lent_run.specs.declared.Checked.{Checked}
use Rattle.lent_run.specs.declared.Gone.{Gone}
use Rattle.lent_run.specs.Run.{checked_of, Reached, onward, GoneOn}

-- what is known of tables is so: whether they are sound and, where they are, who has not exited
pub record Fits (c : Checked) (t : Tables) : Type 0 where
  pub sound : is_some c.live ≡ sound_tables t
  pub live : sound_tables t ≡ true → c.live ≡ Some (live_of t.block)

-- what a check finds is so, of any tables
abbrev pub CheckFits : Type 0
CheckFits = (t : Tables) → Fits (checked_of t) t

-- ---- one step

-- it is the checked step: its verdict, and tables and tally after it; and what is then known is so
pub record AsChecked (x : State) (s : Step) (r : Reached) : Type 0 where
  pub verdict : r.verdict ≡ verdict x.tables s
  pub state : r.state ≡ next x s
  pub fits : Fits r.checked r.state.tables

-- so it is, sound tables or not, where what is known of them is so
abbrev pub GoesOn : Type 0
GoesOn = (x : State) (c : Checked) (s : Step) → Shaped x.tables.block → Fits c x.tables → AsChecked x s (onward x c s)

-- whatever the promise of going on allows is then what the promise of the checked step allows, and what is known after it is so
abbrev pub GoneIsStepped : Type 0
GoneIsStepped =
    (x : State) (c : Checked) (s : Step) (g : Gone) (b : Block) (l : List Object) (y : Tally) → Shaped x.tables.block → Fits c x.tables
    → GoneOn x c s g b l y → Stepped x s g.verdict b l y × Fits g.checked (tables_of b l)

-- ---- a run of any length

-- some steps gone on with one after the other: their verdicts
abbrev pub verdicts_on : State → Checked → List Step → List Verdict
verdicts_on x c [] = []
verdicts_on x c (s ∷ l) = (onward x c s).verdict ∷ verdicts_on (onward x c s).state (onward x c s).checked l

-- tables and tally after them
abbrev pub state_on : State → Checked → List Step → State
state_on x c [] = x
state_on x c (s ∷ l) = state_on (onward x c s).state (onward x c s).checked l

-- over tables of which what is known is so, as after one check: every verdict, and tables and tally at the end, are those of checked steps
pub record RunAsChecked (x : State) (c : Checked) (l : List Step) : Type 0 where
  pub verdicts : verdicts_on x c l ≡ verdicts x l
  pub state : state_on x c l ≡ run x l

abbrev pub RunsOn : Type 0
RunsOn = (x : State) (c : Checked) (l : List Step) → Shaped x.tables.block → Fits c x.tables → RunAsChecked x c l

-- over tables that are known to be unsound every step is refused with 3, and the tables stay as they are
pub record AllRefused (x : State) (c : Checked) (l : List Step) : Type 0 where
  pub verdicts : verdicts_on x c l ≡ replicate (length l) (refused 3)
  pub tables : (state_on x c l).tables ≡ x.tables

abbrev pub UnsoundRefused : Type 0
UnsoundRefused = (x : State) (c : Checked) (l : List Step) → Shaped x.tables.block → c.live ≡ None → AllRefused x c l
