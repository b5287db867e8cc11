-- Demand 3 over whole tables: in every order.
-- Assumes nothing.
use Rattle.std.specs.Prelude.{◌≡◌, true, ℕ}
use mathlib.Core.List.{List, [], ◌∷◌, ◌++◌, Perm}
use Rattle.steps.specs.declared.ObjectStep.{ObjectStep}
use Rattle.steps.specs.declared.Step.{Step}
use Rattle.block.specs.declared.Block.{Block}
use Rattle.tables.specs.Tables.{sound_tables}
use Rattle.tables.specs.Effect.{State, run}
use Rattle.orders.specs.Due.{object_at, ready, Due}
use Rattle.orders.specs.Finishes.{step_on, TestOf, Finishes}

-- steps that are due finish the phase in every order
abbrev pub EveryOrder : Type 0
EveryOrder = (x : State) (a : ℕ) (l l' : List Step) → Due x.tables a l → Perm l l' → Finishes x a l'

-- any two orders come to the same state: tables and tally
abbrev pub SameEnd : Type 0
SameEnd = (x : State) (a : ℕ) (l l' l'' : List Step) → Due x.tables a l → Perm l l' → Perm l l'' → run x l' ≡ run x l''

-- the tables are sound at every place on the way, the end among them
abbrev pub SoundThroughout : Type 0
SoundThroughout =
    (x : State) (a : ℕ) (l l' : List Step) → Due x.tables a l → Perm l l'
    → (pre post : List Step) → l' ≡ pre ++ post → sound_tables (run x pre).tables ≡ true

-- m is l with tests of phase ph by ready warps put in, each at a place where a step of l is still left
pub data Tested (b : Block) (a ph : ℕ) : List Step → List Step → Type 0 where
  end : Tested b a ph [] []
  step : {s : Step} {l m : List Step} → Tested b a ph l m → Tested b a ph (s ∷ l) (s ∷ m)
  test : {w : ℕ} {o : ObjectStep} {s : Step} {l m : List Step}
      → ready b w ≡ true → TestOf a ph o → Tested b a ph (s ∷ l) m → Tested b a ph (s ∷ l) (step_on w a o ∷ m)

-- such tests change nothing: the end tables are those without them
abbrev pub TestsAside : Type 0
TestsAside =
    (x : State) (a : ℕ) (l l' m : List Step) → Due x.tables a l → Perm l l' → Tested x.tables.block a (object_at x.tables a).phase l' m
    → (run x m).tables ≡ (run x l').tables
