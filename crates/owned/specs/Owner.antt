-- An owner of block, list and tally: what its functions promise, and that they are the step and the fresh tables over what is lent, on what it owns.
-- Assumes nothing.
use Rattle.std.specs.Prelude.{List, ℕ}
use Rattle.steps.specs.declared.Step.{Step}
use Rattle.object.specs.declared.Object.{Object}
use Rattle.object.specs.Tokens.{slots}
use Rattle.block.specs.declared.Block.{Block}
use Rattle.block.specs.Verdicts.{Verdict}
use Rattle.block.specs.declared.Turn.{Turn}
use Rattle.tables.specs.declared.Tally.{Tally}
use Rattle.tables.specs.Tables.{fresh_tables, fresh_tally}
use Rattle.tables.specs.Effect.{State, verdict, next}
use Rattle.lent.specs.Entries.{state_of, Stepped, fresh_refusal, fresh_turn, Freshened}
use Rattle.owned.specs.declared.Owned.{Owned}
use Rattle.owned.specs.declared.OwnedTurn.{OwnedTurn}

-- a verdict beside the owner of a block, a list and a tally
abbrev pub bundled : Verdict → Block → List Object → Tally → OwnedTurn
bundled v b l y = record { verdict = v; state = record { block = b; objects = l; tally = y } }

-- what it has
abbrev pub state_in : Owned → State
state_in o = state_of o.block o.objects o.tally

-- the owner that has these
abbrev pub owner_of : State → Owned
owner_of x = record { block = x.tables.block; objects = x.tables.objects; tally = x.tally }

-- one step on it
abbrev pub owned_step : Owned → Step → OwnedTurn
owned_step o s = record { verdict = verdict (state_in o).tables s; state = owner_of (next (state_in o) s) }

-- fresh tables: there are 64 records, so line 4 alone can apply; the records are dead and the numbers 0 all the same
abbrev pub owned_fresh : ℕ → OwnedTurn
owned_fresh w = let t = fresh_turn (fresh_refusal slots w) w in bundled t.verdict t.block (fresh_tables w).objects fresh_tally

-- ---- what is claimed of them

-- an owner's step is such a step
abbrev pub OwnedSteps : Type 0
OwnedSteps = (o : Owned) (s : Step) → Stepped (state_in o) s (owned_step o s).verdict (owned_step o s).state.block (owned_step o s).state.objects (owned_step o s).state.tally

-- the answer beside what is owned
abbrev pub turn_in : OwnedTurn → Turn
turn_in t = record { verdict = t.verdict; block = t.state.block }

-- and its fresh tables are such tables, over 64 dead rows and a tally of zeros
abbrev pub OwnedFreshens : Type 0
OwnedFreshens =
    (w : ℕ) → Freshened (fresh_tables w).objects fresh_tally w (turn_in (owned_fresh w)) (owned_fresh w).state.objects (owned_fresh w).state.tally
