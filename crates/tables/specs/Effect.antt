-- What an accepted step does, and the step: document 01, "Named barriers" and "Mbarrier objects", over whole tables.
-- Assumes nothing.
use Rattle.std.specs.Prelude.{false, cond, ◌&&◌, List, [], ◌∷◌, ℕ, eqb, set}
use Rattle.sets.specs.Sets.{less}
use Rattle.steps.specs.declared.Op.{Op}
use Rattle.steps.specs.declared.Op.TheVariants.{Exit, Barrier, Object, PendingCount}
use Rattle.steps.specs.declared.Step.{Step}
use Rattle.object.specs.declared.Object as object
use Rattle.object.specs.Tokens.{pending_in}
use Rattle.object.specs.Row as row
use Rattle.block.specs.Verdicts.{Verdict, accepted}
use Rattle.block.specs.Verdicts as said
use Rattle.block.specs.declared.Turn.{Turn}
use Rattle.block_steps.specs.Steps as barriers
use Rattle.tables.specs.declared.Taken.{Taken}
use Rattle.tables.specs.declared.Tally.{Tally}
use Rattle.tables.specs.Tables.{Tables, View, view_of, slot_of, is_exit, is_accepted, tallied}
use Rattle.tables.specs.Refusals.{call_of, act_of, refusal}

-- the block's part of a step, which leaves the row
abbrev pub block_taken : object.Object → Turn → Taken
block_taken o t = record { verdict = t.verdict; block = t.block; object = o }

-- what a step does that no line refuses
abbrev pub effect : View → ℕ → Op → Taken
effect v w Exit = block_taken v.object (barriers.exits v.block w)
effect v w (Barrier k b) = block_taken v.object (barriers.arrives v.block w k (call_of b))
effect v w (Object a o) = record {
  verdict = accepted (row.value_of v.object (slot_of (Object a o)) (act_of o)) (row.ends v.object (act_of o)) 0;
  block = v.block;
  object = row.row_after v.object (act_of o);
}
effect v w (PendingCount t) = record { verdict = accepted (pending_in t) false 0; block = v.block; object = v.object }

-- a refused step changes nothing
abbrev pub refused : View → ℕ → Taken
refused v n = record { verdict = said.refused n; block = v.block; object = v.object }

-- a step over what it sees
unfoldable pub taken : View → Step → Taken
taken v s = cond (eqb (refusal v s) 0) (effect v s.warp s.op) (refused v (refusal v s))

-- ---- the step over whole tables

-- its verdict
abbrev pub verdict : Tables → Step → Verdict
verdict t s = (taken (view_of t s) s).verdict

-- the tables after it: the block, and the row of the object that it names
abbrev pub after : Tables → Step → Tables
after t s = record { block = (taken (view_of t s) s).block; objects = set t.objects (slot_of s.op) (taken (view_of t s) s).object }

-- ---- who has not exited

-- the live warps after a step with this verdict: an accepted exit takes its own warp out of them, and no other step changes them
abbrev pub live_after : ℕ → Step → Verdict → ℕ
live_after live s v = cond (is_exit s.op && is_accepted v) (less live s.warp) live

-- ---- a run

-- tables and tally
pub record State : Type 0 where
  pub tables : Tables
  pub tally : Tally

abbrev pub next : State → Step → State
next x s = record { tables = after x.tables s; tally = tallied x.tally (verdict x.tables s) }

abbrev pub run : State → List Step → State
run x [] = x
run x (s ∷ l) = run (next x s) l

-- the verdicts of its steps
abbrev pub verdicts : State → List Step → List Verdict
verdicts x [] = []
verdicts x (s ∷ l) = verdict x.tables s ∷ verdicts (next x s) l
