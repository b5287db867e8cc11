-- The refusal table, in document 01's order: a test to each line, false where the step's kind has no such field.
-- Assumes nothing.
use Rattle.std.specs.Prelude.{Bool, true, false, not, ◌||◌, Some, None, List, [], ◌∷◌, ◌++◌, ℕ, ◌%◌, eqb, ltb, drop}
use Rattle.folds.specs.Folds.{Line, lowest}
use Rattle.steps.specs.declared.BarrierStep.{BarrierStep}
use Rattle.steps.specs.declared.BarrierStep.TheVariants as barrier
use Rattle.steps.specs.declared.ObjectStep.{ObjectStep}
use Rattle.steps.specs.declared.ObjectStep.TheVariants as step
use Rattle.steps.specs.declared.Op.{Op}
use Rattle.steps.specs.declared.Op.TheVariants.{Exit, Barrier, Object, PendingCount}
use Rattle.steps.specs.declared.Step.{Step}
use Rattle.object.specs.declared.Object as object
use Rattle.object.specs.declared.Act.{Act}
use Rattle.object.specs.declared.Act.TheVariants as act
use Rattle.object.specs.Tokens.{too_large}
use Rattle.object.specs.Row as row
use Rattle.block.specs.declared.Call.{Call}
use Rattle.barrier_row.specs.Rows.{bad_threads, clashes}
use Rattle.block_steps.specs.Steps.{no_such_warp, not_ready, no_such_barrier, already_arrived}
use Rattle.barrier_calls.specs.Calls as calls
use Rattle.tables.specs.declared.Seen.{Seen}
use Rattle.tables.specs.Tables.{object_size, last_address, View, seen_by, slot_of}

-- ---- what the steps ask of the block and of an object

-- a named-barrier step as the arrival that it is
abbrev pub call_of : BarrierStep → Call
call_of barrier.SyncAll = calls.sync_call None
call_of (barrier.Sync t) = calls.sync_call (Some t)
call_of (barrier.Arrive t) = calls.arrive_call t
call_of (barrier.RedAll s m) = calls.red_call s None m
call_of (barrier.Red s t m) = calls.red_call s (Some t) m

-- an object step as the act that it is: arrive and drop over count, drop, expectation and noComplete; with an attached expect the count is 1
abbrev pub act_of : ObjectStep → Act
act_of (step.Init n) = act.Init n
act_of step.Inval = act.Inval
act_of (step.Arrive n) = act.Arrive n false 0 false
act_of (step.ArriveNoComplete n) = act.Arrive n false 0 true
act_of (step.ArriveExpect x) = act.Arrive 1 false x false
act_of (step.Drop n) = act.Arrive n true 0 false
act_of (step.DropNoComplete n) = act.Arrive n true 0 true
act_of (step.DropExpect x) = act.Arrive 1 true x false
act_of (step.Expect x) = act.Expect x
act_of (step.Complete x) = act.Complete x
act_of (step.TestToken t) = act.Token t
act_of (step.TestParity p) = act.Parity p

-- a test of a named-barrier step's barrier and call, false of any other step
abbrev pub of_barrier : (ℕ → Call → Bool) → Op → Bool
of_barrier f Exit = false
of_barrier f (Barrier k b) = f k (call_of b)
of_barrier f (Object a o) = false
of_barrier f (PendingCount t) = false

-- a test of an object step's address and act, false of any other step
abbrev pub of_object : (ℕ → Act → Bool) → Op → Bool
of_object f Exit = false
of_object f (Barrier k b) = false
of_object f (Object a o) = f a (act_of o)
of_object f (PendingCount t) = false

-- ---- the tests that neither the block nor an object has by itself

-- whether the selector of a step is bad: a red has one, and of any other step it is false
abbrev pub selector_of : BarrierStep → Bool
selector_of barrier.SyncAll = false
selector_of (barrier.Sync t) = false
selector_of (barrier.Arrive t) = false
selector_of (barrier.RedAll s m) = calls.bad_selector s
selector_of (barrier.Red s t m) = calls.bad_selector s

-- 8: selector not 0, 1, 2, 4, 5 or 6
abbrev pub bad_selector : Op → Bool
bad_selector Exit = false
bad_selector (Barrier k b) = selector_of b
bad_selector (Object a o) = false
bad_selector (PendingCount t) = false

-- 11: address no multiple of 8, or above 504
abbrev pub bad_address : ℕ → Bool
bad_address a = not (eqb (a % object_size) 0) || ltb last_address a

-- 19: token of 2^58 or more; in a test also another object's, or of a phase neither current nor the one before
abbrev pub bad_token : object.Object → Op → Bool
bad_token o Exit = false
bad_token o (Barrier k b) = false
bad_token o (Object a x) = row.bad_token o (slot_of (Object a x)) (act_of x)
bad_token o (PendingCount t) = too_large t

-- ---- the table

-- document 01's lines, on what a step sees and the row of the object that it names
abbrev pub first : Seen → object.Object → Step → List Line
first v o s =
    (not v.sound, 3)  -- tables not sound
    ∷ (no_such_warp v.warps s.warp, 4)  -- no such warp
    ∷ (not_ready v.warp, 5)  -- warp not ready
    ∷ (of_barrier (λ k c. no_such_barrier k) s.op, 6)  -- barrier above 15
    ∷ (of_barrier (λ k c. bad_threads v.warps c.threads) s.op, 7)  -- threads given, and 0, no multiple of 32, or above 32 times the warps
    ∷ (bad_selector s.op, 8)  -- selector not 0, 1, 2, 4, 5 or 6
    ∷ (of_barrier (λ k c. clashes v.barrier c) s.op, 9)  -- barrier active with another thread count or form
    ∷ (of_barrier (λ k c. already_arrived v.barrier s.warp) s.op, 10)  -- this warp has already arrived there
    ∷ (of_object (λ a x. bad_address a) s.op, 11)  -- address no multiple of 8, or above 504
    ∷ (of_object (λ a x. row.not_live o x) s.op, 12)  -- object not live (all but init)
    ∷ (of_object (λ a x. row.already_live o x) s.op, 13)  -- object live (init)
    ∷ (of_object (λ a x. row.bad_count o x) s.op, 14)  -- init count not 1 to 1,048,575; arrival or drop count 0 or above pending; drop count also not below expected
    ∷ (of_object (λ a x. row.out_of_range o x) s.op, 15)  -- transaction count would leave its range
    ∷ (of_object (λ a x. row.unseen o x) s.op, 16)  -- arrival or drop while the previous phase is unseen
    ∷ (of_object (λ a x. row.ends_quietly o x) s.op, 17)  -- a noComplete step would complete the phase
    ∷ (of_object (λ a x. row.ends_last o x) s.op, 18)  -- the step would complete phase 4,294,967,295
    ∷ (bad_token o s.op, 19)  -- token of 2^58 or more; in a test also another object's, or of a phase neither current nor the one before
    ∷ (of_object (λ a x. row.bad_parity x) s.op, 20)  -- parity above 1
    ∷ []

-- the lines above 20
abbrev pub later : Seen → object.Object → Step → List Line
later v o s = []

-- both, in the order of their numbers
abbrev pub table : Seen → object.Object → Step → List Line
table v o s = first v o s ++ later v o s

-- the lines of a step's kind, 6 to 20; 3, 4 and 5 are for every kind
abbrev pub kind_lines : Seen → object.Object → Step → List Line
kind_lines v o s = drop 3 (first v o s)

-- the table of a step over whole tables
abbrev pub lines : View → Step → List Line
lines v s = table (seen_by v s) v.object s

-- where several apply, the lowest is given; 0 where none does
unfoldable pub refusal : View → Step → ℕ
refusal v s = lowest (lines v s)
