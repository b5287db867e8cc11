-- What is claimed of every step over whole tables: demands 1 and 2.
-- Assumes nothing.
use Rattle.std.specs.Prelude.{◌≡◌, ◌↔◌, true, false, List, ℕ, ◌+◌, get_or, Err}
use Rattle.folds.specs.Lowest.{Lowest, None}
use Rattle.steps.specs.declared.Op.{Op}
use Rattle.steps.specs.declared.Op.TheVariants.{Exit, Barrier, Object, PendingCount}
use Rattle.steps.specs.declared.Step.{Step}
use Rattle.object.specs.Row.{dead}
use Rattle.refusals.specs.declared.Refusal.{Refusal}
use Rattle.refusals.specs.Refusals.{number}
use Rattle.block.specs.declared.Block.{Block}
use Rattle.block.specs.Tables.{barrier_count, barrier_at, is_idle, live_of}
use Rattle.block_steps.specs.Steps.{without, opened}
use Rattle.block_laws.specs.Sound.{Shaped}
use Rattle.tables.specs.Tables.{Tables, sound_tables, view_of, slot_of, number_of, is_accepted, value_of, done_of, released_of}
use Rattle.tables.specs.Refusals.{lines, refusal}
use Rattle.tables.specs.Effect.{effect, taken, verdict, after, live_after, State, run}

-- a verdict's number is that of the lowest line that applies, 0 where none does
abbrev pub NumberGiven : Type 0
NumberGiven = (t : Tables) (s : Step) → number_of (verdict t s) ≡ refusal (view_of t s) s

-- a step is refused with a line exactly when that line of the table applies and no lower line does
abbrev pub RefusedExactly : Type 0
RefusedExactly = (t : Tables) (s : Step) (r : Refusal) → (verdict t s ≡ Err r) ↔ Lowest (lines (view_of t s) s) (number r)

-- and accepted exactly when no line applies
abbrev pub AcceptedExactly : Type 0
AcceptedExactly = (t : Tables) (s : Step) → (is_accepted (verdict t s) ≡ true) ↔ None (lines (view_of t s) s)

-- then it does what the rules say
abbrev pub AcceptedDoes : Type 0
AcceptedDoes = (t : Tables) (s : Step) → is_accepted (verdict t s) ≡ true → taken (view_of t s) s ≡ effect (view_of t s) s.warp s.op

-- what a refusal leaves: value 0, done 0, released none, and the same tables
pub record LeavesAll (t : Tables) (s : Step) : Type 0 where
  pub value : value_of (verdict t s) ≡ 0
  pub done : done_of (verdict t s) ≡ false
  pub released : released_of (verdict t s) ≡ 0
  pub tables : after t s ≡ t

abbrev pub RefusedLeavesAll : Type 0
RefusedLeavesAll = (t : Tables) (s : Step) → is_accepted (verdict t s) ≡ false → LeavesAll t s

-- a step changes at most one object row, the one it names
abbrev pub ObjectsLeft : Type 0
ObjectsLeft = (t : Tables) (s : Step) (i : ℕ) → (i ≡ slot_of s.op → ⊥) → get_or (after t s).objects i dead ≡ get_or t.objects i dead

-- the barrier whose row a step may change: the one it names, or the one an exit completes; else none
abbrev pub barrier_of : Block → ℕ → Op → ℕ
barrier_of b w Exit = opened (without b w)
barrier_of b w (Barrier k c) = k
barrier_of b w (Object a o) = barrier_count
barrier_of b w (PendingCount t) = barrier_count

-- a step changes at most one barrier row, that one
abbrev pub BarriersLeft : Type 0
BarriersLeft =
    (t : Tables) (s : Step) (j : ℕ) → (j ≡ barrier_of t.block s.warp s.op → ⊥) → barrier_at (after t s).block j ≡ barrier_at t.block j

-- sound tables over 32 warp rows and sixteen barrier rows
pub record Sound (t : Tables) : Type 0 where
  pub shaped : Shaped t.block
  pub sound : sound_tables t ≡ true

-- a step, accepted or refused, keeps such tables so
abbrev pub KeepsSound : Type 0
KeepsSound = (t : Tables) (s : Step) → Sound t → Sound (after t s)

-- and so does a run of any length
abbrev pub RunKeepsSound : Type 0
RunKeepsSound = (x : State) (l : List Step) → Sound x.tables → Sound (run x l).tables

-- in such tables, who has not exited after a step follows from who had not before it, the step and its verdict
abbrev pub LiveFollowed : Type 0
LiveFollowed = (t : Tables) (s : Step) → Sound t → live_of (after t s).block ≡ live_after (live_of t.block) s (verdict t s)

-- what completes at an accepted step: an active barrier row became idle; or a phase went up by one
abbrev pub Completes : Tables → Step → Op → Type 0
Completes t s Exit = (k : ℕ) × (is_idle (barrier_at t.block k).form ≡ false) × (is_idle (barrier_at (after t s).block k).form ≡ true)
Completes t s (Barrier k b) = is_idle (barrier_at (after t s).block k).form ≡ true
Completes t s (Object a o) = (get_or (after t s).objects (slot_of (Object a o)) dead).phase ≡ (get_or t.objects (slot_of (Object a o)) dead).phase + 1
Completes t s (PendingCount x) = ⊥

-- done is 1 exactly when the step completes a named barrier or a phase
abbrev pub DoneExactly : Type 0
DoneExactly = (t : Tables) (s : Step) → Shaped t.block → is_accepted (verdict t s) ≡ true → (done_of (verdict t s) ≡ true) ↔ Completes t s s.op
