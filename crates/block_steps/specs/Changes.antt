-- What a step changes in the block, the block so changed, and what is claimed of an arrival's and an exit's change.
-- Assumes nothing.
use Rattle.std.specs.Prelude.{◌≡◌, Bool, true, false, not, cond, List, [], ◌∷◌, ℕ, eqb, ltb, length, get_or, set, Option, Some, None, Result, Ok}
use Rattle.refusals.specs.declared.Refusal.{Refusal}
use Rattle.refusals.specs.Refusals.{unless}
use Rattle.folds.specs.Folds.{first, every, lowest}
use Rattle.sets.specs.Sets.{put, part}
use Rattle.block.specs.Tables.{most_warps, barrier_count, fresh_warp, idle, barrier_at, is_idle, live_of}
use Rattle.barrier_row.specs.Rows.{arrived_row, completes, result_of}
use Rattle.block.specs.declared.Status.{Status}
use Rattle.block.specs.declared.Status.TheVariants.{Waiting, Exited}
use Rattle.block.specs.declared.Warp.{Warp}
use Rattle.block.specs.declared.Barrier.{Barrier}
use Rattle.block.specs.declared.Block.{Block}
use Rattle.block.specs.declared.Call.{Call}
use Rattle.block.specs.declared.Turn.{Turn}
use Rattle.block_steps.specs.declared.Freed.{Freed}
use Rattle.block_steps.specs.declared.Change.{Change}
use Rattle.block_steps.specs.declared.Moved.{Moved}
use Rattle.block_steps.specs.Steps.{call_lines, released_warps, freed_by, arrives, exits}

-- the warp rows with another status at w; past the last there is none to change
abbrev pub with_status : List Warp → ℕ → Status → List Warp
with_status ws w s = set ws w (record { status = s; result = (get_or ws w fresh_warp).result })

-- with the status that a change gives, if it gives one
abbrev pub restatused : List Warp → Option (ℕ × Status) → List Warp
restatused ws None = ws
restatused ws (Some c) = with_status ws c.0 c.1

-- the barrier rows with the row that a change gives, if it gives one
abbrev pub restored : List Barrier → Option (ℕ × Barrier) → List Barrier
restored rs None = rs
restored rs (Some c) = set rs c.0 c.1

-- the block with a change made: a warp has another status and a barrier another row, and then warps are released
abbrev pub changed : Block → Change → Block
changed b c = record {
  warps = b.warps;
  rows = released_warps c.freed (restatused b.rows c.status);
  barriers = restored b.barriers c.row;
}

-- a release of nobody
abbrev pub none_freed : Freed
none_freed = record { set = 0; result = None }

-- no warp, no barrier, and nobody released
abbrev pub no_change : Change
no_change = record { status = None; row = None; freed = none_freed }

-- the turn of a step that makes a change
abbrev pub made : Block → Moved → Turn
made b m = record { verdict = Ok m.accepted; block = changed b m.change }

-- ---- the changes that steps make

-- a step that completes nothing
abbrev pub going_on : Option (ℕ × Status) → Option (ℕ × Barrier) → Moved
going_on s r = record { accepted = record { value = 0; done = false; released = 0 }; change = record { status = s; row = r; freed = none_freed } }

-- a step that completes barrier k with row r
abbrev pub completing : Option (ℕ × Status) → ℕ → Barrier → Moved
completing s k r = record {
  accepted = record { value = result_of r; done = true; released = r.waiting };
  change = record { status = s; row = Some (k, idle); freed = freed_by r };
}

-- ---- an arrival, by the rows that it looks at

-- what an arrival of warp w at barrier k changes that no line refuses, where r is the barrier's row with it and those of alive have not exited
abbrev pub arriving : ℕ → Barrier → ℕ → ℕ → Bool → Moved
arriving alive r w k waits =
    cond (completes alive r) (completing None k r) (cond waits (going_on (Some (w, Waiting k)) (Some (k, r))) (going_on None (Some (k, r))))

-- what an arrival of warp w at barrier k changes in a block of so many warps, of which those of alive have not exited, where r is the row of the barrier: the lowest of lines 6 to 10, or the arrival
unfoldable pub arrival_moved : ℕ → ℕ → Barrier → ℕ → ℕ → Call → Result Moved Refusal
arrival_moved warps alive r w k c =
    unless (lowest (call_lines warps r w k c)) (arriving alive (arrived_row r w c) w k c.waits)

-- of every block of 32 warp rows and sixteen barrier rows, an arrival's change makes its turn
abbrev pub ArrivalSeen : Type 0
ArrivalSeen =
    (b : Block) (w k : ℕ) (c : Call) → length b.rows ≡ most_warps → length b.barriers ≡ barrier_count
    → made b (arriving (live_of b) (arrived_row (barrier_at b k) w c) w k c.waits) ≡ arrives b w k c

-- ---- an exit, by the rows that it looks at

-- an active all-thread row at which every warp of alive has arrived but w, which exits
abbrev pub opens_for : Barrier → ℕ → ℕ → Bool
opens_for r alive w = every (not (is_idle r.form) ∷ eqb r.threads 0 ∷ part alive (put r.arrived w) ∷ [])

-- the first such row of a block's barriers, and 16 if there is none
abbrev pub first_opening : List Barrier → ℕ → ℕ → ℕ
first_opening rs alive w = first barrier_count (λ k. opens_for (get_or rs k idle) alive w)

-- what an exit of warp w changes that no line refuses, where k is the barrier that it completes, 16 for none, and r the row of that barrier
abbrev pub exiting : Barrier → ℕ → ℕ → Moved
exiting r w k = cond (ltb k barrier_count) (completing (Some (w, Exited)) k r) (going_on (Some (w, Exited)) None)

-- of every block of 32 warp rows and sixteen barrier rows, an exit's change at the first row that opens makes its turn
abbrev pub ExitSeen : Type 0
ExitSeen =
    (b : Block) (w : ℕ) → length b.rows ≡ most_warps → length b.barriers ≡ barrier_count
    → let k = first_opening b.barriers (live_of b) w in
    made b (exiting (barrier_at b k) w k) ≡ exits b w
