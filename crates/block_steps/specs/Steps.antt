-- What an exit and a named-barrier step do: document 01, "Named barriers", and lines 4 to 10 of its refusal table.
-- Assumes nothing.
use Rattle.std.specs.Prelude.{Bool, true, false, not, cond, List, [], ◌∷◌, ◌++◌, ℕ, eqb, leb, ltb, set, Some, None, unwrap_or, Err}
use Rattle.refusals.specs.Refusals.{named}
use Rattle.folds.specs.Folds.{first, every, Line, lowest, firsts}
use Rattle.sets.specs.Sets.{has, part}
use Rattle.block.specs.Tables.{most_warps, barrier_count, idle, warp_at, barrier_at, is_idle, is_reduction, is_ready, live_of}
use Rattle.barrier_row.specs.Rows.{bad_threads, clashes, arrived_row, completes, result_of}
use Rattle.block.specs.declared.Status.TheVariants.{Ready, Waiting, Exited}
use Rattle.block.specs.declared.Warp.{Warp}
use Rattle.block.specs.declared.Barrier.{Barrier}
use Rattle.block.specs.declared.Block.{Block}
use Rattle.block.specs.declared.Call.{Call}
use Rattle.block.specs.Verdicts.{accepted}
use Rattle.block.specs.declared.Turn.{Turn}
use Rattle.block_steps.specs.declared.Freed.{Freed}

-- ---- lines 4 to 10 of the refusal table, by the rows of the warp and of the barrier in a block of so many warps

-- 4: no such warp
abbrev pub no_such_warp : ℕ → ℕ → Bool
no_such_warp warps w = leb warps w

-- 5: warp not ready
abbrev pub not_ready : Warp → Bool
not_ready x = not (is_ready x.status)

-- 6: barrier above 15
abbrev pub no_such_barrier : ℕ → Bool
no_such_barrier k = leb barrier_count k

-- 10: this warp has already arrived there
abbrev pub already_arrived : Barrier → ℕ → Bool
already_arrived r w = has r.arrived w

-- 4 and 5, of every step of a warp
abbrev pub warp_lines : ℕ → Warp → ℕ → List Line
warp_lines warps x w = (no_such_warp warps w, 4) ∷ (not_ready x, 5) ∷ []

-- 6 to 10, of an arrival of warp w at barrier k; a form that is Idle stands for a bad selector
abbrev pub call_lines : ℕ → Barrier → ℕ → ℕ → Call → List Line
call_lines warps r w k c =
    (no_such_barrier k, 6)
    ∷ (bad_threads warps c.threads, 7)
    ∷ (is_idle c.form, 8)
    ∷ (clashes r c, 9)
    ∷ (already_arrived r w, 10)
    ∷ []

-- the lines of an exit, and those of an arrival, in a block
abbrev pub exit_lines : Block → ℕ → List Line
exit_lines b w = warp_lines b.warps (warp_at b w) w

abbrev pub arrival_lines : Block → ℕ → ℕ → Call → List Line
arrival_lines b w k c = exit_lines b w ++ call_lines b.warps (barrier_at b k) w k c

-- a refused step leaves the block
abbrev pub refused : Block → ℕ → Turn
refused b n = record { verdict = Err (named n); block = b }

-- the refusal of the lowest of these lines, and where none applies what is done else
abbrev pub unless : List Line → Block → Turn → Turn
unless ls b t = cond (eqb (lowest ls) 0) t (refused b (lowest ls))

-- ---- an arrival

-- the row of warp w after a release: a released warp is ready, and gets the result if one is given
abbrev pub released_warp : Freed → ℕ → Warp → Warp
released_warp f w x = cond (has f.set w) (record { status = Ready; result = unwrap_or f.result x.result }) x

-- the warp rows after a release
abbrev pub released_warps : Freed → List Warp → List Warp
released_warps f ws = firsts most_warps 0 (released_warp f) ws

-- a completed barrier of row r releases its waiting warps; each of a red gets the result
abbrev pub freed_by : Barrier → Freed
freed_by r = record { set = r.waiting; result = cond (is_reduction r.form) (Some (result_of r)) None }

-- barrier k completes with row r: the row becomes idle and the waiting warps are released
abbrev pub completed : Block → ℕ → Barrier → Turn
completed b k r = record {
  verdict = accepted (result_of r) true r.waiting;
  block = record { warps = b.warps; rows = released_warps (freed_by r) b.rows; barriers = set b.barriers k idle };
}

-- barrier k goes on with row r, and warp w waits there if its step waits
abbrev pub goes_on : Block → ℕ → Barrier → ℕ → Bool → Turn
goes_on b k r w waits = record {
  verdict = accepted 0 false 0;
  block = record {
    warps = b.warps;
    rows = cond waits (set b.rows w (record { status = Waiting k; result = (warp_at b w).result })) b.rows;
    barriers = set b.barriers k r;
  };
}

-- what an arrival does that no line refuses
abbrev pub arrives : Block → ℕ → ℕ → Call → Turn
arrives b w k c =
    let r = arrived_row (barrier_at b k) w c in
    cond (completes (live_of b) r) (completed b k r) (goes_on b k r w c.waits)

-- sync, arrive and red: warp w arrives at barrier k
unfoldable pub arrival : Block → ℕ → ℕ → Call → Turn
arrival b w k c = unless (arrival_lines b w k c) b (arrives b w k c)

-- ---- exit

-- the block with warp w exited
abbrev pub without : Block → ℕ → Block
without b w = record {
  warps = b.warps;
  rows = set b.rows w (record { status = Exited; result = (warp_at b w).result });
  barriers = b.barriers;
}

-- an active all-thread barrier at which every warp not exited has arrived
abbrev pub opens : Block → ℕ → Bool
opens b k = every (not (is_idle (barrier_at b k).form) ∷ eqb (barrier_at b k).threads 0 ∷ part (live_of b) (barrier_at b k).arrived ∷ [])

-- the barrier that completes without the warp that exited, and 16 if none does
abbrev pub opened : Block → ℕ
opened b = first barrier_count (λ k. opens b k)

-- what an exit does that no line refuses
abbrev pub exits : Block → ℕ → Turn
exits b w =
    let e = without b w in
    cond (ltb (opened e) barrier_count) (completed e (opened e) (barrier_at e (opened e))) (record { verdict = accepted 0 false 0; block = e })

-- warp w exits
unfoldable pub exit : Block → ℕ → Turn
exit b w = unless (exit_lines b w) b (exits b w)
