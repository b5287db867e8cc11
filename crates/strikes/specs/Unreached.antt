-- What no trace reaches: unsound tables, each clause of soundness broken alone; the last phase; tallies at their largest.
-- Assumes nothing.
use Rattle.std.specs.Prelude.{◌≡◌, Bool, true, false, not, ◌||◌, List, [], ◌∷◌, map, ℕ, eqb, pos, length, get_or, set, replicate}
use Rattle.folds.specs.Folds.{all}
use Rattle.steps.specs.declared.ObjectStep.TheVariants as object
use Rattle.object.specs.declared.Object.{Object}
use Rattle.object.specs.Tokens.{slots}
use Rattle.object.specs.Row.{dead, last_phase}
use Rattle.object.specs.Soundness.{expected_sound, pending_sound, tx_sound, phase_sound, seen_sound, dead_sound}
use Rattle.block.specs.declared.Status.TheVariants.{Ready, Waiting, Exited}
use Rattle.block.specs.declared.Warp.{Warp}
use Rattle.block.specs.declared.Form.{Form}
use Rattle.block.specs.declared.Form.TheVariants.{Idle, Plain, Popc}
use Rattle.block.specs.declared.Barrier.{Barrier}
use Rattle.block.specs.Verdicts.{Verdict}
use Rattle.block.specs.Verdicts.{accepted, refused}
use Rattle.block.specs.Tables.{most_warps, barrier_count, fresh_warp, idle, warp_at, barrier_at, live_of, warps_counted, spare_fresh, sets_inside, waits_placed, agreeing, waiting_arrived, idle_zero, active_arrived, active_count, count_open, all_open, reduction_waits, plain_none}
use Rattle.tables.specs.Tables.{Tables, tallied}
use Rattle.tables.specs.Effect.{verdict}
use Rattle.strikes.specs.Strikes.{exit_step, object_step, live_row}

-- ---- the clauses of soundness, in 01's order

abbrev pub of_warps : Tables → (ℕ → Warp → Bool) → Bool
of_warps t f = all most_warps (λ w. f w (warp_at t.block w))

abbrev pub of_barriers : Tables → (Barrier → Bool) → Bool
of_barriers t f = all barrier_count (λ k. f (barrier_at t.block k))

-- a clause on live rows holds of every row that is live, one on dead rows of every row that isn't
abbrev pub of_live : Tables → (Object → Bool) → Bool
of_live t f = all slots (λ i. not (get_or t.objects i dead).live || f (get_or t.objects i dead))

abbrev pub of_dead : Tables → (Object → Bool) → Bool
of_dead t f = all slots (λ i. (get_or t.objects i dead).live || f (get_or t.objects i dead))

abbrev pub clauses : Tables → List Bool
clauses t =
    warps_counted t.block
    ∷ of_warps t (λ w r. spare_fresh t.block.warps w r)
    ∷ eqb (length t.objects) slots
    ∷ of_barriers t (sets_inside t.block.warps)
    ∷ of_warps t (λ w r. waits_placed r.status)
    ∷ agreeing t.block
    ∷ of_barriers t waiting_arrived
    ∷ of_barriers t idle_zero
    ∷ of_barriers t active_arrived
    ∷ of_barriers t (active_count t.block.warps)
    ∷ of_barriers t count_open
    ∷ of_barriers t (all_open (live_of t.block))
    ∷ of_barriers t reduction_waits
    ∷ of_barriers t plain_none
    ∷ of_dead t dead_sound
    ∷ of_live t expected_sound
    ∷ of_live t pending_sound
    ∷ of_live t tx_sound
    ∷ of_live t phase_sound
    ∷ of_live t seen_sound
    ∷ []

-- ---- tables that are fresh but for what is named

abbrev pub waits : ℕ → Warp
waits k = record { status = Waiting k; result = 0 }

-- n warps, of which the first two have these rows; barrier 0 has this row; the object at address 16 has this one
abbrev pub tables : ℕ → Warp → Warp → Barrier → Object → Tables
tables n w0 w1 r o = record {
  block = record {
    warps = n;
    rows = set (set (replicate most_warps fresh_warp) 0 w0) 1 w1;
    barriers = set (replicate barrier_count idle) 0 r;
  };
  objects = set (replicate slots dead) 2 o;
}

abbrev pub bar : Form → ℕ → ℕ → ℕ → ℕ → Barrier
bar f t a w l = record { form = f; threads = t; arrived = a; waiting = w; trues = l }

-- the clause that is broken, and the tables; everything else of them is sound
pub record Broken : Type 0 where
  pub clause : ℕ
  pub tables : Tables

abbrev pub broken : List Broken
broken =
    -- the number of warps is 1 to 32
    record { clause = 0; tables = tables 0 fresh_warp fresh_warp idle dead }
    ∷ record { clause = 0; tables = tables 33 fresh_warp fresh_warp idle dead }
    -- warp rows above it are ready with result 0
    ∷ record { clause = 1; tables = tables 1 fresh_warp (record { status = Exited; result = 0 }) idle dead }
    ∷ record { clause = 1; tables = tables 1 fresh_warp (record { status = Ready; result = 1 }) idle dead }
    -- the list has 64 records
    ∷ record { clause = 2; tables = record { block = (tables 1 fresh_warp fresh_warp idle dead).block; objects = replicate 63 dead } }
    ∷ record { clause = 2; tables = record { block = (tables 1 fresh_warp fresh_warp idle dead).block; objects = replicate 65 dead } }
    -- every warp set names only warps of the block
    ∷ record { clause = 3; tables = tables 2 fresh_warp fresh_warp (bar Plain 64 4 0 0) dead }
    -- a warp is waiting at a barrier 0 to 15 only
    ∷ record { clause = 4; tables = tables 2 (waits 16) fresh_warp idle dead }
    -- exactly when that barrier's waiting set has it
    ∷ record { clause = 5; tables = tables 2 (waits 0) fresh_warp idle dead }
    ∷ record { clause = 5; tables = tables 2 fresh_warp fresh_warp (bar Plain 64 1 1 0) dead }
    -- waiting is part of arrived
    ∷ record { clause = 6; tables = tables 3 (waits 0) (waits 0) (bar Plain 96 1 3 0) dead }
    -- idle rows are all zero
    ∷ record { clause = 7; tables = tables 2 fresh_warp fresh_warp (bar Idle 32 0 0 0) dead }
    ∷ record { clause = 7; tables = tables 2 fresh_warp fresh_warp (bar Idle 0 0 0 1) dead }
    -- an active row has an arrival
    ∷ record { clause = 8; tables = tables 2 fresh_warp fresh_warp (bar Plain 64 0 0 0) dead }
    -- and a thread count that is 0 or a multiple of 32 up to 32 times the warps
    ∷ record { clause = 9; tables = tables 2 fresh_warp fresh_warp (bar Plain 33 1 0 0) dead }
    ∷ record { clause = 9; tables = tables 2 fresh_warp fresh_warp (bar Plain 96 1 0 0) dead }
    -- with a count, 32 times the arrivals is less
    ∷ record { clause = 10; tables = tables 2 fresh_warp fresh_warp (bar Plain 64 3 0 0) dead }
    -- with 0, some warp not exited hasn't arrived
    ∷ record { clause = 11; tables = tables 1 (waits 0) fresh_warp (bar Plain 0 1 1 0) dead }
    -- and every arrival waits
    ∷ record { clause = 11; tables = tables 2 fresh_warp fresh_warp (bar Plain 0 1 0 0) dead }
    -- reduction rows have every arrival waiting
    ∷ record { clause = 12; tables = tables 2 fresh_warp fresh_warp (bar Popc 64 1 0 0) dead }
    -- and at most 32 true lanes per arrival
    ∷ record { clause = 12; tables = tables 2 (waits 0) fresh_warp (bar Popc 64 1 1 33) dead }
    -- plain rows have 0 true lanes
    ∷ record { clause = 13; tables = tables 2 (waits 0) fresh_warp (bar Plain 64 1 1 1) dead }
    -- dead object rows are zero
    ∷ record { clause = 14; tables = tables 1 fresh_warp fresh_warp idle (record { live = false; expected = 0; pending = 0; tx = pos 0; phase = 1; seen = false }) }
    -- live ones have expected 1 to 1,048,575
    ∷ record { clause = 15; tables = tables 1 fresh_warp fresh_warp idle (live_row 0 0 (pos 0) 0 true) }
    ∷ record { clause = 15; tables = tables 1 fresh_warp fresh_warp idle (live_row 1048576 1 (pos 0) 0 true) }
    -- pending 0 to expected
    ∷ record { clause = 16; tables = tables 1 fresh_warp fresh_warp idle (live_row 1 2 (pos 0) 0 true) }
    -- transaction count from -1,048,575 to 1,048,575
    ∷ record { clause = 17; tables = tables 1 fresh_warp fresh_warp idle (live_row 1 1 (pos 1048576) 0 true) }
    -- phase 0 to 4,294,967,295
    ∷ record { clause = 18; tables = tables 1 fresh_warp fresh_warp idle (live_row 1 1 (pos 0) 4294967296 true) }
    -- and in phase 0 the seen mark set
    ∷ record { clause = 19; tables = tables 1 fresh_warp fresh_warp idle (live_row 1 1 (pos 0) 0 false) }
    ∷ []

-- every clause but that one holds, and the answer to an exit of warp 0 is 3, the lowest also where 4 or 5 holds
abbrev pub AllBroken : Type 0
AllBroken =
    map {B = List Bool × Verdict} (λ b. (clauses b.tables, verdict b.tables (exit_step 0))) broken
    ≡ map {B = List Bool × Verdict} (λ b. (set (replicate 20 true) b.clause false, refused 3)) broken

-- ---- the last phase, and the largest tallies

-- in the last phase, with one arrival pending: an arrive, a noComplete arrive; with none pending, a complete of 0; an arrive that leaves one pending
abbrev pub last : ℕ → Tables
last p = tables 1 fresh_warp fresh_warp idle (live_row 3 p (pos 0) last_phase true)

abbrev pub LastPhase : Type 0
LastPhase =
    verdict (last 1) (object_step (object.Arrive 1)) ∷ verdict (last 1) (object_step (object.ArriveNoComplete 1)) ∷ verdict (last 0) (object_step (object.Complete 0))
    ∷ verdict (last 2) (object_step (object.Arrive 1)) ∷ []
    ≡ refused 18 ∷ refused 17 ∷ refused 18 ∷ accepted 288230376086700034 false 0 ∷ []

abbrev pub LargestTally : Type 0
LargestTally =
    tallied (record { accepted = 4294967295; refused = 7 }) (accepted 0 false 0)
    ∷ tallied (record { accepted = 7; refused = 4294967295 }) (refused 5)
    ∷ tallied (record { accepted = 4294967294; refused = 7 }) (accepted 0 false 0)
    ∷ tallied (record { accepted = 7; refused = 4294967294 }) (refused 5)
    ∷ []
    ≡ record { accepted = 4294967295; refused = 7 }
    ∷ record { accepted = 7; refused = 4294967295 }
    ∷ record { accepted = 4294967295; refused = 7 }
    ∷ record { accepted = 7; refused = 4294967295 }
    ∷ []
