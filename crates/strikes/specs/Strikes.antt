-- Document 01, "Strikes on both sides": those marked P, as one table.
-- Assumes nothing.
use Rattle.std.specs.Prelude.{◌≡◌, Bool, true, false, List, [], ◌∷◌, map, ℕ, ℤ, pos, negsuc, get_or}
use Rattle.steps.specs.declared.BarrierStep.{BarrierStep}
use Rattle.steps.specs.declared.BarrierStep.TheVariants as barrier
use Rattle.steps.specs.declared.ObjectStep.{ObjectStep}
use Rattle.steps.specs.declared.ObjectStep.TheVariants as object
use Rattle.steps.specs.declared.Op.TheVariants.{Exit, Barrier, Object}
use Rattle.steps.specs.declared.Step.{Step}
use Rattle.object.specs.declared.Object as row
use Rattle.object.specs.Row.{dead}
use Rattle.block.specs.Verdicts.{Verdict}
use Rattle.block.specs.Verdicts.{accepted, refused}
use Rattle.tables.specs.Tables.{fresh_tables, fresh_tally}
use Rattle.tables.specs.Effect.{verdict, after, run}

-- ---- steps, in short

-- warp w exits
abbrev pub exit_step : ℕ → Step
exit_step w = record { warp = w; op = Exit }

-- warp w at barrier k
abbrev pub barrier_step : ℕ → ℕ → BarrierStep → Step
barrier_step w k b = record { warp = w; op = Barrier k b }

-- warp 0 on the object at address 16
abbrev pub object_step : ObjectStep → Step
object_step o = record { warp = 0; op = Object 16 o }

-- a live row: expected, pending, transactions, phase, seen
abbrev pub live_row : ℕ → ℕ → ℤ → ℕ → Bool → row.Object
live_row e p t ph s = record { live = true; expected = e; pending = p; tx = t; phase = ph; seen = s }

-- ---- a strike

-- from fresh tables of so many warps, after these steps, the last step is answered so, and the object at address 16 has this row
pub record Strike : Type 0 where
  pub warps : ℕ
  pub before : List Step
  pub last : Step
  pub says : Verdict
  pub leaves : row.Object

-- what is answered, and the row
abbrev pub Outcome : Type 0
Outcome = Verdict × row.Object

-- what comes out
abbrev pub outcome : Strike → Outcome
outcome k =
    let t = (run (record { tables = fresh_tables k.warps; tally = fresh_tally }) k.before).tables in
    (verdict t k.last, get_or (after t k.last).objects 2 dead)

-- what the strike says
abbrev pub expected : Strike → Outcome
expected k = (k.says, k.leaves)

-- ---- the table

-- each strike, in the order of the document
abbrev pub strikes : List Strike
strikes =
    -- one warp, sync all: done at once, released 1
    record { warps = 1; before = []; last = barrier_step 0 0 barrier.SyncAll; says = accepted 0 true 1; leaves = dead }
    -- three warps, 0 and 1 sync all, 2 exits: done, released 3
    ∷ record { warps = 3; before = barrier_step 0 0 barrier.SyncAll ∷ barrier_step 1 0 barrier.SyncAll ∷ []; last = exit_step 2; says = accepted 0 true 3; leaves = dead }
    -- two warps, popc all on barrier 1, masks 0x0000000F plain and 0xFFFFFFFF complemented: value 4
    ∷ record {
      warps = 2;
      before = barrier_step 0 1 (barrier.RedAll 0 0x0000000F) ∷ [];
      last = barrier_step 1 1 (barrier.RedAll 4 0xFFFFFFFF);
      says = accepted 4 true 3;
      leaves = dead;
    }
    -- threads 33: 7
    ∷ record { warps = 2; before = []; last = barrier_step 0 0 (barrier.Sync 33); says = refused 7; leaves = dead }
    -- threads 32: completes with one arrival
    ∷ record { warps = 2; before = []; last = barrier_step 0 0 (barrier.Sync 32); says = accepted 0 true 1; leaves = dead }
    -- two warps, one arrives for 64, then syncs for 64 on the same barrier: 10
    ∷ record { warps = 2; before = barrier_step 0 0 (barrier.Arrive 64) ∷ []; last = barrier_step 0 0 (barrier.Sync 64); says = refused 10; leaves = dead }
    -- address 16, init 3, arrive 1: token 2,097,155
    ∷ record { warps = 1; before = object_step (object.Init 3) ∷ []; last = object_step (object.Arrive 1); says = accepted 2097155 false 0; leaves = live_row 3 2 (pos 0) 0 true }
    -- three such arrivals, a test saying 1,
    ∷ record {
      warps = 1;
      before = object_step (object.Init 3) ∷ object_step (object.Arrive 1) ∷ object_step (object.Arrive 1) ∷ object_step (object.Arrive 1) ∷ [];
      last = object_step (object.TestToken 2097155);
      says = accepted 1 false 0;
      leaves = live_row 3 3 (pos 0) 1 true;
    }
    -- one more: token 69,206,019
    ∷ record {
      warps = 1;
      before = object_step (object.Init 3) ∷ object_step (object.Arrive 1) ∷ object_step (object.Arrive 1) ∷ object_step (object.Arrive 1) ∷ object_step (object.TestToken 2097155) ∷ [];
      last = object_step (object.Arrive 1);
      says = accepted 69206019 false 0;
      leaves = live_row 3 2 (pos 0) 1 true;
    }
    -- without the test: 16
    ∷ record {
      warps = 1;
      before = object_step (object.Init 3) ∷ object_step (object.Arrive 1) ∷ object_step (object.Arrive 1) ∷ object_step (object.Arrive 1) ∷ [];
      last = object_step (object.Arrive 1);
      says = refused 16;
      leaves = live_row 3 3 (pos 0) 1 false;
    }
    -- init 1, complete 64, arrive with expect 64: completes then
    ∷ record {
      warps = 1;
      before = object_step (object.Init 1) ∷ object_step (object.Complete 64) ∷ [];
      last = object_step (object.ArriveExpect 64);
      says = accepted 2097153 true 0;
      leaves = live_row 1 1 (pos 0) 1 false;
    }
    -- init 1, complete 64, arrive 1: pending 0, transactions -64, phase 0
    ∷ record {
      warps = 1;
      before = object_step (object.Init 1) ∷ object_step (object.Complete 64) ∷ [];
      last = object_step (object.Arrive 1);
      says = accepted 2097153 false 0;
      leaves = live_row 1 0 (negsuc 63) 0 true;
    }
    -- from there expect 64: both 0, phase still 0;
    ∷ record {
      warps = 1;
      before = object_step (object.Init 1) ∷ object_step (object.Complete 64) ∷ object_step (object.Arrive 1) ∷ [];
      last = object_step (object.Expect 64);
      says = accepted 0 false 0;
      leaves = live_row 1 0 (pos 0) 0 true;
    }
    -- complete 0 ends it
    ∷ record {
      warps = 1;
      before = object_step (object.Init 1) ∷ object_step (object.Complete 64) ∷ object_step (object.Arrive 1) ∷ object_step (object.Expect 64) ∷ [];
      last = object_step (object.Complete 0);
      says = accepted 0 true 0;
      leaves = live_row 1 1 (pos 0) 1 false;
    }
    -- complete 1,048,575 on 0 accepted;
    ∷ record {
      warps = 1;
      before = object_step (object.Init 1) ∷ [];
      last = object_step (object.Complete 1048575);
      says = accepted 0 false 0;
      leaves = live_row 1 1 (negsuc 1048574) 0 true;
    }
    -- complete 1 more: 15
    ∷ record {
      warps = 1;
      before = object_step (object.Init 1) ∷ object_step (object.Complete 1048575) ∷ [];
      last = object_step (object.Complete 1);
      says = refused 15;
      leaves = live_row 1 1 (negsuc 1048574) 0 true;
    }
    -- init 1, drop 1: 14
    ∷ record { warps = 1; before = object_step (object.Init 1) ∷ []; last = object_step (object.Drop 1); says = refused 14; leaves = live_row 1 1 (pos 0) 0 true }
    -- init 2, drop 1, arrive 1: phase 1, pending 1
    ∷ record {
      warps = 1;
      before = object_step (object.Init 2) ∷ object_step (object.Drop 1) ∷ [];
      last = object_step (object.Arrive 1);
      says = accepted 2097153 true 0;
      leaves = live_row 1 1 (pos 0) 1 false;
    }
    ∷ []

-- every strike comes out as the table says
abbrev pub AllStrike : Type 0
AllStrike = map outcome strikes ≡ map expected strikes
