-- Corners of document 01, each worked out from the sentence over it, as one table.
-- Assumes nothing.
use Rattle.std.specs.Prelude.{◌≡◌, true, false, List, [], ◌∷◌, map, ℕ, ◌+◌, ◌-◌, ◌^◌, pos}
use Rattle.steps.specs.declared.BarrierStep.TheVariants as barrier
use Rattle.steps.specs.declared.ObjectStep.TheVariants as object
use Rattle.steps.specs.declared.Op.TheVariants.{PendingCount}
use Rattle.steps.specs.declared.Step.{Step}
use Rattle.object.specs.declared.Object.{Object}
use Rattle.object.specs.Row.{dead}
use Rattle.block.specs.Verdicts.{Verdict}
use Rattle.block.specs.Verdicts.{accepted, refused}
use Rattle.strikes.specs.Strikes.{barrier_step, object_step, live_row, Strike, outcome, expected}

-- ---- corners, in short

-- two warps, 0 and then 1, reduce over all threads on barrier 0, each with a selector and a mask: what warp 1 is answered
abbrev pub reduced : ℕ → ℕ → ℕ → ℕ → Verdict → Strike
reduced s0 m0 s1 m1 v = record {
  warps = 2;
  before = barrier_step 0 0 (barrier.RedAll s0 m0) ∷ [];
  last = barrier_step 1 0 (barrier.RedAll s1 m1);
  says = v;
  leaves = dead;
}

-- one warp makes the object at address 16 expect n arrivals, and takes the steps l: what it is answered to s, and the row then
abbrev pub alone : ℕ → List Step → Step → Verdict → Object → Strike
alone n l s v o = record { warps = 1; before = object_step (object.Init n) ∷ l; last = s; says = v; leaves = o }

-- warp 0 asks for the pending count of a token
abbrev pub count_step : ℕ → Step
count_step t = record { warp = 0; op = PendingCount t }

-- three steps that end phase 0 of an object that expects one arrival, see it, and end phase 1
abbrev pub two_phases : List Step
two_phases = object_step (object.Arrive 1) ∷ object_step (object.TestParity 0) ∷ object_step (object.Arrive 1) ∷ []

-- ---- the table

-- each corner, most beside the case that it has to be told from
abbrev pub corners : List Strike
corners =
    -- "1 or 0 for all true", and: 64 lanes true, 1; one of them false, 0
    reduced 1 0xFFFFFFFF 1 0xFFFFFFFF (accepted 1 true 3)
    ∷ reduced 1 0xFFFFFFFF 1 0x7FFFFFFF (accepted 0 true 3)
    -- "or any true", or: 64 lanes false, 0; one of them true, 1
    ∷ reduced 2 0x00000000 2 0x00000000 (accepted 0 true 3)
    ∷ reduced 2 0x00000000 2 0x80000000 (accepted 1 true 3)
    -- "1 and, 2 or": the same masks, half of the lanes true, are 0 under 1 and 1 under 2
    ∷ reduced 1 0x0000FFFF 1 0x0000FFFF (accepted 0 true 3)
    ∷ reduced 2 0x0000FFFF 2 0x0000FFFF (accepted 1 true 3)
    -- and they are two forms: "barrier active with another .. form" is 9
    ∷ reduced 1 0x0000FFFF 2 0x0000FFFF (refused 9)
    -- "token of 2^58 or more" is 19 in a pending count; one less leaves 2^20 - 1 by 2^20
    ∷ alone 1 [] (count_step (2 ^ 58)) (refused 19) (live_row 1 1 (pos 0) 0 true)
    ∷ alone 1 [] (count_step (2 ^ 58 - 1)) (accepted 1048575 false 0) (live_row 1 1 (pos 0) 0 true)
    -- and in a test: the object's own token of phase 0, which is 2 times 2^20 plus 1, says 0, and 2^58 more is 19
    ∷ alone 1 [] (object_step (object.TestToken 2097153)) (accepted 0 false 0) (live_row 1 1 (pos 0) 0 true)
    ∷ alone 1 [] (object_step (object.TestToken (2 ^ 58 + 2097153))) (refused 19) (live_row 1 1 (pos 0) 0 true)
    -- "parity above 1": 2 is 20
    ∷ alone 1 [] (object_step (object.TestParity 2)) (refused 20) (live_row 1 1 (pos 0) 0 true)
    -- "in phase 0 there is no previous phase and parity 1 says 0"
    ∷ alone 1 [] (object_step (object.TestParity 1)) (accepted 0 false 0) (live_row 1 1 (pos 0) 0 true)
    -- "arrival or drop while the previous phase is unseen": two arrivals end phase 0, and a drop is 16
    ∷ alone 2 (object_step (object.Arrive 2) ∷ []) (object_step (object.Drop 1)) (refused 16) (live_row 2 2 (pos 0) 1 false)
    -- "of a phase neither current nor the one before": in phase 2 a token of phase 0 is 19, and one of phase 1, 2^26 more, says 1
    ∷ alone 1 two_phases (object_step (object.TestToken 2097153)) (refused 19) (live_row 1 1 (pos 0) 2 false)
    ∷ alone 1 two_phases (object_step (object.TestToken 69206017)) (accepted 1 false 0) (live_row 1 1 (pos 0) 2 true)
    ∷ []

-- every corner comes out as the table says
abbrev pub AllCorners : Type 0
AllCorners = map outcome corners ≡ map expected corners
