-- What is claimed of a step: what it completes and releases, what it leaves as it was, and who has not exited after it.
-- Assumes nothing.
use Rattle.std.specs.Prelude.{◌≡◌, Bool, true, false, cond, ◌&&◌, ◌||◌, ℕ, ◌<◌, eqb, Err}
use Rattle.refusals.specs.declared.Refusal.{Refusal}
use Rattle.folds.specs.Folds.{lowest}
use Rattle.sets.specs.Sets.{has, less}
use Rattle.block.specs.Tables.{most_warps, barrier_count, warp_at, barrier_at, is_reduction, live_of, sound_block}
use Rattle.block_steps.specs.Steps.{exit_lines, arrival, without, opens, opened, exit}
use Rattle.block.specs.declared.Status.TheVariants.{Ready}
use Rattle.block.specs.declared.Form.{Form}
use Rattle.block.specs.declared.Block.{Block}
use Rattle.block.specs.declared.Call.{Call}
use Rattle.block.specs.Verdicts.{accepted}
use Rattle.block.specs.declared.Turn.{Turn}
use Rattle.block_laws.specs.Sound.{Shaped}

-- ---- refusal

-- a turn that is refused leaves the block
abbrev pub LeavesRefused : Block → Turn → Type 0
LeavesRefused b t = (r : Refusal) → t.verdict ≡ Err r → t.block ≡ b

-- so a refused arrival leaves it, and a refused exit
pub record RefusedLeave : Type 0 where
  pub arrival : (b : Block) (w k : ℕ) (c : Call) → LeavesRefused b (arrival b w k c)
  pub exit : (b : Block) (w : ℕ) → LeavesRefused b (exit b w)

-- ---- released warps

-- in sound tables an exit completes at most one barrier
abbrev pub ExitCompletesOne : Type 0
ExitCompletesOne =
    (b : Block) (w j k : ℕ) → sound_block b ≡ true → lowest (exit_lines b w) ≡ 0 → j < barrier_count → k < barrier_count
    → opens (without b w) j ≡ true → opens (without b w) k ≡ true → j ≡ k

-- a turn that completes a barrier releases the warps of which the test holds, and no other
abbrev pub Releases : (ℕ → Bool) → Turn → Type 0
Releases test t = (value released v : ℕ) → t.verdict ≡ accepted value true released → has released v ≡ test v

-- an arrival releases the warps that wait at its barrier and, if its step waits, the issuer
abbrev pub ArrivalReleases : Type 0
ArrivalReleases =
    (b : Block) (w k : ℕ) (c : Call) → sound_block b ≡ true
    → Releases (λ v. has (barrier_at b k).waiting v || (c.waits && eqb v w)) (arrival b w k c)

-- a turn that completes a barrier releases this waiting set, in which warp w is not
abbrev pub ReleasesSet : ℕ → ℕ → Turn → Type 0
ReleasesSet waiting w t = (value released : ℕ) → t.verdict ≡ accepted value true released → (released ≡ waiting) × (has released w ≡ false)

-- an arrive releases its barrier's waiting set, without its own warp
abbrev pub ArriveReleases : Type 0
ArriveReleases =
    (b : Block) (w k : ℕ) (c : Call) → sound_block b ≡ true → c.waits ≡ false → ReleasesSet (barrier_at b k).waiting w (arrival b w k c)

-- an exit releases the waiting set of the barrier that it completes, without its own warp
abbrev pub ExitReleases : Type 0
ExitReleases = (b : Block) (w : ℕ) → sound_block b ≡ true → ReleasesSet (barrier_at b (opened (without b w))).waiting w (exit b w)

-- a turn that completes no barrier releases none
abbrev pub ReleasesNone : Turn → Type 0
ReleasesNone t = (value released : ℕ) → t.verdict ≡ accepted value false released → released ≡ 0

-- so an arrival that completes none releases none, and such an exit
pub record NoneReleased : Type 0 where
  pub arrival : (b : Block) (w k : ℕ) (c : Call) → ReleasesNone (arrival b w k c)
  pub exit : (b : Block) (w : ℕ) → ReleasesNone (exit b w)

-- ---- results

-- after a turn that completes a barrier of this form a released warp is ready, of a red with the value as its result; any other warp keeps its row
abbrev pub GivesResults : Form → Block → Turn → Type 0
GivesResults form b t =
    (value released v : ℕ) → v < most_warps → t.verdict ≡ accepted value true released
    → warp_at t.block v
    ≡ cond (has released v) (record { status = Ready; result = cond (is_reduction form) value (warp_at b v).result }) (warp_at b v)

-- so an arrival gives the results of its form, and an exit those of the barrier that it completes, its own warp exited before
pub record ResultsGiven : Type 0 where
  pub arrival : (b : Block) (w k : ℕ) (c : Call) → Shaped b → GivesResults c.form b (arrival b w k c)
  pub exit : (b : Block) (w : ℕ) → Shaped b → GivesResults (barrier_at b (opened (without b w))).form (without b w) (exit b w)

-- ---- what stays

-- a turn leaves barrier row j
abbrev pub LeavesRow : Block → ℕ → Turn → Type 0
LeavesRow b j t = barrier_at t.block j ≡ barrier_at b j

-- an arrival leaves every barrier row but its own, an exit every one but that which it completes
pub record RowsLeft : Type 0 where
  pub arrival : (b : Block) (w k j : ℕ) (c : Call) → (j ≡ k → ⊥) → LeavesRow b j (arrival b w k c)
  pub exit : (b : Block) (w j : ℕ) → (j ≡ opened (without b w) → ⊥) → LeavesRow b j (exit b w)

-- counted arrivals survive the exit of their warp: an exit leaves every barrier row with a thread count
abbrev pub CountedSurvive : Type 0
CountedSurvive = (b : Block) (w k : ℕ) → ((barrier_at b k).threads ≡ 0 → ⊥) → LeavesRow b k (exit b w)

-- a turn that is accepted leaves the row of warp v, if it does not release it
abbrev pub LeavesWarp : Block → ℕ → Turn → Type 0
LeavesWarp b v t =
    (value released : ℕ) (done : Bool) → t.verdict ≡ accepted value done released → has released v ≡ false → warp_at t.block v ≡ warp_at b v

-- so does an arrival of every warp but an issuer that waits, and an exit of every warp but its own
pub record WarpsLeft : Type 0 where
  pub arrival : (b : Block) (w k v : ℕ) (c : Call) → (v ≡ w → c.waits ≡ false) → LeavesWarp b v (arrival b w k c)
  pub exit : (b : Block) (w v : ℕ) → (v ≡ w → ⊥) → LeavesWarp b v (exit b w)

-- ---- who has not exited

-- an arrival leaves them as they were
abbrev pub ArrivalKeepsLive : Type 0
ArrivalKeepsLive = (b : Block) (w k : ℕ) (c : Call) → sound_block b ≡ true → live_of (arrival b w k c).block ≡ live_of b

-- an exit that is accepted takes its own warp out of them, and nobody else
abbrev pub ExitTakesOut : Type 0
ExitTakesOut =
    (b : Block) (w : ℕ) → Shaped b → sound_block b ≡ true
    → (value released : ℕ) (done : Bool) → (exit b w).verdict ≡ accepted value done released → live_of (exit b w).block ≡ less (live_of b) w
