-- What is claimed of sound tables: fresh tables are sound, every step keeps sound tables sound, and their sums fit.
-- Assumes nothing.
use Rattle.std.specs.Prelude.{◌≡◌, true, Option, None, ℕ, ◌+◌, ◌*◌, ◌<◌, ◌≤◌, length}
use Rattle.block.specs.Tables.{most_warps, lane_count, barrier_count, barrier_at, is_plain, is_reduction, sound_block, fresh_block}
use Rattle.barrier_row.specs.Rows.{up_to_largest}
use Rattle.block_steps.specs.Steps.{arrival, exit}
use Rattle.barrier_calls.specs.Calls.{sync_call, arrive_call, red_call}
use Rattle.block.specs.declared.Block.{Block}
use Rattle.block.specs.declared.Call.{Call}

-- the block's lists are as long as its arrays
pub record Shaped (b : Block) : Type 0 where
  pub rows : length b.rows ≡ most_warps
  pub barriers : length b.barriers ≡ barrier_count

-- fresh tables have that shape, and a step keeps it
pub record ShapeKept : Type 0 where
  pub fresh : (n : ℕ) → Shaped (fresh_block n)
  pub arrival : (b : Block) (w k : ℕ) (c : Call) → Shaped b → Shaped (arrival b w k c).block
  pub exit : (b : Block) (w : ℕ) → Shaped b → Shaped (exit b w).block

-- what a call asks for: 32 true lanes at most, and of a plain call none; a reduction waits, and so does an all-thread call
pub record Asks (c : Call) : Type 0 where
  pub lanes : c.lanes ≤ lane_count
  pub plain : is_plain c.form ≡ true → c.lanes ≡ 0
  pub reduction : is_reduction c.form ≡ true → c.waits ≡ true
  pub all : c.threads ≡ None → c.waits ≡ true

-- every call that sync, arrive and red make asks so
pub record CallsAsk : Type 0 where
  pub sync : (t : Option ℕ) → Asks (sync_call t)
  pub arrive : (t : ℕ) → Asks (arrive_call t)
  pub red : (s : ℕ) (t : Option ℕ) (mask : ℕ) → Asks (red_call s t mask)

-- fresh tables of 1 to 32 warps are sound
abbrev pub FreshSound : Type 0
FreshSound = (n : ℕ) → 1 ≤ n → n ≤ most_warps → sound_block (fresh_block n) ≡ true

-- an arrival keeps sound tables sound, whether it is refused, goes on, waiting or not, or completes its barrier
abbrev pub ArrivalKeepsSound : Type 0
ArrivalKeepsSound =
    (b : Block) (w k : ℕ) (c : Call) → Shaped b → Asks c → sound_block b ≡ true → sound_block (arrival b w k c).block ≡ true

-- an exit keeps sound tables sound, whether it is refused, completes a barrier or completes none
abbrev pub ExitKeepsSound : Type 0
ExitKeepsSound = (b : Block) (w : ℕ) → Shaped b → sound_block b ≡ true → sound_block (exit b w).block ≡ true

-- in sound tables a row has at most 1024 true lanes
abbrev pub TruesBounded : Type 0
TruesBounded = (b : Block) (k : ℕ) → k < barrier_count → sound_block b ≡ true → (barrier_at b k).trues ≤ lane_count * most_warps

-- so no sum of true lanes reaches the largest number
abbrev pub SumsFit : Type 0
SumsFit =
    (b : Block) (k lanes : ℕ) → k < barrier_count → lanes ≤ lane_count → sound_block b ≡ true
    → up_to_largest ((barrier_at b k).trues + lanes) ≡ (barrier_at b k).trues + lanes
