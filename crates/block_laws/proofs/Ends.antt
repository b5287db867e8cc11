-- The ends of a step: what holds of each holds of the step.
-- Assumes nothing.
use mathlib.Core.Path.{◌≡◌, refl}
use mathlib.Core.Bool.{Bool, true, false, cond}
use Prim.Native.Nat.{ℕ, ◌<◌, ◌≤◌}
use lib.Dec.{eqb, ltb}
use borrow.Author.Tests.{eqb-true, ltb-true, ltb-false}
use Rattle.folds.specs.Folds.{lowest}
use Rattle.block.specs.Tables.{barrier_count, barrier_at, live_of}
use Rattle.barrier_row.specs.Rows.{arrived_row, completes}
use Rattle.block_steps.specs.Steps.{exit_lines, arrival_lines, completed, goes_on, refused, arrival, without, opened, exit}
use Rattle.block.specs.declared.Barrier.{Barrier}
use Rattle.block.specs.declared.Block.{Block}
use Rattle.block.specs.declared.Call.{Call}
use Rattle.block.specs.Verdicts.{accepted}
use Rattle.block.specs.declared.Turn.{Turn}
use Rattle.block_laws.proofs.Facts.{Free, Joins, free_says, joins_says}

-- an arrival is refused, completes its barrier or goes on
module _ (P : Turn → Type 0) (b : Block) (w k : ℕ) (c : Call) where
  abbrev row : Barrier
  row = arrived_row (barrier_at b k) w c

  pub arrival_ends : ((n : ℕ) → P (refused b n)) → (Joins b w k c → P (completed b k row))
      → (Joins b w k c → completes (live_of b) row ≡ false → P (goes_on b k row w c.waits)) → P (arrival b w k c)
  unfolding arrival
  arrival_ends r d g = go (eqb (lowest (arrival_lines b w k c)) 0) (completes (live_of b) row) refl refl
    where
      go : (t u : Bool) → eqb (lowest (arrival_lines b w k c)) 0 ≡ t → completes (live_of b) row ≡ u
          → P (cond t (cond u (completed b k row) (goes_on b k row w c.waits)) (refused b (lowest (arrival_lines b w k c))))
      go true true e f = d (joins_says b w k c (eqb-true _ _ e))
      go true false e f = g (joins_says b w k c (eqb-true _ _ e)) f
      go false u e f = r (lowest (arrival_lines b w k c))

-- an exit is refused, completes a barrier or completes none
module _ (P : Turn → Type 0) (b : Block) (w : ℕ) where
  abbrev left : Block
  left = without b w

  pub exit_ends : ((n : ℕ) → P (refused b n))
      → (Free b w → opened left < barrier_count → P (completed left (opened left) (barrier_at left (opened left))))
      → (Free b w → barrier_count ≤ opened left → P (record { verdict = accepted 0 false 0; block = left })) → P (exit b w)
  unfolding exit
  exit_ends r d n = go (eqb (lowest (exit_lines b w)) 0) (ltb (opened left) barrier_count) refl refl
    where
      go : (t u : Bool) → eqb (lowest (exit_lines b w)) 0 ≡ t → ltb (opened left) barrier_count ≡ u
          → P (cond t (cond u (completed left (opened left) (barrier_at left (opened left))) (record { verdict = accepted 0 false 0; block = left }))
          (refused b (lowest (exit_lines b w))))
      go true true e f = d (free_says b w (eqb-true _ _ e)) (ltb-true _ _ f)
      go true false e f = n (free_says b w (eqb-true _ _ e)) (ltb-false _ _ f)
      go false u e f = r (lowest (exit_lines b w))
