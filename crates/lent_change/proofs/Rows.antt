-- Laws of the warp rows that are released one after another.
-- Assumes nothing.
use mathlib.Core.Path.{◌≡◌, refl, sym}
use mathlib.Core.Bool.{cond}
use mathlib.Core.List.{List}
use Prim.Native.Nat.{ℕ}
use lib.Dec.{ltb}
use lib.ListN.{length}
use Rattle.folds.specs.Folds.{firsts}
use Rattle.folds.proofs.Folds.{firsts_same, firsts_all}
use Rattle.sets.proofs.Sets.{has_none}
use Rattle.block.specs.declared.Warp.{Warp}
use Rattle.block_steps.specs.declared.Freed.{Freed}
use Rattle.block_steps.specs.Steps.{released_warp, released_warps}

-- ---- the rows of a release

-- the row at i after a release; rows past the last warp stay
abbrev pub released_row : Freed → ℕ → Warp → Warp
released_row f i x = cond (ltb i 32) (released_warp f i x) x

-- the warp rows with those among the first n released
abbrev pub released_to : Freed → List Warp → ℕ → List Warp
released_to f ws n = firsts n 0 (released_row f) ws

-- where all rows were looked at, the set is released
pub released_all : (f : Freed) (ws : List Warp) → released_to f ws (length ws) ≡ released_warps f ws
released_all f ws = firsts_all (released_warp f) ws 32 0 32 refl

-- and where it is empty, the rows stay
pub none_released : (f : Freed) (ws : List Warp) → f.set ≡ 0 → ws ≡ released_warps f ws
none_released f ws e = sym (firsts_same (released_warp f) ws 32 0 (λ k x le. rw (e, has_none k)))
