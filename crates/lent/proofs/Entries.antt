-- Laws of the refusal of fresh tables: what holds where none is given.
-- Assumes nothing.
use mathlib.Core.Path.{◌≡◌, refl}
use mathlib.Core.Bool.{Bool, true, false, ◌||◌, true≢false}
use Prim.Native.Nat.{ℕ, ◌≤◌}
use native.Mathlib.Omega.{arith}
use lib.Dec.{eqb, ltb}
use borrow.Author.Tests.{eqb-true, eqb-false, ltb-false, not-false}
use Rattle.folds.proofs.Folds.{none_at}
use Rattle.object.specs.Tokens.{slots}
use Rattle.block.specs.Tables.{most_warps}
use Rattle.lent.specs.Entries.{fresh_lines, fresh_refusal}

-- the list has 64 records
pub all_there : (rows w : ℕ) → fresh_refusal rows w ≡ 0 → rows ≡ slots
unfolding fresh_refusal
all_there rows w e = eqb-true rows slots (not-false (eqb rows slots) (none_at (fresh_lines rows w) refl e 0))

-- there are 1 to 32 warps
pub some_warps : (rows w : ℕ) → fresh_refusal rows w ≡ 0 → (1 ≤ w) × (w ≤ most_warps)
unfolding fresh_refusal
some_warps rows w e = both (eqb w 0) (ltb most_warps w) (eqb-false w 0) (ltb-false most_warps w) (none_at (fresh_lines rows w) refl e 1)
  where
    both : (a b : Bool) → (a ≡ false → w ≡ 0 → ⊥) → (b ≡ false → w ≤ most_warps) → a || b ≡ false → (1 ≤ w) × (w ≤ most_warps)
    both true b f g h = absurd (true≢false h)
    both false b f g h = let some : w ≡ 0 → ⊥ = f refl in (omega (arith, some), g h)
