-- Laws of what is known of fresh tables.
-- Assumes nothing.
use mathlib.Core.Path.{◌≡◌, refl, sym, ap}
use mathlib.Core.Bool.{Bool, true, false, ◌&&◌, ◌||◌, and-false, true≢false}
use Prim.Native.Nat.{ℕ, ◌-◌, ◌^◌, ◌<◌, ◌≤◌, min}
use native.Mathlib.Omega.{arith}
use lib.Dec.{eqb, ltb, leb}
use borrow.Author.Tests.{eqb-true, eqb-false, ltb-true, ltb-false, lt-leb}
use Rattle.folds.specs.Folds.{all, every}
use Rattle.folds.proofs.Folds.{all_at}
use Rattle.sets.specs.Sets.{set_of}
use Rattle.block.specs.Tables.{most_warps, live_of, sound_block, fresh_block}
use Rattle.block_laws.proofs.Sound as block-laws
use Rattle.tables.specs.Tables.{sound_objects, fresh_tables}
use Rattle.lent_run.specs.Run.{known, checked_of}

-- so many warps are none, or too many
abbrev wrong : ℕ → Bool
wrong w = eqb w 0 || ltb most_warps w

-- such a block is not sound
unsound : (w : ℕ) → wrong w ≡ true → sound_block (fresh_block w) ≡ false
unfolding sound_block every
unsound w h = rw (none (eqb w 0) refl h)
  where
    none : (t : Bool) → eqb w 0 ≡ t → t || ltb most_warps w ≡ true → leb 1 w && leb w most_warps ≡ false
    none true e q = rw (eqb-true w 0 e)
    none false e q = rw (lt-leb w most_warps (ltb-true most_warps w q), and-false (leb 1 w))

pub fresh_unsound : (w : ℕ) → wrong w ≡ true → known false 0 ≡ checked_of (fresh_tables w)
fresh_unsound w h = ap (λ (t : Bool). known (t && sound_objects (fresh_tables w).objects) (live_of (fresh_block w))) (sym (unsound w h))

-- 1 to 32 warps
counted : (w : ℕ) → wrong w ≡ false → (1 ≤ w) × (w ≤ most_warps)
counted w = go (eqb w 0) refl
  where
    go : (t : Bool) → eqb w 0 ≡ t → t || ltb most_warps w ≡ false → (1 ≤ w) × (w ≤ most_warps)
    go true e h = absurd (true≢false h)
    go false e h = let some = eqb-false w 0 e in (omega (arith, some), ltb-false most_warps w h)

-- nobody has exited: computed for every number of warps
abbrev nobody : ℕ → Bool
nobody w = eqb (live_of (fresh_block w)) (2 ^ w - 1)

each_live : all 33 nobody ≡ true
unfolding all set_of
each_live = refl

all_live : (w : ℕ) → w ≤ most_warps → 2 ^ min w 32 - 1 ≡ live_of (fresh_block w)
all_live w h =
    let small : w < 33 = omega arith in
    let least : min w 32 ≡ w = omega arith in
    rw least (sym (eqb-true (live_of (fresh_block w)) (2 ^ w - 1) (all_at nobody 33 w small each_live)))

-- 64 dead rows are sound
dead_sound : (w : ℕ) → sound_objects (fresh_tables w).objects ≡ true
unfolding all
dead_sound w = refl

pub fresh_sound : (w : ℕ) → wrong w ≡ false → known true (2 ^ min w 32 - 1) ≡ checked_of (fresh_tables w)
fresh_sound w h =
    let c = counted w h in
    rw (block-laws.fresh_sound w c.0 c.1, dead_sound w, all_live w c.1)
