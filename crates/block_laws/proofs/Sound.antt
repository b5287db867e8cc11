-- Fresh tables are sound, every step keeps sound tables sound, and their sums fit.
-- Assumes nothing.
use mathlib.Core.Path.{◌≡◌, refl, sym, ◌∙◌}
use mathlib.Core.Bool.{Bool, true, false, cond, ◌||◌, or-true, false≢true}
use Prim.Native.Nat.{ℕ, ◌+◌, ◌<◌, ◌≤◌}
use native.Mathlib.Omega.{arith}
use lib.Dec.{eqb, ltb}
use lib.ListN.{set, length-set, length-replicate, get_or-replicate}
use Rattle.sets.proofs.Sets.{has_none, size_le}
use Rattle.block.specs.Tables.{most_warps, barrier_count, fresh_warp, idle, warp_at, barrier_at, is_plain, sound_block, fresh_block}
use Rattle.barrier_calls.specs.Calls.{form_of}
use Rattle.block.specs.declared.Form.TheVariants.{Idle, Popc, And, Or}
use Rattle.block.specs.declared.Warp.{Warp}
use Rattle.block.specs.declared.Barrier.{Barrier}
use Rattle.block.specs.declared.Block.{Block}
use Rattle.block_laws.specs.Sound.{Shaped, ShapeKept, CallsAsk, FreshSound, ArrivalKeepsSound, ExitKeepsSound, TruesBounded, SumsFit}
use Rattle.folds.proofs.Folds.{length_firsts}
use Rattle.folds.proofs.General.{both}
use Rattle.block_laws.proofs.Facts.{SoundBut, sound_at, sound_of}
use Rattle.block_laws.proofs.Ends.{arrival_ends, exit_ends}
use Rattle.block_laws.proofs.Arrived.{trues_le, sum_fits}
use Rattle.block_laws.proofs.Changed.{idle_row}
use Rattle.block_laws.proofs.Arrival.{arrival_completed, arrival_goes_on}
use Rattle.block_laws.proofs.Exit.{left_shape, exit_completed, exit_alone}

-- ---- calls

-- a selector names no plain form
form_reduces : (s : ℕ) → is_plain (form_of s) ≡ false
form_reduces s = go (eqb s 0 || eqb s 4) (eqb s 1 || eqb s 5) (eqb s 2 || eqb s 6)
  where
    go : (a b c : Bool) → is_plain (cond a Popc (cond b And (cond c Or Idle))) ≡ false
    go true b c = refl
    go false true c = refl
    go false false true = refl
    go false false false = refl

pub calls_ask : CallsAsk
calls_ask = record {
  sync = λ t. record { lanes = omega arith; plain = λ h. refl; reduction = λ h. refl; all = λ h. refl };
  arrive = λ t. record { lanes = omega arith; plain = λ h. refl; reduction = λ h. absurd (false≢true h); all = λ h. cc };
  red = λ s t mask. record {
    lanes = size_le most_warps _;
    plain = λ h. absurd (false≢true (sym (form_reduces s) ∙ h));
    reduction = λ h. refl;
    all = λ h. refl;
  };
}

-- ---- fresh tables

fresh_warp_lem : (n v : ℕ) → v < most_warps → warp_at (fresh_block n) v ≡ fresh_warp
fresh_warp_lem n v h = get_or-replicate most_warps v fresh_warp fresh_warp h

fresh_row : (n k : ℕ) → k < barrier_count → barrier_at (fresh_block n) k ≡ idle
fresh_row n k h = get_or-replicate barrier_count k idle idle h

fresh_but : (n : ℕ) → 1 ≤ n → n ≤ most_warps → SoundBut (fresh_block n) barrier_count
fresh_but n low high = record {
  low = low;
  high = high;
  warp = λ v h. rw (fresh_warp_lem n v h) (both _ _ (or-true (ltb v n)) refl);
  others = λ j h d. record {
    row = rw (fresh_row n j h) (idle_row n);
    missing = rw (fresh_row n j h) (λ i. absurd (false≢true (sym i)));
    agree = λ v l. rw (fresh_row n j h, fresh_warp_lem n v l) (has_none v);
  };
}

pub fresh_sound : FreshSound
fresh_sound n low high = sound_of (fresh_block n) barrier_count (fresh_but n low high) (λ h. absurd (omega arith))

-- ---- steps

pub arrival_keeps_sound : ArrivalKeepsSound
arrival_keeps_sound b w k c shape asks ok =
    arrival_ends (λ t. sound_block t.block ≡ true) b w k c (λ n. ok)
    (λ j. arrival_completed b w k c ok j shape asks) (λ j. arrival_goes_on b w k c ok j shape asks)

pub exit_keeps_sound : ExitKeepsSound
exit_keeps_sound b w shape ok =
    exit_ends (λ t. sound_block t.block ≡ true) b w (λ n. ok)
    (λ free. exit_completed b w ok free shape) (λ free. exit_alone b w ok free shape)

-- ---- shapes

set_shape : (b : Block) (w k : ℕ) (x : Warp) (r : Barrier) (t : Bool) → Shaped b
    → Shaped (record { warps = b.warps; rows = cond t (set b.rows w x) b.rows; barriers = set b.barriers k r })
set_shape b w k x r true shape =
    record { rows = length-set b.rows w x ∙ shape.rows; barriers = length-set b.barriers k r ∙ shape.barriers }
set_shape b w k x r false shape = record { rows = shape.rows; barriers = length-set b.barriers k r ∙ shape.barriers }

pub shape_kept : ShapeKept
shape_kept = record {
  fresh = λ n. record { rows = length-replicate most_warps fresh_warp; barriers = length-replicate barrier_count idle };
  arrival = λ b w k c shape.
      arrival_ends (λ t. Shaped t.block) b w k c (λ n. shape)
      (λ j. record { rows = length_firsts _ b.rows most_warps 0 ∙ shape.rows; barriers = length-set b.barriers k idle ∙ shape.barriers })
      (λ j o. set_shape b w k _ _ c.waits shape);
  exit = λ b w shape.
      exit_ends (λ t. Shaped t.block) b w (λ n. shape)
      (λ f l. record { rows = length_firsts _ _ most_warps 0 ∙ (left_shape b w shape).rows; barriers = length-set b.barriers _ idle ∙ shape.barriers })
      (λ f l. left_shape b w shape);
}

-- ---- true lanes

pub trues_bounded : TruesBounded
trues_bounded b k h ok = trues_le b.warps (barrier_at b k) (sound_at b ok k h).row

pub sums_fit : SumsFit
sums_fit b k lanes h l ok = sum_fits ((barrier_at b k).trues + lanes) (omega (arith, trues_bounded b k h ok))
