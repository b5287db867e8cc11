-- An accepted arrival keeps sound tables sound.
-- Assumes nothing.
use mathlib.Core.Path.{◌≡◌, refl, sym, ◌∙◌}
use mathlib.Core.Bool.{Bool, true, false, ◌&&◌, ◌||◌, or-false, or-true, and-false, false≢true}
use Prim.Native.Nat.{ℕ, ◌<◌}
use native.Mathlib.Decide.{ℕ_discrete}
use native.Mathlib.Omega.{arith}
use lib.Dec.{eqb}
use lib.ListN.{get_or, set}
use lib.Seq.{get_or-set_same, get_or-set_other}
use borrow.Author.Tests.{eq-eqb, ne_eqb, eqb-true, lt-ltb}
use Rattle.sets.specs.Sets.{has}
use Rattle.block.specs.Tables.{most_warps, barrier_count, fresh_warp, warp_at, barrier_at, is_ready, waits_at, live_of, sound_block}
use Rattle.barrier_row.specs.Rows.{arrived_row, completes}
use Rattle.block_steps.specs.Steps.{completed, goes_on}
use Rattle.block.specs.declared.Status.TheVariants.{Waiting}
use Rattle.block.specs.declared.Warp.{Warp}
use Rattle.block.specs.declared.Barrier.{Barrier}
use Rattle.block.specs.declared.Block.{Block}
use Rattle.block.specs.declared.Call.{Call}
use Rattle.block_laws.specs.Sound.{Shaped, Asks}
use Rattle.block_laws.proofs.Facts.{SoundBut, SoundAt, sound_but, sound_at, Joins}
use Rattle.block_laws.proofs.Arrived.{has_grown, waiting_inside, arrived_row_lem, arrived_missing}
use Rattle.block_laws.proofs.Changed.{Moves, stays, changed, completed_keeps}

-- warp w arrives at barrier k, and no line refuses it
module _ (b : Block) (w k : ℕ) (c : Call) (ok : sound_block b ≡ true) (joins : Joins b w k c) where
  abbrev arrived : Barrier
  arrived = arrived_row (barrier_at b k) w c

  s : SoundBut b k
  s = sound_but b ok k

  at : SoundAt b k
  at = sound_at b ok k joins.barrier

  in32 : w < most_warps
  in32 = omega (arith, joins.free.warp, s.high)

  -- the waiting set has the warps that wait there and, if the step waits, warp w
  grown : (v : ℕ) → v < most_warps → has arrived.waiting v ≡ waits_at (warp_at b v).status k || (c.waits && eqb v w)
  grown v h = has_grown (barrier_at b k).waiting w v c.waits in32 ∙ rw (at.agree v h)

  -- so its warps are ready or wait there
  pub arrived_free : (v : ℕ) → v < most_warps → has arrived.waiting v ≡ true → is_ready (warp_at b v).status || waits_at (warp_at b v).status k ≡ true
  arrived_free v h e = go (waits_at (warp_at b v).status k) (eqb v w) refl refl (sym (grown v h) ∙ e)
    where
      go : (x y : Bool) → waits_at (warp_at b v).status k ≡ x → eqb v w ≡ y
          → waits_at (warp_at b v).status k || (c.waits && eqb v w) ≡ true → is_ready (warp_at b v).status || waits_at (warp_at b v).status k ≡ true
      go true y p q e = rw p (or-true (is_ready (warp_at b v).status))
      go false true p q e = rw (eqb-true v w q, joins.free.ready)
      go false false p q e = absurd (false≢true (sym (and-false c.waits) ∙ (rw (p, q) at e)))

  -- the block has 32 warp rows and sixteen barrier rows, and the call asks what a sync, an arrive or a red does
  module _ (shape : Shaped b) (asks : Asks c) where
    abbrev waiting : Warp
    waiting = record { status = Waiting k; result = (warp_at b w).result }

    own : get_or (set b.rows w waiting) w fresh_warp ≡ waiting
    own = get_or-set_same b.rows w waiting fresh_warp (rw shape.rows in32)

    -- it waits there, and the other warp rows stay
    waits_moves : (v : ℕ) → v < most_warps → Dec (v ≡ w) → Moves b k v (get_or (set b.rows w waiting) v fresh_warp)
    waits_moves v h (yes q) =
        rw (q, own) (record {
          exited = rw joins.free.ready;
          sound = rw (lt-ltb w b.warps joins.free.warp) (lt-ltb k barrier_count joins.barrier);
          away = λ j d. rw joins.free.ready (ne_eqb k j (λ e. d (sym e)));
        })
    waits_moves v h (no q) = rw (get_or-set_other b.rows w v waiting fresh_warp q) (stays b k v s h)

    waits_here : c.waits ≡ true → (v : ℕ) → v < most_warps → Dec (v ≡ w)
        → has arrived.waiting v ≡ waits_at (get_or (set b.rows w waiting) v fresh_warp).status k
    waits_here e v h (yes q) =
        grown v h ∙ rw (q, e, own, eq-eqb w w refl, eq-eqb k k refl) (or-true (waits_at (warp_at b w).status k))
    waits_here e v h (no q) =
        grown v h ∙ rw (e, ne_eqb v w q, get_or-set_other b.rows w v waiting fresh_warp q) (or-false _)

    going_on : completes (live_of b) arrived ≡ false → (t : Bool) → c.waits ≡ t → sound_block (goes_on b k arrived w t).block ≡ true
    going_on o true e =
        changed b k arrived (set b.rows w waiting) shape joins.barrier s
        (arrived_row_lem b w k c asks s.high at.row joins (live_of b) o) (arrived_missing b w k c asks s.high at.row joins (live_of b) o)
        (λ v h. waits_moves v h (ℕ_discrete v w)) (λ v h. waits_here e v h (ℕ_discrete v w))
    going_on o false e =
        changed b k arrived b.rows shape joins.barrier s
        (arrived_row_lem b w k c asks s.high at.row joins (live_of b) o) (arrived_missing b w k c asks s.high at.row joins (live_of b) o)
        (λ v h. stays b k v s h) (λ v h. grown v h ∙ rw e (or-false _))

    pub arrival_completed : sound_block (completed b k arrived).block ≡ true
    arrival_completed =
        completed_keeps b k arrived shape joins.barrier s (waiting_inside b w k c asks s.high at.row joins)
        arrived_free (λ v h e. grown v h ∙ rw e)

    pub arrival_goes_on : completes (live_of b) arrived ≡ false → sound_block (goes_on b k arrived w c.waits).block ≡ true
    arrival_goes_on o = going_on o c.waits refl
