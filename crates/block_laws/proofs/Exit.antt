-- An exit completes at most one barrier, and an accepted exit keeps sound tables sound.
-- Assumes nothing.
use mathlib.Core.Path.{◌≡◌, refl, sym, ap, ◌∙◌}
use mathlib.Core.Bool.{true, false, ◌||◌, or-true, false≢true}
use Prim.Native.Nat.{ℕ, ◌<◌, ◌≤◌}
use native.Mathlib.Decide.{ℕ_discrete}
use native.Mathlib.Omega.{arith}
use lib.Dec.{eqb, ltb}
use lib.ListN.{length-set}
use lib.Pow.{pow_pos}
use lib.Seq.{get_or-set_same, get_or-set_other}
use borrow.Author.Tests.{eqb-true, lt-ltb, ltb-true, ltb-false, not-true}
use Rattle.folds.specs.Folds.{every}
use Rattle.folds.proofs.Folds.{every_at}
use Rattle.sets.specs.Sets.{has, part}
use Rattle.sets.proofs.Sets.{has_none, has_set_of, ext, part_has}
use Rattle.block.specs.Tables.{most_warps, barrier_count, fresh_warp, warp_at, barrier_at, is_idle, is_ready, is_exited, waits_at, live_of, warp_sound, sound_block}
use Rattle.block_steps.specs.Steps.{completed, without, opens, opened}
use Rattle.block.specs.declared.Status.{Status}
use Rattle.block.specs.declared.Status.TheVariants.{Ready, Waiting, Exited}
use Rattle.block.specs.declared.Warp.{Warp}
use Rattle.block.specs.declared.Block.{Block}
use Rattle.block_laws.specs.Sound.{Shaped}
use Rattle.folds.proofs.General.{by_test, untrue, first_holds, first_passes}
use Rattle.block_laws.proofs.Facts.{SoundBut, SoundAt, sound_but, sound_at, sound_of, Free}
use Rattle.block_laws.proofs.Changed.{completed_keeps}

-- a warp that waits has not exited, and waits at one barrier only
waits_live : (s : Status) (j : ℕ) → waits_at s j ≡ true → is_exited s ≡ false
waits_live Ready j e = refl
waits_live (Waiting at) j e = refl
waits_live Exited j e = sym e

waits_once : (s : Status) (j k : ℕ) → waits_at s j ≡ true → waits_at s k ≡ true → j ≡ k
waits_once Ready j k e f = absurd (false≢true e)
waits_once (Waiting at) j k e f = sym (eqb-true at j e) ∙ eqb-true at k f
waits_once Exited j k e f = absurd (false≢true e)

-- what an open barrier says
record Open (b : Block) (k : ℕ) : Type 0 where
  active : is_idle (barrier_at b k).form ≡ false
  all : eqb (barrier_at b k).threads 0 ≡ true
  full : part (live_of b) (barrier_at b k).arrived ≡ true

open_says : (b : Block) (k : ℕ) → opens b k ≡ true → Open b k
open_says b k e = record { active = not-true _ (every_at _ e 0); all = every_at _ e 1; full = every_at _ e 2 }

open_of : (b : Block) (k : ℕ) → Open b k → opens b k ≡ true
unfolding every
open_of b k o = rw (o.active, o.all, o.full)

-- an exit keeps the lengths
pub left_shape : (b : Block) (w : ℕ) → Shaped b → Shaped (without b w)
left_shape b w shape = record { rows = length-set b.rows w _ ∙ shape.rows; barriers = shape.barriers }

-- warp w exits, and no line refuses it
module _ (b : Block) (w : ℕ) (ok : sound_block b ≡ true) (free : Free b w) where
  abbrev left : Block
  left = without b w

  abbrev gone : Warp
  gone = record { status = Exited; result = (warp_at b w).result }

  other : (v : ℕ) → (v ≡ w → ⊥) → warp_at left v ≡ warp_at b v
  other v d = get_or-set_other b.rows w v gone fresh_warp d

  -- a warp that waits is not the one that exits, and is live after it
  waits_other : (v j : ℕ) → waits_at (warp_at b v).status j ≡ true → v ≡ w → ⊥
  waits_other v j e q = false≢true (rw (q, free.ready) at e)

  waits_in : (v j : ℕ) → v < b.warps → waits_at (warp_at b v).status j ≡ true → has (live_of left) v ≡ true
  waits_in v j h e =
      has_set_of _ most_warps v (omega (arith, (sound_but b ok 0).high))
      ∙ rw (other v (waits_other v j e), lt-ltb v b.warps h, waits_live (warp_at b v).status j e)

  -- a warp that arrived at j, where all wait and none is missing, arrived at no other such barrier
  module _ (j k : ℕ) (j16 : j < barrier_count) (k16 : k < barrier_count) (d : j ≡ k → ⊥) (p : Open left j) (q : Open left k) where
    atj : SoundAt b j
    atj = sound_at b ok j j16

    atk : SoundAt b k
    atk = sound_at b ok k k16

    none_arrived : (v : ℕ) → v < b.warps → has (barrier_at b j).arrived v ≡ true → ⊥
    none_arrived v h e =
        let v32 : v < most_warps = omega (arith, (sound_but b ok 0).high) in
        let here : waits_at (warp_at b v).status j ≡ true =
        sym (atj.agree v v32) ∙ ap (λ (x : ℕ). has x v) (atj.row.all_wait p.active p.all) ∙ e in
        let there : has (barrier_at b k).arrived v ≡ true = part_has _ _ q.full v (waits_in v j h here) in
        d (waits_once (warp_at b v).status j k here
        (sym (atk.agree v v32) ∙ ap (λ (x : ℕ). has x v) (atk.row.all_wait q.active q.all) ∙ there))

    no_two : ⊥
    no_two =
        atj.row.arrival p.active
        (ext b.warps (barrier_at b j).arrived 0 atj.row.arrived_in (pow_pos b.warps)
        (λ v h. untrue _ (none_arrived v h) ∙ sym (has_none v)))

  pub opens_one : (j k : ℕ) → j < barrier_count → k < barrier_count → opens left j ≡ true → opens left k ≡ true → j ≡ k
  opens_one j k j16 k16 p q = go (ℕ_discrete j k)
    where
      go : Dec (j ≡ k) → j ≡ k
      go (yes e) = e
      go (no d) = absurd (no_two j k j16 k16 d (open_says left j p) (open_says left k q))

  -- a barrier other than the one that the exit completes stays shut
  shut : (j : ℕ) → j < barrier_count → (j ≡ opened left → ⊥) → opens left j ≡ false
  shut j h d =
      by_test (ltb (opened left) barrier_count)
      (λ e. let l = ltb-true (opened left) barrier_count e in
      untrue _ (λ o. d (opens_one j (opened left) h l o (first_holds (opens left) barrier_count l))))
      (λ e. first_passes (opens left) barrier_count j h (ltb-false (opened left) barrier_count e))

  module _ (shape : Shaped b) where
    s : SoundBut b barrier_count
    s = sound_but b ok barrier_count

    in32 : w < most_warps
    in32 = omega (arith, free.warp, s.high)

    own : warp_at left w ≡ gone
    own = get_or-set_same b.rows w gone fresh_warp (rw shape.rows in32)

    left_warp : (v : ℕ) → v < most_warps → Dec (v ≡ w) → warp_sound b.warps v (warp_at left v) ≡ true
    left_warp v h (yes q) = rw (q, own, lt-ltb w b.warps free.warp)
    left_warp v h (no q) = rw (other v q) (s.warp v h)

    left_agree : (j v : ℕ) → j < barrier_count → v < most_warps → Dec (v ≡ w) → has (barrier_at b j).waiting v ≡ waits_at (warp_at left v).status j
    left_agree j v h l (yes q) = (sound_at b ok j h).agree v l ∙ rw (q, own, free.ready)
    left_agree j v h l (no q) = (sound_at b ok j h).agree v l ∙ rw (other v q)

    -- every barrier is sound after it, but the one that it completes
    left_but : SoundBut left (opened left)
    left_but = record {
      low = s.low;
      high = s.high;
      warp = λ v h. left_warp v h (ℕ_discrete v w);
      others = λ j h d. record {
        row = (sound_at b ok j h).row;
        missing = λ i z. untrue _ (λ p. false≢true (sym (shut j h d) ∙ open_of left j (record { active = i; all = z; full = p })));
        agree = λ v l. left_agree j v h l (ℕ_discrete v w);
      };
    }

    -- the warps that wait at the barrier that it completes wait there after it
    pub left_free : opened left < barrier_count → (v : ℕ) → v < most_warps → has (barrier_at left (opened left)).waiting v ≡ true
        → is_ready (warp_at left v).status || waits_at (warp_at left v).status (opened left) ≡ true
    left_free l v h e = rw (sym (left_agree (opened left) v l h (ℕ_discrete v w)) ∙ e) (or-true (is_ready (warp_at left v).status))

    pub exit_completed : opened left < barrier_count → sound_block (completed left (opened left) (barrier_at left (opened left))).block ≡ true
    exit_completed l =
        completed_keeps left (opened left) (barrier_at left (opened left)) (left_shape b w shape) l left_but (sound_at b ok (opened left) l).row.waiting_in
        (left_free l) (λ v h e. left_agree (opened left) v l h (ℕ_discrete v w) ∙ e)

    pub exit_alone : barrier_count ≤ opened left → sound_block left ≡ true
    exit_alone l = sound_of left (opened left) left_but (λ h. absurd (omega arith))
