-- The row of a barrier after an arrival that does not complete it is sound, and its sums fit.
-- Assumes nothing.
use mathlib.Core.Path.{◌≡◌, refl, sym, ap, ◌∙◌}
use mathlib.Core.Bool.{Bool, true, false, not, cond, ◌&&◌, ◌||◌, or-true, or-false, and-false, false≢true}
use Prim.Native.Nat.{ℕ, ◌+◌, ◌*◌, ◌%◌, ◌^◌, ◌<◌, ◌≤◌}
use native.Mathlib.Omega.{arith}
use lib.Dec.{eqb}
use borrow.Author.Tests.{eqb-true, eqb-false, lt-ltb, ltb-false, le-leb, not-false}
use Rattle.std.specs.Prelude.{Option, Some, None}
use Rattle.sets.specs.Sets.{has, put, size}
use Rattle.sets.proofs.Sets.{has_none, has_put, has_put_own, put_lt, part_has, part_of, size_le, size_none, size_put}
use Rattle.block.specs.Tables.{most_warps, lane_count, barrier_at, form_number, is_idle, is_plain, is_reduction}
use Rattle.barrier_row.specs.Rows.{count_of, bad_threads, largest, up_to_largest, arrived_row, completes}
use Rattle.block.specs.declared.Barrier.{Barrier}
use Rattle.block.specs.declared.Block.{Block}
use Rattle.block.specs.declared.Call.{Call}
use Rattle.block_laws.specs.Sound.{Asks}
use Rattle.folds.proofs.General.{by_test, neither}
use Rattle.block_laws.proofs.Facts.{Row, Missing, Joins}

-- ---- true lanes

-- a sound row has at most 1024
pub trues_le : (n : ℕ) (r : Barrier) → Row n r → r.trues ≤ lane_count * most_warps
trues_le n r f =
    by_test (is_idle r.form) (λ e. omega (arith, f.no_trues e)) λ e.
    by_test (is_plain r.form) (λ q. omega (arith, f.plain_trues q)) λ q.
    let more : 1 < form_number r.form = omega (arith, eqb-false (form_number r.form) 0 e, eqb-false (form_number r.form) 1 q) in
    omega (arith, f.reduction_trues (lt-ltb 1 (form_number r.form) more), size_le most_warps r.arrived)

-- a sum up to the largest number is not cut
pub sum_fits : (n : ℕ) → n ≤ largest → up_to_largest n ≡ n
sum_fits n h = rw (le-leb n largest h)

-- ---- the call's thread count

module _ (b : Block) where
  -- a count that is not refused is all, or a multiple of 32 up to 32 times the warps
  count_multiple : (t : Option ℕ) → bad_threads b.warps t ≡ false → eqb (count_of t) 0 ≡ false → count_of t % lane_count ≡ 0
  count_multiple None e z = absurd (false≢true (sym z))
  count_multiple (Some t) e z = eqb-true (t % lane_count) 0 (not-false _ (neither _ _ (neither (eqb t 0) _ e).1).0)

  count_most : (t : Option ℕ) → bad_threads b.warps t ≡ false → count_of t ≤ lane_count * b.warps
  count_most None e = omega arith
  count_most (Some t) e = ltb-false (lane_count * b.warps) t (neither (not (eqb (t % lane_count) 0)) _ (neither (eqb t 0) _ e).1).1

  count_all : (t : Option ℕ) → bad_threads b.warps t ≡ false → eqb (count_of t) 0 ≡ true → t ≡ None
  count_all None e z = refl
  count_all (Some t) e z = absurd (false≢true (sym (neither (eqb t 0) _ e).0 ∙ z))

-- ---- what a set has with warp w put in or not

pub has_grown : (s w v : ℕ) (t : Bool) → w < most_warps → has (cond t (put s w) s) v ≡ has s v || (t && eqb v w)
has_grown s w v true h = has_put s w v h
has_grown s w v false h = sym (or-false (has s v))

grown_lt : (n s w : ℕ) (t : Bool) → w < n → s < 2 ^ n → cond t (put s w) s < 2 ^ n
grown_lt n s w true h l = put_lt n s w h l
grown_lt n s w false h l = l

put_some : (s w : ℕ) → w < most_warps → put s w ≡ 0 → ⊥
put_some s w h e = false≢true (sym (has_none w) ∙ ap (λ (x : ℕ). has x w) (sym e) ∙ has_put_own s w h)

-- ---- the row

module _ (b : Block) (w k : ℕ) (c : Call) (asks : Asks c) (high : b.warps ≤ most_warps) (f : Row b.warps (barrier_at b k)) (joins : Joins b w k c) where
  abbrev old : Barrier
  old = barrier_at b k

  abbrev count : ℕ
  count = count_of c.threads

  in32 : w < most_warps
  in32 = omega (arith, joins.free.warp)

  -- an active row has the call's form and count
  same : is_idle old.form ≡ false → (old.threads ≡ count) × (form_number old.form ≡ form_number c.form)
  same h =
      let e = neither _ _ (rw h at joins.fits) in
      (eqb-true _ _ (not-false _ e.0), eqb-true _ _ (not-false _ e.1))

  idle_waits : is_idle old.form ≡ true → old.waiting ≡ old.arrived
  idle_waits h = f.no_waiting h ∙ sym (f.no_arrived h)

  -- what the row was, an idle row as if it had them
  was_below : eqb count 0 ≡ false → lane_count * size old.arrived < count
  was_below z =
      by_test (is_idle old.form) (λ h. rw (f.no_arrived h, size_none most_warps) (omega (arith, eqb-false count 0 z)))
      (λ h. rw (← (same h).0) (f.below h (rw (same h).0 z)))

  was_all : eqb count 0 ≡ true → old.waiting ≡ old.arrived
  was_all z = by_test (is_idle old.form) idle_waits (λ h. f.all_wait h (rw (same h).0 z))

  was_waiting : is_reduction c.form ≡ true → old.waiting ≡ old.arrived
  was_waiting z = by_test (is_idle old.form) idle_waits (λ h. f.reduction_wait (rw (same h).1 z))

  was_true : is_reduction c.form ≡ true → old.trues ≤ lane_count * size old.arrived
  was_true z = by_test (is_idle old.form) (λ h. rw (f.no_trues h) (omega arith)) (λ h. f.reduction_trues (rw (same h).1 z))

  was_plain : is_plain c.form ≡ true → old.trues ≡ 0
  was_plain z = by_test (is_idle old.form) f.no_trues (λ h. f.plain_trues (rw (same h).1 z))

  -- where all waited and this warp does, all wait
  all_wait_lem : old.waiting ≡ old.arrived → c.waits ≡ true → cond c.waits (put old.waiting w) old.waiting ≡ put old.arrived w
  all_wait_lem e h = rw (h, e)

  sum : up_to_largest (old.trues + c.lanes) ≡ old.trues + c.lanes
  sum = sum_fits (old.trues + c.lanes) (omega (arith, trues_le b.warps old f, asks.lanes))

  size_new : size (put old.arrived w) ≡ size old.arrived + 1
  size_new = size_put old.arrived w in32 joins.new

  active : {A : Type 0} → is_idle c.form ≡ true → A
  active h = absurd (false≢true (sym joins.form ∙ h))

  waits_among : (v : ℕ) → has (arrived_row old w c).waiting v ≡ true → has (put old.arrived w) v ≡ true
  waits_among v q =
      has_put old.arrived w v in32 ∙ go (has old.waiting v) (eqb v w) refl refl (sym (has_grown old.waiting w v c.waits in32) ∙ q)
    where
      go : (x y : Bool) → has old.waiting v ≡ x → eqb v w ≡ y → has old.waiting v || (c.waits && eqb v w) ≡ true
          → has old.arrived v || eqb v w ≡ true
      go true y p q s = rw (part_has old.waiting old.arrived f.waiting_arrived v p)
      go false true p q s = rw q (or-true (has old.arrived v))
      go false false p q s = absurd (false≢true (sym (and-false c.waits) ∙ (rw (p, q) at s)))

  pub waiting_inside : (arrived_row old w c).waiting < 2 ^ b.warps
  waiting_inside = grown_lt b.warps old.waiting w c.waits joins.free.warp f.waiting_in

  module _ (live : ℕ) (open' : completes live (arrived_row old w c) ≡ false) where
    still_below : eqb count 0 ≡ false → lane_count * size (put old.arrived w) < count
    still_below z =
        let m = count_multiple b c.threads joins.count z in
        let u = eqb-false (lane_count * size (put old.arrived w)) count (rw z at open') in
        omega (arith, size_new, m, u, was_below z)

    pub arrived_row_lem : Row b.warps (arrived_row old w c)
    arrived_row_lem = record {
      arrived_in = put_lt b.warps old.arrived w joins.free.warp f.arrived_in;
      waiting_in = waiting_inside;
      waiting_arrived =
          part_of b.warps _ _ waiting_inside
          (put_lt b.warps old.arrived w joins.free.warp f.arrived_in) (λ v l. waits_among v);
      no_threads = active;
      no_arrived = active;
      no_waiting = active;
      no_trues = active;
      arrival = λ h. put_some old.arrived w in32;
      multiple = λ h z. count_multiple b c.threads joins.count z;
      most = λ h z. count_most b c.threads joins.count;
      below = λ h z. still_below z;
      all_wait = λ h z. all_wait_lem (was_all z) (asks.all (count_all b c.threads joins.count z));
      reduction_wait = λ z. all_wait_lem (was_waiting z) (asks.reduction z);
      reduction_trues = λ z. rw sum (omega (arith, size_new, was_true z, asks.lanes));
      plain_trues = λ z. rw sum (omega (arith, was_plain z, asks.plain z));
    }

    pub arrived_missing : Missing live (arrived_row old w c)
    arrived_missing h z = rw z at open'
