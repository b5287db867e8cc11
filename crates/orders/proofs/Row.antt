-- One row with what is left of its phase, as four sums: what a step on it does.
-- Assumes nothing.
use mathlib.Core.Path.{◌≡◌, refl, sym, ap, ◌∙◌}
use mathlib.Core.Bool.{Bool, true, false, not, cond, ◌&&◌, or-true, and-false, false≢true}
use Prim.Native.Nat.{ℕ, ◌+◌, ◌-◌, ◌≤◌, ◌<◌}
use native.Mathlib.Omega.{arith}
use borrow.Author.Tests.{eq-eqb, ne_eqb, eqb-true, le-ltb, le-leb, lt-leb, leb-true}
use lib.Dec.{eqb}
use lib.IntN.{pos, ◌+ℤ◌}
use Rattle.folds.proofs.Cases.{◌&◌}
use Rattle.object.specs.declared.Object.{Object}
use Rattle.object.specs.declared.Act.{Act}
use Rattle.object.specs.declared.Act.TheVariants.{Init, Inval, Arrive, Expect, Complete, Token, Parity}
use Rattle.object.specs.Row.{most, last_phase, is_zero, outside, both_zero, next_phase, acted, ends, bad_arrival, lines}
use Rattle.object.specs.Soundness.{sound_row}
use Rattle.orders.specs.Due.{Share, nothing, share_of, is_part, some_of}
use Rattle.orders.specs.Finishes.{finished}
use Rattle.orders.proofs.Clear.{Clear}
use Rattle.orders.proofs.Balance.{balanced_inside, balanced_zero, balanced_above, balanced_raised, balanced_lowered}

-- the two kinds of steps: an arrival or a drop, with its expectation, and a completion
pub data Part : Act → Type 0 where
  arrival : (n : ℕ) (drop : Bool) (x : ℕ) → Part (Arrive n drop x false)
  completion : (x : ℕ) → Part (Complete x)

pub part : (y : Act) → is_part y ≡ true → Part y
part (Init n) h = absurd (false≢true h)
part Inval h = absurd (false≢true h)
part (Arrive n drop x true) h = absurd (false≢true h)
part (Arrive n drop x false) h = arrival n drop x
part (Expect x) h = absurd (false≢true h)
part (Complete x) h = completion x
part (Token t) h = absurd (false≢true h)
part (Parity p) h = absurd (false≢true h)

-- two shares together
abbrev pub plus : Share → Share → Share
plus p r = record { count = p.count + r.count; drop = p.drop + r.drop; expect = p.expect + r.expect; complete = p.complete + r.complete }

-- a live row to which the share r is still to come
pub record Left (o : Object) (r : Share) : Type 0 where
  pub live : o.live ≡ true
  pub seen : o.seen ≡ true
  pub few : o.expected ≤ most
  pub room : o.pending ≤ o.expected
  pub phase : o.phase < last_phase
  pub counts : r.count ≡ o.pending
  pub drops : r.drop < o.expected
  pub balance : o.tx +ℤ pos r.expect ≡ pos r.complete
  pub expects : r.expect ≤ most
  pub completes : r.complete ≤ most

-- the transaction count is in its range
pub inside : {r : Share} (o : Object) → Left o r → outside o.tx ≡ false
inside {r} o h = balanced_inside o.tx r.expect r.complete h.balance h.expects h.completes

-- the row is sound
pub left_sound : {r : Share} (o : Object) → Left o r → sound_row o ≡ true
left_sound {r} o h =
    simp (
      h.live,
      h.seen,
      le-leb 1 o.expected (omega arith),
      le-leb o.expected most h.few,
      le-leb o.pending o.expected h.room,
      inside o h,
      le-leb o.phase last_phase (omega arith),
      or-true,
    )

-- it is not in its last phase
not_last : {r : Share} {o : Object} → Left o r → (b : Bool) → b && eqb o.phase last_phase ≡ false
not_last {r} {o} h b = rw (ne_eqb o.phase last_phase (omega arith)) (and-false b)

-- ---- one step

-- a count that is due is good
good_count : (o : Object) (n c d : ℕ) (drop : Bool) → 1 ≤ n → n + c ≡ o.pending → cond drop n 0 + d < o.expected → bad_arrival o n drop ≡ false
good_count o n c d true h q l = simp (ne_eqb n 0 (omega arith), le-ltb o.pending n (omega arith), lt-leb o.expected n (omega arith))
good_count o n c d false h q l = simp (ne_eqb n 0 (omega arith), le-ltb o.pending n (omega arith))

module _ (o : Object) (r : Share) where
  -- what is due after an arrival, a drop or a completion is due on the row that it leaves
  pub stays : {y : Act} → Part y → some_of y ≡ true → Left o (plus (share_of y) r) → Left (acted o y) r
  stays (arrival n drop x) s h = record {
    live = h.live;
    seen = h.seen;
    few = fewer drop;
    room = below drop h.drops;
    phase = h.phase;
    counts = omega arith;
    drops = left drop h.drops;
    balance = balanced_raised o.tx x r.expect r.complete h.balance;
    expects = omega arith;
    completes = omega arith;
  }
    where
      fewer : (drop : Bool) → cond drop (o.expected - n) o.expected ≤ most
      fewer true = omega arith
      fewer false = omega arith

      below : (drop : Bool) → cond drop n 0 + r.drop < o.expected → o.pending - n ≤ cond drop (o.expected - n) o.expected
      below true d = omega arith
      below false d = omega arith

      left : (drop : Bool) → cond drop n 0 + r.drop < o.expected → r.drop < cond drop (o.expected - n) o.expected
      left true d = omega arith
      left false d = omega arith
  stays (completion x) s h = record {
    live = h.live;
    seen = h.seen;
    few = h.few;
    room = h.room;
    phase = h.phase;
    counts = omega arith;
    drops = omega arith;
    balance = balanced_lowered o.tx x r.expect r.complete h.balance;
    expects = omega arith;
    completes = omega arith;
  }

  -- no line refuses it
  pub passes : (slot : ℕ) {y : Act} → Part y → some_of y ≡ true → Left o (plus (share_of y) r) → Clear (lines o slot y)
  passes slot (arrival n drop x) s h =
      ap not h.live
      & refl
      & good_count o n r.count r.drop drop (omega (arith, leb-true)) h.counts h.drops
      & inside _ (stays (arrival n drop x) s h)
      & ap not h.seen
      & refl
      & not_last h (ends o (Arrive n drop x false))
      & refl
      & refl
      & tt
  passes slot (completion x) s h =
      ap not h.live
      & refl
      & refl
      & inside _ (stays (completion x) s h)
      & refl
      & refl
      & not_last h (ends o (Complete x))
      & refl
      & refl
      & tt

-- it completes the phase where pending and transactions are both 0 after it
pub ends_so : (o : Object) {y : Act} → Part y → ends o y ≡ both_zero (acted o y)
ends_so o (arrival n drop x) = refl
ends_so o (completion x) = refl

pub phase_acted : (o : Object) {y : Act} → Part y → (acted o y).phase ≡ o.phase
phase_acted o (arrival n drop x) = refl
phase_acted o (completion x) = refl

-- ---- where the phase goes on, and where it ends

-- while an arrival or a completion is still to come, and no expectation without an arrival, the two are not both 0
pub goes_on : {r : Share} (o : Object) → Left o r → (r.count ≡ 0 → r.expect ≡ 0) → 0 < r.count + r.complete → both_zero o ≡ false
goes_on {r} o h f l = by (eqb o.pending 0) refl
  where
    above : r.count ≡ 0 → is_zero o.tx ≡ false
    above z = balanced_above o.tx r.complete (ap (λ (m : ℕ). o.tx +ℤ pos m) (sym (f z)) ∙ h.balance) (omega arith)

    by : (b : Bool) → eqb o.pending 0 ≡ b → eqb o.pending 0 && is_zero o.tx ≡ false
    by true p = rw (p, above (h.counts ∙ eqb-true o.pending 0 p))
    by false p = rw p

module _ (o : Object) (h : Left o nothing) where
  -- with nothing to come they are
  pub ends_now : both_zero o ≡ true
  ends_now = rw (eq-eqb o.pending 0 (sym h.counts), balanced_zero o.tx h.balance)

  pub next_is : next_phase o ≡ finished o 0
  next_is = λ i. record {
    live = h.live i;
    expected = whole o.expected i;
    pending = whole o.expected i;
    tx = balanced_zero o.tx h.balance i;
    phase = o.phase + 1;
    seen = false;
  }
    where
      whole : (n : ℕ) → n ≡ n - 0
      whole n = omega arith

-- a step's drops are among those of the whole phase
pub finished_acted : (o : Object) (n : ℕ) {y : Act} → Part y → finished (acted o y) n ≡ finished o ((share_of y).drop + n)
finished_acted o n p = λ i. record { live = true; expected = less p i; pending = less p i; tx = pos 0; phase = phase_acted o p i + 1; seen = false }
  where
    less : {y : Act} → Part y → (acted o y).expected - n ≡ o.expected - ((share_of y).drop + n)
    less (arrival m true x) = omega arith
    less (arrival m false x) = omega arith
    less (completion x) = omega arith

pub finished_sound : {r : Share} (o : Object) → Left o r → sound_row (finished o r.drop) ≡ true
finished_sound {r} o h =
    simp (
      le-leb 1 (o.expected - r.drop) (omega arith),
      le-leb (o.expected - r.drop) most (omega arith),
      le-leb (o.expected - r.drop) (o.expected - r.drop) (omega arith),
      le-leb (o.phase + 1) last_phase (omega arith),
      ne_eqb (o.phase + 1) 0 (omega arith),
    )
