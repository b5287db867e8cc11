-- A step on a sound row leaves a sound row, and a sound row's fields are within their widths.
-- Assumes nothing.
use Prim.Native.Nat.{ℕ, ◌+◌, ◌≤◌}
use mathlib.Core.Path.{◌≡◌, refl, ap}
use mathlib.Core.Bool.{Bool, true, false, not, cond, ◌&&◌, ◌||◌, or-true}
use native.Mathlib.Omega.{arith}
use borrow.Author.Tests.{eqb-false, ne_eqb, not-false}
use lib.Dec.{eqb}
use lib.IntN.{ℤ, pos, ◌+ℤ◌, ◌-ℤ◌}
use lib.ListN.{get_or}
use Rattle.object.specs.declared.Object.{Object}
use Rattle.object.specs.declared.Act.{Act}
use Rattle.object.specs.declared.Act.TheVariants.{Init, Inval, Arrive, Expect, Complete, Token, Parity}
use Rattle.object.specs.Row.{most, last_phase, outside, fresh, with_tx, arrives, told, both_zero, acted, next_phase, row_after, bad_init, bad_arrival, token_says, parity_says, lines}
use Rattle.object.specs.Soundness.{seen_sound, dead_sound, sound_row, KeepsSound, Widths, SoundFits}
use Rattle.object.proofs.Row.{count_below, inside_fits}
use Rattle.object.proofs.Steps.{accepted_as, passes}

-- ---- a live row's facts, and the test

record Live (o : Object) : Type 0 where
  pub live : o.live ≡ true
  pub some : 1 ≤ o.expected
  pub few : o.expected ≤ most
  pub pending : o.pending ≤ o.expected
  pub inside : outside o.tx ≡ false
  pub phase : o.phase ≤ last_phase
  pub first : seen_sound o ≡ true

sound_live : (o : Object) → sound_row o ≡ true → o.live ≡ true → Live o
sound_live o h l = record { live = l; some = grind arith; few = grind arith; pending = grind arith; inside = grind arith; phase = grind arith; first = grind arith }

live_sound_lem : (o : Object) → Live o → sound_row o ≡ true
live_sound_lem o h = grind (arith, h)

-- ---- what a step leaves of a live row

-- the last phase aside, a phase that ends keeps a live row sound
settled : (b : Bool) (r : Object) → Live r → b && eqb r.phase last_phase ≡ false → sound_row (cond b (next_phase r) r) ≡ true
settled false r h l = live_sound_lem r h
settled true r h l =
    live_sound_lem (next_phase r)
    (record {
      live = h.live;
      some = h.some;
      few = h.few;
      pending = omega arith;
      inside = h.inside;
      phase = up (eqb-false r.phase last_phase l);
      first = ap (λ (b : Bool). not b || false) (ne_eqb (r.phase + 1) 0 (omega arith));
    })
  where
    up : (r.phase ≡ last_phase → ⊥) → r.phase + 1 ≤ last_phase
    up f = omega arith

module _ (o : Object) (k : Live o) where
  at_tx : (z : ℤ) → outside z ≡ false → Live (with_tx o z)
  at_tx z t = record { live = k.live; some = k.some; few = k.few; pending = k.pending; inside = t; phase = k.phase; first = k.first }

  at_told : (b : Bool) → Live (told o b)
  at_told true = record { live = k.live; some = k.some; few = k.few; pending = k.pending; inside = k.inside; phase = k.phase; first = or-true (not (eqb o.phase 0)) }
  at_told false = k

  at_arrival : (n : ℕ) (drop : Bool) → bad_arrival o n drop ≡ false → Live (arrives o n drop)
  at_arrival n true b =
      let q = count_below o n b in
      record { live = k.live; some = omega arith; few = omega arith; pending = omega arith; inside = k.inside; phase = k.phase; first = k.first }
  at_arrival n false b = record { live = k.live; some = k.some; few = k.few; pending = omega arith; inside = k.inside; phase = k.phase; first = k.first }

at_init : (n : ℕ) → bad_init n ≡ false → Live (fresh n)
at_init n b = record { live = refl; some = grind arith; few = grind arith; pending = omega arith; inside = refl; phase = omega arith; first = refl }

-- ---- every step

-- where no line holds: a sound row that is live, and the row after it
module _ (o : Object) (slot : ℕ) (h : sound_row o ≡ true) where
  alive : not o.live ≡ false → Live o
  alive l = sound_live o h (not-false o.live l)

  after : (a : Act) → ((i : ℕ) → (get_or (lines o slot a) i (false, 0)).0 ≡ false) → sound_row (row_after o a) ≡ true
  after (Init n) p = live_sound_lem (fresh n) (at_init n (p 2))
  after Inval p = refl
  after (Arrive n drop x quiet) p =
      let r = acted o (Arrive n drop x quiet) in
      settled (both_zero r) r (at_arrival (with_tx o (o.tx +ℤ pos x)) (at_tx o (alive (p 0)) (o.tx +ℤ pos x) (p 3)) n drop (p 2)) (p 6)
  after (Expect x) p = live_sound_lem _ (at_tx o (alive (p 0)) (o.tx +ℤ pos x) (p 3))
  after (Complete x) p =
      let r = acted o (Complete x) in
      settled (both_zero r) r (at_tx o (alive (p 0)) (o.tx -ℤ pos x) (p 3)) (p 6)
  after (Token t) p = live_sound_lem _ (at_told o (alive (p 0)) (token_says o t))
  after (Parity q) p = live_sound_lem _ (at_told o (alive (p 0)) (parity_says o q))

pub keeps_sound : KeepsSound
keeps_sound o slot a r h e =
    let k = accepted_as o slot a r e in
    rw k.1 (after o slot h a (passes o slot a k.0))

-- ---- widths

dead_fits : (o : Object) → dead_sound o ≡ true → Widths o
dead_fits o h = record { expected = grind arith; pending = grind arith; tx = grind arith; phase = grind arith }

live_fits : (o : Object) → Live o → Widths o
live_fits o k = record { expected = omega arith; pending = omega arith; tx = inside_fits o.tx k.inside; phase = omega arith }

pub sound_fits : SoundFits
sound_fits o h = by o.live refl
  where
    by : (b : Bool) → o.live ≡ b → Widths o
    by true l = live_fits o (sound_live o h l)
    by false l = dead_fits o (rw l at h)
