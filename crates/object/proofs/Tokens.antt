-- A token comes apart.
-- Assumes nothing.
use mathlib.Core.Path.{◌≡◌, ap, ◌∙◌}
use Prim.Native.Nat.{ℕ, ◌+◌, ◌*◌, ◌%◌, ◌/◌}
use native.Mathlib.Omega.{arith}
use lib.Pow.{high, low}
use Rattle.object.specs.declared.Object.{Object}
use Rattle.object.specs.Tokens.{slots, slot_unit, phase_unit, token, TakenApart}

module _ (o : Object) (slot : ℕ) where
  over_slot : token o slot ≡ o.phase * phase_unit + (slot * slot_unit + o.pending)
  over_slot = omega arith

  over_pending : token o slot ≡ (o.phase * slots + slot) * slot_unit + o.pending
  over_pending = omega arith

pub taken_apart : TakenApart
taken_apart o slot s p = record {
  phase = ap (λ (t : ℕ). t / phase_unit) (over_slot o slot) ∙ high o.phase 26 (omega arith);
  place = ap (λ (t : ℕ). t / slot_unit % slots) (over_pending o slot) ∙ ap (λ (t : ℕ). t % slots) (high (o.phase * slots + slot) 20 p) ∙ low o.phase 6 s;
  pending = ap (λ (t : ℕ). t % slot_unit) (over_pending o slot) ∙ low (o.phase * slots + slot) 20 p;
  small = λ h. omega arith;
}
