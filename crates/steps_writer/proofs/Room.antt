-- Whether a step has room: what the writer's own tests say of it.
-- Assumes nothing.
use mathlib.Core.Path.{◌≡◌, sym, ap, ◌∙◌}
use mathlib.Core.List.{List}
use Prim.Native.Nat.{ℕ, suc, ◌+◌, ◌<◌}
use native.Mathlib.Omega.{arith}
use lib.ListN.{length}
use Rattle.std.specs.Prelude.{Err}
use Rattle.refusals.specs.declared.Refusal.TheVariants.{TooFewBytes}
use Rattle.steps.specs.declared.Step.{Step}
use Rattle.steps.specs.Step.{length_of, kind_of, bytes_of, write_at, written}
use Rattle.steps.proofs.Writing.{size, no_room_lem}

-- the length that was looked up is the step's
pub size_is : (s : Step) (kind n : ℕ) → kind ≡ kind_of s → n ≡ length_of kind → length (bytes_of s) ≡ suc n
size_is s kind n ek en = size s ∙ ap suc (sym (en ∙ ap length_of ek))

-- a body of n bytes that ends behind the last byte has no room
pub short : (s : Step) (kind n : ℕ) (out : List ℕ) (at : ℕ) → kind ≡ kind_of s → n ≡ length_of kind → length out < at + 1 + n
    → (Err TooFewBytes ≡ write_at s out at) × (out ≡ written s out at)
short s kind n out at ek en h = no_room_lem s out at (omega (arith, size_is s kind n ek en))
