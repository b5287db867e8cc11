-- `fields::number_in` meets its contract. The invariant: v is the number in the bytes from i on that were read, and fits as many.
-- Assumes nothing.
use Prim.Native.Nat.{ℕ, suc, ◌+◌, ◌-◌, ◌*◌, ◌≤◌, ◌<◌}
use mathlib.Core.Path.{◌≡◌, ◌∙◌}
use mathlib.Core.List.{List}
use native.Mathlib.Omega.{arith}
use lib.ListN.{drop, get_or}
use Rattle.fields.specs.Num.{room, num}
use Rattle.fields.proofs.Num.{num_step, room_small}
use Rattle.fields.proofs.number_in.Goals as goal

-- a turn takes one byte more, below those that it has
module _ (s : List ℕ) (width i v b : ℕ) (pos : 0 < i) (le : i ≤ width) where
  turn : v ≡ num (width - i) (drop i s) → b ≡ get_or s (i - 1) 0 → v * 256 + b ≡ num (width - (i - 1)) (drop (i - 1) s)
  turn e f =
      let e₁ : width - (i - 1) ≡ suc (width - i) = omega arith in
      let e₂ : suc (i - 1) ≡ i = omega arith in
      rw (e₁, num_step (width - i) (i - 1) s, e₂, e, f)

  fits : v < room (width - i) → b < 256 → v * 256 + b < room (width - (i - 1))
  fits h k =
      let e : width - (i - 1) ≡ suc (width - i) = omega arith in
      rw e (omega arith)

again : (c : goal.After-from) → c.loop-i.v * 256 + c.from.result < room (c.args.width - (c.loop-i.i - 1))
again c = fits c.args.s.now c.args.width c.loop-i.i c.loop-i.v c.from.result (omega arith) (omega arith) (omega arith) (omega arith)

pub overflow_mul-v : goal.overflow_mul-v
overflow_mul-v c = omega (arith, room_small (suc (c.args.width - c.loop-i.i)) (omega arith))

pub overflow_add-v : goal.overflow_add-v
overflow_add-v c = omega (arith, again c, room_small (c.args.width - (c.loop-i.i - 1)) (omega arith))

pub loop-i-preserved : goal.loop-i-preserved
loop-i-preserved c =
    let a = c.args in
    let l = c.loop-i in
    (turn a.s.now a.width l.i l.v c.from.result (omega arith) (omega arith) l.invariant.0 (c.from.ensures ∙ c.byte.ensures), again c)
