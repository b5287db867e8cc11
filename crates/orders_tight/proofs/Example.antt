-- The worked instance, computed.
-- Assumes nothing.
use mathlib.Core.Path.{refl}
use mathlib.Core.List.Perm
use mathlib.Core.List.Permᴰ
use native.Mathlib.Omega.{arith}
use Rattle.folds.specs.Folds.{all, every, lowest}
use Rattle.block.specs.Tables.{sound_block}
use Rattle.tables.specs.Refusals.{refusal}
use Rattle.tables.specs.Effect.{taken}
use Rattle.orders.specs.Due.{Due}
use Rattle.orders_tight.specs.Example.{started, one, Example}

due : Due started.tables 16 one
unfolding all every lowest sound_block refusal taken
due = record {
  sound = refl;
  multiple = refl;
  within = omega arith;
  live = refl;
  pending = omega arith;
  seen = refl;
  phase = λ e. omega arith;
  on = refl;
  kinds = refl;
  sizes = refl;
  warps = refl;
  counts = refl;
  balance = refl;
  drops = omega arith;
  expectations = omega arith;
  completions = omega arith;
}

pub example : Example
unfolding all every lowest sound_block refusal taken
example = record {
  due = due;
  reordered = Perm.symm ∣ Permᴰ.reverse one ∣₁;
  answers = refl;
  other_answers = refl;
  end = refl;
  other_end = refl;
  token_no = refl;
  token_yes = refl;
  parity_no = refl;
  parity_yes = refl;
}
