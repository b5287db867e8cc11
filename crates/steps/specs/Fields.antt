-- What a kind makes of fields that were read and of those that still stand in the bytes behind them.
-- Assumes nothing.
use Rattle.std.specs.Prelude.{ℕ, List, ◌++◌, length, get_or, drop}
use Rattle.fields.specs.Row.{decode}
use Rattle.steps.specs.declared.Op.{Op}
use Rattle.steps.specs.Step.{row, op_of}

-- the width of a kind's field, the warp being field 0; 0 where it has none
abbrev pub width : ℕ → ℕ → ℕ
width k i = get_or (row k) i 0

-- the op of a kind whose first fields are vs, and whose others stand in l one after the other
abbrev pub op_with : ℕ → List ℕ → List ℕ → Op
op_with k vs l = op_of k (vs ++ decode (drop (length vs) (row k)) l)
