-- A table of which no line holds gives no number.
-- Assumes nothing.
use mathlib.Core.Path.{◌≡◌, refl}
use mathlib.Core.Bool.{false}
use mathlib.Core.List.{List, [], ◌∷◌}
use Rattle.folds.specs.Folds.{Line, lowest}

-- no line holds
abbrev pub Clear : List Line → Type 0
Clear [] = Unit {0}
Clear (r ∷ rs) = (r.0 ≡ false) × Clear rs

pub clear_none : (rs : List Line) → Clear rs → lowest rs ≡ 0
unfolding lowest
clear_none [] c = refl
clear_none (r ∷ rs) c = rw c.0 (clear_none rs c.1)
