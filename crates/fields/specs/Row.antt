-- Rows of little-endian numbers: a row of widths, and the numbers that stand at them.
-- Assumes nothing.
use Rattle.std.specs.Prelude.{List, [], ◌∷◌, ◌++◌, ℕ, ◌+◌, ◌<◌, drop, get_or}
use Rattle.fields.specs.Num.{room, num, bytes}

-- how many bytes a row of widths takes
abbrev pub total : List ℕ → ℕ
total [] = 0
total (w ∷ ws) = w + total ws

-- the numbers that stand at the start of a list, one after the other
abbrev pub decode : List ℕ → List ℕ → List ℕ
decode [] s = []
decode (w ∷ ws) s = num w s ∷ decode ws (drop w s)

-- as many numbers as widths, each at its width; a number that is missing is 0
abbrev pub encode : List ℕ → List ℕ → List ℕ
encode [] vs = []
encode (w ∷ ws) vs = bytes w (get_or vs 0 0) ++ encode ws (drop 1 vs)

-- there is a number for each width, and it fits
abbrev pub Fit : List ℕ → List ℕ → Type 0
Fit [] [] = Unit {0}
Fit [] (v ∷ vs) = ⊥
Fit (w ∷ ws) [] = ⊥
Fit (w ∷ ws) (v ∷ vs) = (v < room w) × Fit ws vs
