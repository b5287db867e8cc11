-- Lines laid into a buffer.
-- Assumes nothing.
use Rattle.std.specs.Prelude.{◌≡◌, List, [], ◌∷◌, ℕ, ◌+◌, ◌≤◌, ◌<◌, length}
use Rattle.fields.specs.Num.{laid}
use Rattle.trace_text.specs.Text.{joined}

-- some lines laid one after the other from a place on, each where it fits
abbrev pub laid_lines : List ℕ → ℕ → List (List ℕ) → List ℕ
laid_lines out at [] = out
laid_lines out at (w ∷ ws) = laid_lines (laid out at w) (at + length w) ws

-- lines that all fit are laid as one text
abbrev pub LaidAsOne : Type 0
LaidAsOne = (out : List ℕ) (at : ℕ) (ws : List (List ℕ)) → at + length (joined ws) ≤ length out → laid_lines out at ws ≡ laid out at (joined ws)

-- from the first that doesn't fit on, nothing is laid
abbrev pub NoneAfter : Type 0
NoneAfter = (out : List ℕ) (at : ℕ) (w : List ℕ) (ws : List (List ℕ)) → length out < at + length w → laid_lines out at (w ∷ ws) ≡ out
