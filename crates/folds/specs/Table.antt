-- A rule of a table, as one test over all of its entries.
-- Assumes nothing.
use Rattle.std.specs.Prelude.{Bool, true, false, List, [], ◌∷◌, ℕ, suc}

-- both tests hold, the second looked at only where the first does
abbrev pub both : Bool → Bool → Bool
both true b = b
both false b = false

-- the test holds of each entry of the list and its place, counted from i
abbrev pub every_entry : (ℕ → ℕ → Bool) → ℕ → List ℕ → Bool
every_entry f i [] = true
every_entry f i (x ∷ xs) = both (f i x) (every_entry f (suc i) xs)
