-- What the lowest line of a table is ("Where several apply, the lowest is given"), over any table whose numbers go up.
-- Assumes nothing.
use Rattle.std.specs.Prelude.{◌≡◌, ◌↔◌, Bool, true, false, cond, ◌&&◌, ◌||◌, List, [], ◌∷◌, ◌++◌, ℕ, ◌<◌, ltb, eqb}
use Rattle.folds.specs.Folds.{Line, lowest}

-- the numbers go up, and the first is above k
unfoldable pub ascending : ℕ → List Line → Bool
ascending k [] = true
ascending k (r ∷ rs) = ltb k r.1 && ascending r.1 rs

-- a line with the number n holds
unfoldable pub holds : List Line → ℕ → Bool
holds [] n = false
holds (r ∷ rs) n = eqb r.1 n && r.0 || holds rs n

-- the numbers of a table are not 0
abbrev pub numbered : List Line → Bool
numbered [] = true
numbered (r ∷ rs) = ltb 0 r.1 && numbered rs

-- line n holds, and no line of a lower number
pub record Lowest (ls : List Line) (n : ℕ) : Type 0 where
  pub here : holds ls n ≡ true
  pub below : (m : ℕ) → m < n → holds ls m ≡ false

-- no line holds
abbrev pub None : List Line → Type 0
None ls = (n : ℕ) → holds ls n ≡ false

-- a number is given exactly when its line holds and no lower one does
abbrev pub LowestGiven : Type 0
LowestGiven = (ls : List Line) → ascending 0 ls ≡ true → (n : ℕ) → 0 < n → (lowest ls ≡ n) ↔ Lowest ls n

-- none is given exactly when no line holds
abbrev pub NoneGiven : Type 0
NoneGiven = (ls : List Line) → ascending 0 ls ≡ true → (lowest ls ≡ 0) ↔ None ls

-- the lowest line of two tables joined: that of the first if one holds there, else that of the second
abbrev pub LowestJoined : Type 0
LowestJoined = (xs ys : List Line) → numbered xs ≡ true → lowest (xs ++ ys) ≡ cond (eqb (lowest xs) 0) (lowest ys) (lowest xs)
