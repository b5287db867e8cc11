-- A test's digit, tests over the numbers below a bound and over lists, and the lowest line of a numbered table that holds.
-- Assumes nothing.
use Rattle.std.specs.Prelude.{Bool, true, false, cond, ◌&&◌, List, [], ◌∷◌, ℕ, zero, suc, ltb}

-- 1 for a test that holds, 0 for one that does not
abbrev pub digit : Bool → ℕ
digit true = 1
digit false = 0

-- the test holds of every number below n
unfoldable pub all : ℕ → (ℕ → Bool) → Bool
all zero p = true
all (suc n) p = all n p && p n

-- the first number below n of which the test holds, and n if there is none
unfoldable pub first : ℕ → (ℕ → Bool) → ℕ
first zero p = 0
first (suc n) p = cond (ltb (first n p) n) (first n p) (cond (p n) n (suc n))

-- every test of a list holds, after those whose answer is a
abbrev pub every_from : Bool → List Bool → Bool
every_from a [] = a
every_from a (t ∷ ts) = every_from (a && t) ts

-- every test of a list holds
unfoldable pub every : List Bool → Bool
every [] = true
every (t ∷ ts) = every_from t ts

-- a line of a table: a test, and the number that is given where it holds
abbrev pub Line : Type 0
Line = Bool × ℕ

-- the number beside the first test that holds, and 0 if none does
unfoldable pub lowest : List Line → ℕ
lowest [] = 0
lowest (r ∷ rs) = cond r.0 r.1 (lowest rs)

-- the list with f, of a place and what stands there, at each of its first n places, which are counted from i
unfoldable pub firsts : {A : Type 0} → ℕ → ℕ → (ℕ → A → A) → List A → List A
firsts zero i f l = l
firsts (suc n) i f [] = []
firsts (suc n) i f (x ∷ l) = f i x ∷ firsts n (suc i) f l
