-- The lowest line of a table, of a table whose numbers go up, and of two tables joined.
-- Assumes nothing.
use mathlib.Core.Path.{◌≡◌, refl, sym, ◌∙◌}
use mathlib.Core.Bool.{Bool, true, false, cond, and-false}
use mathlib.Core.Logic.{⊎_elim}
use mathlib.Core.List.{List, [], ◌∷◌, ◌++◌}
use Prim.Native.Nat.{ℕ, ◌<◌, ◌≤◌, zero-le}
use native.Mathlib.Nat.{eq-or-lt_of_le, le_of_lt, le_antisymm, le_of_suc-le-suc, lt_of_not-le}
use native.Mathlib.Omega.{arith}
use lib.Dec.{ltb, eqb}
use borrow.Author.Tests.{ltb-true, eq-eqb, ne_eqb, eqb-true}
use Rattle.folds.specs.Folds.{Line, lowest}
use Rattle.folds.proofs.Folds.{and_left, and_right}
use Rattle.folds.specs.Lowest.{ascending, holds, numbered, Lowest, None, LowestGiven, NoneGiven, LowestJoined}

never : {A : Type 0} {b : Bool} → b ≡ true → b ≡ false → A
never p q = let z : ◌≡◌ {A = ℕ} 0 1 = cc in absurd (omega arith)

-- a table whose numbers are above k, taken apart
module _ (k : ℕ) (t : Bool) (n : ℕ) (rs : List Line) (h : ascending k ((t, n) ∷ rs) ≡ true) where
  first_above : k < n
  unfolding ascending
  first_above = ltb-true k n (and_left (ltb k n) _ h)

  rest_above : ascending n rs ≡ true
  unfolding ascending
  rest_above = and_right (ltb k n) (ascending n rs) h

-- no line holds whose number is not above k
none_under : (k : ℕ) (ls : List Line) → ascending k ls ≡ true → (m : ℕ) → m ≤ k → holds ls m ≡ false
unfolding holds
none_under k [] h m l = refl
none_under k (r ∷ rs) h m l =
    let a : k < r.1 = first_above k r.0 r.1 rs h in
    rw (ne_eqb r.1 m (λ e. omega arith), none_under r.1 rs (rest_above k r.0 r.1 rs h) m (omega arith))

-- a line that doesn't hold is passed
passed : (n : ℕ) (rs : List Line) (m : ℕ) → holds ((false, n) ∷ rs) m ≡ holds rs m
unfolding holds
passed n rs m = rw (and-false (eqb n m))

-- a number that is given is the lowest
given_line : (k : ℕ) (t : Bool) (n : ℕ) (rs : List Line) → ascending k ((t, n) ∷ rs) ≡ true → (0 < lowest rs → Lowest rs (lowest rs))
    → 0 < lowest ((t, n) ∷ rs) → Lowest ((t, n) ∷ rs) (lowest ((t, n) ∷ rs))
unfolding lowest holds
given_line k true n rs h f p = record {
  here = rw (eq-eqb n n refl);
  below = λ m l. rw (ne_eqb n m (λ e. omega arith), none_under n rs (rest_above k true n rs h) m (le_of_lt l));
}
given_line k false n rs h f p = record { here = passed n rs (lowest rs) ∙ (f p).here; below = λ m l. passed n rs m ∙ (f p).below m l }

given : (k : ℕ) (ls : List Line) → ascending k ls ≡ true → 0 < lowest ls → Lowest ls (lowest ls)
unfolding lowest
given k [] h p = absurd (omega arith)
given k (r ∷ rs) h p = given_line k r.0 r.1 rs h (given r.1 rs (rest_above k r.0 r.1 rs h)) p

-- where none is given, none holds
none_line : (k : ℕ) (t : Bool) (n : ℕ) (rs : List Line) → ascending k ((t, n) ∷ rs) ≡ true → (lowest rs ≡ 0 → None rs)
    → lowest ((t, n) ∷ rs) ≡ 0 → None ((t, n) ∷ rs)
unfolding lowest
none_line k true n rs h f e m = let a : k < n = first_above k true n rs h in absurd (omega arith)
none_line k false n rs h f e m = passed n rs m ∙ f e m

none_above : (k : ℕ) (ls : List Line) → ascending k ls ≡ true → lowest ls ≡ 0 → None ls
unfolding holds
none_above k [] h e = λ n. refl
none_above k (r ∷ rs) h e = none_line k r.0 r.1 rs h (none_above r.1 rs (rest_above k r.0 r.1 rs h)) e

-- two lowest numbers are the same
same_lowest : (ls : List Line) (m n : ℕ) → Lowest ls m → Lowest ls n → m ≡ n
same_lowest ls m n v w = le_antisymm (not_above n m w v) (not_above m n v w)
  where
    not_above : (m n : ℕ) → Lowest ls m → Lowest ls n → n ≤ m
    not_above m n v w = le_of_suc-le-suc (lt_of_not-le (λ l. never v.here (w.below m l)))

pub lowest_given : LowestGiven
lowest_given ls h n p = (
  λ e. rw e at (given 0 ls h (rw e p)),
  λ w. ⊎_elim (λ z. never w.here (none_above 0 ls h (sym z) n)) (λ q. same_lowest ls (lowest ls) n (given 0 ls h q) w) (eq-or-lt_of_le (zero-le {n = lowest ls})),
)

pub none_given : NoneGiven
none_given ls h = (
  none_above 0 ls h,
  λ f. ⊎_elim (λ z. sym z) (λ q. never (given 0 ls h q).here (f (lowest ls))) (eq-or-lt_of_le (zero-le {n = lowest ls})),
)

-- ---- line by line

module _ (t : Bool) (n : ℕ) (rs : List Line) where
  -- a first line that holds
  pub line_holds : t ≡ true → n ≡ lowest ((t, n) ∷ rs)
  unfolding lowest
  line_holds e = rw e

  -- and one that does not
  pub line_passed : t ≡ false → {m : ℕ} → m ≡ lowest rs → m ≡ lowest ((t, n) ∷ rs)
  unfolding lowest
  line_passed e h = rw e h

pub no_line : 0 ≡ lowest []
unfolding lowest
no_line = refl

-- ---- two tables joined

pub lowest_joined : LowestJoined
unfolding lowest
lowest_joined [] ys h = refl
lowest_joined (r ∷ rs) ys h = go r.0 (lowest_joined rs ys (and_right (ltb 0 r.1) (numbered rs) h))
  where
    go : (t : Bool) → lowest (rs ++ ys) ≡ cond (eqb (lowest rs) 0) (lowest ys) (lowest rs)
        → cond t r.1 (lowest (rs ++ ys)) ≡ cond (eqb (cond t r.1 (lowest rs)) 0) (lowest ys) (cond t r.1 (lowest rs))
    go true e =
        let p = ltb-true 0 r.1 (and_left (ltb 0 r.1) (numbered rs) h) in
        rw (ne_eqb r.1 0 (λ z. omega arith))
    go false e = e

module _ (xs ys : List Line) (h : numbered xs ≡ true) where
  -- a number of the first is given
  pub joined_first : {n : ℕ} → n ≡ lowest xs → (n ≡ 0 → ⊥) → n ≡ lowest (xs ++ ys)
  joined_first {n} e f = rw (lowest_joined xs ys h, ← e, ne_eqb n 0 f)

  -- where it gives none, that of the second is
  pub joined_rest : lowest xs ≡ 0 → lowest (xs ++ ys) ≡ lowest ys
  joined_rest e = rw (lowest_joined xs ys h, e)

  -- none is given: neither gives one
  pub joined_none : lowest (xs ++ ys) ≡ 0 → (lowest xs ≡ 0) × (lowest ys ≡ 0)
  joined_none e = go (eqb (lowest xs) 0) refl (sym (lowest_joined xs ys h) ∙ e)
    where
      go : (t : Bool) → eqb (lowest xs) 0 ≡ t → cond t (lowest ys) (lowest xs) ≡ 0 → (lowest xs ≡ 0) × (lowest ys ≡ 0)
      go true q z = (eqb-true (lowest xs) 0 q, z)
      go false q z = never (eq-eqb (lowest xs) 0 z) q
