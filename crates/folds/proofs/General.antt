-- Laws of tests, of the first number of which a test holds, and of the changed places of a list.
-- Assumes nothing.
use mathlib.Core.Path.{◌≡◌, refl, sym, ap, ◌∙◌}
use mathlib.Core.Bool.{Bool, true, false, not, cond, ◌&&◌, ◌||◌}
use mathlib.Core.Logic.{⊎_elim}
use mathlib.Core.List.{List, [], ◌∷◌}
use Prim.Native.Nat.{ℕ, zero, suc, ◌+◌, ◌<◌, ◌≤◌}
use native.Mathlib.Nat.{not-suc-le-zero, le_of_suc-le-suc, eq-or-lt_of_le, add-zero, add-suc, suc-add}
use native.Mathlib.Omega.{arith}
use lib.Dec.{ltb}
use lib.ListN.{length, get_or, set}
use borrow.Author.Tests.{ltb-true, ltb-false}
use Rattle.folds.specs.Folds.{first, firsts}

-- ---- tests

-- a test holds or fails
pub by_test : {P : Type 0} (t : Bool) → (t ≡ true → P) → (t ≡ false → P) → P
by_test true p q = p refl
by_test false p q = q refl

-- of an implication that holds, the conclusion
pub then : (a b : Bool) → a || b ≡ true → a ≡ false → b ≡ true
then true b e h = cc
then false b e h = e

-- an implication holds where its conclusion follows
pub implied : (a b : Bool) → (a ≡ false → b ≡ true) → a || b ≡ true
implied true b h = refl
implied false b h = h refl

-- two tests hold together, and then each does
pub both : (a b : Bool) → a ≡ true → b ≡ true → a && b ≡ true
both true b p q = q
both false b p q = p

pub each : (a b : Bool) → a && b ≡ true → (a ≡ true) × (b ≡ true)
each true b e = (refl, e)
each false b e = (e, cc)

-- of two tests neither holds
pub neither : (a b : Bool) → a || b ≡ false → (a ≡ false) × (b ≡ false)
neither true b e = (e, cc)
neither false b e = (refl, e)

-- a test that cannot hold fails
pub untrue : (t : Bool) → (t ≡ true → ⊥) → t ≡ false
untrue true h = absurd (h refl)
untrue false h = refl

-- what fails is denied, and what holds is not
pub not_of : (t : Bool) → t ≡ false → not t ≡ true
not_of true e = sym e
not_of false e = refl

pub not_is : (t : Bool) → t ≡ true → not t ≡ false
not_is true e = refl
not_is false e = sym e

-- ---- the first number of which a test holds

-- it holds of the number that is found
pub first_holds : (p : ℕ → Bool) (n : ℕ) → first n p < n → p (first n p) ≡ true
unfolding first
first_holds p zero h = absurd (not-suc-le-zero h)
first_holds p (suc n) h = go (first_holds p n) (ltb (first n p) n) (p n) refl refl h
  where
    go : (first n p < n → p (first n p) ≡ true) → (a b : Bool) → ltb (first n p) n ≡ a → p n ≡ b
        → cond a (first n p) (cond b n (suc n)) < suc n → p (cond a (first n p) (cond b n (suc n))) ≡ true
    go ih true b e f l = ih (ltb-true (first n p) n e)
    go ih false true e f l = f
    go ih false false e f l = absurd (omega arith)

-- where none is found it holds of none
pub first_passes : (p : ℕ → Bool) (n i : ℕ) → i < n → n ≤ first n p → p i ≡ false
unfolding first
first_passes p zero i h l = absurd (not-suc-le-zero h)
first_passes p (suc n) i h l = go (first_passes p n i) (ltb (first n p) n) (p n) refl refl l
  where
    go : (i < n → n ≤ first n p → p i ≡ false) → (a b : Bool) → ltb (first n p) n ≡ a → p n ≡ b → suc n ≤ cond a (first n p) (cond b n (suc n)) → p i ≡ false
    go ih true b e f l = absurd (omega (arith, ltb-true (first n p) n e))
    go ih false true e f l = absurd (omega arith)
    go ih false false e f l =
        ⊎_elim (λ q. rw q f) (λ m. ih m (ltb-false (first n p) n e)) (eq-or-lt_of_le (le_of_suc-le-suc h))

-- ---- the first places of a list

-- a changed place
pub get_d_firsts : {A : Type 0} (f : ℕ → A → A) (l : List A) (n i v : ℕ) (d : A) → v < n → v < length l
    → get_or (firsts n i f l) v d ≡ f (i + v) (get_or l v d)
unfolding firsts
get_d_firsts f [] n i v d h m = absurd (not-suc-le-zero m)
get_d_firsts f (x ∷ l) zero i v d h m = absurd (not-suc-le-zero h)
get_d_firsts f (x ∷ l) (suc n) i zero d h m = rw add-zero
get_d_firsts f (x ∷ l) (suc n) i (suc v) d h m =
    get_d_firsts f l n (suc i) v d (le_of_suc-le-suc h) (le_of_suc-le-suc m) ∙ rw (suc-add, ← add-suc)

-- a place is the changed place, or the place as it was
pub firsts_either : {A : Type 0} (P : A → Type 0) (f : ℕ → A → A) (l : List A) (n i v : ℕ) (d : A) → P (get_or l v d) → P (f (i + v) (get_or l v d))
    → P (get_or (firsts n i f l) v d)
unfolding firsts
firsts_either P f l zero i v d p q = p
firsts_either P f [] (suc n) i v d p q = p
firsts_either P f (x ∷ l) (suc n) i zero d p q = rw add-zero at q
firsts_either P f (x ∷ l) (suc n) i (suc v) d p q = firsts_either P f l n (suc i) v d p (rw (suc-add, ← add-suc) q)

-- a place that the change leaves
pub firsts_leaves : {A : Type 0} (f : ℕ → A → A) (l : List A) (n i v : ℕ) (d : A) → ((x : A) → f (i + v) x ≡ x)
    → get_or (firsts n i f l) v d ≡ get_or l v d
firsts_leaves f l n i v d h = firsts_either (λ y. y ≡ get_or l v d) f l n i v d refl (h (get_or l v d))

-- ---- a stored place

-- a place after a store is what was stored there, or the place as it was
pub set_either : {A : Type 0} (P : A → Type 0) (l : List A) (i v : ℕ) (x d : A) → P (get_or l v d) → (v ≡ i → P x) → P (get_or (set l i x) v d)
set_either P [] i v x d p q = p
set_either P (y ∷ l) zero zero x d p q = q refl
set_either P (y ∷ l) zero (suc v) x d p q = p
set_either P (y ∷ l) (suc i) zero x d p q = p
set_either P (y ∷ l) (suc i) (suc v) x d p q = set_either P l i v x d p (λ e. q (ap suc e))
