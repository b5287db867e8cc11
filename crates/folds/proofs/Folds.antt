-- Laws of the folds.
-- Assumes nothing.
use mathlib.Core.Path.{◌≡◌, refl, ap, ap₂, ◌∙◌, sym, subst}
use mathlib.Core.Bool.{Bool, true, false, cond, ◌&&◌, beq, and-false}
use mathlib.Core.Logic.{⊎_elim}
use mathlib.Core.List.{List, [], ◌∷◌}
use Prim.Native.Nat.{ℕ, zero, suc, ◌+◌, ◌<◌, ◌≤◌}
use native.Mathlib.Nat.{not-suc-le-zero, le_of_suc-le-suc, eq-or-lt_of_le, le_antisymm, le_refl, add-zero, zero-add, add-suc, suc-add}
use native.Mathlib.Numerals.{add-one}
use native.Mathlib.Omega.{arith}
use lib.Dec.{ltb}
use lib.ListN.{length, get_or, set}
use borrow.Author.Tests.{lt-ltb, le-ltb, ltb-true}
use Rattle.folds.specs.Lowest.{numbered}
use Rattle.folds.specs.Folds.{all, first, every, every_from, Line, lowest, firsts}

pub and_left : (a b : Bool) → a && b ≡ true → a ≡ true
and_left true b e = refl
and_left false b e = e

pub and_right : (a b : Bool) → a && b ≡ true → b ≡ true
and_right true b e = e
and_right false b e = cc

-- what two tests that are alike say
pub alike : (a b : Bool) → beq a b ≡ true → a ≡ b
alike true true e = refl
alike true false e = sym e
alike false true e = e
alike false false e = refl

-- and back
pub alike_of : (a b : Bool) → a ≡ b → beq a b ≡ true
alike_of true true e = refl
alike_of true false e = sym e
alike_of false true e = e
alike_of false false e = refl

-- ---- a test of every number below a bound

-- none are below 0
pub all_none : (p : ℕ → Bool) → all 0 p ≡ true
unfolding all
all_none p = refl

-- one test more
pub all_step : (p : ℕ → Bool) (i : ℕ) → all (i + 1) p ≡ all i p && p i
unfolding all
all_step p i = rw add-one

-- one more holds
pub all_more : (p : ℕ → Bool) (i : ℕ) → all i p ≡ true → p i ≡ true → all (i + 1) p ≡ true
all_more p i h e = all_step p i ∙ rw (h, e)

-- one fails, so not all hold
pub all_fails : (p : ℕ → Bool) (n i : ℕ) → i < n → p i ≡ false → all n p ≡ false
unfolding all
all_fails p zero i h e = absurd (not-suc-le-zero h)
all_fails p (suc n) i h e =
    ⊎_elim (λ q. rw (← q, e) (and-false (all i p))) (λ l. rw (all_fails p n i l e)) (eq-or-lt_of_le (le_of_suc-le-suc h))

-- a loop that counts to n has passed them all
pub all_end : (p : ℕ → Bool) (n i : ℕ) → i ≤ n → n ≤ i → all i p ≡ true → all n p ≡ true
all_end p n i a b h = rw (le_antisymm b a) h

-- a test of all holds at each
pub all_at : (p : ℕ → Bool) (n i : ℕ) → i < n → all n p ≡ true → p i ≡ true
unfolding all
all_at p zero i h e = absurd (not-suc-le-zero h)
all_at p (suc n) i h e =
    ⊎_elim (λ q. rw q (and_right (all n p) (p n) e)) (λ l. all_at p n i l (and_left (all n p) (p n) e)) (eq-or-lt_of_le (le_of_suc-le-suc h))

-- a test that holds at each number holds of all
pub all_of : (p : ℕ → Bool) (n : ℕ) → ((i : ℕ) → i < n → p i ≡ true) → all n p ≡ true
unfolding all
all_of p zero h = refl
all_of p (suc n) h = rw (all_of p n (λ i l. h i (omega arith)), h n (omega arith))

-- ---- the first number of which a test holds

-- none below k, and none at k
pub first_none : (p : ℕ → Bool) (k : ℕ) → first k p ≡ k → p k ≡ false → first (k + 1) p ≡ k + 1
unfolding first
first_none p k h e = rw (add-one, h, le-ltb k k (le_refl k), e)

first_after : (p : ℕ → Bool) (k n : ℕ) → k < n → first n p ≡ k → first (suc n) p ≡ k
unfolding first
first_after p k n h e = rw (e, lt-ltb k n h)

first_here : (p : ℕ → Bool) (k : ℕ) → first k p ≡ k → p k ≡ true → first (suc k) p ≡ k
unfolding first
first_here p k h e = rw (h, le-ltb k k (le_refl k), e)

-- none below k, and one at k: it is the first of any more
pub first_found : (p : ℕ → Bool) (k n : ℕ) → k < n → first k p ≡ k → p k ≡ true → first n p ≡ k
first_found p k zero h f e = absurd (not-suc-le-zero h)
first_found p k (suc n) h f e =
    ⊎_elim (λ q. rw (← q) (first_here p k f e)) (λ l. first_after p k n l (first_found p k n l f e)) (eq-or-lt_of_le (le_of_suc-le-suc h))

pub first_end : (p : ℕ → Bool) (k n : ℕ) → k ≤ n → n ≤ k → first k p ≡ k → k ≡ first n p
first_end p k n a b h = rw (le_antisymm b a) (sym h)

-- ---- every test of a list

from_first : (a : Bool) (ts : List Bool) → every_from a ts ≡ true → a ≡ true
from_first a [] e = e
from_first a (t ∷ ts) e = and_left a t (from_first (a && t) ts e)

from_at : (a : Bool) (ts : List Bool) → every_from a ts ≡ true → (i : ℕ) → get_or ts i true ≡ true
from_at a [] e i = refl
from_at a (t ∷ ts) e zero = and_right a t (from_first (a && t) ts e)
from_at a (t ∷ ts) e (suc i) = from_at (a && t) ts e i

-- each test of a list that holds
pub every_at : (ts : List Bool) → every ts ≡ true → (i : ℕ) → get_or ts i true ≡ true
unfolding every
every_at [] e i = refl
every_at (t ∷ ts) e zero = from_first t ts e
every_at (t ∷ ts) e (suc i) = from_at t ts e i

-- one test of a list fails, so not every one holds
pub every_fails : (ts : List Bool) (i : ℕ) → get_or ts i true ≡ false → false ≡ every ts
every_fails ts i e = go (every ts) refl
  where
    go : (t : Bool) → every ts ≡ t → false ≡ t
    go true q = sym e ∙ every_at ts q i
    go false q = refl

-- ---- the lowest line that holds

passed : (t : Bool) (n r : ℕ) → ltb 0 n ≡ true → cond t n r ≡ 0 → (t ≡ false) × (r ≡ 0)
passed true n r h e = absurd (omega (arith, ltb-true 0 n h))
passed false n r h e = (refl, e)

-- where no number is given, no line holds
pub none_at : (rs : List Line) → numbered rs ≡ true → lowest rs ≡ 0 → (i : ℕ) → (get_or rs i (false, 0)).0 ≡ false
unfolding lowest
none_at [] h e i = refl
none_at (r ∷ rs) h e zero = (passed r.0 r.1 (lowest rs) (and_left (ltb 0 r.1) (numbered rs) h) e).0
none_at (r ∷ rs) h e (suc i) =
    none_at rs (and_right (ltb 0 r.1) (numbered rs) h) (passed r.0 r.1 (lowest rs) (and_left (ltb 0 r.1) (numbered rs) h) e).1 i

-- ---- the first places of a list

firsts_suc : {A : Type 0} (f : ℕ → A → A) (l : List A) (n i : ℕ) (d : A) → n < length l
    → set (firsts n i f l) n (f (i + n) (get_or l n d)) ≡ firsts (suc n) i f l
unfolding firsts
firsts_suc {A} f [] n i d h = absurd (not-suc-le-zero h)
firsts_suc {A} f (x ∷ l) zero i d h = rw add-zero
firsts_suc {A} f (x ∷ l) (suc n) i d h =
    rw (add-suc, ← suc-add) (ap (λ (t : List A). f i x ∷ t) (firsts_suc f l n (suc i) d (le_of_suc-le-suc h)))

-- one place more is changed
pub firsts_more : {A : Type 0} (f : ℕ → A → A) (l : List A) (n : ℕ) (d : A) → n < length l
    → set (firsts n 0 f l) n (f n (get_or l n d)) ≡ firsts (n + 1) 0 f l
firsts_more f l n d h =
    rw add-one
    (subst (λ (k : ℕ). set (firsts n 0 f l) n (f k (get_or l n d)) ≡ firsts (suc n) 0 f l) (zero-add n) (firsts_suc f l n 0 d h))

-- none is changed
pub firsts_none : {A : Type 0} (f : ℕ → A → A) (l : List A) (i : ℕ) → firsts 0 i f l ≡ l
unfolding firsts
firsts_none f l i = refl

-- what changes nothing leaves the list
pub firsts_same : {A : Type 0} (f : ℕ → A → A) (l : List A) (n i : ℕ) → ((k : ℕ) (x : A) → i ≤ k → f k x ≡ x) → firsts n i f l ≡ l
unfolding firsts
firsts_same f l zero i h = refl
firsts_same f [] (suc n) i h = refl
firsts_same {A} f (x ∷ l) (suc n) i h = ap₂ (λ (y : A) (t : List A). y ∷ t) (h i x (omega arith)) (firsts_same f l n (suc i) (λ k y le. h k y (omega arith)))

-- the length stays
pub length_firsts : {A : Type 0} (f : ℕ → A → A) (l : List A) (n i : ℕ) → length (firsts n i f l) ≡ length l
unfolding firsts
length_firsts f l zero i = refl
length_firsts f [] (suc n) i = refl
length_firsts f (x ∷ l) (suc n) i = ap suc (length_firsts f l n (suc i))

-- the place after the first n is as it was
firsts_at : {A : Type 0} (f : ℕ → A → A) (l : List A) (n i : ℕ) (d : A) → get_or (firsts n i f l) n d ≡ get_or l n d
unfolding firsts
firsts_at f l zero i d = refl
firsts_at f [] (suc n) i d = refl
firsts_at f (x ∷ l) (suc n) i d = firsts_at f l n (suc i) d

-- so it is changed next, in the list as it stands
pub firsts_next : {A : Type 0} (f : ℕ → A → A) (l : List A) (n : ℕ) (d : A) → n < length l
    → set (firsts n 0 f l) n (f n (get_or (firsts n 0 f l) n d)) ≡ firsts (n + 1) 0 f l
firsts_next {A} f l n d h = ap (λ (x : A). set (firsts n 0 f l) n (f n x)) (firsts_at f l n 0 d) ∙ firsts_more f l n d h

-- f at the places below m alone
abbrev pub below : {A : Type 0} → ℕ → (ℕ → A → A) → ℕ → A → A
below m f k x = cond (ltb k m) (f k x) x

-- every place changed by f below m, or the first m places by f
pub firsts_all : {A : Type 0} (f : ℕ → A → A) (l : List A) (n i m : ℕ) → i + n ≡ m → firsts (length l) i (below m f) l ≡ firsts n i f l
unfolding firsts
firsts_all f [] zero i m e = refl
firsts_all f [] (suc n) i m e = refl
firsts_all f (x ∷ l) zero i m e = firsts_same (below m f) (x ∷ l) (suc (length l)) i (λ k y le. rw (le-ltb k m (omega arith)))
firsts_all {A} f (x ∷ l) (suc n) i m e =
    ap₂ (λ (y : A) (t : List A). y ∷ t) (rw (lt-ltb i m (omega arith))) (firsts_all f l n (suc i) m (omega arith))
