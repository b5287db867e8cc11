-- Laws of the digits: how many a number takes, and that they may be stored from the last on.
-- Assumes nothing.
use mathlib.Core.Path.{◌≡◌, refl, ap, subst, ◌∙◌}
use mathlib.Core.Bool.{Bool, true, false, cond}
use mathlib.Core.Logic.{⊎_elim}
use mathlib.Core.List.{List, [], ◌∷◌, ◌++◌}
use Prim.Native.Nat.{ℕ, zero, suc, ◌+◌, ◌-◌, ◌*◌, ◌/◌, ◌%◌, ◌^◌, ◌≤◌, ◌<◌}
use native.Mathlib.Omega.{arith}
use native.Mathlib.Nat.{add-zero, pow-le-pow_right, pow-suc, zero-lt-suc, eq-or-lt_of_le}
use native.Mathlib.Numerals.{add-one}
use lib.Dec.{ltb}
use lib.ListN.{length, set, length-append}
use lib.Seq.{sets, set_comm}
use borrow.Author.Tests.{lt-ltb, le-ltb}
use Rattle.folds.specs.Folds.{first}
use Rattle.folds.proofs.Folds.{first_none, first_found}
use Rattle.io.specs.Digits.{last_digits, hex_digit_ascii}
use Rattle.digits.specs.Digits.{places, decimal, warps}

-- ---- the first number of which a test holds

-- it is at most the bound
first_most : (p : ℕ → Bool) (n : ℕ) → first n p ≤ n
unfolding first
first_most p zero = omega arith
first_most p (suc n) = either (ltb (first n p) n) (p n) (first n p) n (first_most p n)
  where
    either : (a b : Bool) (f n : ℕ) → f ≤ n → cond a f (cond b n (suc n)) ≤ suc n
    either true b f n h = omega arith
    either false true f n h = omega arith
    either false false f n h = omega arith

-- a test that fails at each number below k is met at none of them
none_below : (p : ℕ → Bool) (k : ℕ) → ((j : ℕ) → j < k → p j ≡ false) → first k p ≡ k
unfolding first
none_below p zero h = refl
none_below p (suc k) h =
    rw add-one at (first_none p k (none_below p k (λ j l. h j (omega arith))) (h k (omega arith)))

-- none below k, and one at k: up to k or further on, it is the first
first_at : (p : ℕ → Bool) (k n : ℕ) → k ≤ n → first k p ≡ k → p k ≡ true → first n p ≡ k
first_at p k n h e f = ⊎_elim (λ q. subst (λ (m : ℕ). first m p ≡ k) q e) (λ l. first_found p k n l e f) (eq-or-lt_of_le h)

-- ---- digits

pub length_digits : (b k n : ℕ) → length (last_digits b k n) ≡ k
length_digits b zero n = refl
length_digits b (suc k) n = length-append (last_digits b k (n / b)) (hex_digit_ascii (n % b) ∷ []) ∙ rw (length_digits b k (n / b)) (omega arith)

-- ---- digits stored from the last on

-- the last stored before the others is the whole stored
sets_last : (l : List ℕ) (i j : ℕ) (xs : List ℕ) (y : ℕ) → i + length xs ≡ j → sets (set l j y) i xs ≡ sets l i (xs ++ y ∷ [])
sets_last l i j [] y e = rw (← e, add-zero)
sets_last l i j (x ∷ xs) y e =
    ap (λ (m : List ℕ). sets m (suc i) xs) (set_comm l j i y x (λ h. omega arith)) ∙ sets_last (set l i x) (suc i) j xs y (omega arith)

-- one digit is stored, and what is left to store, stored, gives what all of it gives
pub digit_stored : (out l : List ℕ) (at i b rest : ℕ) → 0 < i → sets out at (last_digits b i rest) ≡ l
    → sets (set out (at + (i - 1)) (hex_digit_ascii (rest % b))) at (last_digits b (i - 1) (rest / b)) ≡ l
digit_stored out l at zero b rest h e = absurd (omega arith)
digit_stored out l at (suc j) b rest h e =
    let one : suc j - 1 ≡ j = omega arith in
    rw one (sets_last out at (at + j) (last_digits b j (rest / b)) (hex_digit_ascii (rest % b)) (rw (length_digits b j (rest / b))) ∙ e)

-- ---- how many digits a number takes

-- one more than the powers of ten, from the first on, that are not above it
passed_places : (n k : ℕ) → k ≤ 19 → ((j : ℕ) → j < k → 10 ^ (j + 1) ≤ n) → n < 10 ^ (k + 1) → k + 1 ≡ places n
passed_places n k most passed below =
    let none = none_below (λ j. ltb n (10 ^ (j + 1))) k (λ j l. le-ltb n (10 ^ (j + 1)) (passed j l)) in
    omega (arith, first_at (λ j. ltb n (10 ^ (j + 1))) k _ most none (lt-ltb n (10 ^ (k + 1)) below))

-- one where it is below ten
pub one_place : (n : ℕ) → n < 10 → 1 ≡ places n
one_place n below = passed_places n 0 (omega arith) (λ j l. absurd (omega arith)) below

-- one more than the power of ten that it is at, or above and below the next
pub power_places : (n k : ℕ) → k < 20 → 10 ^ k ≤ n → n < 10 * 10 ^ k → k + 1 ≡ places n
power_places n k most from below =
    passed_places n k (omega arith) (λ j l. omega (arith, pow-le-pow_right (zero-lt-suc 9) {i = j + 1} {j = k} (omega arith))) (rw (add-one k, pow-suc 10 k) (omega arith))

-- as many digits as it takes are a number's decimal text
pub spelled : (n k : ℕ) → k ≡ places n → last_digits 10 k n ≡ decimal n
unfolding decimal
spelled n k e = rw e

pub length_decimal : (n : ℕ) → length (decimal n) ≡ places n
unfolding decimal
length_decimal n = length_digits 10 (places n) n

-- 20 at most
pub decimal_most : (n : ℕ) → length (decimal n) ≤ 20
decimal_most n = rw (length_decimal n) (more _ _ (first_most _ _) (omega arith))
  where
    more : (a b : ℕ) → a ≤ b → b ≤ 19 → 1 + a ≤ 20
    more a b h k = omega arith

pub length_warps : (m : ℕ) → length (warps m) ≡ 8
length_warps m = length_digits 16 8 m
