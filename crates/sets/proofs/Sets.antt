-- Laws of sets of warps as masks: what a set has after a union, a meet, and with a warp put in or taken out; sets that have the same are the same; parts; sizes.
-- Assumes nothing.
use mathlib.Core.Path.{◌≡◌, refl, sym, ap, ap₂, ◌∙◌, subst}
use mathlib.Core.Bool.{Bool, true, false, not, cond, ◌&&◌, ◌||◌, or-false, or-true, and-true, false≢true}
use mathlib.Core.Logic.{⊎_elim}
use Prim.Native.Nat.{ℕ, zero, suc, ◌+◌, ◌-◌, ◌*◌, ◌/◌, ◌%◌, ◌^◌, ◌<◌, ◌≤◌, min, max}
use native.Mathlib.Nat.{mod-lt, mod-one, one-mul, zero-mul, add_comm, pow-suc, mod-eq_of_lt, div-eq_of_lt, not-suc-le-zero, le_of_suc-le-suc, eq-or-lt_of_le, lt_of_lt_of_le, add-zero, le_refl}
use native.Mathlib.Numerals.{add-one, one-add}
use native.Mathlib.Omega.{arith}
use lib.Arith.{bin_ind}
use lib.Bits.{bit_and, and_step, and_self, and_lt, and_mask, bit_or, bit_xor, or_lt, xor_add_and}
use lib.Count.{ones, ones_in, ones_step, ones_cat}
use lib.Dec.{eqb, ltb, lit<}
use lib.Pow.{pow_pos, pow-lt, pow_mono, mod-pow-add}
use borrow.Author.Tests.{eq-eqb, ne_eqb, eqb-true, eqb-false, lt-ltb, ltb-true, ltb-false}
use Rattle.std.specs.Int.{bit_at}
use Rattle.std.specs.Int.Bits.{and_zero_r, or_zero_r}
use Rattle.std.proofs.lemmas.Nat.{or_disjoint, and-not, and_comm}
use Rattle.std.proofs.lemmas.Nat.Bits.{bit_at-lt, bit_at-zero, bit_at_and, bit_at_or, bit_at_xor, bit_at-pow_same, bit_at-pow_other, and_pow, bit_at_above, bit_at_cat_low, bit_at_cat_high, same_from_bits_below}
use Rattle.sets.specs.Sets.{digit, has, put, less, part, within, size_below, size, set_of}

-- ---- digits

digit_cases : (P : ℕ → Type 0) → P 0 → P 1 → (x : ℕ) → x < 2 → P x
digit_cases P p q zero h = p
digit_cases P p q (suc zero) h = q
digit_cases P p q (suc (suc x)) h = absurd (omega arith)

or_digits : (x y : ℕ) → x < 2 → y < 2 → eqb (max x y) 1 ≡ eqb x 1 || eqb y 1
or_digits x y hx hy =
    digit_cases (λ (x : ℕ). eqb (max x y) 1 ≡ eqb x 1 || eqb y 1)
    (digit_cases (λ (y : ℕ). eqb (max 0 y) 1 ≡ eqb 0 1 || eqb y 1) refl refl y hy)
    (digit_cases (λ (y : ℕ). eqb (max 1 y) 1 ≡ eqb 1 1 || eqb y 1) refl refl y hy) x hx

and_digits : (x y : ℕ) → x < 2 → y < 2 → eqb (min x y) 1 ≡ eqb x 1 && eqb y 1
and_digits x y hx hy =
    digit_cases (λ (x : ℕ). eqb (min x y) 1 ≡ eqb x 1 && eqb y 1)
    (digit_cases (λ (y : ℕ). eqb (min 0 y) 1 ≡ eqb 0 1 && eqb y 1) refl refl y hy)
    (digit_cases (λ (y : ℕ). eqb (min 1 y) 1 ≡ eqb 1 1 && eqb y 1) refl refl y hy) x hx

-- a digit is that of the test
bit_is : (s w : ℕ) → bit_at s w ≡ digit (has s w)
bit_is s w = digit_cases (λ (x : ℕ). x ≡ digit (eqb x 1)) refl refl (bit_at s w) (bit_at-lt s w)

-- ---- what a set has

-- a union has what either has
pub has_or : (a b w : ℕ) → has (bit_or a b) w ≡ has a w || has b w
has_or a b w = rw (bit_at_or a b w) (or_digits (bit_at a w) (bit_at b w) (bit_at-lt a w) (bit_at-lt b w))

-- a meet has what both have
pub has_and : (a b w : ℕ) → has (bit_and a b) w ≡ has a w && has b w
has_and a b w = rw (bit_at_and a b w) (and_digits (bit_at a w) (bit_at b w) (bit_at-lt a w) (bit_at-lt b w))

-- the empty set has none
pub has_none : (w : ℕ) → has 0 w ≡ false
has_none w = rw (bit_at-zero w)

-- a set of n digits has no warp from n on
pub has_high : (n s w : ℕ) → s < 2 ^ n → n ≤ w → has s w ≡ false
has_high n s w l h = rw (bit_at_above s n w l h)

-- so the warps that it has are below n
pub has_below : (n s w : ℕ) → s < 2 ^ n → has s w ≡ true → w < n
has_below n s w l e = go (ltb w n) refl
  where
    go : (t : Bool) → ltb w n ≡ t → w < n
    go true q = ltb-true w n q
    go false q = absurd (false≢true (sym (has_high n s w l (ltb-false w n q)) ∙ e))

-- 2 ^ w has w alone
pub has_one : (w v : ℕ) → has (2 ^ w) v ≡ eqb v w
has_one w v = go (eqb v w) refl
  where
    go : (e : Bool) → eqb v w ≡ e → has (2 ^ w) v ≡ e
    go true p = rw (eqb-true v w p, bit_at-pow_same w)
    go false p = rw (bit_at-pow_other w v (eqb-false v w p))

-- ---- a warp put in

-- a mask that is met with that of w
pub has_met : (s w : ℕ) → s < 2 ^ 32 → not (eqb (bit_and s (cond (ltb w 32) (2 ^ w) 0)) 0) ≡ has s w
has_met s w l = go (ltb w 32) refl
  where
    go : (t : Bool) → ltb w 32 ≡ t → not (eqb (bit_and s (cond t (2 ^ w) 0)) 0) ≡ has s w
    go true e =
        rw (and_pow s w)
        (digit_cases (λ (x : ℕ). not (eqb (x * 2 ^ w) 0) ≡ eqb x 1) (rw (zero-mul (2 ^ w)))
        (rw (ne_eqb (1 * 2 ^ w) 0 (λ z. omega (arith, z, pow_pos w)))) (bit_at s w) (bit_at-lt s w))
    go false e = rw (and_zero_r s, has_high 32 s w l (ltb-false w 32 e))

-- a mask joined with that of w
pub put_joined : (s w : ℕ) → bit_or s (cond (ltb w 32) (2 ^ w) 0) ≡ put s w
put_joined s w = go (ltb w 32)
  where
    go : (t : Bool) → bit_or s (cond t (2 ^ w) 0) ≡ cond t (bit_or s (2 ^ w)) s
    go true = refl
    go false = or_zero_r s

put_is : (s w : ℕ) → w < 32 → put s w ≡ bit_or s (2 ^ w)
put_is s w h = rw (lt-ltb w 32 h)

pub has_put : (s w v : ℕ) → w < 32 → has (put s w) v ≡ has s v || eqb v w
has_put s w v h = ap (λ (x : ℕ). has x v) (put_is s w h) ∙ has_or s (2 ^ w) v ∙ rw (has_one w v)

pub has_put_own : (s w : ℕ) → w < 32 → has (put s w) w ≡ true
has_put_own s w h = has_put s w w h ∙ rw (eq-eqb w w refl) (or-true (has s w))

pub has_put_other : (s w v : ℕ) → w < 32 → (v ≡ w → ⊥) → has (put s w) v ≡ has s v
has_put_other s w v h d = has_put s w v h ∙ rw (ne_eqb v w d) (or-false (has s v))

-- a mask of n digits keeps n digits
pub put_lt : (n s w : ℕ) → w < n → s < 2 ^ n → put s w < 2 ^ n
put_lt n s w h hs = go (ltb w 32)
  where
    go : (t : Bool) → cond t (bit_or s (2 ^ w)) s < 2 ^ n
    go true = or_lt n s (2 ^ w) hs (pow-lt h)
    go false = hs

-- ---- sets that have the same are the same

pub ext : (n a b : ℕ) → a < 2 ^ n → b < 2 ^ n → ((w : ℕ) → w < n → has a w ≡ has b w) → a ≡ b
ext n a b ha hb h = same_from_bits_below n a b ha hb (λ w l. bit_is a w ∙ ap digit (h w l) ∙ sym (bit_is b w))

-- ---- a warp taken out

-- a mask and a digit of it, met
met_digit : (s w : ℕ) → bit_and s (2 ^ w) ≡ digit (has s w) * 2 ^ w
met_digit s w = and_pow s w ∙ ap (λ (x : ℕ). x * 2 ^ w) (bit_is s w)

-- a mask less its digit of w is the set without w
less_digit : (s w : ℕ) → s - digit (has s w) * 2 ^ w ≡ less s w
less_digit s w = go (has s w)
  where
    go : (t : Bool) → s - digit t * 2 ^ w ≡ cond t (s - 2 ^ w) s
    go true = omega arith
    go false = omega arith

-- a mask met with the complement of that of w
pub less_met : (s w : ℕ) → s < 2 ^ 32 → bit_and s (2 ^ 32 - 1 - cond (ltb w 32) (2 ^ w) 0) ≡ less s w
less_met s w l = go (ltb w 32) refl
  where
    go : (t : Bool) → ltb w 32 ≡ t → bit_and s (2 ^ 32 - 1 - cond t (2 ^ w) 0) ≡ less s w
    go true e =
        rw (← less_digit s w)
        (omega (arith, and-not 32 (2 ^ w) s (pow-lt (ltb-true w 32 e)) l, and_comm s (2 ^ 32 - 1 - 2 ^ w), and_comm s (2 ^ w), met_digit s w))
    go false e = and_mask s 32 ∙ mod-eq_of_lt l ∙ rw (has_high 32 s w l (ltb-false w 32 e))

-- without w it has its other warps
pub has_less : (s w v : ℕ) → has (less s w) v ≡ has s v && not (eqb v w)
has_less s w v = go (has s w) (eqb v w) refl refl
  where
    -- the set without a warp that it has is the mask with that digit turned
    turned : has s w ≡ true → s - 2 ^ w ≡ bit_xor s (2 ^ w)
    turned e = omega (arith, rw e at (met_digit s w), xor_add_and s (2 ^ w))

    go : (t u : Bool) → has s w ≡ t → eqb v w ≡ u → has (cond t (s - 2 ^ w) s) v ≡ has s v && not u
    go true true e f = rw (turned e, bit_at_xor s (2 ^ w) v, eqb-true v w f, bit_at-pow_same w, bit_is s w, e)
    go true false e f =
        rw (turned e, bit_at_xor s (2 ^ w) v, bit_at-pow_other w v (eqb-false v w f), add-zero (bit_at s v), mod-eq_of_lt (bit_at-lt s v))
        (sym (and-true (has s v)))
    go false true e f = rw (eqb-true v w f, e)
    go false false e f = sym (and-true (has s v))

-- a mask of n digits keeps n digits
pub less_lt : (n s w : ℕ) → s < 2 ^ n → less s w < 2 ^ n
less_lt n s w h = rw (← less_digit s w) (omega arith)

-- ---- parts

pub part_has : (a b : ℕ) → part a b ≡ true → (w : ℕ) → has a w ≡ true → has b w ≡ true
part_has a b e w h =
    let q : has a w ≡ has a w && has b w = ap (λ (x : ℕ). has x w) (sym (eqb-true (bit_and a b) a e)) ∙ has_and a b w in
    rw h at (sym q ∙ h)

pub part_of : (n a b : ℕ) → a < 2 ^ n → b < 2 ^ n → ((w : ℕ) → w < n → has a w ≡ true → has b w ≡ true) → part a b ≡ true
part_of n a b ha hb h =
    eq-eqb (bit_and a b) a (ext n (bit_and a b) a (and_lt n a b ha hb) ha (λ w l. has_and a b w ∙ go w l (has a w) refl))
  where
    go : (w : ℕ) → w < n → (t : Bool) → has a w ≡ t → has a w && has b w ≡ has a w
    go w l true e = rw e (h w l e)
    go w l false e = rw e

-- a set names only warps below n exactly when each is one of these
pub part_low : (k s : ℕ) → part s (2 ^ k - 1) ≡ within k s
part_low k s = ap (λ (x : ℕ). eqb x s) (and_mask s k) ∙ go (ltb s (2 ^ k)) refl
  where
    go : (t : Bool) → ltb s (2 ^ k) ≡ t → eqb (s % 2 ^ k) s ≡ t
    go true e = eq-eqb (s % 2 ^ k) s (mod-eq_of_lt (ltb-true s (2 ^ k) e))
    go false e = ne_eqb (s % 2 ^ k) s (λ q. omega (arith, q, mod-lt s (pow_pos k), ltb-false s (2 ^ k) e))

-- any set of 32 digits names only warps below 32 or more
within_all : (n s : ℕ) → s < 2 ^ 32 → 32 ≤ n → within n s ≡ true
within_all n s l h = lt-ltb s (2 ^ n) (lt_of_lt_of_le l (pow_mono h))

-- a mask has 32 digits, however high n is
pub part_below : (n s : ℕ) → s < 2 ^ 32 → part s (2 ^ min n 32 - 1) ≡ within n s
part_below n s l = go (ltb n 32) refl
  where
    go : (t : Bool) → ltb n 32 ≡ t → part s (2 ^ min n 32 - 1) ≡ within n s
    go true e =
        let q : min n 32 ≡ n = omega (arith, ltb-true n 32 e) in
        rw q (part_low n s)
    go false e =
        let q : min n 32 ≡ 32 = omega (arith, ltb-false n 32 e) in
        rw q (part_low 32 s ∙ within_all 32 s l (omega arith) ∙ sym (within_all n s l (ltb-false n 32 e)))

-- ---- sizes

-- n digits count n at most
pub size_le : (n s : ℕ) → size_below n s ≤ n
unfolding size_below
size_le zero s = omega arith
size_le (suc n) s = omega (arith, size_le n s)

pub size_none : (n : ℕ) → size_below n 0 ≡ 0
unfolding size_below
size_none zero = refl
size_none (suc n) = rw (size_none n, div-eq_of_lt (pow_pos n))

bit_put : (s w v : ℕ) → w < 32 → (v ≡ w → ⊥) → bit_at (put s w) v ≡ bit_at s v
bit_put s w v l h = bit_is (put s w) v ∙ ap digit (has_put_other s w v l h) ∙ sym (bit_is s v)

size_under : (n s w : ℕ) → w < 32 → n ≤ w → size_below n (put s w) ≡ size_below n s
unfolding size_below
size_under zero s w l h = refl
size_under (suc n) s w l h = ap₂ (λ (x y : ℕ). x + y) (size_under n s w l (omega arith)) (bit_put s w n l (λ e. omega arith))

size_here : (s w : ℕ) → w < 32 → has s w ≡ false → size_below (suc w) (put s w) ≡ size_below (suc w) s + 1
unfolding size_below
size_here s w l e =
    let a : bit_at (put s w) w ≡ 1 = bit_is (put s w) w ∙ ap digit (has_put_own s w l) in
    let z : bit_at s w ≡ 0 = bit_is s w ∙ ap digit e in
    rw (size_under w s w l (omega arith), a, z) (omega arith)

size_put_below : (n s w : ℕ) → w < 32 → w < n → has s w ≡ false → size_below n (put s w) ≡ size_below n s + 1
unfolding size_below
size_put_below zero s w l h e = absurd (not-suc-le-zero h)
size_put_below (suc n) s w l h e =
    ⊎_elim (λ q. subst (λ (k : ℕ). size_below (suc k) (put s w) ≡ size_below (suc k) s + 1) q (size_here s w l e))
    (λ m. rw (size_put_below n s w l m e, bit_put s w n l (λ q. omega arith)) (omega arith)) (eq-or-lt_of_le (le_of_suc-le-suc h))

-- a warp that is put in counts
pub size_put : (s w : ℕ) → w < 32 → has s w ≡ false → size (put s w) ≡ size s + 1
size_put s w h e = size_put_below 32 s w h h e

-- the language's own count of ones
ones_digit : (x : ℕ) → x < 2 → ones x ≡ x
unfolding ones ones_in
ones_digit = digit_cases (λ (x : ℕ). ones x ≡ x) refl refl

size_low : (k s : ℕ) → size_below k s ≡ ones (s % 2 ^ k)
unfolding size_below ones ones_in
size_low zero s = rw (mod-one s)
size_low (suc k) s =
    rw (size_low k s, ← one-add k, mod-pow-add s 1 k, ones_cat k (bit_at s k) (s % 2 ^ k) (mod-lt s (pow_pos k)), ones_digit (bit_at s k) (bit_at-lt s k))
    (add_comm (ones (s % 2 ^ k)) (bit_at s k))

pub size_ones : (k s : ℕ) → s < 2 ^ k → size_below k s ≡ ones s
size_ones k s h = size_low k s ∙ ap ones (mod-eq_of_lt h)

-- digit 0 is 1 in a mask or in one less than it, never in both
ones_halves : (s : ℕ) → 0 < s → ones (bit_and s (s - 1)) ≡ ones (bit_and (s / 2) ((s - 1) / 2))
ones_halves s h =
    let z : min (s % 2) ((s - 1) % 2) ≡ 0 = omega arith in
    rw (and_step s (s - 1), z) (ones_cat 1 _ 0 (lit< tt) ∙ rw (ones_digit 0 (lit< tt)) (add-zero _))

-- `s & (s - 1)` has one member less: of an odd mask it takes warp 0 away, of an even one the lowest of its half
abbrev OneLess : ℕ → Type 0
OneLess s = 0 < s → ones s ≡ ones (bit_and s (s - 1)) + 1

pub ones_less : (s : ℕ) → OneLess s
ones_less = bin_ind OneLess (λ h. absurd (omega arith)) (λ s ih. go s ih (s % 2) refl)
  where
    go : (s : ℕ) → OneLess (s / 2) → (d : ℕ) → s % 2 ≡ d → OneLess s
    go s ih zero e h =
        let p : (s - 1) / 2 ≡ s / 2 - 1 = omega arith in
        rw (ones_halves s h, p) (omega (arith, ones_step s, ih (omega arith)))
    go s ih (suc d) e h =
        let p : (s - 1) / 2 ≡ s / 2 = omega arith in
        rw (ones_halves s h, p, and_self (s / 2)) (omega (arith, ones_step s))

-- ---- the set of a test

digit_lt : (b : Bool) (m n : ℕ) → m < n → m + digit b * n < n * 2
digit_lt true m n h = omega arith
digit_lt false m n h = omega arith

-- a set of numbers below n is a mask of n digits
pub set_of_lt : (p : ℕ → Bool) (n : ℕ) → set_of n p < 2 ^ n
unfolding set_of
set_of_lt p zero = lit< tt
set_of_lt p (suc n) = rw (pow-suc 2 n) (digit_lt (p n) (set_of n p) (2 ^ n) (set_of_lt p n))

-- one number more is put in, or not
pub set_of_put : (p : ℕ → Bool) (w : ℕ) → w < 32 → p w ≡ true → put (set_of w p) w ≡ set_of (w + 1) p
unfolding set_of
set_of_put p w h e =
    let none : has (set_of w p) w ≡ false = has_high w (set_of w p) w (set_of_lt p w) (le_refl w) in
    put_is (set_of w p) w h ∙ or_disjoint (set_of w p) (2 ^ w) (met_digit (set_of w p) w ∙ rw (none, zero-mul (2 ^ w))) ∙ rw (add-one, e, one-mul (2 ^ w))

pub set_of_pass : (p : ℕ → Bool) (w : ℕ) → p w ≡ false → set_of w p ≡ set_of (w + 1) p
unfolding set_of
set_of_pass p w e = rw (add-one, e) (omega arith)

-- tests that agree make the same set
pub set_of_cong : (p q : ℕ → Bool) (n : ℕ) → ((i : ℕ) → i < n → p i ≡ q i) → set_of n p ≡ set_of n q
unfolding set_of
set_of_cong p q zero h = refl
set_of_cong p q (suc n) h = rw (set_of_cong p q n (λ i l. h i (omega arith)), h n (omega arith))

-- it has the numbers of which the test holds
pub has_set_of : (p : ℕ → Bool) (n w : ℕ) → w < n → has (set_of n p) w ≡ p w
unfolding set_of
has_set_of p zero w h = absurd (not-suc-le-zero h)
has_set_of p (suc n) w h = rw (add_comm (set_of n p) (digit (p n) * 2 ^ n)) (⊎_elim here (λ l. rw (bit_at_cat_low (digit (p n)) n (set_of n p) w l) (has_set_of p n w l)) (eq-or-lt_of_le (le_of_suc-le-suc h)))
  where
    top : (b : Bool) (k : ℕ) → k ≡ 0 → eqb (bit_at (digit b) k) 1 ≡ b
    top true k e = rw e
    top false k e = rw e

    here : w ≡ n → has (digit (p n) * 2 ^ n + set_of n p) w ≡ p w
    here q = rw (q, bit_at_cat_high (digit (p n)) n (set_of n p) n (set_of_lt p n) (le_refl n)) (top (p n) (n - n) (omega arith))
