-- A transaction count z with the expectations e and the completions c to come: z + e ≡ c.
-- Assumes nothing.
use mathlib.Core.Path.{◌≡◌, refl, sym, ap, ◌∙◌}
use mathlib.Core.Bool.{Bool, true, false, cond}
use Prim.Native.Nat.{ℕ, suc, ◌+◌, ◌≤◌}
use native.Mathlib.Nat.{add_comm, zero-add}
use native.Mathlib.Omega.{arith}
use borrow.Author.Tests.{ne_eqb, le-ltb, ltb-false}
use lib.Dec.{ltb}
use lib.IntN.{ℤ, pos, negsuc, ◌+ℤ◌, ◌-ℤ◌, neg_ℤ, +ℤ_assoc, +ℤ_comm, +ℤ_idr, +ℤ-neg_ℤ_cancel}
use Rattle.object.specs.Row.{most, outside, is_zero}

-- it is in its range
pub balanced_inside : (z : ℤ) (e c : ℕ) → z +ℤ pos e ≡ pos c → e ≤ most → c ≤ most → outside z ≡ false
balanced_inside (pos n) e c b he hc = le-ltb _ _ (at n e c hc (cc))
  where
    at : (n e c : ℕ) → c ≤ most → n + e ≡ c → n ≤ most
    at n e c h q = omega arith
balanced_inside (negsuc n) e c b he hc = simp (le-ltb 1048574 n (at n e he (ltb-false e (suc n) (by (ltb e (suc n)) _ _ c b))))
  where
    by : (t : Bool) (k m c : ℕ) → cond t (negsuc k) (pos m) ≡ pos c → t ≡ false
    by true k m c p = cc
    by false k m c p = refl

    at : (n e : ℕ) → e ≤ most → suc n ≤ e → n ≤ 1048574
    at n e h q = omega arith

-- with nothing to come it is 0, and with a completion and no expectation to come it is not
pub balanced_zero : (z : ℤ) → z +ℤ pos 0 ≡ pos 0 → z ≡ pos 0
balanced_zero z b = sym (+ℤ_idr z) ∙ b

pub balanced_above : (z : ℤ) (c : ℕ) → z +ℤ pos 0 ≡ pos c → 1 ≤ c → is_zero z ≡ false
balanced_above z c b h = rw (sym (+ℤ_idr z) ∙ b) (ne_eqb c 0 (omega arith))

-- an expectation comes, and a completion
pub balanced_raised : (z : ℤ) (x e c : ℕ) → z +ℤ pos (x + e) ≡ pos (0 + c) → (z +ℤ pos x) +ℤ pos e ≡ pos c
balanced_raised z x e c b = +ℤ_assoc z (pos x) (pos e) ∙ b ∙ ap pos (zero-add c)

pub balanced_lowered : (z : ℤ) (x e c : ℕ) → z +ℤ pos (0 + e) ≡ pos (x + c) → (z -ℤ pos x) +ℤ pos e ≡ pos c
balanced_lowered z x e c b =
    +ℤ_assoc z (neg_ℤ (pos x)) (pos e)
    ∙ ap (λ (k : ℤ). z +ℤ k) (+ℤ_comm (neg_ℤ (pos x)) (pos e))
    ∙ sym (+ℤ_assoc z (pos e) (neg_ℤ (pos x)))
    ∙ ap (λ (k : ℤ). k -ℤ pos x) (ap (λ (k : ℕ). z +ℤ pos k) (sym (zero-add e)) ∙ b ∙ ap pos (add_comm x c))
    ∙ +ℤ-neg_ℤ_cancel (pos c) (pos x)
