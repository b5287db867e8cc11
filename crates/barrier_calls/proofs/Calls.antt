-- Laws of what the steps ask for.
-- Assumes nothing.
use mathlib.Core.Path.{◌≡◌, refl}
use mathlib.Core.Bool.{Bool, true, false, not, cond, ◌||◌}
use Prim.Native.Nat.{ℕ}
use lib.Dec.{eqb}
use Rattle.block.specs.declared.Form.TheVariants.{Idle, Popc, And, Or}
use Rattle.block.specs.Tables.{is_idle}
use Rattle.barrier_calls.specs.Calls.{form_of, bad_selector}

forms : (a b c d e f : Bool) → is_idle (cond (a || d) Popc (cond (b || e) And (cond (c || f) Or Idle))) ≡ not (a || (b || (c || (d || (e || f)))))
forms true b c d e f = refl
forms false true c true e f = refl
forms false true c false e f = refl
forms false false true true e f = refl
forms false false true false true f = refl
forms false false true false false f = refl
forms false false false true e f = refl
forms false false false false true f = refl
forms false false false false false true = refl
forms false false false false false false = refl

-- the bad selectors are those that name no form
pub selector_form : (s : ℕ) → is_idle (form_of s) ≡ bad_selector s
selector_form s = forms (eqb s 0) (eqb s 1) (eqb s 2) (eqb s 4) (eqb s 5) (eqb s 6)
