-- Proofs of what `specs/Owner` claims.
-- Assumes nothing.
use mathlib.Core.Path.{◌≡◌, refl}
use mathlib.Core.Bool.{Bool, true, false, cond}
use lib.Dec.{eqb}
use Rattle.object.specs.Tokens.{slots}
use Rattle.lent.specs.Entries.{fresh_refusal}
use Rattle.owned.specs.Owner.{OwnedSteps, OwnedFreshens}

pub owned_steps : OwnedSteps
owned_steps o s = record { verdict = refl; block = refl; objects = refl; tally = refl }

either : {A : Type 0} (b : Bool) (x : A) → x ≡ cond b x x
either true x = refl
either false x = refl

pub owned_freshens : OwnedFreshens
owned_freshens w = record { answer = refl; objects = either (eqb (fresh_refusal slots w) 0) _; tally = either (eqb (fresh_refusal slots w) 0) _ }
