-- What is answered by a table, carried to another answer by the same table.
-- Assumes nothing.
use mathlib.Core.Path.{◌≡◌, refl, ap}
use Prim.Native.Nat.{ℕ, zero, suc}
use native.Mathlib.Omega.{arith}
use Rattle.std.specs.Prelude.{Ok, Err}
use Rattle.refusals.specs.declared.Refusal.{Refusal}
use Rattle.refusals.specs.Refusals.{named, unless}

module _ {A B : Type 0} (n : ℕ) (a : A) where
  -- where it is answered, so is what is made of it
  pub passed_unless : (f : A → B) (y : A) → Ok y ≡ unless n a → Ok (f y) ≡ unless n (f a)
  passed_unless f y e = go n e
    where
      go : (m : ℕ) → Ok y ≡ unless m a → Ok (f y) ≡ unless m (f a)
      go zero h = let q : y ≡ a = cc in ap (λ (z : A). Ok (f z)) q
      go (suc m) h = cc

  -- where it is refused, so is any other
  pub refused_unless : (b : B) (r : Refusal) → Err r ≡ unless n a → Err r ≡ unless n b
  refused_unless b r e = go n e
    where
      go : (m : ℕ) → Err r ≡ unless m a → Err r ≡ unless m b
      go zero h = cc
      go (suc m) h = cc

-- what is answered has no number, and what is refused has one
module _ {A : Type 0} (n : ℕ) (a : A) where
  pub passed_none : (y : A) → Ok y ≡ unless n a → n ≡ 0
  passed_none y e = go n e
    where
      go : (m : ℕ) → Ok y ≡ unless m a → m ≡ 0
      go zero h = refl
      go (suc m) h = cc

  pub refused_some : (r : Refusal) → Err r ≡ unless n a → n ≡ 0 → ⊥
  refused_some r e z = go n e z
    where
      go : (m : ℕ) → Err r ≡ unless m a → m ≡ 0 → ⊥
      go zero h z = cc
      go (suc m) h z = omega (arith, z)

  -- it is the line's
  pub refused_named : (r : Refusal) → Err r ≡ unless n a → named n ≡ r
  refused_named r e = go n e
    where
      go : (m : ℕ) → Err r ≡ unless m a → named m ≡ r
      go zero h = cc
      go (suc m) h = cc
