-- What an accepted verdict says.
-- Assumes nothing.
use mathlib.Core.Path.{◌≡◌, ap}
use mathlib.Core.Bool.{Bool, true, false, false≢true}
use Prim.Native.Nat.{ℕ}
use Rattle.block.specs.declared.Accepted.{Accepted}
use Rattle.block.specs.Verdicts.{accepted}

-- two that are the same say the same
pub record Same (v v' : ℕ) (d d' : Bool) (r r' : ℕ) : Type 0 where
  pub value : v ≡ v'
  pub done : d ≡ d'
  pub released : r ≡ r'

pub same : {v v' : ℕ} {d d' : Bool} {r r' : ℕ} → accepted v d r ≡ accepted v' d' r' → Same v v' d d' r r'
same {v} {v'} {d} {d'} {r} {r'} e =
    let q : ◌≡◌ {A = Accepted} (record { value = v; done = d; released = r }) (record { value = v'; done = d'; released = r' }) = cc in
    record { value = ap (λ (a : Accepted). a.value) q; done = ap (λ (a : Accepted). a.done) q; released = ap (λ (a : Accepted). a.released) q }

-- one that completes nothing is not one that completes something
pub undone : {v v' r r' : ℕ} → accepted v false r ≡ accepted v' true r' → ⊥
undone e = false≢true (same e).done
