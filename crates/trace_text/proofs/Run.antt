-- Laws of the steps that are read, place by place.
-- Assumes nothing.
use mathlib.Core.Path.{◌≡◌, refl, sym, ap, ◌∙◌}
use mathlib.Core.Bool.{Bool, true, false}
use mathlib.Core.List.{List, [], ◌∷◌}
use Prim.Native.Nat.{ℕ, zero, suc, ◌+◌, ◌-◌, ◌*◌, ◌≤◌, ◌<◌}
use native.Mathlib.Omega.{arith}
use borrow.Author.Tests.{le-leb, lt-leb, leb-true, leb-false}
use lib.Dec.{leb}
use lib.ListN.{length}
use Rattle.std.specs.Prelude.{Some, None, Result, Ok, Err}
use Rattle.refusals.specs.declared.Refusal.{Refusal}
use Rattle.steps.specs.declared.Step.{Step}
use Rattle.steps.specs.declared.Cursor.{Cursor}
use Rattle.steps.specs.Step.{read_at, kind_at, length_of}
use Rattle.steps.proofs.Reading.{is_found}
use Rattle.tables.specs.Effect.{State, next, verdicts}
use Rattle.trace_text.specs.Run.{no_step, step_then, steps_from}

-- a place of a trace: no byte is left, reading stops there, or a step is read
pub at_place : {P : Type 0} (s : List ℕ) (at : ℕ) → (length s ≤ at → P) → (at < length s → (r : Refusal) → read_at s at ≡ Err r → P)
    → (at < length s → (st : Step) (c : Cursor) → read_at s at ≡ Ok (st, c) → P) → P
at_place {P} s at ends stops goes = ended (leb (length s) at) refl
  where
    is_read : at < length s → (x : Result (Step × Cursor) Refusal) → read_at s at ≡ x → P
    is_read more (Err r) e = stops more r e
    is_read more (Ok (st, c)) e = goes more st c e

    ended : (b : Bool) → leb (length s) at ≡ b → P
    ended true e = ends (leb-true (length s) at e)
    ended false e = is_read (leb-false (length s) at e) (read_at s at) refl

-- a step that was read takes two bytes at least, and they are there
pub moves : (s : List ℕ) (at : ℕ) (st : Step) (c : Cursor) → read_at s at ≡ Ok (st, c) → (at + 2 ≤ c.at) × (c.at ≤ length s)
moves s at st c e =
    let f = is_found s at st c e in
    let place : at + 1 + length_of (kind_at s at) ≡ c.at = ap (λ (x : Cursor). x.at) f.cursor in
    (omega (arith, f.known), omega (arith, f.fits))

module _ (s : List ℕ) (at : ℕ) where
  -- no byte is left
  pub steps_end : (k : ℕ) → length s ≤ at → steps_from k s at ≡ no_step at None
  unfolding steps_from
  steps_end zero h = refl
  steps_end (suc k) h = rw (le-leb (length s) at h)

  module _ (k : ℕ) (more : at < length s) where
    -- reading stops there
    pub steps_stop : (r : Refusal) → read_at s at ≡ Err r → steps_from (suc k) s at ≡ no_step at (Some r)
    unfolding steps_from
    steps_stop r e = rw (lt-leb (length s) at more, e)

    -- a step is read
    pub steps_step : (st : Step) (c : Cursor) → read_at s at ≡ Ok (st, c) → steps_from (suc k) s at ≡ step_then st (steps_from k s c.at)
    unfolding steps_from
    steps_step st c e = rw (lt-leb (length s) at more, e)

-- as many steps as there are bytes left are enough
pub enough : (k m : ℕ) (s : List ℕ) (at : ℕ) → length s ≤ at + k → length s ≤ at + m → steps_from k s at ≡ steps_from m s at
enough zero m s at h g = steps_end s at zero (omega arith) ∙ sym (steps_end s at m (omega arith))
enough (suc k) zero s at h g = steps_end s at (suc k) (omega arith) ∙ sym (steps_end s at zero (omega arith))
enough (suc k) (suc m) s at h g =
    at_place s at (λ e. steps_end s at (suc k) e ∙ sym (steps_end s at (suc m) e))
    (λ more r e. steps_stop s at k more r e ∙ sym (steps_stop s at m more r e))
    (λ more st c e.
    steps_step s at k more st c e
    ∙ ap (step_then st) (enough k m s c.at (omega (arith, moves s at st c e)) (omega (arith, moves s at st c e)))
    ∙ sym (steps_step s at m more st c e))

-- a step is read, and then those after it
pub goes_on : (s : List ℕ) (at : ℕ) → at < length s → (st : Step) (c : Cursor) → read_at s at ≡ Ok (st, c)
    → steps_from (length s) s at ≡ step_then st (steps_from (length s) s c.at)
goes_on s at more st c e =
    let k = length s - 1 in
    let one : length s ≡ suc k = omega arith in
    ap (λ (m : ℕ). steps_from m s at) one
    ∙ steps_step s at k more st c e
    ∙ ap (step_then st) (enough k (length s) s c.at (omega (arith, moves s at st c e)) (omega arith))

-- and where reading stops there is none
pub stops_there : (s : List ℕ) (at : ℕ) → at < length s → (r : Refusal) → read_at s at ≡ Err r → steps_from (length s) s at ≡ no_step at (Some r)
stops_there s at more r e =
    let one : length s ≡ suc (length s - 1) = omega arith in
    ap (λ (m : ℕ). steps_from m s at) one ∙ steps_stop s at (length s - 1) more r e

-- at most one for every two bytes left
pub steps_most : (k : ℕ) (s : List ℕ) (at : ℕ) → 2 * length (steps_from k s at).steps ≤ length s - at
unfolding steps_from
steps_most zero s at = omega arith
steps_most (suc k) s at =
    at_place s at (λ e. rw (steps_end s at (suc k) e) (omega arith)) (λ more r e. rw (steps_stop s at k more r e) (omega arith))
    (λ more st c e. rw (steps_step s at k more st c e) (omega (arith, moves s at st c e, steps_most k s c.at)))

-- a verdict to each
pub verdict_each : (x : State) (l : List Step) → length (verdicts x l) ≡ length l
verdict_each x [] = refl
verdict_each x (s ∷ l) = ap suc (verdict_each (next x s) l)
