-- What is claimed of every step: refused exactly by the lowest line that holds, a phase completed exactly at both zeros.
-- Assumes nothing.
use mathlib.Core.Path.{◌≡◌, refl, sym, ap, ◌∙◌}
use mathlib.Core.Bool.{Bool, true, false}
use Prim.Native.Nat.{ℕ, ◌+◌}
use native.Mathlib.Omega.{arith}
use borrow.Author.Tests.{eqb-true}
use lib.Dec.{eqb}
use lib.IntN.{ℤ, pos, negsuc}
use lib.ListN.{get_or}
use Rattle.folds.proofs.Folds.{and_left, and_right, none_at}
use Rattle.object.specs.declared.Object.{Object}
use Rattle.object.specs.declared.Act.{Act}
use Rattle.object.specs.declared.Act.TheVariants.{Init, Inval, Arrive, Expect, Complete, Token, Parity}
use Rattle.object.specs.declared.Answer.{Answer}
use Rattle.refusals.proofs.Refusals as table
use Rattle.std.specs.Prelude.{Ok}
use Rattle.folds.specs.Lowest.{ascending}
use Rattle.object.specs.Row.{is_zero, both_zero, acted, may_end, ends, next_phase, bad_arrival, lines, refusal, answered, step_row}
use Rattle.object.specs.Steps.{RefusedExactly, AcceptedExactly, Completed, CompletesSo, CompletesExactly, ExpectCompletesNone, OwnToken, Arrived, ArrivesSo}
use Rattle.object.proofs.Row.{count_within, count_below}

-- ---- refused or accepted, exactly

module _ (o : Object) (slot : ℕ) (a : Act) where
  goes_up : ascending 0 (lines o slot a) ≡ true
  unfolding ascending
  goes_up = refl

  pub accepted_as : (r : Answer) → step_row o slot a ≡ Ok r → (refusal o slot a ≡ 0) × (r ≡ answered o slot a)
  unfolding step_row
  accepted_as r e = table.unless_ok (refusal o slot a) (answered o slot a) r e

  -- no line of an accepted step holds
  pub passes : refusal o slot a ≡ 0 → (i : ℕ) → (get_or (lines o slot a) i (false, 0)).0 ≡ false
  passes e i = none_at (lines o slot a) refl e i

pub refused_exactly : RefusedExactly
unfolding step_row
refused_exactly o slot a r = table.refused_exactly (lines o slot a) (answered o slot a) (goes_up o slot a) refl r

pub accepted_exactly : AcceptedExactly
unfolding step_row
accepted_exactly o slot a = table.answered_exactly (lines o slot a) (answered o slot a) (goes_up o slot a)

-- ---- a completed phase

pub zero_is : (z : ℤ) → is_zero z ≡ true → z ≡ pos 0
zero_is (pos n) e = ap pos (eqb-true n 0 e)
zero_is (negsuc n) e = cc

-- pending and transactions are both 0
both_zeros : (o : Object) → both_zero o ≡ true → (o.pending ≡ 0) × (o.tx ≡ pos 0)
both_zeros o e = (eqb-true o.pending 0 (and_left (eqb o.pending 0) (is_zero o.tx) e), zero_is o.tx (and_right (eqb o.pending 0) (is_zero o.tx) e))

-- an arrival or a complete moves neither the phase nor the live mark before a phase ends
end_keeps : (o : Object) (a : Act) → may_end a ≡ true → ((acted o a).phase ≡ o.phase) × ((acted o a).live ≡ o.live)
end_keeps o (Init n) e = (cc, cc)
end_keeps o Inval e = (cc, cc)
end_keeps o (Arrive n drop x quiet) e = (refl, refl)
end_keeps o (Expect x) e = (cc, cc)
end_keeps o (Complete x) e = (refl, refl)
end_keeps o (Token t) e = (cc, cc)
end_keeps o (Parity p) e = (cc, cc)

module _ (o : Object) (a : Act) (h : ends o a ≡ true) where
  ended : Completed o a (next_phase (acted o a))
  ended =
      let m = and_left (may_end a) (both_zero (acted o a)) h in
      let b = and_right (may_end a) (both_zero (acted o a)) h in
      record {
        may = m;
        live = (end_keeps o a m).1;
        phase = ap (λ (p : ℕ). p + 1) (end_keeps o a m).0;
        expected = refl;
        pending = refl;
        tx = (both_zeros (acted o a) b).1;
        seen = refl;
      }

pub completes_so : CompletesSo
completes_so o slot a r e d =
    let k = (accepted_as o slot a r e).1 in
    let q : ends o a ≡ true = ap (λ (x : Answer). x.done) (sym k) ∙ d in
    rw (k, q) (ended o a q)

pub completes_exactly : CompletesExactly
completes_exactly o slot a r m e =
    let q : r.done ≡ both_zero (acted o a) = rw m at (ap (λ (x : Answer). x.done) (accepted_as o slot a r e).1) in
    (λ h. both_zeros (acted o a) (sym q ∙ h), λ z. q ∙ rw (z.0, z.1))

pub expect_completes_none : ExpectCompletesNone
expect_completes_none o slot x r e = ap (λ (y : Answer). y.done) (accepted_as o slot (Expect x) r e).1

-- ---- a test by token

pub own_token : OwnToken
own_token o slot t r e =
    let b = passes o slot (Token t) (accepted_as o slot (Token t) r e).0 7 in
    grind (arith, b)

-- ---- an arrival that completes no phase

arrived : (o : Object) (n : ℕ) (drop : Bool) (x : ℕ) (quiet : Bool) → bad_arrival o n drop ≡ false → Arrived o n drop x (acted o (Arrive n drop x quiet))
arrived o n true x quiet h =
    let p = count_within o n true h in
    let q = count_below o n h in
    record { pending = omega arith; expected = omega arith; tx = refl; live = refl; phase = refl; seen = refl }
arrived o n false x quiet h = let p = count_within o n false h in record { pending = omega arith; expected = omega arith; tx = refl; live = refl; phase = refl; seen = refl }

pub arrives_so : ArrivesSo
arrives_so o slot n drop x quiet r e d =
    let k = accepted_as o slot (Arrive n drop x quiet) r e in
    let q : ends o (Arrive n drop x quiet) ≡ false = ap (λ (y : Answer). y.done) (sym k.1) ∙ d in
    rw (k.1, q) (arrived o n drop x quiet (passes o slot (Arrive n drop x quiet) k.0 2))
