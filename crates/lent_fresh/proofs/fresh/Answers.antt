-- A refusal leaves the list and the tally; where no line refuses, the list has 64 rows, and as many are made dead.
-- Assumes nothing.
use mathlib.Core.Path.{◌≡◌, refl, sym, ap, ◌∙◌}
use mathlib.Core.Bool.{true, false}
use Prim.Native.Nat.{ℕ, zero, suc}
use native.Mathlib.Omega.{arith}
use lib.Dec.{eqb}
use borrow.Author.Tests.{eqb-true, ne_eqb}
use lib.ListN.{length, replicate}
use Rattle.std.specs.Prelude.{Result, is_err}
use Rattle.object.specs.Row.{dead}
use Rattle.refusals.specs.declared.Refusal.{Refusal}
use Rattle.refusals.specs.Refusals.{unless}
use Rattle.lent.specs.Entries.{fresh_refusal, turn_of}
use Rattle.lent.proofs.Entries.{all_there}
use Rattle.lent_fresh.proofs.fresh.Goals as goal

-- whether a number is given, by what is answered
given : (n : ℕ) (j : Result (Unit {0}) Refusal) → j ≡ unless n tt → (is_err j ≡ true → eqb n 0 ≡ false) × (is_err j ≡ false → eqb n 0 ≡ true)
given zero j e = (λ h. absurd (no h), λ h. refl)
  where
    no : is_err j ≡ true → ⊥
    no h = cc
given (suc n) j e = (λ h. ne_eqb (suc n) 0 (λ z. omega (arith, z)), λ h. absurd (no h))
  where
    no : is_err j ≡ false → ⊥
    no h = cc

pub returns-then-is_err : goal.returns-then-is_err
unfolding fresh_refusal
returns-then-is_err c =
    let a = c.args in
    let some : eqb (fresh_refusal (length a.objects.now) a.warps) 0 ≡ false = (given _ _ c.fresh_refusal-judged.ensures).0 (sym c.is_err.ensures.value ∙ c.if-is_err.true) in
    record {
      answer = c.fresh_turn.ensures ∙ ap (λ j. turn_of j a.warps) c.fresh_refusal-judged.ensures;
      objects = rw some;
      tally = rw some;
    }

pub returns : goal.returns
unfolding fresh_refusal
returns c =
    let a = c.args in
    let none : eqb (fresh_refusal (length a.objects.now) a.warps) 0 ≡ true = (given _ _ c.fresh_refusal-judged.ensures).1 (sym c.is_err.ensures.value ∙ c.if-is_err.false) in
    record {
      answer = c.fresh_turn-2.ensures ∙ ap (λ j. turn_of j a.warps) c.fresh_refusal-judged.ensures;
      objects = rw none (c.fresh_rows.ensures ∙ ap (λ (k : ℕ). replicate k dead) (all_there (length a.objects.now) a.warps (eqb-true _ 0 none)));
      tally = rw none c.fresh_tally.ensures;
    }
