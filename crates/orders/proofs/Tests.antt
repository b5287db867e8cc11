-- A test of a phase, on the row: no in that phase, yes in the next.
-- Assumes nothing.
use mathlib.Core.Path.{◌≡◌, refl, sym, ap, ◌∙◌}
use mathlib.Core.Bool.{Bool, true, false, not, and-false}
use Prim.Native.Nat.{ℕ, ◌+◌, ◌*◌, ◌/◌, ◌%◌, ◌<◌}
use native.Mathlib.Omega.{arith}
use borrow.Author.Tests.{eq-eqb, ne_eqb, le-ltb, lt-ltb, lt-leb}
use lib.Dec.{eqb}
use Rattle.folds.proofs.Cases.{◌&◌}
use Rattle.folds.specs.Folds.{digit}
use Rattle.steps.specs.declared.ObjectStep.{ObjectStep}
use Rattle.object.specs.declared.Object.{Object}
use Rattle.object.specs.declared.Act.{Act}
use Rattle.object.specs.declared.Act.TheVariants.{Token, Parity}
use Rattle.object.specs.Tokens.{slots, slot_unit, phase_unit, token_end, phase_in, slot_in}
use Rattle.object.specs.Row.{last_phase, told, token_says, parity_says, far_phase, ends, row_after, value_of, bad_token, lines}
use Rattle.tables.specs.Refusals.{act_of}
use Rattle.orders.specs.Finishes.{TestOf, by_token, by_parity}
use Rattle.orders.proofs.Clear.{Clear}

-- ---- a token of a phase

module _ (ph slot p : ℕ) (hs : slot < slots) (hp : p < slot_unit) where
  abbrev made : ℕ
  made = ph * phase_unit + slot * slot_unit + p

  made_small : ph < last_phase → made < token_end
  made_small h = omega arith

  made_slot : slot_in made ≡ slot
  made_slot = omega arith

  made_phase : phase_in made ≡ ph
  made_phase = omega arith

-- ---- what a test says of a row

-- the answer b, which no line refuses, and which no phase ends
pub record Says (o : Object) (slot : ℕ) (y : Act) (b : Bool) : Type 0 where
  pub clear : Clear (lines o slot y)
  pub value : value_of o slot y ≡ digit b
  pub done : ends o y ≡ false
  pub row : row_after o y ≡ told o b

module _ (o : Object) (slot : ℕ) (live : o.live ≡ true) where
  by_token_lem : (t : ℕ) (b : Bool) → t < token_end → slot_in t ≡ slot → far_phase o t ≡ false → token_says o t ≡ b → Says o slot (Token t) b
  by_token_lem t b small mine near says = record {
    clear = ap not live & refl & refl & refl & refl & refl & refl & good & refl & tt;
    value = ap digit says;
    done = refl;
    row = ap (told o) says;
  }
    where
      good : bad_token o slot (Token t) ≡ false
      good = rw (lt-leb token_end t small, eq-eqb (slot_in t) slot mine) near

  by_parity_lem : (p : ℕ) (b : Bool) → p < 2 → parity_says o p ≡ b → Says o slot (Parity p) b
  by_parity_lem p b small says = record {
    clear = ap not live & refl & refl & refl & refl & refl & refl & refl & le-ltb 1 p (omega arith) & tt;
    value = ap digit says;
    done = refl;
    row = ap (told o) says;
  }

module _ (a ph : ℕ) (slot : a / 8 < slots) (phase : ph < last_phase) (o : Object) (live : o.live ≡ true) where
  -- no, in the phase that is tested
  pub says_no : {q : ObjectStep} → TestOf a ph q → o.phase ≡ ph → Says o (a / 8) (act_of q) false
  says_no (by_token p h) e =
      let t = made ph (a / 8) p slot h in
      let f : phase_in t ≡ o.phase = made_phase ph (a / 8) p slot h ∙ sym e in
      by_token_lem o (a / 8) live t false (made_small ph (a / 8) p slot h phase) (made_slot ph (a / 8) p slot h)
      (rw (eq-eqb (phase_in t) o.phase f))
      (le-ltb (phase_in t) o.phase (omega arith))
  says_no by_parity e = by_parity_lem o (a / 8) live (ph % 2) false (omega arith) (rw (eq-eqb (ph % 2) (o.phase % 2) (omega arith)))

  -- yes, in the next
  pub says_yes : {q : ObjectStep} → TestOf a ph q → o.phase ≡ ph + 1 → Says o (a / 8) (act_of q) true
  says_yes (by_token p h) e =
      let t = made ph (a / 8) p slot h in
      let f : phase_in t + 1 ≡ o.phase = ap (λ (k : ℕ). k + 1) (made_phase ph (a / 8) p slot h) ∙ sym e in
      by_token_lem o (a / 8) live t true (made_small ph (a / 8) p slot h phase) (made_slot ph (a / 8) p slot h)
      (rw (eq-eqb (phase_in t + 1) o.phase f) (and-false (not (eqb (phase_in t) o.phase))))
      (lt-ltb (phase_in t) o.phase (omega arith))
  says_yes by_parity e =
      by_parity_lem o (a / 8) live (ph % 2) true (omega arith) (rw (ne_eqb (ph % 2) (o.phase % 2) (omega arith), ne_eqb o.phase 0 (omega arith)))
