-- What settling answers of the row that an arrival or a complete leaves is what the step answers.
-- Assumes nothing.
use mathlib.Core.Path.{◌≡◌, refl, ◌∙◌}
use mathlib.Core.Bool.{Bool, true, false, cond, ◌&&◌}
use Prim.Native.Nat.{ℕ}
use lib.Dec.{eqb}
use Rattle.std.specs.Prelude.{Result, Ok, Err}
use Rattle.folds.specs.Folds.{lowest}
use Rattle.refusals.specs.declared.Refusal.{Refusal}
use Rattle.refusals.specs.declared.Refusal.TheVariants.{EndsQuietly, EndsLast}
use Rattle.refusals.specs.Refusals.{unless}
use Rattle.object.specs.declared.Object.{Object}
use Rattle.object.specs.declared.Act.{Act}
use Rattle.object.specs.declared.Answer.{Answer}
use Rattle.object.specs.Row.{last_phase, acted, both_zero, next_phase, may_end, value_of, no_complete, not_live, already_live, bad_count, out_of_range, unseen, bad_token, bad_parity, not_done, step_row}

-- what passed a test is no refusal
pub kept : (b : Bool) (e : Refusal) (x y : Object) → Ok x ≡ cond b (Err e) (Ok y) → (b ≡ false) × (x ≡ y)
kept true e x y q = (cc, cc)
kept false e x y q = (refl, cc)

-- a row that is left, where a phase ends or not, quietly or not, and is the last or not
ended : (both quiet last : Bool) (r : Object) (v : ℕ)
    → cond both (cond quiet (Err EndsQuietly) (cond last (Err EndsLast) (Ok (record { row = next_phase r; value = v; done = true })))) (Ok (not_done r v))
    ≡ unless (cond (quiet && both) 17 (cond (both && last) 18 0)) (record { row = cond both (next_phase r) r; value = v; done = both })
ended true true last r v = refl
ended true false true r v = refl
ended true false false r v = refl
ended false true last r v = refl
ended false false last r v = refl

-- where lines 12 to 16, 19 and 20 do not hold, a step that may end a phase answers what settling answers
module _ (o : Object) (slot : ℕ) (a : Act) where
  pub settles : not_live o a ≡ false → already_live o a ≡ false → bad_count o a ≡ false → out_of_range o a ≡ false → unseen o a ≡ false
      → bad_token o slot a ≡ false → bad_parity a ≡ false → may_end a ≡ true → {r : Result Answer Refusal}
      → r ≡ cond (both_zero (acted o a)) (cond (no_complete a) (Err EndsQuietly) (cond (eqb o.phase last_phase) (Err EndsLast) (Ok (record { row = next_phase (acted o a); value = value_of o slot a; done = true })))) (Ok (not_done (acted o a) (value_of o slot a)))
      → r ≡ step_row o slot a
  unfolding step_row lowest
  settles h12 h13 h14 h15 h16 h19 h20 m e =
      simp (h12, h13, h14, h15, h16, h19, h20, m)
      (e ∙ ended (both_zero (acted o a)) (no_complete a) (eqb o.phase last_phase) (acted o a) (value_of o slot a))
