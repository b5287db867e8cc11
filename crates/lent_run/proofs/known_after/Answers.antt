-- `lent_run::known_after` meets its contract: by whether anything is known, and by the two tests.
-- Assumes nothing.
use mathlib.Core.Path.{◌≡◌, refl, ap, ap₂, ◌∙◌}
use mathlib.Core.Bool.{Bool, true, false, cond, ◌&&◌}
use Prim.Native.Nat.{ℕ}
use Rattle.std.specs.Prelude.{Ok, Err, Some, is_ok}
use Rattle.steps.specs.declared.Step.{Step}
use Rattle.sets.specs.Sets.{less}
use Rattle.block.specs.Verdicts.{Verdict}
use Rattle.tables.specs.Tables.{is_exit, is_accepted}
use Rattle.tables.specs.Effect.{live_after}
use Rattle.lent_run.specs.declared.Checked.{Checked}
use Rattle.lent_run.specs.Run.{checked_after}
use Rattle.lent_run.proofs.known_after.Goals as goal

accepts : (v : Verdict) → is_ok v ≡ is_accepted v
accepts (Ok a) = refl
accepts (Err r) = refl

-- who is live, by the two tests
module _ (live : ℕ) (s : Step) (v : Verdict) (x y : Bool) (exits : x ≡ is_exit s.op) (passes : y ≡ is_ok v) where
  tested : cond (x && y) (less live s.warp) live ≡ live_after live s v
  tested = ap₂ (λ (t u : Bool). cond (t && u) (less live s.warp) live) exits (passes ∙ accepts v)

  stay : x && y ≡ false → live ≡ live_after live s v
  stay h = rw h at tested

  leave : x && y ≡ true → less live s.warp ≡ live_after live s v
  leave h = rw h at tested

pub returns-in_default : goal.returns-in_default
unfolding checked_after
returns-in_default c = rw c.in_default.is

pub returns-then-not-is_exit-is_ok : goal.returns-then-not-is_exit-is_ok
unfolding checked_after
returns-then-not-is_exit-is_ok c =
    let a = c.args in
    rw c.in-Some.is (ap (λ (l : ℕ). record { live = Some l }) (stay _ a.s a.v _ _ c.is_exit.ensures c.is_ok.ensures.value c.if-not-is_exit-is_ok.true))

pub returns : goal.returns
unfolding checked_after
returns c =
    let a = c.args in
    rw c.in-Some.is
    (ap {B = Checked} (λ (l : ℕ). record { live = Some l }) (c.less.ensures ∙ leave _ a.s a.v _ _ c.is_exit.ensures c.is_ok.ensures.value c.if-not-is_exit-is_ok.false))
