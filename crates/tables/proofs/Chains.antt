-- The lines of a step's kind, its own part of a step that no line refuses, and what holds of every step.
-- Assumes nothing.
use mathlib.Core.Path.{◌≡◌, refl, sym, ◌∙◌, subst}
use mathlib.Core.Bool.{Bool, true, false, not, cond, ◌||◌}
use mathlib.Core.List.{[], ◌∷◌}
use Prim.Native.Nat.{ℕ, ◌/◌, ◌%◌, ◌≤◌}
use borrow.Author.Tests.{eqb-true, ltb-false}
use lib.Dec.{eqb, ltb}
use Rattle.folds.specs.Folds.{lowest}
use Rattle.folds.proofs.Lowest.{joined_rest, joined_none}
use Rattle.steps.specs.declared.BarrierStep.{BarrierStep}
use Rattle.steps.specs.declared.BarrierStep.TheVariants.{SyncAll, Sync, Arrive, RedAll, Red}
use Rattle.steps.specs.declared.ObjectStep.{ObjectStep}
use Rattle.steps.specs.declared.Op.{Op}
use Rattle.steps.specs.declared.Op.TheVariants.{Exit, Barrier, Object, PendingCount}
use Rattle.steps.specs.declared.Step.{Step}
use Rattle.object.specs.declared.Object as object
use Rattle.object.specs.declared.Answer.{Answer}
use Rattle.refusals.specs.declared.Refusal.{Refusal}
use Rattle.std.specs.Prelude.{Result, Ok, Err}
use Rattle.object.specs.Row as row
use Rattle.block.specs.Verdicts.{accepted}
use Rattle.block.specs.Tables.{is_idle}
use Rattle.block_steps.specs.Steps as barriers
use Rattle.barrier_calls.proofs.Calls.{selector_form}
use Rattle.tables.specs.declared.Seen.{Seen}
use Rattle.tables.specs.declared.Taken.{Taken}
use Rattle.tables.specs.Tables.{object_size, last_address, View, seen_by}
use Rattle.tables.specs.Refusals.{call_of, act_of, selector_of, bad_address, first, later, kind_lines, refusal}
use Rattle.tables.specs.Effect.{block_taken, effect, refused, taken}

-- ---- the lines of a kind

-- a step's selector is bad exactly when its call has no form
pub form_selector : (b : BarrierStep) → is_idle (call_of b).form ≡ selector_of b
form_selector SyncAll = refl
form_selector (Sync t) = refl
form_selector (Arrive t) = refl
form_selector (RedAll s m) = selector_form s
form_selector (Red s t m) = selector_form s

-- those of a named-barrier step are its call's
pub barrier_lines : (v : Seen) (o : object.Object) (w k : ℕ) (b : BarrierStep)
    → lowest (kind_lines v o (record { warp = w; op = Barrier k b })) ≡ lowest (barriers.call_lines v.warps v.barrier w k (call_of b))
unfolding lowest
barrier_lines v o w k b = rw (← form_selector b)

-- those of an object's step are its address's and the object's
pub object_lines : (v : Seen) (o : object.Object) (w a : ℕ) (x : ObjectStep)
    → lowest (kind_lines v o (record { warp = w; op = Object a x })) ≡ lowest ((bad_address a, 11) ∷ row.lines o (a / 8) (act_of x))
unfolding lowest
object_lines v o w a x = refl

-- an address that is not bad is at most 504
pub place_below : (a : ℕ) → bad_address a ≡ false → a ≤ last_address
place_below a e = ltb-false last_address a (or_right (not (eqb (a % object_size) 0)) (ltb last_address a) e)
  where
    or_right : (s t : Bool) → s || t ≡ false → t ≡ false
    or_right true t q = cc
    or_right false t q = q

-- ---- a step that no line refuses

-- an object's answer, which leaves the block
abbrev pub answered : View → Result Answer Refusal → Taken
answered v (Err r) = record { verdict = Err r; block = v.block; object = v.object }
answered v (Ok a) = record { verdict = accepted a.value a.done 0; block = v.block; object = a.row }

-- the kind's own part of a step
abbrev pub own : View → ℕ → Op → Taken
own v w Exit = block_taken v.object (barriers.exit v.block w)
own v w (Barrier k b) = block_taken v.object (barriers.arrival v.block w k (call_of b))
own v w (Object a o) = answered v (row.step_row v.object (a / 8) (act_of o))
own v w (PendingCount t) = effect v w (PendingCount t)

module _ (v : View) (w : ℕ) (o : Op) (e : refusal v (record { warp = w; op = o }) ≡ 0) where
  abbrev step : Step
  step = record { warp = w; op = o }

  abbrev seen : Seen
  seen = seen_by v step

  -- neither 4 or 5 nor a line of its kind applies
  parts_none : (lowest (barriers.exit_lines v.block w) ≡ 0) × (lowest (kind_lines seen v.object step) ≡ 0)
  unfolding refusal
  parts_none =
      let f = (joined_none (first seen v.object step) (later seen v.object step) refl e).0 in
      let p = joined_none ((not v.sound, 3) ∷ barriers.exit_lines v.block w) (kind_lines seen v.object step) refl f in
      ((joined_none ((not v.sound, 3) ∷ []) (barriers.exit_lines v.block w) refl p.0).1, p.1)

-- then its kind's own part is what it does
own_does : (v : View) (w : ℕ) (o : Op) → refusal v (record { warp = w; op = o }) ≡ 0 → own v w o ≡ effect v w o
unfolding barriers.exit barriers.arrival row.step_row
own_does v w Exit e = rw (parts_none v w Exit e).0
own_does v w (Barrier k b) e =
    let n = parts_none v w (Barrier k b) e in
    rw (joined_rest (barriers.exit_lines v.block w) _ refl n.0, sym (barrier_lines (seen_by v (record { warp = w; op = Barrier k b })) v.object w k b) ∙ n.1)
own_does v w (Object a o) e =
    let n = sym (object_lines (seen_by v (record { warp = w; op = Object a o })) v.object w a o) ∙ (parts_none v w (Object a o) e).1 in
    rw (joined_none ((bad_address a, 11) ∷ []) (row.lines v.object (a / 8) (act_of o)) refl n).1
own_does v w (PendingCount t) e = refl

-- ---- what holds of every step

-- what the kind's own part of a step has
abbrev pub Has : (Taken → Type 0) → View → ℕ → Op → Type 0
Has P v w o = P (own v w o)

-- what every refusal and the kind's own part have, the step has
pub taken_has : (P : Taken → Type 0) (v : View) (w : ℕ) (o : Op) → ((n : ℕ) → P (refused v n)) → Has P v w o → P (taken v (record { warp = w; op = o }))
unfolding taken
taken_has P v w o r h = go (eqb n 0) refl
  where
    n : ℕ
    n = refusal v (record { warp = w; op = o })

    go : (t : Bool) → eqb n 0 ≡ t → P (cond t (effect v w o) (refused v n))
    go true e = subst P (own_does v w o (eqb-true n 0 e)) h
    go false e = r n

-- unsound tables
pub taken_unsound : (v : View) (s : Step) → v.sound ≡ false → refused v 3 ≡ taken v s
unfolding taken refusal lowest
taken_unsound v s e = rw e
