-- Done is 1 exactly when a named barrier or a phase completes.
-- Assumes nothing.
use mathlib.Core.Path.{◌≡◌, refl, sym, ap, ◌∙◌, subst}
use mathlib.Core.Logic.{◌↔◌}
use mathlib.Core.Bool.{Bool, true, false, cond}
use mathlib.Core.List.{List}
use Prim.Native.Nat.{ℕ, ◌+◌, ◌/◌, ◌<◌}
use native.Mathlib.Omega.{arith}
use borrow.Author.Tests.{ltb-true, leb-false, eqb-true, not-true, not-false}
use lib.Dec.{eqb, ltb}
use lib.ListN.{length, get_or, set}
use lib.Seq.{get_or-set_same}
use Rattle.folds.proofs.Folds.{and_left, and_right, every_at}
use Rattle.steps.specs.declared.BarrierStep.{BarrierStep}
use Rattle.steps.specs.declared.ObjectStep.{ObjectStep}
use Rattle.steps.specs.declared.Op.{Op}
use Rattle.steps.specs.declared.Op.TheVariants.{Exit, Barrier, Object, PendingCount}
use Rattle.steps.specs.declared.Step.{Step}
use Rattle.object.specs.declared.Object as object
use Rattle.object.specs.declared.Act.{Act}
use Rattle.object.specs.declared.Act.TheVariants.{Init, Inval, Arrive, Expect, Complete, Token, Parity}
use Rattle.object.specs.Tokens.{slots}
use Rattle.object.specs.Row as row
use Rattle.block.specs.declared.Barrier.{Barrier as BarrierRow}
use Rattle.block.specs.declared.Block.{Block}
use Rattle.block.specs.declared.Turn.{Turn}
use Rattle.block.specs.Verdicts.{accepted}
use Rattle.block.specs.Tables.{barrier_count, idle, barrier_at, live_of, is_idle, sound_block}
use Rattle.barrier_row.specs.Rows as rows
use Rattle.block_steps.specs.Steps as barriers
use Rattle.block_laws.specs.Sound.{Shaped}
use Rattle.folds.proofs.General.{first_holds}
use Rattle.tables.specs.declared.Taken.{Taken}
use Rattle.tables.specs.Tables.{Tables, view_of, sound_objects, sound_tables, is_accepted, done_of}
use Rattle.tables.specs.Refusals.{call_of, act_of}
use Rattle.tables.specs.Effect.{verdict}
use Rattle.tables.specs.Laws.{Completes, DoneExactly}
use Rattle.tables.proofs.Chains.{form_selector, place_below}
use Rattle.tables.proofs.Laws.{never, passes, does}

-- ---- a named barrier

-- a turn that either completes barrier k, which it then leaves idle, or goes on with a row that is not idle
module _ (k : ℕ) (x y : Turn) (dx : done_of x.verdict ≡ true) (dy : done_of y.verdict ≡ false)
    (ix : is_idle (barrier_at x.block k).form ≡ true) (iy : is_idle (barrier_at y.block k).form ≡ false) where
  idle_done : (b : Bool) → (done_of (cond b x y).verdict ≡ true) ↔ (is_idle (barrier_at (cond b x y).block k).form ≡ true)
  idle_done true = (λ e. ix, λ e. dx)
  idle_done false = (λ e. never e dy, λ e. never e iy)

-- the row that was stored
stored : (bs : List BarrierRow) (k : ℕ) (r : BarrierRow) → length bs ≡ barrier_count → k < barrier_count → get_or (set bs k r) k idle ≡ r
stored bs k r e h = get_or-set_same bs k r idle (omega arith)

module _ (t : Tables) (w k : ℕ) (b : BarrierStep) (shaped : Shaped t.block)
    (ok : is_accepted (verdict t (record { warp = w; op = Barrier k b })) ≡ true) where
  barrier_done : (done_of (verdict t (record { warp = w; op = Barrier k b })) ≡ true) ↔ Completes t (record { warp = w; op = Barrier k b }) (Barrier k b)
  barrier_done =
      let s : Step = record { warp = w; op = Barrier k b } in
      let v = view_of t s in
      let no = passes v s ok in
      let r = rows.arrived_row (barrier_at t.block k) w (call_of b) in
      let low = leb-false barrier_count k (no 3) in
      let form : is_idle (call_of b).form ≡ false = form_selector b ∙ no 5 in
      subst (λ (x : Taken). (done_of x.verdict ≡ true) ↔ (is_idle (barrier_at x.block k).form ≡ true)) (sym (does v s ok))
      (idle_done k (barriers.completed t.block k r) (barriers.goes_on t.block k r w (call_of b).waits) refl refl
      (ap (λ (x : BarrierRow). is_idle x.form) (stored t.block.barriers k idle shaped.barriers low))
      (ap (λ (x : BarrierRow). is_idle x.form) (stored t.block.barriers k r shaped.barriers low) ∙ form)
      (rows.completes (live_of t.block) r))

-- ---- an exit

module _ (t : Tables) (w : ℕ) (ok : is_accepted (verdict t (record { warp = w; op = Exit })) ≡ true) where
  abbrev left : Block
  left = barriers.without t.block w

  abbrev Emptied : Turn → Type 0
  Emptied x = (k : ℕ) × (is_idle (barrier_at t.block k).form ≡ false) × (is_idle (barrier_at x.block k).form ≡ true)

  exit_turn : (shaped : Shaped t.block) (c : Bool) → ltb (barriers.opened left) barrier_count ≡ c
      → let x = cond c (barriers.completed left (barriers.opened left) (barrier_at left (barriers.opened left))) (record { verdict = accepted 0 false 0; block = left }) in
      (done_of x.verdict ≡ true) ↔ Emptied x
  exit_turn shaped true h =
      let k = barriers.opened left in
      let low = ltb-true k barrier_count h in
      let active = not-true (is_idle (barrier_at t.block k).form) (every_at _ (first_holds (λ j. barriers.opens left j) barrier_count low) 0) in (
        λ e. (k, active, ap (λ (x : BarrierRow). is_idle x.form) (stored t.block.barriers k idle shaped.barriers low)),
        λ e. refl,
      )
  exit_turn shaped false h = (λ e. never e refl, λ e. never e.2 e.1)

  exit_done : Shaped t.block → (done_of (verdict t (record { warp = w; op = Exit })) ≡ true) ↔ Completes t (record { warp = w; op = Exit }) Exit
  exit_done shaped =
      let s : Step = record { warp = w; op = Exit } in
      subst (λ (x : Taken). (done_of x.verdict ≡ true) ↔ ((k : ℕ) × (is_idle (barrier_at t.block k).form ≡ false) × (is_idle (barrier_at x.block k).form ≡ true)))
      (sym (does (view_of t s) s ok))
      (exit_turn shaped (ltb (barriers.opened left) barrier_count) refl)

-- ---- an object

-- a step moves no phase before a phase ends, or makes a row of phase 0
acted_phase : (o : object.Object) (a : Act) → (row.acted o a).phase ≡ o.phase + 1 → ⊥
acted_phase o (Init n) e = omega arith
acted_phase o Inval e = omega arith
acted_phase o (Arrive n drop x quiet) e = omega arith
acted_phase o (Expect x) e = omega arith
acted_phase o (Complete x) e = omega arith
acted_phase o (Token t) e = omega arith
acted_phase o (Parity p) e = omega arith

ended_phase : (o : object.Object) (a : Act) → row.may_end a ≡ true → (row.acted o a).phase ≡ o.phase
ended_phase o (Init n) e = cc
ended_phase o Inval e = cc
ended_phase o (Arrive n drop x quiet) e = refl
ended_phase o (Expect x) e = refl
ended_phase o (Complete x) e = refl
ended_phase o (Token t) e = refl
ended_phase o (Parity p) e = refl

phase_up : (o : object.Object) (a : Act) → (row.ends o a ≡ true) ↔ ((row.row_after o a).phase ≡ o.phase + 1)
phase_up o a = go (row.ends o a) refl
  where
    go : (b : Bool) → row.ends o a ≡ b → (b ≡ true) ↔ ((cond b (row.next_phase (row.acted o a)) (row.acted o a)).phase ≡ o.phase + 1)
    go true e = (λ q. ap (λ (p : ℕ). p + 1) (ended_phase o a (and_left (row.may_end a) (row.both_zero (row.acted o a)) e)), λ q. refl)
    go false e = (λ q. never q refl, λ q. absurd (acted_phase o a q))

module _ (t : Tables) (w a : ℕ) (o : ObjectStep) (ok : is_accepted (verdict t (record { warp = w; op = Object a o })) ≡ true) where
  object_done : (done_of (verdict t (record { warp = w; op = Object a o })) ≡ true) ↔ Completes t (record { warp = w; op = Object a o }) (Object a o)
  object_done =
      let s : Step = record { warp = w; op = Object a o } in
      let v = view_of t s in
      let no = passes v s ok in
      let sound = and_right (sound_block t.block) (sound_objects t.objects) (not-false (sound_tables t) (no 0)) in
      let long = eqb-true (length t.objects) slots (and_left (eqb (length t.objects) slots) _ sound) in
      let place = place_below a (no 8) in
      let up = phase_up v.object (act_of o) in
      let own = get_or-set_same t.objects (a / 8) (row.row_after v.object (act_of o)) row.dead (omega arith) in
      subst (λ (x : Taken). (done_of x.verdict ≡ true) ↔ ((get_or (set t.objects (a / 8) x.object) (a / 8) row.dead).phase ≡ v.object.phase + 1)) (sym (does v s ok))
      (λ e. ap (λ (x : object.Object). x.phase) own ∙ up.0 e, λ e. up.1 (ap (λ (x : object.Object). x.phase) (sym own) ∙ e))

pub done_exactly : DoneExactly
done_exactly t s shaped ok = go s.op ok
  where
    go : (o : Op) → is_accepted (verdict t (record { warp = s.warp; op = o })) ≡ true
        → (done_of (verdict t (record { warp = s.warp; op = o })) ≡ true) ↔ Completes t (record { warp = s.warp; op = o }) o
    go Exit h = exit_done t s.warp h shaped
    go (Barrier k b) h = barrier_done t s.warp k b shaped h
    go (Object a o) h = object_done t s.warp a o h
    go (PendingCount x) h =
        let st : Step = record { warp = s.warp; op = PendingCount x } in
        (λ e. never e (ap (λ (y : Taken). done_of y.verdict) (does (view_of t st) st h)), λ e. absurd e)
