-- A step keeps sound tables sound, and so does a run; a step leaves every barrier row but one, and who has not exited after it.
-- Assumes nothing.
use mathlib.Core.Path.{◌≡◌, refl, ap}
use mathlib.Core.Bool.{true, cond, and-false}
use mathlib.Core.List.{List, [], ◌∷◌}
use Prim.Native.Nat.{ℕ, ◌/◌, ◌<◌}
use native.Mathlib.Decide.{dec_lt, ℕ_discrete}
use native.Mathlib.Omega.{arith}
use borrow.Author.Tests.{eqb-true}
use lib.Dec.{eqb}
use lib.ListN.{length, get_or, set, length-set, get_or-eq_default}
use lib.Seq.{get_or-set_same, get_or-set_other}
use Rattle.std.specs.Prelude.{Some, None}
use Rattle.folds.specs.Folds.{all}
use Rattle.folds.proofs.Folds.{and_left, and_right, all_at, all_of}
use Rattle.sets.specs.Sets.{less}
use Rattle.steps.specs.declared.BarrierStep.{BarrierStep}
use Rattle.steps.specs.declared.BarrierStep.TheVariants.{SyncAll, Sync, Arrive, RedAll, Red}
use Rattle.steps.specs.declared.Op.{Op}
use Rattle.steps.specs.declared.Op.TheVariants.{Exit, Barrier, Object, PendingCount}
use Rattle.object.specs.declared.Object as object
use Rattle.object.specs.declared.Act.{Act}
use Rattle.object.specs.declared.Answer.{Answer}
use Rattle.refusals.specs.declared.Refusal.{Refusal}
use Rattle.std.specs.Prelude.{Result, Ok, Err}
use Rattle.object.specs.Tokens.{slots}
use Rattle.object.specs.Row as row
use Rattle.object.specs.Soundness.{sound_row}
use Rattle.object.proofs.Soundness as kept
use Rattle.block.specs.declared.Block.{Block}
use Rattle.block.specs.Verdicts.{Verdict}
use Rattle.block.specs.Tables.{barrier_at, live_of, sound_block}
use Rattle.block_steps.specs.Steps as barriers
use Rattle.block_laws.specs.Sound.{Shaped, Asks}
use Rattle.block_laws.proofs.Sound as sound
use Rattle.block_laws.proofs.Changes as changes
use Rattle.tables.specs.declared.Taken.{Taken}
use Rattle.tables.specs.Tables.{View, view_of, slot_of, is_exit, sound_objects, is_accepted}
use Rattle.tables.specs.Refusals.{call_of, act_of}
use Rattle.tables.specs.Effect.{taken, live_after, next}
use Rattle.tables.specs.Laws.{barrier_of, BarriersLeft, KeepsSound, RunKeepsSound, LiveFollowed}
use Rattle.tables.proofs.Chains.{answered, Has, taken_has}

-- ---- the object row

-- every row of a sound list is sound, and so is the dead row past its end
row_sound_lem : (l : List object.Object) → sound_objects l ≡ true → (i : ℕ) → sound_row (get_or l i row.dead) ≡ true
row_sound_lem l h i = go (dec_lt i slots)
  where
    go : Dec (i < slots) → sound_row (get_or l i row.dead) ≡ true
    go (yes k) = all_at (λ j. sound_row (get_or l j row.dead)) slots i k (and_right (eqb (length l) slots) (all slots (λ j. sound_row (get_or l j row.dead))) h)
    go (no k) =
        let e = eqb-true (length l) slots (and_left (eqb (length l) slots) (all slots (λ j. sound_row (get_or l j row.dead))) h) in
        rw (get_or-eq_default l row.dead {n = i} (omega arith))

-- a sound row stored in a sound list
objects_sound : (l : List object.Object) → sound_objects l ≡ true → (i : ℕ) (o : object.Object) → sound_row o ≡ true → sound_objects (set l i o) ≡ true
objects_sound l h i o k =
    rw (length-set l i o, and_left (eqb (length l) slots) _ h) (all_of (λ j. sound_row (get_or (set l i o) j row.dead)) slots (λ j q. at j q (ℕ_discrete j i)))
  where
    at : (j : ℕ) → j < slots → Dec (j ≡ i) → sound_row (get_or (set l i o) j row.dead) ≡ true
    at j q (yes e) =
        let long = eqb-true (length l) slots (and_left (eqb (length l) slots) (all slots (λ n. sound_row (get_or l n row.dead))) h) in
        rw (e, get_or-set_same l i o row.dead (omega arith)) k
    at j q (no e) = rw (get_or-set_other l i j o row.dead e) (row_sound_lem l h j)

-- the row of an answer to a step on a sound row
answer_sound : (v : View) (slot : ℕ) (x : Act) (a : Result Answer Refusal) → row.step_row v.object slot x ≡ a → sound_row v.object ≡ true
    → sound_row (answered v a).object ≡ true
answer_sound v slot x (Err r) e h = h
answer_sound v slot x (Ok a) e h = kept.keeps_sound v.object slot x a h e

object_sound : (v : View) (w : ℕ) (o : Op) → sound_row v.object ≡ true → sound_row (taken v (record { warp = w; op = o })).object ≡ true
object_sound v w o h = taken_has (λ (x : Taken). sound_row x.object ≡ true) v w o (λ n. h) (own o)
  where
    own : (o : Op) → Has (λ (x : Taken). sound_row x.object ≡ true) v w o
    own Exit = h
    own (Barrier k b) = h
    own (Object a x) = answer_sound v (a / 8) (act_of x) _ refl h
    own (PendingCount t) = h

-- ---- the block

-- every call that a step makes asks what the block's laws want
asks : (b : BarrierStep) → Asks (call_of b)
asks SyncAll = (sound.calls_ask).sync None
asks (Sync t) = (sound.calls_ask).sync (Some t)
asks (Arrive t) = (sound.calls_ask).arrive t
asks (RedAll s m) = (sound.calls_ask).red s None m
asks (Red s t m) = (sound.calls_ask).red s (Some t) m

-- an object's answer leaves the block
answer_block : (v : View) (a : Result Answer Refusal) → (answered v a).block ≡ v.block
answer_block v (Err r) = refl
answer_block v (Ok a) = refl

-- a step keeps the block's shape and its soundness
block_sound : (v : View) (w : ℕ) (o : Op) → Shaped v.block → sound_block v.block ≡ true
    → Shaped (taken v (record { warp = w; op = o })).block × (sound_block (taken v (record { warp = w; op = o })).block ≡ true)
block_sound v w o shaped h = taken_has (λ (x : Taken). Shaped x.block × (sound_block x.block ≡ true)) v w o (λ n. (shaped, h)) (own o)
  where
    own : (o : Op) → Has (λ (x : Taken). Shaped x.block × (sound_block x.block ≡ true)) v w o
    own Exit = ((sound.shape_kept).exit v.block w shaped, sound.exit_keeps_sound v.block w shaped h)
    own (Barrier k b) =
        ((sound.shape_kept).arrival v.block w k (call_of b) shaped, sound.arrival_keeps_sound v.block w k (call_of b) shaped (asks b) h)
    own (Object a x) = rw (answer_block v (row.step_row v.object (a / 8) (act_of x))) (shaped, h)
    own (PendingCount t) = (shaped, h)

pub keeps_sound : KeepsSound
keeps_sound t s h =
    let b = and_left (sound_block t.block) (sound_objects t.objects) h.sound in
    let o = and_right (sound_block t.block) (sound_objects t.objects) h.sound in
    let v = view_of t s in
    let after = block_sound v s.warp s.op h.shaped b in
    record {
      shaped = after.0;
      sound =
          rw (
            after.1,
            objects_sound t.objects o (slot_of s.op) (taken v s).object (object_sound v s.warp s.op (row_sound_lem t.objects o (slot_of s.op))),
          );
    }

pub run_keeps_sound : RunKeepsSound
run_keeps_sound x [] h = h
run_keeps_sound x (s ∷ l) h = run_keeps_sound (next x s) l (keeps_sound x.tables s h)

-- ---- who has not exited

-- after an exit, by its verdict
exit_live : (b : Block) (w : ℕ) → Shaped b → sound_block b ≡ true → (v : Verdict) → (barriers.exit b w).verdict ≡ v
    → live_of (barriers.exit b w).block ≡ cond (is_accepted v) (less (live_of b) w) (live_of b)
exit_live b w shaped h (Err r) e = ap live_of ((changes.refused_leave).exit b w r e)
exit_live b w shaped h (Ok a) e = changes.exit_takes_out b w shaped h a.value a.released a.done e

pub live_followed : LiveFollowed
live_followed t s h =
    taken_has (λ (x : Taken). live_of x.block ≡ live_after (live_of t.block) s x.verdict) (view_of t s) s.warp s.op
    (λ n. rw (and-false (is_exit s.op))) (own s.op)
  where
    ok : sound_block t.block ≡ true
    ok = and_left (sound_block t.block) (sound_objects t.objects) h.sound

    own : (o : Op) → Has (λ (x : Taken). live_of x.block ≡ live_after (live_of t.block) (record { warp = s.warp; op = o }) x.verdict) (view_of t s) s.warp o
    own Exit = exit_live t.block s.warp h.shaped ok (barriers.exit t.block s.warp).verdict refl
    own (Barrier k b) = changes.arrival_keeps_live t.block s.warp k (call_of b) ok
    own (Object a x) = ap live_of (answer_block (view_of t s) (row.step_row (view_of t s).object (a / 8) (act_of x)))
    own (PendingCount y) = refl

-- ---- barrier rows

pub barriers_left : BarriersLeft
barriers_left t s j h = taken_has (λ (x : Taken). barrier_at x.block j ≡ barrier_at t.block j) (view_of t s) s.warp s.op (λ n. refl) (own s.op h)
  where
    own : (o : Op) → (j ≡ barrier_of t.block s.warp o → ⊥) → Has (λ (x : Taken). barrier_at x.block j ≡ barrier_at t.block j) (view_of t s) s.warp o
    own Exit n = (changes.rows_left).exit t.block s.warp j n
    own (Barrier k b) n = (changes.rows_left).arrival t.block s.warp k j (call_of b) n
    own (Object a x) n = ap (λ (b : Block). barrier_at b j) (answer_block (view_of t s) (row.step_row (view_of t s).object (a / 8) (act_of x)))
    own (PendingCount y) n = refl
