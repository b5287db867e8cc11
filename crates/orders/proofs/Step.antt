-- A step on one object over whole tables.
-- Assumes nothing.
use mathlib.Core.Path.{◌≡◌, refl, ap, ◌∙◌}
use mathlib.Core.Bool.{true, false, not, ◌||◌}
use Prim.Native.Nat.{ℕ, ◌/◌, ◌%◌, ◌<◌, ◌≤◌}
use native.Mathlib.Decide.{ℕ_discrete, dec_lt}
use native.Mathlib.Omega.{arith}
use borrow.Author.Tests.{eqb-true, eq-eqb, ltb-true, lt-leb, le-ltb}
use lib.Dec.{eqb, leb, ltb}
use lib.ListN.{length, get_or, set, length-set, get_or-eq_default}
use lib.Seq.{get_or-set_same, get_or-set_other, set-set, set-get_or}
use Rattle.folds.proofs.Cases.{◌&◌}
use Rattle.folds.specs.Folds.{all}
use Rattle.folds.proofs.Folds.{and_left, and_right, all_at, all_of}
use Rattle.steps.specs.declared.ObjectStep.{ObjectStep}
use Rattle.object.specs.declared.Object.{Object}
use Rattle.object.specs.Tokens.{slots}
use Rattle.object.specs.Row as row
use Rattle.object.specs.Soundness.{sound_row}
use Rattle.block.specs.declared.Block.{Block}
use Rattle.block.specs.Verdicts as said
use Rattle.block.specs.Tables.{warp_at, is_ready, sound_block}
use Rattle.tables.specs.Tables.{Tables, sound_objects, sound_tables, view_of}
use Rattle.tables.specs.Refusals.{lines, refusal, act_of}
use Rattle.tables.specs.Effect.{effect, taken, verdict, after}
use Rattle.orders.specs.Due.{object_at, ready}
use Rattle.orders.specs.Finishes.{with_row, step_on}
use Rattle.orders.proofs.Clear.{Clear, clear_none}

-- ---- the tables with another row

-- the address of an object
abbrev pub Address : ℕ → Type 0
Address a = (a % 8 ≡ 0) × (a ≤ 504)

-- its slot is one of the 64
pub slot_below : (a : ℕ) → Address a → a / 8 < slots
slot_below a h = omega arith

good_address : (a : ℕ) → Address a → not (eqb (a % 8) 0) || ltb 504 a ≡ false
good_address a h = rw (eq-eqb (a % 8) 0 h.0, le-ltb 504 a h.1)

module _ (t : Tables) (sound : sound_tables t ≡ true) where
  rows_sound : sound_objects t.objects ≡ true
  rows_sound = and_right (sound_block t.block) (sound_objects t.objects) sound

  long : length t.objects ≡ slots
  long = eqb-true (length t.objects) slots (and_left (eqb (length t.objects) slots) (all slots (λ i. sound_row (get_or t.objects i row.dead))) rows_sound)

  -- past the end of the list stands the dead row
  pub past_end : (i : ℕ) → slots ≤ i → get_or t.objects i row.dead ≡ row.dead
  past_end i h = get_or-eq_default t.objects row.dead (rw long h)

  pub row_sound_lem : (i : ℕ) → sound_row (get_or t.objects i row.dead) ≡ true
  row_sound_lem i = by (dec_lt i slots)
    where
      by : Dec (i < slots) → sound_row (get_or t.objects i row.dead) ≡ true
      by (yes h) =
          all_at (λ i. sound_row (get_or t.objects i row.dead)) slots i h
          (and_right (eqb (length t.objects) slots) (all slots (λ i. sound_row (get_or t.objects i row.dead))) rows_sound)
      by (no f) = rw (past_end i (omega arith))

  module _ (a : ℕ) (good : Address a) (o : Object) where
    pub at_row : object_at (with_row t a o) a ≡ o
    at_row = get_or-set_same t.objects (a / 8) o row.dead (rw long (slot_below a good))

    -- a sound row keeps them sound
    pub with_sound : sound_row o ≡ true → sound_tables (with_row t a o) ≡ true
    with_sound h =
        rw (
          and_left (sound_block t.block) (sound_objects t.objects) sound,
          eq-eqb (length (set t.objects (a / 8) o)) slots (length-set t.objects (a / 8) o ∙ long),
        )
        (all_of (λ i. sound_row (get_or (set t.objects (a / 8) o) i row.dead)) slots each_row)
      where
        each_row : (i : ℕ) → i < slots → sound_row (get_or (set t.objects (a / 8) o) i row.dead) ≡ true
        each_row i l = by (ℕ_discrete i (a / 8))
          where
            by : Dec (i ≡ a / 8) → sound_row (get_or (set t.objects (a / 8) o) i row.dead) ≡ true
            by (yes e) = rw (e, at_row) h
            by (no f) = rw (get_or-set_other t.objects (a / 8) i o row.dead f) (row_sound_lem i)

pub with_with : (t : Tables) (a : ℕ) (o o' : Object) → with_row (with_row t a o) a o' ≡ with_row t a o'
with_with t a o o' = λ i. record { block = t.block; objects = set-set t.objects (a / 8) o o' i }

pub with_same : (t : Tables) (a : ℕ) → with_row t a (object_at t a) ≡ t
with_same t a = λ i. record { block = t.block; objects = set-get_or t.objects (a / 8) row.dead i }

-- ---- a step that no line refuses

-- a ready warp passes lines 4 and 5
module _ (b : Block) (w : ℕ) (h : ready b w ≡ true) where
  there : leb b.warps w ≡ false
  there = lt-leb b.warps w (ltb-true w b.warps (and_left (ltb w b.warps) _ h))

  is_ready_lem : not (is_ready (warp_at b w).status) ≡ false
  is_ready_lem = ap not (and_right (ltb w b.warps) _ h)

module _ (t : Tables) (sound : sound_tables t ≡ true) (a : ℕ) (good : Address a) (w : ℕ) (h : ready t.block w ≡ true)
    (o : ObjectStep) (c : Clear (row.lines (object_at t a) (a / 8) (act_of o)))
  where
    accepted : refusal (view_of t (step_on w a o)) (step_on w a o) ≡ 0
    unfolding refusal
    accepted =
        clear_none (lines (view_of t (step_on w a o)) (step_on w a o))
        (ap not sound & there t.block w h & is_ready_lem t.block w h & refl & refl & refl & refl & refl & good_address a good & c)

    takes_effect : taken (view_of t (step_on w a o)) (step_on w a o) ≡ effect (view_of t (step_on w a o)) w (step_on w a o).op
    unfolding taken
    takes_effect = rw accepted

    pub says : verdict t (step_on w a o) ≡ said.accepted (row.value_of (object_at t a) (a / 8) (act_of o)) (row.ends (object_at t a) (act_of o)) 0
    says = ap (λ r. r.verdict) takes_effect

    pub leaves : after t (step_on w a o) ≡ with_row t a (row.row_after (object_at t a) (act_of o))
    leaves = λ i. record { block = (takes_effect i).block; objects = set t.objects (a / 8) (takes_effect i).object }
