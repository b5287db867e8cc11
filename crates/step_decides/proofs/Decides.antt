-- Laws of what a step decides: by the tests on the way to it, and what is left of a block.
-- Assumes nothing.
use mathlib.Core.Path.{◌≡◌, refl, sym, ap, ◌∙◌}
use mathlib.Core.Bool.{Bool, true, false, not, cond}
use mathlib.Core.List.{List, ◌∷◌, ◌++◌}
use Prim.Native.Nat.{ℕ, zero, suc, ◌/◌}
use native.Mathlib.Omega.{arith}
use lib.Dec.{eqb}
use borrow.Author.Tests.{ne_eqb}
use Rattle.std.specs.Prelude.{Ok, Err}
use Rattle.folds.specs.Folds.{Line, lowest}
use Rattle.folds.proofs.Lowest.{line_passed, joined_first, joined_rest}
use Rattle.refusals.specs.declared.Refusal.{Refusal}
use Rattle.refusals.specs.declared.Refusal.TheVariants.{Unsound, BadAddress}
use Rattle.refusals.specs.Refusals.{unless, judged}
use Rattle.refusals.proofs.Judged.{passed_unless, refused_unless, passed_none, refused_some}
use Rattle.steps.specs.declared.BarrierStep.{BarrierStep}
use Rattle.steps.specs.declared.ObjectStep.{ObjectStep}
use Rattle.steps.specs.declared.Step.{Step}
use Rattle.steps.specs.declared.Op.{Op}
use Rattle.steps.specs.declared.Op.TheVariants as op
use Rattle.object.specs.declared.Object.{Object}
use Rattle.object.specs.declared.Answer.{Answer}
use Rattle.object.specs.Row as row
use Rattle.block.specs.Tables.{live_of}
use Rattle.block.specs.declared.Block.{Block}
use Rattle.block.specs.declared.Call.{Call}
use Rattle.block.specs.Verdicts.{accepted}
use Rattle.block_steps.specs.declared.Moved.{Moved}
use Rattle.block_steps.specs.Steps.{warp_lines}
use Rattle.block_steps.specs.Changes as changes
use Rattle.block_steps.proofs.Changes.{unchanged, arrival_seen, exit_seen}
use Rattle.block_laws.specs.Sound.{Shaped}
use Rattle.tables.specs.declared.Seen.{Seen}
use Rattle.tables.specs.Tables.{View, seen_of}
use Rattle.tables.specs.Refusals.{call_of, act_of, bad_address, later, table, kind_lines, refusal}
use Rattle.tables.specs.Effect.{block_taken, effect, refused, taken}
use Rattle.tables.proofs.Chains.{barrier_lines}
use Rattle.step_decides.specs.Decides.{in_block, in_object, object_decided, pending_decided, does, kind_decided, decided_on, left_of, DecisionSeen}

-- ---- a decision, by the tests on the way to it

module _ (o : Object) (a : ℕ) (x : ObjectStep) where
  pub object_off_place : bad_address a ≡ true → Err BadAddress ≡ object_decided o a x
  unfolding object_decided lowest
  object_off_place e = rw e

  -- where the object refuses, so is the step; and what it answers is decided
  pub object_refused : (r : Refusal) → bad_address a ≡ false → Err r ≡ row.step_row o (a / 8) (act_of x) → Err r ≡ object_decided o a x
  unfolding object_decided row.step_row lowest
  object_refused r e h = rw e (refused_unless _ _ _ r h)

  pub object_answered : (y : Answer) → bad_address a ≡ false → Ok y ≡ row.step_row o (a / 8) (act_of x) → Ok (in_object y) ≡ object_decided o a x
  unfolding object_decided row.step_row lowest
  object_answered y e h = rw e (passed_unless _ _ in_object y h)

-- each kind, by its own lines
module _ (v : Seen) (o : Object) (w : ℕ) (x : Op) where
  abbrev step : Step
  step = record { warp = w; op = x }

  pub kind_exit : (m : Moved) → m ≡ changes.exiting v.barrier w v.at → x ≡ op.Exit → Ok (in_block m o) ≡ kind_decided v o step
  unfolding kind_decided lowest
  kind_exit m e kind = rw (kind, e)

  module _ (k : ℕ) (b : BarrierStep) (kind : x ≡ op.Barrier k b) (c : Call) (call : c ≡ call_of b) where
    pub kind_refused : (r : Refusal) → Err r ≡ changes.arrival_moved v.warps v.live v.barrier w k c → Err r ≡ kind_decided v o step
    unfolding kind_decided changes.arrival_moved
    kind_refused r e = rw (kind, barrier_lines v o w k b) (refused_unless _ _ _ r (rw call at e))

    pub kind_arrives : (m : Moved) → Ok m ≡ changes.arrival_moved v.warps v.live v.barrier w k c → Ok (in_block m o) ≡ kind_decided v o step
    unfolding kind_decided changes.arrival_moved
    kind_arrives m e = rw (kind, barrier_lines v o w k b) (passed_unless _ _ (λ y. in_block y o) m (rw call at e))

  pub kind_object : (a : ℕ) (y : ObjectStep) → x ≡ op.Object a y → object_decided o a y ≡ kind_decided v o step
  unfolding kind_decided object_decided lowest
  kind_object a y kind = rw kind

  pub kind_pending : (t : ℕ) → x ≡ op.PendingCount t → pending_decided o t ≡ kind_decided v o step
  unfolding kind_decided pending_decided lowest
  kind_pending t kind = rw kind

-- the table: 3, 4 and 5, then the lines of the kind
module _ (v : Seen) (o : Object) (s : Step) where
  abbrev first_three : List Line
  first_three = (not v.sound, 3) ∷ warp_lines v.warps v.warp s.warp

  abbrev rest : List Line
  rest = kind_lines v o s ++ later v o s

  pub decided_unsound : not v.sound ≡ true → Err Unsound ≡ decided_on v o s
  unfolding decided_on lowest
  decided_unsound e = rw e

  module _ (sound : not v.sound ≡ false) where
    abbrev n : ℕ
    n = lowest (warp_lines v.warps v.warp s.warp)

    warp_line : n ≡ lowest first_three
    warp_line = line_passed _ _ _ sound refl

    pub decided_no_warp : (r : Refusal) → Err r ≡ judged (warp_lines v.warps v.warp s.warp) → Err r ≡ decided_on v o s
    unfolding decided_on
    decided_no_warp r e = rw (← joined_first first_three rest refl warp_line (refused_some _ _ r e)) (refused_unless _ _ _ r e)

    pub decided_kind : Ok tt ≡ judged (warp_lines v.warps v.warp s.warp) → kind_decided v o s ≡ decided_on v o s
    unfolding decided_on kind_decided
    decided_kind e = rw (joined_rest first_three rest refl (sym warp_line ∙ passed_none _ _ _ e))

-- ---- what is left of a block

module _ (b : Block) (shaped : Shaped b) (sound : Bool) (o : Object) where
  abbrev view : View
  view = record { sound = sound; block = b; object = o }

  -- no change leaves the block
  left_still : (a : Answer) → left_of b o (Ok (in_object a)) ≡ record { verdict = accepted a.value a.done 0; block = b; object = a.row }
  left_still a = λ j. record { verdict = accepted a.value a.done 0; block = unchanged b j; object = a.row }

  -- what each kind does leaves its effect
  left_does : (w : ℕ) (x : Op) → left_of b o (Ok (does (seen_of sound (live_of b) b (record { warp = w; op = x })) o w x)) ≡ effect view w x
  left_does w op.Exit = ap (block_taken o) (exit_seen b w shaped.rows shaped.barriers)
  left_does w (op.Barrier k c) = ap (block_taken o) (arrival_seen b w k (call_of c) shaped.rows shaped.barriers)
  left_does w (op.Object a x) = left_still _
  left_does w (op.PendingCount t) = left_still _

pub decision_seen : DecisionSeen
unfolding decided_on taken refusal
decision_seen b shaped sound o s = go (lowest (table (seen_of sound (live_of b) b s) o s))
  where
    go : (n : ℕ)
        → left_of b o (unless n (does (seen_of sound (live_of b) b s) o s.warp s.op))
        ≡ cond (eqb n 0) (effect (view b shaped sound o) s.warp s.op) (refused (view b shaped sound o) n)
    go zero = left_does b shaped sound o s.warp s.op
    go (suc n) = rw (ne_eqb (suc n) 0 (λ z. omega arith))
