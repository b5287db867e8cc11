-- Refused exactly, accepted exactly, and what a step leaves.
-- Assumes nothing.
use mathlib.Core.Path.{◌≡◌, refl, sym, ap, ◌∙◌}
use mathlib.Core.Bool.{Bool, true, false, cond}
use Prim.Native.Nat.{ℕ}
use native.Mathlib.Decide.{ℕ_discrete}
use native.Mathlib.Omega.{arith}
use borrow.Author.Tests.{ne_eqb}
use lib.Dec.{ltb}
use lib.ListN.{get_or, set}
use lib.Seq.{set-get_or, get_or-set_other}
use Rattle.folds.specs.Lowest.{ascending, Lowest, None}
use Rattle.folds.proofs.Folds.{none_at}
use Rattle.folds.proofs.Lowest.{lowest_given, none_given}
use Rattle.steps.specs.declared.Op.{Op}
use Rattle.steps.specs.declared.Op.TheVariants.{Exit, Barrier, Object, PendingCount}
use Rattle.steps.specs.declared.Step.{Step}
use Rattle.object.specs.Row.{dead}
use Rattle.block.specs.declared.Turn.{Turn}
use Rattle.std.specs.Prelude.{Ok, Err}
use Rattle.refusals.specs.declared.Refusal.{Refusal}
use Rattle.refusals.specs.Refusals.{number, named}
use Rattle.refusals.proofs.Refusals.{number_names, lowest_named, number_some}
use Rattle.block.specs.Verdicts.{Verdict, accepted}
use Rattle.block.specs.Verdicts as said
use Rattle.block.specs.Tables.{live_of, barrier_at}
use Rattle.barrier_row.specs.Rows as rows
use Rattle.block_steps.specs.Steps as barriers
use Rattle.tables.specs.declared.Taken.{Taken}
use Rattle.tables.specs.Tables.{View, view_of, slot_of, number_of, is_accepted, value_of, done_of, released_of}
use Rattle.tables.specs.Refusals.{call_of, lines, refusal}
use Rattle.tables.specs.Effect.{effect, refused, taken, verdict}
use Rattle.tables.specs.Laws.{NumberGiven, RefusedExactly, AcceptedExactly, AcceptedDoes, RefusedLeavesAll, ObjectsLeft}

-- ---- a verdict and its refusal number

accepted_turn : (b : Bool) (x y : Turn) → is_accepted x.verdict ≡ true → is_accepted y.verdict ≡ true → is_accepted (cond b x y).verdict ≡ true
accepted_turn true x y e f = e
accepted_turn false x y e f = f

-- what no line refuses is accepted
effect_accepted : (v : View) (w : ℕ) (o : Op) → is_accepted (effect v w o).verdict ≡ true
effect_accepted v w Exit =
    accepted_turn (ltb (barriers.opened (barriers.without v.block w)) 16)
    (barriers.completed (barriers.without v.block w) (barriers.opened (barriers.without v.block w)) (barrier_at (barriers.without v.block w) (barriers.opened (barriers.without v.block w))))
    (record { verdict = accepted 0 false 0; block = barriers.without v.block w }) refl refl
effect_accepted v w (Barrier k b) =
    let r = rows.arrived_row (barrier_at v.block k) w (call_of b) in
    accepted_turn (rows.completes (live_of v.block) r) (barriers.completed v.block k r) (barriers.goes_on v.block k r w (call_of b).waits) refl refl
effect_accepted v w (Object a o) = refl
effect_accepted v w (PendingCount t) = refl

-- true is not false
pub never : {A : Type 0} {b : Bool} → b ≡ true → b ≡ false → A
never p q = let z : ◌≡◌ {A = ℕ} 0 1 = cc in absurd (omega arith)

module _ (v : View) (s : Step) where
  goes_up : ascending 0 (lines v s) ≡ true
  unfolding ascending
  goes_up = refl

  -- a step with no number does its effect, and one with a number is refused with it
  of_none : refusal v s ≡ 0 → taken v s ≡ effect v s.warp s.op
  unfolding taken
  of_none e = rw e

  of_number : (refusal v s ≡ 0 → ⊥) → taken v s ≡ refused v (refusal v s)
  unfolding taken
  of_number h = rw (ne_eqb (refusal v s) 0 h)

  accepts : refusal v s ≡ 0 → is_accepted (taken v s).verdict ≡ true
  accepts e = ap (λ (x : Taken). is_accepted x.verdict) (of_none e) ∙ effect_accepted v s.warp s.op

  refuses : (refusal v s ≡ 0 → ⊥) → is_accepted (taken v s).verdict ≡ false
  refuses h = ap (λ (x : Taken). is_accepted x.verdict) (of_number h)

  pub free : is_accepted (taken v s).verdict ≡ true → refusal v s ≡ 0
  free e = go (ℕ_discrete (refusal v s) 0)
    where
      go : Dec (refusal v s ≡ 0) → refusal v s ≡ 0
      go (yes z) = z
      go (no h) = never e (refuses h)

  pub denied : is_accepted (taken v s).verdict ≡ false → taken v s ≡ refused v (refusal v s)
  denied e = of_number (λ z. never (accepts z) e)

  -- no line of an accepted step holds
  pub passes : is_accepted (taken v s).verdict ≡ true → (i : ℕ) → (get_or (lines v s) i (false, 0)).0 ≡ false
  unfolding refusal
  passes e i = none_at (lines v s) refl (free e) i

  pub does : is_accepted (taken v s).verdict ≡ true → taken v s ≡ effect v s.warp s.op
  does e = of_none (free e)

  -- the number of a refusal
  named_number : (refusal v s ≡ 0 → ⊥) → number (named (refusal v s)) ≡ refusal v s
  unfolding refusal
  named_number h = lowest_named (lines v s) refl h

  numbered : (r : Refusal) → (taken v s).verdict ≡ Err r → refusal v s ≡ number r
  numbered r e =
      let h : refusal v s ≡ 0 → ⊥ = λ z. never (accepts z) (ap is_accepted e) in
      let q : said.refused (refusal v s) ≡ Err r = ap (λ (x : Taken). x.verdict) (sym (of_number h)) ∙ e in
      let i : named (refusal v s) ≡ r = cc in
      sym (named_number h) ∙ ap number i

  refused_line : (r : Refusal) → (taken v s).verdict ≡ Err r → Lowest (lines v s) (number r)
  unfolding refusal
  refused_line r e = (lowest_given (lines v s) goes_up (number r) (number_some r)).0 (numbered r e)

  line_refused : (r : Refusal) → Lowest (lines v s) (number r) → (taken v s).verdict ≡ Err r
  unfolding refusal
  line_refused r w =
      let e = (lowest_given (lines v s) goes_up (number r) (number_some r)).1 w in
      ap (λ (x : Taken). x.verdict) (of_number (λ z. omega (arith, e, z, number_some r))) ∙ ap said.refused e ∙ ap Err (number_names r)

  none_accepted : None (lines v s) → is_accepted (taken v s).verdict ≡ true
  unfolding refusal
  none_accepted f = accepts ((none_given (lines v s) goes_up).1 f)

  accepted_none : is_accepted (taken v s).verdict ≡ true → None (lines v s)
  unfolding refusal
  accepted_none e = (none_given (lines v s) goes_up).0 (free e)

-- an accepted verdict has no number
no_number : (v : Verdict) → is_accepted v ≡ true → number_of v ≡ 0
no_number (Err r) e = cc
no_number (Ok a) e = refl

pub number_given : NumberGiven
number_given t s = go (ℕ_discrete (refusal (view_of t s) s) 0)
  where
    go : Dec (refusal (view_of t s) s ≡ 0) → number_of (taken (view_of t s) s).verdict ≡ refusal (view_of t s) s
    go (yes z) = no_number (verdict t s) (accepts (view_of t s) s z) ∙ sym z
    go (no h) = ap (λ (x : Taken). number_of x.verdict) (of_number (view_of t s) s h) ∙ named_number (view_of t s) s h

pub refused_exactly : RefusedExactly
refused_exactly t s r = (refused_line (view_of t s) s r, line_refused (view_of t s) s r)

pub accepted_exactly : AcceptedExactly
accepted_exactly t s = (accepted_none (view_of t s) s, none_accepted (view_of t s) s)

pub accepted_does : AcceptedDoes
accepted_does t s e = does (view_of t s) s e

-- ---- what a step leaves

pub refused_leaves_all : RefusedLeavesAll
refused_leaves_all t s e =
    let q = denied (view_of t s) s e in
    record {
      value = ap (λ (x : Taken). value_of x.verdict) q;
      done = ap (λ (x : Taken). done_of x.verdict) q;
      released = ap (λ (x : Taken). released_of x.verdict) q;
      tables =
          (λ i. record { block = (q i).block; objects = set t.objects (slot_of s.op) (q i).object })
          ∙ (λ i. record { block = t.block; objects = set-get_or t.objects (slot_of s.op) dead i });
    }

pub objects_left : ObjectsLeft
objects_left t s i h = get_or-set_other t.objects (slot_of s.op) i (taken (view_of t s) s).object dead h
