-- Each demand by the laws that it is made of.
-- Assumes nothing.
use mathlib.Core.Path.{◌≡◌, refl, sym, ap, ◌∙◌}
use mathlib.Core.Logic.{◌↔◌, ◌⊎◌, inl, inr}
use mathlib.Core.Bool.{true}
use mathlib.Core.List.{List, Perm}
use Prim.Native.Nat.{ℕ, zero, suc, ◌-◌, ◌<◌, ◌^◌}
use native.Mathlib.Omega.{arith}
use mir.Val.{Val}
use denote.Laws.{Is}
use denote.Struct.Laws as LL
use denote.Enum.Laws as Le
use Rattle.folds.specs.Folds.{Line, lowest}
use Rattle.folds.specs.Lowest.{Lowest, ascending}
use Rattle.folds.proofs.Lowest.{lowest_given}
use Rattle.std.specs.Prelude.{Ok, Err}
use Rattle.refusals.specs.declared.Refusal.{Refusal}
use Rattle.refusals.specs.Refusals.{number}
use Rattle.refusals.proofs.Refusals.{refused_exactly}
use Rattle.steps.specs.declared.Step.{Step}
use Rattle.steps.specs.declared.Op.{Op}
use Rattle.steps.specs.declared.Op.TheVariants.{Exit, Barrier, Object, PendingCount}
use Rattle.steps.specs.declared.BarrierStep.{BarrierStep}
use Rattle.steps.specs.declared.BarrierStep.TheVariants as barrier
use Rattle.steps.specs.declared.ObjectStep.{ObjectStep}
use Rattle.steps.specs.declared.ObjectStep.TheVariants as object
use Rattle.steps.specs.Step.{read_lines, read_refusal, read_at}
use Rattle.steps.specs.Laws.{Fits}
use Rattle.steps.proofs.Laws as steps
use Rattle.steps.specs.contracts.Step as S
use Rattle.steps.proofs.Step.TheLaws as S'
use Rattle.steps.specs.contracts.Op as O
use Rattle.steps.proofs.Op.TheLaws as O'
use Rattle.steps.specs.contracts.BarrierStep as B
use Rattle.steps.proofs.BarrierStep.TheLaws as B'
use Rattle.steps.specs.contracts.ObjectStep as Y
use Rattle.steps.proofs.ObjectStep.TheLaws as Y'
use Rattle.object.specs.declared.Object as row
use Rattle.block.specs.Verdicts.{Verdict}
use Rattle.tables.specs.Tables.{Tables, is_accepted, done_of, view_of, number_of}
use Rattle.tables.specs.Refusals.{lines}
use Rattle.tables.specs.Effect.{verdict, State, run}
use Rattle.tables.proofs.Laws as tables
use Rattle.orders.specs.Due.{object_at, drops, Due}
use Rattle.orders.specs.Finishes.{finished, Finishes}
use Rattle.orders.proofs.Step.{at_row}
use Rattle.orders.proofs.Orders as orders
use Rattle.lent.specs.Entries.{fresh_lines, fresh_refusal}
use Rattle.lent.proofs.Laws as lent
use Rattle.demands.specs.Demands.{EveryStepFits, Demand1, Demand2, Demand3}

-- ---- the lowest line, of a table whose numbers go up

given : (ls : List Line) → ascending 0 ls ≡ true → (n : ℕ) → lowest ls ≡ n → (n ≡ 0) ⊎ Lowest ls n
given ls up zero e = inl refl
given ls up (suc n) e = inr ((lowest_given ls up (suc n) (omega arith)).0 e)

-- ---- demand 1

answered : (t : Tables) (s : Step) → (v : Verdict) → verdict t s ≡ v → (is_accepted v ≡ true) ⊎ Lowest (lines (view_of t s) s) (number_of v)
answered t s (Ok a) e = inl refl
answered t s (Err r) e = inr ((tables.refused_exactly t s r).0 e)

pub demand1 : Demand1
unfolding ascending fresh_refusal
demand1 = record {
  bytes = λ s at. given (read_lines s at) refl (read_refusal s at) refl;
  tables = λ t s. answered t s (verdict t s) refl;
  fresh = λ rows w. given (fresh_lines rows w) refl (fresh_refusal rows w) refl;
  step_alone = lent.one_answer;
  fresh_alone = lent.one_fresh_answer;
  refused = lent.refused_leaves;
}

-- ---- demand 2: the widths of a step's fields

barrier_fits : (w k : ℕ) (b : BarrierStep) (v : List Val) → w < 2 ^ 8 → k < 2 ^ 8 → Is B.the_row b v → Fits (record { warp = w; op = Barrier k b })
barrier_fits w k barrier.SyncAll v f g is = (f, (g, (omega arith, (omega arith, (omega arith, tt)))))
barrier_fits w k (barrier.Sync t) v f g is = (f, (g, ((Le.owed B.the_type B'.the_laws (barrier.Sync t) v is).0.1, (omega arith, (omega arith, tt)))))
barrier_fits w k (barrier.Arrive t) v f g is = (f, (g, ((Le.owed B.the_type B'.the_laws (barrier.Arrive t) v is).0.1, (omega arith, (omega arith, tt)))))
barrier_fits w k (barrier.RedAll s m) v f g is =
    let q = Le.owed B.the_type B'.the_laws (barrier.RedAll s m) v is in
    (f, (g, (q.0.1, (q.1.0.1, (omega arith, tt)))))
barrier_fits w k (barrier.Red s t m) v f g is =
    let q = Le.owed B.the_type B'.the_laws (barrier.Red s t m) v is in
    (f, (g, (q.0.1, (q.1.0.1, (q.1.1.0.1, tt)))))

object_fits : (w a : ℕ) (y : ObjectStep) (v : List Val) → w < 2 ^ 8 → a < 2 ^ 16 → Is Y.the_row y v → Fits (record { warp = w; op = Object a y })
object_fits w a object.Inval v f g is = (f, (g, (omega arith, (omega arith, (omega arith, tt)))))
object_fits w a (object.Init n) v f g is = (f, (g, ((Le.owed Y.the_type Y'.the_laws (object.Init n) v is).0.1, (omega arith, (omega arith, tt)))))
object_fits w a (object.Arrive n) v f g is = (f, (g, ((Le.owed Y.the_type Y'.the_laws (object.Arrive n) v is).0.1, (omega arith, (omega arith, tt)))))
object_fits w a (object.ArriveNoComplete n) v f g is = (f, (g, ((Le.owed Y.the_type Y'.the_laws (object.ArriveNoComplete n) v is).0.1, (omega arith, (omega arith, tt)))))
object_fits w a (object.ArriveExpect n) v f g is = (f, (g, ((Le.owed Y.the_type Y'.the_laws (object.ArriveExpect n) v is).0.1, (omega arith, (omega arith, tt)))))
object_fits w a (object.Drop n) v f g is = (f, (g, ((Le.owed Y.the_type Y'.the_laws (object.Drop n) v is).0.1, (omega arith, (omega arith, tt)))))
object_fits w a (object.DropNoComplete n) v f g is = (f, (g, ((Le.owed Y.the_type Y'.the_laws (object.DropNoComplete n) v is).0.1, (omega arith, (omega arith, tt)))))
object_fits w a (object.DropExpect n) v f g is = (f, (g, ((Le.owed Y.the_type Y'.the_laws (object.DropExpect n) v is).0.1, (omega arith, (omega arith, tt)))))
object_fits w a (object.Expect n) v f g is = (f, (g, ((Le.owed Y.the_type Y'.the_laws (object.Expect n) v is).0.1, (omega arith, (omega arith, tt)))))
object_fits w a (object.Complete n) v f g is = (f, (g, ((Le.owed Y.the_type Y'.the_laws (object.Complete n) v is).0.1, (omega arith, (omega arith, tt)))))
object_fits w a (object.TestToken n) v f g is = (f, (g, ((Le.owed Y.the_type Y'.the_laws (object.TestToken n) v is).0.1, (omega arith, (omega arith, tt)))))
object_fits w a (object.TestParity n) v f g is = (f, (g, ((Le.owed Y.the_type Y'.the_laws (object.TestParity n) v is).0.1, (omega arith, (omega arith, tt)))))

op_fits : (w : ℕ) (o : Op) (v : List Val) → w < 2 ^ 8 → Is O.the_row o v → Fits (record { warp = w; op = o })
op_fits w Exit v f is = (f, (omega arith, (omega arith, (omega arith, (omega arith, tt)))))
op_fits w (Barrier k b) v f is = let q = Le.owed O.the_type O'.the_laws (Barrier k b) v is in barrier_fits w k b _ f q.0.1 q.1.0
op_fits w (Object a y) v f is = let q = Le.owed O.the_type O'.the_laws (Object a y) v is in object_fits w a y _ f q.0.1 q.1.0
op_fits w (PendingCount t) v f is = (f, ((Le.owed O.the_type O'.the_laws (PendingCount t) v is).0.1, (omega arith, (omega arith, (omega arith, tt)))))

pub every_step_fits : EveryStepFits
every_step_fits s (v, is) = let k = LL.owed S.the_type S'.the_laws s v is in op_fits s.warp s.op _ k.0.1 k.1.0

-- ---- demand 2: reading is refused exactly

unread : (s : List ℕ) (at : ℕ) (r : Refusal) → (read_at s at ≡ Err r) ↔ Lowest (read_lines s at) (number r)
unfolding read_at ascending
unread s at r = refused_exactly (read_lines s at) _ refl refl r

pub demand2 : Demand2
demand2 = record {
  unread = unread;
  refused = lent.refused_exactly;
  accepted = tables.accepted_exactly;
  effect = tables.accepted_does;
  written_read = λ s out at coded room. steps.written_read s out at (every_step_fits s coded) room;
  read_written = λ s at st c bytes e. (steps.read_written s at st c bytes e).same;
}

-- ---- demand 3

module _ (x : State) (a : ℕ) (l l' : List Step) (due : Due x.tables a l) (p : Perm l l') where
  finishes : Finishes x a l'
  finishes = orders.every_order x a l l' due p

  -- the object's row at the end
  end_row : object_at (run x l').tables a ≡ finished (object_at x.tables a) (drops l')
  end_row = ap (λ (y : State). object_at y.tables a) finishes.end ∙ at_row x.tables due.sound a (due.multiple, due.within) (finished (object_at x.tables a) (drops l'))

pub demand3 : Demand3
demand3 = record {
  accepted = λ x a l l' due p pre s post e. ap is_accepted ((finishes x a l l' due p).steps pre s post e);
  once = λ x a l l' due p pre s post e. ap done_of ((finishes x a l l' due p).steps pre s post e);
  phase = λ x a l l' due p. ap (λ (o : row.Object). o.phase) (end_row x a l l' due p);
  end = λ x a l l' l'' due p q. ap (λ (y : State). y.tables) (orders.same_end x a l l' l'' due p q);
  pending = λ x a l l' due p.
      ap (λ (o : row.Object). o.pending) (end_row x a l l' due p) ∙ ap (λ (n : ℕ). (object_at x.tables a).expected - n) (sym (orders.total_perm (λ r. r.drop) p));
  no = λ x a l l' due p pre s post e w ready o test. ((finishes x a l l' due p).no pre s post e w ready o test).0;
  yes = λ x a l l' due p. (finishes x a l l' due p).yes;
}
