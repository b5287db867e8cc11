-- Writing: each op's kind and numbers give it back, and the two cases of the place.
-- Assumes nothing.
use mathlib.Core.Path.{◌≡◌, refl, ap}
use mathlib.Core.List.{List}
use Prim.Native.Nat.{ℕ, suc, ◌+◌, ◌≤◌, ◌<◌}
use borrow.Author.Tests.{le-ltb, lt-ltb}
use lib.Dec.{lit<}
use lib.ListN.{length}
use lib.Seq.{sets}
use Rattle.std.specs.Prelude.{Ok, Err}
use Rattle.refusals.specs.declared.Refusal.TheVariants.{TooFewBytes}
use Rattle.fields.proofs.Num.{laid_fits, laid_short}
use Rattle.fields.proofs.Row.{length_encode}
use Rattle.steps.specs.declared.BarrierStep.TheVariants as barrier
use Rattle.steps.specs.declared.ObjectStep.TheVariants as object
use Rattle.steps.specs.declared.Op.{Op}
use Rattle.steps.specs.declared.Op.TheVariants.{Exit, Barrier, Object, PendingCount}
use Rattle.steps.specs.declared.Step.{Step}
use Rattle.steps.specs.Step.{row, length_of, step_of, op_kind, kind_of, op_values, values_of, bytes_of, write_at, written}

-- each op's kind is of some length, and the kind and the numbers give the op back
pub record Own (o : Op) : Type 0 where
  pub some : 0 < length_of (op_kind o)
  pub back : (w : ℕ) → step_of (op_kind o) (op_values w o) ≡ record { warp = w; op = o }

pub own : (o : Op) → Own o
own Exit = record { some = lit< tt; back = λ w. refl }
own (Barrier x barrier.SyncAll) = record { some = lit< tt; back = λ w. refl }
own (Barrier x (barrier.Sync t)) = record { some = lit< tt; back = λ w. refl }
own (Barrier x (barrier.Arrive t)) = record { some = lit< tt; back = λ w. refl }
own (Barrier x (barrier.RedAll s m)) = record { some = lit< tt; back = λ w. refl }
own (Barrier x (barrier.Red s t m)) = record { some = lit< tt; back = λ w. refl }
own (Object x (object.Init n)) = record { some = lit< tt; back = λ w. refl }
own (Object x object.Inval) = record { some = lit< tt; back = λ w. refl }
own (Object x (object.Arrive n)) = record { some = lit< tt; back = λ w. refl }
own (Object x (object.ArriveNoComplete n)) = record { some = lit< tt; back = λ w. refl }
own (Object x (object.ArriveExpect n)) = record { some = lit< tt; back = λ w. refl }
own (Object x (object.Drop n)) = record { some = lit< tt; back = λ w. refl }
own (Object x (object.DropNoComplete n)) = record { some = lit< tt; back = λ w. refl }
own (Object x (object.DropExpect n)) = record { some = lit< tt; back = λ w. refl }
own (Object x (object.Expect n)) = record { some = lit< tt; back = λ w. refl }
own (Object x (object.Complete n)) = record { some = lit< tt; back = λ w. refl }
own (Object x (object.TestToken t)) = record { some = lit< tt; back = λ w. refl }
own (Object x (object.TestParity p)) = record { some = lit< tt; back = λ w. refl }
own (PendingCount t) = record { some = lit< tt; back = λ w. refl }

module _ (s : Step) where
  pub size : length (bytes_of s) ≡ suc (length_of (kind_of s))
  size = ap suc (length_encode (row (kind_of s)) (values_of s))

  module _ (out : List ℕ) (at : ℕ) where
    pub no_room_lem : length out < at + length (bytes_of s) → (Err TooFewBytes ≡ write_at s out at) × (out ≡ written s out at)
    no_room_lem h = (rw (lt-ltb (length out) (at + length (bytes_of s)) h), laid_short out at (bytes_of s) h)

    pub has_room : at + length (bytes_of s) ≤ length out
        → (Ok (at + length (bytes_of s)) ≡ write_at s out at) × (sets out at (bytes_of s) ≡ written s out at)
    has_room h = (rw (le-ltb (length out) (at + length (bytes_of s)) h), laid_fits out at (bytes_of s) h)
