-- What the bytes of a step say: document 01, "Step bytes", and lines 1 and 2 of its refusal table.
-- Assumes nothing.
use Rattle.std.specs.Prelude.{ℕ, ◌+◌, Bool, cond, ◌&&◌, List, [], ◌∷◌, length, get_or, drop, ltb, eqb, Result, Ok, Err}
use Rattle.fields.specs.Num.{laid}
use Rattle.fields.specs.Row.{total, decode, encode}
use Rattle.folds.specs.Folds.{Line, lowest}
use Rattle.refusals.specs.declared.Refusal.{Refusal}
use Rattle.refusals.specs.declared.Refusal.TheVariants.{TooFewBytes}
use Rattle.refusals.specs.Refusals.{unless}
use Rattle.steps.specs.declared.BarrierStep.{BarrierStep}
use Rattle.steps.specs.declared.BarrierStep.TheVariants as barrier
use Rattle.steps.specs.declared.ObjectStep.{ObjectStep}
use Rattle.steps.specs.declared.ObjectStep.TheVariants as object
use Rattle.steps.specs.declared.Op.{Op}
use Rattle.steps.specs.declared.Op.TheVariants.{Exit, Barrier, Object, PendingCount}
use Rattle.steps.specs.declared.Step.{Step}
use Rattle.steps.specs.declared.Cursor.{Cursor}

-- ---- the table of kinds

-- the widths of the body's fields, kind by kind: the warp, and up to four more
abbrev pub rows : List (List ℕ)
rows =
    (0 ∷ 0 ∷ 0 ∷ 0 ∷ 0 ∷ []) ∷  -- 00 no kind
    (1 ∷ 0 ∷ 0 ∷ 0 ∷ 0 ∷ []) ∷  -- 01 exit
    (1 ∷ 1 ∷ 0 ∷ 0 ∷ 0 ∷ []) ∷  -- 02 sync, all: barrier
    (1 ∷ 1 ∷ 2 ∷ 0 ∷ 0 ∷ []) ∷  -- 03 sync: barrier, threads
    (1 ∷ 1 ∷ 2 ∷ 0 ∷ 0 ∷ []) ∷  -- 04 arrive: barrier, threads
    (1 ∷ 1 ∷ 1 ∷ 4 ∷ 0 ∷ []) ∷  -- 05 red, all: barrier, selector, mask
    (1 ∷ 1 ∷ 1 ∷ 2 ∷ 4 ∷ []) ∷  -- 06 red: barrier, selector, threads, mask
    (1 ∷ 2 ∷ 4 ∷ 0 ∷ 0 ∷ []) ∷  -- 07 init: address, count
    (1 ∷ 2 ∷ 0 ∷ 0 ∷ 0 ∷ []) ∷  -- 08 inval: address
    (1 ∷ 2 ∷ 4 ∷ 0 ∷ 0 ∷ []) ∷  -- 09 arrive: address, count
    (1 ∷ 2 ∷ 4 ∷ 0 ∷ 0 ∷ []) ∷  -- 0A arrive noComplete: address, count
    (1 ∷ 2 ∷ 4 ∷ 0 ∷ 0 ∷ []) ∷  -- 0B arrive with expect: address, transactions
    (1 ∷ 2 ∷ 4 ∷ 0 ∷ 0 ∷ []) ∷  -- 0C drop: address, count
    (1 ∷ 2 ∷ 4 ∷ 0 ∷ 0 ∷ []) ∷  -- 0D drop with expect: address, transactions
    (1 ∷ 2 ∷ 4 ∷ 0 ∷ 0 ∷ []) ∷  -- 0E expect: address, transactions
    (1 ∷ 2 ∷ 4 ∷ 0 ∷ 0 ∷ []) ∷  -- 0F complete: address, transactions
    (1 ∷ 2 ∷ 8 ∷ 0 ∷ 0 ∷ []) ∷  -- 10 test by token: address, token
    (1 ∷ 2 ∷ 1 ∷ 0 ∷ 0 ∷ []) ∷  -- 11 test by parity: address, parity
    (1 ∷ 8 ∷ 0 ∷ 0 ∷ 0 ∷ []) ∷  -- 12 pending count: token
    (1 ∷ 2 ∷ 4 ∷ 0 ∷ 0 ∷ []) ∷  -- 13 drop noComplete: address, count
    []

abbrev pub row : ℕ → List ℕ
row k = get_or rows k []

-- the length of a kind's body, 0 of an unknown kind
abbrev pub length_of : ℕ → ℕ
length_of k = total (row k)

-- what each kind makes of its fields after the warp
abbrev pub ops_of : ℕ → ℕ → ℕ → ℕ → List Op
ops_of a b c d =
    Exit ∷
    Exit ∷
    Barrier a barrier.SyncAll ∷
    Barrier a (barrier.Sync b) ∷
    Barrier a (barrier.Arrive b) ∷
    Barrier a (barrier.RedAll b c) ∷
    Barrier a (barrier.Red b c d) ∷
    Object a (object.Init b) ∷
    Object a object.Inval ∷
    Object a (object.Arrive b) ∷
    Object a (object.ArriveNoComplete b) ∷
    Object a (object.ArriveExpect b) ∷
    Object a (object.Drop b) ∷
    Object a (object.DropExpect b) ∷
    Object a (object.Expect b) ∷
    Object a (object.Complete b) ∷
    Object a (object.TestToken b) ∷
    Object a (object.TestParity b) ∷
    PendingCount a ∷
    Object a (object.DropNoComplete b) ∷
    []

abbrev pub op_of : ℕ → List ℕ → Op
op_of k vs = get_or (ops_of (get_or vs 1 0) (get_or vs 2 0) (get_or vs 3 0) (get_or vs 4 0)) k Exit

-- the step that a kind and its row of numbers say
abbrev pub step_of : ℕ → List ℕ → Step
step_of k vs = record { warp = get_or vs 0 0; op = op_of k vs }

-- ---- reading

-- the kind byte at a place
abbrev pub kind_at : List ℕ → ℕ → ℕ
kind_at s at = get_or s at 0

-- 1: unknown kind
abbrev pub unknown_kind : List ℕ → ℕ → Bool
unknown_kind s at = ltb at (length s) && eqb (length_of (kind_at s at)) 0

-- 2: fewer bytes left than the step needs (no byte left too)
abbrev pub too_few : List ℕ → ℕ → Bool
too_few s at = ltb (length s) (at + 1 + length_of (kind_at s at))

-- the two lines, of which the lowest is given
abbrev pub read_lines : List ℕ → ℕ → List Line
read_lines s at = (unknown_kind s at, 1) ∷ (too_few s at, 2) ∷ []

abbrev pub read_refusal : List ℕ → ℕ → ℕ
read_refusal s at = lowest (read_lines s at)

-- the step that stands at a place, with the place after it; or the refusal
unfoldable pub read_at : List ℕ → ℕ → Result (Step × Cursor) Refusal
read_at s at =
    let k = kind_at s at in
    unless (read_refusal s at) (step_of k (decode (row k) (drop (at + 1) s)), record { at = at + 1 + length_of k })

-- ---- writing

-- the kind of a step
abbrev pub barrier_kind : BarrierStep → ℕ
barrier_kind barrier.SyncAll = 2
barrier_kind (barrier.Sync t) = 3
barrier_kind (barrier.Arrive t) = 4
barrier_kind (barrier.RedAll s m) = 5
barrier_kind (barrier.Red s t m) = 6

abbrev pub object_kind : ObjectStep → ℕ
object_kind (object.Init n) = 7
object_kind object.Inval = 8
object_kind (object.Arrive n) = 9
object_kind (object.ArriveNoComplete n) = 10
object_kind (object.ArriveExpect n) = 11
object_kind (object.Drop n) = 12
object_kind (object.DropExpect n) = 13
object_kind (object.Expect n) = 14
object_kind (object.Complete n) = 15
object_kind (object.TestToken t) = 16
object_kind (object.TestParity p) = 17
object_kind (object.DropNoComplete n) = 19

abbrev pub op_kind : Op → ℕ
op_kind Exit = 1
op_kind (Barrier x b) = barrier_kind b
op_kind (Object x o) = object_kind o
op_kind (PendingCount t) = 18

abbrev pub kind_of : Step → ℕ
kind_of s = op_kind s.op

-- the row of a step's numbers: the warp w, the barrier or address x, and what the kind has besides
abbrev pub barrier_values : ℕ → ℕ → BarrierStep → List ℕ
barrier_values w x barrier.SyncAll = w ∷ x ∷ 0 ∷ 0 ∷ 0 ∷ []
barrier_values w x (barrier.Sync t) = w ∷ x ∷ t ∷ 0 ∷ 0 ∷ []
barrier_values w x (barrier.Arrive t) = w ∷ x ∷ t ∷ 0 ∷ 0 ∷ []
barrier_values w x (barrier.RedAll s m) = w ∷ x ∷ s ∷ m ∷ 0 ∷ []
barrier_values w x (barrier.Red s t m) = w ∷ x ∷ s ∷ t ∷ m ∷ []

abbrev pub operand_of : ObjectStep → ℕ
operand_of (object.Init n) = n
operand_of object.Inval = 0
operand_of (object.Arrive n) = n
operand_of (object.ArriveNoComplete n) = n
operand_of (object.ArriveExpect n) = n
operand_of (object.Drop n) = n
operand_of (object.DropExpect n) = n
operand_of (object.Expect n) = n
operand_of (object.Complete n) = n
operand_of (object.TestToken t) = t
operand_of (object.TestParity p) = p
operand_of (object.DropNoComplete n) = n

abbrev pub object_values : ℕ → ℕ → ObjectStep → List ℕ
object_values w x o = w ∷ x ∷ operand_of o ∷ 0 ∷ 0 ∷ []

abbrev pub op_values : ℕ → Op → List ℕ
op_values w Exit = w ∷ 0 ∷ 0 ∷ 0 ∷ 0 ∷ []
op_values w (Barrier x b) = barrier_values w x b
op_values w (Object x o) = object_values w x o
op_values w (PendingCount t) = w ∷ t ∷ 0 ∷ 0 ∷ 0 ∷ []

abbrev pub values_of : Step → List ℕ
values_of s = op_values s.warp s.op

-- the bytes of a step: its kind, and its numbers at their widths
abbrev pub bytes_of : Step → List ℕ
bytes_of s = kind_of s ∷ encode (row (kind_of s)) (values_of s)

-- 2: fewer bytes left than the step needs
abbrev pub no_room : Step → List ℕ → ℕ → Bool
no_room s out at = ltb (length out) (at + length (bytes_of s))

-- the place after the step, or the refusal
abbrev pub write_at : Step → List ℕ → ℕ → Result ℕ Refusal
write_at s out at = cond (no_room s out at) (Err TooFewBytes) (Ok (at + length (bytes_of s)))

-- the bytes afterwards: only the step's own change, and a refusal changes none
abbrev pub written : Step → List ℕ → ℕ → List ℕ
written s out at = laid out at (bytes_of s)
