-- Whole tables, when they are sound, and the tally: document 01, "The tables".
-- Assumes nothing.
use Rattle.std.specs.Prelude.{Bool, true, false, cond, ◌&&◌, List, ℕ, ◌+◌, ◌/◌, eqb, length, get_or, replicate, Ok, Err}
use Rattle.refusals.specs.Refusals.{number}
use Rattle.folds.specs.Folds.{all}
use Rattle.steps.specs.declared.Op.{Op}
use Rattle.steps.specs.declared.Op.TheVariants as op
use Rattle.steps.specs.declared.Step.{Step}
use Rattle.object.specs.declared.Object.{Object}
use Rattle.object.specs.Tokens.{slots}
use Rattle.object.specs.Row.{dead}
use Rattle.object.specs.Soundness.{sound_row}
use Rattle.block.specs.declared.Block.{Block}
use Rattle.block.specs.Verdicts.{Verdict}
use Rattle.block.specs.Tables.{barrier_count, warp_at, barrier_at, live_of, sound_block, fresh_block}
use Rattle.barrier_row.specs.Rows.{largest}
use Rattle.block_steps.specs.Changes.{first_opening}
use Rattle.tables.specs.declared.Seen.{Seen}
use Rattle.tables.specs.declared.Tally.{Tally}

-- the number of warps, the warp rows and the barrier rows; and the list of object rows
pub record Tables : Type 0 where
  pub block : Block
  pub objects : List Object

-- the list has 64 records, and each is sound
abbrev pub sound_objects : List Object → Bool
sound_objects l = eqb (length l) slots && all slots (λ i. sound_row (get_or l i dead))

-- the tables are sound
abbrev pub sound_tables : Tables → Bool
sound_tables t = sound_block t.block && sound_objects t.objects

-- fresh tables: every warp ready with result 0, barrier rows idle, objects dead
abbrev pub fresh_tables : ℕ → Tables
fresh_tables n = record { block = fresh_block n; objects = replicate slots dead }

-- ---- what a step sees of the tables

-- an object has 8 bytes, and the last is at 504
abbrev pub object_size : ℕ
object_size = 8

abbrev pub last_address : ℕ
last_address = 504

-- the slot of the object that a step names: its address divided by 8; a step that names no object has none
abbrev pub slot_of : Op → ℕ
slot_of op.Exit = slots
slot_of (op.Barrier k b) = slots
slot_of (op.Object a o) = a / object_size
slot_of (op.PendingCount t) = slots

-- an exit
abbrev pub is_exit : Op → Bool
is_exit op.Exit = true
is_exit (op.Barrier k b) = false
is_exit (op.Object a o) = false
is_exit (op.PendingCount t) = false

-- the barrier that a step names; 16, which there is not, where it names none
abbrev pub named_barrier : Op → ℕ
named_barrier op.Exit = barrier_count
named_barrier (op.Barrier k b) = k
named_barrier (op.Object a o) = barrier_count
named_barrier (op.PendingCount t) = barrier_count

-- the barrier whose row a step of warp w may change, where those of live have not exited: the one that an exit completes, 16 if it completes none; of any other step the one that it names
abbrev pub barrier_for : ℕ → Block → ℕ → Op → ℕ
barrier_for live b w o = cond (is_exit o) (first_opening b.barriers live w) (named_barrier o)

-- what a step sees of a block of tables that are sound or not, of whose warps those of live have not exited
abbrev pub seen_of : Bool → ℕ → Block → Step → Seen
seen_of sound live b s =
    let k = barrier_for live b s.warp s.op in
    record { sound = sound; warps = b.warps; live = live; warp = warp_at b s.warp; at = k; barrier = barrier_at b k }

-- whether the tables are sound, the block, and the row of the object that the step names
pub record View : Type 0 where
  pub sound : Bool
  pub block : Block
  pub object : Object

abbrev pub view_of : Tables → Step → View
view_of t s = record { sound = sound_tables t; block = t.block; object = get_or t.objects (slot_of s.op) dead }

-- what a step sees of its view's block
abbrev pub seen_by : View → Step → Seen
seen_by v s = seen_of v.sound (live_of v.block) v.block s

-- ---- what a verdict says

-- its number, 0 where it is accepted
abbrev pub number_of : Verdict → ℕ
number_of (Err r) = number r
number_of (Ok a) = 0

-- whether it is accepted
abbrev pub is_accepted : Verdict → Bool
is_accepted (Err r) = false
is_accepted (Ok a) = true

-- every refusal answers value 0, done 0, released none
abbrev pub value_of : Verdict → ℕ
value_of (Err r) = 0
value_of (Ok a) = a.value

abbrev pub done_of : Verdict → Bool
done_of (Err r) = false
done_of (Ok a) = a.done

abbrev pub released_of : Verdict → ℕ
released_of (Err r) = 0
released_of (Ok a) = a.released

-- ---- the tally

-- one more; a number at 4,294,967,295 stays there
abbrev pub counted : ℕ → ℕ
counted n = cond (eqb n largest) n (n + 1)

-- each step adds one to the accepted or the refused number
abbrev pub tallied : Tally → Verdict → Tally
tallied y (Err r) = record { accepted = y.accepted; refused = counted y.refused }
tallied y (Ok a) = record { accepted = counted y.accepted; refused = y.refused }

abbrev pub fresh_tally : Tally
fresh_tally = record { accepted = 0; refused = 0 }
