-- One row of the tables: what an arrival finds in it and makes of it, whether it completes, and its result. Document 01, "Named barriers".
-- Assumes nothing.
use Rattle.std.specs.Prelude.{Bool, false, not, Option, Some, None, cond, ◌&&◌, ◌||◌, ℕ, ◌+◌, ◌*◌, ◌%◌, eqb, leb, ltb}
use Rattle.sets.specs.Sets.{digit, size, part, put}
use Rattle.block.specs.Tables.{lane_count, form_number, is_idle}
use Rattle.block.specs.declared.Form.{Form}
use Rattle.block.specs.declared.Form.TheVariants.{Idle, Plain, Popc, And, Or}
use Rattle.block.specs.declared.Barrier.{Barrier}
use Rattle.block.specs.declared.Call.{Call}

-- a row's thread count: 0 means all
abbrev pub count_of : Option ℕ → ℕ
count_of None = 0
count_of (Some t) = t

-- 7: threads given, and 0, no multiple of 32, or above 32 times the warps
abbrev pub bad_threads : ℕ → Option ℕ → Bool
bad_threads n None = false
bad_threads n (Some t) = eqb t 0 || (not (eqb (t % lane_count) 0) || ltb (lane_count * n) t)

-- 9: barrier active with another thread count or form
abbrev pub clashes : Barrier → Call → Bool
clashes r c =
    not (is_idle r.form)
    && (not (eqb r.threads (count_of c.threads)) || not (eqb (form_number r.form) (form_number c.form)))

-- the largest number of a row or a tally, at which a sum stays (in sound tables no row's sum reaches it)
abbrev pub largest : ℕ
largest = 4294967295

abbrev pub up_to_largest : ℕ → ℕ
up_to_largest n = cond (leb n largest) n largest

-- the barrier's row with warp w arrived
abbrev pub arrived_row : Barrier → ℕ → Call → Barrier
arrived_row r w c = record {
  form = c.form;
  threads = count_of c.threads;
  arrived = put r.arrived w;
  waiting = cond c.waits (put r.waiting w) r.waiting;
  trues = up_to_largest (r.trues + c.lanes);
}

-- a counted barrier completes when 32 times its arrivals equals the count, an all-thread barrier when every warp not exited has arrived
abbrev pub completes : ℕ → Barrier → Bool
completes live r = cond (eqb r.threads 0) (part live r.arrived) (eqb (lane_count * size r.arrived) r.threads)

-- the result: the true lanes, or 1 or 0 for all true or any true; 0 of a plain barrier
abbrev pub result_of : Barrier → ℕ
result_of r = result r.form
  where
    result : Form → ℕ
    result Idle = 0
    result Plain = 0
    result Popc = r.trues
    result And = digit (eqb r.trues (lane_count * size r.arrived))
    result Or = digit (ltb 0 r.trues)
