-- When the block's tables are sound: document 01, "The tables", clause by clause in its order.
-- Assumes nothing.
use Rattle.std.specs.Prelude.{Bool, true, false, not, ◌&&◌, ◌||◌, [], ◌∷◌, ℕ, ◌*◌, ◌%◌, eqb, leb, ltb, get_or, replicate}
use Rattle.std.specs.Bool.{beq}
use Rattle.folds.specs.Folds.{all, every}
use Rattle.sets.specs.Sets.{set_of, has, size, within, part}
use Rattle.block.specs.declared.Status.{Status}
use Rattle.block.specs.declared.Status.TheVariants.{Ready, Waiting, Exited}
use Rattle.block.specs.declared.Form.{Form}
use Rattle.block.specs.declared.Form.TheVariants.{Idle, Plain, Popc, And, Or}
use Rattle.block.specs.declared.Warp.{Warp}
use Rattle.block.specs.declared.Barrier.{Barrier}
use Rattle.block.specs.declared.Block.{Block}

-- a block has at most 32 warps, a warp has 32 lanes, and there are sixteen named barriers
abbrev pub most_warps : ℕ
most_warps = 32

abbrev pub lane_count : ℕ
lane_count = 32

abbrev pub barrier_count : ℕ
barrier_count = 16

-- ---- rows

-- a ready warp with result 0: fresh, and past the list's end
abbrev pub fresh_warp : Warp
fresh_warp = record { status = Ready; result = 0 }

-- an idle barrier row: fresh, and past the list's end
abbrev pub idle : Barrier
idle = record { form = Idle; threads = 0; arrived = 0; waiting = 0; trues = 0 }

abbrev pub warp_at : Block → ℕ → Warp
warp_at b w = get_or b.rows w fresh_warp

abbrev pub barrier_at : Block → ℕ → Barrier
barrier_at b k = get_or b.barriers k idle

-- the forms, numbered: two are the same when their numbers are
abbrev pub form_number : Form → ℕ
form_number Idle = 0
form_number Plain = 1
form_number Popc = 2
form_number And = 3
form_number Or = 4

abbrev pub is_idle : Form → Bool
is_idle f = eqb (form_number f) 0

abbrev pub is_plain : Form → Bool
is_plain f = eqb (form_number f) 1

-- popc, and, or
abbrev pub is_reduction : Form → Bool
is_reduction f = ltb 1 (form_number f)

abbrev pub is_ready : Status → Bool
is_ready Ready = true
is_ready (Waiting at) = false
is_ready Exited = false

abbrev pub is_exited : Status → Bool
is_exited Ready = false
is_exited (Waiting at) = false
is_exited Exited = true

-- the warp waits at barrier k
abbrev pub waits_at : Status → ℕ → Bool
waits_at Ready k = false
waits_at (Waiting at) k = eqb at k
waits_at Exited k = false

-- the warps of the block that have not exited
abbrev pub live_of : Block → ℕ
live_of b = set_of most_warps (λ w. ltb w b.warps && not (is_exited (warp_at b w).status))

-- ---- the clauses

-- the number of warps is 1 to 32
abbrev pub warps_counted : Block → Bool
warps_counted b = leb 1 b.warps && leb b.warps most_warps

-- warp rows above it are ready with result 0
abbrev pub spare_fresh : ℕ → ℕ → Warp → Bool
spare_fresh n w r = ltb w n || (is_ready r.status && eqb r.result 0)

-- every warp set names only warps of the block
abbrev pub sets_inside : ℕ → Barrier → Bool
sets_inside n r = within n r.arrived && within n r.waiting

-- a warp is waiting at a barrier 0 to 15 only
abbrev pub waits_placed : Status → Bool
waits_placed Ready = true
waits_placed (Waiting at) = ltb at barrier_count
waits_placed Exited = true

-- and exactly when that barrier's waiting set has it
abbrev pub agrees_at : Block → ℕ → ℕ → Bool
agrees_at b k w = beq (has (barrier_at b k).waiting w) (waits_at (warp_at b w).status k)

-- waiting is part of arrived
abbrev pub waiting_arrived : Barrier → Bool
waiting_arrived r = part r.waiting r.arrived

-- idle rows are all zero
abbrev pub idle_zero : Barrier → Bool
idle_zero r =
    not (is_idle r.form)
    || every (eqb r.threads 0 ∷ eqb r.arrived 0 ∷ eqb r.waiting 0 ∷ eqb r.trues 0 ∷ [])

-- an active row has an arrival
abbrev pub active_arrived : Barrier → Bool
active_arrived r = is_idle r.form || not (eqb r.arrived 0)

-- and a thread count that is 0 or a multiple of 32 up to 32 times the warps
abbrev pub active_count : ℕ → Barrier → Bool
active_count n r = is_idle r.form || (eqb r.threads 0 || (eqb (r.threads % lane_count) 0 && leb r.threads (lane_count * n)))

-- with a count, 32 times the arrivals is less
abbrev pub count_open : Barrier → Bool
count_open r = is_idle r.form || (eqb r.threads 0 || ltb (lane_count * size r.arrived) r.threads)

-- with 0, some warp not exited hasn't arrived and every arrival waits
abbrev pub all_open : ℕ → Barrier → Bool
all_open live r = is_idle r.form || (not (eqb r.threads 0) || (not (part live r.arrived) && eqb r.waiting r.arrived))

-- reduction rows have every arrival waiting and at most 32 true lanes per arrival
abbrev pub reduction_waits : Barrier → Bool
reduction_waits r = not (is_reduction r.form) || (eqb r.waiting r.arrived && leb r.trues (lane_count * size r.arrived))

-- plain rows have 0 true lanes
abbrev pub plain_none : Barrier → Bool
plain_none r = not (is_plain r.form) || eqb r.trues 0

-- ---- the tables

-- a warp row of a block of n warps
abbrev pub warp_sound : ℕ → ℕ → Warp → Bool
warp_sound n w r = spare_fresh n w r && waits_placed r.status

-- a barrier row of a block of n warps, of which those of live have not exited
abbrev pub row_sound : ℕ → ℕ → Barrier → Bool
row_sound n live r =
    every (
    sets_inside n r ∷ waiting_arrived r ∷ idle_zero r ∷ active_arrived r ∷ active_count n r ∷ count_open r ∷ all_open live r
    ∷ reduction_waits r ∷ plain_none r ∷ []
    )

abbrev pub warps_sound : Block → Bool
warps_sound b = all most_warps (λ w. warp_sound b.warps w (warp_at b w))

-- the barrier rows, where the warps of live have not exited
abbrev pub rows_fine : Block → ℕ → Bool
rows_fine b live = all barrier_count (λ k. row_sound b.warps live (barrier_at b k))

abbrev pub rows_sound : Block → Bool
rows_sound b = rows_fine b (live_of b)

abbrev pub agreeing : Block → Bool
agreeing b = all barrier_count (λ k. all most_warps (λ w. agrees_at b k w))

-- the block's tables are sound
unfoldable pub sound_block : Block → Bool
sound_block b = every (warps_counted b ∷ warps_sound b ∷ rows_sound b ∷ agreeing b ∷ [])

-- fresh tables for a number of warps: every warp ready with result 0, barrier rows idle
abbrev pub fresh_block : ℕ → Block
fresh_block n = record { warps = n; rows = replicate most_warps fresh_warp; barriers = replicate barrier_count idle }
