-- When a row is sound (document 01, "The tables").
-- Assumes nothing.
use Rattle.std.specs.Prelude.{Bool, true, not, cond, ◌&&◌, ◌||◌, ◌≡◌, ℕ, ◌^◌, ◌<◌, leb, eqb, Ok}
use Rattle.std.specs.Int.Signed.{mag}
use Rattle.object.specs.declared.Object.{Object}
use Rattle.object.specs.declared.Act.{Act}
use Rattle.object.specs.declared.Answer.{Answer}
use Rattle.object.specs.Row.{most, last_phase, is_zero, outside, step_row}

-- "expected 1 to 1,048,575"
abbrev pub expected_sound : Object → Bool
expected_sound o = leb 1 o.expected && leb o.expected most

-- "pending 0 to expected"
abbrev pub pending_sound : Object → Bool
pending_sound o = leb o.pending o.expected

-- "transaction count from -1,048,575 to 1,048,575"
abbrev pub tx_sound : Object → Bool
tx_sound o = not (outside o.tx)

-- "phase 0 to 4,294,967,295"
abbrev pub phase_sound : Object → Bool
phase_sound o = leb o.phase last_phase

-- "in phase 0 the seen mark set"
abbrev pub seen_sound : Object → Bool
seen_sound o = not (eqb o.phase 0) || o.seen

-- "Live ones have"
abbrev pub live_sound : Object → Bool
live_sound o = expected_sound o && pending_sound o && tx_sound o && phase_sound o && seen_sound o

-- "Dead object rows are zero"
abbrev pub dead_sound : Object → Bool
dead_sound o = eqb o.expected 0 && eqb o.pending 0 && is_zero o.tx && eqb o.phase 0 && not o.seen

-- "The tables are sound when", of one object's row
abbrev pub sound_row : Object → Bool
sound_row o = cond o.live (live_sound o) (dead_sound o)

-- an accepted step keeps a sound row sound
abbrev pub KeepsSound : Type 0
KeepsSound =
    (o : Object) (slot : ℕ) (a : Act) (r : Answer)
    → sound_row o ≡ true → step_row o slot a ≡ Ok r → sound_row r.row ≡ true

-- the fields of a row within their widths, u32 and i32
pub record Widths (o : Object) : Type 0 where
  pub expected : o.expected < 2 ^ 32
  pub pending : o.pending < 2 ^ 32
  pub tx : mag o.tx < 2 ^ 31
  pub phase : o.phase < 2 ^ 32

-- a sound row's fields are within their widths
abbrev pub SoundFits : Type 0
SoundFits = (o : Object) → sound_row o ≡ true → Widths o
