-- What is claimed of the text of a trace.
-- Assumes nothing.
use Rattle.std.specs.Prelude.{◌≡◌, List, [], ◌∷◌, ◌++◌, ℕ, ◌≤◌, length, get_or}
use Rattle.block.specs.Verdicts.{Verdict}
use Rattle.tables.specs.declared.Tally.{Tally}
use Rattle.tables.specs.Tables.{tallied}
use Rattle.tables.specs.Effect.{State}
use Rattle.trace_text.specs.Run.{run_from, fresh_state, run_of}
use Rattle.lines.specs.Lines.{line_of}
use Rattle.refusals.specs.Refusals.{number, named}
use Rattle.trace_text.specs.Text.{trace_refusal, end_in, text_lines, text_of, room_for, Numbered, numbered_lines, tally_of, counts_of}

-- as many steps as there are bytes are enough: more that may be read change nothing
abbrev pub MoreChangesNothing : Type 0
MoreChangesNothing = (s : List ℕ) (most : ℕ) → length s ≤ most → run_from most s (fresh_state (get_or s 0 0)) 1 ≡ run_of s

-- the number that is printed of a trace refused before its steps is that of the line that refuses it
abbrev pub RefusalNamed : Type 0
RefusalNamed = (s : List ℕ) → (trace_refusal s ≡ 0 → ⊥) → number (named (trace_refusal s)) ≡ trace_refusal s

-- so many lines, and those of these verdicts
abbrev pub counted_in : Tally → List Verdict → Tally
counted_in y [] = y
counted_in y (v ∷ vs) = counted_in (tallied y v) vs

-- the tally that a run ends with has counted the lines of its steps, so that what follows them goes on with the next number
abbrev pub TallyCountsLines : Type 0
TallyCountsLines =
    (most : ℕ) (s : List ℕ) (x : State) (at : ℕ) → (run_from most s x at).state.tally ≡ counted_in x.tally (run_from most s x at).verdicts

-- some numbered lines as they are printed
abbrev pub printed : List Numbered → List (List ℕ)
printed [] = []
printed (x ∷ xs) = line_of x.number x.verdict ∷ printed xs

-- what a text prints is its numbered lines and the end line of its tally, and no other: the counts are of these
abbrev pub NumbersPrinted : Type 0
NumbersPrinted = (s : List ℕ) → text_lines s ≡ printed (numbered_lines s) ++ (end_in (tally_of s) ∷ [])

-- the room for a trace of some length is enough for its text
abbrev pub RoomIsEnough : Type 0
RoomIsEnough = (s : List ℕ) → length (text_of s) ≤ room_for (length s)

-- the whole case
abbrev pub whole_trace : List ℕ
whole_trace = 0x02 ∷ 0x02 ∷ 0x00 ∷ 0x03 ∷ 0x02 ∷ 0x01 ∷ 0x03 ∷ 0x07 ∷ 0x00 ∷ 0x00 ∷ 0x00 ∷ 0x00 ∷ 0x00 ∷ 0x00 ∷ 0x00 ∷ []

abbrev pub whole_text : List ℕ
whole_text =
    -- 1 ok 0 0 00000000
    49 ∷ 32 ∷ 111 ∷ 107 ∷ 32 ∷ 48 ∷ 32 ∷ 48 ∷ 32 ∷ 48 ∷ 48 ∷ 48 ∷ 48 ∷ 48 ∷ 48 ∷ 48 ∷ 48 ∷ 10
    -- 2 ok 0 1 00000003
    ∷ 50 ∷ 32 ∷ 111 ∷ 107 ∷ 32 ∷ 48 ∷ 32 ∷ 49 ∷ 32 ∷ 48 ∷ 48 ∷ 48 ∷ 48 ∷ 48 ∷ 48 ∷ 48 ∷ 51 ∷ 10
    -- 3 no 14
    ∷ 51 ∷ 32 ∷ 110 ∷ 111 ∷ 32 ∷ 49 ∷ 52 ∷ 10
    -- end 2 1
    ∷ 101 ∷ 110 ∷ 100 ∷ 32 ∷ 50 ∷ 32 ∷ 49 ∷ 10 ∷ []

abbrev pub WholeCase : Type 0
WholeCase = text_of whole_trace ≡ whole_text

-- its counts, where its last step comes once more, and then a kind that no step has: the lines end with `3 no 14`, `4 no 14`, `5 no 1` and `end 2 3`
abbrev pub CountsCase : Type 0
CountsCase =
    counts_of (whole_trace ++ (0x07 ∷ 0x00 ∷ 0x00 ∷ 0x00 ∷ 0x00 ∷ 0x00 ∷ 0x00 ∷ 0x00 ∷ 0xff ∷ []))
    ≡ record { accepted = 2; refused = 3; step = 3; refusal = 14 }
