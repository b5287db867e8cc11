-- The text of a whole trace: document 01, "What the program prints".
-- Assumes nothing.
use Rattle.std.specs.Prelude.{cond, ◌||◌, List, [], ◌∷◌, ◌++◌, ℕ, ◌+◌, ◌*◌, ◌/◌, min, eqb, ltb, length, get_or, Option, Some, None, Ok, Err}
use Rattle.folds.specs.Folds.{Line, lowest}
use Rattle.refusals.specs.declared.Refusal.{Refusal}
use Rattle.refusals.specs.Refusals.{number, named}
use Rattle.block.specs.Verdicts.{Verdict}
use Rattle.block.specs.Tables.{most_warps}
use Rattle.barrier_row.specs.Rows.{largest}
use Rattle.tables.specs.declared.Tally.{Tally}
use Rattle.tables.specs.Tables.{tallied, fresh_tally}
use Rattle.lines.specs.Lines.{most_line, line_of, end_of}
use Rattle.trace_text.specs.declared.First.{First}
use Rattle.trace_text.specs.declared.Counts.{Counts}
use Rattle.trace_text.specs.Run.{Run, run_of}

-- a trace has at most 65,536 bytes
abbrev pub most_bytes : ℕ
most_bytes = 65536

-- why a trace is refused before its steps: 21 before all else, 2 of an empty one, 4 of a wrong number of warps
abbrev pub trace_lines : List ℕ → List Line
trace_lines s = (ltb most_bytes (length s), 21) ∷ (eqb (length s) 0, 2) ∷ (eqb (get_or s 0 0) 0 || ltb most_warps (get_or s 0 0), 4) ∷ []

-- the first of them that applies, and 0 where none does
unfoldable pub trace_refusal : List ℕ → ℕ
trace_refusal s = lowest (trace_lines s)

-- ---- the lines

-- the number of the next line, after so many accepted and refused: from 1 on, and it stops at 4,294,967,295
abbrev pub number_in : Tally → ℕ
number_in y = min (y.accepted + y.refused + 1) largest

-- the lines of some verdicts, after so many accepted and refused
abbrev pub lines_of : Tally → List Verdict → List (List ℕ)
lines_of y [] = []
lines_of y (v ∷ vs) = line_of (number_in y) v ∷ lines_of (tallied y v) vs

-- the end line: accepted and refused lines
abbrev pub end_in : Tally → List ℕ
end_in y = end_of y.accepted y.refused

-- what follows the last step, after so many: the line of the 1 or 2 that it stopped at, if it did, and the end line, which counts that one too
abbrev pub last_of : Tally → Option Refusal → List (List ℕ)
last_of y None = end_in y ∷ []
last_of y (Some r) = line_of (number_in y) (Err r) ∷ end_in (tallied y (Err r)) ∷ []

-- the lines of a run that began with this tally
abbrev pub run_lines : Tally → Run → List (List ℕ)
run_lines y r = lines_of y r.verdicts ++ last_of r.state.tally r.stop

-- a trace refused before its steps prints `0 no R` and `end 0 1`
abbrev pub refused_lines : Refusal → List (List ℕ)
refused_lines r = line_of 0 (Err r) ∷ end_of 0 1 ∷ []

-- the lines that a trace prints
unfoldable pub text_lines : List ℕ → List (List ℕ)
text_lines s = cond (eqb (trace_refusal s) 0) (run_lines fresh_tally (run_of s)) (refused_lines (named (trace_refusal s)))

-- ---- the text

-- some lines, one after the other
abbrev pub joined : List (List ℕ) → List ℕ
joined [] = []
joined (w ∷ ws) = w ++ joined ws

-- the text of a trace
unfoldable pub text_of : List ℕ → List ℕ
text_of s = joined (text_lines s)

-- a step takes two bytes at least, so a trace has at most a line for every two bytes, the line of a 1 or 2 or the line 0, and the end line; one that is too long has no more than the longest
abbrev pub room_for : ℕ → ℕ
room_for n = (min n most_bytes / 2 + 2) * most_line

-- ---- the numbers of the text

-- what a numbered line says: `N ok V D M` or `N no R`
pub record Numbered : Type 0 where
  pub number : ℕ
  pub verdict : Verdict

-- the numbered lines of some verdicts, after so many accepted and refused
abbrev pub numbered_of : Tally → List Verdict → List Numbered
numbered_of y [] = []
numbered_of y (v ∷ vs) = record { number = number_in y; verdict = v } ∷ numbered_of (tallied y v) vs

-- the numbered line of the 1 or 2 that a run stopped at, if it did
abbrev pub stop_of : Tally → Option Refusal → List Numbered
stop_of y None = []
stop_of y (Some r) = record { number = number_in y; verdict = Err r } ∷ []

-- accepted and refused lines in the end line, which counts that one too
abbrev pub end_tally : Tally → Option Refusal → Tally
end_tally y None = y
end_tally y (Some r) = tallied y (Err r)

-- the numbered lines of a run that began with this tally
abbrev pub run_numbered : Tally → Run → List Numbered
run_numbered y r = numbered_of y r.verdicts ++ stop_of r.state.tally r.stop

-- the numbered lines of a text
unfoldable pub numbered_lines : List ℕ → List Numbered
numbered_lines s = cond (eqb (trace_refusal s) 0) (run_numbered fresh_tally (run_of s)) (record { number = 0; verdict = Err (named (trace_refusal s)) } ∷ [])

-- A and B of its end line
unfoldable pub tally_of : List ℕ → Tally
tally_of s = cond (eqb (trace_refusal s) 0) (end_tally (run_of s).state.tally (run_of s).stop) (record { accepted = 0; refused = 1 })

-- N and R of the line `N no R`; of a line `N ok V D M`, those of the lines after it
abbrev pub refused_or : ℕ → Verdict → Option First → Option First
refused_or n (Err r) rest = Some (record { step = n; refusal = r })
refused_or n (Ok a) rest = rest

-- N and R of the first line `N no R`, if there is one
abbrev pub first_refused : List Numbered → Option First
first_refused [] = None
first_refused (x ∷ xs) = refused_or x.number x.verdict (first_refused xs)

-- a tally and the first refused line, as one; both 0 where there is none
abbrev pub counts_in : Tally → Option First → Counts
counts_in y None = record { accepted = y.accepted; refused = y.refused; step = 0; refusal = 0 }
counts_in y (Some f) = record { accepted = y.accepted; refused = y.refused; step = f.step; refusal = number f.refusal }

-- the numbers of a text: A and B of its end line, and N and R of its first line `N no R`
abbrev pub counts_of : List ℕ → Counts
counts_of s = counts_in (tally_of s) (first_refused (numbered_lines s))
