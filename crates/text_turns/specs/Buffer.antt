-- What the functions that lay the lines promise.
-- Assumes nothing.
use Rattle.std.specs.Prelude.{◌≡◌, List, [], ◌∷◌, ℕ, ◌+◌, length, get_or, Option, Some, None, Ok, Err}
use Rattle.refusals.specs.declared.Refusal.{Refusal}
use Rattle.object.specs.declared.Object.{Object}
use Rattle.block.specs.declared.Block.{Block}
use Rattle.block.specs.Verdicts.{Verdict}
use Rattle.tables.specs.declared.Tally.{Tally}
use Rattle.lent.specs.Entries.{tables_of, state_of}
use Rattle.lent_run.specs.declared.Checked.{Checked}
use Rattle.lent_run_laws.specs.Laws.{Fits}
use Rattle.lines.specs.Lines.{line_of}
use Rattle.trace_text.specs.Run.{fresh_state}
use Rattle.trace_text.specs.declared.First.{First}
use Rattle.trace_text.specs.Text.{trace_refusal, last_of, refused_lines, text_lines, joined, text_of, Numbered, stop_of, end_tally, counts_in, counts_of}
use Rattle.trace_text.specs.Buffer.{laid_lines}
use Rattle.text_turns.specs.declared.Laying.{Laying}
use Rattle.text_turns.specs.declared.Summary.{Summary}

-- the first refused line, after one line more: that one, where it is refused and none was before it
abbrev pub first_after : Option First → ℕ → Verdict → Option First
first_after (Some f) n v = Some f
first_after None n (Err r) = Some (record { step = n; refusal = r })
first_after None n (Ok a) = None

-- and after some lines more
abbrev pub first_then : Option First → List Numbered → Option First
first_then f [] = f
first_then f (x ∷ xs) = first_then (first_after f x.number x.verdict) xs

-- after one line more, under number n
abbrev pub line_laid : Laying → ℕ → Verdict → Laying
line_laid l n v = record { at = l.at + length (line_of n v); first = first_after l.first n v }

-- what a text of this length tells, with so many accepted and refused and this first refused line
abbrev pub summed : ℕ → Tally → Option First → Summary
summed k y f = record { length = k; counts = counts_in y f }

-- the run over a trace that is not refused before its steps, at its start: fresh tables and tally, and what is known of the tables is so
pub record Begun (s : List ℕ) (b : Block) (ys : List Object) (h : Tally) (c : Checked) : Type 0 where
  pub unrefused : trace_refusal s ≡ 0
  pub fresh : state_of b ys h ≡ fresh_state (get_or s 0 0)
  pub fits : Fits c (tables_of b ys)

-- what the text tells that ends so
abbrev pub last_summed : Laying → Tally → Option Refusal → Summary
last_summed l y why = summed (l.at + length (joined (last_of y why))) (end_tally y why) (first_then l.first (stop_of y why))

-- what follows the last step is laid, the line of a 1 or 2 if one was found there, and the end line; and what all of the text tells
pub record LastLaid (before : List ℕ) (l : Laying) (y : Tally) (why : Option Refusal) (r : Summary) (after : List ℕ) : Type 0 where
  pub told : r ≡ last_summed l y why
  pub bytes : after ≡ laid_lines before l.at (last_of y why)

-- the lines of a trace that is refused before its steps are laid, and what they tell
pub record RefusedLaid (before : List ℕ) (e : Refusal) (r : Summary) (after : List ℕ) : Type 0 where
  pub told : r ≡ summed (length (joined (refused_lines e))) (record { accepted = 0; refused = 1 }) (Some (record { step = 0; refusal = e }))
  pub bytes : after ≡ laid_lines before 0 (refused_lines e)

-- the lines of a text laid into any buffer, each where it fits; the length of the text, and its numbers
pub record Lays (s before : List ℕ) (r : Summary) (after : List ℕ) : Type 0 where
  pub size : r.length ≡ length (text_of s)
  pub counts : r.counts ≡ counts_of s
  pub bytes : after ≡ laid_lines before 0 (text_lines s)
