-- Laws of the lines of a trace, and of how long they are.
-- Assumes nothing.
use mathlib.Core.Path.{◌≡◌, refl, sym, ap, ◌∙◌}
use mathlib.Core.Bool.{false, ◌||◌}
use mathlib.Core.List.{List, [], ◌∷◌, ◌++◌}
use Prim.Native.Nat.{ℕ, ◌+◌, ◌*◌, ◌≤◌, ◌<◌}
use native.Mathlib.Omega.{arith}
use native.Mathlib.Nat.{zero-add}
use borrow.Author.Tests.{ne_eqb, eqb-false, ltb-false, lt-ltb}
use lib.Dec.{eqb, ltb}
use lib.ListN.{length, length-append, get_or}
use Rattle.folds.specs.Folds.{lowest}
use Rattle.folds.proofs.Folds.{none_at}
use Rattle.std.specs.Prelude.{Option, Some, None, Err}
use Rattle.refusals.specs.declared.Refusal.{Refusal}
use Rattle.refusals.specs.declared.Refusal.TheVariants.{TooLong}
use Rattle.refusals.specs.Refusals.{named}
use Rattle.block.specs.Verdicts.{Verdict}
use Rattle.block.specs.Tables.{most_warps}
use Rattle.tables.specs.declared.Tally.{Tally}
use Rattle.tables.specs.Tables.{tallied, fresh_tally}
use Rattle.lines.specs.Lines.{most_line, line_of, end_of}
use Rattle.lines.proofs.Lines.{line_most, end_most}
use Rattle.trace_text.specs.Run.{run_of}
use Rattle.trace_text.specs.Text.{most_bytes, trace_refusal, number_in, lines_of, end_in, last_of, run_lines, refused_lines, text_lines, joined, text_of, numbered_of, stop_of, end_tally, run_numbered, numbered_lines, tally_of}
use Rattle.trace_text.specs.Laws.{printed}

-- ---- a trace that is refused before its steps, and one that is not

module _ (s : List ℕ) where
  pub lines_refused : (trace_refusal s ≡ 0 → ⊥) → text_lines s ≡ refused_lines (named (trace_refusal s))
  unfolding text_lines
  lines_refused h = rw (ne_eqb (trace_refusal s) 0 h)

  pub lines_run : trace_refusal s ≡ 0 → text_lines s ≡ run_lines fresh_tally (run_of s)
  unfolding text_lines
  lines_run e = rw e

  pub numbered_refused : (trace_refusal s ≡ 0 → ⊥) → numbered_lines s ≡ record { number = 0; verdict = Err (named (trace_refusal s)) } ∷ []
  unfolding numbered_lines
  numbered_refused h = rw (ne_eqb (trace_refusal s) 0 h)

  pub numbered_run : trace_refusal s ≡ 0 → numbered_lines s ≡ run_numbered fresh_tally (run_of s)
  unfolding numbered_lines
  numbered_run e = rw e

  pub tally_refused : (trace_refusal s ≡ 0 → ⊥) → tally_of s ≡ record { accepted = 0; refused = 1 }
  unfolding tally_of
  tally_refused h = rw (ne_eqb (trace_refusal s) 0 h)

  pub tally_run : trace_refusal s ≡ 0 → tally_of s ≡ end_tally (run_of s).state.tally (run_of s).stop
  unfolding tally_of
  tally_run e = rw e

  -- one that is too long, whatever its bytes are
  pub text_long : most_bytes < length s → text_of s ≡ joined (refused_lines TooLong)
  unfolding trace_refusal lowest text_of
  text_long h =
      let refused : trace_refusal s ≡ 21 = rw (lt-ltb most_bytes (length s) h) in
      ap joined (lines_refused (λ z. omega (arith, refused)) ∙ ap (λ (n : ℕ). refused_lines (named n)) refused)

-- what holds of one that is not refused
pub record Begins (s : List ℕ) : Type 0 where
  pub some : 0 < length s
  pub short : length s ≤ most_bytes
  pub warps : eqb (get_or s 0 0) 0 || ltb most_warps (get_or s 0 0) ≡ false

pub begins : (s : List ℕ) → trace_refusal s ≡ 0 → Begins s
unfolding trace_refusal
begins s e =
    let no = none_at _ refl e in
    let empty = eqb-false (length s) 0 (no 1) in
    record { some = omega (arith, empty); short = ltb-false most_bytes (length s) (no 0); warps = no 2 }

-- ---- the numbered lines are those that are printed

pub run_printed : (y x : Tally) (why : Option Refusal) (vs : List Verdict)
    → lines_of y vs ++ last_of x why ≡ printed (numbered_of y vs ++ stop_of x why) ++ (end_in (end_tally x why) ∷ [])
run_printed y x None [] = refl
run_printed y x (Some r) [] = refl
run_printed y x why (v ∷ vs) = ap (λ (ws : List (List ℕ)). line_of (number_in y) v ∷ ws) (run_printed (tallied y v) x why vs)

-- ---- how long the lines are

pub joined_append : (ws zs : List (List ℕ)) → length (joined (ws ++ zs)) ≡ length (joined ws) + length (joined zs)
joined_append [] zs = sym (zero-add (length (joined zs)))
joined_append (w ∷ ws) zs = omega (arith, length-append w (joined (ws ++ zs)), length-append w (joined ws), joined_append ws zs)

pub two_joined : (w x : List ℕ) → length (joined (w ∷ x ∷ [])) ≡ length w + length x
two_joined w x = omega (arith, length-append w (joined (x ∷ [])), length-append x [])

pub lines_most : (y : Tally) (vs : List Verdict) → length (joined (lines_of y vs)) ≤ length vs * most_line
lines_most y [] = omega arith
lines_most y (v ∷ vs) =
    omega (arith, length-append (line_of (number_in y) v) (joined (lines_of (tallied y v) vs)), line_most (number_in y) v, lines_most (tallied y v) vs)

pub refused_most : (r : Refusal) → length (joined (refused_lines r)) ≤ 2 * most_line
refused_most r = omega (arith, two_joined (line_of 0 (Err r)) (end_of 0 1), line_most 0 (Err r), end_most 0 1)

pub last_most : (y : Tally) (why : Option Refusal) → length (joined (last_of y why)) ≤ 2 * most_line
last_most y None = omega (arith, length-append (end_in y) [], end_most y.accepted y.refused)
last_most y (Some r) =
    let z = tallied y (Err r) in
    omega (arith, two_joined (line_of (number_in y) (Err r)) (end_in z), line_most (number_in y) (Err r), end_most z.accepted z.refused)
