-- The claims on the text of a trace, proved.
-- Assumes nothing.
use mathlib.Core.Path.{◌≡◌, refl, sym, ap, ◌∙◌}
use mathlib.Core.List.{List, [], ◌∷◌, ◌++◌}
use Prim.Native.Nat.{ℕ, zero, suc, ◌≤◌}
use native.Mathlib.Omega.{arith}
use native.Mathlib.Nat.{min-eq_left}
use lib.ListN.{length, get_or}
use Rattle.folds.specs.Folds.{all, first, every, lowest, firsts}
use Rattle.sets.specs.Sets.{size_below, set_of}
use Rattle.steps.specs.declared.Step.{Step}
use Rattle.steps.specs.Step.{read_at}
use Rattle.block.specs.Tables.{sound_block}
use Rattle.tables.specs.Tables.{fresh_tally}
use Rattle.tables.specs.Refusals.{refusal}
use Rattle.tables.specs.Effect.{taken, State, next, run, verdicts}
use Rattle.refusals.specs.Refusals.{named}
use Rattle.digits.specs.Digits.{decimal}
use Rattle.lines.specs.Lines.{line_of, end_of}
use Rattle.trace_text.specs.Run.{steps_from, taking, fresh_state, run_of}
use Rattle.refusals.proofs.Refusals.{lowest_named}
use Rattle.trace_text.specs.Text.{trace_lines, trace_refusal, lines_of, last_of, end_in, text_lines, joined, text_of, room_for, numbered_lines, tally_of}
use Rattle.trace_text.specs.Laws.{MoreChangesNothing, RefusalNamed, counted_in, TallyCountsLines, printed, NumbersPrinted, RoomIsEnough, WholeCase, CountsCase}
use Rattle.trace_text.proofs.Run.{enough, steps_most, verdict_each}
use Rattle.trace_text.proofs.Text.{begins, lines_refused, lines_run, numbered_refused, numbered_run, tally_refused, tally_run, run_printed, joined_append, lines_most, refused_most, last_most}

pub whole_case : WholeCase
unfolding all first every lowest firsts size_below set_of read_at sound_block refusal taken decimal line_of end_of steps_from trace_refusal text_lines text_of
whole_case = refl

pub counts_case : CountsCase
unfolding all first every lowest firsts size_below set_of read_at sound_block refusal taken steps_from trace_refusal numbered_lines tally_of
counts_case = refl

pub more_changes_nothing : MoreChangesNothing
more_changes_nothing s most h = ap (taking (fresh_state (get_or s 0 0))) (enough most (length s) s 1 (omega arith) (omega arith))

pub refusal_named : RefusalNamed
unfolding trace_refusal
refusal_named s some = lowest_named (trace_lines s) refl some

pub tally_counts_lines : TallyCountsLines
tally_counts_lines most s x at = counts x (steps_from most s at).steps
  where
    counts : (y : State) (l : List Step) → (run y l).tally ≡ counted_in y.tally (verdicts y l)
    counts y [] = refl
    counts y (st ∷ l) = counts (next y st) l

pub numbers_printed : NumbersPrinted
numbers_printed s = refused (trace_refusal s) refl
  where
    refused : (n : ℕ) → trace_refusal s ≡ n → text_lines s ≡ printed (numbered_lines s) ++ (end_in (tally_of s) ∷ [])
    refused zero e =
        let r = run_of s in
        lines_run s e
        ∙ run_printed fresh_tally r.state.tally r.stop r.verdicts
        ∙ sym (λ i. printed (numbered_run s e i) ++ (end_in (tally_run s e i) ∷ []))
    refused (suc n) e =
        let some : trace_refusal s ≡ 0 → ⊥ = λ z. omega arith in
        lines_refused s some ∙ sym (λ i. printed (numbered_refused s some i) ++ (end_in (tally_refused s some i) ∷ []))

pub room_is_enough : RoomIsEnough
unfolding text_of
room_is_enough s = refused (trace_refusal s) refl
  where
    refused : (n : ℕ) → trace_refusal s ≡ n → length (joined (text_lines s)) ≤ room_for (length s)
    refused zero e =
        let r = run_of s in
        let steps = (steps_from (length s) s 1).steps in
        let lines = lines_of fresh_tally r.verdicts in
        let last = last_of r.state.tally r.stop in
        rw (lines_run s e, min-eq_left (begins s e).short)
        (omega (arith, joined_append lines last, lines_most fresh_tally r.verdicts, last_most r.state.tally r.stop, verdict_each (fresh_state (get_or s 0 0)) steps, steps_most (length s) s 1))
    refused (suc n) e = rw (lines_refused s (λ z. omega arith), e) (omega (arith, refused_most (named (suc n))))
