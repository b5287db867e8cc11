-- Laws about a text that is being laid.
-- Assumes nothing.
use mathlib.Core.Path.{◌≡◌, refl, sym, ap, ◌∙◌}
use mathlib.Core.List.{List, [], ◌∷◌, ◌++◌}
use Prim.Native.Nat.{ℕ, ◌+◌, ◌-◌, ◌≤◌, ◌<◌}
use native.Mathlib.Omega.{arith}
use native.Mathlib.Nat.{zero-add}
use lib.ListN.{length, length-append, get_or}
use Rattle.std.specs.Prelude.{Option, Some, None, Ok, Err}
use Rattle.folds.specs.Folds.{lowest}
use Rattle.fields.specs.Num.{laid}
use Rattle.refusals.specs.declared.Refusal.{Refusal}
use Rattle.lines.specs.Lines.{most_line, line_of, end_of}
use Rattle.steps.specs.declared.Step.{Step}
use Rattle.object.specs.declared.Object.{Object}
use Rattle.block.specs.declared.Block.{Block}
use Rattle.block.specs.Verdicts.{Verdict}
use Rattle.tables.specs.declared.Tally.{Tally}
use Rattle.tables.specs.Tables.{tallied}
use Rattle.tables.specs.Effect.{State, verdict, next}
use Rattle.lent.specs.Entries.{state_of, Stepped, fresh_refusal}
use Rattle.owned.specs.Owner.{state_in, owned_fresh}
use Rattle.lent_run.specs.declared.Checked.{Checked}
use Rattle.trace_text.specs.declared.First.{First}
use Rattle.trace_text.specs.Run.{StepsRead, no_step, step_then, steps_from, taking, run_from, fresh_state}
use Rattle.trace_text.specs.Text.{trace_refusal, number_in, end_in, last_of, run_lines, refused_lines, text_lines, joined, text_of, Numbered, numbered_of, stop_of, end_tally, run_numbered, numbered_lines, tally_of, first_refused, counts_in}
use Rattle.trace_text.specs.Buffer.{laid_lines}
use Rattle.trace_text.proofs.Text.{begins, lines_run, numbered_run, tally_run, two_joined}
use Rattle.trace_text.proofs.Buffer.{laid_length, laid_as_one}
use Rattle.trace_text.proofs.Laws.{room_is_enough}
use Rattle.text_turns.specs.declared.Laying.{Laying}
use Rattle.text_turns.specs.declared.Summary.{Summary}
use Rattle.text_turns.specs.Buffer.{first_after, first_then, line_laid, summed, Begun, LastLaid, RefusedLaid, Lays}

-- ---- the first refused line

-- where there is one, it stays
pub first_stays : (f : First) (xs : List Numbered) → first_then (Some f) xs ≡ Some f
first_stays f [] = refl
first_stays f (x ∷ xs) = first_stays f xs

-- looked for line by line, it is the first
pub first_found : (y x : Tally) (why : Option Refusal) (vs : List Verdict)
    → first_then None (numbered_of y vs ++ stop_of x why) ≡ first_refused (numbered_of y vs ++ stop_of x why)
first_found y x None [] = refl
first_found y x (Some r) [] = refl
first_found y x why (Err r ∷ vs) = first_stays (record { step = number_in y; refusal = r }) (numbered_of (tallied y (Err r)) vs ++ stop_of x why)
first_found y x why (Ok a ∷ vs) = first_found (tallied y (Ok a)) x why vs

-- ---- what is left to lay

-- the lines of the run from here on
pub left : List ℕ → State → ℕ → List (List ℕ)
left s x at = run_lines x.tally (run_from (length s) s x at)

-- what the numbered ones of them say
pub left_numbered : List ℕ → State → ℕ → List Numbered
left_numbered s x at = run_numbered x.tally (run_from (length s) s x at)

-- and the end line
pub left_tally : List ℕ → State → ℕ → Tally
left_tally s x at = end_tally (run_from (length s) s x at).state.tally (run_from (length s) s x at).stop

-- laid, they give what all of the text gives, and tell what it tells
pub record Left (s out₀ out : List ℕ) (x : State) (at : ℕ) (l : Laying) : Type 0 where
  pub same : length out ≡ length out₀
  pub size : l.at + length (joined (left s x at)) ≡ length (text_of s)
  pub tally : left_tally s x at ≡ tally_of s
  pub first : first_then l.first (left_numbered s x at) ≡ first_refused (numbered_lines s)
  pub bytes : laid_lines out l.at (left s x at) ≡ laid_lines out₀ 0 (text_lines s)

-- lines laid into a buffer leave its length
pub lines_length : (out : List ℕ) (at : ℕ) (ws : List (List ℕ)) → length (laid_lines out at ws) ≡ length out
lines_length out at [] = refl
lines_length out at (w ∷ ws) = lines_length (laid out at w) (at + length w) ws ∙ laid_length out at w

pub text_small : (s : List ℕ) → length (text_of s) < 2000000
text_small s = omega (arith, room_is_enough s)

-- at the start it is the whole text
pub left_first : (s out : List ℕ) (b : Block) (ys : List Object) (h : Tally) (c : Checked) → Begun s b ys h c → Left s out out (state_of b ys h) 1 (record { at = 0; first = None })
unfolding left left_numbered left_tally text_of
left_first s out b ys h c begun =
    let x : State = fresh_state (get_or s 0 0) in
    let run = run_from (length s) s x 1 in
    let whole : left s (state_of b ys h) 1 ≡ text_lines s = (λ i. left s (begun.fresh i) 1) ∙ sym (lines_run s begun.unrefused) in
    let numbered = first_found x.tally run.state.tally run.stop run.verdicts ∙ ap first_refused (sym (numbered_run s begun.unrefused)) in
    record {
      same = refl;
      size = rw whole (zero-add (length (joined (text_lines s))));
      tally = (λ i. left_tally s (begun.fresh i) 1) ∙ sym (tally_run s begun.unrefused);
      first = (λ i. first_then None (left_numbered s (begun.fresh i) 1)) ∙ numbered;
      bytes = rw whole;
    }

-- the owner of fresh tables has them where the trace is not refused
pub owns_fresh : (s : List ℕ) → trace_refusal s ≡ 0 → state_in (owned_fresh (get_or s 0 0)).state ≡ fresh_state (get_or s 0 0)
unfolding fresh_refusal lowest
owns_fresh s e = rw (begins s e).warps

module _ (s : List ℕ) (x : State) (at : ℕ) (out₀ out : List ℕ) (l : Laying) (so : Left s out₀ out x at l) where
  -- the place is far from the largest number
  pub lines_fit : l.at + (most_line + most_line) < 18446744073709551616
  lines_fit = omega (arith, so.size, text_small s)

  -- where no step is left, what follows the last is laid, and then all is
  pub lays_all : (why : Option Refusal) → steps_from (length s) s at ≡ no_step at why → (r : Summary) (after : List ℕ) → LastLaid out l x.tally why r after → Lays s out₀ r after
  unfolding left left_numbered left_tally
  lays_all why over r after last =
      let lines : left s x at ≡ last_of x.tally why = ap (λ (r : StepsRead). run_lines x.tally (taking x r)) over in
      let numbered : left_numbered s x at ≡ stop_of x.tally why = ap (λ (r : StepsRead). run_numbered x.tally (taking x r)) over in
      let tally : left_tally s x at ≡ end_tally x.tally why = ap (λ (r : StepsRead). end_tally (taking x r).state.tally r.stop) over in
      record {
        size = ap (λ (m : Summary). m.length) last.told ∙ ap (λ (ws : List (List ℕ)). l.at + length (joined ws)) (sym lines) ∙ so.size;
        counts =
            ap (λ (m : Summary). m.counts) last.told
            ∙ (λ i. counts_in (sym tally i) (first_then l.first (sym numbered i)))
            ∙ (λ i. counts_in (so.tally i) (so.first i));
        bytes = last.bytes ∙ ap (laid_lines out l.at) (sym lines) ∙ so.bytes;
      }

  -- where one is, its line is the first that is left
  module _ (st : Step) (to : ℕ) (goes : steps_from (length s) s at ≡ step_then st (steps_from (length s) s to)) where
    abbrev n : ℕ
    n = number_in x.tally

    pub left_next : (v : Verdict) (b : Block) (ys : List Object) (h : Tally) → Stepped x st v b ys h
        → Left s out₀ (laid out l.at (line_of n v)) (state_of b ys h) to (line_laid l n v)
    unfolding left left_numbered left_tally
    left_next v b ys h e =
        let w = line_of n v in
        let rest = left s (state_of b ys h) to in
        let taken : w ∷ rest ≡ line_of n (verdict x.tables st) ∷ left s (next x st) to =
        λ i. line_of n (e.verdict i) ∷ left s (state_of (e.block i) (e.objects i) (e.tally i)) to in
        let whole : left s x at ≡ w ∷ rest = ap (λ (r : StepsRead). run_lines x.tally (taking x r)) goes ∙ sym taken in
        let numbered : record { number = n; verdict = v } ∷ left_numbered s (state_of b ys h) to ≡ left_numbered s x at =
        (λ i. record { number = n; verdict = e.verdict i } ∷ left_numbered s (state_of (e.block i) (e.objects i) (e.tally i)) to)
        ∙ sym (ap (λ (r : StepsRead). run_numbered x.tally (taking x r)) goes) in
        let tally : left_tally s (state_of b ys h) to ≡ left_tally s x at =
        (λ i. left_tally s (state_of (e.block i) (e.objects i) (e.tally i)) to)
        ∙ sym (ap (λ (r : StepsRead). end_tally (taking x r).state.tally r.stop) goes) in
        let size : l.at + (length w + length (joined rest)) ≡ length (text_of s) = rw (← length-append w (joined rest), ← ap joined whole) so.size in
        record {
          same = laid_length out l.at w ∙ so.same;
          size = omega arith;
          tally = tally ∙ so.tally;
          first = ap (first_then l.first) numbered ∙ so.first;
          bytes = ap (laid_lines out l.at) (sym whole) ∙ so.bytes;
        }

-- ---- what follows the last step

module _ (before : List ℕ) (l : Laying) (y : Tally) where
  -- the end line alone
  pub last_end : (k : ℕ) (r : Summary) (after : List ℕ) → k ≡ length (end_in y) → r ≡ summed (l.at + k) y l.first → after ≡ laid before l.at (end_in y)
      → LastLaid before l y None r after
  last_end k r after size told e =
      let all : l.at + k ≡ l.at + length (joined (end_in y ∷ [])) = omega (arith, size, length-append (end_in y) []) in
      record { told = told ∙ ap (λ (m : ℕ). summed m y l.first) all; bytes = e }

  -- the line of a 1 or 2, and the end line
  pub last_stop : (e : Refusal) (r : Summary) (after : List ℕ)
      → LastLaid (laid before l.at (line_of (number_in y) (Err e))) (line_laid l (number_in y) (Err e)) (tallied y (Err e)) None r after
      → LastLaid before l y (Some e) r after
  last_stop e r after last =
      let w = line_of (number_in y) (Err e) in
      let z = end_in (tallied y (Err e)) in
      let all : l.at + length w + length (joined (z ∷ [])) ≡ l.at + length (joined (w ∷ z ∷ [])) = omega (arith, length-append w (joined (z ∷ []))) in
      record {
        told = last.told ∙ ap (λ (m : ℕ). summed m (tallied y (Err e)) (first_after l.first (number_in y) (Err e))) all;
        bytes = last.bytes;
      }

-- two lines alone, of a trace that is refused before its steps
pub refused_laid : (out mid after : List ℕ) (e : Refusal) (i k : ℕ) (r : Summary) → i ≡ length (line_of 0 (Err e)) → k ≡ length (end_of 0 1)
    → mid ≡ laid out 0 (line_of 0 (Err e)) → after ≡ laid mid i (end_of 0 1) → r ≡ summed (i + k) (record { accepted = 0; refused = 1 }) (Some (record { step = 0; refusal = e }))
    → RefusedLaid out e r after
refused_laid out mid after e i k r first second starts ends told =
    let w = line_of 0 (Err e) in
    let z = end_of 0 1 in
    let all : i + k ≡ length (joined (refused_lines e)) = omega (arith, first, second, two_joined w z) in
    let place : i ≡ 0 + length w = first ∙ sym (zero-add (length w)) in
    record {
      told = told ∙ ap (λ (m : ℕ). summed m (record { accepted = 0; refused = 1 }) (Some (record { step = 0; refusal = e }))) all;
      bytes = ends ∙ (λ j. laid (starts j) (place j) z);
    }

-- a text that fits is laid whole
pub text_fits : (s out : List ℕ) → length (text_of s) ≤ length out → laid_lines out 0 (text_lines s) ≡ laid out 0 (text_of s)
unfolding text_of
text_fits s out h = laid_as_one out 0 (text_lines s) (omega (arith, h))
