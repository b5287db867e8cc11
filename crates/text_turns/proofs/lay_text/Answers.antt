-- `text_turns::lay_text` meets its contract: a trace refused before its steps has two lines, and any other is laid step by step.
-- Assumes nothing.
use mathlib.Core.Path.{◌≡◌, refl, sym, ap, ◌∙◌}
use mathlib.Core.List.{List}
use Prim.Native.Nat.{ℕ}
use lib.ListN.{length}
use native.Mathlib.Omega.{arith}
use Rattle.std.specs.Prelude.{Ok, Err, Some}
use Rattle.refusals.specs.declared.Refusal.{Refusal}
use Rattle.refusals.specs.Refusals.{judged}
use Rattle.refusals.proofs.Judged.{passed_none, refused_some, refused_named}
use Rattle.trace_text.specs.Text.{trace_lines, trace_refusal, refused_lines, text_lines, joined, text_of, tally_of, first_refused, counts_in}
use Rattle.trace_text.proofs.Text.{begins, lines_refused, numbered_refused, tally_refused}
use Rattle.text_turns.specs.declared.Summary.{Summary}
use Rattle.text_turns.specs.Buffer.{RefusedLaid, Lays}
use Rattle.text_turns.proofs.lay_text.Goals as goal

-- a trace that passes is not refused before its steps
passes : (s : List ℕ) → Ok tt ≡ judged (trace_lines s) → trace_refusal s ≡ 0
unfolding trace_refusal
passes s e = passed_none _ _ _ e

-- one that is refused has two lines
refused : (s before : List ℕ) (e : Refusal) (r : Summary) (after : List ℕ) → Err e ≡ judged (trace_lines s) → RefusedLaid before e r after → Lays s before r after
unfolding trace_refusal text_of
refused s before e r after h last =
    let some = refused_some _ _ e h in
    let is = refused_named _ _ e h in
    let lines : text_lines s ≡ refused_lines e = lines_refused s some ∙ ap refused_lines is in
    record {
      size = ap (λ (m : Summary). m.length) last.told ∙ ap (λ (ws : List (List ℕ)). length (joined ws)) (sym lines);
      counts =
          ap (λ (m : Summary). m.counts) last.told
          ∙ (λ i. counts_in (sym (tally_refused s some) i) (Some (record { step = 0; refusal = sym is i })))
          ∙ (λ i. counts_in (tally_of s) (first_refused (sym (numbered_refused s some) i)));
      bytes = rw lines last.bytes;
    }

pub bounds-trace-0 : goal.bounds-trace-0
bounds-trace-0 c = omega (arith, (begins c.args.trace.now (passes c.args.trace.now (sym c.in-Ok.is ∙ c.trace_refusal.ensures))).some)

pub lay_steps-requires : goal.lay_steps-requires
lay_steps-requires c = (passes c.args.trace.now (sym c.in-Ok.is ∙ c.trace_refusal.ensures), refl)

pub returns-in-Err : goal.returns-in-Err
returns-in-Err c = refused c.args.trace.now c.args.out.now _ _ _ (sym c.in-Err.is ∙ c.trace_refusal.ensures) c.lay_refused.ensures
