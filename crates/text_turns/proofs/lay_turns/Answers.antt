-- Each turn lays the first line of what is left, and going on with what is known is the checked step; at the end what follows the last step is laid.
use Rattle.std.proofs.Common.{◌≡◌, ℕ, List, sym, ap, subst, ◌∙◌, arith, rules, length}
use Rattle.std.specs.Prelude.{Some, None}
use Rattle.steps.specs.declared.Step.{Step}
use Rattle.object.specs.declared.Object.{Object}
use Rattle.block.specs.declared.Block.{Block}
use Rattle.block_laws.specs.Sound.{Shaped}
use Rattle.fields.specs.Num.{laid}
use Rattle.lines.specs.Lines.{line_of}
use Rattle.tables.specs.declared.Tally.{Tally}
use Rattle.lent.specs.Entries.{tables_of, state_of}
use Rattle.lent_run.specs.declared.Checked.{Checked}
use Rattle.lent_run.specs.declared.Gone.{Gone}
use Rattle.lent_run.specs.Run.{GoneOn}
use Rattle.lent_run_laws.specs.Laws.{Fits}
use Rattle.lent_run_laws.proofs.Laws.{gone_is_stepped, next_shaped}
use Rattle.trace_text.specs.Run.{step_then, steps_from}
use Rattle.trace_text.specs.Text.{number_in}
use Rattle.trace_look.proofs.Places.{look_ends, look_stops, look_goes, look_moves}
use Rattle.text_turns.specs.declared.Laying.{Laying}
use Rattle.text_turns.specs.Buffer.{line_laid}
use Rattle.text_turns.proofs.Buffer.{Left, left_first, left_next, lays_all, lines_fit}
use Rattle.text_turns.proofs.lay_turns.Goals as goal

-- one turn: going on with the step that was found, and its line laid
turn : (s out₀ out : List ℕ) (b : Block) (ys : List Object) (h : Tally) (k : Checked) (at to : ℕ) (l : Laying) → Shaped b → Fits k (tables_of b ys) → Left s out₀ out (state_of b ys h) at l
    → (st : Step) → steps_from (length s) s at ≡ step_then st (steps_from (length s) s to)
    → (n : ℕ) (g : Gone) (d : Block) (zs : List Object) (h' : Tally) (r : Laying) (out' : List ℕ)
    → n ≡ number_in h → GoneOn (state_of b ys h) k st g d zs h' → r ≡ line_laid l n g.verdict → out' ≡ laid out l.at (line_of n g.verdict)
    → Fits g.checked (tables_of d zs) × Shaped d × Left s out₀ out' (state_of d zs h') to r
turn s out₀ out b ys h k at to l shaped fits left st goes n g d zs h' r out' number gone lined lays =
    let on = gone_is_stepped (state_of b ys h) k st g d zs h' shaped fits gone in (
      on.1,
      subst Shaped (sym on.0.block) (next_shaped (state_of b ys h) k st shaped fits),
      rw (lays, lined, number) (left_next s (state_of b ys h) at out₀ out l left st to goes g.verdict d zs h' on.0),
    )

pub loop-out-init : goal.loop-out-init
loop-out-init c = record {
  fits = c.requires.fits;
  shaped = search rules;
  left = left_first c.args.trace.now c.args.out.now c.args.block c.args.objects c.args.tally c.args.checked c.requires;
}

pub lay_end-requires : goal.lay_end-requires
lay_end-requires c = let l = c.loop-out in omega (arith, lines_fit _ _ _ _ _ _ l.invariant.left)

pub returns-in-None : goal.returns-in-None
returns-in-None c =
    let l = c.loop-out in
    lays_all _ _ _ _ _ _ l.invariant.left None (look_ends _ _ (sym c.in-None.is ∙ c.look.ensures)) _ _ c.lay_end.ensures

pub lay_stop-requires : goal.lay_stop-requires
lay_stop-requires c = let l = c.loop-out in lines_fit _ _ _ _ _ _ l.invariant.left

pub returns-in-Some-Err : goal.returns-in-Some-Err
returns-in-Some-Err c =
    let l = c.loop-out in
    lays_all _ _ _ _ _ _ l.invariant.left (Some c.in-Some-Err.refusal) (look_stops _ _ _ (ap Some (sym c.in-Some-Err.field-0-is) ∙ sym c.in-Some-Err.is ∙ c.look.ensures)) _ _ c.lay_stop.ensures

pub lay_line-laying-requires : goal.lay_line-laying-requires
lay_line-laying-requires c = let l = c.loop-out in omega (arith, lines_fit _ _ _ _ _ _ l.invariant.left)

pub loop-out-smaller : goal.loop-out-smaller
loop-out-smaller c = omega (arith, look_moves c.args.trace.now c.loop-out.cursor.at c.in-Some-Ok.step c.in-Some-Ok.next (ap Some (sym c.in-Some-Ok.field-0-is) ∙ sym c.in-Some-Ok.is ∙ c.look.ensures))

pub loop-out-preserved : goal.loop-out-preserved
loop-out-preserved c =
    let l = c.loop-out in
    let on = turn c.args.trace.now c.args.out.now l.out l.block l.objects l.tally l.checked l.cursor.at c.in-Some-Ok.next.at l.laying l.invariant.shaped l.invariant.fits l.invariant.left
    c.in-Some-Ok.step (look_goes _ _ _ c.in-Some-Ok.next (ap Some (sym c.in-Some-Ok.field-0-is) ∙ sym c.in-Some-Ok.is ∙ c.look.ensures)) c.number_in-number.result c.go_on-gone.result c.go_on-gone.new.b c.go_on-gone.new.objects c.go_on-gone.new.tally c.lay_line-laying.result c.lay_line-laying.new.out
    c.number_in-number.ensures c.go_on-gone.ensures c.lay_line-laying.ensures.0 c.lay_line-laying.ensures.1 in
    record { fits = on.0; shaped = on.1; left = on.2 }
