-- What is known of the tables is so, the block has its shape, and what is left to lay gives with what is laid all of the text.
use Rattle.std.proofs.Common.{◌-◌, length}
use Rattle.block_laws.specs.Sound.{Shaped}
use Rattle.lent.specs.Entries.{tables_of, state_of}
use Rattle.lent_run_laws.specs.Laws.{Fits}
use Rattle.text_turns.proofs.Buffer.{Left}
use Rattle.text_turns.proofs.lay_turns.Given as goal

abbrev pub invariant-loop-out : goal.invariant-loop-out
invariant-loop-out l = record {
  fits : Fits l.checked (tables_of l.block l.objects);
  shaped : Shaped l.block;
  left : Left l.trace l.initial.out l.out (state_of l.block l.objects l.tally) l.cursor.at l.laying;
}

abbrev pub decreases-loop-out : goal.decreases-loop-out
decreases-loop-out l = length l.trace - l.cursor.at
