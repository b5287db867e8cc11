-- `answering::arguments`: before argument i all before it are answered.
-- Assumes nothing.
use Rattle.std.proofs.Common.{◌-◌, ◌≡◌, ◌≤◌, true, false}
use Rattle.answering.proofs.arguments.Given as goal

abbrev pub invariant-loop-i : goal.invariant-loop-i
invariant-loop-i g l =
    (l.i - 1 ≤ l.count - 1) × (l.written.input ≡ false) × (l.written.files ≡ l.i - 1) × (l.written.all ≡ true)
