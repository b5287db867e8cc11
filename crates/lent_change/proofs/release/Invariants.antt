-- The rows before i are released.
use Rattle.std.proofs.Common.{◌≡◌}
use Rattle.lent_change.proofs.Rows.{released_to}
use Rattle.lent_change.proofs.release.Given as goal

abbrev pub invariant-loop-i : goal.invariant-loop-i
invariant-loop-i l = l.rows ≡ released_to l.f l.initial.rows l.i
