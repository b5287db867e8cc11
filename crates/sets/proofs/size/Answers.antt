use mathlib.Core.Path.{sym}
use native.Mathlib.Omega.{arith}
use Rattle.sets.proofs.Sets.{size_ones, size_le}
use Rattle.sets.proofs.size.Goals as goal

pub returns-clause-counts : goal.returns-clause-counts
returns-clause-counts c = sym (size_ones 32 c.args.set c.ranges.set.fits)

pub returns-clause-at_most : goal.returns-clause-at_most
returns-clause-at_most c = omega (arith, size_ones 32 c.args.set c.ranges.set.fits, size_le 32 c.args.set)
