use Rattle.sets.proofs.Sets.{has_met}
use Rattle.sets.proofs.has.Goals as goal

pub returns : goal.returns
returns c = rw c.alone.ensures (has_met _ _ c.ranges.set.fits)
