use Rattle.sets.proofs.Sets.{less_met}
use Rattle.sets.proofs.less.Goals as goal

pub returns : goal.returns
returns c = rw c.alone.ensures (less_met _ _ c.ranges.set.fits)
