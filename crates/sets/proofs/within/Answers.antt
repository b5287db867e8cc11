use Rattle.sets.proofs.Sets.{part_below}
use Rattle.sets.proofs.within.Goals as goal

pub returns : goal.returns
returns c = rw (c.part.ensures, c.below.ensures) (part_below _ _ c.ranges.set.fits)
