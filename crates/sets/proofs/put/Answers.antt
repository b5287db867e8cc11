use Rattle.sets.proofs.Sets.{put_joined}
use Rattle.sets.proofs.put.Goals as goal

pub returns : goal.returns
returns c = rw c.alone.ensures (put_joined c.args.set c.args.w)
