-- `reading::fill` meets its contract: a full buffer holds more than the longest trace.
-- Assumes nothing.
use Rattle.std.proofs.Common.{refl, arith}
use Rattle.reading.proofs.Reading.{long_settled}
use Rattle.reading.proofs.fill.Goals as goal

pub returns-in-Ok-clause-fills : goal.returns-in-Ok-clause-fills
returns-in-Ok-clause-fills g c =
    let (within, taken) = c.in-Ok.ensures.bound in
    record {
      asked = refl;
      counts = omega (arith, within, taken);
      full = λ full. long_settled _ (omega (arith, full));
    }
