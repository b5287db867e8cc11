-- Laws of a trace that is too long.
-- Assumes nothing.
use mathlib.Core.Path.{sym, ◌∙◌}
use mathlib.Core.List.{List, ◌++◌}
use Prim.Native.Nat.{ℕ, ◌<◌}
use native.Mathlib.Omega.{arith}
use lib.ListN.{length, length-append}
use Rattle.trace_text.specs.Text.{most_bytes}
use Rattle.trace_text.proofs.Text.{text_long}
use Rattle.reading.specs.Reading.{Settled}

-- more bytes leave a trace that is too long as it is
pub long_settled : (s : List ℕ) → most_bytes < length s → Settled s
long_settled s long more = text_long (s ++ more) (omega (arith, length-append s more)) ∙ sym (text_long s long)
