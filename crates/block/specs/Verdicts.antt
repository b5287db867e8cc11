-- What a step answers.
-- Assumes nothing.
use Rattle.std.specs.Prelude.{Bool, ℕ, Result, Ok, Err}
use Rattle.refusals.specs.declared.Refusal.{Refusal}
use Rattle.refusals.specs.Refusals.{named}
use Rattle.block.specs.declared.Accepted.{Accepted}

-- accepted, or the line that refuses it
abbrev pub Verdict : Type 0
Verdict = Result Accepted Refusal

-- accepted with a value, whether something is completed, and the warps that are released
abbrev pub accepted : ℕ → Bool → ℕ → Verdict
accepted value done released = Ok (record { value = value; done = done; released = released })

-- refused with the line of this number
abbrev pub refused : ℕ → Verdict
refused n = Err (named n)
