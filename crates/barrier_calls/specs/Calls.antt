-- What sync, arrive and red ask for: document 01, "Named barriers".
-- Assumes nothing.
use Rattle.std.specs.Prelude.{Bool, true, false, not, cond, Option, Some, ◌||◌, ℕ, ◌-◌, ◌^◌, eqb, ltb}
use Rattle.sets.specs.Sets.{size}
use Rattle.block.specs.declared.Form.{Form}
use Rattle.block.specs.declared.Form.TheVariants.{Idle, Plain, Popc, And, Or}
use Rattle.block.specs.declared.Call.{Call}

-- the form that a selector names, 0 popc, 1 and, 2 or, 4 more complements; Idle where it names none
abbrev pub form_of : ℕ → Form
form_of s = cond (eqb s 0 || eqb s 4) Popc (cond (eqb s 1 || eqb s 5) And (cond (eqb s 2 || eqb s 6) Or Idle))

-- the true lanes of a mask, which the selectors from 4 complement
abbrev pub lanes_of : ℕ → ℕ → ℕ
lanes_of s mask = size (cond (ltb 3 s) (2 ^ 32 - 1 - mask) mask)

-- 8: selector not 0, 1, 2, 4, 5 or 6
abbrev pub bad_selector : ℕ → Bool
bad_selector s = not (eqb s 0 || (eqb s 1 || (eqb s 2 || (eqb s 4 || (eqb s 5 || eqb s 6)))))

-- sync and red wait; arrive doesn't
abbrev pub sync_call : Option ℕ → Call
sync_call t = record { form = Plain; threads = t; waits = true; lanes = 0 }

abbrev pub arrive_call : ℕ → Call
arrive_call t = record { form = Plain; threads = Some t; waits = false; lanes = 0 }

abbrev pub red_call : ℕ → Option ℕ → ℕ → Call
red_call s t mask = record { form = form_of s; threads = t; waits = true; lanes = lanes_of s mask }
