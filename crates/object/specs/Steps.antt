-- What is claimed of every step on a row, beside its definition.
-- Assumes nothing.
use Rattle.std.specs.Prelude.{◌≡◌, ◌↔◌, Bool, true, false, cond, ℕ, ◌+◌, pos, ◌+ℤ◌, Ok, Err}
use Rattle.object.specs.declared.Object.{Object}
use Rattle.object.specs.declared.Act.{Act}
use Rattle.object.specs.declared.Act.TheVariants.{Arrive, Expect, Token}
use Rattle.object.specs.declared.Answer.{Answer}
use Rattle.refusals.specs.declared.Refusal.{Refusal}
use Rattle.refusals.specs.Refusals.{number}
use Rattle.folds.specs.Lowest.{Lowest, None}
use Rattle.object.specs.Tokens.{slot_in}
use Rattle.object.specs.Row.{acted, may_end, lines, answered, step_row}

-- a step is refused with a line exactly when that line holds and no lower line does
abbrev pub RefusedExactly : Type 0
RefusedExactly = (o : Object) (slot : ℕ) (a : Act) (r : Refusal) → (step_row o slot a ≡ Err r) ↔ Lowest (lines o slot a) (number r)

-- it is accepted exactly when no line holds
abbrev pub AcceptedExactly : Type 0
AcceptedExactly = (o : Object) (slot : ℕ) (a : Act) → (step_row o slot a ≡ Ok (answered o slot a)) ↔ None (lines o slot a)

-- what a step that completes a phase is, and the row that it leaves
pub record Completed (o : Object) (a : Act) (o' : Object) : Type 0 where
  pub may : may_end a ≡ true
  pub live : o'.live ≡ o.live
  pub phase : o'.phase ≡ o.phase + 1
  pub expected : o'.expected ≡ (acted o a).expected
  pub pending : o'.pending ≡ o'.expected
  pub tx : o'.tx ≡ pos 0
  pub seen : o'.seen ≡ false

-- a step that answers done is such a step
abbrev pub CompletesSo : Type 0
CompletesSo = (o : Object) (slot : ℕ) (a : Act) (r : Answer) → step_row o slot a ≡ Ok r → r.done ≡ true → Completed o a r.row

-- an accepted arrival or complete completes the phase exactly when it brings pending and transactions both to 0
abbrev pub CompletesExactly : Type 0
CompletesExactly =
    (o : Object) (slot : ℕ) (a : Act) (r : Answer) → may_end a ≡ true → step_row o slot a ≡ Ok r
    → (r.done ≡ true) ↔ (((acted o a).pending ≡ 0) × ((acted o a).tx ≡ pos 0))

-- "not after an expect alone": an accepted expect completes no phase
abbrev pub ExpectCompletesNone : Type 0
ExpectCompletesNone = (o : Object) (slot x : ℕ) (r : Answer) → step_row o slot (Expect x) ≡ Ok r → r.done ≡ false

-- "in a test also another object's": a test accepts only a token of its own object
abbrev pub OwnToken : Type 0
OwnToken = (o : Object) (slot t : ℕ) (r : Answer) → step_row o slot (Token t) ≡ Ok r → slot_in t ≡ slot

-- what an accepted arrival leaves that completes no phase
pub record Arrived (o : Object) (n : ℕ) (drop : Bool) (x : ℕ) (o' : Object) : Type 0 where
  pub pending : o'.pending + n ≡ o.pending
  pub expected : o'.expected + cond drop n 0 ≡ o.expected
  pub tx : o'.tx ≡ o.tx +ℤ pos x
  pub live : o'.live ≡ o.live
  pub phase : o'.phase ≡ o.phase
  pub seen : o'.seen ≡ o.seen

-- an accepted arrival that is not done is such an arrival
abbrev pub ArrivesSo : Type 0
ArrivesSo =
    (o : Object) (slot n : ℕ) (drop : Bool) (x : ℕ) (quiet : Bool) (r : Answer)
    → step_row o slot (Arrive n drop x quiet) ≡ Ok r → r.done ≡ false → Arrived o n drop x r.row
