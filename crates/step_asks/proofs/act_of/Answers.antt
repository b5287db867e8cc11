-- `step_asks::act_of` meets its contract, case by case.
-- Assumes nothing.
use mathlib.Core.Path.{refl}
use Rattle.step_asks.proofs.act_of.Goals as goal

pub returns-in-Init : goal.returns-in-Init
returns-in-Init c = rw c.in-Init.is refl

pub returns-in-Arrive : goal.returns-in-Arrive
returns-in-Arrive c = rw c.in-Arrive.is c.plain.ensures

pub returns-in-ArriveNoComplete : goal.returns-in-ArriveNoComplete
returns-in-ArriveNoComplete c = rw c.in-ArriveNoComplete.is c.plain-in-ArriveNoComplete.ensures

pub returns-in-ArriveExpect : goal.returns-in-ArriveExpect
returns-in-ArriveExpect c = rw c.in-ArriveExpect.is c.expecting.ensures

pub returns-in-Drop : goal.returns-in-Drop
returns-in-Drop c = rw c.in-Drop.is c.plain-in-Drop.ensures

pub returns-in-DropNoComplete : goal.returns-in-DropNoComplete
returns-in-DropNoComplete c = rw c.in-DropNoComplete.is c.plain-in-DropNoComplete.ensures

pub returns-in-DropExpect : goal.returns-in-DropExpect
returns-in-DropExpect c = rw c.in-DropExpect.is c.expecting-in-DropExpect.ensures

pub returns-in-Expect : goal.returns-in-Expect
returns-in-Expect c = rw c.in-Expect.is refl

pub returns-in-Complete : goal.returns-in-Complete
returns-in-Complete c = rw c.in-Complete.is refl

pub returns-in-TestToken : goal.returns-in-TestToken
returns-in-TestToken c = rw c.in-TestToken.is refl

pub returns-in-TestParity : goal.returns-in-TestParity
returns-in-TestParity c = rw c.in-TestParity.is refl
