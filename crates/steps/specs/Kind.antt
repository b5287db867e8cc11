-- The kinds of step, and the byte of each: document 01, "Step bytes".
-- Assumes nothing.
use Rattle.std.specs.Prelude.{◌≡◌, ℕ, Result, MatchResult}
use Rattle.refusals.specs.declared.Refusal.{Refusal}
use Rattle.refusals.specs.declared.Refusal.TheVariants.{UnknownKind}
use Rattle.steps.specs.declared.kinds.Kind.{Kind}
use Rattle.steps.specs.declared.kinds.Kind.TheVariants.{Exit, SyncAll, Sync, BarrierArrive, RedAll, Red, Init, Inval, Arrive, ArriveNoComplete, ArriveExpect, Drop, DropExpect, Expect, Complete, TestToken, TestParity, PendingCount, DropNoComplete}

-- the byte of a kind
abbrev pub byte_of : Kind → ℕ
byte_of Exit = 1
byte_of SyncAll = 2
byte_of Sync = 3
byte_of BarrierArrive = 4
byte_of RedAll = 5
byte_of Red = 6
byte_of Init = 7
byte_of Inval = 8
byte_of Arrive = 9
byte_of ArriveNoComplete = 10
byte_of ArriveExpect = 11
byte_of Drop = 12
byte_of DropExpect = 13
byte_of Expect = 14
byte_of Complete = 15
byte_of TestToken = 16
byte_of TestParity = 17
byte_of PendingCount = 18
byte_of DropNoComplete = 19

-- what a byte names: the kind that has it, or an unknown kind where none has
abbrev pub Named : ℕ → Result Kind Refusal → Type 0
Named byte r = MatchResult r (λ kind. byte_of kind ≡ byte) (λ e. (e ≡ UnknownKind) × ((kind : Kind) → byte_of kind ≡ byte → ⊥))
