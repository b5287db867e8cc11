-- Demand 3, what it takes: arrivals, drops and completions that together are what is left of an object's phase.
-- Assumes nothing.
use Rattle.std.specs.Prelude.{◌≡◌, ◌≢◌, Bool, true, false, not, cond, ◌&&◌, ◌||◌, ℕ, ◌+◌, ◌/◌, ◌%◌, ◌≤◌, ◌<◌, eqb, leb, ltb, pos, ◌+ℤ◌, get_or}
use mathlib.Core.List.{List, foldr}
use Rattle.steps.specs.declared.Op.{Op}
use Rattle.steps.specs.declared.Op.TheVariants as op
use Rattle.steps.specs.declared.Step.{Step}
use Rattle.object.specs.declared.Object.{Object}
use Rattle.object.specs.declared.Act.{Act}
use Rattle.object.specs.declared.Act.TheVariants.{Init, Inval, Arrive, Expect, Complete, Token, Parity}
use Rattle.object.specs.Row.{dead, most, last_phase}
use Rattle.block.specs.declared.Block.{Block}
use Rattle.block.specs.Tables.{warp_at, is_ready}
use Rattle.tables.specs.Tables.{Tables, last_address, sound_tables}
use Rattle.tables.specs.Refusals.{of_object, act_of}

-- the row of the object at an address
abbrev pub object_at : Tables → ℕ → Object
object_at t a = get_or t.objects (a / 8) dead

-- ---- the sums

-- what a step adds to them: arrivals and drops together, drops alone, expectations, completions
pub record Share : Type 0 where
  pub count : ℕ
  pub drop : ℕ
  pub expect : ℕ
  pub complete : ℕ

-- a step that adds to none of them
abbrev pub nothing : Share
nothing = record { count = 0; drop = 0; expect = 0; complete = 0 }

-- what an object step adds, as the act that it is (an arrival or a drop with an attached expectation has the count 1)
abbrev pub share_of : Act → Share
share_of (Arrive n drop x quiet) = record { count = n; drop = cond drop n 0; expect = x; complete = 0 }
share_of (Expect x) = record { count = 0; drop = 0; expect = x; complete = 0 }
share_of (Complete x) = record { count = 0; drop = 0; expect = 0; complete = x }
share_of (Init n) = nothing
share_of Inval = nothing
share_of (Token t) = nothing
share_of (Parity p) = nothing

-- what any step adds
abbrev pub brings : Op → Share
brings op.Exit = nothing
brings (op.Barrier k b) = nothing
brings (op.Object a o) = share_of (act_of o)
brings (op.PendingCount t) = nothing

-- a sum over the steps
abbrev pub total : (Share → ℕ) → List Step → ℕ
total f l = foldr (λ s n. f (brings s.op) + n) 0 l

-- "arrival and drop counts together"
abbrev pub counts : List Step → ℕ
counts l = total (λ p. p.count) l

-- "drops total"
abbrev pub drops : List Step → ℕ
drops l = total (λ p. p.drop) l

-- "expectations .. total"
abbrev pub expectations : List Step → ℕ
expectations l = total (λ p. p.expect) l

-- "completions .. total"
abbrev pub completions : List Step → ℕ
completions l = total (λ p. p.complete) l

-- ---- tests of the steps

-- the test holds of each step
abbrev pub each : (Step → Bool) → List Step → Bool
each p l = foldr (λ s b. p s && b) true l

-- a step on the object at a
abbrev pub on : ℕ → Step → Bool
on a s = of_object (λ b y. eqb b a) s.op

-- an arrival or a drop that isn't noComplete, or a completion
abbrev pub is_part : Act → Bool
is_part (Arrive n drop x quiet) = not quiet
is_part (Complete x) = true
is_part (Expect x) = false
is_part (Init n) = false
is_part Inval = false
is_part (Token t) = false
is_part (Parity p) = false

-- such a step
abbrev pub takes_part : Step → Bool
takes_part s = of_object (λ b y. is_part y) s.op

-- an arrival, a drop or a completion is at least 1
abbrev pub some_of : Act → Bool
some_of (Arrive n drop x quiet) = leb 1 n
some_of (Complete x) = leb 1 x
some_of (Expect x) = true
some_of (Init n) = true
some_of Inval = true
some_of (Token t) = true
some_of (Parity p) = true

-- a step on an object that is at least 1 where it is one of these; false of an exit, a named-barrier step and a pending count
abbrev pub at_least_one : Step → Bool
at_least_one s = of_object (λ b y. some_of y) s.op

-- a warp of the block that is ready
abbrev pub ready : Block → ℕ → Bool
ready b w = ltb w b.warps && is_ready (warp_at b w).status

-- a step of such a warp
abbrev pub from_ready : Block → Step → Bool
from_ready b s = ready b s.warp

-- ---- the conditions

-- in the tables t the steps l are what is left of the phase of the object at a
pub record Due (t : Tables) (a : ℕ) (l : List Step) : Type 0 where
  -- "In sound tables"
  pub sound : sound_tables t ≡ true
  -- "take a[n] .. object": its address is a multiple of 8
  pub multiple : a % 8 ≡ 0
  -- and at most 504
  pub within : a ≤ last_address
  -- "live"
  pub live : (object_at t a).live ≡ true
  -- "with arrivals pending"
  pub pending : 0 < (object_at t a).pending
  -- "its previous phase seen (or none)"
  pub seen : (object_at t a).seen || eqb (object_at t a).phase 0 ≡ true
  -- "not in its last phase"
  pub phase : (object_at t a).phase ≢ last_phase
  -- "Take arrivals and drops on it .. and completions on it"
  pub on : each (on a) l ≡ true
  -- "arrivals and drops .., none noComplete, with or without an attached expectation, and completions"
  pub kinds : each takes_part l ≡ true
  -- "each arrival, drop and completion at least 1"
  pub sizes : each at_least_one l ≡ true
  -- "all from ready warps"
  pub warps : each (from_ready t.block) l ≡ true
  -- "Let arrival and drop counts together sum to the pending count"
  pub counts : counts l ≡ (object_at t a).pending
  -- "the transaction count plus expectations equal completions"
  pub balance : (object_at t a).tx +ℤ pos (expectations l) ≡ pos (completions l)
  -- "drops total less than the expected count"
  pub drops : drops l < (object_at t a).expected
  -- "and expectations and completions each total at most 1,048,575"
  pub expectations : expectations l ≤ most
  pub completions : completions l ≤ most
