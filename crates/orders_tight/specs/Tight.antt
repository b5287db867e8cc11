-- Each condition of demand 3 is needed: tables and steps that break it alone, and don't finish the phase.
-- Assumes nothing.
use Rattle.std.specs.Prelude.{◌≡◌, ◌↔◌, Bool, true, false, not, ◌||◌, List, [], ◌∷◌, ℕ, ◌%◌, ◌≤◌, ◌<◌, eqb, leb, ltb, ℤ, pos, negsuc, ◌+ℤ◌, set, replicate}
use Rattle.steps.specs.declared.ObjectStep.TheVariants.{Arrive, ArriveNoComplete, ArriveExpect, Drop, Expect, Complete}
use Rattle.steps.specs.declared.Step.{Step}
use Rattle.object.specs.declared.Object.{Object}
use Rattle.object.specs.Row.{most, last_phase}
use Rattle.block.specs.Verdicts.{Verdict}
use Rattle.block.specs.Verdicts.{accepted, refused}
use Rattle.block.specs.Tables.{fresh_block}
use Rattle.block_steps.specs.Steps.{without}
use Rattle.tables.specs.declared.Tally.{Tally}
use Rattle.tables.specs.Tables.{Tables, sound_tables, last_address, fresh_tables, fresh_tally}
use Rattle.tables.specs.Effect.{State, verdicts}
use Rattle.strikes.specs.Strikes.{object_step, live_row}
use Rattle.orders.specs.Due.{object_at, counts, drops, expectations, completions, each, on, takes_part, at_least_one, from_ready, Due}
use Rattle.orders.specs.Finishes.{with_row, step_on, Finishes}

-- ---- one condition broken

-- a signed number is n
abbrev pub equals : ℤ → ℕ → Bool
equals (pos m) n = eqb m n
equals (negsuc m) n = false

-- the conditions of Due as tests, in its order
abbrev pub conditions : Tables → ℕ → List Step → List Bool
conditions t a l =
    sound_tables t
    ∷ eqb (a % 8) 0
    ∷ leb a last_address
    ∷ (object_at t a).live
    ∷ ltb 0 (object_at t a).pending
    ∷ ((object_at t a).seen || eqb (object_at t a).phase 0)
    ∷ not (eqb (object_at t a).phase last_phase)
    ∷ each (on a) l
    ∷ each takes_part l
    ∷ each at_least_one l
    ∷ each (from_ready t.block) l
    ∷ eqb (counts l) (object_at t a).pending
    ∷ equals ((object_at t a).tx +ℤ pos (expectations l)) (completions l)
    ∷ ltb (drops l) (object_at t a).expected
    ∷ leb (expectations l) most
    ∷ leb (completions l) most
    ∷ []

-- all of them hold
abbrev pub met : List Bool
met = replicate 16 true

-- Due asks for all of them
abbrev pub AllMet : Type 0
AllMet = (t : Tables) (a : ℕ) (l : List Step) → Due t a l ↔ (conditions t a l ≡ met)

-- condition k, counted from 0, is broken and no other; the steps get the verdicts vs, and they don't finish the phase, whatever the tally
pub record Needed (k : ℕ) (t : Tables) (a : ℕ) (l : List Step) (vs : List Verdict) : Type 0 where
  pub broken : conditions t a l ≡ set met k false
  pub answers : verdicts (record { tables = t; tally = fresh_tally }) l ≡ vs
  pub fails : (y : Tally) → Finishes (record { tables = t; tally = y }) a l → ⊥

-- ---- the cases

-- two warps, and the row of the object at 16
abbrev pub with_object : Object → Tables
with_object o = with_row (fresh_tables 2) 16 o

-- one arrival is expected and pending in phase 0
abbrev pub single : Tables
single = with_object (live_row 1 1 (pos 0) 0 true)

-- one case or more for each condition but two, which follow from others
pub record Tight : Type 0 where
  -- 0: another row isn't sound, dead with a pending arrival
  pub sound : Needed 0 (with_row single 24 (record { live = false; expected = 0; pending = 1; tx = pos 0; phase = 0; seen = false })) 16
      (object_step (Arrive 1) ∷ []) (refused 3 ∷ [])
  -- 1: the address is no multiple of 8
  pub multiple : Needed 1 (with_row (fresh_tables 2) 12 (live_row 1 1 (pos 0) 0 true)) 12 (step_on 0 12 (Arrive 1) ∷ []) (refused 11 ∷ [])
  -- 2: no case, since in sound tables no object is live above 504 (WithinFollows)
  -- 3: no case, since in sound tables an object with arrivals pending is live (LiveFollows)
  -- 4: no arrival is pending, and no step is left (where one is left, nothing fails: PendingSpared)
  pub pending : Needed 4 (with_object (live_row 1 0 (pos 0) 0 true)) 16 [] []
  -- 5: the previous phase is unseen
  pub seen : Needed 5 (with_object (live_row 1 1 (pos 0) 1 false)) 16 (object_step (Arrive 1) ∷ []) (refused 16 ∷ [])
  -- 6: the last phase
  pub phase : Needed 6 (with_object (live_row 1 1 (pos 0) last_phase true)) 16 (object_step (Arrive 1) ∷ []) (refused 18 ∷ [])
  -- 7: a step on another object
  pub on : Needed 7 (with_row (with_object (live_row 2 2 (pos 0) 0 true)) 24 (live_row 2 2 (pos 0) 0 true)) 16
      (object_step (Arrive 1) ∷ step_on 0 24 (Arrive 1) ∷ []) (accepted 2097154 false 0 ∷ accepted 3145730 false 0 ∷ [])
  -- 8: a noComplete step; an expectation alone, which completes no phase
  pub no_complete : Needed 8 single 16 (object_step (ArriveNoComplete 1) ∷ []) (refused 17 ∷ [])
  pub expect_alone : Needed 8 single 16 (object_step (Complete 64) ∷ object_step (Arrive 1) ∷ object_step (Expect 64) ∷ [])
      (accepted 0 false 0 ∷ accepted 2097153 false 0 ∷ accepted 0 false 0 ∷ [])
  -- 9: an arrival, a drop of 0; a completion of 0, after which the phase has completed before the last step
  pub zero_arrival : Needed 9 single 16 (object_step (Arrive 0) ∷ object_step (Arrive 1) ∷ []) (refused 14 ∷ accepted 2097153 true 0 ∷ [])
  pub zero_drop : Needed 9 single 16 (object_step (Drop 0) ∷ object_step (Arrive 1) ∷ []) (refused 14 ∷ accepted 2097153 true 0 ∷ [])
  pub zero_completion : Needed 9 single 16 (object_step (Arrive 1) ∷ object_step (Complete 0) ∷ []) (accepted 2097153 true 0 ∷ accepted 0 false 0 ∷ [])
  -- 10: a warp that isn't in the block; one that has exited
  pub no_such_warp : Needed 10 single 16 (step_on 2 16 (Arrive 1) ∷ []) (refused 4 ∷ [])
  pub not_ready : Needed 10 (record { block = without (fresh_block 2) 1; objects = single.objects }) 16 (step_on 1 16 (Arrive 1) ∷ []) (refused 5 ∷ [])
  -- 11: fewer counts than are pending; more
  pub fewer_counts : Needed 11 (with_object (live_row 2 2 (pos 0) 0 true)) 16 (object_step (Arrive 1) ∷ []) (accepted 2097154 false 0 ∷ [])
  pub more_counts : Needed 11 single 16 (object_step (Arrive 1) ∷ object_step (Arrive 1) ∷ []) (accepted 2097153 true 0 ∷ refused 16 ∷ [])
  -- 12: more completions than transactions and expectations; fewer
  pub more_completions : Needed 12 single 16 (object_step (Arrive 1) ∷ object_step (Complete 5) ∷ []) (accepted 2097153 true 0 ∷ accepted 0 false 0 ∷ [])
  pub fewer_completions : Needed 12 single 16 (object_step (ArriveExpect 5) ∷ []) (accepted 2097153 false 0 ∷ [])
  -- 13: as many drops as are expected
  pub drops : Needed 13 (with_object (live_row 2 2 (pos 0) 0 true)) 16 (object_step (Drop 1) ∷ object_step (Drop 1) ∷ []) (accepted 2097154 false 0 ∷ refused 14 ∷ [])
  -- 14: expectations of 1,048,576, with the transaction count at -1
  pub expectations : Needed 14 (with_object (live_row 1 1 (negsuc 0) 0 true)) 16 (object_step (Complete 1048575) ∷ object_step (ArriveExpect 1048576) ∷ [])
      (refused 15 ∷ accepted 2097153 false 0 ∷ [])
  -- 15: completions of 1,048,576, with the transaction count at 1
  pub completions : Needed 15 (with_object (live_row 1 1 (pos 1) 0 true)) 16 (object_step (ArriveExpect 1048575) ∷ object_step (Complete 1048576) ∷ [])
      (refused 15 ∷ accepted 0 false 0 ∷ [])

-- ---- what follows from the others

-- in sound tables a multiple of 8 at which an object is live is at most 504
abbrev pub WithinFollows : Type 0
WithinFollows = (t : Tables) (a : ℕ) → sound_tables t ≡ true → a % 8 ≡ 0 → (object_at t a).live ≡ true → a ≤ 504

-- in sound tables an object with arrivals pending is live
abbrev pub LiveFollows : Type 0
LiveFollows = (t : Tables) (a : ℕ) → sound_tables t ≡ true → 0 < (object_at t a).pending → (object_at t a).live ≡ true

-- with no arrival pending, completions that are left still finish the phase: pending arrivals only say that there is a step
abbrev pub PendingSpared : Type 0
PendingSpared = (x : State) (a : ℕ) (s : Step) (l : List Step) → conditions x.tables a (s ∷ l) ≡ set met 4 false → Finishes x a (s ∷ l)
