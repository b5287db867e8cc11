-- Laws about what stands at a place in a trace.
-- Assumes nothing.
use mathlib.Core.Path.{◌≡◌, refl}
use mathlib.Core.Bool.{Bool, true, false, cond}
use mathlib.Core.List.{List}
use Prim.Native.Nat.{ℕ, ◌+◌, ◌≤◌, ◌<◌}
use borrow.Author.Tests.{leb-true, leb-false}
use lib.Dec.{leb}
use lib.ListN.{length}
use Rattle.std.specs.Prelude.{Some, None, Result, Ok, Err}
use Rattle.refusals.specs.declared.Refusal.{Refusal}
use Rattle.steps.specs.declared.Step.{Step}
use Rattle.steps.specs.declared.Cursor.{Cursor}
use Rattle.steps.specs.Step.{read_at}
use Rattle.trace_text.specs.Run.{no_step, step_then, steps_from}
use Rattle.trace_text.proofs.Run.{moves, steps_end, stops_there, goes_on}
use Rattle.trace_look.specs.Places.{looked}

module _ (s : List ℕ) (at : ℕ) where
  -- where nothing stands no byte is left, and else there is one, and it is what is read
  nothing : None ≡ looked s at → length s ≤ at
  unfolding looked
  nothing e = go (leb (length s) at) refl e
    where
      go : (b : Bool) → leb (length s) at ≡ b → None ≡ cond b None (Some (read_at s at)) → length s ≤ at
      go true q e = leb-true (length s) at q
      go false q e = cc

  something : (x : Result (Step × Cursor) Refusal) → Some x ≡ looked s at → (at < length s) × (read_at s at ≡ x)
  unfolding looked
  something x e = go (leb (length s) at) refl e
    where
      go : (b : Bool) → leb (length s) at ≡ b → Some x ≡ cond b None (Some (read_at s at)) → (at < length s) × (read_at s at ≡ x)
      go true q e = cc
      go false q e = (leb-false (length s) at q, cc)

  -- so no step is left to read, reading stops there, or a step is the first, and the place moves
  pub look_ends : None ≡ looked s at → steps_from (length s) s at ≡ no_step at None
  look_ends e = steps_end s at (length s) (nothing e)

  pub look_stops : (r : Refusal) → Some (Err r) ≡ looked s at → steps_from (length s) s at ≡ no_step at (Some r)
  look_stops r e = let x = something (Err r) e in stops_there s at x.0 r x.1

  module _ (st : Step) (c : Cursor) (e : Some (Ok (st, c)) ≡ looked s at) where
    pub look_goes : steps_from (length s) s at ≡ step_then st (steps_from (length s) s c.at)
    look_goes = let x = something (Ok (st, c)) e in goes_on s at x.0 st c x.1

    pub look_moves : (at + 2 ≤ c.at) × (c.at ≤ length s)
    look_moves = moves s at st c (something (Ok (st, c)) e).1
