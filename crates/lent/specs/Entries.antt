-- What the entries promise over what the caller lends: document 01, "The tables" and "Refusal numbers".
-- Assumes nothing.
use Rattle.std.specs.Prelude.{◌≡◌, false, not, cond, ◌||◌, List, [], ◌∷◌, ℕ, eqb, ltb, length, Result, Ok, Err}
use Rattle.folds.specs.Folds.{Line, lowest}
use Rattle.steps.specs.declared.Step.{Step}
use Rattle.object.specs.declared.Object.{Object}
use Rattle.object.specs.Tokens.{slots}
use Rattle.block.specs.declared.Block.{Block}
use Rattle.refusals.specs.declared.Refusal.{Refusal}
use Rattle.refusals.specs.Refusals.{unless}
use Rattle.block.specs.Verdicts.{Verdict, accepted}
use Rattle.block.specs.declared.Turn.{Turn}
use Rattle.block.specs.Tables.{most_warps, fresh_block}
use Rattle.tables.specs.declared.Tally.{Tally}
use Rattle.tables.specs.Tables.{Tables, fresh_tables, fresh_tally}
use Rattle.tables.specs.Effect.{State, verdict, next}

-- the tables of a block and a list of object rows
abbrev pub tables_of : Block → List Object → Tables
tables_of b l = record { block = b; objects = l }

-- these tables and a tally
abbrev pub state_of : Block → List Object → Tally → State
state_of b l y = record { tables = tables_of b l; tally = y }

-- one step on block, list and tally: what it answers, and block, list and tally as they lie afterwards
pub record Stepped (x : State) (s : Step) (v : Verdict) (b : Block) (l : List Object) (y : Tally) : Type 0 where
  pub verdict : v ≡ verdict x.tables s
  pub block : b ≡ (next x s).tables.block
  pub objects : l ≡ (next x s).tables.objects
  pub tally : y ≡ (next x s).tally

-- ---- fresh tables

-- 3: asked for over a list of other than 64 records; 4: with 0 or over 32 warps
abbrev pub fresh_lines : ℕ → ℕ → List Line
fresh_lines rows w = (not (eqb rows slots), 3) ∷ (eqb w 0 || ltb most_warps w, 4) ∷ []

-- the lowest is given; 0 where none applies
unfoldable pub fresh_refusal : ℕ → ℕ → ℕ
fresh_refusal rows w = lowest (fresh_lines rows w)

-- the answer: value 0, done 0, released none and the fresh block; or the refusal, and a block of no warps, which is not sound
abbrev pub turn_of : Result (Unit {0}) Refusal → ℕ → Turn
turn_of (Ok t) w = record { verdict = accepted 0 false 0; block = (fresh_tables w).block }
turn_of (Err r) w = record { verdict = Err r; block = fresh_block 0 }

-- the answer where n is given
abbrev pub fresh_turn : ℕ → ℕ → Turn
fresh_turn n w = turn_of (unless n tt) w

-- what it answers, and the list and the tally as they lie afterwards; a refusal leaves both
pub record Freshened (l₀ : List Object) (y₀ : Tally) (w : ℕ) (r : Turn) (l : List Object) (y : Tally) : Type 0 where
  pub answer : r ≡ fresh_turn (fresh_refusal (length l₀) w) w
  pub objects : l ≡ cond (eqb (fresh_refusal (length l₀) w) 0) (fresh_tables w).objects l₀
  pub tally : y ≡ cond (eqb (fresh_refusal (length l₀) w) 0) fresh_tally y₀
