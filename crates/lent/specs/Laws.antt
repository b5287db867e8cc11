-- What is claimed of whatever the entries' promises allow, over any block, list, tally and step: demands 1 and 2 over what the caller lends.
-- Assumes nothing.
use Rattle.std.specs.Prelude.{◌≡◌, ◌↔◌, true, false, List, ℕ, length, get_or, Err}
use Rattle.refusals.specs.declared.Refusal.{Refusal}
use Rattle.refusals.specs.Refusals.{number}
use Rattle.folds.specs.Lowest.{Lowest}
use Rattle.steps.specs.declared.Step.{Step}
use Rattle.object.specs.declared.Object.{Object}
use Rattle.object.specs.Row.{dead}
use Rattle.block.specs.declared.Block.{Block}
use Rattle.block.specs.Verdicts.{Verdict}
use Rattle.block.specs.declared.Turn.{Turn}
use Rattle.tables.specs.declared.Tally.{Tally}
use Rattle.tables.specs.Tables.{sound_tables, view_of, slot_of, is_accepted, counted}
use Rattle.tables.specs.Refusals.{lines}
use Rattle.tables.specs.Effect.{State}
use Rattle.tables.specs.Laws.{Sound}
use Rattle.lent.specs.Entries.{tables_of, Stepped, fresh_lines, Freshened}

-- ---- a step

-- two answers that the promise allows are the same: verdict, block, list and tally
pub record Same (v v' : Verdict) (b b' : Block) (l l' : List Object) (y y' : Tally) : Type 0 where
  pub verdict : v ≡ v'
  pub block : b ≡ b'
  pub objects : l ≡ l'
  pub tally : y ≡ y'

abbrev pub OneAnswer : Type 0
OneAnswer =
    (x : State) (s : Step) (v v' : Verdict) (b b' : Block) (l l' : List Object) (y y' : Tally)
    → Stepped x s v b l y → Stepped x s v' b' l' y' → Same v v' b b' l l' y y'

-- it is refused with a line exactly when that line applies and no lower line does
abbrev pub RefusedExactly : Type 0
RefusedExactly =
    (x : State) (s : Step) (v : Verdict) (b : Block) (l : List Object) (y : Tally) → Stepped x s v b l y
    → (e : Refusal) → (v ≡ Err e) ↔ Lowest (lines (view_of x.tables s) s) (number e)

-- what a refused step leaves: only the tally counts it
pub record Left (x : State) (b : Block) (l : List Object) (y : Tally) : Type 0 where
  pub block : b ≡ x.tables.block
  pub objects : l ≡ x.tables.objects
  pub tally : y ≡ record { accepted = x.tally.accepted; refused = counted x.tally.refused }

abbrev pub RefusedLeaves : Type 0
RefusedLeaves = (x : State) (s : Step) (v : Verdict) (b : Block) (l : List Object) (y : Tally) → Stepped x s v b l y → is_accepted v ≡ false → Left x b l y

-- the rows that the step does not name are unchanged
abbrev pub OthersLeft : Type 0
OthersLeft =
    (x : State) (s : Step) (v : Verdict) (b : Block) (l : List Object) (y : Tally) → Stepped x s v b l y
    → (i : ℕ) → (i ≡ slot_of s.op → ⊥) → get_or l i dead ≡ get_or x.tables.objects i dead

-- sound tables over 32 warp rows and sixteen barrier rows stay so
abbrev pub KeepsSound : Type 0
KeepsSound =
    (x : State) (s : Step) (v : Verdict) (b : Block) (l : List Object) (y : Tally) → Stepped x s v b l y
    → Sound x.tables → Sound (tables_of b l)

-- ---- fresh tables

-- two answers that the promise allows are the same
abbrev pub OneFreshAnswer : Type 0
OneFreshAnswer =
    (l₀ : List Object) (y₀ : Tally) (w : ℕ) (r r' : Turn) (l l' : List Object) (y y' : Tally)
    → Freshened l₀ y₀ w r l y → Freshened l₀ y₀ w r' l' y' → Same r.verdict r'.verdict r.block r'.block l l' y y'

-- they are refused with a line exactly when that line applies and no lower line does
abbrev pub FreshExactly : Type 0
FreshExactly =
    (l₀ : List Object) (y₀ : Tally) (w : ℕ) (r : Turn) (l : List Object) (y : Tally) → Freshened l₀ y₀ w r l y
    → (e : Refusal) → (r.verdict ≡ Err e) ↔ Lowest (fresh_lines (length l₀) w) (number e)

-- and sound, over 32 warp rows and sixteen barrier rows, where they are not refused
abbrev pub FreshSound : Type 0
FreshSound =
    (l₀ : List Object) (y₀ : Tally) (w : ℕ) (r : Turn) (l : List Object) (y : Tally) → Freshened l₀ y₀ w r l y
    → is_accepted r.verdict ≡ true → Sound (tables_of r.block l)

-- where they are, no list makes sound tables with the block that is answered
abbrev pub NoneUnsound : Type 0
NoneUnsound =
    (l₀ : List Object) (y₀ : Tally) (w : ℕ) (r : Turn) (l : List Object) (y : Tally) → Freshened l₀ y₀ w r l y
    → is_accepted r.verdict ≡ false → (l' : List Object) → sound_tables (tables_of r.block l') ≡ false
