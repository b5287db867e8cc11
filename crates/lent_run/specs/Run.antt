-- Going on with tables that were checked once, or are fresh: what a check finds, and what a step answers and leaves without another.
-- Assumes nothing.
use Rattle.std.specs.Prelude.{◌≡◌, Bool, cond, List, ℕ, get_or, set, Some, None, is_some, unwrap_or, Result}
use Rattle.std.specs.Option.{option_map}
use Rattle.refusals.specs.declared.Refusal.{Refusal}
use Rattle.steps.specs.declared.Step.{Step}
use Rattle.object.specs.declared.Object.{Object}
use Rattle.object.specs.Row.{dead}
use Rattle.block.specs.declared.Block.{Block}
use Rattle.block.specs.Verdicts.{Verdict}
use Rattle.block.specs.Tables.{live_of}
use Rattle.tables.specs.declared.Tally.{Tally}
use Rattle.tables.specs.Tables.{Tables, sound_tables, slot_of, seen_of, tallied}
use Rattle.tables.specs.Effect.{State, live_after}
use Rattle.step_decides.specs.declared.Decided.{Decided}
use Rattle.step_decides.specs.Decides.{decided_on, left_of}
use Rattle.lent_run.specs.declared.Checked.{Checked}
use Rattle.lent_run.specs.declared.Gone.{Gone}

-- ---- what is known of tables

-- of sound tables, who has not exited; of others nothing
abbrev pub known : Bool → ℕ → Checked
known sound live = record { live = cond sound (Some live) None }

-- what a check finds
abbrev pub checked_of : Tables → Checked
checked_of t = known (sound_tables t) (live_of t.block)

-- after a step with this verdict: as sound as before, and only an accepted exit changes who is live
unfoldable pub checked_after : Checked → Step → Verdict → Checked
checked_after c s v = record { live = option_map (λ live. live_after live s v) c.live }

-- ---- one step, on any tables and whatever is said to be known of them

-- what it decides: line 3 where nothing is known of them, and else what it makes of the rows that it sees and of who is said to be live
abbrev pub decided_with : Checked → Tables → Step → Result Decided Refusal
decided_with c t s = decided_on (seen_of (is_some c.live) (unwrap_or c.live 0) t.block s) (get_or t.objects (slot_of s.op) dead) s

-- its verdict, tables and tally after it, and what is then known
pub record Reached : Type 0 where
  pub verdict : Verdict
  pub state : State
  pub checked : Checked

abbrev pub onward : State → Checked → Step → Reached
onward x c s =
    let left = left_of x.tables.block (get_or x.tables.objects (slot_of s.op) dead) (decided_with c x.tables s) in
    record {
      verdict = left.verdict;
      state = record {
        tables = record { block = left.block; objects = set x.tables.objects (slot_of s.op) left.object };
        tally = tallied x.tally left.verdict;
      };
      checked = checked_after c s left.verdict;
    }

-- what it answers, and block, list and tally as they lie afterwards
pub record GoneOn (x : State) (c : Checked) (s : Step) (g : Gone) (b : Block) (l : List Object) (y : Tally) : Type 0 where
  pub verdict : g.verdict ≡ (onward x c s).verdict
  pub checked : g.checked ≡ (onward x c s).checked
  pub block : b ≡ (onward x c s).state.tables.block
  pub objects : l ≡ (onward x c s).state.tables.objects
  pub tally : y ≡ (onward x c s).state.tally
