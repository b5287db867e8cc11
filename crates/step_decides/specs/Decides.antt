-- What a step decides on what it sees of the tables, and what that leaves of the block.
-- Assumes nothing.
use Rattle.std.specs.Prelude.{◌≡◌, Bool, [], ◌∷◌, ℕ, ◌/◌, Result, Ok, Err}
use Rattle.folds.specs.Folds.{lowest}
use Rattle.refusals.specs.declared.Refusal.{Refusal}
use Rattle.refusals.specs.Refusals.{unless}
use Rattle.steps.specs.declared.ObjectStep.{ObjectStep}
use Rattle.steps.specs.declared.Step.{Step}
use Rattle.steps.specs.declared.Op.{Op}
use Rattle.steps.specs.declared.Op.TheVariants.{Exit, Barrier, Object, PendingCount}
use Rattle.object.specs.declared.Object as object
use Rattle.object.specs.declared.Answer.{Answer}
use Rattle.object.specs.Tokens.{too_large, pending_in}
use Rattle.object.specs.Row as row
use Rattle.block.specs.Tables.{live_of}
use Rattle.block.specs.declared.Block.{Block}
use Rattle.barrier_row.specs.Rows.{arrived_row}
use Rattle.block_steps.specs.declared.Moved.{Moved}
use Rattle.block_steps.specs.Changes.{changed, no_change, arriving, exiting}
use Rattle.block_laws.specs.Sound.{Shaped}
use Rattle.tables.specs.declared.Seen.{Seen}
use Rattle.tables.specs.declared.Taken.{Taken}
use Rattle.tables.specs.Tables.{object_size, seen_of}
use Rattle.tables.specs.Refusals.{call_of, act_of, bad_address, table, kind_lines}
use Rattle.tables.specs.Effect.{taken}
use Rattle.step_decides.specs.declared.Decided.{Decided}

-- ---- what a step decides that no line refuses

-- a step of the block's, which leaves the row
abbrev pub in_block : Moved → object.Object → Decided
in_block m o = record { accepted = m.accepted; change = m.change; object = o }

-- a step of an object's, which leaves the block
abbrev pub in_object : Answer → Decided
in_object a = record { accepted = record { value = a.value; done = a.done; released = 0 }; change = no_change; object = a.row }

-- an object's step at address a, and a pending count
abbrev pub acting : object.Object → ℕ → ObjectStep → Decided
acting o a x = in_object (row.answered o (a / object_size) (act_of x))

abbrev pub counting : object.Object → ℕ → Decided
counting o t = in_object (row.not_done o (pending_in t))

-- what a step of warp w does
abbrev pub does : Seen → object.Object → ℕ → Op → Decided
does v o w Exit = in_block (exiting v.barrier w v.at) o
does v o w (Barrier k b) = in_block (arriving v.live (arrived_row v.barrier w (call_of b)) w k (call_of b).waits) o
does v o w (Object a x) = acting o a x
does v o w (PendingCount t) = counting o t

-- ---- what a step decides: the lowest of its lines refuses it, and where none applies it does that

-- an object's step at address a, and a pending count, each with the lines of its kind
unfoldable pub object_decided : object.Object → ℕ → ObjectStep → Result Decided Refusal
object_decided o a x = unless (lowest ((bad_address a, 11) ∷ row.lines o (a / object_size) (act_of x))) (acting o a x)

unfoldable pub pending_decided : object.Object → ℕ → Result Decided Refusal
pending_decided o t = unless (lowest ((too_large t, 19) ∷ [])) (counting o t)

-- a step, by the lines of its kind
unfoldable pub kind_decided : Seen → object.Object → Step → Result Decided Refusal
kind_decided v o s = unless (lowest (kind_lines v o s)) (does v o s.warp s.op)

-- a step, by the whole table
unfoldable pub decided_on : Seen → object.Object → Step → Result Decided Refusal
decided_on v o s = unless (lowest (table v o s)) (does v o s.warp s.op)

-- ---- what is left of a block

-- what is left of block b and the row: the change is made in it; a refusal leaves both
abbrev pub left_of : Block → object.Object → Result Decided Refusal → Taken
left_of b o (Ok d) = record { verdict = Ok d.accepted; block = changed b d.change; object = d.object }
left_of b o (Err r) = record { verdict = Err r; block = b; object = o }

-- of every block of 32 warp rows and sixteen barrier rows: what is decided on what is seen of it, with those live that have not exited, leaves what the whole step leaves
abbrev pub DecisionSeen : Type 0
DecisionSeen =
    (b : Block) → Shaped b → (sound : Bool) (o : object.Object) (s : Step)
    → left_of b o (decided_on (seen_of sound (live_of b) b s) o s) ≡ taken (record { sound = sound; block = b; object = o }) s
