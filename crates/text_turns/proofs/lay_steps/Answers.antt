-- `text_turns::lay_steps` meets its contract: the turns of fresh tables, which are known to be sound.
-- Assumes nothing.
use mathlib.Core.Path.{ap, ◌∙◌, sym, subst}
use Prim.Native.Nat.{ℕ}
use lib.ListN.{get_or}
use Rattle.tables.specs.Tables.{fresh_tables}
use Rattle.tables.specs.Effect.{State}
use Rattle.owned.specs.declared.OwnedTurn.{OwnedTurn}
use Rattle.owned.specs.Owner.{state_in, owned_fresh}
use Rattle.lent_run.specs.declared.Checked.{Checked}
use Rattle.lent_run.specs.Run.{checked_of}
use Rattle.lent_run_laws.specs.Laws.{Fits}
use Rattle.lent_run_laws.proofs.Laws.{check_fits}
use Rattle.text_turns.proofs.Buffer.{owns_fresh}
use Rattle.text_turns.proofs.lay_steps.Goals as goal

pub lay_turns-requires : goal.lay_turns-requires
lay_turns-requires c =
    let s = c.args.trace.now in
    let same = c.requires.1 in
    let fresh = ap (λ (t : OwnedTurn). state_in t.state) (c.fresh_owned.ensures ∙ ap owned_fresh same) ∙ owns_fresh s c.requires.0 in
    record {
      unrefused = c.requires.0;
      fresh = fresh;
      fits =
          subst (λ (x : State). Fits c.fresh_checked-checked.result x.tables) (sym fresh)
          (subst (λ (known : Checked). Fits known (fresh_tables (get_or s 0 0))) (sym (c.fresh_checked-checked.ensures ∙ ap (λ (w : ℕ). checked_of (fresh_tables w)) same)) (check_fits (fresh_tables (get_or s 0 0))));
    }
