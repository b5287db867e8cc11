-- A test of each row is that of every place of so long a list.
use Rattle.std.proofs.Common.{◌≡◌, ℕ, ◌≤◌, List, length, get_or, take, ap, sym, ◌∙◌, arith, rules, tests, add-one, eq-eqb}
use Rattle.std.specs.Prelude.{Bool, zero, suc, ◌&&◌}
use Rattle.std.specs.List.{list_all}
use Rattle.std.proofs.lemmas.Iterator.Search.{all_from_yields_List}
use Rattle.std.proofs.lemmas.Iterator.{YieldsList-from_slice}
use Rattle.std.proofs.lemmas.List.{take_all}
use Rattle.std.proofs.lemmas.List.Folds.{list_all_more}
use Rattle.folds.specs.Folds.{all}
use Rattle.folds.proofs.Folds.{all_none, all_step}
use Rattle.object.specs.declared.Object.{Object}
use Rattle.object.specs.Row.{dead}
use Rattle.object.specs.Soundness.{sound_row}
use Rattle.object.specs.Tokens.{slots}
use Rattle.tables.specs.Tables.{sound_objects}
use Rattle.object_list.proofs.rows_sound.Goals as goal

sound_to : (ys : List Object) (n : ℕ) → n ≤ length ys → list_all sound_row (take n ys) ≡ all n (λ i. sound_row (get_or ys i dead))
sound_to ys zero h = sym (all_none _)
sound_to ys (suc n) h =
    let sound_at = λ (i : ℕ). sound_row (get_or ys i dead) in
    let e = list_all_more sound_row ys n dead (omega arith)
    ∙ ap (λ (b : Bool). b && sound_at n) (sound_to ys n (omega arith)) ∙ sym (all_step sound_at n) in
    rw add-one at e

sound_list : (ys : List Object) → length ys ≡ slots → list_all sound_row ys ≡ sound_objects ys
sound_list ys len =
    ap (list_all sound_row) (sym (take_all slots ys (omega arith))) ∙ sound_to ys slots (omega arith) ∙ rw (eq-eqb (length ys) slots len)

pub returns : goal.returns
returns c =
    let ys = c.args.objects.now in
    all_from_yields_List sound_row _ _ c.all.result c.all.ensures.ran (YieldsList-from_slice ys cc) (λ x b q k. search (rules, tests))
    ∙ sound_list ys (omega arith)
