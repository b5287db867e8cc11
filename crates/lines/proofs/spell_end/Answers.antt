-- `lines::spell_end` meets its contract: word after word, with a byte between each and the next, and the newline.
-- Assumes nothing.
use mathlib.Core.List.{[], ◌∷◌}
use Rattle.digits.specs.Digits.{decimal}
use Rattle.lines.proofs.Stores.{begin, next, ends}
use Rattle.lines.proofs.Lines.{end_line}
use Rattle.lines.proofs.spell_end.Goals as goal

pub returns : goal.returns
returns c =
    let a = c.args in
    let said = next (begin a.line.now 0) (101 ∷ 110 ∷ 100 ∷ 32 ∷ []) c.put_word-at.ensures in
    let accepted = next said (decimal c.from.result) c.put_number-at.ensures in
    let apart = next accepted (32 ∷ []) c.put_word-at-2.ensures in
    let refused = next apart (decimal c.from-2.result) c.put_number-at-2.ensures in
    ends (next refused (10 ∷ []) c.put_word.ensures) (rw (c.from.ensures, c.from-2.ensures) (end_line a.accepted a.refused))
