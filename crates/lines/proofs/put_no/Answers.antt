-- `lines::put_no` meets its contract: word after word, and the newline.
-- Assumes nothing.
use mathlib.Core.List.{[], ◌∷◌}
use Rattle.digits.specs.Digits.{decimal}
use Rattle.lines.proofs.Stores.{begin, next, ends}
use Rattle.lines.proofs.Lines.{no_line}
use Rattle.lines.proofs.put_no.Goals as goal

pub returns : goal.returns
returns c =
    let a = c.args in
    let number = next (begin a.line.now 0) (decimal a.n) c.put_number-at.ensures in
    let said = next number (32 ∷ 110 ∷ 111 ∷ 32 ∷ []) c.put_word-at.ensures in
    let refused = next said (decimal c.from.result) c.put_number-at-2.ensures in
    ends (next refused (10 ∷ []) c.put_word.ensures) (rw (c.from.ensures, c.number.ensures) (no_line a.n a.refusal))
