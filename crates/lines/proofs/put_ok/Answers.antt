-- `lines::put_ok` meets its contract: word after word, with a byte between each and the next, and the newline.
-- Assumes nothing.
use mathlib.Core.List.{[], ◌∷◌}
use Rattle.digits.specs.Digits.{decimal, warps}
use Rattle.lines.proofs.Stores.{begin, next, ends}
use Rattle.lines.proofs.Lines.{ok_line}
use Rattle.lines.proofs.put_ok.Goals as goal

pub returns : goal.returns
returns c =
    let a = c.args in
    let number = next (begin a.line.now 0) (decimal a.n) c.put_number-at.ensures in
    let said = next number (32 ∷ 111 ∷ 107 ∷ 32 ∷ []) c.put_word-at.ensures in
    let value = next said (decimal a.a.value) c.put_number-at-2.ensures in
    let done = next value (32 ∷ c.flag_of.result ∷ 32 ∷ []) c.put_word-at-2.ensures in
    let released = next done (warps a.a.released) c.put_set-at.ensures in
    ends (next released (10 ∷ []) c.put_word.ensures) (rw c.flag_of.ensures (ok_line a.n a.a))
