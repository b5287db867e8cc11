-- `digits::put_decimal` meets its contract: the digits that are spelled are the number's.
-- Assumes nothing.
use mathlib.Core.Path.{sym, ap, ◌∙◌}
use Rattle.fields.specs.Num.{laid}
use Rattle.digits.proofs.Digits.{one_place, spelled, length_decimal}
use Rattle.digits.proofs.put_decimal.Goals as goal

-- one digit
pub returns-then-n-lt10 : goal.returns-then-n-lt10
returns-then-n-lt10 c =
    let a = c.args in
    let one = one_place a.n c.if-n-lt10.true in (
      one ∙ sym (length_decimal a.n),
      c.spell.ensures ∙ ap (laid a.out.now a.at) (spelled a.n 1 one),
    )

-- more, as many as were counted
pub returns : goal.returns
returns c =
    let a = c.args in (
      c.places_of-k.ensures ∙ sym (length_decimal a.n),
      c.spell-2.ensures ∙ ap (laid a.out.now a.at) (spelled a.n c.places_of-k.result c.places_of-k.ensures),
    )
