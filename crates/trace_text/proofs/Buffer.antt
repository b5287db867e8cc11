-- Laws about lines laid into a buffer.
-- Assumes nothing.
use mathlib.Core.Path.{◌≡◌, refl, sym, ap, ◌∙◌}
use mathlib.Core.Bool.{Bool, true, false}
use mathlib.Core.List.{List, [], ◌∷◌, ◌++◌}
use Prim.Native.Nat.{ℕ, ◌+◌}
use native.Mathlib.Omega.{arith}
use borrow.Author.Tests.{leb-true, leb-false}
use lib.Dec.{leb}
use lib.ListN.{length, length-append}
use lib.Seq.{sets, length-sets}
use Rattle.fields.specs.Num.{laid}
use Rattle.fields.proofs.Num.{laid_fits, laid_short}
use Rattle.lines.proofs.Stores.{sets_append}
use Rattle.trace_text.specs.Text.{joined}
use Rattle.trace_text.specs.Buffer.{laid_lines, LaidAsOne, NoneAfter}

-- bytes laid in keep the length
pub laid_length : (out : List ℕ) (at : ℕ) (bs : List ℕ) → length (laid out at bs) ≡ length out
laid_length out at bs = within (leb (at + length bs) (length out)) refl
  where
    within : (b : Bool) → leb (at + length bs) (length out) ≡ b → length (laid out at bs) ≡ length out
    within true e = ap length (sym (laid_fits out at bs (leb-true (at + length bs) (length out) e))) ∙ length-sets out at bs
    within false e = ap length (sym (laid_short out at bs (leb-false (at + length bs) (length out) e)))

pub laid_as_one : LaidAsOne
laid_as_one out at [] h = laid_fits out at [] (omega arith)
laid_as_one out at (w ∷ ws) h =
    let rest = joined ws in
    let both = length-append w rest in
    let one = laid_fits out at w (omega arith) in
    laid_as_one (laid out at w) (at + length w) ws (omega (arith, laid_length out at w))
    ∙ sym (laid_fits (laid out at w) (at + length w) rest (omega (arith, laid_length out at w)))
    ∙ ap (λ (o : List ℕ). sets o (at + length w) rest) (sym one)
    ∙ sets_append out at (at + length w) w rest refl
    ∙ laid_fits out at (w ++ rest) (omega arith)

pub none_after : NoneAfter
none_after out at w [] h = sym (laid_short out at w h)
none_after out at w (x ∷ ws) h =
    ap (λ (o : List ℕ). laid_lines o (at + length w) (x ∷ ws)) (sym (laid_short out at w h)) ∙ none_after out (at + length w) x ws (omega arith)
