-- `fields::rest` meets its contract: the part from a place on is what the place drops, and past the end that is nothing.
-- Assumes nothing.
use Prim.Native.Nat.{ℕ, ◌+◌, ◌-◌, ◌≤◌, ◌<◌}
use mathlib.Core.Path.{◌≡◌, refl, sym, ap, ◌∙◌}
use mathlib.Core.List.{List, []}
use native.Mathlib.Omega.{arith}
use denote.Bor.{Bor}
use lib.ListN.{length, drop, length-drop, drop_of_length-le}
use lib.Seq.{take_all}
use Rattle.std.specs.Prelude.{◌⊎◌, Option, Some, None, MatchOption, slice_range}
use Rattle.std.specs.Option.{unwrap_or}
use Rattle.fields.proofs.rest.Goals as goal

-- the part from a place on, or nothing
part : (s : List ℕ) (at : ℕ) (o : Option (Bor (List ℕ))) (d : Bor (List ℕ)) → d.now ≡ []
    → MatchOption o ((length s < at) ⊎ (length s < length s)) (λ x. (at ≤ length s) × (length s ≤ length s) × (x.now ≡ slice_range s at (length s)) × (length x.now + at ≡ length s))
    → (unwrap_or o d).now ≡ drop at s
part s at None d e m = e ∙ sym (drop_of_length-le s {i = at} (omega arith))
part s at (Some x) d e m = m.2 ∙ take_all (length s - at) (drop at s) (simp length-drop (omega arith))

pub returns : goal.returns
returns c =
    let a = c.args in
    ap (λ (b : Bor (List ℕ)). b.now) c.unwrap_or.ensures ∙ part a.s.now a.at c.get.result _ refl c.get.ensures.lookup.0
