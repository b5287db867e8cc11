-- The fields of a body, place by place, and that one more field read changes nothing in what the kind says.
-- Assumes nothing.
use mathlib.Core.Path.{◌≡◌, sym, ap, ◌∙◌}
use mathlib.Core.List.{List, [], ◌∷◌, ◌++◌}
use Prim.Native.Nat.{ℕ, suc, ◌+◌, ◌<◌}
use native.Mathlib.Decide.{dec_lt}
use native.Mathlib.Omega.{arith}
use lib.ListN.{length, drop, length-append, get_or-eq_default}
use lib.Seq.{append_snoc, drop-cons, drop-drop}
use Rattle.fields.specs.Num.{num}
use Rattle.fields.specs.Row.{decode}
use Rattle.steps.specs.Step.{op_of, row}
use Rattle.steps.specs.Fields.{width, op_with}

-- a field's place behind another's
pub onward : (n at : ℕ) (s : List ℕ) → drop n (drop at s) ≡ drop (at + n) s
onward n at s = drop-drop n at s

-- one field more is read: it is the next among those that stand in the bytes
module _ (k : ℕ) (vs s : List ℕ) (at n x : ℕ) where
  pub one_more_lem : width k (length vs) ≡ n → 0 < n → x ≡ num n (drop at s) → op_with k (vs ++ (x ∷ [])) (drop (at + n) s) ≡ op_with k vs (drop at s)
  one_more_lem ew pos ex =
      let i = length vs in
      let l = drop at s in
      let inside : i < length (row k) = go (dec_lt i (length (row k))) in
      let el : suc i ≡ length (vs ++ (x ∷ [])) = omega (arith, length-append vs (x ∷ [])) in
      let e : decode (drop i (row k)) l ≡ x ∷ decode (drop (length (vs ++ (x ∷ []))) (row k)) (drop (at + n) s) =
      ap (λ (ws : List ℕ). decode ws l) (drop-cons (row k) i 0 inside)
      ∙ (λ j. num (ew j) l ∷ decode (drop (el j) (row k)) (drop (ew j) l))
      ∙ (λ j. sym ex j ∷ decode (drop (length (vs ++ (x ∷ []))) (row k)) (drop-drop n at s j)) in
      ap (op_of k) (append_snoc vs x (decode (drop (length (vs ++ (x ∷ []))) (row k)) (drop (at + n) s)) ∙ ap (λ (r : List ℕ). vs ++ r) (sym e))
    where
      go : Dec (length vs < length (row k)) → length vs < length (row k)
      go (yes h) = h
      go (no g) = absurd (omega (arith, get_or-eq_default (row k) 0 {n = length vs} (omega arith)))
