-- A law of what was written.
-- Assumes nothing.
use mathlib.Core.Path.{◌≡◌, ap, ◌∙◌}
use mathlib.Core.Bool.{Bool, true, false, cond, ◌&&◌}
use Prim.Native.Nat.{ℕ, ◌-◌}
use Rattle.answering.specs.declared.output.Written.{Written}
use Rattle.answering.specs.Answers.{next, one_more, failed, plus_file}

-- what was written for the arguments before i, and for i after them: where all was, that is one file more
module _ (count i : ℕ) (w r : Written) (input : w.input ≡ false) (files : w.files ≡ i - 1) (so : w.all ≡ true) (e : r ≡ plus_file w r.all) where
  pub one_more_lem : r.all ≡ true → (r.input ≡ false) × (r.files ≡ next (i - 1))
  one_more_lem t =
      let k : r ≡ one_more w = e ∙ (λ j. cond (so j && t j) (one_more w) (failed w)) in
      (ap (λ (v : Written). v.input) k ∙ input, ap (λ (v : Written). v.files) k ∙ ap next files)
