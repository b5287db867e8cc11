-- What laying the whole text of a trace promises.
-- Assumes nothing.
use Rattle.std.specs.Prelude.{◌≡◌, List, ℕ, length, take, drop}
use Rattle.io.specs.Counts.{IsPrefixLen}
use Rattle.trace_text.specs.Text.{text_of}

-- a buffer starts with the text of a trace
abbrev pub Holds : List ℕ → List ℕ → Type 0
Holds buf s = take (length (text_of s)) buf ≡ text_of s

-- laying the whole text of a trace: its length, and the buffer afterwards, the text at its start and the rest as it was.
-- `counts` and `text` follow from the others: they say of the length what a caller needs that cuts the text out
pub record LaysWhole (s before : List ℕ) (r : ℕ) (after : List ℕ) : Type 0 where
  pub size : r ≡ length (text_of s)
  pub holds : Holds after s
  pub rest : drop r after ≡ drop r before
  pub counts : IsPrefixLen r after
  pub text : take r after ≡ text_of s
